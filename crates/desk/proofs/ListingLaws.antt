-- A range in parts: every part that names a key begins above the one before, so the parts end, and the turns allowed for them suffice.
--   PartFacts s low high p == what is known of a part that replied p, on any words
--   left_at high more       == how many keys are left from the first one not written
--   survey_rest s high n p  == what the survey gives after n records, the last part among them having replied p
use mathlib.Core.Path.{◌≡◌, refl, sym, ap, ◌∙◌, subst}
use mathlib.Core.Bool.{true, false}
use mathlib.Core.List.{List, [], ◌++◌}
use Prim.Native.Nat.{ℕ, zero, suc, ◌+◌, ◌-◌, ◌*◌, ◌/◌, ◌≤◌, ◌<◌}
use native.Mathlib.Decide.{ℕ_discrete}
use native.Mathlib.Omega.{arith}
use lib.Dec.{eqb}
use lib.ListN.{length, replicate}
use borrow.Author.Tests.{eq-eqb, ne_eqb, eqb-false}
use Rattle.std.specs.Prelude.{Option, Some, None, Result, Ok, Err}
use Rattle.lists.proofs.Cases.{by_cases}
use Rattle.lines.specs.declared.Kind.TheVariants as kinds
use Rattle.lines.specs.declared.Reply.TheVariants.{Refused, SetUpLine}
use Rattle.lines.specs.Request.{kind_number}
use Rattle.store.specs.declared.Format.TheVariants.{Plots}
use Rattle.store.specs.Format.{words}
use Rattle.store.specs.Head.{word, head_of}
use Rattle.scan.specs.Range.{RangeReply, range_refused, range_of}
use Rattle.scan.proofs.Promises.{range_rule, range_more, range_onward}
use Rattle.desk.specs.declared.Listing.{Listing}
use Rattle.desk.specs.Listing.{part_records, part_of, counted, survey_of, survey_from, surveyed, listing_after}
use Rattle.desk.specs.declared.Outcome.TheVariants.{Line, Parts, Register}
use Rattle.desk.specs.Listing.{part_lines, carried_from, carried}
use Rattle.desk.specs.Transcript.{listing, opened_by, opened, largest_key, dumped_by, dumped}

pub record PartFacts (low high : ℕ) (p : RangeReply) : Type 0 where
  pub few : p.count ≤ part_records
  pub within : p.number ≡ 0 → low - 1 + p.count ≤ high
  pub none : (p.number ≡ 0 → ⊥) → (p.count ≡ 0) × (p.more ≡ 0)
  pub more : p.more ≤ high
  pub onward : (p.more ≡ 0 → ⊥) → (low - 1 + p.count < p.more) × (low < p.more)
  pub full : (p.more ≡ 0 → ⊥) → p.count ≡ part_records

-- a range that is lent room for as many records
pub range_facts : (s : List ℕ) (low high : ℕ) (out : List ℕ) → length out / words Plots ≡ part_records
    → PartFacts low high (range_of Plots s low high out).reply
range_facts s low high out room =
    let step = range_onward Plots s (head_of s) low high (length out / words Plots) in
    record {
      few = range_rule (λ a. a.reply.count ≤ part_records) Plots s low high out (λ n i. omega arith)
          (λ l k. omega (arith, (step l).0));
      within = range_rule (λ a. a.reply.number ≡ 0 → low - 1 + a.reply.count ≤ high) Plots s low high out (λ n i z. absurd (i z))
          (λ l k z. (step l).1);
      none = range_rule (λ a. (a.reply.number ≡ 0 → ⊥) → (a.reply.count ≡ 0) × (a.reply.more ≡ 0)) Plots s low high out
          (λ n i z. (refl, refl)) (λ l k z. absurd (z refl));
      more = range_more Plots s low high out;
      onward = range_rule
          (λ a. (a.reply.more ≡ 0 → ⊥) → (low - 1 + a.reply.count < a.reply.more) × (low < a.reply.more)) Plots s low high out
          (λ n i z. absurd (z refl))
          (λ l k z. let o = (step l).2 z in (o.0, omega (arith, o.0, o.1)));
      full = range_rule (λ a. (a.reply.more ≡ 0 → ⊥) → a.reply.count ≡ part_records) Plots s low high out (λ n i z. absurd (z refl))
          (λ l k z. ((step l).2 z).1 ∙ room);
    }

pub part_room : length {A = ℕ} (replicate (4 * part_records) 0) / words Plots ≡ part_records
unfolding words
part_room = refl

pub part_facts : (s : List ℕ) (low high : ℕ) → PartFacts low high (part_of s low high).reply
unfolding part_of
part_facts s low high = range_facts s low high (replicate (4 * part_records) 0) part_room

pub piece_facts : (s : List ℕ) (low high : ℕ) {p : RangeReply} → p ≡ (part_of s low high).reply → PartFacts low high p
piece_facts s low high e = subst (PartFacts low high) (sym e) (part_facts s low high)

-- the records of the parts so far, with those of the next one
pub count_fits : {n low high : ℕ} {q : RangeReply} → n < low → low ≤ high → PartFacts low high q → n + q.count ≤ high
count_fits {q = q} h l f =
    elim (ℕ_discrete q.number 0) [
      | yes e ↦ let w = f.within e in omega arith
      | no e ↦ let w = f.none e in omega (arith, w.0)
    ]

pub count_below : {n low high : ℕ} {q : RangeReply} → n < low → PartFacts low high q → (q.more ≡ 0 → ⊥) → n + q.count < q.more
count_below h f e = let o = f.onward e in omega (arith, o.0)

-- the survey

pub survey_done : (p : RangeReply) (n : ℕ) → p.number ≡ 0 → survey_of p n ≡ Ok n
unfolding survey_of
survey_done p n e = rw (eq-eqb p.number 0 e, survey_of)

survey_refused : (p : RangeReply) (n : ℕ) → (p.number ≡ 0 → ⊥) → survey_of p n ≡ Err p.number
unfolding survey_of
survey_refused p n e = rw (ne_eqb p.number 0 e, survey_of)

counted_survey : (n m : ℕ) (p : RangeReply) → counted n (survey_of p m) ≡ survey_of p (n + m)
counted_survey n m p =
    elim (ℕ_discrete p.number 0) [
      | yes e ↦ rw (survey_done p m e, survey_done p (n + m) e)
      | no e ↦ rw (survey_refused p m e, survey_refused p (n + m) e)
    ]

counted_twice : (n m : ℕ) (a : Result ℕ ℕ) → counted n (counted m a) ≡ counted (n + m) a
counted_twice n m (Ok count) = ap (λ (c : ℕ). Ok c) (omega arith)
counted_twice n m (Err number) = refl

module _ (s : List ℕ) (high : ℕ) where
  unfoldable pub survey_rest : ℕ → RangeReply → Result ℕ ℕ
  survey_rest n p = elim (eqb p.more 0) [ true ↦ survey_of p n | false ↦ counted n (surveyed s p.more high) ]

  -- enough turns give the same
  same_survey : (m n low : ℕ) → high - low < m → high - low < n → survey_from m s low high ≡ survey_from n s low high
  unfolding survey_from
  same_survey zero n low a b = absurd (omega arith)
  same_survey (suc m) zero low a b = absurd (omega arith)
  same_survey (suc m) (suc n) low a b =
      let p = (part_of s low high).reply in
      let f = part_facts s low high in
      by_cases (eqb p.more 0)
      (λ e. rw (e, survey_from))
      (λ e.
      let o = f.onward (eqb-false p.more 0 e) in
      let g = f.more in
      rw (e, survey_from) (ap (counted p.count) (same_survey m n p.more (omega arith) (omega arith))))

  pub survey_turn : (low : ℕ) → surveyed s low high ≡ survey_rest (part_of s low high).reply.count (part_of s low high).reply
  unfolding surveyed survey_from survey_rest
  survey_turn low =
      let p = (part_of s low high).reply in
      let f = part_facts s low high in
      by_cases (eqb p.more 0)
      (λ e. rw (e, survey_from, survey_rest))
      (λ e.
      let o = f.onward (eqb-false p.more 0 e) in
      let g = f.more in
      rw (e, survey_from, survey_rest)
      (ap (counted p.count) (same_survey (high - low) (suc (high - p.more)) p.more (omega arith) (omega arith))))

  rest_next : (n : ℕ) (p : RangeReply) → (p.more ≡ 0 → ⊥)
      → let q = (part_of s p.more high).reply in survey_rest n p ≡ survey_rest (n + q.count) q
  unfolding survey_rest
  rest_next n p h =
      let q = (part_of s p.more high).reply in
      rw (ne_eqb p.more 0 h, survey_rest, survey_turn p.more)
      (by_cases (eqb q.more 0)
      (λ z. rw (z, survey_rest) (counted_survey n q.count q))
      (λ z. rw (z, survey_rest) (counted_twice n q.count (surveyed s q.more high))))

  pub rest_turn : (n : ℕ) (p q : RangeReply) → (p.more ≡ 0 → ⊥) → q ≡ (part_of s p.more high).reply
      → survey_rest n p ≡ survey_rest (n + q.count) q
  rest_turn n p q h e = rest_next n p h ∙ ap (λ (r : RangeReply). survey_rest (n + r.count) r) (sym e)

  pub rest_more : (n : ℕ) (p : RangeReply) → (p.more ≡ 0 → ⊥) → survey_rest n p ≡ counted n (surveyed s p.more high)
  unfolding survey_rest
  rest_more n p h = rw (ne_eqb p.more 0 h, survey_rest)

  pub rest_done : (n : ℕ) (p : RangeReply) → p.more ≡ 0 → survey_rest n p ≡ survey_of p n
  unfolding survey_rest
  rest_done n p e = rw (eq-eqb p.more 0 e, survey_rest)

-- a call that is refused ends it
pub rest_refused : (s : List ℕ) (high n m : ℕ) (p : RangeReply) → (m ≡ 0 → ⊥) → (p.more ≡ 0 → ⊥)
    → (part_of s p.more high).reply ≡ range_refused m → survey_rest s high n p ≡ Err m
rest_refused s high n m p nonzero h r =
    let number = ap (λ (a : RangeReply). a.number) r in
    rest_turn s high n p _ h refl ∙ rest_done s high _ _ (ap (λ (a : RangeReply). a.more) r)
    ∙ survey_refused _ _ (λ z. nonzero (sym number ∙ z)) ∙ ap (λ (i : ℕ). Err i) number

unfoldable pub left_at : ℕ → ℕ → ℕ
left_at high more = elim (eqb more 0) [ true ↦ 0 | false ↦ suc (high - more) ]

left_more : (high more : ℕ) → (more ≡ 0 → ⊥) → left_at high more ≡ suc (high - more)
unfolding left_at
left_more high more h = rw (ne_eqb more 0 h, left_at)

pub left_falls : (low high : ℕ) (q : RangeReply) → (low ≡ 0 → ⊥) → low ≤ high → PartFacts low high q → left_at high q.more < left_at high low
unfolding left_at
left_falls low high q h l f =
    elim (ℕ_discrete q.more 0) [
      | yes e ↦ rw (ne_eqb low 0 h, eq-eqb q.more 0 e, left_at) (omega arith)
      | no e ↦ let o = f.onward e in let g = f.more in rw (left_more high low h, left_more high q.more e) (omega arith)
    ]

-- a survey that is not refused is a range listed, or the register with its sizes; a refused one is a line
module _ (s : List ℕ) (low high n : ℕ) (a : Result ℕ ℕ) (e : a ≡ surveyed s low high) where
  pub opened_parts : a ≡ Ok n → Parts (listing false low high n) ≡ opened s low high
  unfolding opened
  opened_parts is = ap (opened_by low high) (sym is ∙ e)

  pub opened_refused : a ≡ Err n → Line (Refused (kind_number kinds.Range) n) ≡ opened s low high
  unfolding opened
  opened_refused is = ap (opened_by low high) (sym is ∙ e)

module _ (s : List ℕ) (n : ℕ) (a : Result ℕ ℕ) (e : a ≡ surveyed s 1 largest_key) where
  pub dumped_register : a ≡ Ok n → {θ C N P : ℕ} → θ ≡ word s 0 → C ≡ word s 1 → N ≡ word s 2 → P ≡ word s 3
      → Register (SetUpLine θ C N P) (listing true 1 largest_key n) ≡ dumped s
  unfolding dumped head_of
  dumped_register is i j k l = rw (i, j, k, l) (ap (dumped_by (head_of s)) (sym is ∙ e))

  pub dumped_refused : a ≡ Err n → Line (Refused (kind_number kinds.Dump) n) ≡ dumped s
  unfolding dumped
  dumped_refused is = ap (dumped_by (head_of s)) (sym is ∙ e)

-- the first call is refused
module _ (s : List ℕ) (low high n : ℕ) (nonzero : n ≡ 0 → ⊥) (r : (part_of s low high).reply ≡ range_refused n) where
  pub survey_first : surveyed s low high ≡ Err n
  survey_first =
      let number = ap (λ (a : RangeReply). a.number) r in
      survey_turn s high low ∙ rest_done s high _ _ (ap (λ (a : RangeReply). a.more) r)
      ∙ survey_refused _ _ (λ z. nonzero (sym number ∙ z)) ∙ ap (λ (i : ℕ). Err i) number

  pub first_refused : Line (Refused (kind_number kinds.Range) n) ≡ opened s low high
  first_refused = opened_refused s low high n _ refl survey_first

pub dump_refused : (s : List ℕ) (n : ℕ) → (n ≡ 0 → ⊥) → (part_of s 1 largest_key).reply ≡ range_refused n
    → Line (Refused (kind_number kinds.Dump) n) ≡ dumped s
dump_refused s n nonzero r = dumped_refused s n _ refl (survey_first s 1 largest_key n nonzero r)

-- the parts

pub after_last : (s : List ℕ) (l : Listing) → (part_of s l.at l.high).reply.more ≡ 0 → listing_after s l ≡ None
unfolding listing_after
after_last s l e = rw (eq-eqb _ 0 e, listing_after)

pub after_more : (s : List ℕ) (l : Listing) → ((part_of s l.at l.high).reply.more ≡ 0 → ⊥)
    → listing_after s l
    ≡ Some (record { dump = l.dump; at = (part_of s l.at l.high).reply.more; high = l.high; count = l.count })
unfolding listing_after
after_more s l e = rw (ne_eqb _ 0 e, listing_after)

none_from : (s : List ℕ) (m : ℕ) → carried_from m s None ≡ []
unfolding carried_from
none_from s zero = refl
none_from s (suc m) = refl

pub none_carried : (s : List ℕ) (l : Option Listing) → l ≡ None → carried s l ≡ []
unfolding carried
none_carried s l e = rw e

-- enough turns give the same
module _ (s : List ℕ) (m n : ℕ) (l : Listing)
    (ih : (k : Listing) → k.high - k.at < m → k.high - k.at < n → carried_from m s (Some k) ≡ carried_from n s (Some k))
    (a : l.high - l.at ≤ m) (b : l.high - l.at ≤ n) where
  same_after : carried_from m s (listing_after s l) ≡ carried_from n s (listing_after s l)
  same_after =
      let p = (part_of s l.at l.high).reply in
      let f = part_facts s l.at l.high in
      elim (ℕ_discrete p.more 0) [
        | yes e ↦ rw (after_last s l e) (none_from s m ∙ sym (none_from s n))
        | no e ↦ let o = f.onward e in let g = f.more in rw (after_more s l e) (ih _ (omega arith) (omega arith))
      ]

same_carried : (s : List ℕ) (m n : ℕ) (l : Listing) → l.high - l.at < m → l.high - l.at < n
    → carried_from m s (Some l) ≡ carried_from n s (Some l)
unfolding carried_from
same_carried s zero n l a b = absurd (omega arith)
same_carried s (suc m) zero l a b = absurd (omega arith)
same_carried s (suc m) (suc n) l a b =
    ap (λ r. part_lines s l ++ r) (same_after s m n l (λ k c d. same_carried s m n k c d) (omega arith) (omega arith))

enough_after : (s : List ℕ) (l : Listing) → carried_from (l.high - l.at) s (listing_after s l) ≡ carried s (listing_after s l)
unfolding carried
enough_after s l =
    let p = (part_of s l.at l.high).reply in
    let f = part_facts s l.at l.high in
    elim (ℕ_discrete p.more 0) [
      | yes z ↦ rw (after_last s l z) (none_from s (l.high - l.at))
      | no z ↦
          let o = f.onward z in
          let g = f.more in
          rw (after_more s l z) (same_carried s (l.high - l.at) (suc (l.high - p.more)) _ (omega arith) (omega arith))
    ]

pub carried_turn : (s : List ℕ) (l : Listing) → carried s (Some l) ≡ part_lines s l ++ carried s (listing_after s l)
unfolding carried carried_from
carried_turn s l = ap (λ r. part_lines s l ++ r) (enough_after s l)
