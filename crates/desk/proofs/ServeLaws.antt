-- Serving bytes: a line is gathered, answered at its byte 0A, and what is put and what is left to be written make up what was to be
-- written.
use mathlib.Core.Path.{◌≡◌, refl, sym, ap, ◌∙◌}
use mathlib.Core.Bool.{Bool, true, false, not, cond, ◌||◌, false≢true}
use mathlib.Core.List.{List, [], ◌∷◌, ◌++◌, append_assoc, append-nil}
use mathlib.Core.Logic.{◌⊎◌, inl, inr}
use Prim.Native.Nat.{ℕ, suc, ◌+◌, ◌-◌, ◌^◌, ◌≤◌, ◌<◌, min}
use native.Mathlib.Decide.{dec_le, ℕ_discrete}
use native.Mathlib.Numerals.{add-one}
use native.Mathlib.Omega.{arith}
use lib.Dec.{leb, ltb, eqb}
use lib.ListN.{length, take, drop, length-append, length-take, length-drop}
use lib.Seq.{drop-drop, take_all, drop-length, take_at, drop_at, take-append-add}
use borrow.Author.Tests.{eqb-true, ltb-true, ltb-false, leb-true, leb-false}
use Rattle.lists.proofs.Cases.{by_cases}
use Rattle.lists.proofs.Tests.{and_true}
use Rattle.std.specs.Prelude.{Option, Some, None, is_some, unwrap_or, nat_eq}
use Rattle.std.specs.List.{position_or_len}
use Rattle.lines.specs.declared.Reply.{Reply}
use Rattle.lines.specs.declared.Reply.TheVariants.{WrongLine}
use Rattle.lines.specs.Request.{parsed}
use Rattle.lines.specs.Reply.{line_feed, reply_line, written}
use Rattle.lines.proofs.RequestLaws.{parsed_wrong}
use Rattle.desk.specs.declared.Desk.{Desk}
use Rattle.desk.specs.declared.Listing.{Listing}
use Rattle.desk.specs.declared.Progress.{Progress}
use Rattle.desk.specs.declared.Outcome.{Outcome}
use Rattle.desk.specs.declared.Outcome.TheVariants.{Line, Parts, Register}
use Rattle.desk.specs.Listing.{part_bytes, part_of, carried, part_lines, listing_after}
use Rattle.desk.specs.Transcript.{answered_line, outcome_bytes, Served, before, ending, served}
use Rattle.desk.specs.Serving.{line_of, rest_of, until_feed, kept_line, goes_on, to_do, GetsOn, Answers, Serves, Finishes}
use Rattle.desk.proofs.ListingLaws.{after_last, none_carried, carried_turn}
use Rattle.desk.proofs.LineLaws.{put_line, written_within}
use Rattle.desk.proofs.PartLaws.{lines_some}

-- the first byte 0A

abbrev pub feed : ℕ → Bool
feed b = nat_eq b line_feed

pub until_first : (bs : List ℕ) → (until_feed bs ≡ position_or_len feed bs) × (position_or_len feed bs ≤ length bs)
unfolding until_feed
until_first [] = (refl, omega arith)
until_first (b ∷ bs) =
    let n : ℕ = position_or_len feed bs in
    let r = until_first bs in
    let e : suc n ≡ 1 + n = omega arith in
    elim (eqb b line_feed) as (λ v.
    (◌≡◌ {A = ℕ} (elim v [ true ↦ 0 | false ↦ suc (until_feed bs) ]) (cond (not v) (1 + n) 0)) × (cond (not v) (1 + n) 0 ≤ length (b ∷ bs))) [
      | true ↦ (refl, omega arith)
      | false ↦ (ap suc r.0 ∙ e, omega (arith, r.1))
    ]

pub until_found : (bs : List ℕ) (o : Option ℕ)
    → o ≡ cond (ltb (position_or_len feed bs) (length bs)) (Some (position_or_len feed bs)) None
    → (unwrap_or o (length bs) ≡ until_feed bs) × (unwrap_or o (length bs) ≤ length bs)
until_found bs o e =
    let r = until_first bs in
    let n : ℕ = position_or_len feed bs in
    let w : unwrap_or o (length bs) ≡ n =
    ap (λ (q : Option ℕ). unwrap_or q (length bs)) e
    ∙ by_cases (ltb n (length bs)) (λ t. rw t) (λ t. rw t (omega (arith, r.1, ltb-false n (length bs) t))) in
    (w ∙ sym r.0, omega (arith, w, r.1))

until_within : (bs : List ℕ) → until_feed bs ≤ length bs
unfolding until_feed
until_within [] = omega arith
until_within (b ∷ bs) =
    by_cases (eqb b line_feed) (λ e. rw (e, until_feed) (omega arith)) (λ e. rw (e, until_feed) (omega (arith, until_within bs)))

pub feed_at : (bs : List ℕ) → (until_feed bs ≡ length bs → ⊥) → drop (until_feed bs) bs ≡ line_feed ∷ drop (suc (until_feed bs)) bs
unfolding until_feed
feed_at [] h = absurd (h refl)
feed_at (b ∷ bs) h =
    by_cases (eqb b line_feed)
    (λ e. rw (e, until_feed) (ap (λ (x : ℕ). x ∷ bs) (eqb-true b line_feed e)))
    (λ e. rw (e, until_feed) (feed_at bs (λ z. h (rw (e, until_feed) (ap suc z)))))

-- what is served

pub served_until : (s line bs more : List ℕ)
    → served s line (bs ++ more) ≡ served s (line ++ take (until_feed bs) bs) (drop (until_feed bs) bs ++ more)
unfolding served until_feed
served_until s line [] more = rw (append-nil line)
served_until s line (b ∷ bs) more =
    by_cases (eqb b line_feed)
    (λ e. rw (e, until_feed) (rw (append-nil line)))
    (λ e.
    rw (e, until_feed, served)
    (served_until s (line ++ b ∷ []) bs more
    ∙ ap (λ (l : List ℕ). served s l (drop (until_feed bs) bs ++ more)) (append_assoc line (b ∷ []) (take (until_feed bs) bs))))

served_feed : (s line bs : List ℕ)
    → let a = answered_line s (parsed line) in
    served s line (line_feed ∷ bs) ≡ before (outcome_bytes a.words a.outcome) (served a.words [] bs)
unfolding served
served_feed s line bs = refl

-- a line that is too long is wrong, whatever it is

parsed_long : (l : List ℕ) → 43 ≤ length l → parsed l ≡ None
parsed_long l h = parsed_wrong l (λ f. omega (arith, f.whole))

ending_long : (l : List ℕ) → 43 ≤ length l → ending l ≡ reply_line WrongLine
unfolding ending
ending_long [] h = absurd (omega arith)
ending_long (b ∷ bs) h = refl

served_alike : (s l k bs : List ℕ) → 43 ≤ length l → 43 ≤ length k → served s l bs ≡ served s k bs
unfolding served
served_alike s l k [] a b = rw (ending_long l a, ending_long k b)
served_alike s l k (x ∷ bs) a b =
    by_cases (eqb x line_feed)
    (λ e. rw (e, served) (rw (parsed_long l a, parsed_long k b)))
    (λ e.
    rw (e, served)
    (served_alike s (l ++ x ∷ []) (k ++ x ∷ []) bs (omega (arith, length-append l (x ∷ []))) (omega (arith, length-append k (x ∷ [])))))

pub served_kept : (s l bs : List ℕ) → served s (kept_line l) bs ≡ served s l bs
unfolding kept_line
served_kept s l bs =
    elim (dec_le (length l) 43) [
      | yes h ↦ ap (λ (k : List ℕ). served s k bs) (take_all 43 l h)
      | no h ↦ served_alike s (take 43 l) l bs (simp length-take (omega arith)) (omega arith)
    ]

-- the bytes kept are put behind those of the line

take_least : (xs : List ℕ) (m n : ℕ) → n ≡ min (length xs) m → take n xs ≡ take m xs
take_least xs m n e =
    elim (dec_le (length xs) m) [
      | yes h ↦ take_all n xs (omega arith) ∙ sym (take_all m xs h)
      | no h ↦ let same : n ≡ m = omega arith in ap (λ (i : ℕ). take i xs) same
    ]

pub kept_behind : (line first bytes : List ℕ) (d held n : ℕ) → length first ≡ 43 → held ≡ min d 43 → n ≡ min (length bytes) (43 - held)
    → line ≡ take held first ++ (take n bytes ++ drop (held + n) first) → take (held + n) line ≡ kept_line (take d first ++ bytes)
unfolding kept_line
kept_behind line first bytes d held n l h m e =
    let X = take held first in
    let Y = take n bytes in
    let same : X ≡ take d first = take_least first d held (omega arith) in
    let len : length X ≡ held = simp length-take (omega arith) in
    let long : length Y ≡ n = simp length-take (omega arith) in
    let both : length (X ++ Y) ≡ held + n = length-append X Y ∙ omega (arith, len, long) in
    let all : 43 ≡ length X + (43 - held) = omega arith in
    ap (take (held + n)) (e ∙ sym (append_assoc X Y (drop (held + n) first))) ∙ take_at (X ++ Y) _ (held + n) both
    ∙ ap (λ (ys : List ℕ). X ++ ys) (take_least bytes (43 - held) n m) ∙ sym (take-append-add X bytes (43 - held))
    ∙ ap (λ (i : ℕ). take i (X ++ bytes)) (sym all) ∙ ap (λ (Y : List ℕ). take 43 (Y ++ bytes)) same

-- an answered line

module _ (s l t out out' : List ℕ) (n : ℕ) (o : Outcome) (p : Progress) (outcome : o ≡ (answered_line s (parsed l)).outcome)
    (words : t ≡ (answered_line s (parsed l)).words) (empty : line_of p.desk ≡ []) (taken : p.taken ≡ n) where
  -- a line, and then what the listing that is left still writes
  answers_put : (r : Reply) (rest : List ℕ) → outcome_bytes t o ≡ reply_line r ++ rest → 45 ≤ length out → p.put ≡ (written r out).count
      → out' ≡ (written r out).bytes → carried t p.desk.listing ≡ rest → Answers s l n out t out' p
  answers_put r rest e h c b left =
      let y = put_line (reply_line r) out out' p.put r refl h c b in
      let k : length (reply_line r) ≡ p.put = sym y.0 in
      let most : p.put ≤ length out = omega (arith, c, written_within r out) in
      record {
        words = words;
        says = ap (outcome_bytes t) (sym outcome) ∙ e
            ∙ ap (λ (xs : List ℕ). xs ++ rest) (sym (ap (take p.put) y.1 ∙ take_at (reply_line r) _ p.put k))
            ∙ ap (λ (ys : List ℕ). take p.put out' ++ ys) (sym left);
        empty = empty;
        taken = taken;
        put = most;
        long = ap length y.1 ∙ length-append (reply_line r) _ ∙ rw length-drop (omega arith);
        stays = ap (drop p.put) y.1 ∙ drop_at (reply_line r) _ p.put k;
      }

  pub answers_line : (r : Reply) → o ≡ Line r → 45 ≤ length out → p.put ≡ (written r out).count → out' ≡ (written r out).bytes
      → p.desk.listing ≡ None → Answers s l n out t out' p
  unfolding outcome_bytes
  answers_line r e h c b none =
      answers_put r [] (ap (outcome_bytes t) e ∙ sym (append-nil _)) h c b
      (none_carried t p.desk.listing none)

  pub answers_register : (r : Reply) (x : Listing) → o ≡ Register r x → 45 ≤ length out → p.put ≡ (written r out).count
      → out' ≡ (written r out).bytes → p.desk.listing ≡ Some x → Answers s l n out t out' p
  unfolding outcome_bytes
  answers_register r x e h c b same = answers_put r (carried t (Some x)) (ap (outcome_bytes t) e) h c b (ap (carried t) same)

  pub answers_parts : (x : Listing) → o ≡ Parts x → p.put ≡ 0 → out' ≡ out → p.desk.listing ≡ Some x → Answers s l n out t out' p
  unfolding outcome_bytes
  answers_parts x e c b same =
      record {
        words = words;
        says = ap (outcome_bytes t) (sym outcome ∙ e) ∙ ap (carried t) (sym same) ∙ rw c;
        empty = empty;
        taken = taken;
        put = omega arith;
        long = ap length b;
        stays = ap (drop p.put) b;
      }

-- what is served in one turn

pub before_twice : (xs ys : List ℕ) (a : Served) → before (xs ++ ys) a ≡ before xs (before ys a)
before_twice xs ys a = ap (λ (b : List ℕ). record { bytes = b; words = a.words }) (append_assoc xs ys a.bytes)

pub rest_quiet : (s : List ℕ) (d : Desk) (bs : List ℕ) → d.listing ≡ None → rest_of s d bs ≡ served s (line_of d) bs
unfolding rest_of
rest_quiet s d bs e = rw (none_carried s d.listing e)

module _ (s : List ℕ) (d next : Desk) (input : List ℕ) (n : ℕ) (quiet : d.listing ≡ None) (until : n ≡ until_feed input)
    (gathered : line_of next ≡ kept_line (line_of d ++ take n input)) where
  -- the line so far, with the bytes up to the end of it
  rest_gathered : (more : List ℕ) → rest_of s d (input ++ more) ≡ served s (line_of next) (drop n input ++ more)
  rest_gathered more =
      rest_quiet s d (input ++ more) quiet ∙ served_until s (line_of d) input more
      ∙ ap (λ (i : ℕ). served s (line_of d ++ take i input) (drop i input ++ more)) (sym until)
      ∙ sym (served_kept s (line_of d ++ take n input) (drop n input ++ more))
      ∙ ap (λ (l : List ℕ). served s l (drop n input ++ more)) (sym gathered)

  -- no line ends
  pub serves_gathered : (out : List ℕ) → n ≤ length input → next.listing ≡ d.listing
      → Serves s d input out s out (record { desk = next; taken = n; put = 0 })
  serves_gathered out h same =
      record {
        taken = h;
        put = omega arith;
        says = λ more. rest_gathered more ∙ sym (rest_quiet s next (drop n input ++ more) (same ∙ quiet));
        long = refl;
        stays = refl;
      }

  -- a line ends
  pub serves_answered : (out t out' : List ℕ) (r : Progress) → n < length input
      → Answers s (line_of next) (n + 1) out t out' r → Serves s d input out t out' r
  unfolding rest_of
  serves_answered out t out' r h a =
      let feed : drop n input ≡ line_feed ∷ drop (n + 1) input =
      ap (λ (i : ℕ). drop i input) until ∙ feed_at input (λ e. omega arith)
      ∙ ap (λ (i : ℕ). line_feed ∷ drop i input) (ap suc (sym until) ∙ sym (add-one n)) in
      record {
        taken = omega (arith, a.taken);
        put = a.put;
        says = λ more.
            rest_gathered more
            ∙ ap (λ (bs : List ℕ). served s (line_of next) (bs ++ more)) feed
            ∙ served_feed s (line_of next) (drop (n + 1) input ++ more)
            ∙ ap
            (λ (w : List ℕ). before (outcome_bytes w (answered_line s (parsed (line_of next))).outcome) (served w [] (drop (n + 1) input ++ more)))
            (sym a.words)
            ∙ ap (λ (bs : List ℕ). before bs (served t [] (drop (n + 1) input ++ more))) a.says
            ∙ before_twice (take r.put out') (carried t r.desk.listing) _
            ∙ ap (λ (l : List ℕ). before (take r.put out') (before (carried t r.desk.listing) (served t l (drop (n + 1) input ++ more))))
            (sym a.empty)
            ∙ ap (λ (i : ℕ). before (take r.put out') (rest_of t r.desk (drop i input ++ more))) (sym a.taken);
        long = a.long;
        stays = a.stays;
      }

-- a part of a listing
pub serves_part : (s : List ℕ) (d : Desk) (input out out' : List ℕ) (l : Listing) (left : Option Listing) (put : ℕ) → d.listing ≡ Some l
    → left ≡ listing_after s l → put ≡ length (part_lines s l) → length out' ≡ length out → out' ≡ part_lines s l ++ drop put out
    → Serves s d input out s out' (record { desk = record { line = d.line; held = d.held; listing = left }; taken = 0; put = put })
unfolding rest_of line_of
serves_part s d input out out' l left put is e len same o =
    let X = part_lines s l in
    let front : take put out' ≡ X = ap (take put) o ∙ take_at X _ put (sym len) in
    record {
      taken = omega arith;
      put = omega (arith, ap length o, length-append X (drop put out));
      says = λ more.
          ap (λ (bs : List ℕ). before bs (served s (take d.held d.line) (input ++ more))) (ap (carried s) is ∙ carried_turn s l)
          ∙ before_twice X (carried s (listing_after s l)) _
          ∙ ap (λ (bs : List ℕ). before bs (before (carried s (listing_after s l)) (served s (take d.held d.line) (input ++ more)))) (sym front)
          ∙ ap (λ (x : Option Listing). before (take put out') (before (carried s x) (served s (take d.held d.line) (input ++ more)))) (sym e);
      long = same;
      stays = ap (drop put) o ∙ drop_at X _ put (sym len);
    }

-- a turn gets on: input is taken, or lines are put, or the listing is at its end

abbrev flag : Bool → ℕ
flag b = elim b [ true ↦ 1 | false ↦ 0 ]

flag_most : (b : Bool) → flag b ≤ 1
flag_most true = omega arith
flag_most false = omega arith

to_do_most : (d : Desk) → to_do d ≤ 1
unfolding to_do
to_do_most d = flag_most (is_some d.listing)

to_do_one : (d : Desk) (l : Listing) → d.listing ≡ Some l → to_do d ≡ 1
unfolding to_do
to_do_one d l e = ap (λ (o : Option Listing). flag (is_some o)) e

to_do_none : (d : Desk) → d.listing ≡ None → to_do d ≡ 0
unfolding to_do
to_do_none d e = ap (λ (o : Option Listing). flag (is_some o)) e

pub line_gets_on : (d : Desk) (r : Progress) → 1 ≤ r.taken → GetsOn d r
line_gets_on d r h = omega (arith, to_do_most r.desk)

pub part_gets_on : (s : List ℕ) (d : Desk) (l : Listing) (left : Option Listing) (put : ℕ) → l.high < 2 ^ 32 → d.listing ≡ Some l
    → left ≡ listing_after s l → put ≡ length (part_lines s l)
    → GetsOn d (record { desk = record { line = d.line; held = d.held; listing = left }; taken = 0; put = put })
part_gets_on s d l left put narrow is e len =
    let next : Desk = record { line = d.line; held = d.held; listing = left } in
    elim (ℕ_discrete (part_of s l.at l.high).reply.more 0) [
      | yes m ↦ omega (arith, to_do_one d l is, to_do_none next (e ∙ after_last s l m))
      | no m ↦ omega (arith, to_do_one d l is, to_do_most next, lines_some s l narrow m)
    ]

-- turn after turn

pub serves_start : (s : List ℕ) (d : Desk) (input out : List ℕ) → Serves s d input out s out (record { desk = d; taken = 0; put = 0 })
serves_start s d input out = record { taken = omega arith; put = omega arith; says = λ more. refl; long = refl; stays = refl }

pub part_from : (xs : List ℕ) (n : ℕ) → take (length xs - n) (drop n xs) ≡ drop n xs
part_from xs n = take_all (length xs - n) (drop n xs) (simp length-drop (omega arith))

pub part_long_lem : (xs : List ℕ) (n : ℕ) → length (take (length xs - n) (drop n xs)) ≡ length xs - n
part_long_lem xs n = ap length (part_from xs n) ∙ length-drop n xs

is_none_lem : (o : Option Listing) → is_some o ≡ false → o ≡ None
is_none_lem None e = refl
is_none_lem (Some l) e = absurd (false≢true (sym e))

pub goes_on_over : (d : Desk) (left room : ℕ) → goes_on d left room ≡ false → (room < part_bytes) ⊎ ((d.listing ≡ None) × (left ≡ 0))
unfolding goes_on
goes_on_over d left room e =
    by_cases (leb part_bytes room)
    (λ r.
    by_cases (is_some d.listing)
    (λ a. absurd (false≢true (sym e ∙ rw (r, a))))
    (λ a. inr (is_none_lem d.listing a, omega (arith, ltb-false 0 left (sym (rw (r, a)) ∙ e)))))
    (λ r. inl (leb-false part_bytes room r))

pub goes_on_room : (d : Desk) (left room : ℕ) → goes_on d left room ≡ true
    → (part_bytes ≤ room) × ((is_some d.listing ≡ true) ⊎ (1 ≤ left))
unfolding goes_on
goes_on_room d left room e =
    let a = and_true (leb part_bytes room) (is_some d.listing || ltb 0 left) e in (
      leb-true part_bytes room a.0,
      by_cases (is_some d.listing) (λ l. inl l) (λ l. inr (omega (arith, ltb-true 0 left (sym (rw l) ∙ a.1)))),
    )

-- one turn more
module _ (s : List ℕ) (d : Desk) (input out t o u part o' : List ℕ) (r q : Progress) (done : Serves s d input out t o r)
    (step : Serves t r.desk (take (length input - r.taken) (drop r.taken input)) (take (length o - r.put) (drop r.put o)) u part q)
    (put_back : o' ≡ take r.put o ++ (part ++ drop (length o - r.put) (drop r.put o))) where
  pub serves_then : Serves s d input out u o' (record { desk = q.desk; taken = r.taken + q.taken; put = r.put + q.put })
  serves_then =
      let rest = part_from input r.taken in
      let len : length (take r.put o) ≡ r.put = simp length-take (omega (arith, done.put, done.long)) in
      let part_long : length part ≡ length o - r.put = step.long ∙ ap length (part_from o r.put) ∙ length-drop r.put o in
      let last : drop (length o - r.put) (drop r.put o) ≡ [] =
      ap (λ (i : ℕ). drop i (drop r.put o)) (sym (length-drop r.put o)) ∙ drop-length (drop r.put o) in
      let whole : o' ≡ take r.put o ++ part =
      put_back ∙ ap (λ (xs : List ℕ). take r.put o ++ (part ++ xs)) last ∙ ap (λ (xs : List ℕ). take r.put o ++ xs) (append-nil part) in
      let front : take (r.put + q.put) o' ≡ take r.put o ++ take q.put part =
      ap (take (r.put + q.put)) whole ∙ ap (λ (i : ℕ). take (i + q.put) (take r.put o ++ part)) (sym len)
      ∙ take-append-add (take r.put o) part q.put in
      let step_put : q.put ≤ length o - r.put = omega (arith, step.put, ap length (part_from o r.put), length-drop r.put o) in
      let step_taken : q.taken ≤ length input - r.taken = omega (arith, step.taken, ap length rest, length-drop r.taken input) in
      record {
        taken = omega (arith, done.taken);
        put = omega (arith, done.put, done.long);
        says = λ more.
            done.says more
            ∙ ap (before (take r.put o))
            (ap (λ (xs : List ℕ). rest_of t r.desk (xs ++ more)) (sym rest) ∙ step.says more
            ∙ ap (λ (xs : List ℕ). before (take q.put part) (rest_of u q.desk (drop q.taken xs ++ more))) rest
            ∙ ap (λ (xs : List ℕ). before (take q.put part) (rest_of u q.desk (xs ++ more))) (drop-drop q.taken r.taken input))
            ∙ sym (before_twice (take r.put o) (take q.put part) _)
            ∙ ap (λ (xs : List ℕ). before xs (rest_of u q.desk (drop (r.taken + q.taken) input ++ more))) (sym front);
        long = ap length whole ∙ length-append (take r.put o) part ∙ omega (arith, done.put, done.long);
        stays =
            sym (drop-drop q.put r.put o') ∙ ap (drop q.put) (ap (drop r.put) whole ∙ drop_at (take r.put o) part r.put len)
            ∙ step.stays ∙ ap (drop q.put) (part_from o r.put ∙ done.stays) ∙ drop-drop q.put r.put out;
      }

-- the loop's end

pub serves_over : (input out o : List ℕ) (r : Progress) → length o ≡ length out → r.taken ≤ length input → r.put ≤ length out
    → goes_on r.desk (length input - r.taken) (length o - r.put) ≡ false → Finishes input out r
serves_over input out o r long h l e =
    elim (goes_on_over r.desk (length input - r.taken) (length o - r.put) e) [
      | inl f ↦ inr (omega arith)
      | inr f ↦ inl (omega (arith, f.1), f.0)
    ]
