-- Settings, entries and readings of a set, and the whole range in parts: one law for each step and way out.
use mathlib.Core.Path.{◌≡◌, refl, sym, ap, ap₂, ◌∙◌}
use mathlib.Core.Bool.{Bool, true, false, not, ◌&&◌, ◌||◌}
use mathlib.Core.List.{List, [], ◌∷◌, ◌++◌}
use Prim.Native.Nat.{ℕ, suc, ◌+◌, ◌-◌, ◌*◌, ◌%◌, ◌^◌, ◌≤◌, ◌<◌}
use native.Mathlib.Omega.{arith}
use native.Mathlib.Decide.{dec_le}
use lib.Dec.{eqb, ltb, leb}
use lib.ListN.{length, replicate, take, drop, length-take}
use borrow.Author.Tests.{eq-eqb, ne_eqb, lt-ltb, le-ltb, le-leb, lt-leb}
use Rattle.plot.specs.declared.Record.{Record}
use Rattle.plot.specs.Plot as Plot
use Rattle.store.specs.Head.{word}
use Rattle.raw.proofs.Steps.{first_arm, second_arm}
use Rattle.stretches.specs.declared.Counts.{Counts}
use Rattle.stretches.specs.Stretches.{counts_of}
use Rattle.harness.specs.declared.calls.Kind.TheVariants.{Range}
use Rattle.harness.specs.declared.calls.Call.{Call}
use Rattle.harness.specs.declared.calls.Reply.{Reply}
use Rattle.harness.specs.declared.calls.Outcome.{Outcome}
use Rattle.harness.specs.Calls.{refused, given, entry_of, is_range, marked, ran_of, reply_to, outcome}
use Rattle.harness.specs.Tally.{counted, tried, compared, judged_outcome}
use Rattle.harness.specs.Script.{cell_of, Played, both}
use Rattle.harness.proofs.ScriptLaws.{whole}
use Rattle.model.specs.Model.{inserted, removed, holds_key, model_reply, listed_in}
use Rattle.groups.specs.declared.sets.Pattern.{Pattern}
use Rattle.groups.specs.declared.sets.Setting.{Setting}
use Rattle.groups.specs.Sets.{pattern_of, setting_of, Booked, joined_in, booked_in, accepted_in, entered_in, set_up_call}
use Rattle.groups.specs.Sets.{Part, part_in, part_of, read_in, parts_from, parts_of, all_parts}

-- a setting, number by number
pub setting_is : (rows : List (List ℕ)) (i : ℕ) {a b c d k f g : ℕ} {e : Pattern}
    → a ≡ cell_of rows i 0 → b ≡ cell_of rows i 1 → c ≡ cell_of rows i 2 → d ≡ cell_of rows i 3 → k ≡ cell_of rows i 4
    → e ≡ pattern_of k
    → f ≡ cell_of rows i 5 → g ≡ 1000 * (i % 1000) % 2 ^ 32
    → ◌≡◌ {A = Setting} (record { theta = a; capacity = b; nodes = c; pages = d; pattern = e; records = f; seed = g }) (setting_of rows i)
unfolding setting_of
setting_is rows i a b c d k e f g = rw (e, k, a, b, c, d, f, g)

-- a store set up
pub prepared : (s : List ℕ) (st : Setting) {c : Call} {x : Reply} {n : ℕ} {t : List ℕ}
    → c ≡ set_up_call st → x ≡ reply_to c s (0 ∷ []) → t ≡ (ran_of c s (0 ∷ [])).store → n ≡ x.a % 2 ^ 32
    → (n ≡ (reply_to (set_up_call st) s (0 ∷ [])).a % 2 ^ 32) × (t ≡ (ran_of (set_up_call st) s (0 ∷ [])).store)
prepared s st ec ex et en =
    (en ∙ ap (λ x. x.a % 2 ^ 32) (ex ∙ ap (λ c. reply_to c s (0 ∷ [])) ec), et ∙ ap (λ c. (ran_of c s (0 ∷ [])).store) ec)

-- neither count is above its limit
within : (a b c d : ℕ) → not (ltb b a || ltb d c) ≡ (leb a b && leb c d)
within a b c d =
    elim (dec_le a b) [
      | yes h ↦
          elim (dec_le c d) [
            | yes g ↦ rw (le-leb a b h, le-ltb b a h, le-leb c d g, le-ltb d c g) refl
            | no g ↦ rw (le-leb a b h, le-ltb b a h, lt-leb c d (omega (arith, g)), lt-ltb d c (omega (arith, g))) refl
          ]
      | no h ↦ rw (lt-leb a b (omega (arith, h)), lt-ltb b a (omega (arith, h))) refl
    ]

-- a record that joins the list, and one that does not fit
module _ (list : List ℕ) (st : Setting) (r : Record) {l : List ℕ} {n : Counts}
    (el : l ≡ inserted list r) (en : n ≡ counts_of l st.theta st.capacity) where
  abbrev fits : Counts → Bool
  fits n = leb n.nodes st.nodes && leb n.pages st.pages

  abbrev choice : List ℕ → Counts → Booked
  choice l n =
      elim (fits n) [
        | true ↦ record { reply = given r.key n.levels n.nodes n.pages; list = l }
        | false ↦ record { reply = refused 10; list = removed l r.key }
      ]

  chosen : choice l n ≡ joined_in list st r
  unfolding joined_in
  chosen = ap (choice l) en ∙ ap (λ l. choice l (counts_of l st.theta st.capacity)) el

  tested : {b : Bool} → (ltb st.nodes n.nodes || ltb st.pages n.pages) ≡ b → fits n ≡ not b
  tested e = sym (within n.nodes st.nodes n.pages st.pages) ∙ ap not e

  pub joined_not : {x : Reply} {k : List ℕ} → (ltb st.nodes n.nodes || ltb st.pages n.pages) ≡ true
      → k ≡ removed l r.key → x ≡ refused 10 → let q = joined_in list st r in (x ≡ q.reply) × (k ≡ q.list)
  joined_not t ek ex =
      let e = second_arm (fits n) _ _ (tested t) ∙ chosen in (ex ∙ ap (λ q. q.reply) e, ek ∙ ap (λ q. q.list) e)

  pub joined_fits : {x : Reply} → (ltb st.nodes n.nodes || ltb st.pages n.pages) ≡ false
      → x ≡ given r.key n.levels n.nodes n.pages → let q = joined_in list st r in (x ≡ q.reply) × (l ≡ q.list)
  joined_fits t ex = let e = first_arm (fits n) _ _ (tested t) ∙ chosen in (ex ∙ ap (λ q. q.reply) e, ap (λ q. q.list) e)

-- an entry that is not lawful, one of a key that is held, and any other
module _ (list : List ℕ) (st : Setting) (r : Record) {x : Reply} where
  pub booked_unlawful : Plot.lawful r ≡ false → x ≡ refused 6 → let q = booked_in list st r in (x ≡ q.reply) × (list ≡ q.list)
  unfolding booked_in
  booked_unlawful e ex = rw (e, booked_in) (ex, refl)

  pub booked_held : Plot.lawful r ≡ true → holds_key list r.key ≡ true → x ≡ refused 8
      → let q = booked_in list st r in (x ≡ q.reply) × (list ≡ q.list)
  unfolding booked_in
  booked_held e h ex = rw (e, h, booked_in) (ex, refl)

  pub booked_new : {l : List ℕ} → Plot.lawful r ≡ true → holds_key list r.key ≡ false
      → (let q = joined_in list st r in (x ≡ q.reply) × (l ≡ q.list)) → let q = booked_in list st r in (x ≡ q.reply) × (l ≡ q.list)
  unfolding booked_in
  booked_new e h w = rw (e, h, booked_in) w

-- an accepted entry, compared with the head's words
pub accepted_is : (s : List ℕ) (r : Reply) (t : List ℕ) {l n p : ℕ} {x : Reply} {u v : List ℕ}
    → l ≡ word s 7 → n ≡ word s 4 → p ≡ word s 5 → u ≡ counted t 3 → x ≡ given r.a l n p → v ≡ compared u x r
    → v ≡ accepted_in s r t
unfolding accepted_in
accepted_is s r t {l} {n} {p} el en ep eu ex ev =
    let e : given r.a l n p ≡ given r.a (word s 7) (word s 4) (word s 5) = rw (el, en, ep) in
    ev ∙ ap₂ (λ u x. compared u x r) eu (ex ∙ e)

-- an entry made, accepted and not
module _ (s t : List ℕ) (x : Reply) (r : Record) {c : Call} {o : Outcome} {u v : List ℕ} (ec : c ≡ entry_of r)
    (w : (o ≡ outcome c s (marked 64)) × (u ≡ (ran_of c s (marked 64)).store)) (ev : v ≡ judged_outcome t x o) where
  abbrev last : Outcome → List ℕ → List ℕ → List ℕ
  last o u v = elim (eqb o.reply.number 0) [ true ↦ accepted_in u o.reply v | false ↦ v ]

  abbrev after : Call → Played
  after c =
      let o = outcome c s (marked 64) in let u = (ran_of c s (marked 64)).store in both u (last o u (judged_outcome t x o))

  ended : both u (last o u v) ≡ entered_in (both s t) x r
  unfolding entered_in
  ended =
      ap (λ v. both u (last o u v)) ev ∙ ap₂ (λ o u. both u (last o u (judged_outcome t x o))) w.0 w.1 ∙ ap after ec

  pub entry_accepted : {z : List ℕ} → o.reply.number ≡ 0 → z ≡ accepted_in u o.reply v
      → let q = entered_in (both s t) x r in (u ≡ q.store) × (z ≡ q.tally)
  entry_accepted e ez = (
    ap (λ q. q.store) ended,
    ez ∙ first_arm (eqb o.reply.number 0) _ _ (eq-eqb o.reply.number 0 e) ∙ ap (λ q. q.tally) ended,
  )

  pub entry_refused : (o.reply.number ≡ 0 → ⊥) → let q = entered_in (both s t) x r in (u ≡ q.store) × (v ≡ q.tally)
  entry_refused e = (
    ap (λ q. q.store) ended,
    second_arm (eqb o.reply.number 0) _ _ (ne_eqb o.reply.number 0 e) ∙ ap (λ q. q.tally) ended,
  )

-- a range: its output too short, and its records in the first words of the output
module _ (list s t out : List ℕ) (c : Call) {n : ℕ} (en : n ≡ c.c) where
  abbrev Left : ℕ → List ℕ → List ℕ → List ℕ → Type 0
  Left k u b v = let q = part_in list (both s t) out c in (k ≡ q.next) × (u ≡ q.store) × (b ≡ q.out) × (v ≡ q.tally)

  pub part_not : length out < n → Left 0 s out t
  unfolding part_in
  part_not h = rw (lt-ltb (length out) c.c (omega (arith, en, h)), part_in) (refl, refl, refl, refl)

  module _ (h : n ≤ length out) {o : Outcome} {u b v y : List ℕ} {x : Reply} {k z : ℕ} {l : Bool}
      (w : let m = marked (length (take (n - 0) out)) in
      (o ≡ outcome c s m) × (u ≡ (ran_of c s m).store) × (b ≡ (ran_of c s m).out))
      (ex : x ≡ model_reply list c) (ev : v ≡ judged_outcome t x o) (ek : k ≡ o.reply.a % 2 ^ 32)
      (el : l ≡ listed_in list c.a (b ++ drop (n - 0) out) k) (ey : y ≡ tried v l) (ez : z ≡ o.reply.b % 2 ^ 32) where
    abbrev judged : Outcome → List ℕ → List ℕ
    judged o b = tried (judged_outcome t (model_reply list c) o) (listed_in list c.a b (o.reply.a % 2 ^ 32))

    abbrev made : Outcome → List ℕ → List ℕ → ℕ → Part
    made o u b k =
        record { next = o.reply.b % 2 ^ 32; store = u; out = b ++ drop k out; tally = judged o (b ++ drop k out) }

    abbrev ran : ℕ → ℕ → Part
    ran m k = let a = ran_of c s (marked m) in made (outcome c s (marked m)) a.store a.out k

    abbrev size : ℕ
    size = length (take (n - 0) out)

    tallied : y ≡ judged o (b ++ drop (n - 0) out)
    tallied =
        ey
        ∙ ap₂ tried (ev ∙ ap (λ x. judged_outcome t x o) ex) (el ∙ ap (listed_in list c.a (b ++ drop (n - 0) out)) ek)

    all_made : made o u b (n - 0) ≡ part_in list (both s t) out c
    unfolding part_in
    all_made =
        let whole_size : size ≡ c.c = simp length-take (omega (arith, en, h)) in
        let rest : n - 0 ≡ c.c = omega (arith, en) in
        ap (λ o. made o u b (n - 0)) w.0
        ∙ ap₂ (λ u b. made (outcome c s (marked size)) u b (n - 0)) w.1 w.2
        ∙ ap₂ ran whole_size rest
        ∙ second_arm (ltb (length out) c.c) _ _ (le-ltb (length out) c.c (omega (arith, en, h)))

    pub part_made : Left z u (b ++ drop (n - 0) out) y
    part_made =
        (ez ∙ ap (λ q. q.next) all_made, ap (λ q. q.store) all_made, ap (λ q. q.out) all_made, tallied ∙ ap (λ q. q.tally) all_made)

-- an output of 1,024 words
pub part_own : (list : List ℕ) (p : Played) (c : Call) {out u b v : List ℕ} {k : ℕ} → out ≡ replicate 1024 0
    → (let q = part_in list p out c in (k ≡ q.next) × (u ≡ q.store) × (b ≡ q.out) × (v ≡ q.tally))
    → let q = part_of list p c in (k ≡ q.next) × (u ≡ q.store) × (v ≡ q.tally)
unfolding part_of
part_own list p c e w =
    let f = ap (λ out. part_in list p out c) e in
    (w.0 ∙ ap (λ q. q.next) f, w.1 ∙ ap (λ q. q.store) f, w.3 ∙ ap (λ q. q.tally) f)

-- a reading that is a range, and any other
module _ (list s t : List ℕ) (c : Call) {u v : List ℕ} where
  pub read_range : {k : ℕ} {b : Bool} → b ≡ is_range c.kind → b ≡ true
      → (let q = part_of list (both s t) c in (k ≡ q.next) × (u ≡ q.store) × (v ≡ q.tally))
      → let q = read_in list (both s t) c in (u ≡ q.store) × (v ≡ q.tally)
  unfolding read_in
  read_range r e w = rw (sym r ∙ e, read_in) (w.1, w.2)

  pub read_other : {o : Outcome} {x : Reply} {b : Bool} → b ≡ is_range c.kind → b ≡ false
      → (o ≡ outcome c s (marked 0)) × (u ≡ (ran_of c s (marked 0)).store) → x ≡ model_reply list c → v ≡ judged_outcome t x o
      → let q = read_in list (both s t) c in (u ≡ q.store) × (v ≡ q.tally)
  unfolding read_in
  read_other {o} r e w ex ev =
      rw (sym r ∙ e, read_in)
      (w.1, ev ∙ ap (λ x. judged_outcome t x o) ex ∙ ap (judged_outcome t (model_reply list c)) w.0)

-- parts of the range: from the first on, at the last, after any other, and after so many without a last
pub parts_first : (list : List ℕ) (room : ℕ) (p : Played) → parts_from list room p 0 (1024 - 0) ≡ parts_of list room p
unfolding parts_of
parts_first list room p = let all : 1024 - 0 ≡ 1024 = omega arith in ap (parts_from list room p 0) all

module _ (list : List ℕ) (room : ℕ) (s t : List ℕ) (low m turn : ℕ) {q : Played}
    (h : parts_from list room (both s t) low (m - turn) ≡ q) where
  module _ {c : Call} {k : ℕ} {u v : List ℕ} (l : turn < m)
      (ec : c ≡ record { kind = Range; a = low; b = 2 ^ 32 - 1; c = room; d = 0 })
      (w : let q = part_of list (both s t) c in (k ≡ q.next) × (u ≡ q.store) × (v ≡ q.tally)) where
    abbrev onward : ℕ → Played → Played
    onward k p = elim (eqb k 0) [ true ↦ p | false ↦ parts_from list room p k (m - (turn + 1)) ]

    abbrev from : Call → Played
    from c = let q = part_of list (both s t) c in onward q.next (both q.store q.tally)

    parts_turn : onward k (both u v) ≡ q
    unfolding parts_from
    parts_turn =
        let one : suc (m - (turn + 1)) ≡ m - turn = omega arith in
        ap₂ onward w.0 (ap₂ both w.1 w.2) ∙ ap from ec ∙ ap (parts_from list room (both s t) low) one ∙ h

    pub parts_end : k ≡ 0 → (u ≡ q.store) × (v ≡ q.tally)
    parts_end e = whole (first_arm (eqb k 0) _ _ (eq-eqb k 0 e) ∙ parts_turn)

    pub parts_more : (k ≡ 0 → ⊥) → parts_from list room (both u v) k (m - (turn + 1)) ≡ q
    parts_more e = second_arm (eqb k 0) _ _ (ne_eqb k 0 e) ∙ parts_turn

  pub parts_out : {v : List ℕ} → m ≤ turn → v ≡ tried t false → (s ≡ q.store) × (v ≡ q.tally)
  unfolding parts_from
  parts_out l e =
      let none : 0 ≡ m - turn = omega arith in whole (ap (both s) e ∙ ap (parts_from list room (both s t) low) none ∙ h)

-- three sizes of parts
pub all_three : (list s t : List ℕ) {s1 t1 s2 t2 s3 t3 : List ℕ}
    → (let q = parts_of list 1023 (both s t) in (s1 ≡ q.store) × (t1 ≡ q.tally))
    → (let q = parts_of list 30 (both s1 t1) in (s2 ≡ q.store) × (t2 ≡ q.tally))
    → (let q = parts_of list 4 (both s2 t2) in (s3 ≡ q.store) × (t3 ≡ q.tally))
    → let q = all_parts list (both s t) in (s3 ≡ q.store) × (t3 ≡ q.tally)
unfolding all_parts
all_three list s t a b c =
    let first = ap₂ both a.0 a.1 in
    let second = ap₂ both b.0 b.1 ∙ ap (parts_of list 30) first in
    whole (ap₂ both c.0 c.1 ∙ ap (parts_of list 4) second)
