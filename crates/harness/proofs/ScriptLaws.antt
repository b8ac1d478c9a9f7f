-- The numbers of a table, a call of it, and the calls so far.
use mathlib.Core.Path.{◌≡◌, refl, sym, ap, ap₂, ◌∙◌}
use mathlib.Core.List.{List, [], ◌++◌}
use Prim.Native.Nat.{ℕ, ◌+◌, ◌-◌, ◌≤◌, ◌<◌, min}
use native.Mathlib.Omega.{arith}
use lib.ListN.{length, set, get_or, take, drop, get_or-eq_default}
use borrow.Author.Tests.{eq-eqb, ne_eqb, le-leb, lt-leb}
use Rattle.store.specs.Head.{word}
use Rattle.raw.proofs.Steps.{steps_first, steps_turn, steps_out}
use Rattle.harness.specs.declared.calls.Kind.{Kind}
use Rattle.harness.specs.declared.calls.Call.{Call}
use Rattle.harness.specs.declared.calls.Reply.{Reply}
use Rattle.harness.specs.declared.calls.Outcome.{Outcome}
use Rattle.harness.specs.Calls.{kind_of, marked, ran_of, outcome}
use Rattle.harness.specs.Tally.{judged_outcome}
use Rattle.harness.specs.Script.{cell_of, call_at, reply_at, Played, both, played_call, played_row, played, played_in}

-- a number of a row, and one past the last row
pub cell_in : (rows : List (List ℕ)) (i j : ℕ) {r : ℕ} → r ≡ word (get_or rows i []) j → r ≡ cell_of rows i j
unfolding cell_of
cell_in rows i j e = e

pub cell_past : (rows : List (List ℕ)) (i j : ℕ) → length rows ≤ i → 0 ≡ cell_of rows i j
unfolding cell_of
cell_past rows i j h = sym (ap (λ row. word row j) (get_or-eq_default rows [] h))

-- a call and a reply, number by number
pub call_of : (rows : List (List ℕ)) (i : ℕ) {n a b c d : ℕ} {q : Kind} → n ≡ cell_of rows i 0 → q ≡ kind_of n
    → a ≡ cell_of rows i 1 → b ≡ cell_of rows i 2 → c ≡ cell_of rows i 3 → d ≡ cell_of rows i 4
    → ◌≡◌ {A = Call} (record { kind = q; a = a; b = b; c = c; d = d }) (call_at rows i)
unfolding call_at
call_of rows i n k a b c d = rw (k, n, a, b, c, d)

pub reply_of_lem : (rows : List (List ℕ)) (i : ℕ) {n a b c d : ℕ}
    → n ≡ cell_of rows i 5 → a ≡ cell_of rows i 6 → b ≡ cell_of rows i 7 → c ≡ cell_of rows i 8 → d ≡ cell_of rows i 9
    → ◌≡◌ {A = Reply} (record { number = n; a = a; b = b; c = c; d = d }) (reply_at rows i)
unfolding reply_at
reply_of_lem rows i n a b c d = rw (n, a, b, c, d)

-- a call made
pub call_made : (s t : List ℕ) (c : Call) (x : Reply) {n : ℕ} {o : Outcome} {u v : List ℕ} → n ≡ c.c
    → (o ≡ outcome c s (marked (min n 64))) × (u ≡ (ran_of c s (marked (min n 64))).store)
    → v ≡ judged_outcome t x o
    → let p = played_call (both s t) c x in (u ≡ p.store) × (v ≡ p.tally)
unfolding played_call
call_made s t c x e w z =
    let f = ap (λ n. marked (min n 64)) e in
    (w.1 ∙ ap (λ out. (ran_of c s out).store) f, z ∙ ap (judged_outcome t x) (w.0 ∙ ap (outcome c s) f))

-- a row that writes a word, and one that makes a call
module _ (rows : List (List ℕ)) (s t : List ℕ) (i : ℕ) {k : ℕ} {u : List ℕ} (ek : k ≡ cell_of rows i 0) where
  pub row_poke : {a n x : ℕ} → k ≡ 9 → a ≡ cell_of rows i 1 → n ≡ a → x ≡ cell_of rows i 2 → u ≡ set s n x
      → let p = played_row rows (both s t) i in (u ≡ p.store) × (t ≡ p.tally)
  unfolding played_row
  row_poke e ea en ex w = rw (eq-eqb (cell_of rows i 0) 9 (sym ek ∙ e), played_row) (w ∙ ap₂ (set s) (en ∙ ea) ex, refl)

  pub row_call : {c : Call} {x : Reply} {v : List ℕ} → (k ≡ 9 → ⊥) → c ≡ call_at rows i → x ≡ reply_at rows i
      → (u ≡ (played_call (both s t) c x).store) × (v ≡ (played_call (both s t) c x).tally)
      → let p = played_row rows (both s t) i in (u ≡ p.store) × (v ≡ p.tally)
  unfolding played_row
  row_call d ec ex w =
      let f = ap₂ (played_call (both s t)) ec ex in
      rw (ne_eqb (cell_of rows i 0) 9 (λ z. d (ek ∙ z)), played_row) (w.0 ∙ ap (λ q. q.store) f, w.1 ∙ ap (λ q. q.tally) f)

-- what a loop holds is the whole
pub whole : {s t : List ℕ} {q : Played} → both s t ≡ q → (s ≡ q.store) × (t ≡ q.tally)
whole e = (ap (λ z. z.store) e, ap (λ z. z.tally) e)

-- the calls from row i on: all, after the call of that row, and none
pub played_first : (rows : List (List ℕ)) (p : Played) → played rows p 0 (length rows - 0) ≡ played rows p 0 (length rows)
unfolding played
played_first rows p = steps_first _ p (length rows)

pub played_turn : (rows : List (List ℕ)) (s t : List ℕ) (i : ℕ) {u v : List ℕ} {q : Played}
    → i < length rows → played rows (both s t) i (length rows - i) ≡ q
    → (u ≡ (played_row rows (both s t) i).store) × (v ≡ (played_row rows (both s t) i).tally)
    → played rows (both u v) (i + 1) (length rows - (i + 1)) ≡ q
unfolding played
played_turn rows s t i h e w = steps_turn _ (both s t) i (length rows) e h (ap₂ both w.0 w.1)

pub played_out : (rows : List (List ℕ)) (i : ℕ) {s t : List ℕ} {q : Played} → played rows (both s t) i (length rows - i) ≡ q
    → length rows ≤ i → (s ≡ q.store) × (t ≡ q.tally)
unfolding played
played_out rows i {s} {t} e l = whole (steps_out _ (both s t) i (length rows) e l)

-- on the first words of a store, and on a store that has too few
pub played_part : (rows : List (List ℕ)) (s t : List ℕ) (n : ℕ) {u v : List ℕ} → n ≤ length s
    → (let q = played rows (both (take (n - 0) s) t) 0 (length rows) in (u ≡ q.store) × (v ≡ q.tally))
    → let p = played_in rows (both s t) n in (u ++ drop (n - 0) s ≡ p.store) × (v ≡ p.tally)
unfolding played_in
played_part rows s t n h w =
    let e : n - 0 ≡ n = omega arith in
    let f = ap (λ k. played rows (both (take k s) t) 0 (length rows)) e in
    rw (le-leb n (length s) h, played_in)
    (ap₂ (λ a k. a ++ drop k s) (w.0 ∙ ap (λ q. q.store) f) e, w.1 ∙ ap (λ q. q.tally) f)

pub played_not : (rows : List (List ℕ)) (s t : List ℕ) (n : ℕ) → length s < n
    → let p = played_in rows (both s t) n in (s ≡ p.store) × (t ≡ p.tally)
unfolding played_in
played_not rows s t n h = rw (lt-leb n (length s) h, played_in) (refl, refl)
