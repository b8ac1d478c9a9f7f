-- What a tally holds, by the tests that the code has made.
use mathlib.Core.Path.{◌≡◌, sym, ap, ◌∙◌}
use mathlib.Core.Bool.{Bool, true, false, not}
use mathlib.Core.List.{List}
use Prim.Native.Nat.{ℕ, ◌+◌, ◌-◌, ◌^◌, ◌<◌, min}
use native.Mathlib.Decide.{dec_lt}
use native.Mathlib.Omega.{arith}
use lib.ListN.{set}
use Rattle.std.proofs.lemmas.List.{set-get_or}
use borrow.Author.Tests.{lt-ltb, le-ltb, not-true, not-false}
use Rattle.store.specs.Head.{word}
use Rattle.harness.specs.declared.calls.Reply.{Reply}
use Rattle.harness.specs.declared.calls.Outcome.{Outcome}
use Rattle.harness.specs.Calls.{same_reply}
use Rattle.harness.specs.Tally.{counted, answer_place, tried, compared, judged, judged_outcome}

-- a count with one more, and one at its top
pub counted_set : (t : List ℕ) (i : ℕ) {n m : ℕ} {u : List ℕ} → n ≡ word t i → n < 2 ^ 64 → m ≡ min (n + 1) (2 ^ 64 - 1)
    → u ≡ set t i m → u ≡ counted t i
unfolding counted
counted_set t i {n} {m} e r h w =
    elim (dec_lt n (2 ^ 64 - 1)) [
      | yes l ↦
          let more : m ≡ word t i + 1 = omega arith in
          w ∙ ap (set t i) more ∙ rw (lt-ltb (word t i) (2 ^ 64 - 1) (omega (arith, e)), counted)
      | no l ↦
          let same : m ≡ word t i = omega arith in
          w ∙ ap (set t i) same ∙ set-get_or t i 0 ∙ rw (le-ltb (word t i) (2 ^ 64 - 1) (omega (arith, e)), counted)
    ]

-- a trial that holds, and one that fails
pub tried_held : (t : List ℕ) (holds : Bool) {u : List ℕ} → holds ≡ true → u ≡ counted t 1 → u ≡ tried t holds
unfolding tried
tried_held t holds e w = rw e w

pub tried_failed : (t : List ℕ) (holds : Bool) {u v : List ℕ} → holds ≡ false → u ≡ counted t 1 → v ≡ counted u 2
    → v ≡ tried t holds
unfolding tried
tried_failed t holds e w z = rw e (z ∙ ap (λ l. counted l 2) w)

-- what a trial tries
module _ (t : List ℕ) (x y : Reply) {d : Bool} {u : List ℕ} (ed : d ≡ not (same_reply x y)) (eu : u ≡ counted t 1) where
  pub compared_same : d ≡ false → u ≡ compared t x y
  unfolding compared
  compared_same e = tried_held t (same_reply x y) (not-false _ (sym ed ∙ e)) eu

  pub compared_other : {v : List ℕ} → d ≡ true → v ≡ counted u 2 → v ≡ compared t x y
  unfolding compared
  compared_other e ev = tried_failed t (same_reply x y) (not-true _ (sym ed ∙ e)) eu ev

pub judged_compared : (t : List ℕ) (x y : Reply) {i : ℕ} {u v : List ℕ}
    → i ≡ answer_place y.number → u ≡ counted t i → v ≡ compared u x y → v ≡ judged t x y
unfolding judged
judged_compared t x y e w z = z ∙ ap (λ l. compared l x y) (w ∙ ap (counted t) e)

pub outcome_tried : (t : List ℕ) (x : Reply) (o : Outcome) {u v : List ℕ}
    → u ≡ judged t x o.reply → v ≡ tried u o.kept → v ≡ judged_outcome t x o
unfolding judged_outcome
outcome_tried t x o w z = z ∙ ap (λ l. tried l o.kept) w
