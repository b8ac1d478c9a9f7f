-- A loop that takes numbers one after another: what is left at its start, after a turn and at its end. And the arm of a test.
use mathlib.Core.Path.{◌≡◌, sym, ap, ◌∙◌}
use mathlib.Core.Bool.{Bool, true, false}
use Prim.Native.Nat.{ℕ, suc, ◌+◌, ◌-◌, ◌≤◌, ◌<◌}
use native.Mathlib.Omega.{arith}
use Rattle.raw.specs.Steps.{steps}

module _ {A : Type 0} (f : A → ℕ → A) (p : A) where
  pub steps_first : (n : ℕ) → steps f p 0 (n - 0) ≡ steps f p 0 n
  steps_first n = let e : n - 0 ≡ n = omega arith in ap (steps f p 0) e

  module _ (i n : ℕ) {q : A} (h : steps f p i (n - i) ≡ q) where
    pub steps_turn : {r : A} → i < n → r ≡ f p i → steps f r (i + 1) (n - (i + 1)) ≡ q
    unfolding steps
    steps_turn l e =
        let one : n - i ≡ suc (n - (i + 1)) = omega arith in
        ap (λ x. steps f x (i + 1) (n - (i + 1))) e ∙ sym (ap (steps f p i) one) ∙ h

    pub steps_out : n ≤ i → p ≡ q
    unfolding steps
    steps_out l = let none : n - i ≡ 0 = omega arith in sym (ap (steps f p i) none) ∙ h

module _ {A : Type 0} (b : Bool) (x y : A) where
  pub first_arm : b ≡ true → x ≡ elim b [ true ↦ x | false ↦ y ]
  first_arm e = rw e

  pub second_arm : b ≡ false → y ≡ elim b [ true ↦ x | false ↦ y ]
  second_arm e = rw e
