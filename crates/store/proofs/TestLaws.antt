-- Tests in order: none fails just if all are passed.
use mathlib.Core.Path.{◌≡◌, refl, sym, ◌∙◌}
use mathlib.Core.Bool.{true, false}
use mathlib.Core.List.{List, [], ◌∷◌}
use mathlib.Core.Logic.{inl, inr}
use Rattle.lists.specs.Lists.{All}
use Rattle.lists.proofs.Cases.{bool_cases}
use Rattle.store.specs.Tests.{Test, failing}

pub failing_on : (t : Test) (ts : List Test) → t.1 ≡ true → failing (t ∷ ts) ≡ failing ts
unfolding failing
failing_on t ts e = rw (e, failing)

pub failing_here : (t : Test) (ts : List Test) → t.1 ≡ false → failing (t ∷ ts) ≡ t.0
unfolding failing
failing_here t ts e = rw (e, failing)

pub passed_all : (ts : List Test) → All (λ t. t.0 ≡ 0 → ⊥) ts → failing ts ≡ 0 → All (λ t. t.1 ≡ true) ts
passed_all [] a e = tt
passed_all (t ∷ ts) a e =
    elim (bool_cases t.1) [
      | inl p ↦ (p, passed_all ts a.1 (sym (failing_on t ts p) ∙ e))
      | inr p ↦ absurd (a.0 (sym (failing_here t ts p) ∙ e))
    ]

pub failing_none : (ts : List Test) → All (λ t. t.1 ≡ true) ts → failing ts ≡ 0
unfolding failing
failing_none [] a = refl
failing_none (t ∷ ts) a = failing_on t ts a.0 ∙ failing_none ts a.1
