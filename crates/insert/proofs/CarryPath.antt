-- The first place of a path that is carried as an array of steps.
use mathlib.Core.Path.{◌≡◌, refl}
use mathlib.Core.List.{List, [], ◌∷◌}
use Prim.Native.Nat.{ℕ, zero, suc, ◌≤◌}
use native.Mathlib.Omega.{arith}
use lib.ListN.{length, get_or}
use Rattle.lists.specs.Lists.{All}
use Rattle.store.specs.declared.Format.{Format}
use Rattle.search.specs.declared.Step.{Step}
use Rattle.split.specs.Round.{Place}
use Rattle.insert.specs.Enter.{place_of, places, no_place}

module _ (f : Format) (k : ℕ) where
  pub first_place : (n : ℕ) (ts : List Step) (z : Step) → 1 ≤ n → 1 ≤ length ts
      → get_or (places f k n ts) 0 no_place ≡ place_of f k (get_or ts 0 z)
  first_place zero ts z low long = absurd (omega arith)
  first_place (suc n) [] z low long = absurd (omega arith)
  first_place (suc n) (t ∷ ts) z low long = refl

  -- what holds at each place
  pub first_holds : (P : Place → Type 0) (n : ℕ) (ts : List Step) (z : Step) → 1 ≤ n → 1 ≤ length ts → All P (places f k n ts)
      → P (place_of f k (get_or ts 0 z))
  first_holds P zero ts z low long a = absurd (omega arith)
  first_holds P (suc n) [] z low long a = absurd (omega arith)
  first_holds P (suc n) (t ∷ ts) z low long a = a.0
