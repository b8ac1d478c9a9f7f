-- A loop that takes numbers one after another.
--   steps f p i n == p after f has taken the n numbers from i on
use Rattle.std.specs.Prelude.{ℕ, zero, suc, ◌+◌}

unfoldable pub steps : {A : Type 0} → (A → ℕ → A) → A → ℕ → ℕ → A
steps f p i zero = p
steps f p i (suc n) = steps f (f p i) (i + 1) n
