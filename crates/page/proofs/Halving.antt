-- The search for the first key above by halves.
--   Halving f pg strict k from left == no key before number `from` is above, and each from number `from + left` on is
use mathlib.Core.Path.{◌≡◌}
use mathlib.Core.Bool.{Bool, true, false}
use mathlib.Core.List.{List}
use Prim.Native.Nat.{ℕ, ◌+◌, ◌-◌, ◌≤◌, ◌<◌}
use native.Mathlib.Omega.{arith}
use Rattle.store.specs.declared.Format.{Format}
use Rattle.page.specs.Page.{count, key_at, above, first_above, Filled}
use Rattle.page.proofs.Laws.{Ordered, ordered_facts, rises, above_on, below_on, first_is}

pub record Halving (f : Format) (pg : List ℕ) (strict : Bool) (k from left : ℕ) : Type 0 where
  pub within : from + left ≤ count pg
  pub low : (i : ℕ) → i < from → above strict k (key_at f pg i) ≡ false
  pub high : (i : ℕ) → from + left ≤ i → i < count pg → above strict k (key_at f pg i) ≡ true

module _ (f : Format) (pg : List ℕ) (strict : Bool) (k : ℕ) where
  -- at the start all records are open
  pub halving_starts : {n : ℕ} → n ≡ count pg → Halving f pg strict k 0 n
  halving_starts e =
      record {
        within = omega arith;
        low = λ i q. absurd (omega arith);
        high = λ i p q. absurd (omega arith);
      }

  module _ (filled : Filled f pg) (from left half : ℕ) (less : half < left) (h : Halving f pg strict k from left) where
    order : Ordered f pg (count pg)
    order = ordered_facts f pg (count pg) filled.order

    -- the middle key is above: the records before it are left
    pub lower_half : above strict k (key_at f pg (from + half)) ≡ true → Halving f pg strict k from half
    lower_half e =
        record {
          within = omega (arith, h.within);
          low = h.low;
          high = λ i p q. above_on strict k _ _ e (rises f pg (count pg) order (from + half) i p q);
        }

    -- it is not: those behind it are
    pub upper_half : above strict k (key_at f pg (from + half)) ≡ false → Halving f pg strict k (from + (half + 1)) (left - (half + 1))
    upper_half e =
        record {
          within = omega (arith, h.within);
          low = λ i q. below_on strict k _ _ e (rises f pg (count pg) order i (from + half) (omega arith) (omega (arith, h.within)));
          high = λ i p q. h.high i (omega arith) q;
        }

  -- once none is open, the number is the first
  pub halving_ends : (from left : ℕ) → left ≡ 0 → Halving f pg strict k from left → from ≡ first_above f pg strict k
  halving_ends from left e h =
      first_is f pg strict k from
      record {
        within = omega (arith, h.within);
        before = h.low;
        found = λ q. h.high from (omega arith) q;
      }
