-- The key of what remove gives has 32 bits.
use mathlib.Core.Path.{subst, sym}
use Prim.Native.Nat.{◌^◌, ◌<◌}
use Rattle.store.specs.Format.{width}
use Rattle.search.specs.Find.{Reply}
use Rattle.remove.proofs.Refusals.{removed_fits}
use Rattle.index.proofs.remove.Goals as goal

pub remove-requires : goal.remove-requires
unfolding width
remove-requires c = c.widen.ensures.1

pub found_of-requires : goal.found_of-requires
unfolding width
found_of-requires c = subst (λ (r : Reply). r.item.key < 2 ^ 32) (sym c.remove.ensures.0) (removed_fits _ _ _)
