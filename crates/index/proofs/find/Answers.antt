-- What find gives is lawful, so its key is a 32-bit number.
use mathlib.Core.Path.{subst, sym}
use Prim.Native.Nat.{◌^◌, ◌<◌}
use Rattle.store.specs.Format.{width}
use Rattle.search.specs.Find.{Reply}
use Rattle.search.proofs.Promises.{keys_fit}
use Rattle.index.proofs.find.Goals as goal

pub found_of-requires : goal.found_of-requires
unfolding width
found_of-requires c = subst (λ (r : Reply). r.item.key < 2 ^ 32) (sym c.find.ensures) (keys_fit _ _ _).0
