-- The output is an array of zeros.
use mathlib.Core.Path.{refl}
use Rattle.groups.proofs.SetLaws.{part_own}
use Rattle.groups.proofs.sets.part.Goals as goal

pub returns : goal.returns
returns g c =
    part_own _ _ _ refl c.part_in.ensures
