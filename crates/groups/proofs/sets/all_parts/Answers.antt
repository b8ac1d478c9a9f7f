-- Parts of three sizes, one after another.
use Rattle.groups.proofs.SetLaws.{all_three}
use Rattle.groups.proofs.sets.all_parts.Goals as goal

pub returns : goal.returns
returns g c =
    all_three _ _ _ c.parts.ensures c.parts-2.ensures c.parts-3.ensures
