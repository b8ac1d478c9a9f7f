-- The setting's numbers one by one.
use Rattle.groups.proofs.SetLaws.{setting_is}
use Rattle.groups.proofs.sets.setting_of.Goals as goal

pub returns : goal.returns
returns c =
    setting_is _ _ c.cell.ensures c.cell-2.ensures c.cell-3.ensures c.cell-4.ensures c.cell-5.ensures c.from.ensures
    c.cell-6.ensures c.low.ensures
