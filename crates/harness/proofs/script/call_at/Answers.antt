-- The call's kind and numbers one by one.
use Rattle.harness.proofs.ScriptLaws.{call_of}
use Rattle.harness.proofs.script.call_at.Goals as goal

pub returns : goal.returns
returns c = call_of _ _ c.cell.ensures c.from.ensures c.cell-2.ensures c.cell-3.ensures c.cell-4.ensures c.cell-5.ensures
