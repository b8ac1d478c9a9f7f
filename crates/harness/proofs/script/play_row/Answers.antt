-- A row of kind 9 writes a word; any other makes its call.
use Rattle.harness.proofs.ScriptLaws.{row_poke, row_call}
use Rattle.harness.proofs.script.play_row.Goals as goal

pub returns-then-cell-eq-POKE : goal.returns-then-cell-eq-POKE
returns-then-cell-eq-POKE g c =
    row_poke _ _ _ _ c.cell.ensures c.if-cell-eq-POKE.true c.cell-then-cell-eq-POKE.ensures c.to_index.ensures.0 c.cell-then-cell-eq-POKE-2.ensures c.put.ensures

pub returns : goal.returns
returns g c = row_call _ _ _ _ c.cell.ensures c.if-cell-eq-POKE.false c.call_at.ensures c.reply_at.ensures c.play_call.ensures
