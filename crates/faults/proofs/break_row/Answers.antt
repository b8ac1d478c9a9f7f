-- A row without a key only writes its word; with one the calls are made, and the store is copied back.
use Rattle.faults.proofs.Laws.{row_tried, row_more}
use Rattle.faults.proofs.break_row.Goals as goal

pub returns-then-cell-ne0 : goal.returns-then-cell-ne0
returns-then-cell-ne0 g c =
    row_tried _ _ _ _ _ c.break_word.ensures c.cell.ensures c.if-cell-ne0.true c.answers.ensures c.copy.ensures

pub returns-else-cell-ne0 : goal.returns-else-cell-ne0
returns-else-cell-ne0 g c =
    row_more _ _ _ _ _ c.break_word.ensures c.cell.ensures c.if-cell-ne0.false
