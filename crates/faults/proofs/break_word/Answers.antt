-- The word is at the row's offset in the row's block.
use Rattle.faults.proofs.Laws.{broken_is}
use Rattle.faults.proofs.break_word.Goals as goal

pub returns : goal.returns
returns c =
    broken_is _ _ _ c.from-kind.result c.cell.ensures c.from-kind.ensures c.cell-2.ensures c.start_of-block.ensures.0
    c.cell-3.ensures c.to_index.ensures.0 c.cell-4.ensures c.put.ensures
