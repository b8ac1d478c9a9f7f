use Rattle.std.proofs.Common.{arith}
use Rattle.release.proofs.ReleaseLaws.{node_released}
use Rattle.release.proofs.release_node.Goals as goal

pub returns : goal.returns
returns c =
    node_released c.args.store.now c.args.head c.requires.0 c.args.n _ _ _ _ _ c.node_start-at.ensures.0 c.node_words-size.ensures.0
    c.release_block.ensures (omega arith) (omega arith)
