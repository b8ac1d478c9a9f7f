use Rattle.split.proofs.ValueLaws.{node_back}
use Rattle.split.proofs.put_block.Goals as goal

pub returns : goal.returns
returns c =
    node_back c.args.store.now c.args.head c.args.n c.node_start-at.ensures.0 c.node_words.ensures.0 c.copy.ensures
