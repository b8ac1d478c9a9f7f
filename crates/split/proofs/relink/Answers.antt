-- One word of the block is another.
use Rattle.split.proofs.ValueLaws.{relinked}
use Rattle.split.proofs.relink.Goals as goal

pub returns : goal.returns
returns c =
    let a = c.args in
    (λ e. absurd (c.if-q-eq0.false e), λ n. relinked a.store.now a.head a.q a.m c.requires.1 c.node_start-at.ensures.0)
