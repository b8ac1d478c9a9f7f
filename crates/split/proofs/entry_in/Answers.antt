-- The depth is the first word of the node's block.
use native.Mathlib.Omega.{arith}
use Rattle.split.proofs.ValueLaws.{node_depth}
use Rattle.split.proofs.SplitLaws.{reached_width, reached_at}
use Rattle.split.proofs.entry_in.Goals as goal

pub entry_number-requires : goal.entry_number-requires
entry_number-requires c =
    let a = c.args in
    let d = node_depth a.store.now a.head a.n c.node_start-at.ensures.0 c.requires.1 in
    let r = c.requires.3 in
    (omega (arith, d, reached_width _ _ _ _ _ r), omega (arith, d, r.shallow.low, c.requires.0))

pub returns : goal.returns
returns c =
    let a = c.args in
    reached_at a.f a.head.theta _ a.key a.used c.requires.3 (node_depth a.store.now a.head a.n c.node_start-at.ensures.0 c.requires.1)
    c.entry_number.ensures.0
