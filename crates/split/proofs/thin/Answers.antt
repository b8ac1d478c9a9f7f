use Rattle.std.proofs.Common.{◌*◌, ap, ◌∙◌, arith}
use Rattle.node.specs.Node.{entry_of}
use Rattle.split.proofs.ValueLaws.{entries_more, entries_other, steps_within}
use Rattle.split.proofs.thin.Goals as goal

pub loop-j-preserved : goal.loop-j-preserved
loop-j-preserved c =
    let l = c.loop-j in
    let s = steps_within l.j c.args.n c.args.step c.loop-j-test.true c.requires.0 in
    c.set_entry.ensures
    ∙ entries_more _ _ _ l.j l.invariant (omega arith)
    (ap (λ v. entry_of v 0 (l.j * c.args.step)) l.invariant ∙ entries_other _ _ _ l.j _ (λ q. omega (arith, s.1)))
