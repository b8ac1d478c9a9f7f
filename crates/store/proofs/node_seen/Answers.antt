-- The blocks passed are those of the chain.
use Rattle.std.proofs.Common.{◌≡◌, sym, ap, ◌∙◌}
use borrow.Author.Rules.{rules}
use Rattle.store.specs.Released.{node_next, passed, member}
use Rattle.store.proofs.ChainLaws.{after_none, after_more, seen_none, seen_more, seen_later}
use Rattle.store.proofs.node_seen.Goals as goal

pub loop-i-init : goal.loop-i-init
loop-i-init c = (after_none _ _, seen_none _ _ _)

pub returns-then-x-name : goal.returns-then-x-name
returns-then-x-name c = let l = c.loop-i in seen_later _ _ _ l._i l.x _ l.invariant.0 (search rules) (search rules)

pub loop-i-preserved : goal.loop-i-preserved
loop-i-preserved c =
    let l = c.loop-i in (
      after_more _ _ l._i l.x _ l.invariant.0 c.node_next-x.ensures,
      seen_more _ _ _ l._i l.x l.invariant.0 c.if-x-name.false l.invariant.1,
    )

pub returns : goal.returns
returns c =
    let a = c.args in
    let l = c.loop-i in
    sym (sym (ap (λ j. member a.name (passed (node_next a.store.now) j a.first)) (search rules)) ∙ l.invariant.1)
