-- Damage, or the key's entry.
use mathlib.Core.Path.{sym, ap, ◌∙◌}
use Rattle.search.specs.Way.{visit_result}
use Rattle.search.specs.Descent.{damaged_node}
use Rattle.search.proofs.DescentLaws.{step_damaged, step_entry, visited_sound, node_deep, node_bits}
use Rattle.search.proofs.visit_node.Goals as goal

pub passes-requires : goal.passes-requires
passes-requires c = let p = c.requires in (p.0, p.1, p.2, λ z. visited_sound _ _ _ _ _ _ _ (p.3 z))

pub returns-then-not-passes : goal.returns-then-not-passes
unfolding damaged_node
returns-then-not-passes c = ap visit_result (step_damaged _ _ _ c.args.key _ _ _ (sym c.passes.ensures ∙ c.if-not-passes.true))

pub own_entry-requires : goal.own_entry-requires
own_entry-requires c =
    let p = c.requires in
    let t = sym c.passes.ensures ∙ c.if-not-passes.false in
    (p.0, p.1, node_deep _ _ _ c.args.key _ _ _ t, node_bits _ _ _ c.args.key _ _ _ t)

pub returns : goal.returns
returns c =
    ap visit_result (c.own_entry.ensures ∙ step_entry _ _ _ _ _ _ _ (sym c.passes.ensures ∙ c.if-not-passes.false))
