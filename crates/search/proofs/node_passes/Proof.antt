-- Tested, or known to keep the rule.
use borrow.Author.Rules.{rules}
use mathlib.Core.Path.{sym, ap, ◌∙◌}
use Rattle.store.specs.declared.Head.{Head}
use Rattle.node.specs.Node.{node_rule}
use Rattle.search.proofs.BlockLaws.{limits_asked}
use Rattle.search.proofs.node_passes.Statement.{statement}
use Rattle.search.proofs.node_passes.Tie as tie

node_ok_requires : tie.Need-node_ok-requires
node_ok_requires c κs =
    let s = c.before.before.before in
    let p = s.requires in
    limits_asked s.args.node.now p.0 p.1 p.2 p.3 c.limits.ensures

returns : tie.Need-returns-then-checked
returns c =
    let a = c.args in
    c.node_ok.ensures ∙ ap (λ (l : Head). node_rule l a.node.now 0 a.level) c.limits.ensures

returns_2 : tie.Need-returns
returns_2 c = sym (c.requires.4 c.if-checked.false)

pub node_passes_spec : {M : Type 1} → statement M
node_passes_spec = tie.close (tie.spec (λ c κs. search rules) node_ok_requires returns returns_2)
