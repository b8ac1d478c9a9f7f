-- A test that fails breaks the rule; where three hold, the rule is the last.
use borrow.Author.Rules.{rules}
use native.Mathlib.Omega.{arith}
use mathlib.Core.Path.{sym, ◌∙◌}
use mathlib.Core.Bool.{false≢true}
use Rattle.lists.proofs.Tests.{untrue, passed, failed}
use Rattle.store.proofs.HeadLaws.{named_of, released_facts, released_last}
use Rattle.store.proofs.released_ok.Statement.{statement}
use Rattle.store.proofs.released_ok.Tie as tie

returns : tie.Need-returns-then-r-head
returns c = untrue (λ e. omega (arith, (released_facts _ _ e).nodes, c.if-r-head.true))

returns_2 : tie.Need-returns-then-r-head-2
returns_2 c = untrue (λ e. omega (arith, (released_facts _ _ e).pages, c.if-r-head-2.true))

returns_3 : tie.Need-returns-then-not-name_ok
returns_3 c =
    untrue (λ e. false≢true (sym (failed c.name_ok.ensures c.if-not-name_ok.true-raw) ∙ named_of _ _ _ (released_facts _ _ e).node))

returns_4 : tie.Need-returns
returns_4 c =
    released_last _ _ _ (search rules) (search rules) (passed c.name_ok.ensures c.if-not-name_ok.false-raw)
    c.name_ok-2.ensures

pub released_ok_spec : {M : Type 1} → statement M
released_ok_spec = tie.close (tie.spec returns returns_2 (λ c κs. search rules) returns_3 (λ c κs. search rules) returns_4)
