-- A count of 0 wants no name, another one a taken number.
use borrow.Author.Rules.{rules}
use native.Mathlib.Omega.{arith}
use Rattle.lists.proofs.Tests.{untrue}
use Rattle.store.proofs.HeadLaws.{named_facts, named_none, named_some}
use Rattle.store.proofs.name_ok.Statement.{statement}
use Rattle.store.proofs.name_ok.Tie as tie

returns : tie.Need-returns-then-count-eq0
returns c = named_none _ _ _ (search rules)

returns_2 : tie.Need-returns-then-name-eq0
returns_2 c = untrue (λ e. omega (arith, (named_facts _ _ _ e).some (search rules), c.if-name-eq0.true))

returns_3 : tie.Need-returns
returns_3 c = named_some _ _ _ (search rules) (search rules)

pub name_ok_spec : {M : Type 1} → statement M
name_ok_spec = tie.close (tie.spec returns returns_2 returns_3)
