-- A test that fails breaks the rule; where six hold, the rule is the last.
use borrow.Author.Rules.{rules}
use native.Mathlib.Omega.{arith}
use Rattle.lists.proofs.Tests.{untrue}
use Rattle.store.proofs.HeadLaws.{counts_facts, counts_last}
use Rattle.store.proofs.counts_ok.Statement.{statement}
use Rattle.store.proofs.counts_ok.Tie as tie

returns : tie.Need-returns-then-head-lt1
returns c = untrue (λ e. omega (arith, (counts_facts _ _ e).taken_low))

returns_2 : tie.Need-returns-then-head
returns_2 c = untrue (λ e. omega (arith, (counts_facts _ _ e).taken))

returns_3 : tie.Need-returns-then-head-2
returns_3 c = untrue (λ e. omega (arith, (counts_facts _ _ e).filled))

returns_4 : tie.Need-returns-then-head-lt1-2
returns_4 c = untrue (λ e. omega (arith, (counts_facts _ _ e).root_low))

returns_5 : tie.Need-returns-then-head-3
returns_5 c = untrue (λ e. omega (arith, (counts_facts _ _ e).root))

returns_6 : tie.Need-returns-then-head-lt1-3
returns_6 c = untrue (λ e. omega (arith, (counts_facts _ _ e).levels_low))

returns_7 : tie.Need-returns
returns_7 c = counts_last _ _ _ (search rules) c.level_bound.ensures

pub counts_ok_spec : {M : Type 1} → statement M
counts_ok_spec = tie.close (tie.spec returns returns_2 returns_3 returns_4 returns_5 returns_6 (λ c κs. search rules) returns_7)
