-- A test that fails breaks the rule; where seven hold, the rule is the last.
use borrow.Author.Rules.{rules}
use native.Mathlib.Omega.{arith}
use Rattle.lists.proofs.Tests.{untrue}
use Rattle.store.proofs.HeadLaws.{sizes_limits, sizes_last}
use Rattle.store.proofs.sizes_ok.Statement.{statement}
use Rattle.store.proofs.sizes_ok.Tie as tie

returns : tie.Need-returns-then-theta-lt1
returns c = untrue (λ e. omega (arith, (sizes_limits _ _ _ _ e).theta_low))

returns_2 : tie.Need-returns-then-theta-gt6
returns_2 c = untrue (λ e. omega (arith, (sizes_limits _ _ _ _ e).theta))

returns_3 : tie.Need-returns-then-capacity-lt1
returns_3 c = untrue (λ e. omega (arith, (sizes_limits _ _ _ _ e).capacity_low))

returns_4 : tie.Need-returns-then-capacity-gt-LARGEST_CAPACITY
returns_4 c = untrue (λ e. omega (arith, (sizes_limits _ _ _ _ e).capacity))

returns_5 : tie.Need-returns-then-nodes-lt1
returns_5 c = untrue (λ e. omega (arith, (sizes_limits _ _ _ _ e).nodes_low))

returns_6 : tie.Need-returns-then-nodes-gt4096
returns_6 c = untrue (λ e. omega (arith, (sizes_limits _ _ _ _ e).nodes))

returns_7 : tie.Need-returns-then-pages-lt1
returns_7 c = untrue (λ e. omega (arith, (sizes_limits _ _ _ _ e).pages_low))

returns_8 : tie.Need-returns
returns_8 c = sizes_last _ _ _ _ (search rules)

pub sizes_ok_spec : {M : Type 1} → statement M
sizes_ok_spec = tie.close (tie.spec returns returns_2 returns_3 returns_4 returns_5 returns_6 returns_7 returns_8)
