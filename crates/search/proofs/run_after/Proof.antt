-- The run of an entry is aligned, and its length is a power of two.
use borrow.Author.Rules.{rules}
use native.Mathlib.Nat.{mod-le}
use native.Mathlib.Omega.{arith}
use Rattle.search.proofs.NextLaws.{run_after_is}
use Rattle.search.proofs.run_after.Statement.{statement}
use Rattle.search.proofs.run_after.Tie as tie

sub_result : tie.Need-overflow_sub-result
sub_result c = omega (arith, mod-le c.to_index-at.result c.pow2-n.result)

returns : tie.Need-returns
returns c =
    let p = c.before in
    run_after_is _ _ _ _ _ _ p.saturating_sub.ensures p.pow2-n.ensures.0 c.to_index-at.ensures.0 p.pow2-n.ensures.2 (omega arith)

pub run_after_spec : {M : Type 1} → statement M
run_after_spec =
    tie.close
    (tie.spec (λ c κs. search rules) (λ c κs. search rules) (λ c κs. search rules) (λ c. search rules) sub_result (λ c. search rules)
    returns)
