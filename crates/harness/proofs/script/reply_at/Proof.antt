-- The reply's numbers one by one.
use borrow.Author.Rules.{rules}
use Rattle.harness.proofs.ScriptLaws.{reply_of_lem}
use Rattle.harness.proofs.script.reply_at.Statement.{statement}
use Rattle.harness.proofs.script.reply_at.Tie as tie

returns : tie.Need-returns
returns c =
    let p = c.before.before in
    reply_of_lem _ _ p.cell.ensures p.cell-2.ensures p.cell-3.ensures
    c.cell-4.ensures c.cell-5.ensures

pub reply_at_spec : {M : Type 1} → statement M
reply_at_spec =
    tie.close
    (tie.spec (λ c κs. search rules) (λ c κs. search rules) (λ c. search rules) (λ c κs. search rules) (λ c. search rules)
    (λ c κs. search rules) (λ c. search rules) (λ c κs. search rules) (λ c. search rules) returns)
