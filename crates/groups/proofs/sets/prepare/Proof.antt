-- The call is a setting's, and its output has one word.
use borrow.Author.Rules.{rules}
use Rattle.groups.proofs.SetLaws.{prepared}
use Rattle.groups.proofs.sets.prepare.Statement.{statement}
use Rattle.groups.proofs.sets.prepare.Tie as tie

returns : tie.Need-returns
returns c =
    let p = c.before.before.before.before in
    let w = p.reply_to.ensures in
    let a = p.before.before.before in
    prepared _ a.args.setting a.ask-call.ensures w.0 w.1 c.low.ensures

pub prepare_spec : {M : Type 1} → statement M
prepare_spec =
    tie.close
    (tie.spec (λ c κs. search rules) (λ c. search rules) (λ c κs. search rules) (λ c κs. search rules) (λ c. search rules)
    returns)
