-- The four values, zeros at first.
use borrow.Author.Rules.{rules}
use mathlib.Core.Path.{refl}
use Rattle.harness.specs.Calls.{reply_to, reply_of}
use Rattle.harness.proofs.calls.reply_to.Statement.{statement}
use Rattle.harness.proofs.calls.reply_to.Tie as tie

returns : tie.Need-returns
unfolding reply_to reply_of
returns c =
    let e = c.call_with-number.ensures in
    rw (e.3, e.0) (refl, e.1, e.2)

pub reply_to_spec : {M : Type 1} → statement M
reply_to_spec =
    tie.close
    (tie.spec (λ c. search rules) (λ c κs. search rules) (λ c. search rules) (λ c. search rules) (λ c. search rules)
    (λ c. search rules) (λ c. search rules) (λ c. search rules) returns)
