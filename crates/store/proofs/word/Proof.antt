-- Past the end `get_or` gives its default.
use borrow.Author.Rules.{rules}
use mathlib.Core.Path.{sym}
use lib.ListN.{get_or-eq_default}
use Rattle.store.proofs.word.Statement.{statement}
use Rattle.store.proofs.word.Tie as tie

returns_2 : tie.Need-returns
returns_2 c = sym (get_or-eq_default c.args.store.now 0 c.if-i-store.false)

pub word_spec : {M : Type 1} → statement M
word_spec = tie.close (tie.spec (λ c. search rules) (λ c. search rules) (λ c. search rules) returns_2)
