-- A page that is known to keep the rule is not read.
use borrow.Author.Rules.{rules}
use mathlib.Core.Path.{sym}
use Rattle.search.proofs.page_passes.Statement.{statement}
use Rattle.search.proofs.page_passes.Tie as tie

returns_2 : tie.Need-returns
returns_2 c = sym (c.requires.2 c.if-checked.false)

pub page_passes_spec : {M : Type 1} → statement M
page_passes_spec = tie.close (tie.spec (λ c κs. search rules) (λ c. search rules) returns_2)
