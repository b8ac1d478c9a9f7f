-- The first four calls are elements of the list; every other j is past it.
use borrow.Author.Rules.{rules}
use Rattle.faults.specs.Faults.{call_on}
use Rattle.faults.proofs.Laws.{call_enter}
use Rattle.faults.proofs.call_at.Statement.{statement}
use Rattle.faults.proofs.call_at.Tie as tie

returns : tie.Need-returns-in-0
unfolding call_on
returns c = rw c.in-0.is c.ask.ensures

returns_2 : tie.Need-returns-in-1
unfolding call_on
returns_2 c = rw c.in-1.is c.ask-in-1.ensures

returns_3 : tie.Need-returns-in-2
unfolding call_on
returns_3 c = rw c.in-2.is c.ask-in-2.ensures

returns_4 : tie.Need-returns-in-3
unfolding call_on
returns_4 c = rw c.in-3.is c.ask-in-3.ensures

returns_5 : tie.Need-returns-in_default
returns_5 c =
    let h = c.in_default.in_default-own.rest in
    call_enter _ _ h.0.0.0.1 h.0.0.1 h.0.1 h.1 c.ask-in_default.ensures

pub call_at_spec : {M : Type 1} → statement M
call_at_spec =
    tie.close
    (tie.spec (λ c κs. search rules) (λ c κs. search rules) (λ c κs. search rules) (λ c κs. search rules) (λ c κs. search rules)
    returns returns_2 returns_3 returns_4 returns_5)
