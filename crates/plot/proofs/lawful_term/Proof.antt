-- `plot::lawful_term` meets its contract: both cases of the definition at once, and the test of the lease picks one.
use borrow.Author.Rules.{rules}
use mathlib.Core.Path.{◌≡◌, refl}
use mathlib.Core.Bool.{Bool, true, false, not, ◌&&◌, ◌||◌}
use lib.Dec.{leb, eqb}
use Rattle.plot.specs.Plot.{lawful_term, lawful_day, largest_lease}
use Rattle.plot.proofs.lawful_term.Statement.{statement}
use Rattle.plot.proofs.lawful_term.Tie as tie

picked : (none zero days day : Bool) → ((none && zero) || (not none && days && day)) ≡ elim none [ true ↦ zero | false ↦ days && day ]
picked true true days day = refl
picked true false days day = refl
picked false zero days day = refl

returns : tie.Need-returns
unfolding lawful_term
returns c =
    let a = c.args in
    rw c.lawful_day.ensures (picked (eqb a.lease 0) (eqb a.last 0) (leb a.lease largest_lease) (lawful_day a.last))

pub lawful_term_spec : {M : Type 1} → statement M
lawful_term_spec = tie.close (tie.spec (λ c κs. search rules) returns)
