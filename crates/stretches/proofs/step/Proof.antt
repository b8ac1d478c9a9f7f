-- The next stretch with an element, and without one.
use borrow.Author.Rules.{rules}
use Rattle.stretches.proofs.Laws.{step_filled, step_empty}
use Rattle.stretches.proofs.step.Statement.{statement}
use Rattle.stretches.proofs.step.Tie as tie

returns : tie.Need-returns-then-from-sweep
returns c =
    let t = c.before in
    let f = t.before in
    let e = f.before in
    let a = e.before.before.before in
    let d = a.before.before in
    step_filled _ _ _ _ d.low-start.ensures d.depth_at-depth.ensures a.append.ensures e.end_of-end.ensures f.from_on-from.ensures
    t.if-from-sweep.true c.saturating_add.ensures

returns_2 : tie.Need-returns-else-from-sweep
returns_2 c =
    let f = c.before in
    let e = f.before in
    let a = e.before.before.before in
    let d = a.before.before in
    step_empty _ _ _ _ d.low-start.ensures d.depth_at-depth.ensures a.append.ensures e.end_of-end.ensures f.from_on-from.ensures
    c.if-from-sweep.false

pub step_spec : {M : Type 1} → statement M
step_spec =
    tie.close
    (tie.spec (λ c κs. search rules) (λ c κs. search rules) (λ c κs. search rules) (λ c κs. search rules) (λ c κs. search rules)
    (λ c κs. search rules) (λ c. search rules) returns (λ c. search rules) returns_2)
