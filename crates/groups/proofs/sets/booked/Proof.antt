-- Two refusals, and a record that may join the list.
use borrow.Author.Rules.{rules}
use mathlib.Core.Path.{sym, ◌∙◌}
use Rattle.lists.proofs.Tests.{passed, failed}
use Rattle.groups.proofs.SetLaws.{booked_unlawful, booked_held, booked_new}
use Rattle.groups.proofs.sets.booked.Statement.{statement}
use Rattle.groups.proofs.sets.booked.Tie as tie

returns : tie.Need-returns-then-not-lawful
returns c =
    let i = c.before in
    booked_unlawful _ _ _ (failed i.lawful.ensures i.if-not-lawful.true-raw) c.refusal.ensures

returns_2 : tie.Need-returns-then-holds
returns_2 c =
    let i = c.before in
    let e = i.before.before in
    booked_held _ _ _ (passed e.lawful.ensures e.if-not-lawful.false-raw)
    (sym i.holds.ensures ∙ i.if-holds.true) c.refusal-then-holds.ensures

returns_3 : tie.Need-returns
returns_3 c =
    let j = c.before.before in
    let i = j.before.before in
    let e = i.before.before in
    booked_new _ _ _ (passed e.lawful.ensures e.if-not-lawful.false-raw) (sym i.holds.ensures ∙ i.if-holds.false)
    j.joined.ensures

pub booked_spec : {M : Type 1} → statement M
booked_spec =
    tie.close
    (tie.spec (λ c κs. search rules) (λ c κs. search rules) returns (λ c κs. search rules) (λ c κs. search rules)
    (λ c. search rules) returns_2 (λ c κs. search rules) (λ c. search rules) returns_3)
