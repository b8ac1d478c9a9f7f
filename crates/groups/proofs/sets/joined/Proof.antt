-- The counts of the tree with the record are compared with the store's; a record that does not fit is taken out.
use borrow.Author.Rules.{rules}
use Rattle.groups.proofs.SetLaws.{joined_not, joined_fits}
use Rattle.groups.proofs.sets.joined.Statement.{statement}
use Rattle.groups.proofs.sets.joined.Tie as tie

returns : tie.Need-returns-then-counts-setting
returns c =
    let r = c.before.before.before in
    let i = r.before.before in
    let n = i.before.before.before.before.before in
    joined_not _ _ _ n.insert.ensures n.counts_of-counts.ensures i.if-counts-setting.true
    r.remove.ensures c.refusal.ensures

returns_2 : tie.Need-returns
returns_2 c =
    let i = c.before.before.before.before.before in
    let n = i.before.before.before.before.before in
    joined_fits _ _ _ n.insert.ensures n.counts_of-counts.ensures i.if-counts-setting.false
    c.done.ensures

pub joined_spec : {M : Type 1} → statement M
joined_spec =
    tie.close
    (tie.spec (λ c κs. search rules) (λ c κs. search rules) (λ c κs. search rules) (λ c κs. search rules) (λ c. search rules)
    returns (λ c. search rules) (λ c. search rules) (λ c. search rules) (λ c. search rules) (λ c κs. search rules)
    (λ c. search rules) returns_2)
