-- A refusal, a whole listing, and a listing cut by the output.
use borrow.Author.Rules.{rules}
use Rattle.model.proofs.Laws.{range_refused_lem, range_whole, range_part}
use Rattle.model.proofs.range.Statement.{statement}
use Rattle.model.proofs.range.Tie as tie

returns : tie.Need-returns-then-low-high
returns c = range_refused_lem _ _ _ _ c.if-low-high.true c.refusal.ensures

returns_2 : tie.Need-returns-then-n-fit
returns_2 c =
    let p = c.before in
    let q = p.before in
    range_whole _ _ _ _ q.if-low-high.false q.between-n.ensures p.if-n-fit.true c.listing.ensures

returns_3 : tie.Need-returns
returns_3 c =
    let p = c.before in
    let r = p.before.before in
    let q = r.before.before in
    range_part _ _ _ _ q.if-low-high.false q.between-n.ensures r.if-n-fit.false r.rank.ensures p.saturating_add.ensures
    p.record_at-more.ensures c.listing-2.ensures

pub range_spec : {M : Type 1} → statement M
range_spec =
    tie.close
    (tie.spec (λ c κs. search rules) returns (λ c κs. search rules) (λ c κs. search rules) returns_2 (λ c κs. search rules)
    (λ c κs. search rules) (λ c κs. search rules) (λ c κs. search rules) returns_3)
