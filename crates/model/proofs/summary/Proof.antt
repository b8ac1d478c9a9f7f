-- Two refusals, and the sheet's numbers.
use borrow.Author.Rules.{rules}
use Rattle.model.proofs.Laws.{summary_refused_lem, summary_late, summary_given}
use Rattle.model.proofs.summary.Statement.{statement}
use Rattle.model.proofs.summary.Tie as tie

returns : tie.Need-returns-then-low-high
returns c = summary_refused_lem _ _ _ _ c.if-low-high.true c.refusal.ensures

returns_2 : tie.Need-returns-then-today-gt99999
returns_2 c =
    let p = c.before in
    summary_late _ _ _ _ p.if-low-high.false p.if-today-gt99999.true c.refusal-then-today-gt99999.ensures

returns_3 : tie.Need-returns
returns_3 c =
    let p = c.before in
    let q = p.before.before in
    summary_given _ _ _ _ q.if-low-high.false q.if-today-gt99999.false p.sheet_over-sheet.ensures p.widen.ensures.0
    c.done.ensures

pub summary_spec : {M : Type 1} → statement M
summary_spec =
    tie.close
    (tie.spec (λ c κs. search rules) returns (λ c κs. search rules) returns_2 (λ c κs. search rules) (λ c κs. search rules)
    (λ c κs. search rules) returns_3)
