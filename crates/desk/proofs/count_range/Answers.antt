-- A call that is refused refuses the survey; else the loop ends with the records of all.
use Rattle.std.proofs.Common.{◌∙◌, ◌<◌, ◌^◌, Ok, arith, sym, ap, rules}
use Rattle.scan.specs.Range.{RangeReply}
use Rattle.index.specs.Answers.{range_reply}
use Rattle.desk.specs.Listing.{survey_of}
use Rattle.desk.proofs.Told.{number_some, survey_passed}
use Rattle.desk.proofs.ListingLaws.{piece_facts, count_fits, count_below, survey_rest, survey_turn, survey_first, rest_turn, rest_done, rest_refused, left_falls}
use Rattle.desk.proofs.count_range.Goals as goal

pub returns-in_err-p : goal.returns-in_err-p
returns-in_err-p c =
    let e = c.in_err-p.field-0.0 in
    survey_passed e _ c.from_residual.ensures.1 ∙ sym (survey_first _ _ _ _ (number_some e) (sym c.in_err-p.ensures))

pub overflow_cast-count : goal.overflow_cast-count
overflow_cast-count c = let f = piece_facts _ _ _ c.in_ok-p.ensures in record { fits = omega (arith, f.few) }

pub loop-p-init : goal.loop-p-init
loop-p-init c =
    let a = c.args in
    let f = piece_facts _ _ _ c.in_ok-p.ensures in (
      λ h. omega (arith, (f.onward h).0),
      f.more,
      ap (λ (q : RangeReply). survey_rest a.store.now a.high q.count q) c.in_ok-p.ensures ∙ sym (survey_turn a.store.now a.high a.low),
    )

pub returns-in_err-p-2 : goal.returns-in_err-p-2
returns-in_err-p-2 c =
    let l = c.loop-p in
    let e = c.in_err-p-2.field-0.0 in
    survey_passed e _ c.from_residual-in_err-p-2.ensures.1
    ∙ sym (rest_refused c.args.store.now c.args.high l.count _ (range_reply (Ok l.p)) (number_some e) c.loop-p-test.true (sym c.in_err-p-2.ensures))
    ∙ l.invariant.2

pub overflow_cast-count-in-loop-p : goal.overflow_cast-count-in-loop-p
overflow_cast-count-in-loop-p c = let f = piece_facts _ _ _ c.in_ok-p-2.ensures in record { fits = omega (arith, f.few) }

pub overflow_add-count : goal.overflow_add-count
overflow_add-count c =
    let l = c.loop-p in
    let high : c.args.high < 2 ^ 32 = search rules in
    let n = count_fits (l.invariant.0 c.loop-p-test.true) l.invariant.1 (piece_facts _ _ _ c.in_ok-p-2.ensures) in
    record { fits = omega (arith, n, high) }

pub loop-p-smaller : goal.loop-p-smaller
loop-p-smaller c = left_falls _ _ _ c.loop-p-test.true c.loop-p.invariant.1 (piece_facts _ _ _ c.in_ok-p-2.ensures)

pub loop-p-preserved : goal.loop-p-preserved
loop-p-preserved c =
    let l = c.loop-p in
    let f = piece_facts _ _ _ c.in_ok-p-2.ensures in (
      count_below (l.invariant.0 c.loop-p-test.true) f,
      f.more,
      sym (rest_turn c.args.store.now c.args.high _ _ _ c.loop-p-test.true c.in_ok-p-2.ensures) ∙ l.invariant.2,
    )

pub returns : goal.returns
unfolding survey_of
returns c = sym (rest_done _ _ _ _ c.loop-p-test.false) ∙ c.loop-p.invariant.2
