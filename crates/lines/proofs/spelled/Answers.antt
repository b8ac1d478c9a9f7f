-- Each digit is taken in from the bytes that are left.
use Rattle.std.proofs.Common.{◌∙◌, refl, sym}
use Rattle.lines.proofs.ReadLaws.{digit_missed, digit_taken, digits_end}
use Rattle.lines.proofs.spelled.Goals as goal

pub returns-then-not-is_ascii_digit : goal.returns-then-not-is_ascii_digit
returns-then-not-is_ascii_digit c =
    let l = c.loop-b in
    sym (digit_missed c.args.digits.now l.b-index l.n c.loop-b-test.true c.if-not-is_ascii_digit.ensures.value) ∙ l.invariant.1

pub loop-b-preserved : goal.loop-b-preserved
loop-b-preserved c =
    let l = c.loop-b in
    let t = digit_taken c.args.digits.now l.b-index l.n _ c.loop-b-test.true refl c.if-not-is_ascii_digit.ensures.value l.invariant.0 in
    rw c.from.ensures (t.0, t.1 ∙ l.invariant.1)

pub returns : goal.returns
returns c =
    let l = c.loop-b in
    c.ok.ensures.value ∙ digits_end c.args.digits.now l.b-index l.n c.try_from.result c.loop-b-test.false c.try_from.ensures ∙ l.invariant.1
