-- One line, or a listing opened, or both.
use Rattle.std.proofs.Common.{arith, refl}
use Rattle.desk.specs.Serving.{line_of}
use Rattle.desk.proofs.ServeLaws.{answers_line, answers_parts, answers_register}
use Rattle.desk.proofs.answer_line.Goals as goal

pub returns-in-Line : goal.returns-in-Line
unfolding line_of
returns-in-Line c =
    let o = c.outcome_of.ensures in
    let w = c.write-put.ensures in
    let f = c.fresh.ensures in
    answers_line _ _ _ _ _ _ _ _ o.0 o.1 f.0 refl _ c.in-Line.is (omega (arith, c.requires.1)) w.0 w.1 f.1

pub returns-in-Parts : goal.returns-in-Parts
unfolding line_of
returns-in-Parts c =
    let o = c.outcome_of.ensures in
    let f = c.fresh-in-Parts.ensures in
    answers_parts _ _ _ _ _ _ _ _ o.0 o.1 f.0 refl _ c.in-Parts.is refl refl f.1

pub returns-in-Register : goal.returns-in-Register
unfolding line_of
returns-in-Register c =
    let o = c.outcome_of.ensures in
    let w = c.write-put-in-Register.ensures in
    let f = c.fresh-in-Register.ensures in
    answers_register _ _ _ _ _ _ _ _ o.0 o.1 f.0 refl _ _ c.in-Register.is (omega (arith, c.requires.1)) w.0 w.1 f.1
