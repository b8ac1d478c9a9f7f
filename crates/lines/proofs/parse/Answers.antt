-- A part that is no number makes the line wrong; five numbers make it what they say.
use Rattle.std.proofs.Common.{arith, sym, ◌∙◌, rules}
use Rattle.lines.specs.Request.{field_of}
use Rattle.lines.proofs.RequestLaws.{parsed_wrong}
use Rattle.lines.proofs.ReadLaws.{number_not, kind_wrong, line_made}
use Rattle.lines.proofs.parse.Goals as goal

pub returns-then-line-ne42 : goal.returns-then-line-ne42
returns-then-line-ne42 c = sym (parsed_wrong c.args.line.now (λ f. omega (arith, f.whole)))

pub returns-in_err-field : goal.returns-in_err-field
returns-in_err-field c = c.from_residual.ensures ∙ sym (parsed_wrong _ (λ f. number_not _ (sym c.field.ensures ∙ c.in_err-field.was) f.kind))

pub returns-in_err-kind : goal.returns-in_err-kind
returns-in_err-kind c =
    c.from_residual-in_err-kind.ensures
    ∙ sym (kind_wrong _ _ (sym c.field.ensures ∙ c.in_ok-field.was) (sym c.from_number.ensures ∙ c.in_err-kind.was))

pub returns-in_err-a : goal.returns-in_err-a
unfolding field_of
returns-in_err-a c = c.from_residual-in_err-a.ensures ∙ sym (parsed_wrong _ (λ f. number_not _ (sym c.field-2.ensures ∙ c.in_err-a.was) f.first))

pub returns-in_err-b : goal.returns-in_err-b
unfolding field_of
returns-in_err-b c = c.from_residual-in_err-b.ensures ∙ sym (parsed_wrong _ (λ f. number_not _ (sym c.field-3.ensures ∙ c.in_err-b.was) f.second))

pub returns-in_err-c : goal.returns-in_err-c
unfolding field_of
returns-in_err-c c = c.from_residual-in_err-c.ensures ∙ sym (parsed_wrong _ (λ f. number_not _ (sym c.field-4.ensures ∙ c.in_err-c.was) f.third))

pub returns-in_err-d : goal.returns-in_err-d
unfolding field_of
returns-in_err-d c = c.from_residual-in_err-d.ensures ∙ sym (parsed_wrong _ (λ f. number_not _ (sym c.field-5.ensures ∙ c.in_err-d.was) f.fourth))

pub returns : goal.returns
unfolding field_of
returns c =
    c.request_of.ensures
    ∙ line_made _ _ _ _ _ _ _ (search rules) (sym c.field.ensures ∙ c.in_ok-field.was) (sym c.from_number.ensures ∙ c.in_ok-kind.was)
    (sym c.field-2.ensures ∙ c.in_ok-a.was)
    (sym c.field-3.ensures ∙ c.in_ok-b.was)
    (sym c.field-4.ensures ∙ c.in_ok-c.was)
    (sym c.field-5.ensures ∙ c.in_ok-d.was)
