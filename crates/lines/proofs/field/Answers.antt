-- The bytes lent are the part of the line.
use Rattle.std.proofs.Common.{◌≡◌, ◌+◌, ◌-◌, ◌∙◌, arith, sym, ap, rules, take, drop}
use Rattle.lists.proofs.Parts.{part_in_lem}
use Rattle.lines.specs.Steps.{number_in}
use Rattle.lines.proofs.field.Goals as goal

pub returns : goal.returns
returns c =
    let a = c.args in
    let e : a.at + a.w - a.at ≡ a.w = omega arith in
    c.number_in.ensures
    ∙ ap number_in (ap (λ k. take k (drop a.at a.line.now)) e ∙ sym (part_in_lem a.line.now a.at a.w (search rules)))
