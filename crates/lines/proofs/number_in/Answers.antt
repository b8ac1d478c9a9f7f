-- Each return is one case of the bytes after the blanks.
use Rattle.std.proofs.Common.{◌∙◌, rules}
use Rattle.lines.proofs.ReadLaws.{none_held, zero_held, leading_zero, digits_held}
use Rattle.lines.proofs.number_in.Goals as goal
use Rattle.lines.proofs.number_in.Goals.{in_default-via-then-this-lt2+in_default-1, in_default-via-else-this-lt2+in_default-1}

pub returns-in-empty : goal.returns-in-empty
returns-in-empty c = none_held _ _ c.trimmed.ensures.0 c.in-empty.len_below

pub returns-in-48 : goal.returns-in-48
returns-in-48 c = zero_held _ _ c.trimmed.ensures.0 c.in-48.len_at_least c.in-48.len_below (search rules)

pub returns-in-48-2 : goal.returns-in-48-2
returns-in-48-2 c = leading_zero _ _ c.trimmed.ensures.0 c.in-48-2.len_at_least (search rules)

pub returns-in_default : goal.returns-in_default
returns-in_default c =
    c.spelled.ensures
    ∙ elim c.in_default-1.branch [
      | in_default-via-then-this-lt2+in_default-1 w ↦ digits_held _ _ c.trimmed.ensures.0 (search rules) (λ e. search rules)
      | in_default-via-else-this-lt2+in_default-1 w ↦ digits_held _ _ c.trimmed.ensures.0 (search rules) (λ e. search rules)
    ]
