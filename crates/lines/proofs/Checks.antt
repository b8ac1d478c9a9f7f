-- The sample holds: antt computes each row.
use mathlib.Core.Bool.{true}
use mathlib.Core.Path.{◌≡◌, refl}
use Rattle.lists.specs.Lists.{all, part, tab}
use Rattle.lines.specs.Columns.{digit, skipped, plain, value, number_of, is_number, byte_at, column}
use Rattle.lines.specs.Request.{kind_numbered, request_line, field_of, unused, request_of, well_formed, parsed}
use Rattle.lines.specs.Reply.{four_fields, summary_fields, request_fields, reply_line}
use Rattle.lines.specs.Checks.{bytes, same, same_request, is_request, holds, table}

pub checks : all holds table ≡ true
unfolding bytes same same_request is_request holds table part tab digit skipped plain value number_of is_number byte_at column
    request_line kind_numbered field_of unused request_of well_formed parsed four_fields summary_fields request_fields reply_line
checks = refl
