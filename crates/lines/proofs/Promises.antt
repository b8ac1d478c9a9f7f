-- The promises hold, by the laws of columns and of lines.
use mathlib.Core.Path.{refl}
use Rattle.lines.specs.Promises.{ColumnFits, ColumnPlain, FormatThenParse, ParseThenFormat, FieldsFit, ReplyFits, DumpParses}
use Rattle.lines.specs.Request.{request_line}
use Rattle.lines.specs.Reply.{request_fields, reply_line}
use Rattle.lines.proofs.ColumnLaws as columns
use Rattle.lines.proofs.RequestLaws.{line_parsed, line_kept, fields_small}
use Rattle.lines.proofs.ReplyLaws.{length_reply}

pub column_fits : ColumnFits
column_fits = columns.length_column

pub column_plain : ColumnPlain
column_plain = columns.column_plain

pub format_then_parse : FormatThenParse
format_then_parse = line_parsed

pub parse_then_format : ParseThenFormat
parse_then_format = line_kept

pub fields_fit : FieldsFit
fields_fit = fields_small

pub reply_fits : ReplyFits
reply_fits = length_reply

pub dump_parses : DumpParses
unfolding reply_line request_fields request_line
dump_parses a b c d = (refl, refl)
