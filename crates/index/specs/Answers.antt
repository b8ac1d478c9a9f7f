-- The answers of the operations over plots: document 01's number and values for each case. Set-up's answer is crate store's, and those of
-- balance and of the label calls are crate plot's, with their `reply`, `key_reply` and `label_reply`.
--   reply a        == of find and next
--   enter_reply a   == of enter
--   range_reply a   == of range
--   summary_reply a == of summary
use Rattle.std.specs.Prelude.{Option, Some, None, Result, Ok, Err}
use Rattle.answers.specs.declared.Refusal.{Refusal}
use Rattle.answers.specs.Answers.{number}
use Rattle.plot.specs.declared.Record.{Record}
use Rattle.page.specs.Schema.{item_of}
use Rattle.tree.specs.Book.{refused}
use Rattle.search.specs.Find.{Reply, no_item}
use Rattle.scan.specs.Range.{RangeReply, range_refused}
use Rattle.scan.specs.Summary.{SummaryReply, summary_refused}
use Rattle.index.specs.declared.Entered.{Entered}
use Rattle.index.specs.declared.Listing.{Listing}
use Rattle.index.specs.declared.Summed.{Summed}

-- "Answer 1 is "none", 0 is done"; zeros returned
abbrev pub reply : Result (Option Record) Refusal → Reply
reply (Ok (Some r)) = record { number = 0; item = item_of r }
reply (Ok None) = record { number = 1; item = no_item }
reply (Err e) = record { number = number e; item = no_item }

-- "Enter gives key, levels, nodes taken, pages taken." (M-106: those in use); zeros for a refusal
abbrev pub enter_reply : Result Entered Refusal → Rattle.tree.specs.Book.Reply
enter_reply (Ok e) = record { number = 0; key = e.key; levels = e.levels; nodes = e.nodes; pages = e.pages }
enter_reply (Err e) = refused (number e)

abbrev pub range_reply : Result Listing Refusal → RangeReply
range_reply (Ok l) = record { number = 0; count = l.count; more = l.more }
range_reply (Err e) = range_refused (number e)

abbrev pub summary_reply : Result Summed Refusal → SummaryReply
summary_reply (Ok s) = record { number = 0; count = s.count; total = s.total; key = s.key }
summary_reply (Err e) = summary_refused (number e)
