-- The reply line that an operation's answer gets. Document 01, "The counter program".
--   told kind n r  == the reply r where the number n is 0, else the line of the number n alone
--   set_up_told, enter_told, summary_told == an operation's answer as a reply; found_told kind: that of find, next or remove
--   listed_told dump it == a record in a listing of a range, or, if dump, of the register; listed_lines dump its: a line for each
use Rattle.std.specs.Prelude.{Bool, true, false, List, [], ◌∷◌, ◌++◌, ℕ, eqb}
use Rattle.lines.specs.declared.Kind.{Kind}
use Rattle.lines.specs.declared.Kind.TheVariants as kinds
use Rattle.lines.specs.declared.Reply.{Reply}
use Rattle.lines.specs.declared.Reply.TheVariants.{SetUpDone, Entered, Found, Listed, Totals, Refused, EnterLine}
use Rattle.lines.specs.Request.{kind_number}
use Rattle.lines.specs.Reply.{reply_line}
use Rattle.tree.specs.Book.{}
use Rattle.store.specs.declared.Item.{Item}
use Rattle.store.specs.SetUp.{}
use Rattle.search.specs.Find.{}
use Rattle.scan.specs.Summary.{SummaryReply}

-- "Each reply is kind, answer (2 columns each), four fields. .. Other fields are 0."
unfoldable pub told : Kind → ℕ → Reply → Reply
told kind n r = elim (eqb n 0) [ true ↦ r | false ↦ Refused (kind_number kind) n ]

-- "Set-up gives the size."
unfoldable pub set_up_told : Rattle.store.specs.SetUp.Reply → Reply
set_up_told a = told kinds.SetUp a.number (SetUpDone a.size)

-- "Enter gives key, levels, nodes taken, pages taken."
unfoldable pub enter_told : Rattle.tree.specs.Book.Reply → Reply
enter_told a = told kinds.Enter a.number (Entered a.key a.levels a.nodes a.pages)

-- "Find and next give the record."; M-106: "It gives the removed record, or answer 1 if absent"
unfoldable pub found_told : Kind → Rattle.search.specs.Find.Reply → Reply
found_told kind a = told kind a.number (Found (kind_number kind) a.item.key a.item.price a.item.lease a.item.last)

-- "Summary gives count, total in 20 columns, earliest key."
unfoldable pub summary_told : SummaryReply → Reply
summary_told a = told kinds.Summary a.number (Totals a.count a.total a.key)

-- "Range gives a line a record"; M-101: "one kind 1 line a record, ascending"
abbrev pub listed_told : Bool → Item → Reply
listed_told false it = Listed it.key it.price it.lease it.last
listed_told true it = EnterLine it.key it.price it.lease it.last

unfoldable pub listed_lines : Bool → List Item → List ℕ
listed_lines dump [] = []
listed_lines dump (it ∷ its) = reply_line (listed_told dump it) ++ listed_lines dump its
