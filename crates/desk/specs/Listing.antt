-- A range of any length, or the register, listed in parts: the call is repeated from the first key not written.
--   part_records          == how many records a part has at most
--   part_bytes            == how many bytes it has at most, with the last line of the listing
--   part_of s low high    == one call of range on the store s, with room for a part
--   part_items s low high == the records that it writes
--   item_from ws at       == the record whose words stand at an index; items_of n ws: n records, one after another
--   surveyed s low high  == what all the calls together give: the records counted, or the number that refuses one of them
--   counted n a, survey_from fuel s low high == n records in front of a survey; the survey with so many calls at most
--   survey_told a        == the answer a to a survey, with the number of what refuses it
--   survey_of p n         == the survey whose last call gave p, after n records in all
--   part_lines s l, listing_after s l == the bytes of the next part of the listing l, and what is left of the listing after it, if anything is
--   kind_listed dump      == the kind of a listing: of a range, or of the register
--   last_line dump count  == the line after the records: of a range the count, of the register none
--   part_end dump more count == the same, if no key is left
--   carried s l          == the bytes of what is left of a listing l, part after part; none where no listing is open
--   carried_from fuel s l == the same with so many parts at most
use Rattle.std.specs.Prelude.{Bool, true, false, Option, Some, None, Result, Ok, Err, List, [], ◌++◌, ℕ, zero, suc, ◌+◌, ◌-◌, ◌*◌, eqb, get_or, replicate}
use Rattle.answers.specs.declared.Refusal.{Refusal}
use Rattle.answers.specs.Answers.{number}
use Rattle.lists.specs.Lists.{tab}
use Rattle.lines.specs.declared.Kind.{Kind}
use Rattle.lines.specs.declared.Kind.TheVariants as kinds
use Rattle.lines.specs.declared.Reply.TheVariants.{RangeEnd, Refused}
use Rattle.lines.specs.Request.{kind_number}
use Rattle.lines.specs.Reply.{reply_line}
use Rattle.store.specs.declared.Format.TheVariants.{Plots}
use Rattle.store.specs.declared.Item.{Item}
use Rattle.store.specs.Head.{head_of}
use Rattle.scan.specs.Range.{RangeReply, After, ranged, range_of}
use Rattle.desk.specs.declared.Listing.{Listing}
use Rattle.desk.specs.Replies.{listed_lines}

abbrev pub part_records : ℕ
part_records = 64

-- 64 records and the last line, 45 bytes each
abbrev pub part_bytes : ℕ
part_bytes = 2925

unfoldable pub part_of : List ℕ → ℕ → ℕ → After
part_of s low high = range_of Plots s low high (replicate (4 * part_records) 0)

unfoldable pub part_items : List ℕ → ℕ → ℕ → List Item
part_items s low high = (ranged Plots s (head_of s) low high part_records).items

abbrev pub item_from : List ℕ → ℕ → Item
item_from ws at = record { key = get_or ws at 0; price = get_or ws (at + 1) 0; lease = get_or ws (at + 2) 0; last = get_or ws (at + 3) 0 }

unfoldable pub items_of : ℕ → List ℕ → List Item
items_of n ws = tab n (λ i. item_from ws (4 * i))

abbrev pub counted : ℕ → Result ℕ ℕ → Result ℕ ℕ
counted n (Ok count) = Ok (n + count)
counted n (Err number) = Err number

unfoldable pub survey_of : RangeReply → ℕ → Result ℕ ℕ
survey_of p n = elim (eqb p.number 0) [ true ↦ Ok n | false ↦ Err p.number ]

-- (each call that names a key is followed by one from that key, which is larger: there are at most so many calls as keys; a refused one
-- names none)
unfoldable pub survey_from : ℕ → List ℕ → ℕ → ℕ → Result ℕ ℕ
survey_from zero s low high = Ok 0
survey_from (suc fuel) s low high =
    elim (eqb (part_of s low high).reply.more 0) [
      | true ↦ survey_of (part_of s low high).reply (part_of s low high).reply.count
      | false ↦ counted (part_of s low high).reply.count (survey_from fuel s (part_of s low high).reply.more high)
    ]

abbrev pub survey_told : Result ℕ Refusal → Result ℕ ℕ
survey_told (Ok count) = Ok count
survey_told (Err e) = Err (number e)

unfoldable pub surveyed : List ℕ → ℕ → ℕ → Result ℕ ℕ
surveyed s low high = survey_from (suc (high - low)) s low high

abbrev pub kind_listed : Bool → Kind
kind_listed false = kinds.Range
kind_listed true = kinds.Dump

-- "Range gives a line a record, then answer 1 with the count."
unfoldable pub last_line : Bool → ℕ → List ℕ
last_line false count = reply_line (RangeEnd count)
last_line true count = []

unfoldable pub part_end : Bool → ℕ → ℕ → List ℕ
part_end dump more count = elim (eqb more 0) [ true ↦ last_line dump count | false ↦ [] ]

unfoldable pub part_lines : List ℕ → Listing → List ℕ
part_lines s l =
    elim (eqb (part_of s l.at l.high).reply.number 0) [
      | true ↦ listed_lines l.dump (part_items s l.at l.high) ++ part_end l.dump (part_of s l.at l.high).reply.more l.count
      | false ↦ reply_line (Refused (kind_number (kind_listed l.dump)) (part_of s l.at l.high).reply.number)
    ]

unfoldable pub listing_after : List ℕ → Listing → Option Listing
listing_after s l =
    elim (eqb (part_of s l.at l.high).reply.more 0) [
      | true ↦ None
      | false ↦ Some (record { dump = l.dump; at = (part_of s l.at l.high).reply.more; high = l.high; count = l.count })
    ]

unfoldable pub carried_from : ℕ → List ℕ → Option Listing → List ℕ
carried_from zero s l = []
carried_from (suc fuel) s None = []
carried_from (suc fuel) s (Some l) = part_lines s l ++ carried_from fuel s (listing_after s l)

unfoldable pub carried : List ℕ → Option Listing → List ℕ
carried s None = []
carried s (Some l) = carried_from (suc (l.high - l.at)) s (Some l)
