-- Calls and replies as plain numbers.
--   refused n, given a b c d == the reply of a refusal; of an answer 0 with its values
--   held_reply r   == the reply with a record
--   same_reply x y == the two replies are equal
--   record_of c, entry_of r == the record of an entry; the call that enters a record
--   reply_of n vs  == the reply with the number n and the values vs, 0 where there is none
--   values_in a, output_after out a == the values of an answer, and the output after it
--   Ran           == an answer's number and values, and the words of the store and of the output after it
--   ran_on q s out, ran_plain n vs s out == the call q on a store; an answer that has no store
--   first_kinds    == the kinds with the numbers 0 to 8 of a table
--   kind_of n      == the kind with a number; any number past those converts a key
--   is_range k, writes k == a call of the kind writes records to its output; may write the store
--   ran_of c s out == a call made
--   reply_to c s out == its reply
--   mark, marked n == what the words of an output hold before a call; an output of n words
--   written_out kind r == the words of the output that a call has written
--   open_words s kind n == the words of the store that a call with the answer n may change: the store's size, or none
--   stays s kept out kind r == no word has changed but those that the call may write
--   kept s        == the words of a store, kept: at most 16,384
--   outcome c s out == the reply, and whether those words have stayed
use Rattle.std.specs.Prelude.{Bool, true, false, ◌&&◌, List, [], ◌∷◌, ℕ, ◌+◌, ◌-◌, ◌*◌, ◌%◌, ◌^◌, min, eqb, length, get_or, replicate}
use Rattle.plot.specs.declared.Record.{Record}
use Rattle.plot.specs.Money.{balance_reply}
use Rattle.plot.specs.Label.{key_of_reply, label_of_reply, convert_reply}
use Rattle.store.specs.declared.Format.TheVariants.{Plots}
use Rattle.store.specs.Head.{word}
use Rattle.index.specs.Calls.{set_up, enter, find, next, range, summary, Answer, size, counts, one, several, totals, run, number_of}
use Rattle.exports.specs.Reply.{filled, size_values, enter_values, record_values, range_values, summary_values}
use Rattle.exports.specs.Reply.{balance_values, key_values, label_values}
use Rattle.raw.specs.Words.{written, alike, all_from}
use Rattle.raw.specs.Blocks.{page_block}
use Rattle.harness.specs.declared.calls.Kind.{Kind}
use Rattle.harness.specs.declared.calls.Kind.TheVariants.{SetUp, Enter, Find, Next, Range, Summary, Balance, KeyOf, LabelOf, Convert}
use Rattle.harness.specs.declared.calls.Call.{Call}
use Rattle.harness.specs.declared.calls.Reply.{Reply}
use Rattle.harness.specs.declared.calls.Outcome.{Outcome}

abbrev pub refused : ℕ → Reply
refused n = record { number = n; a = 0; b = 0; c = 0; d = 0 }

abbrev pub given : ℕ → ℕ → ℕ → ℕ → Reply
given a b c d = record { number = 0; a = a; b = b; c = c; d = d }

abbrev pub held_reply : Record → Reply
held_reply r = given r.key r.price r.lease r.last

unfoldable pub same_reply : Reply → Reply → Bool
same_reply x y = eqb x.number y.number && (eqb x.a y.a && (eqb x.b y.b && (eqb x.c y.c && eqb x.d y.d)))

abbrev pub record_of : Call → Record
record_of c = record { key = c.a; price = c.b; lease = c.c; last = c.d }

abbrev pub entry_of : Record → Call
entry_of r = record { kind = Enter; a = r.key; b = r.price; c = r.lease; d = r.last }

unfoldable pub reply_of : ℕ → List ℕ → Reply
reply_of n vs =
    let four = filled vs (replicate 4 0) in
    record { number = n; a = word four 0; b = word four 1; c = word four 2; d = word four 3 }

abbrev pub values_in : Answer → List ℕ
values_in (size a) = size_values a
values_in (counts a) = enter_values a
values_in (one a) = record_values a
values_in (several a) = range_values a.reply
values_in (totals a) = summary_values a

abbrev pub output_after : List ℕ → Answer → List ℕ
output_after out (size a) = out
output_after out (counts a) = out
output_after out (one a) = out
output_after out (several a) = a.words
output_after out (totals a) = out

pub record Ran : Type 0 where
  pub number : ℕ
  pub values : List ℕ
  pub store : List ℕ
  pub out : List ℕ

abbrev pub ran_on : Rattle.index.specs.Calls.Call → List ℕ → List ℕ → Ran
ran_on q s out =
    let a = run Plots q s in
    record { number = number_of a.answer; values = values_in a.answer; store = a.words; out = output_after out a.answer }

abbrev pub ran_plain : ℕ → List ℕ → List ℕ → List ℕ → Ran
ran_plain n vs s out = record { number = n; values = vs; store = s; out = out }

abbrev pub first_kinds : List Kind
first_kinds = SetUp ∷ Enter ∷ Find ∷ Next ∷ Range ∷ Summary ∷ Balance ∷ KeyOf ∷ LabelOf ∷ []

abbrev pub kind_of : ℕ → Kind
kind_of n = get_or first_kinds n Convert

abbrev pub is_range : Kind → Bool
is_range Range = true
is_range _ = false

abbrev pub writes : Kind → Bool
writes SetUp = true
writes Enter = true
writes _ = false

unfoldable pub ran_of : Call → List ℕ → List ℕ → Ran
ran_of c s out =
    let balance = balance_reply c.a c.b c.c c.d in
    let key = key_of_reply (record { section = c.a; row = c.b; place = c.c; letter = c.d }) in
    let label = label_of_reply c.a in
    let converted = convert_reply c.a in
    elim c.kind [
      | SetUp ↦ ran_on (set_up c.a c.b c.c c.d) s out
      | Enter ↦ ran_on (enter (record { key = c.a; price = c.b; lease = c.c; last = c.d })) s out
      | Find ↦ ran_on (find c.a) s out
      | Next ↦ ran_on (next c.a) s out
      | Range ↦ ran_on (range c.a c.b out) s out
      | Summary ↦ ran_on (summary c.a c.b c.c) s out
      | Balance ↦ ran_plain balance.number (balance_values balance) s out
      | KeyOf ↦ ran_plain key.number (key_values key) s out
      | LabelOf ↦ ran_plain label.number (label_values label) s out
      | Convert ↦ ran_plain converted.number (key_values converted) s out
    ]

unfoldable pub reply_to : Call → List ℕ → List ℕ → Reply
reply_to c s out = let a = ran_of c s out in reply_of a.number a.values

abbrev pub mark : ℕ
mark = 4277009102

unfoldable pub marked : ℕ → List ℕ
marked n = replicate n mark

unfoldable pub written_out : Kind → Reply → ℕ
written_out kind r = elim (is_range kind && eqb r.number 0) [ true ↦ 4 * (r.a % 2 ^ 32) | false ↦ 0 ]

unfoldable pub open_words : List ℕ → Kind → ℕ → ℕ
open_words s kind n = elim (writes kind && eqb n 0) [ true ↦ page_block s (min (word s 3 + 1) (2 ^ 32 - 1)) | false ↦ 0 ]

unfoldable pub stays : List ℕ → List ℕ → List ℕ → Kind → Reply → Bool
stays s kept out kind r =
    let from = open_words s kind r.number in
    all_from out (written_out kind r) mark && alike s from kept from (length s - from)

unfoldable pub kept : List ℕ → List ℕ
kept s = written (word s) (replicate 16384 0) (length s)

-- what a call that is watched gives
unfoldable pub outcome : Call → List ℕ → List ℕ → Outcome
outcome c s out =
    let a = ran_of c s out in
    let r = reply_to c s out in
    record { reply = r; kept = stays a.store (kept s) a.out c.kind r }
