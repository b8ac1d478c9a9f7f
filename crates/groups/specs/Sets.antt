-- Random sets against the plain sorted list: what one trial does, whatever is drawn.
--   pattern_of n     == the pattern with a number of a table
--   setting_of rows i == the setting of a row; its seed is made of the row's number
--   Booked           == what the book replies, and the list after it
--   joined_in list st r == a lawful record that is not held joins the list, unless the tree does not fit then
--   booked_in list st r == the book's reply to an entry
--   accepted_in s r t == an accepted entry is counted, and its reply compared with the head's words
--   entered_in p x r  == an entry, its reply compared with the book's
--   set_up_call st     == the call that sets a store up
--   Part             == the first key not written by a range, and the words of the store, the output and the tally after it
--   part_in list p out c == a range, with the records that it lists
--   read_in list p c  == a reading, compared with the list's
--   parts_from list room p low n == n parts of the whole range, each from the first key that the one before did not write, until one is the
--                       last; a trial fails if none is
--   all_parts list p  == the whole range in parts of several sizes
use Rattle.std.specs.Prelude.{true, false, ◌&&◌, List, ◌++◌, ℕ, zero, suc, ◌*◌, ◌-◌, ◌%◌, ◌^◌, eqb, ltb, leb, length, replicate, drop}
use Rattle.plot.specs.declared.Record.{Record}
use Rattle.plot.specs.Plot as Plot
use Rattle.store.specs.Head.{word}
use Rattle.stretches.specs.Stretches.{counts_of}
use Rattle.harness.specs.declared.calls.Kind.TheVariants.{SetUp, Range}
use Rattle.harness.specs.declared.calls.Call.{Call}
use Rattle.harness.specs.declared.calls.Reply.{Reply}
use Rattle.harness.specs.Calls.{refused, given, entry_of, is_range, marked, ran_of, outcome}
use Rattle.harness.specs.Tally.{counted, tried, compared, judged_outcome}
use Rattle.harness.specs.Script.{cell_of, Played, both}
use Rattle.model.specs.Model.{inserted, removed, holds_key, model_reply, listed_in}
use Rattle.groups.specs.declared.sets.Pattern.{Pattern}
use Rattle.groups.specs.declared.sets.Pattern.TheVariants.{Uniform, Bursts, Prefixes, Extremes}
use Rattle.groups.specs.declared.sets.Setting.{Setting}

abbrev pub pattern_of : ℕ → Pattern
pattern_of n =
    elim (eqb n 0) [
      | true ↦ Uniform
      | false ↦ elim (eqb n 1) [ true ↦ Bursts | false ↦ elim (eqb n 2) [ true ↦ Prefixes | false ↦ Extremes ] ]
    ]

unfoldable pub setting_of : List (List ℕ) → ℕ → Setting
setting_of rows i =
    record {
      theta = cell_of rows i 0;
      capacity = cell_of rows i 1;
      nodes = cell_of rows i 2;
      pages = cell_of rows i 3;
      pattern = pattern_of (cell_of rows i 4);
      records = cell_of rows i 5;
      seed = 1000 * (i % 1000) % 2 ^ 32;
    }

pub record Booked : Type 0 where
  pub reply : Reply
  pub list : List ℕ

unfoldable pub joined_in : List ℕ → Setting → Record → Booked
joined_in list st r =
    let l = inserted list r in
    let n = counts_of l st.theta st.capacity in
    elim (leb n.nodes st.nodes && leb n.pages st.pages) [
      | true ↦ record { reply = given r.key n.levels n.nodes n.pages; list = l }
      | false ↦ record { reply = refused 10; list = removed l r.key }
    ]

unfoldable pub booked_in : List ℕ → Setting → Record → Booked
booked_in list st r =
    elim (Plot.lawful r) [
      | false ↦ record { reply = refused 6; list = list }
      | true ↦ elim (holds_key list r.key) [ true ↦ record { reply = refused 8; list = list } | false ↦ joined_in list st r ]
    ]

unfoldable pub accepted_in : List ℕ → Reply → List ℕ → List ℕ
accepted_in s r t = compared (counted t 3) (given r.a (word s 7) (word s 4) (word s 5)) r

unfoldable pub entered_in : Played → Reply → Record → Played
entered_in p x r =
    let c = entry_of r in
    let o = outcome c p.store (marked 64) in
    let s = (ran_of c p.store (marked 64)).store in
    let t = judged_outcome p.tally x o in
    both s (elim (eqb o.reply.number 0) [ true ↦ accepted_in s o.reply t | false ↦ t ])

abbrev pub set_up_call : Setting → Call
set_up_call st = record { kind = SetUp; a = st.theta; b = st.capacity; c = st.nodes; d = st.pages }

pub record Part : Type 0 where
  pub next : ℕ
  pub store : List ℕ
  pub out : List ℕ
  pub tally : List ℕ

-- its third number is the words of its output
unfoldable pub part_in : List ℕ → Played → List ℕ → Call → Part
part_in list p out c =
    let n = c.c in
    let o = outcome c p.store (marked n) in
    let a = ran_of c p.store (marked n) in
    let after = a.out ++ drop n out in
    let t = tried (judged_outcome p.tally (model_reply list c) o) (listed_in list c.a after (o.reply.a % 2 ^ 32)) in
    elim (ltb (length out) n) [
      | true ↦ record { next = 0; store = p.store; out = out; tally = p.tally }
      | false ↦ record { next = o.reply.b % 2 ^ 32; store = a.store; out = after; tally = t }
    ]

-- with an output of 1,024 words of its own
unfoldable pub part_of : List ℕ → Played → Call → Part
part_of list p c = part_in list p (replicate 1024 0) c

unfoldable pub read_in : List ℕ → Played → Call → Played
read_in list p c =
    let q = part_of list p c in
    elim (is_range c.kind) [
      | true ↦ both q.store q.tally
      | false ↦
          both (ran_of c p.store (marked 0)).store (judged_outcome p.tally (model_reply list c) (outcome c p.store (marked 0)))
    ]

unfoldable pub parts_from : List ℕ → ℕ → Played → ℕ → ℕ → Played
parts_from list room p low zero = both p.store (tried p.tally false)
parts_from list room p low (suc n) =
    let q = part_of list p (record { kind = Range; a = low; b = 2 ^ 32 - 1; c = room; d = 0 }) in
    let after = both q.store q.tally in
    elim (eqb q.next 0) [ true ↦ after | false ↦ parts_from list room after q.next n ]

unfoldable pub parts_of : List ℕ → ℕ → Played → Played
parts_of list room p = parts_from list room p 0 1024

unfoldable pub all_parts : List ℕ → Played → Played
all_parts list p = parts_of list 4 (parts_of list 30 (parts_of list 1023 p))
