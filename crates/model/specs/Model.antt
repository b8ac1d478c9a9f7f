-- The plain sorted list, in words: the count, then four words for each record, keys ascending, zeros after the last. Each is defined on any
-- words.
--   place_of i       == the first word of a record
--   record_at s i    == the record at a place, zeros past the end
--   with_record s i r == s with the record r at a place
--   leading n t     == how many of 0, .., n − 1 pass the test t before the first that does not
--   rank_of s k, rank_after s k == how many keys are below a key; at most a key
--   moved_up s i n, moved_down s i n == the n records from place i on moved up by one; those after place i moved down by one
--   inserted s r, appended s r == s with the record r in order; at the end
--   removed s k     == s without the record with a key
--   holds_key s k    == a key is held
--   found_in, next_in, range_in, summary_in == the replies to find, next, range and summary
--   between_of s low high == how many records stand from low to high
--   ahead_of sh r    == the record ends before the first so far, or with it at a higher price
--   added_to sh r today == a sheet with one record more
--   sheet_from s today sh i n == a sheet with the n records from place i on
--   model_reply s c  == the reply to a reading
--   listed_in s low out n == the first words of out are the n records from low on
use Rattle.std.specs.Prelude.{Bool, true, false, not, ◌&&◌, ◌||◌, List, ℕ, zero, suc, ◌+◌, ◌-◌, ◌*◌, ◌/◌, ◌^◌, min, eqb, ltb, leb, set}
use Rattle.plot.specs.declared.Record.{Record}
use Rattle.plot.specs.Money.{amount}
use Rattle.store.specs.Head.{word}
use Rattle.raw.specs.Words.{alike}
use Rattle.raw.specs.Steps.{steps}
use Rattle.harness.specs.declared.calls.Kind.TheVariants.{Find, Next, Range}
use Rattle.harness.specs.declared.calls.Call.{Call}
use Rattle.harness.specs.declared.calls.Reply.{Reply}
use Rattle.model.specs.declared.Sheet.{Sheet}
use Rattle.harness.specs.Calls.{refused, given, held_reply}

abbrev pub place_of : ℕ → ℕ
place_of i = 1 + 4 * i

unfoldable pub record_at : List ℕ → ℕ → Record
record_at s i =
    let at = place_of i in
    record { key = word s at; price = word s (at + 1); lease = word s (at + 2); last = word s (at + 3) }

unfoldable pub with_record : List ℕ → ℕ → Record → List ℕ
with_record s i r =
    let at = place_of i in
    set (set (set (set s at r.key) (at + 1) r.price) (at + 2) r.lease) (at + 3) r.last

unfoldable pub leading : ℕ → (ℕ → Bool) → ℕ
leading zero t = 0
leading (suc n) t = elim (t 0) [ true ↦ 1 + leading n (λ i. t (1 + i)) | false ↦ 0 ]

unfoldable pub rank_of : List ℕ → ℕ → ℕ
rank_of s k = leading (word s 0) (λ i. ltb (word s (place_of i)) k)

unfoldable pub rank_after : List ℕ → ℕ → ℕ
rank_after s k = elim (eqb k (2 ^ 32 - 1)) [ true ↦ word s 0 | false ↦ rank_of s (k + 1) ]

-- the last of them first
unfoldable pub moved_up : List ℕ → ℕ → ℕ → List ℕ
moved_up s i zero = s
moved_up s i (suc n) = moved_up (with_record s (i + n + 1) (record_at s (i + n))) i n

-- the first of them first
unfoldable pub moved_down : List ℕ → ℕ → ℕ → List ℕ
moved_down = steps (λ s i. with_record s i (record_at s (i + 1)))

unfoldable pub inserted : List ℕ → Record → List ℕ
inserted s r =
    let n = word s 0 in
    let i = rank_of s r.key in
    elim (ltb n (2 ^ 32 - 1)) [ true ↦ set (with_record (moved_up s i (n - i)) i r) 0 (n + 1) | false ↦ s ]

unfoldable pub appended : List ℕ → Record → List ℕ
appended s r = set (with_record s (word s 0) r) 0 (min (word s 0 + 1) (2 ^ 32 - 1))

unfoldable pub removed : List ℕ → ℕ → List ℕ
removed s k =
    let n = word s 0 in
    let i = rank_of s k in
    elim (ltb 0 n) [ true ↦ set (moved_down s i (n - i)) 0 (n - 1) | false ↦ s ]

unfoldable pub holds_key : List ℕ → ℕ → Bool
holds_key s k = not (eqb k 0) && eqb (record_at s (rank_of s k)).key k

unfoldable pub found_in : List ℕ → ℕ → Reply
found_in s k = elim (holds_key s k) [ true ↦ held_reply (record_at s (rank_of s k)) | false ↦ refused 1 ]

unfoldable pub next_in : List ℕ → ℕ → Reply
next_in s k =
    let i = rank_after s k in
    elim (ltb i (word s 0)) [ true ↦ held_reply (record_at s i) | false ↦ refused 1 ]

unfoldable pub between_of : List ℕ → ℕ → ℕ → ℕ
between_of s low high = rank_after s high - rank_of s low

-- with an output of so many words
unfoldable pub range_in : List ℕ → ℕ → ℕ → ℕ → Reply
range_in s low high room =
    let n = between_of s low high in
    let fit = room / 4 in
    elim (ltb high low) [
      | true ↦ refused 7
      | false ↦
          elim (leb n fit) [
            | true ↦ given n 0 0 0
            | false ↦ given fit (record_at s (min (rank_of s low + fit) (2 ^ 32 - 1))).key 0 0
          ]
    ]

unfoldable pub ahead_of : Sheet → Record → Bool
ahead_of sh r = elim (eqb r.last sh.last) [ true ↦ ltb sh.price r.price | false ↦ ltb r.last sh.last ]

unfoldable pub added_to : Sheet → Record → ℕ → Sheet
added_to sh r today =
    let n = min (sh.count + 1) (2 ^ 64 - 1) in
    let sum = min (sh.total + amount r.price r.lease r.last today) (2 ^ 64 - 1) in
    elim (ltb 0 r.lease && (eqb sh.key 0 || ahead_of sh r)) [
      | true ↦ record { count = n; total = sum; last = r.last; price = r.price; key = r.key }
      | false ↦ record { count = n; total = sum; last = sh.last; price = sh.price; key = sh.key }
    ]

abbrev pub no_sheet : Sheet
no_sheet = record { count = 0; total = 0; last = 0; price = 0; key = 0 }

unfoldable pub sheet_from : List ℕ → ℕ → Sheet → ℕ → ℕ → Sheet
sheet_from s today = steps (λ sh i. added_to sh (record_at s i) today)

unfoldable pub summary_in : List ℕ → ℕ → ℕ → ℕ → Reply
summary_in s low high today =
    let sh = sheet_from s today no_sheet (rank_of s low) (between_of s low high) in
    elim (ltb high low) [
      | true ↦ refused 7
      | false ↦ elim (ltb 99999 today) [ true ↦ refused 6 | false ↦ given sh.count sh.total sh.key 0 ]
    ]

-- any other kind is a summary
unfoldable pub model_reply : List ℕ → Call → Reply
model_reply s c =
    elim c.kind [
      | Find ↦ found_in s c.a
      | Next ↦ next_in s c.a
      | Range ↦ range_in s c.a c.b c.c
      | _ ↦ summary_in s c.a c.b c.c
    ]

unfoldable pub listed_in : List ℕ → ℕ → List ℕ → ℕ → Bool
listed_in s low out n = alike out 0 s (place_of (rank_of s low)) (4 * n)
