-- What is promised of range and summary on any words, each as a type; proofs/Promises.antt proves them.
--   RangeAscends   == a range's records ascend and are from low to high
--   RangeMore      == the first key not written that a range names is not above high
--   RangeOnward    == a range's records have keys above 0 and not below low, so they are few; a key not written lies behind a full output
--   SummaryCount   == a summary counts at most as many records as there are keys to high
--   RangeInside    == a range writes only the words of its records
--   SummaryKey     == the key that a summary names is not above high
--   RangeRefusals  == a refused range replies zeros and leaves the output
--   SummaryRefusals == a refused summary replies zeros
use Rattle.std.specs.Prelude.{◌≡◌, List, ℕ, ◌+◌, ◌-◌, ◌*◌, ◌≤◌, ◌<◌, length, drop}
use Rattle.lists.specs.Lists.{All}
use Rattle.lists.specs.Keyed.{Sorted}
use Rattle.store.specs.declared.Format.{Format}
use Rattle.store.specs.declared.Head.{Head}
use Rattle.store.specs.declared.Item.{Item}
use Rattle.store.specs.Format.{words}
use Rattle.scan.specs.Range.{ranged, range_refused, range_of}
use Rattle.scan.specs.Summary.{summary_of}

abbrev pub RangeAscends : Type 0
RangeAscends =
    (f : Format) (s : List ℕ) (h : Head) (low high room : ℕ)
    → Sorted (λ (it : Item). it.key) (ranged f s h low high room).items
    × All (λ it. (low ≤ it.key) × (it.key ≤ high)) (ranged f s h low high room).items

abbrev pub RangeMore : Type 0
RangeMore = (f : Format) (s : List ℕ) (low high : ℕ) (out : List ℕ) → (range_of f s low high out).reply.more ≤ high

-- (low − 1 keys above 0 lie below low)
abbrev pub RangeOnward : Type 0
RangeOnward =
    (f : Format) (s : List ℕ) (h : Head) (low high room : ℕ) → low ≤ high
    → let r = ranged f s h low high room in
    (length r.items ≤ room)
    × (low - 1 + length r.items ≤ high)
    × ((r.more ≡ 0 → ⊥) → (low - 1 + length r.items < r.more) × (length r.items ≡ room))

abbrev pub SummaryCount : Type 0
SummaryCount = (f : Format) (s : List ℕ) (low high today : ℕ) → (summary_of f s low high today).count ≤ high

-- "it fills a lent output slice with as many whole records as fit, leaves its other words"
abbrev pub RangeInside : Type 0
RangeInside =
    (f : Format) (s : List ℕ) (low high : ℕ) (out : List ℕ)
    → let a = range_of f s low high out in
    (length a.words ≡ length out) × (drop (words f * a.reply.count) a.words ≡ drop (words f * a.reply.count) out)

abbrev pub SummaryKey : Type 0
SummaryKey = (f : Format) (s : List ℕ) (low high today : ℕ) → (summary_of f s low high today).key ≤ high

abbrev pub RangeRefusals : Type 0
RangeRefusals =
    (f : Format) (s : List ℕ) (low high : ℕ) (out : List ℕ) → ((range_of f s low high out).reply.number ≡ 0 → ⊥)
    → ((range_of f s low high out).reply ≡ range_refused (range_of f s low high out).reply.number) × ((range_of f s low high out).words ≡ out)

abbrev pub SummaryRefusals : Type 0
SummaryRefusals =
    (f : Format) (s : List ℕ) (low high today : ℕ) → ((summary_of f s low high today).number ≡ 0 → ⊥)
    → ((summary_of f s low high today).count ≡ 0) × ((summary_of f s low high today).total ≡ 0) × ((summary_of f s low high today).key ≡ 0)
