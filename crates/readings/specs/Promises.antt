-- What is promised of the readings of a store that holds a set, each as a type; proofs/Promises.antt proves them.
--   FindReads, NextReads, RangeReads, SummaryReads == the readings are those of the ascending list
--   RangedReads      == so are the records that a range lists
--   Summarised its today a == a is the summary of the records its: how many, their balances together, the earliest key
--   SummaryOutright  == a summary that is not refused is that of the held records from low to high
--   FindZero         == find with the key 0, which no record has, gives none
--   NextZero         == next with the key 0 gives the first record, or none
--   LedTo f s it     == the descent with the record's key ends at a page that has the record
--   OwnBitsLead      == so it does for each held record
--   Sound n          == the answer n is neither 3 nor 9
--   Undamaged        == no reading of the store is refused with 3 or 9
--   NoDamage         == a store that holds a set is undamaged
--   ClausesHold      == a store that holds a set keeps the report's five clauses
use Rattle.std.specs.Prelude.{◌≡◌, true, ℕ, ◌^◌, ◌≤◌, ◌<◌, length}
use mathlib.Core.List.{List, Memᴰ}
use Rattle.plot.specs.Plot.{lawful_day}
use Rattle.store.specs.declared.Format.{Format}
use Rattle.store.specs.declared.Item.{Item}
use Rattle.store.specs.Format.{width}
use Rattle.store.specs.Head.{head_of, page_at}
use Rattle.page.specs.Page.{count, item_at}
use Rattle.totals.specs.Promises.{worths, EarliestOf}
use Rattle.search.specs.Descent.{descent}
use Rattle.search.specs.Find.{no_item, sought_reply, find_reply}
use Rattle.search.specs.Next.{next_reply}
use Rattle.scan.specs.Range.{ranged, range_of}
use Rattle.scan.specs.Summary.{SummaryReply, summary_of}
use Rattle.represent.specs.Rep.{Holds}
use Rattle.readings.specs.Listing.{first_of, find_in, next_in, within, ranged_in, range_in, summary_in}
use Rattle.readings.specs.Clauses.{Clauses}

-- "count, total balance (64 bits), and the key of the earliest last day among leased records (lease days above 0, ended ones too), 0 if
-- none." M-100: "among equal last days .. that of the highest price, and the lowest key only where prices are equal too."
pub record Summarised (its : List Item) (today : ℕ) (a : SummaryReply) : Type 0 where
  pub number : a.number ≡ 0
  pub count : a.count ≡ length its
  pub total : a.total ≡ worths its today
  pub key : EarliestOf its a.key

-- an answer that is neither 3 nor 9
pub record Sound (n : ℕ) : Type 0 where
  pub head : n ≡ 3 → ⊥
  pub blocks : n ≡ 9 → ⊥

-- "its own bits lead to each held record"
pub record LedTo (f : Format) (s : List ℕ) (it : Item) : Type 0 where
  pub sound : (descent f s (head_of s) it.key).ok ≡ true
  pub some : 1 ≤ (descent f s (head_of s) it.key).page
  pub place : ℕ
  pub inside : place < count (page_at f s (head_of s) (descent f s (head_of s) it.key).page)
  pub there : item_at f (page_at f s (head_of s) (descent f s (head_of s) it.key).page) place ≡ it

module _ (f : Format) (s : List ℕ) (S : List Item) where
  abbrev pub FindReads : Type 0
  FindReads = Holds f s S → (k : ℕ) → k < 2 ^ width f → find_reply f s k ≡ find_in S k

  abbrev pub NextReads : Type 0
  NextReads = Holds f s S → (k : ℕ) → k < 2 ^ width f → next_reply f s k ≡ next_in S k

  abbrev pub RangeReads : Type 0
  RangeReads = Holds f s S → (low high : ℕ) (out : List ℕ) → high < 2 ^ width f → range_of f s low high out ≡ range_in f S low high out

  abbrev pub RangedReads : Type 0
  RangedReads =
      Holds f s S → (low high room : ℕ) → low ≤ high → high < 2 ^ width f → ranged f s (head_of s) low high room ≡ ranged_in S low high room

  abbrev pub SummaryReads : Type 0
  SummaryReads = Holds f s S → (low high today : ℕ) → high < 2 ^ width f → summary_of f s low high today ≡ summary_in S low high today

  abbrev pub SummaryOutright : Type 0
  SummaryOutright =
      Holds f s S → (low high today : ℕ) → low ≤ high → high < 2 ^ width f → lawful_day today ≡ true
      → Summarised (within low high S) today (summary_of f s low high today)

  abbrev pub FindZero : Type 0
  FindZero = Holds f s S → find_reply f s 0 ≡ record { number = 1; item = no_item }

  abbrev pub NextZero : Type 0
  NextZero = Holds f s S → next_reply f s 0 ≡ sought_reply (first_of S)

  abbrev pub OwnBitsLead : Type 0
  OwnBitsLead = Holds f s S → (it : Item) → Memᴰ it S → LedTo f s it

  pub record Undamaged : Type 0 where
    pub find : (k : ℕ) → k < 2 ^ width f → Sound (find_reply f s k).number
    pub next : (k : ℕ) → k < 2 ^ width f → Sound (next_reply f s k).number
    pub range : (low high : ℕ) (out : List ℕ) → high < 2 ^ width f → Sound (range_of f s low high out).reply.number
    pub summary : (low high today : ℕ) → high < 2 ^ width f → Sound (summary_of f s low high today).number

  abbrev pub NoDamage : Type 0
  NoDamage = Holds f s S → Undamaged

  abbrev pub ClausesHold : Type 0
  ClausesHold = Holds f s S → Clauses f s
