-- What the readings are to give, read off the ascending list S of the records held.
--   first_where test S     == the first record that passes the test, or none
--   first_of S             == the first record, or none
--   first_key S            == the key of the first record, 0 if there is none
--   within low high S     == the records with keys from low to high
--   ranged_in S low high n == a range with room for n records
--   leased its            == the leased ones of the records its
--   earliest_day its       == the earliest last day of records, 0 for none
--   ending its            == those of the records its that end on it
--   highest_price its      == the highest price of records, 0 for none
--   dearest its           == those of the records its that have it
--   earliest_key its       == the key of the earliest last day among the leased ones, 0 if none is
--   find_in, next_in, range_in, summary_in == the replies
use Rattle.std.specs.Prelude.{Bool, true, false, not, ◌&&◌, List, [], ◌∷◌, ℕ, ◌/◌, min, max, leb, ltb, eqb, length, take, drop}
use Rattle.lists.specs.Lists.{filter}
use Rattle.plot.specs.Plot.{lawful_day}
use Rattle.store.specs.declared.Format.{Format}
use Rattle.store.specs.declared.Item.{Item}
use Rattle.store.specs.Format.{words}
use Rattle.page.specs.Page.{above}
use Rattle.totals.specs.Promises.{worths}
use Rattle.search.specs.Way.{Sought}
use Rattle.search.specs.Way.{Record, Nothing}
use Rattle.search.specs.Find.{Reply, sought_reply}
use Rattle.scan.specs.Range.{Ranged, After, range_refused, listed}
use Rattle.scan.specs.Summary.{SummaryReply, summary_refused}

unfoldable pub first_where : (Item → Bool) → List Item → Sought
first_where test [] = Nothing
first_where test (it ∷ its) = elim (test it) [ true ↦ Record it | false ↦ first_where test its ]

abbrev pub first_of : List Item → Sought
first_of [] = Nothing
first_of (it ∷ its) = Record it

-- "Find gives the record or none."
unfoldable pub find_in : List Item → ℕ → Reply
find_in S k = sought_reply (first_where (λ it. eqb it.key k) S)

-- "Next gives the smallest key above the given one .. or none." (S ascends: the smallest is the first.)
unfoldable pub next_in : List Item → ℕ → Reply
next_in S k = sought_reply (first_where (λ it. above true k it.key) S)

unfoldable pub within : ℕ → ℕ → List Item → List Item
within low high = filter (λ it. leb low it.key && leb it.key high)

-- the key of the first record, 0 if there is none
unfoldable pub first_key : List Item → ℕ
first_key [] = 0
first_key (it ∷ its) = it.key

-- "as many whole records as fit .. and the range's first key not written, or 0"
unfoldable pub ranged_in : List Item → ℕ → ℕ → ℕ → Ranged
ranged_in S low high n = record { ok = true; items = take n (within low high S); more = first_key (drop n (within low high S)) }

unfoldable pub range_in : Format → List Item → ℕ → ℕ → List ℕ → After
range_in f S low high out =
    elim (ltb high low) [
      | true ↦ record { reply = range_refused 7; words = out }
      | false ↦ listed f out (ranged_in S low high (length out / words f))
    ]

-- "leased records (lease days above 0, ended ones too)"
unfoldable pub leased : List Item → List Item
leased = filter (λ it. not (eqb it.lease 0))

unfoldable pub earliest_day : List Item → ℕ
earliest_day [] = 0
earliest_day (it ∷ []) = it.last
earliest_day (it ∷ x ∷ its) = min it.last (earliest_day (x ∷ its))

unfoldable pub ending : List Item → List Item
ending its = filter (λ it. eqb it.last (earliest_day its)) its

unfoldable pub highest_price : List Item → ℕ
highest_price [] = 0
highest_price (it ∷ its) = max it.price (highest_price its)

unfoldable pub dearest : List Item → List Item
dearest its = filter (λ it. eqb it.price (highest_price its)) its

-- "the key of the earliest last day among leased records .., 0 if none." M-100: "among equal last days .. that of the highest price, and
-- the lowest key only where prices are equal too." (The list ascends: the first of them.)
unfoldable pub earliest_key : List Item → ℕ
earliest_key its = first_key (dearest (ending (leased its)))

-- "count, total balance (64 bits), and the key of the earliest last day"
unfoldable pub summary_in : List Item → ℕ → ℕ → ℕ → SummaryReply
summary_in S low high today =
    elim (ltb high low) [
      | true ↦ summary_refused 7
      | false ↦
          elim (lawful_day today) [
            | false ↦ summary_refused 6
            | true ↦
                record {
                  number = 0;
                  count = length (within low high S);
                  total = worths (within low high S) today;
                  key = earliest_key (within low high S);
                }
          ]
    ]
