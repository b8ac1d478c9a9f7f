-- Range. Document 01, "Reading".
--   Ranged               == whether no damage was met, the records to be written, and the first key not written, 0 if none
--   range_from f s h high fuel strict k room == the records from the key k to high, with room for so many
--   ranged f s h low high room == the same from low on
--   listing r            == a range's outcome without its records
--   listing_of ok n       == the outcome after n records with no further one
--   firsts f s h strict k n == the first n records from the key k on
--   RangeReply, range_reply == document 01's number and values for what range returns
--   range_of f s low high out == what range replies and the output words after it
--   ended, broken, also it r == a range that is over, one that met damage, one with a record in front
--   range_refused n       == the reply of a refusal with the number n
--   After, listed        == a reply with the output words; what a walk that has ended replies and writes
use Rattle.std.specs.Prelude.{Result, Ok, Err, Bool, true, false, List, [], ◌∷◌, ◌++◌, ℕ, zero, suc, ◌+◌, ◌-◌, ◌*◌, ◌/◌, ltb, eqb, length, drop}
use Rattle.answers.specs.declared.Refusal.{Refusal}
use Rattle.answers.specs.Answers.{number}
use Rattle.store.specs.declared.Format.{Format}
use Rattle.store.specs.declared.Head.{Head}
use Rattle.store.specs.declared.Item.{Item}
use Rattle.store.specs.Format.{words}
use Rattle.store.specs.Head.{head_of, head_rule}
use Rattle.page.specs.Page.{flat}
use Rattle.search.specs.Way.{Record, Nothing, Damaged}
use Rattle.search.specs.Next.{next_of}
use Rattle.scan.specs.Outcome.{Listing}

pub record Ranged : Type 0 where
  pub ok : Bool
  pub items : List Item
  pub more : ℕ

abbrev pub ended : Ranged
ended = record { ok = true; items = []; more = 0 }

abbrev pub broken : Ranged
broken = record { ok = false; items = []; more = 0 }

unfoldable pub also : Item → Ranged → Ranged
also it r = record { ok = r.ok; items = it ∷ r.items; more = r.more }

-- "Range and summary read no further once a key reaches high or passes it, nor does range after its first key not written."
unfoldable pub range_from : Format → List ℕ → Head → ℕ → ℕ → Bool → ℕ → ℕ → Ranged
range_from f s h high zero strict k room = ended
range_from f s h high (suc fuel) strict k room =
    elim (next_of f s h strict k) [
      | Damaged ↦ broken
      | Nothing ↦ ended
      | Record it ↦
          elim (ltb high it.key) [
            | true ↦ ended
            | false ↦
                elim (eqb room 0) [
                  | true ↦ record { ok = true; items = []; more = it.key }
                  | false ↦
                      elim (eqb it.key high) [
                        | true ↦ record { ok = true; items = it ∷ []; more = 0 }
                        | false ↦ also it (range_from f s h high fuel true it.key (room - 1))
                      ]
                ]
          ]
    ]

-- "Range, low to high, is the first key at or above low, reached by a descent with low, then next repeated, each time from the root"
unfoldable pub ranged : Format → List ℕ → Head → ℕ → ℕ → ℕ → Ranged
ranged f s h low high room = range_from f s h high (high + 1 - low + 1) false low room

unfoldable pub listing : Ranged → Listing
listing r =
    elim r.ok [
      | true ↦ record { ok = true; count = length r.items; more = r.more }
      | false ↦ record { ok = false; count = 0; more = 0 }
    ]

unfoldable pub listing_of : Bool → ℕ → Listing
listing_of ok n =
    elim ok [
      | true ↦ record { ok = true; count = n; more = 0 }
      | false ↦ record { ok = false; count = 0; more = 0 }
    ]

unfoldable pub firsts : Format → List ℕ → Head → Bool → ℕ → ℕ → List Item
firsts f s h strict k zero = []
firsts f s h strict k (suc n) =
    elim (next_of f s h strict k) [
      | Damaged ↦ []
      | Nothing ↦ []
      | Record it ↦ it ∷ firsts f s h true it.key n
    ]

pub record RangeReply : Type 0 where
  pub number : ℕ
  pub count : ℕ
  pub more : ℕ

abbrev pub range_refused : ℕ → RangeReply
range_refused n = record { number = n; count = 0; more = 0 }

abbrev pub range_reply : Result Rattle.scan.specs.declared.Listing.Listing Refusal → RangeReply
range_reply (Ok l) = record { number = 0; count = l.count; more = l.more }
range_reply (Err e) = range_refused (number e)

pub record After : Type 0 where
  pub reply : RangeReply
  pub words : List ℕ

-- "it fills a lent output slice with as many whole records as fit, leaves its other words, and gives the count and the range's first key
-- not written, or 0"; a damaged store's refusal leaves the output as it was
unfoldable pub listed : Format → List ℕ → Ranged → After
listed f out r =
    elim r.ok [
      | false ↦ record { reply = range_refused 9; words = out }
      | true ↦
          record {
            reply = record { number = 0; count = length r.items; more = r.more };
            words = flat f r.items ++ drop (words f * length r.items) out;
          }
    ]

-- "Set-up tests 4, 5; the others 3, 7, 6, then 9, 8, 10."
unfoldable pub range_of : Format → List ℕ → ℕ → ℕ → List ℕ → After
range_of f s low high out =
    elim (head_rule f s) [
      | false ↦ record { reply = range_refused 3; words = out }
      | true ↦
          elim (ltb high low) [
            | true ↦ record { reply = range_refused 7; words = out }
            | false ↦ listed f out (ranged f s (head_of s) low high (length out / words f))
          ]
    ]
