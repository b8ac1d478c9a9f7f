-- Summary. Document 01, "Reading".
--   done t, damage       == a summary's end with the totals t, and where damage was met
--   summing_of ok t       == the one or the other
--   sum_from f s h high today fuel strict k t == the totals t with the records from the key k to high
--   summed f s h low high today == the totals from low to high
--   SummaryReply, summary_reply == document 01's number and values for what summary returns
--   summary_of f s low high today == what summary is to reply
--   summary_refused n     == the reply of a refusal with the number n
--   summing_reply r       == the reply to a walk that has ended
use Rattle.std.specs.Prelude.{Result, Ok, Err, Bool, true, false, List, ℕ, zero, suc, ◌+◌, ◌-◌, ltb, eqb}
use Rattle.answers.specs.declared.Refusal.{Refusal}
use Rattle.answers.specs.Answers.{number}
use Rattle.plot.specs.Plot.{lawful_day}
use Rattle.store.specs.declared.Format.{Format}
use Rattle.store.specs.declared.Head.{Head}
use Rattle.store.specs.Head.{head_of, head_rule}
use Rattle.totals.specs.declared.Totals.{Totals}
use Rattle.totals.specs.Totals.{no_totals, updated_of}
use Rattle.search.specs.Way.{Record, Nothing, Damaged}
use Rattle.search.specs.Next.{next_of}
use Rattle.scan.specs.declared.Summed.{Summed}
use Rattle.scan.specs.Outcome.{Summing}

abbrev pub done : Totals → Summing
done t = record { ok = true; totals = t }

unfoldable pub damage : Summing
damage = record { ok = false; totals = no_totals }

unfoldable pub summing_of : Bool → Totals → Summing
summing_of true t = done t
summing_of false t = damage

unfoldable pub sum_from : Format → List ℕ → Head → ℕ → ℕ → ℕ → Bool → ℕ → Totals → Summing
sum_from f s h high today zero strict k t = done t
sum_from f s h high today (suc fuel) strict k t =
    elim (next_of f s h strict k) [
      | Damaged ↦ damage
      | Nothing ↦ done t
      | Record it ↦
          elim (ltb high it.key) [
            | true ↦ done t
            | false ↦
                elim (eqb it.key high) [
                  | true ↦ done (updated_of t it today)
                  | false ↦ sum_from f s h high today fuel true it.key (updated_of t it today)
                ]
          ]
    ]

-- "Summary over low, high and today is one running sheet, brought up to date record by record"
unfoldable pub summed : Format → List ℕ → Head → ℕ → ℕ → ℕ → Summing
summed f s h low high today = sum_from f s h high today (high + 1 - low + 1) false low no_totals

pub record SummaryReply : Type 0 where
  pub number : ℕ
  pub count : ℕ
  pub total : ℕ
  pub key : ℕ

abbrev pub summary_refused : ℕ → SummaryReply
summary_refused n = record { number = n; count = 0; total = 0; key = 0 }

abbrev pub summary_reply : Result Summed Refusal → SummaryReply
summary_reply (Ok t) = record { number = 0; count = t.count; total = t.total; key = t.key }
summary_reply (Err e) = summary_refused (number e)

abbrev pub summing_reply : Summing → SummaryReply
summing_reply r =
    elim r.ok [
      | true ↦ record { number = 0; count = r.totals.count; total = r.totals.total; key = r.totals.key }
      | false ↦ summary_refused 9
    ]

-- "the others 3, 7, 6, then 9, 8, 10"
unfoldable pub summary_of : Format → List ℕ → ℕ → ℕ → ℕ → SummaryReply
summary_of f s low high today =
    elim (head_rule f s) [
      | false ↦ summary_refused 3
      | true ↦
          elim (ltb high low) [
            | true ↦ summary_refused 7
            | false ↦
                elim (lawful_day today) [
                  | false ↦ summary_refused 6
                  | true ↦ summing_reply (summed f s (head_of s) low high today)
                ]
          ]
    ]
