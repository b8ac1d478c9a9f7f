-- What is left of a price. Document 01, "Plots and money".
--   days_left lease last today           == the days of a lease that are left
--   amount price lease last today       == the balance in pence
--   Reply                               == an answer by document 01's number, with its value (0 for a refusal)
--   reply b                             == document 01's number and value for an answer of `balance`
--   balance_reply price lease last today == what the call `balance` is to reply
use Rattle.std.specs.Prelude.{Result, Ok, Err, true, false, ◌&&◌, ℕ, ◌+◌, ◌-◌, ◌*◌, ◌/◌, min, eqb}
use Rattle.answers.specs.declared.Refusal.{Refusal}
use Rattle.answers.specs.Answers.{number}
use Rattle.plot.specs.Plot.{lawful_day, lawful_term}

-- M-104: "Days left become last day − today + 1 when today is at or before the last day, 0 after it, still capped at the lease days."
-- (A difference of natural numbers is 0 where today is past the last day.)
unfoldable pub days_left : ℕ → ℕ → ℕ → ℕ
days_left lease last today = min (last + 1 - today) lease

-- "Balance = price × days left / lease days, rounded down; 0 if perpetual."
unfoldable pub amount : ℕ → ℕ → ℕ → ℕ → ℕ
amount price lease last today = elim (eqb lease 0) [ true ↦ 0 | false ↦ price * days_left lease last today / lease ]

pub record Reply : Type 0 where
  pub number : ℕ
  pub value : ℕ

abbrev pub reply : Result ℕ Refusal → Reply
reply (Ok p) = record { number = 0; value = p }
reply (Err e) = record { number = number e; value = 0 }

-- "Balance has no store and tests 6 only": the lease days, the last day and today.
unfoldable pub balance_reply : ℕ → ℕ → ℕ → ℕ → Reply
balance_reply price lease last today =
    elim (lawful_term lease last && lawful_day today) [
      | true ↦ record { number = 0; value = amount price lease last today }
      | false ↦ record { number = 6; value = 0 }
    ]
