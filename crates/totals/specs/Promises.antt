-- What holds of a summary's totals, as document 01 has it. `proofs/Promises.antt` proves each: `CountAndTotal` as `count_and_total` and
-- `EarliestKey` as `earliest_key_lem`.
--   worths its today == the balances of the records its together
--   CountAndTotal    == of a list of records the count is its length and the total its balances together
--   NoneLeased its k == no record of its is leased, and k is 0
--   Earliest its k   == k is the key of the leased record of its with the earliest last day; of several, that with the highest price, and
--                       of several again that with the lowest key
--   EarliestOf its k == the one or the other
--   EarliestKey      == of records in ascending key order the key is that of the earliest last day among leased ones, 0 if none is leased
use Rattle.std.specs.Prelude.{◌≡◌, ◌⊎◌, ℕ, ◌+◌, ◌≤◌, length}
use mathlib.Core.List.{List, [], ◌∷◌, Memᴰ}
use Rattle.lists.specs.Lists.{All}
use Rattle.lists.specs.Keyed.{Sorted, Lacks}
use Rattle.store.specs.declared.Item.{Item}
use Rattle.totals.specs.Totals.{no_totals, worth, totals_of}

abbrev pub worths : List Item → ℕ → ℕ
worths [] today = 0
worths (it ∷ its) today = worth it today + worths its today

-- "count, total balance (64 bits)"
abbrev pub CountAndTotal : Type 0
CountAndTotal =
    (its : List Item) (today : ℕ) →
    ((totals_of no_totals its today).count ≡ length its) × ((totals_of no_totals its today).total ≡ worths its today)

pub record NoneLeased (its : List Item) (k : ℕ) : Type 0 where
  pub perpetual : All (λ it. it.lease ≡ 0) its
  pub key : k ≡ 0

pub record Earliest (its : List Item) (k : ℕ) : Type 0 where
  pub item : Item
  pub held : Memᴰ item its
  pub leased : item.lease ≡ 0 → ⊥
  pub key : k ≡ item.key
  pub first : All (λ it. (it.lease ≡ 0 → ⊥) → item.last ≤ it.last) its
  pub dearest : All (λ it. (it.lease ≡ 0 → ⊥) → it.last ≡ item.last → it.price ≤ item.price) its
  pub lowest : All (λ it. (it.lease ≡ 0 → ⊥) → it.last ≡ item.last → it.price ≡ item.price → item.key ≤ it.key) its

-- "the key of the earliest last day among leased records (lease days above 0, ended ones too), 0 if none." M-100: "among equal last days
-- .. that of the highest price, and the lowest key only where prices are equal too."
abbrev pub EarliestOf : List Item → ℕ → Type 0
EarliestOf its k = NoneLeased its k ⊎ Earliest its k

abbrev pub EarliestKey : Type 0
EarliestKey =
    (its : List Item) (today : ℕ) →
    Sorted (λ it. it.key) its →
    Lacks (λ it. it.key) 0 its →
    EarliestOf its (totals_of no_totals its today).key
