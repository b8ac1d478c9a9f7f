-- A summary's running totals. Document 01, "Reading": "Summary .. is one running sheet, brought up to date record by record: count, total
-- balance (64 bits), and the key of the earliest last day among leased records (lease days above 0, ended ones too), 0 if none."
--   no_totals          == the totals of no record
--   worth it today    == the balance of a record
--   ahead it day price == the record it ends before the day, or on it at a higher price
--   earlier t it      == the record it is leased, and the first to end so far
--   updated_of t it today == the totals t with the record it
--   totals_of t its today == the totals t with the records its, one after another
--   Bounded t         == each record counted has added at most 2^32 − 1
--   Room t it today   == the record it has a lawful term, and with it nothing overflows
use Rattle.std.specs.Prelude.{Bool, true, false, not, ◌&&◌, ◌||◌, ◌≡◌, List, [], ◌∷◌, ℕ, ◌+◌, ◌-◌, ◌*◌, ◌≤◌, ◌<◌, ◌^◌, eqb, ltb}
use Rattle.plot.specs.Plot.{lawful_day, lawful_term}
use Rattle.plot.specs.Money.{balance_reply}
use Rattle.store.specs.declared.Item.{Item}
use Rattle.totals.specs.declared.Totals.{Totals}

unfoldable pub no_totals : Totals
no_totals = record { count = 0; total = 0; key = 0; last = 0; price = 0 }

unfoldable pub worth : Item → ℕ → ℕ
worth it today = (balance_reply it.price it.lease it.last today).value

-- M-100: "The earliest key of a summary, among equal last days, is now that of the highest price, and the lowest key only where prices are
-- equal too."
unfoldable pub ahead : Item → ℕ → ℕ → Bool
ahead it day price = ltb it.last day || (eqb it.last day && ltb price it.price)

-- Records come in ascending key order, so of those with equal last days and prices the first one stays. (Key 0 is never held: 0 means none
-- yet.)
unfoldable pub earlier : Totals → Item → Bool
earlier t it = not (eqb it.lease 0) && (eqb t.key 0 || ahead it t.last t.price)

unfoldable pub updated_of : Totals → Item → ℕ → Totals
updated_of t it today =
    let n : ℕ = t.count + 1 in
    let sum : ℕ = t.total + worth it today in
    elim (earlier t it) [
      | true ↦ record { count = n; total = sum; key = it.key; last = it.last; price = it.price }
      | false ↦ record { count = n; total = sum; key = t.key; last = t.last; price = t.price }
    ]

unfoldable pub totals_of : Totals → List Item → ℕ → Totals
totals_of t [] today = t
totals_of t (it ∷ its) today = totals_of (updated_of t it today) its today

abbrev pub Bounded : Totals → Type 0
Bounded t = t.total ≤ t.count * (2 ^ 32 - 1)

pub record Room (t : Totals) (it : Item) (today : ℕ) : Type 0 where
  pub count : t.count + 1 < 2 ^ 64
  pub total : t.total + 2 ^ 32 ≤ 2 ^ 64
  pub term : lawful_term it.lease it.last ≡ true
  pub day : lawful_day today ≡ true
