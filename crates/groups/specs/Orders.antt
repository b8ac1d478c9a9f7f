-- A set entered in an order.
--   order_of n     == the orders by their numbers: ascending, descending, as drawn, with a stride
--   placed_in list drawn order i == the record at place i of an order
--   entered_once p r == an entry that is to be done; levels and blocks are compared at the end
--   entered_from list drawn order p i n == n entries of an order, from place i on
--   Filled, filled_in list drawn st order p == a store set up and the set entered; the size
--   compared_in first list p == the listing is the list, and the tree is that of the first store
--   ordered_from first list drawn st p order n == n orders, each in the second store
use Rattle.std.specs.Prelude.{true, false, List, [], ◌∷◌, ℕ, ◌+◌, ◌-◌, ◌*◌, ◌%◌, ◌^◌, min, eqb, ltb}
use Rattle.plot.specs.declared.Record.{Record}
use Rattle.store.specs.Head.{word}
use Rattle.raw.specs.Steps.{steps}
use Rattle.raw.specs.Twins.{same_tree}
use Rattle.harness.specs.Calls.{given, entry_of, ran_of, reply_to}
use Rattle.harness.specs.Tally.{counted, tried, judged}
use Rattle.harness.specs.Script.{Played, both}
use Rattle.model.specs.Model.{record_at}
use Rattle.groups.specs.declared.orders.Order.{Order}
use Rattle.groups.specs.declared.orders.Order.TheVariants.{Ascending, Descending, Drawn, Stride}
use Rattle.groups.specs.declared.sets.Setting.{Setting}
use Rattle.groups.specs.Sets.{set_up_call, parts_of}

abbrev pub order_of : ℕ → Order
order_of n =
    elim (eqb n 0) [
      | true ↦ Ascending
      | false ↦ elim (eqb n 1) [ true ↦ Descending | false ↦ elim (eqb n 2) [ true ↦ Drawn | false ↦ Stride ] ]
    ]

unfoldable pub placed_in : List ℕ → List ℕ → Order → ℕ → Record
placed_in list drawn order i =
    let n = word list 0 in
    let stride : ℕ = elim (eqb n 0) [ true ↦ 0 | false ↦ i * 7919 % n ] in
    elim order [
      | Ascending ↦ record_at list i
      | Descending ↦ record_at list (n - min (i + 1) (2 ^ 32 - 1))
      | Drawn ↦ record_at drawn i
      | Stride ↦ record_at list stride
    ]

unfoldable pub entered_once : Played → Record → Played
entered_once p r =
    let c = entry_of r in
    let got = reply_to c p.store (0 ∷ []) in
    let t = judged p.tally (given r.key got.b got.c got.d) got in
    both (ran_of c p.store (0 ∷ [])).store (elim (eqb got.number 0) [ true ↦ counted t 3 | false ↦ t ])

unfoldable pub entered_from : List ℕ → List ℕ → Order → Played → ℕ → ℕ → Played
entered_from list drawn order = steps (λ p i. entered_once p (placed_in list drawn order i))

pub record Filled : Type 0 where
  pub size : ℕ
  pub played : Played

unfoldable pub filled_in : List ℕ → List ℕ → Setting → Order → Played → Filled
filled_in list drawn st order p =
    let c = set_up_call st in
    let size = (reply_to c p.store (0 ∷ [])).a % 2 ^ 32 in
    let s = (ran_of c p.store (0 ∷ [])).store in
    record { size = size; played = entered_from list drawn order (both s (tried p.tally (ltb 0 size))) 0 (word list 0) }

unfoldable pub compared_in : List ℕ → List ℕ → Played → Played
compared_in first list p =
    let q = parts_of list 1023 p in
    both q.store (tried q.tally (same_tree first q.store))

unfoldable pub ordered_from : List ℕ → List ℕ → List ℕ → Setting → Played → ℕ → ℕ → Played
ordered_from first list drawn st = steps (λ p k. compared_in first list (filled_in list drawn st (order_of k) p).played)
