-- A record of an order, an entry, a store filled and compared, and the loops over them: one law for each step and way out.
use mathlib.Core.Path.{◌≡◌, sym, ap, ap₂, ◌∙◌}
use mathlib.Core.Bool.{Bool, true, false}
use mathlib.Core.List.{List, [], ◌∷◌}
use Prim.Native.Nat.{ℕ, ◌+◌, ◌-◌, ◌*◌, ◌%◌, ◌^◌, ◌≤◌, ◌<◌, min}
use lib.Dec.{eqb, ltb}
use borrow.Author.Tests.{eq-eqb, ne_eqb}
use Rattle.plot.specs.declared.Record.{Record}
use Rattle.store.specs.Head.{word}
use Rattle.raw.specs.Twins.{same_tree}
use Rattle.raw.proofs.Steps.{steps_first, steps_turn, steps_out, first_arm, second_arm}
use Rattle.harness.specs.declared.calls.Call.{Call}
use Rattle.harness.specs.declared.calls.Reply.{Reply}
use Rattle.harness.specs.Calls.{given, entry_of, ran_of, reply_to}
use Rattle.harness.specs.Tally.{counted, tried, judged}
use Rattle.harness.specs.Script.{Played, both}
use Rattle.harness.proofs.ScriptLaws.{whole}
use Rattle.model.specs.Model.{record_at}
use Rattle.groups.specs.declared.orders.Order.{Order}
use Rattle.groups.specs.declared.orders.Order.TheVariants.{Ascending, Descending, Drawn, Stride}
use Rattle.groups.specs.declared.sets.Setting.{Setting}
use Rattle.groups.specs.Sets.{set_up_call, parts_of}
use Rattle.groups.specs.Orders.{order_of, placed_in, entered_once, entered_from, filled_in, compared_in, ordered_from}

-- the record at a place: ascending, descending, as drawn, with a stride
module _ (list drawn : List ℕ) (order : Order) (i : ℕ) where
  pub placed_up : {r : Record} → order ≡ Ascending → r ≡ record_at list i → r ≡ placed_in list drawn order i
  unfolding placed_in
  placed_up e er = rw (e, placed_in) er

  pub placed_down : {n k m : ℕ} {r : Record} → order ≡ Descending
      → n ≡ word list 0 → k ≡ min (i + 1) (2 ^ 32 - 1) → m ≡ n - k → r ≡ record_at list m → r ≡ placed_in list drawn order i
  unfolding placed_in
  placed_down e en ek em er = rw (e, placed_in) (er ∙ ap (record_at list) (em ∙ ap₂ ◌-◌ en ek))

  pub placed_drawn : {r : Record} → order ≡ Drawn → r ≡ record_at drawn i → r ≡ placed_in list drawn order i
  unfolding placed_in
  placed_drawn e er = rw (e, placed_in) er

  pub placed_stride : {n p k : ℕ} {r : Record} → order ≡ Stride
      → n ≡ word list 0 → p ≡ i * 7919 → k ≡ elim (eqb n 0) [ true ↦ 0 | false ↦ p % n ] → r ≡ record_at list k
      → r ≡ placed_in list drawn order i
  unfolding placed_in
  placed_stride e en ep ek er =
      let stride : ℕ → ℕ → ℕ = λ (n : ℕ) (p : ℕ). elim (eqb n 0) [ true ↦ 0 | false ↦ p % n ] in
      rw (e, placed_in) (er ∙ ap (record_at list) (ek ∙ ap₂ stride en ep))

-- an entry that is done, and one that is not
module _ (s t : List ℕ) (r : Record) {c : Call} {got x : Reply} {u v : List ℕ}
    (ec : c ≡ entry_of r) (eg : got ≡ reply_to c s (0 ∷ [])) (eu : u ≡ (ran_of c s (0 ∷ [])).store)
    (ex : x ≡ given r.key got.b got.c got.d) (ev : v ≡ judged t x got) where
  reply_is : got ≡ reply_to (entry_of r) s (0 ∷ [])
  reply_is = eg ∙ ap (λ c. reply_to c s (0 ∷ [])) ec

  store_is : u ≡ (ran_of (entry_of r) s (0 ∷ [])).store
  store_is = eu ∙ ap (λ c. (ran_of c s (0 ∷ [])).store) ec

  tally_is : let g = reply_to (entry_of r) s (0 ∷ []) in v ≡ judged t (given r.key g.b g.c g.d) g
  tally_is = ev ∙ ap (λ x. judged t x got) ex ∙ ap (λ g. judged t (given r.key g.b g.c g.d) g) reply_is

  pub entered_done : {y : List ℕ} → got.number ≡ 0 → y ≡ counted v 3
      → let q = entered_once (both s t) r in (u ≡ q.store) × (y ≡ q.tally)
  unfolding entered_once
  entered_done e ey =
      let test = eq-eqb (reply_to (entry_of r) s (0 ∷ [])).number 0 (sym (ap (λ g. g.number) reply_is) ∙ e) in
      (store_is, ey ∙ ap (λ v. counted v 3) tally_is ∙ first_arm _ _ _ test)

  pub entered_not : (got.number ≡ 0 → ⊥) → let q = entered_once (both s t) r in (u ≡ q.store) × (v ≡ q.tally)
  unfolding entered_once
  entered_not d =
      let test = ne_eqb (reply_to (entry_of r) s (0 ∷ [])).number 0 (λ z. d (ap (λ g. g.number) reply_is ∙ z)) in
      (store_is, tally_is ∙ second_arm _ _ _ test)

-- the entries of an order
pub entered_first : (list drawn : List ℕ) (order : Order) (p : Played) {n : ℕ} → n ≡ word list 0
    → entered_from list drawn order p 0 (n - 0) ≡ entered_from list drawn order p 0 (word list 0)
unfolding entered_from
entered_first list drawn order p {n} e = steps_first _ p n ∙ ap (entered_from list drawn order p 0) e

module _ (list drawn : List ℕ) (order : Order) (s t : List ℕ) (i n : ℕ) {q : Played}
    (h : entered_from list drawn order (both s t) i (n - i) ≡ q) where
  pub entered_turn : {r : Record} {u v : List ℕ} → i < n → r ≡ placed_in list drawn order i
      → (u ≡ (entered_once (both s t) r).store) × (v ≡ (entered_once (both s t) r).tally)
      → entered_from list drawn order (both u v) (i + 1) (n - (i + 1)) ≡ q
  unfolding entered_from
  entered_turn l er w = steps_turn _ (both s t) i n h l (ap₂ both w.0 w.1 ∙ ap (entered_once (both s t)) er)

  pub entered_out : n ≤ i → (s ≡ q.store) × (t ≡ q.tally)
  unfolding entered_from
  entered_out l = whole (steps_out _ (both s t) i n h l)

-- a store set up and the set entered
pub filled_in_lem : (list drawn : List ℕ) (st : Setting) (order : Order) (s t : List ℕ) {n : ℕ} {u v x y : List ℕ}
    → (n ≡ (reply_to (set_up_call st) s (0 ∷ [])).a % 2 ^ 32) × (u ≡ (ran_of (set_up_call st) s (0 ∷ [])).store)
    → v ≡ tried t (ltb 0 n)
    → (let q = entered_from list drawn order (both u v) 0 (word list 0) in (x ≡ q.store) × (y ≡ q.tally))
    → let q = filled_in list drawn st order (both s t) in (n ≡ q.size) × (x ≡ q.played.store) × (y ≡ q.played.tally)
unfolding filled_in
filled_in_lem list drawn st order s t w ev e =
    let p = ap₂ both w.1 (ev ∙ ap (λ n. tried t (ltb 0 n)) w.0) in
    let f = ap (λ p. entered_from list drawn order p 0 (word list 0)) p in
    (w.0, e.0 ∙ ap (λ q. q.store) f, e.1 ∙ ap (λ q. q.tally) f)

-- the parts listed and the trees compared
pub compared_in_lem : (first list s t : List ℕ) {b : Bool} {u v w : List ℕ}
    → (let q = parts_of list 1023 (both s t) in (u ≡ q.store) × (v ≡ q.tally)) → b ≡ same_tree first u → w ≡ tried v b
    → let q = compared_in first list (both s t) in (u ≡ q.store) × (w ≡ q.tally)
unfolding compared_in
compared_in_lem first list s t e eb ew = (e.0, ew ∙ ap₂ tried e.1 (eb ∙ ap (same_tree first) e.0))

-- the other orders of a set
module _ (first list drawn : List ℕ) (st : Setting) (s t : List ℕ) (order : ℕ) {q : Played}
    (h : ordered_from first list drawn st (both s t) order (4 - order) ≡ q) where
  pub ordered_turn : {n : ℕ} {o : Order} {x y u v : List ℕ} → order < 4 → o ≡ order_of order
      → (let q = filled_in list drawn st o (both s t) in (n ≡ q.size) × (x ≡ q.played.store) × (y ≡ q.played.tally))
      → (let q = compared_in first list (both x y) in (u ≡ q.store) × (v ≡ q.tally))
      → ordered_from first list drawn st (both u v) (order + 1) (4 - (order + 1)) ≡ q
  unfolding ordered_from
  ordered_turn l eo f e =
      steps_turn _ (both s t) order 4 h l
      (ap₂ both e.0 e.1 ∙ ap (compared_in first list) (ap₂ both f.1 f.2 ∙ ap (λ o. (filled_in list drawn st o (both s t)).played) eo))

  pub ordered_out : 4 ≤ order → (s ≡ q.store) × (t ≡ q.tally)
  unfolding ordered_from
  ordered_out l = whole (steps_out _ (both s t) order 4 h l)
