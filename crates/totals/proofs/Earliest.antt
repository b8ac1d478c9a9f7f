-- The first to end, down a list of records in ascending key order: totals that have a key keep it unless a record is ahead of theirs, so
-- among equal last days and prices the first record stays, which has the lowest key.
use mathlib.Core.Bool.{true, false}
use mathlib.Core.Path.{◌≡◌, refl, sym, ap, ◌∙◌}
use mathlib.Core.List.Memᴰ
use mathlib.Core.List.{List, [], ◌∷◌}
use mathlib.Core.Logic.{◌⊎◌, inl, inr}
use Prim.Native.Nat.{ℕ, ◌≤◌, ◌<◌}
use native.Mathlib.Decide.{ℕ_discrete}
use native.Mathlib.Omega.{arith}
use Rattle.lists.specs.Lists.{All}
use Rattle.lists.specs.Keyed.{Sorted, Lacks}
use Rattle.lists.proofs.Cases.{bool_cases}
use Rattle.lists.proofs.ListLaws.{all_map}
use Rattle.store.specs.declared.Item.{Item}
use Rattle.totals.specs.declared.Totals.{Totals}
use Rattle.totals.specs.Totals.{earlier, updated_of, totals_of}
use Rattle.totals.specs.Promises.{NoneLeased, Earliest, EarliestOf}
use Rattle.totals.proofs.Laws.{Ahead, Behind, earlier_leased, earlier_before, later_after, updated_taken, updated_kept}

abbrev Leased : Item → Type 0
Leased it = it.lease ≡ 0 → ⊥

-- What becomes of totals t that have a key, after the records its: u still has it, or a record was ahead of t.
record Kept (its : List Item) (t u : Totals) : Type 0 where
  key : u.key ≡ t.key
  last : u.last ≡ t.last
  price : u.price ≡ t.price
  behind : All (λ it. Leased it → Behind it t.last t.price) its

-- u has the key, the last day and the price of the first record to end.
record Dated (its : List Item) (u : Totals) : Type 0 where
  earliest : Earliest its u.key
  last : u.last ≡ earliest.item.last
  price : u.price ≡ earliest.item.price

record Beaten (its : List Item) (t u : Totals) : Type 0 where
  dated : Dated its u
  ahead : Ahead u.last u.price t.last t.price

module _ {a p b q : ℕ} where
  ahead_trans : {c r : ℕ} → Ahead a p b q → Ahead b q c r → Ahead a p c r
  ahead_trans (inl h) (inl k) = inl (omega arith)
  ahead_trans (inl h) (inr k) = inl (omega arith)
  ahead_trans (inr h) (inl k) = inl (omega arith)
  ahead_trans (inr h) (inr k) = inr (omega arith, omega arith)

  ahead_behind : (it : Item) → Ahead a p b q → Behind it b q → Ahead a p it.last it.price
  ahead_behind it (inl h) k = inl (omega (arith, k.later))
  ahead_behind it (inr h) k =
      elim (ℕ_discrete it.last b) [
        | yes e ↦ inr (omega arith, omega (arith, k.cheaper e))
        | no e ↦ inl (omega (arith, k.later))
      ]

  no_later : Ahead a p b q → a ≤ b
  no_later (inl h) = omega arith
  no_later (inr h) = omega arith

  no_dearer : Ahead a p b q → b ≡ a → q ≤ p
  no_dearer (inl h) e = absurd (omega arith)
  no_dearer (inr h) e = omega arith

  not_same : Ahead a p b q → b ≡ a → q ≡ p → ⊥
  not_same (inl h) e f = omega arith
  not_same (inr h) e f = omega arith

-- a record in front that is perpetual or behind
past : (it : Item) (its : List Item) {u : Totals} → Dated its u → (Leased it → Ahead u.last u.price it.last it.price)
    → Dated (it ∷ its) u
past it its d h =
    let e = d.earliest in
    record {
      earliest = record {
        item = e.item;
        held = Memᴰ.tail e.held;
        leased = e.leased;
        key = e.key;
        first = (λ l. omega (arith, d.last, no_later (h l)), e.first);
        dearest = (λ l q. omega (arith, d.price, no_dearer (h l) (q ∙ sym d.last)), e.dearest);
        lowest = (λ l q r. absurd (not_same (h l) (q ∙ sym d.last) (r ∙ sym d.price)), e.lowest);
      };
      last = d.last;
      price = d.price;
    }

module _ (today : ℕ) where
  module _ (t : Totals) (it : Item) where
    abbrev next : Totals
    next = updated_of t it today

    module _ (e : earlier t it ≡ false) where
      kept_key : next.key ≡ t.key
      kept_key = ap (λ (u : Totals). u.key) (updated_kept t it today e)

      kept_last : next.last ≡ t.last
      kept_last = ap (λ (u : Totals). u.last) (updated_kept t it today e)

      kept_price : next.price ≡ t.price
      kept_price = ap (λ (u : Totals). u.price) (updated_kept t it today e)

    module _ (e : earlier t it ≡ true) where
      taken_key : next.key ≡ it.key
      taken_key = ap (λ (u : Totals). u.key) (updated_taken t it today e)

      taken_last : next.last ≡ it.last
      taken_last = ap (λ (u : Totals). u.last) (updated_taken t it today e)

      taken_price : next.price ≡ it.price
      taken_price = ap (λ (u : Totals). u.price) (updated_taken t it today e)

      -- a record in front that was taken
      in_front : (its : List Item) {u : Totals} → All (λ x. it.key < x.key) its → Kept its next u ⊎ Beaten its next u → Dated (it ∷ its) u
      in_front its above (inl w) =
          let w' : All (λ x. Leased x → Behind x it.last it.price) its = rw (taken_last, taken_price) at w.behind in
          record {
            earliest = record {
              item = it;
              held = Memᴰ.head refl;
              leased = earlier_leased t it e;
              key = w.key ∙ taken_key;
              first = (λ _. omega arith, all_map _ (λ x. Leased x → it.last ≤ x.last) its (λ x h l. (h l).later) w');
              dearest = (
                λ _ _. omega arith,
                all_map _ (λ x. Leased x → x.last ≡ it.last → x.price ≤ it.price) its (λ x h l. (h l).cheaper) w',
              );
              lowest = (
                λ _ _ _. omega arith,
                all_map (λ x. it.key < x.key) (λ x. Leased x → x.last ≡ it.last → x.price ≡ it.price → it.key ≤ x.key) its
                    (λ x h _ _ _. omega arith) above,
              );
            };
            last = w.last ∙ taken_last;
            price = w.price ∙ taken_price;
          }
      in_front its above (inr b) = past it its b.dated (λ _. rw (taken_last, taken_price) at b.ahead)

      -- and what it is ahead of
      ahead_of : (its : List Item) {u : Totals} {c r : ℕ} → Kept its next u ⊎ Beaten its next u → Ahead it.last it.price c r
          → Ahead u.last u.price c r
      ahead_of its (inl w) h = rw (w.last ∙ taken_last, w.price ∙ taken_price) h
      ahead_of its (inr b) h = ahead_trans (rw (taken_last, taken_price) at b.ahead) h

    -- a record in front that was not taken
    passed_by : (its : List Item) {u : Totals} → earlier t it ≡ false → Kept its next u ⊎ Beaten its next u
        → Kept (it ∷ its) t u ⊎ Beaten (it ∷ its) t u
    passed_by its e (inl w) =
        inl
        record {
          key = w.key ∙ kept_key e;
          last = w.last ∙ kept_last e;
          price = w.price ∙ kept_price e;
          behind = (λ l. (later_after t it e l).1, rw (kept_last e, kept_price e) at w.behind);
        }
    passed_by its e (inr b) =
        let ahead = rw (kept_last e, kept_price e) at b.ahead in
        inr record { dated = past it its b.dated (λ l. ahead_behind it ahead (later_after t it e l).1); ahead = ahead }

  follow :
      (t : Totals) (its : List Item) →
      (t.key ≡ 0 → ⊥) →
      Sorted (λ it. it.key) its →
      Lacks (λ it. it.key) 0 its →
      Kept its t (totals_of t its today) ⊎ Beaten its t (totals_of t its today)
  unfolding totals_of
  follow t [] k s z = inl record { key = refl; last = refl; price = refl; behind = tt }
  follow t (it ∷ its) k s z =
      elim (bool_cases (earlier t it)) [
        | inl e ↦
            let f = follow (updated_of t it today) its (rw (taken_key t it e) z.0) s.1 z.1 in
            inr record { dated = in_front t it e its s.0 f; ahead = ahead_of t it e its f (earlier_before t it e k) }
        | inr e ↦ passed_by t it its e (follow (updated_of t it today) its (rw (kept_key t it e) k) s.1 z.1)
      ]

  -- totals that have no key yet
  first_key_lem :
      (t : Totals) (its : List Item) →
      t.key ≡ 0 →
      Sorted (λ it. it.key) its →
      Lacks (λ it. it.key) 0 its →
      NoneLeased its (totals_of t its today).key ⊎ Dated its (totals_of t its today)
  unfolding totals_of
  first_key_lem t [] k s z = inl record { perpetual = tt; key = k }
  first_key_lem t (it ∷ its) k s z =
      elim (bool_cases (earlier t it)) [
        | inl e ↦
            inr (in_front t it e its s.0 (follow (updated_of t it today) its (rw (taken_key t it e) z.0) s.1 z.1))
        | inr e ↦
            elim (first_key_lem (updated_of t it today) its (kept_key t it e ∙ k) s.1 z.1) [
              | inl n ↦
                  inl
                  record {
                    perpetual = (elim (ℕ_discrete it.lease 0) [ yes h ↦ h | no h ↦ absurd ((later_after t it e h).0 k) ], n.perpetual);
                    key = n.key;
                  }
              | inr b ↦ inr (past it its b (λ l. absurd ((later_after t it e l).0 k)))
            ]
      ]

  pub from_none : (t : Totals) (its : List Item) → t.key ≡ 0 → Sorted (λ it. it.key) its → Lacks (λ it. it.key) 0 its
      → EarliestOf its (totals_of t its today).key
  from_none t its k s z = elim (first_key_lem t its k s z) [ inl n ↦ inl n | inr d ↦ inr d.earliest ]
