-- What the functions' proofs, the promises and callers share: a balance is at most the price, what one record does to each total, and that
-- totals with fewer than 2^32 records have room for one more.
use mathlib.Core.Bool.{true, false, ◌&&◌, true≢false}
use mathlib.Core.Path.{◌≡◌, refl, sym, ap, ◌∙◌}
use mathlib.Core.List.{List, [], ◌∷◌}
use mathlib.Core.Logic.{◌⊎◌, inl, inr}
use Prim.Native.Nat.{ℕ, ◌+◌, ◌-◌, ◌^◌, ◌≤◌, ◌<◌}
use native.Mathlib.Omega.{arith}
use lib.Dec.{eqb, ltb}
use lib.ListN.{length}
use borrow.Author.Tests.{eq-eqb, ne_eqb, eqb-true, ltb-true, ltb-false}
use Rattle.lists.proofs.Cases.{bool_cases}
use Rattle.lists.proofs.Tests.{and_true, or_cases, or_none}
use Rattle.plot.specs.Plot.{lawful_day, lawful_term}
use Rattle.plot.specs.Money.{amount, balance_reply}
use Rattle.plot.proofs.Promises.{balance_within_price}
use Rattle.store.specs.declared.Item.{Item}
use Rattle.totals.specs.declared.Totals.{Totals}
use Rattle.totals.specs.Totals.{no_totals, worth, ahead, earlier, updated_of, totals_of, Room, Bounded}
use Rattle.totals.specs.Promises.{worths}

-- The worth of a record with a lawful term is its amount; any record's is at most its price.
pub worth_lawful :
    (it : Item) (today : ℕ) →
    lawful_term it.lease it.last ≡ true →
    lawful_day today ≡ true →
    worth it today ≡ amount it.price it.lease it.last today
unfolding worth balance_reply
worth_lawful it today t d = rw (t, d, worth, balance_reply)

pub worth_within : (it : Item) (today : ℕ) → worth it today ≤ it.price
unfolding worth balance_reply
worth_within it today =
    elim (bool_cases (lawful_term it.lease it.last && lawful_day today)) [
      | inl e ↦ rw (e, worth, balance_reply) (balance_within_price it.price it.lease it.last today)
      | inr e ↦ rw (e, worth, balance_reply) (omega arith)
    ]

-- Of two records' last days and prices: those of the first are ahead.
abbrev pub Ahead : ℕ → ℕ → ℕ → ℕ → Type 0
Ahead day price day' price' = (day < day') ⊎ ((day ≡ day') × (price' < price))

-- A record is not ahead of a day and a price.
pub record Behind (it : Item) (day price : ℕ) : Type 0 where
  pub later : day ≤ it.last
  pub cheaper : it.last ≡ day → it.price ≤ price

module _ (it : Item) (day price : ℕ) where
  pub ahead_is : ahead it day price ≡ true → Ahead it.last it.price day price
  unfolding ahead
  ahead_is e =
      elim (or_cases (ltb it.last day) _ e) [
        | inl h ↦ inl (ltb-true it.last day h)
        | inr h ↦
            let a = and_true (eqb it.last day) (ltb price it.price) h in
            inr (eqb-true it.last day a.0, ltb-true price it.price a.1)
      ]

  pub ahead_not : ahead it day price ≡ false → Behind it day price
  unfolding ahead
  ahead_not e =
      let a = or_none (ltb it.last day) _ e in
      record {
        later = ltb-false it.last day a.0;
        cheaper = λ d. ltb-false price it.price (rw (eq-eqb it.last day d) at a.1);
      }

-- The tests of `earlier`, one after another.
module _ (t : Totals) (it : Item) where
  pub earlier_perpetual : it.lease ≡ 0 → earlier t it ≡ false
  unfolding earlier
  earlier_perpetual h = rw (eq-eqb it.lease 0 h)

  pub earlier_first : (it.lease ≡ 0 → ⊥) → t.key ≡ 0 → earlier t it ≡ true
  unfolding earlier
  earlier_first h k = rw (ne_eqb it.lease 0 h, eq-eqb t.key 0 k)

  pub earlier_test : (it.lease ≡ 0 → ⊥) → (t.key ≡ 0 → ⊥) → earlier t it ≡ ahead it t.last t.price
  unfolding earlier
  earlier_test h k = rw (ne_eqb it.lease 0 h, ne_eqb t.key 0 k)

  pub earlier_leased : earlier t it ≡ true → it.lease ≡ 0 → ⊥
  earlier_leased e h = true≢false (sym e ∙ earlier_perpetual h)

  pub earlier_before : earlier t it ≡ true → (t.key ≡ 0 → ⊥) → Ahead it.last it.price t.last t.price
  earlier_before e k = ahead_is it t.last t.price (sym (earlier_test (earlier_leased e) k) ∙ e)

  pub later_after : earlier t it ≡ false → (it.lease ≡ 0 → ⊥) → (t.key ≡ 0 → ⊥) × Behind it t.last t.price
  later_after e l =
      let k : t.key ≡ 0 → ⊥ = λ h. true≢false (sym (earlier_first l h) ∙ e) in
      (k, ahead_not it t.last t.price (sym (earlier_test l k) ∙ e))

-- One record more.
module _ (t : Totals) (it : Item) (today : ℕ) where
  abbrev taken : Totals
  taken = record { count = t.count + 1; total = t.total + worth it today; key = it.key; last = it.last; price = it.price }

  abbrev kept : Totals
  kept = record { count = t.count + 1; total = t.total + worth it today; key = t.key; last = t.last; price = t.price }

  pub updated_taken : earlier t it ≡ true → updated_of t it today ≡ taken
  unfolding updated_of
  updated_taken e = rw (e, updated_of)

  pub updated_kept : earlier t it ≡ false → updated_of t it today ≡ kept
  unfolding updated_of
  updated_kept e = rw (e, updated_of)

  -- what both cases have in common
  updated_both : {n : ℕ} (f : Totals → ℕ) → f taken ≡ n → f kept ≡ n → f (updated_of t it today) ≡ n
  updated_both f p q = elim (bool_cases (earlier t it)) [ inl e ↦ ap f (updated_taken e) ∙ p | inr e ↦ ap f (updated_kept e) ∙ q ]

  pub updated_count : (updated_of t it today).count ≡ t.count + 1
  updated_count = updated_both (λ u. u.count) refl refl

  pub updated_total : (updated_of t it today).total ≡ t.total + worth it today
  updated_total = updated_both (λ u. u.total) refl refl

  pub updated_total_within : it.price < 2 ^ 32 → (updated_of t it today).total ≤ t.total + (2 ^ 32 - 1)
  updated_total_within h = omega (arith, updated_total, worth_within it today)

-- Count and total of a list.
pub totals_count : (t : Totals) (its : List Item) (today : ℕ) → (totals_of t its today).count ≡ t.count + length its
unfolding totals_of
totals_count t [] today = omega arith
totals_count t (it ∷ its) today = omega (arith, totals_count (updated_of t it today) its today, updated_count t it today)

pub totals_total : (t : Totals) (its : List Item) (today : ℕ) → (totals_of t its today).total ≡ t.total + worths its today
unfolding totals_of
totals_total t [] today = omega arith
totals_total t (it ∷ its) today = omega (arith, totals_total (updated_of t it today) its today, updated_total t it today)

-- totals as records are added
pub bounded_none : Bounded no_totals
unfolding no_totals
bounded_none = omega arith

pub bounded_updated : (t : Totals) (it : Item) (today : ℕ) → Bounded t → it.price < 2 ^ 32 → Bounded (updated_of t it today)
bounded_updated t it today b h = omega (arith, updated_count t it today, updated_total_within t it today h)

pub bounded_room :
    (t : Totals) (it : Item) (today : ℕ) →
    Bounded t →
    t.count < 2 ^ 32 →
    lawful_term it.lease it.last ≡ true →
    lawful_day today ≡ true →
    Room t it today
bounded_room t it today b h l d = record { count = omega arith; total = omega arith; term = l; day = d }
