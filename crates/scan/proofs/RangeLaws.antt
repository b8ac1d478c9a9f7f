-- A range and a summary, record by record, as their definitions read them.
use mathlib.Core.Path.{◌≡◌, refl, ap, ◌∙◌}
use mathlib.Core.Bool.{Bool, true, false}
use mathlib.Core.List.{List, [], ◌∷◌}
use mathlib.Core.Logic.{inl, inr}
use native.Mathlib.Nat.{zero-add}
use Rattle.lists.proofs.Cases.{bool_cases}
use Prim.Native.Nat.{ℕ, suc, ◌+◌, ◌-◌, ◌≤◌, ◌<◌}
use native.Mathlib.Omega.{arith}
use lib.ListN.{length}
use borrow.Author.Tests.{lt-ltb, le-ltb, eq-eqb, ne_eqb, ltb-true, leb-true}
use Rattle.store.specs.declared.Format.{Format}
use Rattle.store.specs.declared.Head.{Head}
use Rattle.store.specs.declared.Item.{Item}
use Rattle.page.specs.Page.{above}
use Rattle.totals.specs.declared.Totals.{Totals}
use Rattle.totals.specs.Totals.{updated_of}
use Rattle.scan.specs.Outcome.{Listing}
use Rattle.search.specs.Way.{Record, Nothing, Damaged}
use Rattle.search.specs.Next.{next_of}
use Rattle.search.proofs.NextLaws.{next_above}
use Rattle.scan.specs.Range.{Ranged, ended, broken, also, range_from, ranged, listing}
use Rattle.scan.specs.Summary.{done, damage, sum_from}

-- how many more turns there may be than keys left: one where the first key itself counts
unfoldable pub lead : Bool → ℕ
lead true = 0
lead false = 1

pub lead_false : lead false ≡ 1
unfolding lead
lead_false = refl

pub lead_true : lead true ≡ 0
unfolding lead
lead_true = refl

pub above_lead : (strict : Bool) (k x : ℕ) → above strict k x ≡ true → k + 1 ≤ x + lead strict
unfolding above lead
above_lead true k x e = omega (arith, ltb-true k x e)
above_lead false k x e = omega (arith, leb-true k x e)

pub next_lead : (f : Format) (s : List ℕ) (h : Head) (strict : Bool) (k : ℕ) (it : Item) → next_of f s h strict k ≡ Record it
    → k + 1 ≤ it.key + lead strict
next_lead f s h strict k it e = above_lead strict k it.key (next_above f s h strict k it e)

-- the outcome of a range after c records
unfoldable pub outcome : ℕ → Ranged → Listing
outcome c r =
    elim r.ok [
      | true ↦ record { ok = true; count = c + length r.items; more = r.more }
      | false ↦ record { ok = false; count = 0; more = 0 }
    ]

pub same_count : {m n : ℕ} (more : ℕ) → m ≡ n
    → ◌≡◌ {A = Listing} (record { ok = true; count = m; more = more }) (record { ok = true; count = n; more = more })
same_count more e = ap (λ (i : ℕ). record { ok = true; count = i; more = more }) e

outcome_listing : (r : Ranged) → outcome 0 r ≡ listing r
unfolding outcome listing
outcome_listing r =
    elim (bool_cases r.ok) [
      | inl e ↦ rw (e, outcome, listing) (same_count r.more (zero-add (length r.items)))
      | inr e ↦ rw (e, outcome, listing)
    ]

pub outcome_also : (c : ℕ) (it : Item) (r : Ranged) → outcome c (also it r) ≡ outcome (c + 1) r
unfolding outcome also
outcome_also c it r =
    elim (bool_cases r.ok) [
      | inl e ↦ rw (e, outcome, also) (same_count r.more (omega arith))
      | inr e ↦ rw (e, outcome, also)
    ]

module _ (f : Format) (s : List ℕ) (h : Head) (high : ℕ) where
  pub outcome_start : (low room : ℕ)
      → outcome 0 (range_from f s h high (high + 1 - low + 1) false low room) ≡ listing (ranged f s h low high room)
  unfolding outcome listing ranged
  outcome_start low room = outcome_listing (range_from f s h high (high + 1 - low + 1) false low room)

  module _ (fuel : ℕ) (strict : Bool) (k room : ℕ) where
    pub from_damaged : next_of f s h strict k ≡ Damaged → range_from f s h high (suc fuel) strict k room ≡ broken
    unfolding range_from
    from_damaged e = rw (e, range_from)

    pub from_nothing : next_of f s h strict k ≡ Nothing → range_from f s h high (suc fuel) strict k room ≡ ended
    unfolding range_from
    from_nothing e = rw (e, range_from)

    module _ (it : Item) (e : next_of f s h strict k ≡ Record it) where
      pub from_passed : high < it.key → range_from f s h high (suc fuel) strict k room ≡ ended
      unfolding range_from
      from_passed p = rw (e, lt-ltb high it.key p, range_from)

      pub from_full : it.key ≤ high → room ≡ 0
          → range_from f s h high (suc fuel) strict k room ≡ record { ok = true; items = []; more = it.key }
      unfolding range_from
      from_full p q = rw (e, le-ltb high it.key p, eq-eqb room 0 q, range_from)

      pub from_last : (room ≡ 0 → ⊥) → it.key ≡ high
          → range_from f s h high (suc fuel) strict k room ≡ record { ok = true; items = it ∷ []; more = 0 }
      unfolding range_from
      from_last q p = rw (e, le-ltb high it.key (omega arith), ne_eqb room 0 q, eq-eqb it.key high p, range_from)

      pub from_on_lem : (room ≡ 0 → ⊥) → it.key < high
          → range_from f s h high (suc fuel) strict k room ≡ also it (range_from f s h high fuel true it.key (room - 1))
      unfolding range_from
      from_on_lem q p = rw (e, le-ltb high it.key (omega arith), ne_eqb room 0 q, ne_eqb it.key high (λ z. omega arith), range_from)

  -- one turn of a summary
  module _ (today fuel : ℕ) (strict : Bool) (k : ℕ) (t : Totals) (left : 1 ≤ fuel) where
    sum_suc : sum_from f s h high today fuel strict k t ≡ sum_from f s h high today (suc (fuel - 1)) strict k t
    sum_suc = let e : fuel ≡ suc (fuel - 1) = omega arith in ap (λ (i : ℕ). sum_from f s h high today i strict k t) e

    pub adds_nothing : next_of f s h strict k ≡ Nothing → sum_from f s h high today fuel strict k t ≡ done t
    unfolding sum_from
    adds_nothing e = sum_suc ∙ rw (e, sum_from)

    pub adds_damaged : next_of f s h strict k ≡ Damaged → sum_from f s h high today fuel strict k t ≡ damage
    unfolding sum_from
    adds_damaged e = sum_suc ∙ rw (e, sum_from)

    module _ (it : Item) (e : next_of f s h strict k ≡ Record it) where
      pub adds_passed : high < it.key → sum_from f s h high today fuel strict k t ≡ done t
      unfolding sum_from
      adds_passed p = sum_suc ∙ rw (e, lt-ltb high it.key p, sum_from)

      pub adds_last : it.key ≡ high → sum_from f s h high today fuel strict k t ≡ done (updated_of t it today)
      unfolding sum_from
      adds_last p = sum_suc ∙ rw (e, le-ltb high it.key (omega arith), eq-eqb it.key high p, sum_from)

      pub adds_on : it.key < high
          → sum_from f s h high today fuel strict k t ≡ sum_from f s h high today (fuel - 1) true it.key (updated_of t it today)
      unfolding sum_from
      adds_on p = sum_suc ∙ rw (e, le-ltb high it.key (omega arith), ne_eqb it.key high (λ z. omega arith), sum_from)
