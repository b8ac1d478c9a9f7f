-- What the definitions of a page say, as facts.
--   Ordered f pg n          == what `ordered` tests
--   Kept f C pg             == what `page_rule` tests
--   First f pg strict k r   == r is the number of the first record with a key above k, or the count
use mathlib.Core.Path.{◌≡◌, sym, ap, ◌∙◌}
use mathlib.Core.Bool.{Bool, true, false, ◌&&◌, false≢true}
use mathlib.Core.List.{List}
use Prim.Native.Nat.{ℕ, zero, suc, ◌+◌, ◌-◌, ◌*◌, ◌/◌, ◌^◌, ◌≤◌, ◌<◌}
use native.Mathlib.Decide.{dec_lt}
use native.Mathlib.Nat.{le_trans, le-div_iff_mul-le, div-mul-le_self}
use native.Mathlib.Omega.{arith}
use lib.Dec.{ltb, leb}
use borrow.Author.Tests.{ltb-true, leb-true, eqb-true, lt-ltb, le-leb, eq-eqb}
use Rattle.lists.specs.Lists.{every}
use Rattle.lists.proofs.Cases.{by_cases}
use Rattle.lists.proofs.Tests.{and_true, same_test, untrue, every_at, every_of, rising, rising_test}
use Rattle.plot.specs.Plot.{lawful_term}
use Rattle.plot.proofs.Promises.{lawful_record, term_limits}
use Rattle.store.specs.declared.Format.{Format}
use Rattle.store.specs.declared.Format.TheVariants.{Plots}
use Rattle.store.specs.declared.Item.{Item}
use Rattle.store.specs.Format.{width, words}
use Rattle.store.specs.Head.{word, zeros}
use Rattle.page.specs.Page.{count, item_at, key_at, plot_of, lawful_item, ordered, page_rule, agrees, above, first_from, first_above}

-- a function that rises over any steps keeps ≤
pub rising_le : (n : ℕ) (g : ℕ → ℕ) → ((i j : ℕ) → i < j → j < n → g i < g j) → (i j : ℕ) → i ≤ j → j < n → g i ≤ g j
rising_le n g r i j h l =
    elim (dec_lt i j) [
      | yes q ↦ omega (arith, r i j q l)
      | no q ↦ let d : i ≡ j = omega arith in omega (arith, ap g d)
    ]

pub quotient_le : (k x y : ℕ) → 0 < k → x ≤ y → x / k ≤ y / k
quotient_le k x y p h = (le-div_iff_mul-le p).1 (le_trans (div-mul-le_self x k) h)

-- where the first and the last value of such a function have the quotient q, so have all
pub ends_agree :
    (n : ℕ) (g : ℕ → ℕ) → ((i j : ℕ) → i < j → j < n → g i < g j) → (k q : ℕ) → 0 < k → g 0 / k ≡ q → g (n - 1) / k ≡ q → (i : ℕ) →
    i < n →
    g i / k ≡ q
ends_agree n g r k q p first last i l =
    let a = quotient_le k (g 0) (g i) p (rising_le n g r 0 i (omega arith) l) in
    let b = quotient_le k (g i) (g (n - 1)) p (rising_le n g r i (n - 1) (omega arith) (omega arith)) in
    omega (arith, a, b, first, last)

pub lawful_key : (f : Format) (it : Item) → lawful_item f it ≡ true → (1 ≤ it.key) × (it.key < 2 ^ width f)
unfolding lawful_item width
lawful_key Plots it e = let p = (lawful_record (plot_of it)).0 e in (omega (arith, p.1), p.0)

pub item_term : (f : Format) (it : Item) → lawful_item f it ≡ true → lawful_term it.lease it.last ≡ true
unfolding lawful_item
item_term Plots it e = (term_limits it.lease it.last).1 ((lawful_record (plot_of it)).0 e).3

pub record Ordered (f : Format) (pg : List ℕ) (n : ℕ) : Type 0 where
  pub lawful : (i : ℕ) → i < n → lawful_item f (item_at f pg i) ≡ true
  pub ascends : (i j : ℕ) → i < j → j < n → key_at f pg i < key_at f pg j

module _ (f : Format) (pg : List ℕ) (n : ℕ) where
  pub rises : Ordered f pg n → (i j : ℕ) → i ≤ j → j < n → key_at f pg i ≤ key_at f pg j
  rises h i j = rising_le n (key_at f pg) h.ascends i j

  pub ordered_facts : ordered f pg n ≡ true → Ordered f pg n
  unfolding ordered
  ordered_facts e =
      let a = and_true (every n (λ i. lawful_item f (item_at f pg i))) (every (n - 1) (λ i. ltb (key_at f pg i) (key_at f pg (i + 1)))) e in
      record { lawful = every_at n _ a.0; ascends = rising n (key_at f pg) a.1 }

  pub facts_ordered : Ordered f pg n → ordered f pg n ≡ true
  unfolding ordered
  facts_ordered h = rw (every_of n (λ i. lawful_item f (item_at f pg i)) h.lawful, rising_test n (key_at f pg) h.ascends)

pub record Kept (f : Format) (C : ℕ) (pg : List ℕ) : Type 0 where
  pub some : 1 ≤ count pg
  pub fits : count pg ≤ C
  pub order : Ordered f pg (count pg)
  pub blank : (j : ℕ) → j < words f * (C - count pg) → word pg (1 + words f * count pg + j) ≡ 0

module _ (f : Format) (C : ℕ) (pg : List ℕ) where
  abbrev rest : Bool
  rest = zeros pg (1 + words f * count pg) (words f * (C - count pg))

  -- once the count and the records are right, the zeros are left
  pub rule_rest : 1 ≤ count pg → count pg ≤ C → ordered f pg (count pg) ≡ true → page_rule f C pg ≡ rest
  unfolding page_rule
  rule_rest s h o = rw (le-leb 1 (count pg) s, le-leb (count pg) C h, o)

  pub rule_facts : page_rule f C pg ≡ true → Kept f C pg
  unfolding page_rule zeros
  rule_facts e =
      let a = and_true (leb 1 (count pg) && leb (count pg) C && ordered f pg (count pg)) rest e in
      let b = and_true (leb 1 (count pg) && leb (count pg) C) (ordered f pg (count pg)) a.0 in
      let c = and_true (leb 1 (count pg)) (leb (count pg) C) b.0 in
      record {
        some = leb-true 1 (count pg) c.0;
        fits = leb-true (count pg) C c.1;
        order = ordered_facts f pg (count pg) b.1;
        blank = λ j q. eqb-true _ 0 (every_at _ _ a.1 j q);
      }

  pub facts_rule : Kept f C pg → page_rule f C pg ≡ true
  unfolding zeros
  facts_rule h =
      rule_rest h.some h.fits (facts_ordered f pg (count pg) h.order) ∙ every_of _ _ (λ j q. eq-eqb _ 0 (h.blank j q))

module _ (f : Format) (pg : List ℕ) (k used : ℕ) where
  abbrev Agrees : Type 0
  Agrees = (i : ℕ) → i < count pg → key_at f pg i / 2 ^ (width f - used) ≡ k / 2 ^ (width f - used)

  pub agrees_facts : agrees f pg k used ≡ true → Agrees
  unfolding agrees
  agrees_facts e i q = eqb-true _ _ (every_at (count pg) _ e i q)

  pub facts_agrees : Agrees → agrees f pg k used ≡ true
  unfolding agrees
  facts_agrees h = every_of (count pg) _ (λ i q. eq-eqb _ _ (h i q))

-- a key at or past one that is above is above too
pub above_on : (strict : Bool) (k x y : ℕ) → above strict k x ≡ true → x ≤ y → above strict k y ≡ true
unfolding above
above_on true k x y e h = lt-ltb k y (omega (arith, ltb-true k x e))
above_on false k x y e h = le-leb k y (omega (arith, leb-true k x e))

-- a key at or before one that is not above is not above either
pub below_on : (strict : Bool) (k x y : ℕ) → above strict k y ≡ false → x ≤ y → above strict k x ≡ false
below_on strict k x y e h = sym (untrue (λ a. false≢true (sym e ∙ above_on strict k x y a h)))

-- if the first key of a page is above, so are all
pub all_above :
    (f : Format) (C : ℕ) (pg : List ℕ) (strict : Bool) (k : ℕ) →
    page_rule f C pg ≡ true →
    every (count pg) (λ i. above strict k (key_at f pg i)) ≡ above strict k (key_at f pg 0)
all_above f C pg strict k e =
    let h = rule_facts f C pg e in
    same_test (every (count pg) (λ i. above strict k (key_at f pg i))) (above strict k (key_at f pg 0))
    (λ a. every_at (count pg) _ a 0 h.some)
    (λ a. every_of (count pg) _ (λ i q. above_on strict k _ _ a (rises f pg (count pg) h.order 0 i (omega arith) q)))

pub record First (f : Format) (pg : List ℕ) (strict : Bool) (k r : ℕ) : Type 0 where
  pub within : r ≤ count pg
  pub before : (i : ℕ) → i < r → above strict k (key_at f pg i) ≡ false
  pub found : r < count pg → above strict k (key_at f pg r) ≡ true

module _ (f : Format) (pg : List ℕ) (strict : Bool) (k : ℕ) where
  abbrev test : ℕ → Bool
  test i = above strict k (key_at f pg i)

  stop : (n i : ℕ) → test i ≡ true → first_from f pg strict k (suc n) i ≡ i
  unfolding first_from
  stop n i e = rw (e, first_from)

  go_on : (n i : ℕ) → test i ≡ false → first_from f pg strict k (suc n) i ≡ first_from f pg strict k n (i + 1)
  unfolding first_from
  go_on n i e = rw (e, first_from)

  -- the same of n records from number i on
  record FirstFrom (n i r : ℕ) : Type 0 where
    above : i ≤ r
    within : r ≤ i + n
    before : (j : ℕ) → i ≤ j → j < r → test j ≡ false
    found : r < i + n → test r ≡ true

  first_from_lem : (n i : ℕ) → FirstFrom n i (first_from f pg strict k n i)
  unfolding first_from
  first_from_lem zero i =
      record { above = omega arith; within = omega arith; before = λ j p q. absurd (omega arith); found = λ q. absurd (omega arith) }
  first_from_lem (suc n) i =
      by_cases (test i)
      (λ e. rw (stop n i e) record { above = omega arith; within = omega arith; before = λ j p q. absurd (omega arith); found = λ q. e })
      (λ e.
      let h = first_from_lem n (i + 1) in
      rw (go_on n i e)
      record {
        above = omega (arith, h.above);
        within = omega (arith, h.within);
        before = λ j p q. elim (dec_lt i j) [ yes l ↦ h.before j (omega arith) q | no l ↦ let d : i ≡ j = omega arith in rw d at e ];
        found = λ q. h.found (omega arith);
      })

  pub first_facts : First f pg strict k (first_above f pg strict k)
  unfolding first_above
  first_facts =
      let h = first_from_lem (count pg) 0 in
      record {
        within = omega (arith, h.within);
        before = λ i q. h.before i (omega arith) q;
        found = λ q. h.found (omega arith);
      }

  -- there is one such number
  pub first_is : (r : ℕ) → First f pg strict k r → r ≡ first_above f pg strict k
  first_is r h =
      let g = first_facts in
      let s = first_above f pg strict k in
      elim (dec_lt r s) [
        | yes l ↦ absurd (false≢true (sym (g.before r l) ∙ h.found (omega (arith, g.within))))
        | no l ↦
            elim (dec_lt s r) [
              | yes m ↦ absurd (false≢true (sym (h.before s m) ∙ g.found (omega (arith, h.within))))
              | no m ↦ omega arith
            ]
      ]
