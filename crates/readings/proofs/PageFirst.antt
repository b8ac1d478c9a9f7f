-- A search in a page block with the records rs is a search in rs.
use mathlib.Core.Path.{◌≡◌, refl, sym, ap, ◌∙◌}
use mathlib.Core.Bool.{Bool, true, false, true≢false, false≢true}
use mathlib.Core.List.{List, [], ◌∷◌}
use mathlib.Core.Logic.{◌⊎◌, inl, inr}
use Prim.Native.Nat.{ℕ, zero, suc, ◌≤◌, ◌<◌}
use native.Mathlib.Decide.{dec_lt}
use native.Mathlib.Omega.{arith}
use lib.Dec.{ltb, eqb}
use lib.ListN.{length, get_or}
use borrow.Author.Tests.{leb-true, leb-false, lt-ltb, le-ltb, ne_eqb}
use Rattle.lists.specs.Lists.{All}
use Rattle.lists.specs.Keyed.{Sorted}
use Rattle.lists.proofs.Cases.{bool_cases}
use Rattle.lists.proofs.ListLaws.{all_map}
use Rattle.store.specs.declared.Format.{Format}
use Rattle.store.specs.declared.Item.{Item}
use Rattle.page.specs.Page.{count, item_at, key_at, lawful_item, above, first_above}
use Rattle.page.proofs.Laws.{first_is}
use Rattle.search.specs.Way.{Sought}
use Rattle.search.specs.Way.{Record, Nothing, Damaged}
use Rattle.search.specs.Find.{in_page, no_item}
use Rattle.represent.specs.Image.{page_image}
use Rattle.page.specs.Schema.{key_of}
use Rattle.readings.specs.Listing.{first_where}
use Rattle.readings.proofs.FirstLaws.{first_true, first_false, first_none}
use Rattle.represent.proofs.PageImage.{page_count_lem, page_item, page_key}

-- the first record that passes a test
module _ (test : Item → Bool) where
  -- r is its number, or, if no record passes, how many there are
  record FirstAt (rs : List Item) (r : ℕ) : Type 0 where
    within : r ≤ length rs
    before : (i : ℕ) → i < r → test (get_or rs i no_item) ≡ false
    found : r < length rs → (test (get_or rs r no_item) ≡ true) × (first_where test rs ≡ Record (get_or rs r no_item))
    none : r ≡ length rs → first_where test rs ≡ Nothing

  here : (it : Item) (its : List Item) → test it ≡ true → FirstAt (it ∷ its) 0
  here it its e =
      record {
        within = omega arith;
        before = λ i h. absurd (omega arith);
        found = λ h. (e, first_true test it its e);
        none = λ h. absurd (omega arith);
      }

  later : (it : Item) (its : List Item) (r : ℕ) → test it ≡ false → FirstAt its r → FirstAt (it ∷ its) (suc r)
  later it its r e p =
      record {
        within = omega (arith, p.within);
        before = under;
        found = λ h. let q = p.found (omega arith) in (q.0, first_false test it its e ∙ q.1);
        none = λ h. first_false test it its e ∙ p.none (omega arith);
      }
    where
      under : (i : ℕ) → i < suc r → test (get_or (it ∷ its) i no_item) ≡ false
      under zero h = e
      under (suc i) h = p.before i (omega arith)

  first_at : (rs : List Item) → (r : ℕ) × FirstAt rs r
  unfolding first_where
  first_at [] =
      (0, record { within = omega arith; before = λ i h. absurd (omega arith); found = λ h. absurd (omega arith); none = λ h. refl })
  first_at (it ∷ its) =
      elim (bool_cases (test it)) [
        | inl e ↦ (0, here it its e)
        | inr e ↦ let p = first_at its in (suc p.0, later it its p.0 e p.1)
      ]

  pub first_cases : (rs : List Item) → (first_where test rs ≡ Nothing) ⊎ ((it : Item) × (first_where test rs ≡ Record it))
  first_cases rs =
      let p = first_at rs in
      elim (dec_lt p.0 (length rs)) [
        | yes l ↦ inr (get_or rs p.0 no_item, (p.1.found l).1)
        | no l ↦ inl (p.1.none (omega (arith, p.1.within)))
      ]

abbrev some : Sought → Bool
some (Record it) = true
some Nothing = false
some Damaged = false

abbrev held : Sought → Item
held (Record it) = it
held Nothing = no_item
held Damaged = no_item

-- in a sorted list the first record at or above a key tells whether the key is there
module _ (k : ℕ) where
  abbrev has : Item → Bool
  has it = eqb it.key k

  abbrev reaches : Item → Bool
  reaches it = above false k it.key

  below : (it : Item) → reaches it ≡ false → has it ≡ false
  unfolding above
  below it e = ne_eqb it.key k (λ d. omega (arith, leb-false k it.key e))

  beyond : (it : Item) (its : List Item) → k ≤ it.key → All (λ y. it.key < y.key) its → first_where has its ≡ Nothing
  beyond it its h a =
      first_none has its (all_map (λ y. it.key < y.key) (λ y. has y ≡ false) its (λ y l. ne_eqb y.key k (λ d. omega arith)) a)

  has_none : (rs : List Item) → first_where reaches rs ≡ Nothing → first_where has rs ≡ Nothing
  has_none [] e = first_none has [] tt
  has_none (it ∷ its) e =
      elim (bool_cases (reaches it)) [
        | inl t ↦ absurd (true≢false (ap some (sym (first_true reaches it its t) ∙ e)))
        | inr t ↦ first_false has it its (below it t) ∙ has_none its (sym (first_false reaches it its t) ∙ e)
      ]

  abbrev exactly : Item → Sought
  exactly it = elim (eqb it.key k) [ true ↦ Record it | false ↦ Nothing ]

  has_here : (it : Item) (its : List Item) → Sorted key_of (it ∷ its) → reaches it ≡ true → first_where has (it ∷ its) ≡ exactly it
  unfolding above
  has_here it its s t =
      elim (bool_cases (has it)) [
        | inl q ↦ rw (q, exactly) (first_true has it its q)
        | inr q ↦ rw (q, exactly) (first_false has it its q ∙ beyond it its (leb-true k it.key t) s.0)
      ]

  has_first : (rs : List Item) (x : Item) → Sorted key_of rs → first_where reaches rs ≡ Record x → first_where has rs ≡ exactly x
  has_first [] x s e = absurd (false≢true (ap some (sym (first_none reaches [] tt) ∙ e)))
  has_first (it ∷ its) x s e =
      elim (bool_cases (reaches it)) [
        | inl t ↦ has_here it its s t ∙ ap exactly (ap held (sym (first_true reaches it its t) ∙ e))
        | inr t ↦ first_false has it its (below it t) ∙ has_first its x s.1 (sym (first_false reaches it its t) ∙ e)
      ]

module _ (f : Format) (C : ℕ) (pg : List ℕ) (rs : List Item) (is : pg ≡ page_image f C rs)
    (lawful : All (λ it. lawful_item f it ≡ true) rs) where
  abbrev counted : count pg ≡ length rs
  counted = page_count_lem f C pg rs is

  abbrev item_is : (i : ℕ) → i < length rs → item_at f pg i ≡ get_or rs i no_item
  item_is = page_item f C pg rs is lawful

  abbrev key_is : (i : ℕ) → i < length rs → key_at f pg i ≡ (get_or rs i no_item).key
  key_is = page_key f C pg rs is lawful

  module _ (strict : Bool) (k : ℕ) where
    abbrev reached : Item → Bool
    reached it = above strict k it.key

    -- the number that the search in the page gives
    first_in : (r : ℕ) → FirstAt reached rs r → r ≡ first_above f pg strict k
    first_in r p =
        first_is f pg strict k r
        (record {
          within = omega (arith, counted, p.within);
          before = λ i h. rw (key_is i (omega (arith, p.within))) (p.before i h);
          found = λ h. let l : r < length rs = omega (arith, counted) in rw (key_is r l) (p.found l).0;
        })

    at_first : (r : ℕ) (it : Item) → FirstAt reached rs r → first_where reached rs ≡ Record it → (r < length rs) × (get_or rs r no_item ≡ it)
    at_first r it p e =
        elim (dec_lt r (length rs)) [
          | yes l ↦ (l, ap held (sym (p.found l).1 ∙ e))
          | no l ↦ absurd (false≢true (ap some (sym (p.none (omega (arith, p.within))) ∙ e)))
        ]

    at_none : (r : ℕ) → FirstAt reached rs r → first_where reached rs ≡ Nothing → length rs ≤ r
    at_none r p e =
        elim (dec_lt r (length rs)) [
          | yes l ↦ absurd (true≢false (ap some (sym (p.found l).1 ∙ e)))
          | no l ↦ omega arith
        ]

    pub page_first : (it : Item) → first_where reached rs ≡ Record it
        → (ltb (first_above f pg strict k) (count pg) ≡ true) × (item_at f pg (first_above f pg strict k) ≡ it)
    page_first it e =
        let p = first_at reached rs in
        let a = at_first p.0 it p.1 e in
        rw (← (first_in p.0 p.1), counted) (lt-ltb p.0 (length rs) a.0, item_is p.0 a.0 ∙ a.1)

    pub page_none : first_where reached rs ≡ Nothing → ltb (first_above f pg strict k) (count pg) ≡ false
    page_none e =
        let p = first_at reached rs in
        rw (← (first_in p.0 p.1), counted) (le-ltb p.0 (length rs) (at_none p.0 p.1 e))

  pub page_find : (k : ℕ) → Sorted key_of rs → in_page f pg k ≡ first_where (λ it. eqb it.key k) rs
  unfolding in_page
  page_find k sorted =
      elim (first_cases (λ it. above false k it.key) rs) [
        | inl e ↦ rw (page_none false k e, in_page) (sym (has_none k rs e))
        | inr p ↦
            let a = page_first false k p.0 p.1 in
            rw (a.0, in_page) (ap (exactly k) a.1 ∙ sym (has_first k rs p.0 sorted p.1))
      ]
