-- The first record that passes a test. Of two lists it is the first one's, or, where that has none, the second one's.
--   first_of its == the first of the records, or none
--   or_else a b  == a, or b where a is none
use mathlib.Core.Path.{◌≡◌, refl, sym, ap, ◌∙◌}
use mathlib.Core.Bool.{Bool, true, false}
use mathlib.Core.List.{List, [], ◌∷◌, ◌++◌, Memᴰ}
use mathlib.Core.Logic.{inl, inr}
use Prim.Native.Nat.{ℕ, ◌<◌}
use native.Mathlib.Omega.{arith}
use lib.Dec.{eqb}
use borrow.Author.Tests.{lt-ltb, le-ltb, le-leb, lt-leb, eq-eqb, ne_eqb}
use Rattle.lists.specs.Lists.{All}
use Rattle.lists.specs.Keyed.{Sorted}
use Rattle.lists.proofs.Cases.{bool_cases}
use Rattle.lists.proofs.ListLaws.{all_map}
use Rattle.store.specs.declared.Item.{Item}
use Rattle.page.specs.Page.{above}
use Rattle.search.specs.Way.{Sought}
use Rattle.search.specs.Way.{Record, Nothing, Damaged}
use Rattle.page.specs.Schema.{key_of}
use Rattle.readings.specs.Listing.{first_where, first_of}

abbrev pub or_else : Sought → Sought → Sought
or_else (Record it) b = Record it
or_else Nothing b = b
or_else Damaged b = Damaged

pub or_else_nothing : (a : Sought) → or_else a Nothing ≡ a
or_else_nothing (Record it) = refl
or_else_nothing Nothing = refl
or_else_nothing Damaged = refl

pub above_true : (strict : Bool) (k x : ℕ) → k < x → above strict k x ≡ true
unfolding above
above_true true k x h = lt-ltb k x h
above_true false k x h = le-leb k x (omega arith)

above_false : (strict : Bool) (k x : ℕ) → x < k → above strict k x ≡ false
unfolding above
above_false true k x h = le-ltb k x (omega arith)
above_false false k x h = lt-leb k x h

module _ (test : Item → Bool) where
  pub first_true : (it : Item) (its : List Item) → test it ≡ true → first_where test (it ∷ its) ≡ Record it
  unfolding first_where
  first_true it its e = rw (e, first_where)

  pub first_false : (it : Item) (its : List Item) → test it ≡ false → first_where test (it ∷ its) ≡ first_where test its
  unfolding first_where
  first_false it its e = rw (e, first_where)

  pub first_append : (xs ys : List Item) → first_where test (xs ++ ys) ≡ or_else (first_where test xs) (first_where test ys)
  unfolding first_where
  first_append [] ys = refl
  first_append (x ∷ xs) ys =
      elim (bool_cases (test x)) [
        | inl e ↦ rw (first_true x (xs ++ ys) e, first_true x xs e)
        | inr e ↦ rw (first_false x (xs ++ ys) e, first_false x xs e) (first_append xs ys)
      ]

  pub first_none : (xs : List Item) → All (λ x. test x ≡ false) xs → first_where test xs ≡ Nothing
  unfolding first_where
  first_none [] a = refl
  first_none (x ∷ xs) a = first_false x xs a.0 ∙ first_none xs a.1

  pub first_all : (xs : List Item) → All (λ x. test x ≡ true) xs → first_where test xs ≡ first_of xs
  unfolding first_where
  first_all [] a = refl
  first_all (x ∷ xs) a = first_true x xs a.0

  first_skip : (xs ys : List Item) → All (λ x. test x ≡ false) xs → first_where test (xs ++ ys) ≡ first_where test ys
  first_skip xs ys a = first_append xs ys ∙ ap (λ b. or_else b (first_where test ys)) (first_none xs a)

-- against a key
module _ (strict : Bool) (k : ℕ) where
  abbrev test : Item → Bool
  test x = above strict k x.key

  pub skip_below : (xs ys : List Item) → All (λ x. x.key < k) xs → first_where test (xs ++ ys) ≡ first_where test ys
  skip_below xs ys a = first_skip test xs ys (all_map (λ x. x.key < k) (λ x. test x ≡ false) xs (λ x p. above_false strict k x.key p) a)

  pub first_beyond : (xs : List Item) → All (λ x. k < x.key) xs → first_where test xs ≡ first_of xs
  first_beyond xs a = first_all test xs (all_map (λ x. k < x.key) (λ x. test x ≡ true) xs (λ x p. above_true strict k x.key p) a)

-- a record has its key alone
pub all_mem : {A : Type 0} (P : A → Type 0) {x : A} {xs : List A} → Memᴰ x xs → All P xs → P x
all_mem P (Memᴰ.head e) a = rw e a.0
all_mem P (Memᴰ.tail m) a = all_mem P m a.1

pub found_own : (it : Item) (S : List Item) → Sorted key_of S → Memᴰ it S → first_where (λ x. eqb x.key it.key) S ≡ Record it
found_own it S s (Memᴰ.head {x = x} {xs = xs} e) =
    first_true (λ y. eqb y.key it.key) x xs (eq-eqb x.key it.key (ap key_of (sym e))) ∙ ap Record (sym e)
found_own it S s (Memᴰ.tail {x = x} {xs = xs} m) =
    let l : x.key < it.key = all_mem (λ y. x.key < y.key) m s.0 in
    first_false (λ y. eqb y.key it.key) x xs (ne_eqb x.key it.key (λ e. omega arith)) ∙ found_own it xs s.1 m
