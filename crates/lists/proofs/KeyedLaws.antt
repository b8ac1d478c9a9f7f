-- Insertion by key: into an ascending list, against filters, sublists and permutations. Two insertions of different keys may change places,
-- so the ascending list of records with distinct keys does not depend on their order.
use mathlib.Core.Path.{◌≡◌, refl, sym, ap, ap₂, ◌∙◌, subst}
use mathlib.Core.Bool.{Bool, true, false, ◌||◌, true≢false}
use mathlib.Core.List.{List, [], ◌∷◌, Sublistᴰ, Permᴰ}
use mathlib.Core.List.Sublistᴰ
use mathlib.Core.Logic.{inl, inr}
use Prim.Native.Nat.{ℕ, suc, ◌/◌, ◌^◌, ◌≤◌, ◌<◌}
use native.Mathlib.Nat.{div-eq_of_lt}
use native.Mathlib.Decide.{dec_lt}
use native.Mathlib.Omega.{arith}
use lib.Dec.{eqb}
use lib.ListN.{length}
use borrow.Author.Tests.{lt-ltb, le-ltb, ne_eqb, eqb-false}
use Rattle.lists.specs.Lists.{All, filter}
use Rattle.lists.specs.Keyed.{Sorted, Distinct, Lacks, Bounded, Prefix, contains, insert, ascending}
use Rattle.lists.proofs.Cases.{bool_cases}
use Rattle.lists.proofs.ListLaws.{filter_true, filter_false, all_filter, all_map, all_sublist, all_perm}

or_left_comm : (a b c : Bool) → (a || (b || c)) ≡ (b || (a || c))
or_left_comm true true c = refl
or_left_comm true false c = refl
or_left_comm false true c = refl
or_left_comm false false c = refl

module _ {R : Type 0} (key : R → ℕ) where
  pub insert_lt : (r x : R) (xs : List R) → key r < key x → insert key r (x ∷ xs) ≡ r ∷ x ∷ xs
  unfolding insert
  insert_lt r x xs h = rw (lt-ltb (key r) (key x) h, insert)

  pub insert_ge : (r x : R) (xs : List R) → key x ≤ key r → insert key r (x ∷ xs) ≡ x ∷ insert key r xs
  unfolding insert
  insert_ge r x xs h = rw (le-ltb (key r) (key x) h, insert)

  pub insert_above : (r : R) (xs : List R) → All (λ x. key r < key x) xs → insert key r xs ≡ r ∷ xs
  unfolding insert
  insert_above r [] a = refl
  insert_above r (x ∷ xs) a = insert_lt r x xs a.0

  pub length_insert : (r : R) (xs : List R) → length (insert key r xs) ≡ suc (length xs)
  unfolding insert
  length_insert r [] = refl
  length_insert r (x ∷ xs) =
      elim (dec_lt (key r) (key x)) [
        | yes h ↦ rw (insert_lt r x xs h)
        | no h ↦ rw (insert_ge r x xs (omega arith)) (ap suc (length_insert r xs))
      ]

  pub all_insert : (P : R → Type 0) (r : R) (xs : List R) → P r → All P xs → All P (insert key r xs)
  unfolding insert
  all_insert P r [] p a = (p, tt)
  all_insert P r (x ∷ xs) p a =
      elim (dec_lt (key r) (key x)) [
        | yes h ↦ rw (insert_lt r x xs h) (p, a)
        | no h ↦ rw (insert_ge r x xs (omega arith)) (a.0, all_insert P r xs p a.1)
      ]

  pub above_le : (j k : ℕ) (xs : List R) → j ≤ k → All (λ x. k < key x) xs → All (λ x. j < key x) xs
  above_le j k xs h = all_map (λ x. k < key x) (λ x. j < key x) xs (λ x l. omega arith)

  pub sorted_insert : (r : R) (xs : List R) → Lacks key (key r) xs → Sorted key xs → Sorted key (insert key r xs)
  unfolding insert
  sorted_insert r [] m s = (tt, tt)
  sorted_insert r (x ∷ xs) m s =
      elim (dec_lt (key r) (key x)) [
        | yes h ↦ rw (insert_lt r x xs h) ((h, above_le (key r) (key x) xs (omega arith) s.0), s)
        | no h ↦
            rw (insert_ge r x xs (omega arith)) (
              all_insert (λ y. key x < key y) r xs (omega (arith, m.0)) s.0,
              sorted_insert r xs m.1 s.1,
            )
      ]

  -- insertion and filtering
  module _ (f : R → Bool) where
    pub filter_insert_out : (r : R) (xs : List R) → f r ≡ false → filter f (insert key r xs) ≡ filter f xs
    unfolding insert
    filter_insert_out r [] q = filter_false f r [] q
    filter_insert_out r (x ∷ xs) q =
        elim (dec_lt (key r) (key x)) [
          | yes h ↦ rw (insert_lt r x xs h) (filter_false f r (x ∷ xs) q)
          | no h ↦ rw (insert_ge r x xs (omega arith))
              (elim (bool_cases (f x)) [
                | inl e ↦
                    rw (filter_true f x xs e, filter_true f x (insert key r xs) e) (ap (λ (l : List R). x ∷ l) (filter_insert_out r xs q))
                | inr e ↦ rw (filter_false f x xs e, filter_false f x (insert key r xs) e) (filter_insert_out r xs q)
              ])
        ]

    pub filter_insert_in : (r : R) (xs : List R) → f r ≡ true → Sorted key xs → filter f (insert key r xs) ≡ insert key r (filter f xs)
    unfolding insert
    filter_insert_in r [] q s = filter_true f r [] q
    filter_insert_in r (x ∷ xs) q s =
        elim (dec_lt (key r) (key x)) [
          | yes h ↦ rw (insert_lt r x xs h)
              (filter_true f r (x ∷ xs) q
              ∙ sym (insert_above r (filter f (x ∷ xs)) (all_filter f (λ y. key r < key y) (x ∷ xs)
              (h, above_le (key r) (key x) xs (omega arith) s.0))))
          | no h ↦ rw (insert_ge r x xs (omega arith))
              (elim (bool_cases (f x)) [
                | inl e ↦ rw (filter_true f x xs e, filter_true f x (insert key r xs) e, insert_ge r x (filter f xs) (omega arith))
                    (ap (λ (l : List R). x ∷ l) (filter_insert_in r xs q s.1))
                | inr e ↦ rw (filter_false f x xs e, filter_false f x (insert key r xs) e) (filter_insert_in r xs q s.1)
              ])
        ]

  -- a list with one record more has the list as a sublist, and insertion keeps sublists
  pub sublist_insert : (r : R) (xs : List R) → Sublistᴰ xs (insert key r xs)
  unfolding insert
  sublist_insert r [] = Sublistᴰ.cons Sublistᴰ.slnil
  sublist_insert r (x ∷ xs) =
      elim (dec_lt (key r) (key x)) [
        | yes h ↦ rw (insert_lt r x xs h) (Sublistᴰ.cons (Sublistᴰ.refl (x ∷ xs)))
        | no h ↦ rw (insert_ge r x xs (omega arith)) (Sublistᴰ.cons-cons refl (sublist_insert r xs))
      ]

  pub insert_sublist : (r : R) {xs ys : List R} → Sorted key ys → Sublistᴰ xs ys → Sublistᴰ (insert key r xs) (insert key r ys)
  unfolding insert
  insert_sublist r s Sublistᴰ.slnil = Sublistᴰ.refl (r ∷ [])
  insert_sublist r s (Sublistᴰ.cons {a = y} {l₁ = xs} {l₂ = ys} d) =
      elim (dec_lt (key r) (key y)) [
        | yes h ↦
            rw (
              insert_lt r y ys h,
              insert_above r xs (all_sublist (λ x. key r < key x) d
                  (above_le (key r) (key y) ys (omega arith) s.0)),
            )
            (Sublistᴰ.cons-cons refl (Sublistᴰ.cons d))
        | no h ↦ rw (insert_ge r y ys (omega arith)) (Sublistᴰ.cons (insert_sublist r s.1 d))
      ]
  insert_sublist r s (Sublistᴰ.cons-cons {a = x} {b = y} {l₁ = xs} {l₂ = ys} e d) =
      elim (dec_lt (key r) (key y)) [
        | yes h ↦ rw (insert_lt r y ys h, insert_lt r x xs (rw e h)) (Sublistᴰ.cons-cons refl (Sublistᴰ.cons-cons e d))
        | no h ↦
            rw (insert_ge r y ys (omega arith), insert_ge r x xs (rw e (omega arith))) (Sublistᴰ.cons-cons e (insert_sublist r s.1 d))
      ]

  -- two insertions of different keys change places
  insert_swap_nil : (r s : R) → (key r ≡ key s → ⊥) → insert key r (s ∷ []) ≡ insert key s (r ∷ [])
  unfolding insert
  insert_swap_nil r s d =
      elim (dec_lt (key r) (key s)) [
        | yes h ↦ rw (insert_lt r s [] h, insert_ge s r [] (omega arith))
        | no h ↦ rw (insert_ge r s [] (omega arith), insert_lt s r [] (omega (arith, d)))
      ]

  insert_swap_cons : (r s x : R) (xs : List R) → (key r ≡ key s → ⊥) → key r < key x → key s < key x
      → insert key r (s ∷ x ∷ xs) ≡ insert key s (r ∷ x ∷ xs)
  insert_swap_cons r s x xs d a b =
      elim (dec_lt (key r) (key s)) [
        | yes h ↦ rw (insert_lt r s (x ∷ xs) h, insert_ge s r (x ∷ xs) (omega arith), insert_lt s x xs b)
        | no h ↦ rw (insert_ge r s (x ∷ xs) (omega arith), insert_lt s r (x ∷ xs) (omega (arith, d)), insert_lt r x xs a)
      ]

  pub insert_swap : (r s : R) (xs : List R) → (key r ≡ key s → ⊥) → insert key r (insert key s xs) ≡ insert key s (insert key r xs)
  unfolding insert
  insert_swap r s [] d = insert_swap_nil r s d
  insert_swap r s (x ∷ xs) d =
      elim (dec_lt (key r) (key x)) [
        | yes h ↦
            elim (dec_lt (key s) (key x)) [
              | yes k ↦ rw (insert_lt r x xs h, insert_lt s x xs k) (insert_swap_cons r s x xs d h k)
              | no k ↦
                  rw (
                    insert_lt r x xs h,
                    insert_ge s x xs (omega arith),
                    insert_lt r x (insert key s xs) h,
                    insert_ge s r (x ∷ xs) (omega arith),
                    insert_ge s x xs (omega arith),
                  )
            ]
        | no h ↦
            elim (dec_lt (key s) (key x)) [
              | yes k ↦
                  rw (
                    insert_ge r x xs (omega arith),
                    insert_lt s x xs k,
                    insert_lt s x (insert key r xs) k,
                    insert_ge r s (x ∷ xs) (omega arith),
                    insert_ge r x xs (omega arith),
                  )
              | no k ↦
                  rw (
                    insert_ge r x xs (omega arith),
                    insert_ge s x xs (omega arith),
                    insert_ge r x (insert key s xs) (omega arith),
                    insert_ge s x (insert key r xs) (omega arith),
                  )
                  (ap (λ (l : List R). x ∷ l) (insert_swap r s xs d))
            ]
      ]

  pub distinct_perm : {xs ys : List R} → Permᴰ xs ys → Distinct key xs → Distinct key ys
  distinct_perm Permᴰ.nil d = tt
  distinct_perm (Permᴰ.cons {a = a} {b = b} {l₂ = ys} e p) d =
      (subst (λ (x : R). All (λ y. key x ≡ key y → ⊥) ys) e (all_perm (λ y. key a ≡ key y → ⊥) p d.0), distinct_perm p d.1)
  distinct_perm (Permᴰ.swap {a = a} {b = b} {a' = a'} {b' = b'} {l = l} e e') d = (
    (λ q. d.0.0 (ap key e ∙ sym q ∙ ap key (sym e')), subst (λ (x : R). All (λ y. key x ≡ key y → ⊥) l) e' d.1.0),
    (subst (λ (x : R). All (λ y. key x ≡ key y → ⊥) l) e d.0.1, d.1.1),
  )
  distinct_perm (Permᴰ.trans p q) d = distinct_perm q (distinct_perm p d)

  -- the ascending list does not depend on the order
  pub ascending_perm : {xs ys : List R} → Permᴰ xs ys → Distinct key xs → ascending key xs ≡ ascending key ys
  unfolding ascending
  ascending_perm Permᴰ.nil d = refl
  ascending_perm (Permᴰ.cons e p) d = ap₂ (insert key) e (ascending_perm p d.1)
  ascending_perm (Permᴰ.swap {a = a} {b = b} {l = l} e e') d =
      insert_swap a b (ascending key l) d.0.0 ∙ ap₂ (insert key) e' (ap (λ (x : R). insert key x (ascending key l)) e)
  ascending_perm (Permᴰ.trans p q) d = ascending_perm p d ∙ ascending_perm q (distinct_perm p d)

  pub all_ascending : (P : R → Type 0) (xs : List R) → All P xs → All P (ascending key xs)
  unfolding ascending
  all_ascending P [] a = tt
  all_ascending P (x ∷ xs) a = all_insert P x (ascending key xs) a.0 (all_ascending P xs a.1)

  pub sorted_ascending : (xs : List R) → Distinct key xs → Sorted key (ascending key xs)
  unfolding ascending
  sorted_ascending [] d = tt
  sorted_ascending (x ∷ xs) d =
      sorted_insert x (ascending key xs)
      (all_ascending (λ y. key y ≡ key x → ⊥) xs (all_map (λ y. key x ≡ key y → ⊥) (λ y. key y ≡ key x → ⊥) xs (λ y n e. n (sym e)) d.0))
      (sorted_ascending xs d.1)

  pub ascending_sublist : {xs ys : List R} → Distinct key ys → Sublistᴰ xs ys → Sublistᴰ (ascending key xs) (ascending key ys)
  unfolding ascending
  ascending_sublist d Sublistᴰ.slnil = Sublistᴰ.slnil
  ascending_sublist d (Sublistᴰ.cons {a = y} {l₁ = xs} {l₂ = ys} s) =
      Sublistᴰ.trans (ascending_sublist d.1 s) (sublist_insert y (ascending key ys))
  ascending_sublist d (Sublistᴰ.cons-cons {a = x} {b = y} {l₁ = xs} {l₂ = ys} e s) =
      rw e (insert_sublist y (sorted_ascending ys d.1) (ascending_sublist d.1 s))

  -- the test for a key
  pub contains_false : (k : ℕ) (xs : List R) → contains key k xs ≡ false → Lacks key k xs
  unfolding contains
  contains_false k [] e = tt
  contains_false k (x ∷ xs) e =
      elim (bool_cases (eqb (key x) k)) [
        | inl t ↦ absurd (true≢false (rw t at e))
        | inr t ↦ (eqb-false (key x) k t, contains_false k xs (rw t at e))
      ]

  pub lacks_contains : (k : ℕ) (xs : List R) → Lacks key k xs → contains key k xs ≡ false
  unfolding contains
  lacks_contains k [] a = refl
  lacks_contains k (x ∷ xs) a = rw (ne_eqb (key x) k a.0) (lacks_contains k xs a.1)

  pub contains_insert : (k : ℕ) (r : R) (xs : List R) → contains key k (insert key r xs) ≡ (eqb (key r) k || contains key k xs)
  unfolding contains insert
  contains_insert k r [] = refl
  contains_insert k r (x ∷ xs) =
      elim (dec_lt (key r) (key x)) [
        | yes h ↦ rw (insert_lt r x xs h)
        | no h ↦
            rw (insert_ge r x xs (omega arith), contains_insert k r xs) (or_left_comm (eqb (key x) k) (eqb (key r) k) (contains key k xs))
      ]

  -- records inserted one after another
  abbrev pub insert_all : List R → List R → List R
  insert_all xs [] = xs
  insert_all xs (r ∷ rs) = insert_all (insert key r xs) rs

  pub sublist_insert_all : (xs rs : List R) → Sublistᴰ xs (insert_all xs rs)
  sublist_insert_all xs [] = Sublistᴰ.refl xs
  sublist_insert_all xs (r ∷ rs) = Sublistᴰ.trans (sublist_insert r xs) (sublist_insert_all (insert key r xs) rs)

  insert_all_insert : (r : R) (xs rs : List R) → All (λ y. key r ≡ key y → ⊥) rs
      → insert_all (insert key r xs) rs ≡ insert key r (insert_all xs rs)
  insert_all_insert r xs [] d = refl
  insert_all_insert r xs (x ∷ rs) d =
      ap (λ (l : List R). insert_all l rs) (insert_swap x r xs (λ e. d.0 (sym e))) ∙ insert_all_insert r (insert key x xs) rs d.1

  pub insert_all_ascending : (rs : List R) → Distinct key rs → insert_all [] rs ≡ ascending key rs
  unfolding ascending
  insert_all_ascending [] d = refl
  insert_all_ascending (r ∷ rs) d =
      insert_all_insert r [] rs d.0 ∙ ap (insert key r) (insert_all_ascending rs d.1)

  pub bounded_prefix : (W : ℕ) (xs : List R) → Bounded key (2 ^ W) xs → Prefix key W 0 xs
  bounded_prefix W xs = all_map (λ x. key x < 2 ^ W) (λ x. key x / 2 ^ W ≡ 0) xs (λ x h. div-eq_of_lt h)
