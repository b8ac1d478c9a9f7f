-- What holds of every element passes to filters, sublists and permutations.
use mathlib.Core.Path.{◌≡◌, refl, sym, ap, ◌∙◌, subst}
use mathlib.Core.Bool.{Bool, true, false, not, true≢false, false≢true}
use mathlib.Core.List.{List, [], ◌∷◌, ◌++◌, map, Sublistᴰ, Permᴰ}
use mathlib.Core.Logic.{inl, inr}
use Prim.Native.Nat.{ℕ, zero, suc, ◌+◌, ◌≤◌, ◌<◌}
use native.Mathlib.Omega.{arith}
use lib.ListN.{length, set}
use Rattle.lists.specs.Lists.{All, Pairwise, filter, all}
use Rattle.lists.proofs.Cases.{bool_cases}

module _ {A : Type 0} (f : A → Bool) where
  pub filter_true : (x : A) (xs : List A) → f x ≡ true → filter f (x ∷ xs) ≡ x ∷ filter f xs
  filter_true x xs e = rw (e, filter)

  pub filter_false : (x : A) (xs : List A) → f x ≡ false → filter f (x ∷ xs) ≡ filter f xs
  filter_false x xs e = rw (e, filter)

  pub filter_sublist : {xs ys : List A} → Sublistᴰ xs ys → Sublistᴰ (filter f xs) (filter f ys)
  filter_sublist Sublistᴰ.slnil = Sublistᴰ.slnil
  filter_sublist (Sublistᴰ.cons {a = a} {l₂ = ys} s) =
      elim (bool_cases (f a)) [
        | inl e ↦ rw (filter_true a ys e) (Sublistᴰ.cons (filter_sublist s))
        | inr e ↦ rw (filter_false a ys e) (filter_sublist s)
      ]
  filter_sublist (Sublistᴰ.cons-cons {a = a} {b = b} {l₁ = xs} {l₂ = ys} p s) =
      elim (bool_cases (f a)) [
        | inl e ↦ rw (filter_true a xs e, filter_true b ys (ap f (sym p) ∙ e)) (Sublistᴰ.cons-cons p (filter_sublist s))
        | inr e ↦ rw (filter_false a xs e, filter_false b ys (ap f (sym p) ∙ e)) (filter_sublist s)
      ]

  pub length_filter : (xs : List A) → length (filter f xs) ≤ length xs
  length_filter [] = omega arith
  length_filter (x ∷ xs) =
      elim (bool_cases (f x)) [
        | inl e ↦ rw (filter_true x xs e) (omega (arith, length_filter xs))
        | inr e ↦ rw (filter_false x xs e) (omega (arith, length_filter xs))
      ]

  pub filter_not : (xs : List A) → length (filter (λ x. not (f x)) xs) + length (filter f xs) ≡ length xs
  filter_not [] = omega arith
  filter_not (x ∷ xs) =
      elim (bool_cases (f x)) [
        | inl e ↦ rw (e, filter) (omega (arith, filter_not xs))
        | inr e ↦ rw (e, filter) (omega (arith, filter_not xs))
      ]

  -- every element passes the test, or the filter drops one
  pub filter_all : (xs : List A) → all f xs ≡ true → filter f xs ≡ xs
  filter_all [] e = refl
  filter_all (x ∷ xs) e =
      elim (bool_cases (f x)) [
        | inl t ↦ rw (filter_true x xs t) (ap (λ (l : List A). x ∷ l) (filter_all xs (rw t at e)))
        | inr t ↦ absurd (false≢true (rw t at e))
      ]

  pub filter_some : (xs : List A) → all f xs ≡ false → length (filter f xs) < length xs
  filter_some [] e = absurd (true≢false e)
  filter_some (x ∷ xs) e =
      elim (bool_cases (f x)) [
        | inl t ↦ rw (filter_true x xs t) (omega (arith, filter_some xs (rw t at e)))
        | inr t ↦ rw (filter_false x xs t) (omega (arith, length_filter xs))
      ]

  module _ (P : A → Type 0) where
    pub all_filter : (xs : List A) → All P xs → All P (filter f xs)
    all_filter [] a = tt
    all_filter (x ∷ xs) a =
        elim (bool_cases (f x)) [
          | inl e ↦ rw (filter_true x xs e) (a.0, all_filter xs a.1)
          | inr e ↦ rw (filter_false x xs e) (all_filter xs a.1)
        ]

    -- and what passes the test has more
    pub all_filter_to : (Q : A → Type 0) (xs : List A) → ((x : A) → f x ≡ true → P x → Q x) → All P xs → All Q (filter f xs)
    all_filter_to Q [] g a = tt
    all_filter_to Q (x ∷ xs) g a =
        elim (bool_cases (f x)) [
          | inl e ↦ rw (filter_true x xs e) (g x e a.0, all_filter_to Q xs g a.1)
          | inr e ↦ rw (filter_false x xs e) (all_filter_to Q xs g a.1)
        ]

module _ {A : Type 0} where
  pub length_sublist : {xs ys : List A} → Sublistᴰ xs ys → length xs ≤ length ys
  length_sublist Sublistᴰ.slnil = omega arith
  length_sublist (Sublistᴰ.cons s) = omega (arith, length_sublist s)
  length_sublist (Sublistᴰ.cons-cons e s) = omega (arith, length_sublist s)

  module _ (P : A → Type 0) where
    pub all_map : (Q : A → Type 0) (xs : List A) → ((x : A) → P x → Q x) → All P xs → All Q xs
    all_map Q [] g a = tt
    all_map Q (x ∷ xs) g a = (g x a.0, all_map Q xs g a.1)

    pub all_both : (Q Z : A → Type 0) (xs : List A) → ((x : A) → P x → Q x → Z x) → All P xs → All Q xs → All Z xs
    all_both Q Z [] g a b = tt
    all_both Q Z (x ∷ xs) g a b = (g x a.0 b.0, all_both Q Z xs g a.1 b.1)

    pub all_sublist : {xs ys : List A} → Sublistᴰ xs ys → All P ys → All P xs
    all_sublist Sublistᴰ.slnil a = tt
    all_sublist (Sublistᴰ.cons s) a = all_sublist s a.1
    all_sublist (Sublistᴰ.cons-cons e s) a = (subst P (sym e) a.0, all_sublist s a.1)

    pub all_perm : {xs ys : List A} → Permᴰ xs ys → All P xs → All P ys
    all_perm Permᴰ.nil a = tt
    all_perm (Permᴰ.cons e p) a = (subst P e a.0, all_perm p a.1)
    all_perm (Permᴰ.swap e e') a = (subst P e' a.1.0, (subst P e a.0, a.1.1))
    all_perm (Permᴰ.trans p q) a = all_perm q (all_perm p a)

  module _ (P : A → A → Type 0) where
    pub pairwise_filter : (f : A → Bool) (xs : List A) → Pairwise P xs → Pairwise P (filter f xs)
    pairwise_filter f [] a = tt
    pairwise_filter f (x ∷ xs) a =
        elim (bool_cases (f x)) [
          | inl e ↦ rw (filter_true f x xs e) (all_filter f (P x) xs a.0, pairwise_filter f xs a.1)
          | inr e ↦ rw (filter_false f x xs e) (pairwise_filter f xs a.1)
        ]

-- a map of a list put together, and of one with another element
module _ {A B : Type 0} (g : A → B) where
  pub map_append : (xs ys : List A) → map g (xs ++ ys) ≡ map g xs ++ map g ys
  map_append [] ys = refl
  map_append (x ∷ xs) ys = ap (λ zs. g x ∷ zs) (map_append xs ys)

  pub map_set : (xs : List A) (i : ℕ) (y : A) → map g (set xs i y) ≡ set (map g xs) i (g y)
  map_set [] i y = refl
  map_set (x ∷ xs) zero y = refl
  map_set (x ∷ xs) (suc i) y = ap (λ zs. g x ∷ zs) (map_set xs i y)
