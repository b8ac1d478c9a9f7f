-- What holds of every element, or of every two, of one list after another and at an index; and filters that keep all or nothing.
use mathlib.Core.Path.{◌≡◌, refl, sym, ap, ◌∙◌}
use mathlib.Core.Bool.{Bool, true, false}
use mathlib.Core.List.{List, [], ◌∷◌, ◌++◌}
use mathlib.Core.Logic.{inl, inr}
use Prim.Native.Nat.{ℕ, zero, suc, ◌<◌}
use native.Mathlib.Omega.{arith}
use lib.ListN.{length, get_or}
use Rattle.lists.specs.Lists.{All, Pairwise, filter}
use Rattle.lists.proofs.Cases.{bool_cases}
use Rattle.lists.proofs.ListLaws.{filter_true, filter_false}

module _ {A : Type 0} where
  pub filter_every : (f : A → Bool) (xs : List A) → All (λ x. f x ≡ true) xs → filter f xs ≡ xs
  filter_every f [] a = refl
  filter_every f (x ∷ xs) a = filter_true f x xs a.0 ∙ ap (λ (l : List A). x ∷ l) (filter_every f xs a.1)

  pub filter_none : (f : A → Bool) (xs : List A) → All (λ x. f x ≡ false) xs → filter f xs ≡ []
  filter_none f [] a = refl
  filter_none f (x ∷ xs) a = filter_false f x xs a.0 ∙ filter_none f xs a.1

  -- two tests that agree on the list
  pub filter_same : (f g : A → Bool) (xs : List A) → All (λ x. f x ≡ g x) xs → filter f xs ≡ filter g xs
  filter_same f g [] a = refl
  filter_same f g (x ∷ xs) a =
      elim (bool_cases (g x)) [
        | inl e ↦ filter_true f x xs (a.0 ∙ e) ∙ ap (λ (l : List A). x ∷ l) (filter_same f g xs a.1) ∙ sym (filter_true g x xs e)
        | inr e ↦ filter_false f x xs (a.0 ∙ e) ∙ filter_same f g xs a.1 ∙ sym (filter_false g x xs e)
      ]

  module _ (P : A → Type 0) where
    pub all_append : (xs ys : List A) → All P xs → All P ys → All P (xs ++ ys)
    all_append [] ys a b = b
    all_append (x ∷ xs) ys a b = (a.0, all_append xs ys a.1 b)

    pub append_all : (xs ys : List A) → All P (xs ++ ys) → All P xs × All P ys
    append_all [] ys a = (tt, a)
    append_all (x ∷ xs) ys a = let b = append_all xs ys a.1 in ((a.0, b.0), b.1)

  module _ (P : A → A → Type 0) where
    pub pairwise_right : (xs ys : List A) → Pairwise P (xs ++ ys) → Pairwise P ys
    pairwise_right [] ys a = a
    pairwise_right (x ∷ xs) ys a = pairwise_right xs ys a.1

    -- each element of the first list against the first of the second
    pub pairwise_before : (xs : List A) (y : A) (ys : List A) → Pairwise P (xs ++ (y ∷ ys)) → All (λ x. P x y) xs
    pairwise_before [] y ys a = tt
    pairwise_before (x ∷ xs) y ys a = ((append_all (P x) xs (y ∷ ys) a.0).1.0, pairwise_before xs y ys a.1)

-- at an index
pub all_at : {A : Type 0} (P : A → Type 0) (z : A) (xs : List A) (i : ℕ) → All P xs → i < length xs → P (get_or xs i z)
all_at P z [] i a h = absurd (omega arith)
all_at P z (x ∷ xs) zero a h = a.0
all_at P z (x ∷ xs) (suc i) a h = all_at P z xs i a.1 (omega arith)

pub pairwise_at : {A : Type 0} (P : A → A → Type 0) (z : A) (xs : List A) (i j : ℕ) → Pairwise P xs → i < j → j < length xs
    → P (get_or xs i z) (get_or xs j z)
pairwise_at P z [] i j a h l = absurd (omega arith)
pairwise_at P z (x ∷ xs) i zero a h l = absurd (omega arith)
pairwise_at P z (x ∷ xs) zero (suc j) a h l = all_at (P x) z xs j a.0 (omega arith)
pairwise_at P z (x ∷ xs) (suc i) (suc j) a h l = pairwise_at P z xs i j a.1 (omega arith) (omega arith)
