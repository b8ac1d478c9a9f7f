-- Tests over a range of numbers, and tests of several, as facts.
use mathlib.Core.Path.{◌≡◌, refl, sym, ap, ap₂, ◌∙◌}
use mathlib.Core.Bool.{Bool, true, false, not, ◌&&◌, ◌||◌, false≢true}
use mathlib.Core.Logic.{◌⊎◌, inl, inr}
use mathlib.Core.List.{List, [], ◌∷◌, ◌++◌}
use Prim.Native.Nat.{ℕ, zero, suc, ◌+◌, ◌-◌, ◌≤◌, ◌<◌, max}
use native.Mathlib.Decide.{dec_lt}
use native.Mathlib.Numerals.{add-one}
use native.Mathlib.Omega.{arith}
use lib.ListN.{length, get_or}
use lib.Seq.{ext_get_or}
use native.Mathlib.Nat.{zero-add}
use lib.Dec.{ltb}
use borrow.Author.Tests.{not-true, not-false, ltb-true, lt-ltb}
use Rattle.lists.specs.Lists.{All, Pairwise, every, greatest, tab}

pub and_true : (a b : Bool) → (a && b) ≡ true → (a ≡ true) × (b ≡ true)
and_true true b e = (refl, e)
and_true false b e = absurd (false≢true e)

pub and_three : (a b c : Bool) → (a && b && c) ≡ true → (a ≡ true) × (b ≡ true) × (c ≡ true)
and_three true true c e = (refl, refl, e)
and_three true false c e = absurd (false≢true e)
and_three false b c e = absurd (false≢true e)

pub or_cases : (a b : Bool) → (a || b) ≡ true → (a ≡ true) ⊎ (b ≡ true)
or_cases true b e = inl refl
or_cases false b e = inr e

pub or_holds : (a b : Bool) → (a ≡ true) ⊎ (b ≡ true) → (a || b) ≡ true
or_holds true b h = refl
or_holds false b (inl e) = absurd (false≢true e)
or_holds false b (inr e) = e

pub or_none : (a b : Bool) → (a || b) ≡ false → (a ≡ false) × (b ≡ false)
or_none true b e = absurd (false≢true (sym e))
or_none false b e = (refl, e)

pub same_test : (a b : Bool) → (a ≡ true → b ≡ true) → (b ≡ true → a ≡ true) → a ≡ b
same_test true b f g = sym (f refl)
same_test false true f g = g refl
same_test false false f g = refl

-- a test that cannot hold
pub untrue : {b : Bool} → (b ≡ true → ⊥) → false ≡ b
untrue {b = true} h = absurd (h refl)
untrue {b = false} h = refl

-- a branch on a call's result r, where r is a definition's test b
pub passed : {r b : Bool} → r ≡ b → not r ≡ false → b ≡ true
passed e h = sym e ∙ not-false _ h

pub failed : {r b : Bool} → r ≡ b → not r ≡ true → b ≡ false
failed e h = sym e ∙ not-true _ h

pub every_none : (t : ℕ → Bool) → every 0 t ≡ true
unfolding every
every_none t = refl

-- one test more, passed or not
pub every_and : (n : ℕ) (t : ℕ → Bool) → every (n + 1) t ≡ (every n t && t n)
unfolding every
every_and n t = ap (λ (k : ℕ). every k t) (add-one n)

pub every_at : (n : ℕ) (t : ℕ → Bool) → every n t ≡ true → (k : ℕ) → k < n → t k ≡ true
unfolding every
every_at zero t e k h = absurd (omega arith)
every_at (suc n) t e k h =
    let a = and_true (every n t) (t n) e in
    elim (dec_lt k n) [
      | yes l ↦ every_at n t a.0 k l
      | no l ↦ let i : n ≡ k = omega arith in rw i at a.1
    ]

pub every_of : (n : ℕ) (t : ℕ → Bool) → ((k : ℕ) → k < n → t k ≡ true) → every n t ≡ true
unfolding every
every_of zero t h = refl
every_of (suc n) t h = rw (every_of n t (λ k q. h k (omega arith)), h n (omega arith))

pub every_ext : (n : ℕ) (t u : ℕ → Bool) → ((k : ℕ) → k < n → t k ≡ u k) → every n t ≡ every n u
every_ext n t u h =
    same_test (every n t) (every n u)
    (λ e. every_of n u (λ k q. sym (h k q) ∙ every_at n t e k q))
    (λ e. every_of n t (λ k q. h k q ∙ every_at n u e k q))

-- a function that rises at each step rises over any steps
pub rising :
    (n : ℕ) (g : ℕ → ℕ) → every (n - 1) (λ i. ltb (g i) (g (i + 1))) ≡ true → (i j : ℕ) → i < j → j < n → g i < g j
rising n g e i zero h l = absurd (omega arith)
rising n g e i (suc j) h l =
    let s : g j < g (suc j) = rw (add-one j) at (ltb-true (g j) (g (j + 1)) (every_at (n - 1) _ e j (omega arith))) in
    elim (dec_lt i j) [
      | yes q ↦ omega (arith, rising n g e i j q (omega arith))
      | no q ↦ let d : i ≡ j = omega arith in rw d s
    ]

pub rising_test : (n : ℕ) (g : ℕ → ℕ) → ((i j : ℕ) → i < j → j < n → g i < g j) → every (n - 1) (λ i. ltb (g i) (g (i + 1))) ≡ true
rising_test n g h = every_of (n - 1) _ (λ i q. lt-ltb (g i) (g (i + 1)) (h i (i + 1) (omega arith) (omega arith)))

pub greatest_le : (n : ℕ) (f : ℕ → ℕ) (m : ℕ) → ((k : ℕ) → k < n → f k ≤ m) → greatest n f ≤ m
unfolding greatest
greatest_le zero f m h = omega arith
greatest_le (suc n) f m h = omega (arith, greatest_le n f m (λ k q. h k (omega arith)), h n (omega arith))

pub greatest_at : (n : ℕ) (f : ℕ → ℕ) (k : ℕ) → k < n → f k ≤ greatest n f
unfolding greatest
greatest_at zero f k h = absurd (omega arith)
greatest_at (suc n) f k h =
    elim (dec_lt k n) [
      | yes l ↦ omega (arith, greatest_at n f k l)
      | no l ↦ let i : k ≡ n = omega arith in rw i (omega arith)
    ]

-- the first number apart
pub greatest_first : (n : ℕ) (f : ℕ → ℕ) → greatest (suc n) f ≡ max (f 0) (greatest n (λ i. f (suc i)))
unfolding greatest
greatest_first zero f = omega arith
greatest_first (suc n) f = omega (arith, greatest_first n f)

pub greatest_ext : (n : ℕ) (f g : ℕ → ℕ) → ((k : ℕ) → k < n → f k ≡ g k) → greatest n f ≡ greatest n g
unfolding greatest
greatest_ext zero f g h = refl
greatest_ext (suc n) f g h = ap₂ max (greatest_ext n f g (λ k q. h k (omega arith))) (h n (omega arith))

pub length_tab : {A : Type 0} (n : ℕ) (f : ℕ → A) → length (tab n f) ≡ n
unfolding tab
length_tab zero f = refl
length_tab (suc n) f = ap suc (length_tab n (λ i. f (suc i)))

pub get_d_tab : {A : Type 0} (n : ℕ) (f : ℕ → A) (i : ℕ) (z : A) → i < n → get_or (tab n f) i z ≡ f i
unfolding tab
get_d_tab zero f i z h = absurd (omega arith)
get_d_tab (suc n) f zero z h = refl
get_d_tab (suc n) f (suc i) z h = get_d_tab n (λ i. f (suc i)) i z (omega arith)

pub tab_ext : {A : Type 0} (n : ℕ) (f g : ℕ → A) → ((i : ℕ) → i < n → f i ≡ g i) → tab n f ≡ tab n g
unfolding tab
tab_ext zero f g h = refl
tab_ext (suc n) f g h = rw (h 0 (omega arith), tab_ext n (λ i. f (suc i)) (λ i. g (suc i)) (λ i q. h (suc i) (omega arith)))

-- the last element apart
pub tab_last : {A : Type 0} (n : ℕ) (f : ℕ → A) → tab (suc n) f ≡ tab n f ++ f n ∷ []
unfolding tab
tab_last zero f = refl
tab_last (suc n) f = ap (λ l. f 0 ∷ l) (tab_last n (λ i. f (suc i)))

-- lists made of their elements
pub tab_of : {A : Type 0} (z : A) (n : ℕ) (f : ℕ → A) (xs : List A) → length xs ≡ n → ((i : ℕ) → i < n → f i ≡ get_or xs i z) → tab n f ≡ xs
tab_of z n f xs l e =
    ext_get_or z (tab n f) xs (length_tab n f ∙ sym l)
    (λ i h. let q : i < n = omega (arith, length_tab n f) in get_d_tab n f i z q ∙ e i q)

pub all_tab : {A : Type 0} (P : A → Type 0) (n : ℕ) (g : ℕ → A) → ((i : ℕ) → i < n → P (g i)) → All P (tab n g)
unfolding tab
all_tab P zero g a = tt
all_tab P (suc n) g a = (a 0 (omega arith), all_tab P n (λ i. g (suc i)) (λ i q. a (suc i) (omega arith)))

pub pairwise_tab : {A : Type 0} (P : A → A → Type 0) (n : ℕ) (g : ℕ → A) → ((i j : ℕ) → i < j → j < n → P (g i) (g j))
    → Pairwise P (tab n g)
unfolding tab
pairwise_tab P zero g a = tt
pairwise_tab P (suc n) g a = (
  all_tab (P (g 0)) n (λ i. g (suc i)) (λ i q. a 0 (suc i) (omega arith) (omega arith)),
  pairwise_tab P n (λ i. g (suc i)) (λ i j l q. a (suc i) (suc j) (omega arith) (omega arith)),
)

pub tab_append : {A : Type 0} (m n : ℕ) (f : ℕ → A) → tab (m + n) f ≡ tab m f ++ tab n (λ i. f (m + i))
unfolding tab
tab_append zero n f = ap (λ k. tab k f) (zero-add n) ∙ tab_ext n f (λ i. f (0 + i)) (λ i h. ap f (sym (zero-add i)))
tab_append (suc m) n f =
    let e : suc m + n ≡ suc (m + n) = omega arith in
    ap (λ k. tab k f) e
    ∙ ap (λ l. f 0 ∷ l) (tab_append m n (λ i. f (suc i)) ∙ ap (λ l. tab m (λ i. f (suc i)) ++ l) (tab_ext n _ _ (λ i h. ap f (shift m i))))
  where
    shift : (m i : ℕ) → suc (m + i) ≡ suc m + i
    shift m i = omega arith
