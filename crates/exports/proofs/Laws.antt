-- The laws of the reply words.
use mathlib.Core.Path.{◌≡◌, refl, ap, ◌∙◌}
use mathlib.Core.List.{List, [], ◌∷◌, ◌++◌}
use Prim.Native.Nat.{ℕ, zero, suc, ◌≤◌, ◌<◌}
use native.Mathlib.Omega.{arith}
use lib.ListN.{length, take, set, get_or}
use Rattle.exports.specs.Reply.{filled}

-- one value more
pub filled_none : (vs out : List ℕ) → out ≡ filled (take 0 vs) out
unfolding filled
filled_none vs out = refl

pub filled_more : (vs out : List ℕ) (i : ℕ) → i < length vs → set (filled (take i vs) out) i (get_or vs i 0) ≡ filled (take (suc i) vs) out
unfolding filled
filled_more [] out i h = absurd (omega arith)
filled_more (v ∷ vs) [] zero h = refl
filled_more (v ∷ vs) [] (suc i) h = refl
filled_more (v ∷ vs) (w ∷ ws) zero h = refl
filled_more (v ∷ vs) (w ∷ ws) (suc i) h = ap (λ l. v ∷ l) (filled_more vs ws i (omega arith))

-- a value past the words
pub filled_past : (vs out : List ℕ) (i : ℕ) → length out ≤ i → filled (take i vs) out ≡ filled (take (suc i) vs) out
unfolding filled
filled_past [] out zero h = refl
filled_past [] out (suc i) h = refl
filled_past (v ∷ vs) [] zero h = refl
filled_past (v ∷ vs) [] (suc i) h = refl
filled_past (v ∷ vs) (w ∷ ws) zero h = absurd (omega arith)
filled_past (v ∷ vs) (w ∷ ws) (suc i) h = ap (λ l. v ∷ l) (filled_past vs ws i (omega arith))

-- the number and the values of a reply are told of an equal one
pub told_of : {R : Type 0} (number : R → ℕ) (values : R → List ℕ) {a b : R} {r : ℕ} {after : List ℕ} (before : List ℕ)
    → a ≡ b → (r ≡ number a) × (after ≡ filled (values a) before) → (r ≡ number b) × (after ≡ filled (values b) before)
told_of number values before e t = (t.0 ∙ ap number e, t.1 ∙ ap (λ x. filled (values x) before) e)

-- the same beside lent words
pub told_words : {R : Type 0} (number : R → ℕ) (values : R → List ℕ) {a b : R} {r : ℕ} {after words given : List ℕ} (before : List ℕ)
    → a ≡ b → words ≡ given → (r ≡ number a) × (after ≡ filled (values a) before)
    → (r ≡ number b) × (words ≡ given) × (after ≡ filled (values b) before)
told_words number values before e w t = let u = told_of number values before e t in (u.0, w, u.1)
