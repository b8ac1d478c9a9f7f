-- The rule of runs, neighbour by neighbour: two neighbours that lie in a run of either are equal.
--   aligned        == the trailing zeros of each entry's number below 64; 6 at 0
--   zeros_of i      == those of i
--   Joined H e i   == entries i − 1 and i are equal, where the aligned run of either holds both
use Rattle.std.proofs.Common.{◌≡◌, ℕ, zero, suc, ◌+◌, ◌-◌, ◌*◌, ◌/◌, ◌%◌, ◌^◌, ◌<◌, ◌≤◌, Bool, true, false, not, ◌&&◌, eqb, ltb, leb, ◌⊎◌, List, [], ◌∷◌, get_or, sym, refl, ap, ◌∙◌, inl, inr, mod-lt, sub-le, arith, pow_pos, pow_mono, ltb-true, lt-ltb, eq-eqb, ne_eqb, leb-true}
use mathlib.Core.Bool.{false≢true}
use native.Mathlib.Decide.{dec_le, dec_lt}
use native.Mathlib.Nat.{mod-le}
use lib.Pow.{split, low}
use Rattle.lists.specs.Lists.{every}
use Rattle.lists.proofs.Powers.{run_lt}
use Rattle.lists.proofs.Tests.{and_true, every_at}
use Rattle.tree.specs.Node.{Entry}
use Rattle.node.proofs.RunWalk.{RunAt}

-- the table
unfoldable pub aligned : List ℕ
aligned =
    6 ∷ 0 ∷ 1 ∷ 0 ∷ 2 ∷ 0 ∷ 1 ∷ 0 ∷ 3 ∷ 0 ∷ 1 ∷ 0 ∷ 2 ∷ 0 ∷ 1 ∷ 0
    ∷ 4 ∷ 0 ∷ 1 ∷ 0 ∷ 2 ∷ 0 ∷ 1 ∷ 0 ∷ 3 ∷ 0 ∷ 1 ∷ 0 ∷ 2 ∷ 0 ∷ 1 ∷ 0
    ∷ 5 ∷ 0 ∷ 1 ∷ 0 ∷ 2 ∷ 0 ∷ 1 ∷ 0 ∷ 3 ∷ 0 ∷ 1 ∷ 0 ∷ 2 ∷ 0 ∷ 1 ∷ 0
    ∷ 4 ∷ 0 ∷ 1 ∷ 0 ∷ 2 ∷ 0 ∷ 1 ∷ 0 ∷ 3 ∷ 0 ∷ 1 ∷ 0 ∷ 2 ∷ 0 ∷ 1 ∷ 0
    ∷ []

abbrev pub zeros_of : ℕ → ℕ
zeros_of i = get_or aligned i 0

-- its rule, computed once: 2^s divides i just where i has s trailing zeros
unfoldable like : Bool → Bool → Bool
like true b = b
like false b = not b

like_same : (a b : Bool) → like a b ≡ true → a ≡ b
unfolding like
like_same true true e = refl
like_same true false e = sym e
like_same false true e = e
like_same false false e = refl

abbrev fewer : ℕ → ℕ → Bool
fewer i s = like (ltb (zeros_of i) s) (not (eqb (i % 2 ^ s) 0))

unfoldable right : ℕ → Bool
right i = leb (zeros_of i) 6 && every 7 (fewer i)

all_right : every 64 right ≡ true
unfolding aligned like right every
all_right = refl

module _ (i : ℕ) (h : i < 64) where
  right_at : (zeros_of i ≤ 6) × (every 7 (fewer i) ≡ true)
  unfolding right
  right_at =
      let a = and_true (leb (zeros_of i) 6) (every 7 (fewer i)) (every_at 64 right all_right i h) in
      (leb-true (zeros_of i) 6 a.0, a.1)

  pub zeros_most : zeros_of i ≤ 6
  zeros_most = right_at.0

  module _ (s : ℕ) (q : s ≤ 6) where
    zeros_test : ltb (zeros_of i) s ≡ not (eqb (i % 2 ^ s) 0)
    zeros_test = like_same _ _ (every_at 7 (fewer i) right_at.1 s (omega arith))

    -- i has fewer than s just where no aligned run of 2^s begins at i
    pub inner : zeros_of i < s → 0 < i % 2 ^ s
    inner l =
        elim (dec_lt 0 (i % 2 ^ s)) [
          | yes p ↦ p
          | no p ↦ absurd (false≢true (ap not (sym (eq-eqb (i % 2 ^ s) 0 (omega arith))) ∙ sym zeros_test ∙ lt-ltb (zeros_of i) s l))
        ]

    pub of_inner : 0 < i % 2 ^ s → zeros_of i < s
    of_inner l = ltb-true (zeros_of i) s (zeros_test ∙ ap not (ne_eqb (i % 2 ^ s) 0 (λ e. omega arith)))

pub zeros_first : zeros_of 0 ≡ 6
unfolding aligned
zeros_first = refl

-- a value that passes from neighbour to neighbour stands everywhere
module _ {A : Type 0} (n : ℕ) (f : ℕ → A) (v : A) (step : (j : ℕ) → suc j < n → (f j ≡ v) ⊎ (f (suc j) ≡ v) → f j ≡ f (suc j)) where
  downwards : (r : ℕ) → r < n → f r ≡ v → (j : ℕ) → j ≤ r → f j ≡ v
  downwards zero h e j q = let z : j ≡ 0 = omega arith in rw z e
  downwards (suc r) h e j q =
      elim (dec_le j r) [
        | yes l ↦ downwards r (omega arith) (step r h (inr e) ∙ e) j l
        | no l ↦ let z : j ≡ suc r = omega arith in rw z e
      ]

  upwards : (r : ℕ) → f r ≡ v → (j : ℕ) → r ≤ j → j < n → f j ≡ v
  upwards r e zero q h = let z : r ≡ 0 = omega arith in rw z at e
  upwards r e (suc j) q h =
      elim (dec_le r j) [
        | yes l ↦ let b = upwards r e j l (omega arith) in sym (step j h (inl b)) ∙ b
        | no l ↦ let z : r ≡ suc j = omega arith in rw z at e
      ]

  pub throughout : (r : ℕ) → r < n → f r ≡ v → (j : ℕ) → j < n → f j ≡ v
  throughout r h e j q =
      elim (dec_le j r) [
        | yes l ↦ downwards r h e j l
        | no l ↦ upwards r e j (omega arith) q
      ]

-- the places of two neighbours in their run
run_later : (s k j : ℕ) → suc j < 2 ^ s → (k - k % 2 ^ s + suc j) % 2 ^ s ≡ suc j
run_later s k j h =
    let e : k - k % 2 ^ s ≡ k / 2 ^ s * 2 ^ s = omega (arith, split k s) in
    ap (λ (n : ℕ). (n + suc j) % 2 ^ s) e ∙ low (k / 2 ^ s) s h

run_earlier : (s i : ℕ) → 0 < i % 2 ^ s → (i - 1) % 2 ^ s ≡ i % 2 ^ s - 1
run_earlier s i h =
    let e : i - 1 ≡ i / 2 ^ s * 2 ^ s + (i % 2 ^ s - 1) = omega (arith, split i s) in
    ap (λ (n : ℕ). n % 2 ^ s) e ∙ low (i / 2 ^ s) s (omega (arith, mod-lt i (pow_pos s)))

module _ (H : ℕ) (e : ℕ → Entry ℕ) where
  abbrev pub Joined : ℕ → Type 0
  Joined i = ((e (i - 1)).0 + zeros_of i < H) ⊎ ((e i).0 + zeros_of i < H) → e (i - 1) ≡ e i

  module _ (small : H ≤ 6) where
    index_small : (i : ℕ) → i < 2 ^ H → i < 64
    index_small i h = omega (arith, pow_mono {i = H} {j = 6} small)

    -- runs join neighbours
    pub runs_join : ((k : ℕ) → k < 2 ^ H → RunAt H e k) → (i : ℕ) → 1 ≤ i → i < 2 ^ H → Joined i
    runs_join rule i p h (inl q) =
        let s : ℕ = H - (e (i - 1)).0 in
        let r : 0 < i % 2 ^ s = inner i (index_small i h) s (omega arith) (omega arith) in
        let at : i - 1 - (i - 1) % 2 ^ s + i % 2 ^ s ≡ i = omega (arith, run_earlier s i r, mod-le i (2 ^ s)) in
        sym (rw at at ((rule (i - 1) (omega arith)).1 (i % 2 ^ s) (mod-lt i (pow_pos s))))
    runs_join rule i p h (inr q) =
        let s : ℕ = H - (e i).0 in
        let r : 0 < i % 2 ^ s = inner i (index_small i h) s (omega arith) (omega arith) in
        let at : i - i % 2 ^ s + (i % 2 ^ s - 1) ≡ i - 1 = omega (arith, mod-le i (2 ^ s)) in
        rw at at ((rule i h).1 (i % 2 ^ s - 1) (omega (arith, mod-lt i (pow_pos s))))

    -- joined neighbours make runs
    module _ (all : (i : ℕ) → 1 ≤ i → i < 2 ^ H → Joined i) (k : ℕ) (h : k < 2 ^ H) where
      along : (j : ℕ) → suc j < 2 ^ (H - (e k).0)
          → let b = k - k % 2 ^ (H - (e k).0) in
          (e (b + j) ≡ e k) ⊎ (e (b + suc j) ≡ e k) → e (b + j) ≡ e (b + suc j)
      along j q c =
          let s : ℕ = H - (e k).0 in
          let b : ℕ = k - k % 2 ^ s in
          let i : ℕ = b + suc j in
          let back : i - 1 ≡ b + j = omega arith in
          let l : i < 2 ^ H = run_lt H s k (suc j) (sub-le H (e k).0) h q in
          let z : zeros_of i < s = of_inner i (index_small i l) s (omega arith) (omega (arith, run_later s k j q)) in
          (rw back at (all i (omega arith) l))
          (elim c [ inl a ↦ inl (omega (arith, z, ap (λ x. x.0) a)) | inr a ↦ inr (omega (arith, z, ap (λ x. x.0) a)) ])

      pub joined_run : (e k).0 ≤ H → RunAt H e k
      joined_run deep =
          let s : ℕ = H - (e k).0 in
          let b : ℕ = k - k % 2 ^ s in
          let at : b + k % 2 ^ s ≡ k = omega (arith, mod-le k (2 ^ s)) in
          (deep, throughout (2 ^ s) (λ j. e (b + j)) (e k) along (k % 2 ^ s) (mod-lt k (pow_pos s)) (ap e at))
