-- Words copied, tests made one after another, and where blocks stand.
use mathlib.Core.Path.{◌≡◌, refl, sym, ap, ap₂, ◌∙◌}
use mathlib.Core.Bool.{Bool, ◌&&◌}
use mathlib.Core.List.{List, ◌++◌}
use Prim.Native.Nat.{ℕ, zero, suc, ◌+◌, ◌-◌, ◌*◌, ◌%◌, ◌^◌, ◌≤◌, ◌<◌, min}
use native.Mathlib.Nat.{zero-add}
use native.Mathlib.Numerals.{add-one}
use native.Mathlib.Decide.{dec_lt}
use native.Mathlib.Omega.{arith}
use lib.ListN.{length, replicate, take, drop, get_or}
use lib.Seq.{ext_get_or}
use lib.Dec.{eqb}
use borrow.Author.Tests.{lt-ltb, le-ltb}
use Rattle.std.specs.List.{list_all, range_with_len}
use Rattle.std.proofs.lemmas.List.{length-take, length-drop, length-append, length-replicate, get_or-take, get_or-drop, get_or-replicate, get_or_past}
use Rattle.std.proofs.lemmas.List.{get_or_append_left, get_or-append_right, take_at, take_all, drop_at, drop-drop}
use Rattle.std.proofs.lemmas.List.FromFn.{length-range_with_len, get_or-range_with_len}
use Rattle.std.proofs.lemmas.List.Folds.{list_all_more}
use Rattle.lists.specs.Lists.{every}
use Rattle.lists.proofs.Tests.{every_ext, length_tab, get_d_tab}
use Rattle.store.specs.Head.{word}
use Rattle.raw.specs.Words.{written, all_from}
use Rattle.raw.specs.Blocks.{node_size}

-- tests of the elements of a list, and of the numbers of a range
tests_front : (p : ℕ → Bool) (xs : List ℕ) (n : ℕ) → n ≤ length xs → list_all p (take n xs) ≡ every n (λ k. p (get_or xs k 0))
unfolding every
tests_front p xs zero h = refl
tests_front p xs (suc n) h =
    ap (λ m. list_all p (take m xs)) (sym (add-one n)) ∙ list_all_more p xs n 0 (omega arith)
    ∙ ap (λ b. b && p (get_or xs n 0)) (tests_front p xs n (omega arith))

pub tests_list : (p t : ℕ → Bool) (xs : List ℕ) (n : ℕ) → length xs ≡ n → ((k : ℕ) → k < n → p (get_or xs k 0) ≡ t k)
    → list_all p xs ≡ every n t
tests_list p t xs n l h =
    ap (list_all p) (sym (take_all n xs (omega arith))) ∙ tests_front p xs n (omega arith) ∙ every_ext n _ t h

pub tests_range : (t : ℕ → Bool) (n : ℕ) → list_all t (range_with_len 0 n) ≡ every n t
tests_range t n =
    tests_list t t (range_with_len 0 n) n (length-range_with_len 0 n)
    (λ k h. ap t (get_or-range_with_len 0 n k 0 h ∙ zero-add k))

-- words of one value
pub all_is : (s : List ℕ) (i v : ℕ) → list_all (λ w. eqb w v) (drop i s) ≡ all_from s i v
unfolding all_from
all_is s i v =
    tests_list (λ w. eqb w v) _ (drop i s) (length s - i) (length-drop i s) (λ k h. ap (λ w. eqb w v) (get_or-drop i s k 0))

-- the words of blocks, and the block of a kind
pub words_cut : {w b k n m : ℕ} → w ≡ b * k % 2 ^ 32 → b ≡ n → k ≡ m → w ≡ n * m % 2 ^ 32
words_cut e f g = e ∙ ap₂ (λ x y. x * y % 2 ^ 32) f g

pub size_within : (θ : ℕ) → θ ≤ 6 → 4 + 2 * 2 ^ θ ≡ node_size θ
unfolding node_size
size_within θ h = let e : θ ≡ min θ 6 = omega arith in ap (λ x. 4 + 2 * 2 ^ x) e

pub size_above : (θ : ℕ) → 6 < θ → 132 ≡ node_size θ
unfolding node_size
size_above θ h = let e : 6 ≡ min θ 6 = omega arith in ap (λ x. 4 + 2 * 2 ^ x) e

module _ (g : ℕ → ℕ) (s : List ℕ) where
  pub written_length : (n : ℕ) → length (written g s n) ≡ length s
  unfolding written
  written_length n = length_tab (length s) _

  -- a word below n, and one from there on
  pub written_below : (n j : ℕ) → j < n → j < length s → word (written g s n) j ≡ g j
  unfolding written
  written_below n j h l = get_d_tab (length s) _ j 0 l ∙ rw (lt-ltb j n h)

  pub written_above : (n j : ℕ) → n ≤ j → j < length s → word (written g s n) j ≡ word s j
  unfolding written
  written_above n j h l = get_d_tab (length s) _ j 0 l ∙ rw (le-ltb j n h)

-- the first words copied, and zeros where there are none to copy
module _ (f t : List ℕ) (n : ℕ) {k m : ℕ} (ek : k ≡ min n (length t)) (em : m ≡ min k (length f)) where
  abbrev copied_list : List ℕ
  copied_list = take m f ++ (replicate (k - m) 0 ++ drop k t)

  known : length (take m f) ≡ m
  known = length-take m f ∙ omega arith

  long : length copied_list ≡ length t
  long =
      length-append (take m f) _ ∙ ap₂ ◌+◌ known (length-append (replicate (k - m) 0) (drop k t)
      ∙ ap₂ ◌+◌ (length-replicate {A = ℕ} (k - m) 0) (length-drop k t)) ∙ omega arith

  at : (j : ℕ) → j < length t → word copied_list j ≡ word (written (word f) t n) j
  at j l =
      elim (dec_lt j m) [
        | yes a ↦
            get_or_append_left (take m f) _ 0 j (omega (arith, known)) ∙ get_or-take m f j 0 a
            ∙ sym (written_below (word f) t n j (omega arith) l)
        | no a ↦
            get_or-append_right (take m f) _ m j 0 known (omega arith)
            ∙ elim (dec_lt j k) [
              | yes b ↦
                  get_or_append_left (replicate (k - m) 0) _ 0 (j - m) (omega (arith, length-replicate {A = ℕ} (k - m) 0))
                  ∙ get_or-replicate (k - m) (j - m) 0 0 (omega arith) ∙ sym (get_or_past f j 0 (omega arith))
                  ∙ sym (written_below (word f) t n j (omega arith) l)
              | no b ↦
                  get_or-append_right (replicate (k - m) 0) _ (k - m) (j - m) 0 (length-replicate {A = ℕ} (k - m) 0) (omega arith)
                  ∙ get_or-drop k t _ 0 ∙ ap (word t) (omega arith) ∙ sym (written_above (word f) t n j (omega arith) l)
            ]
      ]

  pub copied : {s z : List ℕ} → s ≡ take m f → z ≡ replicate (k - m) 0
      → take m (s ++ drop m t) ++ (z ++ drop (k - m) (drop m (s ++ drop m t))) ≡ written (word f) t n
  copied {s} {z} es ez =
      let ls : length s ≡ m = ap length es ∙ known in
      let rest : drop (k - m) (drop m (s ++ drop m t)) ≡ drop k t =
      ap (drop (k - m)) (drop_at s (drop m t) m ls) ∙ drop-drop (k - m) m t ∙ ap (λ i. drop i t) (omega arith) in
      ap₂ ◌++◌ (take_at s (drop m t) m ls ∙ es) (ap₂ ◌++◌ ez rest)
      ∙ ext_get_or 0 copied_list (written (word f) t n) (long ∙ sym (written_length (word f) t n))
      (λ j h. at j (omega (arith, long)))
