-- The records of a trie in order, against keys. A fork has the lower keys on its left, so what stands left of a key's leaf is below the
-- key, and what stands right of it is above; and the leaves of the trie of an ascending list, one after another, are the list.
--   held t       == the records of the leaves, one after another
--   records b0   == the same of level-0 stretches
--   records_of xs == the records of a list of stretches
use mathlib.Core.Path.{◌≡◌, refl, sym, ap, ap₂, ◌∙◌}
use mathlib.Core.Bool.{Bool, true, false}
use mathlib.Core.List.{List, [], ◌∷◌, ◌++◌, append_assoc, append-nil}
use mathlib.Core.Logic.{inl, inr}
use Prim.Native.Nat.{ℕ, zero, suc, ◌+◌, ◌*◌, ◌/◌, ◌^◌, ◌≤◌, ◌<◌}
use native.Mathlib.Nat.{div-eq_of_lt}
use native.Mathlib.Decide.{dec_le, dec_lt}
use native.Mathlib.Omega.{arith}
use lib.Dec.{eqb}
use lib.ListN.{length}
use lib.Pow.{shr_mono}
use borrow.Author.Tests.{ne_eqb}
use Rattle.lists.specs.Bits.{bit, bits}
use Rattle.lists.specs.Lists.{All}
use Rattle.lists.specs.Keyed.{Sorted, Lacks, Bounded, Prefix}
use Rattle.lists.proofs.Cases.{bool_cases}
use Rattle.lists.proofs.Powers.{half}
use Rattle.lists.proofs.BitLaws.{bit_false, bit_true}
use Rattle.lists.proofs.ListLaws.{all_map}
use Rattle.lists.proofs.KeyedLaws.{bounded_prefix}
use Rattle.tree.specs.Trie.{Trie, leaf, fork, Key, labels, leaf_at}
use Rattle.tree.specs.Build.{side, build}
use Rattle.tree.proofs.BuildLaws.{sorted_side, sides_low, sides_high, prefix_low, prefix_high, build_le, build_gt}
use Rattle.store.specs.declared.Item.{Item}
use Rattle.page.specs.Page.{above}
use Rattle.search.specs.Way.{Record, Nothing}
use Rattle.represent.specs.Labelled.{before, after}
use Rattle.page.specs.Schema.{key_of}
use Rattle.represent.specs.Rep.{Stretch, contents, Keyed}
use Rattle.readings.specs.Listing.{first_where, first_of}
use Rattle.represent.proofs.LabelLaws.{labels_at}
use Rattle.lists.proofs.AppendLaws.{all_append}
use Rattle.readings.proofs.FirstLaws.{or_else, or_else_nothing, first_append, first_none, skip_below, first_beyond}

-- a key with a smaller quotient is smaller
shr_lt_back : (w a b : ℕ) → a / 2 ^ w < b / 2 ^ w → a < b
shr_lt_back w a b h =
    elim (dec_lt a b) [
      | yes l ↦ l
      | no l ↦ let g : b ≤ a = omega arith in absurd (omega (arith, shr_mono w g))
    ]

module _ {R : Type 0} where
  abbrev pub held : Trie (List R) → List R
  held (leaf rs) = rs
  held (fork l r) = held l ++ held r

  module _ (key : R → ℕ) where
    -- the low side of an ascending list, then the high side
    sides_join : (w q : ℕ) (rs : List R) → Sorted key rs → Prefix key (suc w) q rs → side key false w rs ++ side key true w rs ≡ rs
    sides_join w q [] s p = refl
    sides_join w q (x ∷ xs) s p =
        elim (bool_cases (bit w (key x))) [
          | inl e ↦ let h = sides_high key w q x xs s p e in ap₂ ◌++◌ h.0 h.1
          | inr e ↦
              let h = sides_low key w x xs e in
              ap₂ ◌++◌ h.0 h.1 ∙ ap (λ (l : List R). x ∷ l) (sides_join w q xs s.1 p.1)
        ]

    build_records : (C w q : ℕ) (rs : List R) → Sorted key rs → Prefix key w q rs → held (build key C w rs) ≡ rs
    unfolding build
    build_records C zero q rs s p = refl
    build_records C (suc w) q rs s p =
        elim (dec_le (length rs) C) [
          | yes h ↦ ap held (build_le key C (suc w) rs h)
          | no h ↦
              ap held (build_gt key C w rs (omega arith))
              ∙ ap₂ ◌++◌ (build_records C w (2 * q) (side key false w rs) (sorted_side key false w rs s) (prefix_low key w q rs p))
              (build_records C w (2 * q + 1) (side key true w rs) (sorted_side key true w rs s) (prefix_high key w q rs p))
              ∙ sides_join w q rs s p
        ]

abbrev pub records : Trie Stretch → List Item
records b0 = held (contents b0)

abbrev pub records_of : List Stretch → List Item
records_of [] = []
records_of (x ∷ xs) = x.1 ++ records_of xs

pub records_are : (C W : ℕ) (b0 : Trie Stretch) (S : List Item) → contents b0 ≡ build key_of C W S → Sorted key_of S → Bounded key_of (2 ^ W) S
    → records b0 ≡ S
records_are C W b0 S e s b = ap held e ∙ build_records key_of C W 0 S s (bounded_prefix key_of W S b)

records_of_append : (xs ys : List Stretch) → records_of (xs ++ ys) ≡ records_of xs ++ records_of ys
records_of_append [] ys = refl
records_of_append (x ∷ xs) ys =
    ap (λ (l : List Item). x.1 ++ l) (records_of_append xs ys) ∙ sym (append_assoc x.1 (records_of xs) (records_of ys))

records_labels : (t : Trie Stretch) → records t ≡ records_of (labels t)
records_labels (leaf x) = sym (append-nil x.1)
records_labels (fork l r) = ap₂ ◌++◌ (records_labels l) (records_labels r) ∙ sym (records_of_append (labels l) (labels r))

records_at : (t : Trie Stretch) (k : Key) → records t ≡ records_of (before t k) ++ ((leaf_at t k).1 ++ records_of (after t k))
records_at t k = records_labels t ∙ ap records_of (labels_at t k) ∙ records_of_append (before t k) (leaf_at t k ∷ after t k)

all_joined : (P : Item → Type 0) (xs ys : List Stretch) → All P (records_of xs) → All P (records_of ys) → All P (records_of (xs ++ ys))
all_joined P xs ys a b = rw (records_of_append xs ys) (all_append P (records_of xs) (records_of ys) a b)

-- a common prefix, one bit shorter, and against a key's
prefix_up : (w q p : ℕ) (its : List Item) → p / 2 ≡ q → Prefix key_of w p its → Prefix key_of (suc w) q its
prefix_up w q p its e =
    all_map (λ it. it.key / 2 ^ w ≡ p) (λ it. it.key / 2 ^ suc w ≡ q) its (λ it o. half w it.key ∙ ap (λ n. n / 2) o ∙ e)

prefix_below : (w q k : ℕ) (its : List Item) → q < k / 2 ^ w → Prefix key_of w q its → All (λ it. it.key < k) its
prefix_below w q k its l =
    all_map (λ it. it.key / 2 ^ w ≡ q) (λ it. it.key < k) its (λ it o. shr_lt_back w it.key k (omega arith))

prefix_above : (w q k : ℕ) (its : List Item) → k / 2 ^ w < q → Prefix key_of w q its → All (λ it. k < it.key) its
prefix_above w q k its l =
    all_map (λ it. it.key / 2 ^ w ≡ q) (λ it. k < it.key) its (λ it o. shr_lt_back w k it.key (omega arith))

prefix_keyed : (w q : ℕ) (t : Trie Stretch) → Keyed w q t → Prefix key_of w q (records_of (labels t))
prefix_keyed w q (leaf x) a = all_append (λ it. it.key / 2 ^ w ≡ q) x.1 [] a tt
prefix_keyed zero q (fork l r) a = absurd a
prefix_keyed (suc w) q (fork l r) a =
    all_joined (λ it. it.key / 2 ^ suc w ≡ q) (labels l) (labels r)
    (prefix_up w q (2 * q) (records_of (labels l)) (omega arith) (prefix_keyed w (2 * q) l a.0))
    (prefix_up w q (2 * q + 1) (records_of (labels r)) (omega arith) (prefix_keyed w (2 * q + 1) r a.1))

keyed_before : (w q k : ℕ) (t : Trie Stretch) → Keyed w q t → k / 2 ^ w ≡ q → All (λ it. it.key < k) (records_of (before t (bits w k)))
keyed_before w q k (leaf x) a e = tt
keyed_before zero q k (fork l r) a e = absurd a
keyed_before (suc w) q k (fork l r) a e =
    elim (bool_cases (bit w k)) [
      | inl b ↦
          let c : k / 2 ^ w ≡ 2 * q + 1 = omega (arith, bit_true w k b) in
          rw b
          (all_joined (λ it. it.key < k) (labels l) (before r (bits w k))
          (prefix_below w (2 * q) k (records_of (labels l)) (omega arith) (prefix_keyed w (2 * q) l a.0))
          (keyed_before w (2 * q + 1) k r a.1 c))
      | inr b ↦ rw b (keyed_before w (2 * q) k l a.0 (omega (arith, bit_false w k b)))
    ]

pub keyed_after : (w q k : ℕ) (t : Trie Stretch) → Keyed w q t → k / 2 ^ w ≡ q → All (λ it. k < it.key) (records_of (after t (bits w k)))
keyed_after w q k (leaf x) a e = tt
keyed_after zero q k (fork l r) a e = absurd a
keyed_after (suc w) q k (fork l r) a e =
    elim (bool_cases (bit w k)) [
      | inl b ↦ rw b (keyed_after w (2 * q + 1) k r a.1 (omega (arith, bit_true w k b)))
      | inr b ↦
          let c : k / 2 ^ w ≡ 2 * q = omega (arith, bit_false w k b) in
          rw b
          (all_joined (λ it. k < it.key) (after l (bits w k)) (labels r)
          (keyed_after w (2 * q) k l a.0 c)
          (prefix_above w (2 * q + 1) k (records_of (labels r)) (omega arith) (prefix_keyed w (2 * q + 1) r a.1)))
    ]

-- no record of another key is found
find_none : (k : ℕ) (its : List Item) → Lacks key_of k its → first_where (λ it. eqb it.key k) its ≡ Nothing
find_none k its a =
    first_none (λ it. eqb it.key k) its
    (all_map (λ it. it.key ≡ k → ⊥) (λ it. eqb it.key k ≡ false) its (λ it n. ne_eqb it.key k n) a)

-- find and next at a key: its own leaf, and what is right of it
module _ (W k : ℕ) (t : Trie Stretch) (keyed : Keyed W 0 t) (fits : k < 2 ^ W) where
  abbrev left : List Item
  left = records_of (before t (bits W k))

  abbrev own : List Item
  own = (leaf_at t (bits W k)).1

  abbrev right : List Item
  right = records_of (after t (bits W k))

  all_left : All (λ it. it.key < k) left
  all_left = keyed_before W 0 k t keyed (div-eq_of_lt fits)

  all_right : All (λ it. k < it.key) right
  all_right = keyed_after W 0 k t keyed (div-eq_of_lt fits)

  pub find_own : first_where (λ it. eqb it.key k) (records t) ≡ first_where (λ it. eqb it.key k) own
  find_own =
      let test : Item → Bool = λ it. eqb it.key k in
      let l = all_map (λ it. it.key < k) (λ it. it.key ≡ k → ⊥) left (λ it p e. omega arith) all_left in
      let r = all_map (λ it. k < it.key) (λ it. it.key ≡ k → ⊥) right (λ it p e. omega arith) all_right in
      ap (first_where test) (records_at t (bits W k))
      ∙ first_append test left (own ++ right)
      ∙ ap₂ or_else (find_none k left l) (first_append test own right ∙ ap (or_else (first_where test own)) (find_none k right r))
      ∙ or_else_nothing (first_where test own)

  module _ (strict : Bool) where
    abbrev test : Item → Bool
    test it = above strict k it.key

    next_parts : first_where test (records t) ≡ or_else (first_where test own) (first_of right)
    next_parts =
        ap (first_where test) (records_at t (bits W k))
        ∙ skip_below strict k left (own ++ right) all_left
        ∙ first_append test own right
        ∙ ap (or_else (first_where test own)) (first_beyond strict k right all_right)

    pub next_own : (it : Item) → first_where test own ≡ Record it → first_where test (records t) ≡ Record it
    next_own it e = next_parts ∙ ap (λ a. or_else a (first_of right)) e

    pub next_right : first_where test own ≡ Nothing → first_where test (records t) ≡ first_of right
    next_right e = next_parts ∙ ap (λ a. or_else a (first_of right)) e
