-- The words of a node block, read in place: a block that shows a trie v has v's entries at their places and zeros after them.
--   Shown s a θ level v == the words of s from a on are a node block of this level with the entries of v
use mathlib.Core.Path.{◌≡◌, refl, sym, ap, ap₂, ◌∙◌}
use mathlib.Core.Bool.{true}
use mathlib.Core.List.{List, [], ◌∷◌, ◌++◌}
use Prim.Native.Nat.{ℕ, zero, suc, ◌+◌, ◌-◌, ◌*◌, ◌^◌, ◌≤◌, ◌<◌}
use native.Mathlib.Omega.{arith}
use lib.Dec.{eqb}
use lib.Pow.{pow_mono}
use lib.ListN.{length, get_or, replicate}
use borrow.Author.Tests.{eq-eqb}
use Rattle.lists.specs.Lists.{part}
use Rattle.lists.specs.Bits.{bits}
use Rattle.lists.proofs.BitLaws.{index_own}
use Rattle.lists.proofs.Parts.{get_d_past}
use Rattle.lists.proofs.Tests.{every_of}
use Rattle.tree.specs.Trie.{Trie, height}
use Rattle.tree.specs.Node.{Entry, flatten}
use Rattle.tree.proofs.TrieLaws.{depth_le_height}
use Rattle.tree.proofs.Flatten.{length_flatten, entry}
use Rattle.store.specs.declared.Format.{Format}
use Rattle.store.specs.declared.Head.{Head}
use Rattle.store.specs.Head.{word, zeros, node_words, node_start, size, node_at}
use Rattle.node.specs.Node.{depth_word, level_word, back_word, forward_word, entry_of}
use Rattle.represent.specs.Labelled.{occ}
use Rattle.represent.specs.Image.{entry_words, node_image, NodeIs}
use Rattle.represent.proofs.LabelLaws.{occ_at}
use Rattle.store.proofs.Places.{part_word, node_fits}

pub length_entry_words : (es : List (Entry ℕ)) → length (entry_words es) ≡ 2 * length es
length_entry_words [] = refl
length_entry_words (e ∷ es) = omega (arith, length_entry_words es)

pub entry_depth_lem : (es : List (Entry ℕ)) (ws : List ℕ) (j i : ℕ) → j < length es → i ≡ 2 * j
    → get_or (entry_words es ++ ws) i 0 ≡ (get_or es j (0, 0)).0
entry_depth_lem [] ws j i l e = absurd (omega arith)
entry_depth_lem (x ∷ es) ws zero zero l e = refl
entry_depth_lem (x ∷ es) ws zero (suc i) l e = absurd (omega arith)
entry_depth_lem (x ∷ es) ws (suc j) zero l e = absurd (omega arith)
entry_depth_lem (x ∷ es) ws (suc j) (suc zero) l e = absurd (omega arith)
entry_depth_lem (x ∷ es) ws (suc j) (suc (suc i)) l e = entry_depth_lem es ws j i (omega arith) (omega arith)

pub entry_pointer_lem : (es : List (Entry ℕ)) (ws : List ℕ) (j i : ℕ) → j < length es → i ≡ 2 * j + 1
    → get_or (entry_words es ++ ws) i 0 ≡ (get_or es j (0, 0)).1
entry_pointer_lem [] ws j i l e = absurd (omega arith)
entry_pointer_lem (x ∷ es) ws zero zero l e = absurd (omega arith)
entry_pointer_lem (x ∷ es) ws zero (suc zero) l e = refl
entry_pointer_lem (x ∷ es) ws zero (suc (suc i)) l e = absurd (omega arith)
entry_pointer_lem (x ∷ es) ws (suc j) zero l e = absurd (omega arith)
entry_pointer_lem (x ∷ es) ws (suc j) (suc zero) l e = absurd (omega arith)
entry_pointer_lem (x ∷ es) ws (suc j) (suc (suc i)) l e = entry_pointer_lem es ws j i (omega arith) (omega arith)

pub get_d_zeros : (n i : ℕ) → ◌≡◌ {A = ℕ} (get_or (replicate n 0) i 0) 0
get_d_zeros zero i = refl
get_d_zeros (suc n) zero = refl
get_d_zeros (suc n) (suc i) = get_d_zeros n i

-- a pointer is a label
pub entry_label : (H : ℕ) (t : Trie ℕ) (j : ℕ) → height t ≤ H → j < 2 ^ H → 1 ≤ occ (get_or (flatten H t 0) j (0, 0)).1 t
entry_label H t j low h =
    let e = entry H t (bits H j) 0 (omega (arith, depth_le_height t (bits H j))) (0, 0) in
    rw (rw (index_own H j h) at e) (occ_at t (bits H j))

pub record Shown (s : List ℕ) (a θ level : ℕ) (v : Trie ℕ) : Type 0 where
  pub low : height v ≤ θ
  pub depth : depth_word s a ≡ height v
  pub level_is : level_word s a ≡ level
  pub entry : (j : ℕ) → j < 2 ^ height v → entry_of s a j ≡ get_or (flatten (height v) v 0) j (0, 0)
  pub blank : zeros s (a + 4 + 2 * 2 ^ height v) (2 * (2 ^ θ - 2 ^ height v)) ≡ true

module _ (s : List ℕ) (a θ level back forward : ℕ) (v : Trie ℕ) (fits : a + node_words θ ≤ length s) (low : height v ≤ θ)
    (is : part s a (node_words θ) ≡ node_image θ level back forward v) where
  abbrev tail : List ℕ
  tail = entry_words (flatten (height v) v 0) ++ replicate (2 * (2 ^ θ - 2 ^ height v)) 0

  -- word i of the block
  at : (i : ℕ) → i < node_words θ → word s (a + i) ≡ word (node_image θ level back forward v) i
  at i l = sym (part_word s a (node_words θ) i fits l) ∙ ap (λ ws. word ws i) is

  -- a word after the four
  past : (i : ℕ) → i < 2 * 2 ^ θ → word s (a + 4 + i) ≡ get_or tail i 0
  unfolding node_words node_image
  past i l = let e : a + 4 + i ≡ a + (4 + i) = omega arith in ap (word s) e ∙ at (4 + i) (omega arith) ∙ four _ _ _ _ i
    where
      four : (x y z t i : ℕ) → word (x ∷ y ∷ z ∷ t ∷ tail) (4 + i) ≡ get_or tail i 0
      four x y z t i = get_d_past (x ∷ y ∷ z ∷ t ∷ []) tail 0 i refl

  pows : 2 ^ height v ≤ 2 ^ θ
  pows = pow_mono {i = height v} {j = θ} low

  long : length (flatten (height v) v 0) ≡ 2 ^ height v
  long = length_flatten (height v) v 0

  image_back : back_word s a ≡ back
  unfolding node_words node_image
  image_back = at 2 (omega arith)

  image_forward : forward_word s a ≡ forward
  unfolding node_words node_image
  image_forward = at 3 (omega arith)

  pub image_shown : Shown s a θ level v
  unfolding node_words node_image zeros
  image_shown =
      record {
        low = low;
        depth = let e : a ≡ a + 0 = omega arith in ap (word s) e ∙ at 0 (omega arith);
        level_is = at 1 (omega arith);
        entry = λ j l. ap₂ (λ d p. (d, p))
            (past (2 * j) (omega (arith, pows)) ∙ entry_depth_lem (flatten (height v) v 0) _ j (2 * j) (omega (arith, long)) refl)
            (let e : a + 5 + 2 * j ≡ a + 4 + (2 * j + 1) = omega arith in
            ap (word s) e ∙ past (2 * j + 1) (omega (arith, pows))
            ∙ entry_pointer_lem (flatten (height v) v 0) _ j (2 * j + 1) (omega (arith, long)) refl);
        blank = every_of (2 * (2 ^ θ - 2 ^ height v)) (λ j. eqb (word s (a + 4 + 2 * 2 ^ height v + j)) 0)
            (λ j l. eq-eqb _ 0 (zero_at j l));
      }
    where
      zero_at : (j : ℕ) → j < 2 * (2 ^ θ - 2 ^ height v) → word s (a + 4 + 2 * 2 ^ height v + j) ≡ 0
      zero_at j l =
          let e : a + 4 + 2 * 2 ^ height v + j ≡ a + 4 + (2 * 2 ^ height v + j) = omega arith in
          ap (word s) e ∙ past (2 * 2 ^ height v + j) (omega (arith, pows))
          ∙ get_d_past (entry_words (flatten (height v) v 0)) (replicate (2 * (2 ^ θ - 2 ^ height v)) 0) 0 j
          (omega (arith, length_entry_words (flatten (height v) v 0), long))
          ∙ get_d_zeros (2 * (2 ^ θ - 2 ^ height v)) j

-- a node that shows a trie, in place: its words, and its links
module _ (f : Format) (s : List ℕ) (h : Head) (n level : ℕ) (v : Trie ℕ) (low : 1 ≤ n) (high : n ≤ h.node_blocks)
    (room : size f h.theta h.capacity h.node_blocks h.page_blocks ≤ length s)
    (is : NodeIs h.theta (node_at s h n) level v) where
  fits : node_start h n + node_words h.theta ≤ length s
  fits = node_fits h f n (length s) low high room

  pub node_shown : Shown s (node_start h n) h.theta level v
  unfolding node_at
  node_shown = image_shown s (node_start h n) h.theta level _ _ v fits is.low is.image

  pub node_back : back_word s (node_start h n) ≡ back_word (node_at s h n) 0
  unfolding node_at
  node_back = image_back s (node_start h n) h.theta level _ _ v fits is.low is.image

  pub node_forward : forward_word s (node_start h n) ≡ forward_word (node_at s h n) 0
  unfolding node_at
  node_forward = image_forward s (node_start h n) h.theta level _ _ v fits is.low is.image
