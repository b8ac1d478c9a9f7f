-- The words that a release leaves: a part given back is the block put, and the head of the same sizes places it where the store's own does.
use mathlib.Core.Path.{◌≡◌, ap, ap₂, ◌∙◌}
use mathlib.Core.List.{List, ◌∷◌, ◌++◌}
use Prim.Native.Nat.{ℕ, suc, ◌+◌, ◌-◌, ◌*◌, ◌≤◌}
use native.Mathlib.Numerals.{add-one}
use native.Mathlib.Omega.{arith}
use lib.Pow.{pow_pos}
use lib.ListN.{length, take, drop, set, replicate}
use lib.Seq.{drop-drop, length-take-le}
use lib.ListN.{length-drop}
use Rattle.lists.specs.Lists.{replaced}
use Rattle.store.specs.declared.Format.{Format}
use Rattle.store.specs.declared.Format.TheVariants.{Plots}
use Rattle.store.specs.declared.Head.{Head}
use Rattle.store.specs.Format.{words}
use Rattle.store.specs.Head.{word, head_of, released_of, node_words, page_words, node_start, page_start}
use Rattle.store.specs.Released.{released_node, released_page}
use Rattle.split.specs.Frame.{put_node, put_page}
use Rattle.split.specs.Insertion.{SameSizes}
use Rattle.release.specs.Release.{release_node, release_page}

pub node_room : (θ : ℕ) → 6 ≤ node_words θ
unfolding node_words
node_room θ = omega (arith, pow_pos θ)

pub page_room : (f : Format) (C : ℕ) → 1 ≤ C → 2 ≤ page_words f C
unfolding page_words words
page_room Plots C h = omega arith

-- a part lent in the middle has its own length
pub part_long_lem : (s : List ℕ) (a n e : ℕ) → e ≡ a + n → e ≤ length s → length (take (e - a) (drop a s)) ≡ n
part_long_lem s a n e d h = length-take-le (e - a) (drop a s) (omega (arith, length-drop a s)) ∙ omega arith

third : (L m next : ℕ) → L ≡ suc (suc (suc m)) → set (replicate L 0) 2 next ≡ 0 ∷ 0 ∷ next ∷ replicate m 0
third L m next e = ap (λ k. set (replicate k 0) 2 next) e

second : (L m next : ℕ) → L ≡ suc (suc m) → set (replicate L 0) 1 next ≡ 0 ∷ next ∷ replicate m 0
second L m next e = ap (λ k. set (replicate k 0) 1 next) e

node_form_lem : (θ next : ℕ) → set (replicate (node_words θ) 0) 2 next ≡ released_node θ next
unfolding released_node
node_form_lem θ next = third (node_words θ) (node_words θ - 3) next (omega (arith, node_room θ))

page_form_lem : (f : Format) (C next : ℕ) → 1 ≤ C → set (replicate (page_words f C) 0) 1 next ≡ released_page f C next
unfolding released_page
page_form_lem f C next h = second (page_words f C) (page_words f C - 2) next (omega (arith, page_room f C h))

-- a part of n words from a on, given back as the words vs
pub given_back : (s ws : List ℕ) (a n e : ℕ) → e ≡ a + n → take a s ++ (ws ++ drop (e - a) (drop a s)) ≡ replaced a n ws s
unfolding replaced
given_back s ws a n e d =
    let k : e - a ≡ n = omega arith in
    rw k (ap (λ l. take a s ++ (ws ++ l)) (drop-drop n a s))

module _ (s : List ℕ) (h : Head) (z : SameSizes (head_of s) h) where
  pub node_place : (n : ℕ) → node_start h n ≡ node_start (head_of s) n
  unfolding node_start
  node_place n = ap (λ θ. 16 + (n - 1) * node_words θ) z.theta

  pub page_place : (f : Format) (p : ℕ) → page_start f h p ≡ page_start f (head_of s) p
  unfolding page_start
  page_place f p = rw (z.theta, z.capacity, z.nodes)

  node_put_lem : (n next : ℕ) → replaced (node_start h n) (node_words h.theta) (released_node h.theta next) s
      ≡ put_node s n (released_node (head_of s).theta next)
  unfolding put_node
  node_put_lem n next = rw (node_place n, z.theta)

  page_put : (f : Format) (p next : ℕ) → replaced (page_start f h p) (page_words f h.capacity) (released_page f h.capacity next) s
      ≡ put_page f s p (released_page f (head_of s).capacity next)
  unfolding put_page
  page_put f p next = rw (page_place f p, z.capacity)

  -- what the code leaves: the block names number x, and the head has the count k
  pub node_released : (n a w x k : ℕ) (t : List ℕ) → a ≡ node_start h n → w ≡ node_words h.theta
      → t ≡ set (set (replaced a w (set (replicate w 0) 2 x) s) 8 n) 10 k → x ≡ word s 8 → k ≡ word s 10 + 1
      → t ≡ release_node s n
  unfolding release_node released_of
  node_released n a w x k t start size is link many =
      let put : replaced a w (set (replicate w 0) 2 x) s ≡ put_node s n (released_node (head_of s).theta (word s 8)) =
      ap (λ y. replaced a w (set (replicate w 0) 2 y) s) link ∙ ap₂ (λ y z. replaced y z (set (replicate z 0) 2 (word s 8)) s) start size
      ∙ ap (λ l. replaced (node_start h n) (node_words h.theta) l s) (node_form_lem h.theta (word s 8)) ∙ node_put_lem n (word s 8) in
      is ∙ ap₂ (λ l c. set (set l 8 n) 10 c) put (many ∙ add-one (word s 10))

  pub page_released : (f : Format) (p a w x k : ℕ) (t : List ℕ) → 1 ≤ h.capacity → a ≡ page_start f h p → w ≡ page_words f h.capacity
      → t ≡ set (set (replaced a w (set (replicate w 0) 1 x) s) 9 p) 11 k → x ≡ word s 9 → k ≡ word s 11 + 1
      → t ≡ release_page f s p
  unfolding release_page released_of
  page_released f p a w x k t low start size is link many =
      let put : replaced a w (set (replicate w 0) 1 x) s ≡ put_page f s p (released_page f (head_of s).capacity (word s 9)) =
      ap (λ y. replaced a w (set (replicate w 0) 1 y) s) link ∙ ap₂ (λ y z. replaced y z (set (replicate z 0) 1 (word s 9)) s) start size
      ∙ ap (λ l. replaced (page_start f h p) (page_words f h.capacity) l s) (page_form_lem f h.capacity (word s 9) low) ∙ page_put f p (word s 9) in
      is ∙ ap₂ (λ l c. set (set l 9 p) 11 c) put (many ∙ add-one (word s 11))
