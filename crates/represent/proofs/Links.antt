-- The level-1 nodes in key order are the labels of their trie, and the links lead from each to the next; so what stands behind a node is
-- read off the list of labels. No label occurs twice, so the next node is another one.
use mathlib.Core.Path.{◌≡◌, refl, sym, ◌∙◌, subst}
use mathlib.Core.List.{List, [], ◌∷◌, ◌++◌}
use Prim.Native.Nat.{ℕ, ◌+◌, ◌≤◌}
use native.Mathlib.Omega.{arith}
use Rattle.lists.specs.Bits.{bits}
use Rattle.tree.specs.Trie.{Trie, Key, labels, leaf_at}
use Rattle.store.specs.declared.Format.{Format}
use Rattle.store.specs.declared.Head.{Head}
use Rattle.store.specs.Format.{width}
use Rattle.store.specs.Head.{head_of, node_start, node_at}
use Rattle.store.specs.Released.{released_nodes}
use Rattle.node.specs.Node.{back_word, forward_word}
use Rattle.represent.specs.Labelled.{ind, occ, occs, count, before, after, first, Linked}
use Rattle.represent.specs.Image.{NodeIs}
use Rattle.represent.specs.Rep.{Stretch, numbers, back_of, forward_of, Rep}
use Rattle.represent.specs.Promises.{Neighbour, NeighbourPasses}
use Rattle.represent.proofs.LabelLaws.{one_numbered, label_high, ind_eq, ind_self, labels_at, over_in}
use Rattle.represent.proofs.Chain.{count_labels, count_at, linked_next, linked_after, Same, linked_frame}
use Rattle.represent.proofs.RepLaws.{rep_shown, rep_back, rep_forward}

-- the links, in place
module _ (s : List ℕ) where
  abbrev pub back_at : ℕ → ℕ
  back_at n = back_word s (node_start (head_of s) n)

  abbrev pub forward_at : ℕ → ℕ
  forward_at n = forward_word s (node_start (head_of s) n)

-- no label occurs twice
pub rep_once : (f : Format) (s : List ℕ) (b0 : Trie Stretch) (bs : List (Trie ℕ)) → Rep f s b0 bs → (n : ℕ) → occs n bs ≤ 1
rep_once f s b0 bs r n =
    let d = r.directory in
    omega (arith, (one_numbered (head_of s).nodes_taken (released_nodes s) bs d.one_for_one d.positive d.spare_positive).once n)

module _ (f : Format) (s : List ℕ) (b0 : Trie Stretch) (b : Trie ℕ) (bs : List (Trie ℕ)) (r : Rep f s b0 (b ∷ bs)) where
  abbrev h : Head
  h = head_of s

  -- a level-1 node shows some trie
  pub level_1 : (n : ℕ) → 1 ≤ occ n b → (v : Trie ℕ) × NodeIs h.theta (node_at s h n) 1 v
  level_1 n o = over_in (λ n v. NodeIs h.theta (node_at s h n) 1 v) b (numbers b0) n o r.directory.nodes.0

  pub rep_linked : Linked (back_at s) (forward_at s) 0 (labels b)
  rep_linked =
      linked_frame (back_of (node_at s h)) (forward_of (node_at s h)) (back_at s) (forward_at s) 0 (labels b)
      (λ n o. same n (omega (arith, count_labels n b))) r.directory.links.0
    where
      same : (n : ℕ) → 1 ≤ occ n b → Same (back_of (node_at s h)) (forward_of (node_at s h)) (back_at s) (forward_at s) n
      same n o =
          let w = level_1 n o in
          record {
            same_back = rep_back f s b0 (b ∷ bs) r n 1 w.0 (omega arith) w.1;
            same_forward = rep_forward f s b0 (b ∷ bs) r n 1 w.0 (omega arith) w.1;
          }

  module _ (key : Key) where
    linked_at : Linked (back_at s) (forward_at s) 0 (before b key ++ (leaf_at b key ∷ after b key))
    linked_at = subst (Linked (back_at s) (forward_at s) 0) (labels_at b key) rep_linked

    pub rep_next : forward_at s (leaf_at b key) ≡ first (after b key)
    rep_next = linked_next (back_at s) (forward_at s) 0 (before b key) (leaf_at b key) (after b key) linked_at

    pub rep_after : Linked (back_at s) (forward_at s) (leaf_at b key) (after b key)
    rep_after = linked_after (back_at s) (forward_at s) 0 (before b key) (leaf_at b key) (after b key) linked_at

    neighbour : (ns : List ℕ) → after b key ≡ ns → (first ns ≡ 0 → ⊥) → Neighbour s (leaf_at b key) (first ns)
    neighbour [] e z = absurd (z refl)
    neighbour (m ∷ ns) e z =
        let at : occ m b ≡ count m (before b key) + (ind m (leaf_at b key) + (ind m m + count m ns)) =
        subst (λ ms. occ m b ≡ count m (before b key) + (ind m (leaf_at b key) + count m ms)) e (sym (count_at m b key)) in
        let o : 1 ≤ occ m b = omega (arith, ind_self m) in
        let w = level_1 m o in
        record {
          taken = label_high h.nodes_taken (λ n. occs n (b ∷ bs) + count n (released_nodes s)) m r.directory.one_for_one.none (omega arith);
          another = λ q. omega (arith, ind_self m, ind_eq m (leaf_at b key) q, rep_once f s b0 (b ∷ bs) r m);
          level = (rep_shown f s b0 (b ∷ bs) r m 1 w.0 (omega arith) w.1).level_is;
          back = (subst (Linked (back_at s) (forward_at s) (leaf_at b key)) e rep_after).0;
        }

pub neighbour_passes : NeighbourPasses
neighbour_passes f s b0 b bs k r z =
    let e = rep_next f s b0 b bs r (bits (width f) k) in
    subst (Neighbour s (leaf_at b (bits (width f) k))) (sym e)
    (neighbour f s b0 b bs r (bits (width f) k) (after b (bits (width f) k)) refl (λ q. z (e ∙ q)))
