-- The levels of a store, where a block changes: a block that none of them has changes nothing, and a block at a key that is rewritten with
-- its links shows another trie there.
--   At θ node k    == n's block is that of a node at level k with v below it
--   SameLinks x    == the block of node x has the links that it had
--   Plain θ node bs == no node of the levels bs has links
--   Ready s k u bs == s has the levels bs over u, with distinct numbers
--   Climbed s s' k u' bs bs' more == in s' these are bs' over u', for so many nodes more, and no other node of s has changed
use mathlib.Core.Path.{◌≡◌, sym, ap, ◌∙◌, subst}
use mathlib.Core.List.{List, [], ◌∷◌}
use Prim.Native.Nat.{ℕ, suc, ◌+◌, ◌-◌, ◌≤◌}
use native.Mathlib.Omega.{arith}
use native.Mathlib.Decide.{ℕ_discrete, dec_le}
use Rattle.tree.specs.Trie.{Trie, leaf, Key, labels, leaf_at, depth, rest, graft}
use Rattle.tree.proofs.TrieLaws.{graft_leaf_at, depth_le_height}
use Rattle.node.specs.Node.{back_word, forward_word}
use Rattle.represent.specs.Labelled.{occ, occs, count, Over, under}
use Rattle.represent.specs.Image.{NodeIs}
use Rattle.represent.specs.Rep.{Nodes, back_of, forward_of, Unlinked, Links}
use Rattle.split.specs.Round.{StoreOps, Put, StoreLaws, Changed}
use Rattle.represent.proofs.LabelLaws.{Numbered, label_low, label_high, occ_at, over_at, over_map, depth_under}
use Rattle.split.proofs.Grafts.{off_key, over_graft}
use Rattle.represent.proofs.Chain.{count_labels, Same, linked_frame}
use Rattle.split.proofs.Blocks.{Written}
use Rattle.split.proofs.Writes.{put_changed}

abbrev pub At : ℕ → (ℕ → List ℕ) → ℕ → ℕ → Trie ℕ → Type 0
At θ node k n v = NodeIs θ (node n) k v

pub is_moved : {θ : ℕ} {ws ws' : List ℕ} {k : ℕ} {v : Trie ℕ} → ws' ≡ ws → NodeIs θ ws k v → NodeIs θ ws' k v
is_moved {θ} {ws} {ws'} {k} {v} e h = subst (λ (w : List ℕ). NodeIs θ w k v) (sym e) h

module _ (θ : ℕ) (node node' : ℕ → List ℕ) where
  pub nodes_frame : (root root' levels levels' k : ℕ) (u : Trie ℕ) (bs : List (Trie ℕ))
      → root' ≡ root → levels' ≡ levels → ((x : ℕ) → 1 ≤ occs x bs → node' x ≡ node x)
      → Nodes θ node root levels k u bs → Nodes θ node' root' levels' k u bs
  nodes_frame root root' levels levels' k u [] r l f h = (h.0 ∙ ap leaf (sym r), l ∙ h.1)
  nodes_frame root root' levels levels' k u (b ∷ bs) r l f h = (
    over_map (At θ node (suc k)) (At θ node' (suc k)) b u (λ n v o p. is_moved (f n (omega arith)) p) h.0,
    nodes_frame root root' levels levels' (suc k) b bs r l (λ x o. f x (omega arith)) h.1,
  )

  abbrev pub SameLinks : ℕ → Type 0
  SameLinks x = Same (back_of node) (forward_of node) (back_of node') (forward_of node') x

  pub moved_links : (x : ℕ) → node' x ≡ node x → SameLinks x
  moved_links x e = record { same_back = ap (λ (w : List ℕ). back_word w 0) e; same_forward = ap (λ (w : List ℕ). forward_word w 0) e }

  pub unlinked_same : (x : ℕ) → SameLinks x → Unlinked node x → Unlinked node' x
  unlinked_same x e h = record { no_back = e.same_back ∙ h.no_back; no_forward = e.same_forward ∙ h.no_forward }

  pub unlinked_moved : (x : ℕ) → node' x ≡ node x → Unlinked node x → Unlinked node' x
  unlinked_moved x e = unlinked_same x (moved_links x e)

  pub links_frame : (b : Trie ℕ) (bs : List (Trie ℕ)) → ((x : ℕ) → 1 ≤ occs x (b ∷ bs) → SameLinks x)
      → Links node (b ∷ bs) → Links node' (b ∷ bs)
  links_frame b bs f h = (
    linked_frame (back_of node) (forward_of node) (back_of node') (forward_of node') 0 (labels b)
        (λ x o. f x (omega (arith, count_labels x b))) h.0,
    λ x o. unlinked_same x (f x (omega arith)) (h.1 x o),
  )

pub written_unlinked : (θ : ℕ) (node : ℕ → List ℕ) (x : ℕ) {ws : List ℕ} {level back forward : ℕ} {v : Trie ℕ}
    → node x ≡ ws → Written θ ws level back forward v → back ≡ 0 → forward ≡ 0 → Unlinked node x
written_unlinked θ node x e w b f =
    record {
      no_back = ap (λ (w : List ℕ). back_word w 0) e ∙ w.back_is ∙ b;
      no_forward = ap (λ (w : List ℕ). forward_word w 0) e ∙ w.forward_is ∙ f;
    }

abbrev pub Plain : ℕ → (ℕ → List ℕ) → List (Trie ℕ) → Type 0
Plain θ node bs = (x : ℕ) → 1 ≤ occs x bs → Unlinked node x

pub plain_cons : (θ : ℕ) (node : ℕ → List ℕ) (b : Trie ℕ) (bs : List (Trie ℕ))
    → ((x : ℕ) → 1 ≤ occ x b → Unlinked node x) → Plain θ node bs → Plain θ node (b ∷ bs)
plain_cons θ node b bs f g = λ x o. elim (dec_le 1 (occ x b)) [ yes p ↦ f x p | no p ↦ g x (omega arith) ]

module _ (θ : ℕ) (O : StoreOps) where
  open O use {S, Ok, node, root, levels, free, cap}

  pub record Ready (s : S) (k : ℕ) (u : Trie ℕ) (bs : List (Trie ℕ)) : Type 0 where
    pub ok : Ok s
    pub nodes : Nodes θ (node s) (root s) (levels s) k u bs
    pub numbered : Numbered (cap s) (free s) bs

  pub record Climbed (s s' : S) (k : ℕ) (u' : Trie ℕ) (bs bs' : List (Trie ℕ)) (more : ℕ) : Type 0 where
    pub nodes : Nodes θ (node s') (root s') (levels s') k u' bs'
    pub frame : (x : ℕ) → 1 ≤ x → x ≤ cap s → count x (free s) ≡ 0 → occs x bs ≡ 0 → node s' x ≡ node s x
    pub changed : Changed O s s' more

module _ {θ : ℕ} {O : StoreOps} {s : O.S} {k : ℕ} {u b : Trie ℕ} {bs : List (Trie ℕ)} (y : Ready θ O s k u (b ∷ bs)) where
  open O use {node, free, cap, put}

  pub ready_low : (x : ℕ) → 1 ≤ occs x (b ∷ bs) → 1 ≤ x
  ready_low x = label_low (b ∷ bs) x (omega (arith, y.numbered.positive))

  pub ready_high : (x : ℕ) → 1 ≤ occs x (b ∷ bs) → x ≤ cap s
  ready_high x o = label_high (cap s) (λ n. occs n (b ∷ bs) + count n (free s)) x y.numbered.none (omega arith)

  -- it is not one of those that may be taken
  pub ready_off : (x : ℕ) → 1 ≤ occs x (b ∷ bs) → count x (free s) ≡ 0
  ready_off x o = omega (arith, y.numbered.once x)

  pub ready_zero : count 0 (free s) ≡ 0
  ready_zero = omega (arith, y.numbered.positive)

  module _ (key : Key) where
    -- the node at the key, and its number
    pub here_in : 1 ≤ occs (leaf_at b key) (b ∷ bs)
    here_in = omega (arith, occ_at b key)

    pub key_low : 1 ≤ leaf_at b key
    key_low = ready_low (leaf_at b key) here_in

    pub key_high : leaf_at b key ≤ cap s
    key_high = ready_high (leaf_at b key) here_in

    pub key_off : count (leaf_at b key) (free s) ≡ 0
    key_off = ready_off (leaf_at b key) here_in

    pub here : NodeIs θ (node s (leaf_at b key)) (suc k) (under b u key)
    here = over_at (At θ (node s) (suc k)) b u key y.nodes.0

    pub local_depth : depth (under b u key) (rest b key) ≡ depth u key - depth b key
    local_depth = omega (arith, depth_under (At θ (node s) (suc k)) b u key y.nodes.0)

    pub ready_deep : depth b key ≤ depth u key
    ready_deep = omega (arith, depth_under (At θ (node s) (suc k)) b u key y.nodes.0)

    pub ready_tall : depth u key - depth b key ≤ θ
    ready_tall = omega (arith, local_depth, here.low, depth_le_height (under b u key) (rest b key))

    -- its block rewritten, with the same links
    module _ (B : StoreLaws θ O) (d : Trie ℕ) {ws : List ℕ}
        (w : Written θ ws (suc k) (back_of (node s) (leaf_at b key)) (forward_of (node s) (leaf_at b key))
        (graft (under b u key) (rest b key) d))
      where
        abbrev n : ℕ
        n = leaf_at b key

        put_here : Put O s (put s n ws) n ws
        put_here = B.put_is s n ws (suc k) _ y.ok key_low key_high key_off ready_zero w.is

        elsewhere : (x : ℕ) → 1 ≤ occs x (b ∷ bs) → (x ≡ n → ⊥) → node (put s n ws) x ≡ node s x
        elsewhere x o ne = put_here.elsewhere x (ready_low x o) (ready_high x o) ne

        pub rewritten : Climbed θ O s (put s n ws) k (graft u key d) (b ∷ bs) (b ∷ bs) 0
        rewritten =
            record {
              nodes = (
                subst (λ (t : Trie ℕ). Over (At θ (node (put s n ws)) (suc k)) t (graft u key d)) (graft_leaf_at b key)
                    (over_graft (At θ (node s) (suc k)) (At θ (node (put s n ws)) (suc k)) b u key (leaf n) d
                    (λ x. omega (arith, y.numbered.once x))
                    (λ x v o ne p. is_moved (elsewhere x (omega arith) ne) p)
                    y.nodes.0
                    (is_moved put_here.here w.is)),
                nodes_frame θ (node s) _ _ _ _ _ (suc k) b bs put_here.root_same put_here.levels_same
                    (λ x o. elsewhere x (omega arith) (off_key x b key (omega (arith, y.numbered.once x)))) y.nodes.1,
              );
              frame = λ x p t z o. put_here.elsewhere x p t (off_key x b key (omega arith));
              changed = put_changed key_off put_here;
            }

        pub rewritten_links : (x : ℕ) → 1 ≤ occs x (b ∷ bs) → SameLinks θ (node s) (node (put s n ws)) x
        rewritten_links x o =
            elim (ℕ_discrete x n) [
              | yes e ↦ subst (SameLinks θ (node s) (node (put s n ws))) (sym e)
                  (record {
                    same_back = ap (λ (v : List ℕ). back_word v 0) put_here.here ∙ w.back_is;
                    same_forward = ap (λ (v : List ℕ). forward_word v 0) put_here.here ∙ w.forward_is;
                  })
              | no ne ↦ moved_links θ (node s) (node (put s n ws)) x (elsewhere x o ne)
            ]
