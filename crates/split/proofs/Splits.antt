-- A node of a level gives its upper half to a new node, and the node q behind it, if any, is linked back to that: no other node changes.
--   parts s n ws ws' q == the store after it: ws at n, ws' at the number that is taken
--   Parted == its nodes
--   Split s s₁ k b n l r == s₁ is s with the node n of the level b split: n shows l, and the number that is taken shows r
use mathlib.Core.Path.{◌≡◌, sym, ap, ◌∙◌, subst}
use mathlib.Core.List.{List, ◌∷◌}
use Prim.Native.Nat.{ℕ, suc, ◌≤◌}
use native.Mathlib.Omega.{arith}
use native.Mathlib.Decide.{ℕ_discrete}
use lib.ListN.{length}
use Rattle.tree.specs.Trie.{Trie, Key, leaf_at}
use Rattle.node.specs.Node.{forward_word}
use Rattle.represent.specs.Labelled.{occ, count}
use Rattle.represent.specs.Image.{NodeIs}
use Rattle.split.specs.Round.{NodeOps, NodeLaws, StoreOps, StoreLaws, next_node, take_node, put_both, relink}
use Rattle.represent.proofs.LabelLaws.{over_in}
use Rattle.split.proofs.Grafts.{off_key}
use Rattle.split.proofs.Blocks.{linked_written}
use Rattle.split.proofs.Writes.{Kept, numbered_spares, first_low, first_high, first_not, two_nodes, relink_nodes}
use Rattle.split.proofs.Level.{At, is_moved, Ready, ready_low, ready_high, ready_off, ready_zero, key_low, key_high, key_off}

module _ (θ : ℕ) (O : StoreOps) where
  open O use {S, node, root, levels, free, cap}

  pub record Split (s s₁ : S) (k : ℕ) (b : Trie ℕ) (n : ℕ) (l r : Trie ℕ) : Type 0 where
    pub left_is : NodeIs θ (node s₁ n) k l
    pub right_is : NodeIs θ (node s₁ (next_node O s)) k r
    pub same : (x : ℕ) (v : Trie ℕ) → 1 ≤ occ x b → (x ≡ n → ⊥) → NodeIs θ (node s x) k v → NodeIs θ (node s₁ x) k v
    pub frame : (x : ℕ) → 1 ≤ x → x ≤ cap s → count x (free s) ≡ 0 → occ x b ≡ 0 → node s₁ x ≡ node s x
    pub kept : Kept O s s₁

module _ (I : NodeOps) (O : StoreOps) where
  open O use {S, node, free, cap}

  abbrev pub parts : S → ℕ → List ℕ → List ℕ → ℕ → S
  parts s n ws ws' q = relink I O (put_both O (take_node O s) n ws (next_node O s) ws') q (next_node O s)

  pub record Parted (s s₁ : S) (n : ℕ) (ws ws' : List ℕ) (q : ℕ) : Type 0 where
    pub at_n : node s₁ n ≡ ws
    pub at_m : node s₁ (next_node O s) ≡ ws'
    pub at_q : (q ≡ 0 → ⊥) → node s₁ q ≡ I.linked (node s q) (next_node O s) (forward_word (node s q) 0)
    pub off : (x : ℕ) → 1 ≤ x → x ≤ cap s → count x (free s) ≡ 0 → (x ≡ n → ⊥) → (x ≡ q → ⊥) → node s₁ x ≡ node s x
    pub kept : Kept O s s₁

module _ {θ : ℕ} {I : NodeOps} {O : StoreOps} (A : NodeLaws θ I) (B : StoreLaws θ O)
    {s : O.S} {k : ℕ} {u b : Trie ℕ} {bs : List (Trie ℕ)} (y : Ready θ O s k u (b ∷ bs)) (key : Key)
    {ws ws' : List ℕ} {l r : Trie ℕ} (is : NodeIs θ ws (suc k) l) (is' : NodeIs θ ws' (suc k) r)
    (q : ℕ) (apart : leaf_at b key ≡ q → ⊥) (known : (q ≡ 0 → ⊥) → 1 ≤ occ q b)
  where
    open O use {node, free, cap}

    abbrev n : ℕ
    n = leaf_at b key

    abbrev m : ℕ
    m = next_node O s

    q_low : (q ≡ 0 → ⊥) → 1 ≤ q
    q_low ne = ready_low y q (omega (arith, known ne))

    q_high : q ≤ cap s
    q_high = elim (ℕ_discrete q 0) [ yes e ↦ omega arith | no ne ↦ ready_high y q (omega (arith, known ne)) ]

    q_off : count q (free s) ≡ 0
    q_off =
        elim (ℕ_discrete q 0) [
          | yes e ↦ subst (λ x. count x (free s) ≡ 0) (sym e) (ready_zero y)
          | no ne ↦ ready_off y q (omega (arith, known ne))
        ]

    pub parted : 1 ≤ length (free s) → Parted I O s (parts I O s n ws ws' q) n ws ws' q
    parted more =
        let spares = numbered_spares (b ∷ bs) y.numbered in
        let t = two_nodes B s n y.ok spares (key_low y key) (key_high y key) (key_off y key) more is is' in
        let z =
        relink_nodes A B q m (suc k) t.kept q_high q_off (ready_zero y)
        (λ ne.
        let v = over_in (At θ (node s) (suc k)) b u q (known ne) y.nodes.0 in
        (v.0, is_moved (t.off q (q_low ne) q_high q_off (λ e. apart (sym e))) v.1)) in
        let cap₂ = t.kept.cap_same in
        let e = t.kept.now in
        record {
          at_n = z.0.off n (key_low y key) (omega (arith, cap₂, key_high y key)) apart ∙ t.at_n;
          at_m =
              z.0.off m (first_low m _ e spares) (omega (arith, cap₂, first_high m _ e spares))
              (λ j. first_not m _ e spares q q_off (sym j))
              ∙ t.at_m;
          at_q = λ ne.
              z.0.at_q ne
              ∙ ap (λ (w : List ℕ). I.linked w m (forward_word w 0)) (t.off q (q_low ne) q_high q_off (λ e. apart (sym e)));
          off = λ x p h f ne ne'. z.0.off x p (omega (arith, cap₂)) ne' ∙ t.off x p h f ne;
          kept = z.1;
        }

    pub parted_split : {s₁ : O.S} → Parted I O s s₁ n ws ws' q → Split θ O s s₁ (suc k) b n l r
    parted_split {s₁} p =
        record {
          left_is = is_moved p.at_n is;
          right_is = is_moved p.at_m is';
          same = λ x v o ne h.
              let low = ready_low y x (omega arith) in
              elim (ℕ_discrete x q) [
                | yes e ↦
                    is_moved
                    (subst (λ (z : ℕ). node s₁ z ≡ I.linked (node s z) m (forward_word (node s z) 0)) (sym e)
                    (p.at_q (λ z. omega (arith, low))))
                    (linked_written A h m (forward_word (node s x) 0)).is
                | no ne' ↦ is_moved (p.off x low (ready_high y x (omega arith)) (ready_off y x (omega arith)) ne ne') h
              ];
          frame = λ x a t f o. p.off x a t f (off_key x b key o) (λ e. not_q x a o e);
          kept = p.kept;
        }
      where
        not_q : (x : ℕ) → 1 ≤ x → occ x b ≡ 0 → x ≡ q → ⊥
        not_q x a o e = omega (arith, subst (λ (z : ℕ). 1 ≤ occ z b) (sym e) (known (λ z. omega arith)))
