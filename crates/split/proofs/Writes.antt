-- Blocks and the head written one after another: what each comes to, in the terms of the first store.
--   Spares m ns == the numbers ns are distinct, and from 1 to m
--   Kept s s'   == s' is s with one node more taken, and blocks written that may not be taken
--   Two s s' n ws ws' == the blocks ws at n and ws' at the number that is taken
--   Relinked s s' q m == the block q, if it is one, is linked back to m
use mathlib.Core.Path.{◌≡◌, refl, sym, ap, ◌∙◌, subst}
use mathlib.Core.List.{List, ◌∷◌}
use Prim.Native.Nat.{ℕ, ◌+◌, ◌≤◌, ◌<◌}
use native.Mathlib.Omega.{arith}
use native.Mathlib.Decide.{ℕ_discrete}
use lib.ListN.{length, drop}
use lib.Seq.{drop-drop}
use borrow.Author.Tests.{eq-eqb, ne_eqb}
use Rattle.tree.specs.Trie.{Trie}
use Rattle.node.specs.Node.{forward_word}
use Rattle.represent.specs.Labelled.{count, ind}
use Rattle.represent.specs.Image.{NodeIs}
use Rattle.represent.proofs.LabelLaws.{Numbered, ind_self, label_high}
use Rattle.represent.proofs.Counting.{listed_low}
use Rattle.split.specs.Round.{NodeOps, NodeLaws, StoreOps, Put, StoreLaws, Changed, next_node, take_node, put_both, relink}
use Rattle.split.proofs.Blocks.{linked_written}
use Rattle.split.proofs.CarriedLaws.{count_drop}

pub record Spares (m : ℕ) (ns : List ℕ) : Type 0 where
  pub once : (x : ℕ) → count x ns ≤ 1
  pub none : (x : ℕ) → m < x → count x ns ≡ 0
  pub positive : count 0 ns ≡ 0

pub numbered_spares : {m : ℕ} {ns : List ℕ} (bs : List (Trie ℕ)) → Numbered m ns bs → Spares m ns
numbered_spares bs n =
    record { once = λ x. omega (arith, n.once x); none = λ x l. omega (arith, n.none x l); positive = omega (arith, n.positive) }

-- a number that is not among others is none of them
pub not_among : (x n : ℕ) (ns : List ℕ) → count n ns ≡ 0 → 1 ≤ count x ns → x ≡ n → ⊥
not_among x n ns z o e = omega (arith, z, subst (λ y. 1 ≤ count y ns) e o)

-- the first of them
module _ {m : ℕ} {ns : List ℕ} (n : ℕ) (rest : List ℕ) (e : ns ≡ n ∷ rest) (y : Spares m ns) where
  count_is : (x : ℕ) → count x ns ≡ ind x n + count x rest
  count_is x = ap (count x) e

  pub first_low : 1 ≤ n
  first_low = listed_low ns n y.positive (omega (arith, count_is n, ind_self n))

  pub first_high : n ≤ m
  first_high = label_high m (λ x. count x ns) n y.none (omega (arith, count_is n, ind_self n))

  pub first_gone : count n rest ≡ 0
  first_gone = omega (arith, count_is n, ind_self n, y.once n)

  pub rest_gone : (x : ℕ) → count x ns ≡ 0 → count x rest ≡ 0
  rest_gone x z = omega (arith, count_is x)

  pub first_not : (x : ℕ) → count x ns ≡ 0 → x ≡ n → ⊥
  first_not x z q = not_among n x ns z (omega (arith, count_is n, ind_self n)) (sym q)

module _ (O : StoreOps) where
  open O use {S, Ok, node, root, levels, free, cap, others}

  pub record Kept (s s' : S) : Type 0 where
    pub ok : Ok s'
    pub root_same : root s' ≡ root s
    pub levels_same : levels s' ≡ levels s
    pub now : free s ≡ next_node O s ∷ free s'
    pub cap_same : cap s' ≡ cap s
    pub others_same : others s' ≡ others s
    pub fresh : (x : ℕ) → 1 ≤ x → x ≤ cap s → 1 ≤ count x (free s') → node s' x ≡ node s x

  pub record Two (s s' : S) (n : ℕ) (ws ws' : List ℕ) : Type 0 where
    pub at_n : node s' n ≡ ws
    pub at_m : node s' (next_node O s) ≡ ws'
    pub off : (x : ℕ) → 1 ≤ x → x ≤ cap s → count x (free s) ≡ 0 → (x ≡ n → ⊥) → node s' x ≡ node s x
    pub kept : Kept s s'

module _ (I : NodeOps) (O : StoreOps) where
  open O use {S, node, cap}

  pub record Relinked (s s' : S) (q m : ℕ) : Type 0 where
    pub at_q : (q ≡ 0 → ⊥) → node s' q ≡ I.linked (node s q) m (forward_word (node s q) 0)
    pub off : (x : ℕ) → 1 ≤ x → x ≤ cap s → (x ≡ q → ⊥) → node s' x ≡ node s x

module _ {O : StoreOps} where
  open O use {S, free}

  pub changed_then : {s s₁ s₂ : S} {i j n : ℕ} → n ≡ i + j → Changed O s s₁ i → Changed O s₁ s₂ j → Changed O s s₂ n
  changed_then {s} {s₁} {s₂} {i} {j} {n} e p q =
      record {
        ok = q.ok;
        now = q.now ∙ ap (drop j) p.now ∙ drop-drop j i (free s) ∙ ap (λ k. drop k (free s)) (sym e);
        cap_same = q.cap_same ∙ p.cap_same;
        others_same = q.others_same ∙ p.others_same;
        fresh = λ x l c o.
            q.fresh x l (omega (arith, p.cap_same)) o
            ∙ p.fresh x l c (omega (arith, ap (count x) q.now, count_drop x j (free s₁)));
      }

  pub put_changed : {s s' : S} {n : ℕ} {ws : List ℕ} → count n (free s) ≡ 0 → Put O s s' n ws → Changed O s s' 0
  put_changed {s} {s'} {n} z p =
      record {
        ok = p.ok;
        now = p.free_same;
        cap_same = p.cap_same;
        others_same = p.others_same;
        fresh = λ x l c o. p.elsewhere x l c (not_among x n (free s) z (omega (arith, ap (count x) p.free_same)));
      }

  pub kept_changed : {s s' : S} → Kept O s s' → Changed O s s' 1
  kept_changed {s} {s'} k =
      record {
        ok = k.ok;
        now = sym (ap (drop 1) k.now);
        cap_same = k.cap_same;
        others_same = k.others_same;
        fresh = k.fresh;
      }

  pub put_kept : {s s₁ s₂ : S} {n : ℕ} {ws : List ℕ} → count n (free s₁) ≡ 0 → Kept O s s₁ → Put O s₁ s₂ n ws → Kept O s s₂
  put_kept {s} {s₁} {s₂} {n} z k p =
      record {
        ok = p.ok;
        root_same = p.root_same ∙ k.root_same;
        levels_same = p.levels_same ∙ k.levels_same;
        now = k.now ∙ ap (λ ns. next_node O s ∷ ns) (sym p.free_same);
        cap_same = p.cap_same ∙ k.cap_same;
        others_same = p.others_same ∙ k.others_same;
        fresh = λ x l c o.
            let o₁ : 1 ≤ count x (free s₁) = omega (arith, ap (count x) p.free_same) in
            p.elsewhere x l (omega (arith, k.cap_same)) (not_among x n (free s₁) z o₁) ∙ k.fresh x l c o₁;
      }

module _ {θ : ℕ} {O : StoreOps} (B : StoreLaws θ O) where
  open O use {S, Ok, free, cap, put}

  -- one node more taken, before anything is written
  pub taken_kept : (s : S) → Ok s → 1 ≤ length (free s) → Kept O s (take_node O s)
  taken_kept s ok more =
      let h = B.take_is s ok more in
      record {
        ok = h.ok;
        root_same = h.root_same;
        levels_same = h.levels_same;
        now = h.first_is;
        cap_same = h.cap_same;
        others_same = h.others_same;
        fresh = λ x l c o. h.nodes_same x l c;
      }

  pub two_nodes : (s : S) (n : ℕ) {ws ws' : List ℕ} {k : ℕ} {v v' : Trie ℕ}
      → Ok s → Spares (cap s) (free s) → 1 ≤ n → n ≤ cap s → count n (free s) ≡ 0 → 1 ≤ length (free s) → NodeIs θ ws k v → NodeIs θ ws' k v'
      → Two O s (put_both O (take_node O s) n ws (next_node O s) ws') n ws ws'
  unfolding put_both
  two_nodes s n {ws} {ws'} {k} {v} {v'} ok y low high off more is is' =
      let s₁ : S = take_node O s in
      let m : ℕ = next_node O s in
      let h = B.take_is s ok more in
      let e = h.first_is in
      let off₁ = rest_gone m (free s₁) e y n off in
      let zero₁ = rest_gone m (free s₁) e y 0 y.positive in
      let p = B.put_is s₁ n ws k v h.ok low (omega (arith, h.cap_same)) off₁ zero₁ is in
      let c : cap (put s₁ n ws) ≡ cap s = p.cap_same ∙ h.cap_same in
      let m_high = first_high m (free s₁) e y in
      let gone : count m (free (put s₁ n ws)) ≡ 0 = ap (count m) p.free_same ∙ first_gone m (free s₁) e y in
      let zero₂ : count 0 (free (put s₁ n ws)) ≡ 0 = ap (count 0) p.free_same ∙ zero₁ in
      let q =
      B.put_is (put s₁ n ws) m ws' k v' p.ok (first_low m (free s₁) e y) (omega (arith, c, m_high)) gone zero₂ is' in
      record {
        at_n = q.elsewhere n low (omega (arith, c)) (first_not m (free s₁) e y n off) ∙ p.here;
        at_m = q.here;
        off = λ x a t z ne.
            q.elsewhere x a (omega (arith, c)) (first_not m (free s₁) e y x z) ∙ p.elsewhere x a (omega (arith, h.cap_same)) ne
            ∙ h.nodes_same x a t;
        kept = put_kept gone (put_kept off₁ (taken_kept s ok more) p) q;
      }

module _ {θ : ℕ} {I : NodeOps} {O : StoreOps} (A : NodeLaws θ I) (B : StoreLaws θ O) where
  open O use {S, node, free, cap}

  -- q is null, or the number of a node that was in use
  pub relink_nodes : {s s₂ : S} (q m k : ℕ) → Kept O s s₂ → q ≤ cap s → count q (free s) ≡ 0 → count 0 (free s) ≡ 0
      → ((q ≡ 0 → ⊥) → (v : Trie ℕ) × NodeIs θ (node s₂ q) k v)
      → Relinked I O s₂ (relink I O s₂ q m) q m × Kept O s (relink I O s₂ q m)
  unfolding relink
  relink_nodes {s} {s₂} q m k kept high off zero is =
      elim (ℕ_discrete q 0) [
        | yes e ↦ rw (eq-eqb q 0 e, relink) (record { at_q = λ ne. absurd (ne e); off = λ x p c ne. refl }, kept)
        | no ne ↦
            let f : ℕ = forward_word (node s₂ q) 0 in
            let w = linked_written A (is ne).1 m f in
            let off₂ : count q (free s₂) ≡ 0 = omega (arith, ap (count q) kept.now) in
            let zero₂ : count 0 (free s₂) ≡ 0 = omega (arith, ap (count 0) kept.now) in
            let p =
            B.put_is s₂ q (I.linked (node s₂ q) m f) k (is ne).0 kept.ok (omega arith) (omega (arith, kept.cap_same)) off₂ zero₂
            w.is in
            rw (ne_eqb q 0 ne, relink) (record { at_q = λ z. p.here; off = p.elsewhere }, put_kept off₂ kept p)
      ]
