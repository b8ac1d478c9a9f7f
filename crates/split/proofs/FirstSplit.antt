-- A node of level 1 splits, with its links: the node behind it is one of the level's and not itself, so the right half comes between them.
use mathlib.Core.Path.{◌≡◌, sym, ap, ◌∙◌, subst}
use mathlib.Core.List.{List, ◌∷◌, ◌++◌}
use Prim.Native.Nat.{ℕ, ◌-◌, ◌≤◌}
use native.Mathlib.Omega.{arith}
use lib.ListN.{length}
use Rattle.tree.specs.Trie.{Trie, fork, Key, labels, leaf_at, depth, rest, graft, pair}
use Rattle.node.specs.Node.{back_word, forward_word}
use Rattle.represent.specs.Labelled.{occ, occs, count, under, before, after, first, Linked}
use Rattle.represent.specs.Rep.{back_of, forward_of}
use Rattle.split.specs.Round.{NodeOps, NodeLaws, StoreOps, StoreLaws, place_at, next_node, split_first}
use Rattle.represent.proofs.LabelLaws.{ind_self, labels_graft, labels_at, over_in}
use Rattle.represent.proofs.Chain.{count_labels, count_at, first_in, first_not, linked_next, Mended, linked_split}
use Rattle.split.proofs.Blocks.{Written, linked_written}
use Rattle.split.proofs.Level.{At, moved_links, Ready, ready_low, ready_high, ready_off, key_low}
use Rattle.split.proofs.Splits.{Split, Parted, parted, parted_split}
use Rattle.split.proofs.Rise.{lower_here, upper_here}

module _ {θ : ℕ} {I : NodeOps} {O : StoreOps} (A : NodeLaws θ I) (B : StoreLaws θ O)
    {s : O.S} {u b : Trie ℕ} {bs : List (Trie ℕ)} (y : Ready θ O s 0 u (b ∷ bs)) (key : Key) (a c : ℕ)
    (links : Linked (back_of (O.node s)) (forward_of (O.node s)) 0 (labels b))
  where
    open O use {S, node, free}

    abbrev n : ℕ
    n = leaf_at b key

    abbrev m : ℕ
    m = next_node O s

    -- the node behind n
    abbrev q : ℕ
    q = forward_of (node s) n

    chain : Linked (back_of (node s)) (forward_of (node s)) 0 (before b key ++ (n ∷ after b key))
    chain = subst (Linked (back_of (node s)) (forward_of (node s)) 0) (labels_at b key) links

    q_is : q ≡ first (after b key)
    q_is = linked_next (back_of (node s)) (forward_of (node s)) 0 (before b key) n (after b key) chain

    apart : n ≡ q → ⊥
    apart e =
        first_not n (after b key) (omega (arith, count_at n b key, y.numbered.once n, ind_self n))
        (λ z. omega (arith, key_low y key)) (e ∙ q_is)

    known : (q ≡ 0 → ⊥) → 1 ≤ occ q b
    known ne = rw q_is (omega (arith, count_at (first (after b key)) b key, first_in (after b key) (λ e. ne (q_is ∙ e))))

    module _ {l r : Trie ℕ} (e : graft (under b u key) (rest b key) (pair a c) ≡ fork l r)
        (full : θ ≤ depth u key - depth b key) (more : 1 ≤ length (free s))
      where
        abbrev s₁ : S
        s₁ = split_first I O s (place_at u b key) a c

        abbrev ws : List ℕ
        ws = I.linked (I.lower (node s n) (rest b key) a c) (back_of (node s) n) m

        abbrev ws' : List ℕ
        ws' = I.linked (I.upper (node s n) (rest b key) a c) n q

        left : Written θ ws 1 (back_of (node s) n) m l
        left = linked_written A (lower_here A B y key a c e full).is (back_of (node s) n) m

        right : Written θ ws' 1 n q r
        right = linked_written A (upper_here A B y key a c e full).is n q

        first_parted : Parted I O s s₁ n ws ws' q
        unfolding split_first
        first_parted = parted A B y key left.is right.is q apart known more

        pub first_split : Split θ O s s₁ 1 b n l r
        first_split = parted_split A B y key left.is right.is q apart known first_parted

        mended : Mended (back_of (node s)) (forward_of (node s)) (back_of (node s₁)) (forward_of (node s₁)) n m q
        mended =
            let p = first_parted in
            let at_q : (q ≡ 0 → ⊥) → (v : Trie ℕ) × Written θ (I.linked (node s q) m (forward_of (node s) q)) 1 m (forward_of (node s) q) v =
            λ ne.
            let v = over_in (At θ (node s) 1) b u q (known ne) y.nodes.0 in
            (v.0, linked_written A v.1 m (forward_of (node s) q)) in
            record {
              n_back = ap (λ (w : List ℕ). back_word w 0) p.at_n ∙ left.back_is;
              n_forward = ap (λ (w : List ℕ). forward_word w 0) p.at_n ∙ left.forward_is;
              m_back = ap (λ (w : List ℕ). back_word w 0) p.at_m ∙ right.back_is;
              m_forward = ap (λ (w : List ℕ). forward_word w 0) p.at_m ∙ right.forward_is;
              q_back = λ ne. ap (λ (w : List ℕ). back_word w 0) (p.at_q ne) ∙ (at_q ne).1.back_is;
              q_forward = λ ne. ap (λ (w : List ℕ). forward_word w 0) (p.at_q ne) ∙ (at_q ne).1.forward_is;
            }

        pub first_linked : Linked (back_of (node s₁)) (forward_of (node s₁)) 0 (labels (graft b key (pair n m)))
        first_linked =
            let occ_list : (x : ℕ) → count x (before b key ++ (n ∷ after b key)) ≡ occ x b =
            λ x. ap (count x) (sym (labels_at b key)) ∙ count_labels x b in
            subst (Linked (back_of (node s₁)) (forward_of (node s₁)) 0) (sym (labels_graft b key (pair n m)))
            (linked_split (back_of (node s)) (forward_of (node s)) (back_of (node s₁)) (forward_of (node s₁)) n m (after b key)
            (subst (Mended (back_of (node s)) (forward_of (node s)) (back_of (node s₁)) (forward_of (node s₁)) n m) q_is mended)
            (before b key) 0
            (λ x o ne ne'.
            let i : 1 ≤ occs x (b ∷ bs) = omega (arith, occ_list x) in
            moved_links θ (node s) (node s₁) x
            (first_parted.off x (ready_low y x i) (ready_high y x i) (ready_off y x i) ne (λ z. ne' (z ∙ q_is))))
            (λ x. omega (arith, occ_list x, y.numbered.once x))
            (omega (arith, occ_list 0, y.numbered.positive))
            chain)
