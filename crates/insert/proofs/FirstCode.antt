-- A level-1 node that splits: its halves are linked, and the node behind it is linked back.
--   forward_own == the link to the node behind, where it stands in the store
--   first_done  == a node taken, both halves written, the node behind relinked
--   first_needs == what is asked before the last
use mathlib.Core.Path.{◌≡◌, sym, ap, ap₂, ◌∙◌, subst, subst₂}
use mathlib.Core.List.{List, []}
use Prim.Native.Nat.{ℕ, zero, suc, ◌+◌, ◌≤◌}
use native.Mathlib.Omega.{arith}
use native.Mathlib.Decide.{ℕ_discrete}
use lib.ListN.{length}
use Rattle.lists.specs.Lists.{replaced}
use Rattle.store.specs.declared.Format.{Format}
use Rattle.store.specs.declared.Head.{Head}
use Rattle.store.specs.Head.{word, head_of, node_words, node_start, node_at}
use Rattle.store.proofs.HeadLaws.{sizes_limits}
use Rattle.node.specs.Node.{back_word, forward_word}
use Rattle.represent.specs.Rep.{Sized}
use Rattle.store.proofs.Places.{part_word, node_fits}
use Rattle.store.specs.Released.{next_node, node_taken}
use Rattle.split.specs.Frame.{node_of, put_node}
use Rattle.split.specs.Round.{Place, put_both, relink, split_first, take_node}
use Rattle.split.specs.Insertion.{word_store}
use Rattle.split.specs.Block.{lower, upper, linked, node_ops}
use Rattle.split.proofs.Frame.{node_taken_levels}
use Rattle.split.proofs.Kept.{Kept}
use Rattle.insert.specs.Fine.{Ready}
use Rattle.insert.proofs.InsideWrites.{nodes₀, length_lower, length_upper, length_linked, words_low}
use Rattle.insert.proofs.InsideRound.{relink_none, relink_some, relinked}
use Rattle.insert.proofs.SplitCode.{two_put, two_headed, two_kept, theta}

pub forward_own : (f : Format) (s : List ℕ) (p : Place) → Ready f s p → (h : Head) → h ≡ head_of s
    → word s (node_start h p.at + 3) ≡ forward_word (node_of s p.at) 0
unfolding node_at
forward_own f s p y h e =
    ap (λ (x : Head). word s (node_start x p.at + 3)) e
    ∙ sym (part_word s (node_start (head_of s) p.at) (node_words (head_of s).theta) 3
    (node_fits (head_of s) f p.at (length s) y.in_use.positive (omega (arith, y.in_use.within, y.fits)) y.sized.long)
    (omega (arith, words_low (head_of s).theta)))

-- what is asked before a node is linked back
abbrev RelinkNeeds : List ℕ → Head → ℕ → Type 0
RelinkNeeds v h q = (h.theta ≤ 6) × (node_start h q + node_words h.theta ≤ length v)

relink_own : (f : Format) (s : List ℕ) → Sized f s → (q : ℕ) → q ≤ (head_of s).node_blocks → RelinkNeeds s (head_of s) q
unfolding node_start
relink_own f s ok zero high =
    let l = sizes_limits _ _ _ _ ok.sizes in
    (l.theta, node_fits (head_of s) f 1 (length s) (omega arith) l.nodes_low ok.long)
relink_own f s ok (suc q) high =
    let l = sizes_limits _ _ _ _ ok.sizes in
    (l.theta, node_fits (head_of s) f (suc q) (length s) (omega arith) high ok.long)

module _ (f : Format) (s : List ℕ) (p : Place) (a c : ℕ) where
  abbrev θ : ℕ
  θ = (head_of s).theta

  abbrev ws : List ℕ
  ws = node_of s p.at

  abbrev m : ℕ
  m = next_node s

  -- the two blocks as parts of the store that are replaced
  abbrev first_blocks : List ℕ → Head → ℕ → List ℕ
  first_blocks t h n =
      replaced (node_start h n) (node_words h.theta)
      (linked (upper h.theta (node_at t h p.at) p.bits a c) p.at (forward_word (node_at t h p.at) 0))
      (replaced (node_start h p.at) (node_words h.theta)
      (linked (lower h.theta (node_at t h p.at) p.bits a c) (back_word (node_at t h p.at) 0) n) t)

  -- the node q linked back to n
  abbrev Relinks : ℕ → Head → List ℕ → ℕ → List ℕ → Type 0
  Relinks n h v q u =
      (q ≡ 0 → u ≡ v)
      × ((q ≡ 0 → ⊥) → u ≡ replaced (node_start h q) (node_words h.theta)
      (linked (node_at v h q) n (forward_word (node_at v h q) 0)) v)

  abbrev FirstDone : Head → List ℕ → Head → ℕ → List ℕ → ℕ → List ℕ → Type 0
  FirstDone h t h₀ n v q u =
      t ≡ node_taken s → h₀ ≡ head_of t → n ≡ next_node s → v ≡ first_blocks t h₀ n → q ≡ forward_word ws 0 → Relinks n h₀ v q u
      → (u ≡ split_first (node_ops h.theta) (word_store f h.theta) s p a c) × (h₀ ≡ head_of u)

  abbrev LinkNeeds : List ℕ → Head → ℕ → List ℕ → ℕ → Type 0
  LinkNeeds t h₀ n v q =
      t ≡ node_taken s → h₀ ≡ head_of t → n ≡ next_node s → v ≡ first_blocks t h₀ n → q ≡ forward_word ws 0 → RelinkNeeds v h₀ q

  module _ (y : Ready f s p) (low : 1 ≤ next_node s) (high : next_node s ≤ (head_of s).node_blocks)
      (behind : forward_word ws 0 ≤ (head_of s).node_blocks) where
    abbrev t₀ : List ℕ
    t₀ = take_node (word_store f θ) s

    abbrev lo : List ℕ
    lo = linked (lower θ ws p.bits a c) (back_word ws 0) m

    abbrev up : List ℕ
    up = linked (upper θ ws p.bits a c) p.at (forward_word ws 0)

    l₀ : length lo ≡ node_words θ
    l₀ = length_linked (lower θ ws p.bits a c) (back_word ws 0) m ∙ length_lower θ ws p.bits a c

    l₁ : length up ≡ node_words θ
    l₁ = length_linked (upper θ ws p.bits a c) p.at (forward_word ws 0) ∙ length_upper θ ws p.bits a c

    abbrev t₂ : List ℕ
    t₂ = put_node (put_node t₀ p.at lo) m up

    first_own : first_blocks t₀ (head_of t₀) m ≡ t₂
    first_own =
        ap₂ (λ x b. replaced (node_start (head_of t₀) m) (node_words (head_of t₀).theta)
        (linked (upper x b p.bits a c) p.at (forward_word b 0))
        (replaced (node_start (head_of t₀) p.at) (node_words (head_of t₀).theta)
        (linked (lower x b p.bits a c) (back_word b 0) m) t₀)) (theta f s p a c y low high)
        (nodes₀ f θ s y.sized p.at)
        ∙ two_put f s p a c y low high lo up l₀ l₁

    head₂ : head_of t₂ ≡ head_of t₀
    head₂ = two_headed f s p a c y low high lo up l₀ l₁

    -- the node behind, by the words' own head
    link_own : (q : ℕ) (u : List ℕ) → Relinks m (head_of t₂) t₂ q u → u ≡ relink (node_ops θ) (word_store f θ) t₂ q m
    unfolding put_node
    link_own q u r =
        elim (ℕ_discrete q 0) [
          | yes e ↦ r.0 e ∙ sym (relink_none f θ [] t₂ q m e)
          | no e ↦ r.1 e ∙ sym (relink_some f θ [] t₂ q m e)
        ]

    kept₂ : Kept f s t₂
    kept₂ = two_kept f s p a c y low high lo up l₀ l₁

    behind_head : head_of (relink (node_ops θ) (word_store f θ) t₂ (forward_word ws 0) m) ≡ head_of t₂
    behind_head = (relinked f θ [] t₂ (forward_word ws 0) m kept₂.sized (omega (arith, kept₂.sizes_same.nodes))).head

    pub first_levels : (head_of (split_first (node_ops θ) (word_store f θ) s p a c)).levels ≡ (head_of s).levels
    unfolding split_first put_both
    first_levels = ap (λ (h : Head). h.levels) (behind_head ∙ head₂) ∙ node_taken_levels s

    -- the blocks written are those of the words' own head
    own_blocks : (t : List ℕ) (h₀ : Head) (n : ℕ) (v : List ℕ) → t ≡ node_taken s → h₀ ≡ head_of t → n ≡ next_node s → v ≡ first_blocks t h₀ n
        → (h₀ ≡ head_of t₀) × (v ≡ t₂)
    own_blocks t h₀ n v e g k w =
        let own : h₀ ≡ head_of t₀ = g ∙ ap head_of e in
        (own, w ∙ ap₂ (λ x h. first_blocks x h n) e own ∙ ap (first_blocks t₀ (head_of t₀)) k ∙ first_own)

    first_plain : (t : List ℕ) (h₀ : Head) (n : ℕ) (v : List ℕ) (q : ℕ) (u : List ℕ) → FirstDone (head_of s) t h₀ n v q u
    unfolding split_first put_both
    first_plain t h₀ n v q u e g k w i r =
        let b = own_blocks t h₀ n v e g k w in
        let link : u ≡ split_first (node_ops θ) (word_store f θ) s p a c =
        link_own (forward_word ws 0) u (subst (λ j. Relinks m (head_of t₂) t₂ j u) i
        (subst (λ z. Relinks z (head_of t₂) t₂ q u) k (subst₂ (λ x z. Relinks n x z q u) (b.0 ∙ sym head₂) b.1 r)))
        in
        (link, b.0 ∙ sym (ap head_of link ∙ behind_head ∙ head₂))

    needs_plain : (t : List ℕ) (h₀ : Head) (n : ℕ) (v : List ℕ) (q : ℕ) → LinkNeeds t h₀ n v q
    needs_plain t h₀ n v q e g k w i =
        let b = own_blocks t h₀ n v e g k w in
        subst₂ (λ x z. RelinkNeeds z x q) (sym (b.0 ∙ sym head₂)) (sym b.1)
        (relink_own f t₂ kept₂.sized q (omega (arith, kept₂.sizes_same.nodes)))

  pub first_needs : Ready f s p → (h : Head) (t : List ℕ) (h₀ : Head) (n : ℕ) (v : List ℕ) (q : ℕ) → h ≡ head_of s
      → 1 ≤ next_node s → next_node s ≤ h.node_blocks → forward_word ws 0 ≤ h.node_blocks → LinkNeeds t h₀ n v q
  first_needs y h t h₀ n v q e low =
      subst (λ x. next_node s ≤ x.node_blocks → forward_word ws 0 ≤ x.node_blocks → LinkNeeds t h₀ n v q) (sym e)
      (λ high behind. needs_plain y low high behind t h₀ n v q)

  pub first_done : Ready f s p → (h : Head) (t : List ℕ) (h₀ : Head) (n : ℕ) (v : List ℕ) (q : ℕ) (u : List ℕ) → h ≡ head_of s
      → 1 ≤ next_node s → next_node s ≤ h.node_blocks → forward_word ws 0 ≤ h.node_blocks → FirstDone h t h₀ n v q u
  first_done y h t h₀ n v q u e low =
      subst (λ x. next_node s ≤ x.node_blocks → forward_word ws 0 ≤ x.node_blocks → FirstDone x t h₀ n v q u) (sym e)
      (λ high behind. first_plain y low high behind t h₀ n v q u)
