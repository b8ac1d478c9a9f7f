-- A round keeps a sound path sound, in any words: the level-1 node grows in place, or it splits with its links and the climb above keeps
-- the rest. The node behind it may be damaged: it is none of the path, and only its back link is written.
use mathlib.Core.Path.{◌≡◌, sym, ap, ◌∙◌, subst}
use mathlib.Core.List.{List, [], ◌∷◌}
use Prim.Native.Nat.{ℕ, ◌≤◌, ◌<◌}
use native.Mathlib.Omega.{arith}
use native.Mathlib.Decide.{dec_lt}
use lib.ListN.{length}
use Rattle.lists.specs.Bits.{bits}
use Rattle.lists.proofs.ListLaws.{all_both}
use Rattle.tree.specs.Trie.{Trie, fork, Key, depth, graft, pair}
use Rattle.tree.specs.Carry.{bump_cost}
use Rattle.tree.proofs.CarryLaws.{bump_full}
use Rattle.store.specs.declared.Format.{Format}
use Rattle.store.specs.Format.{width}
use Rattle.store.specs.Head.{head_of, node_words}
use Rattle.represent.specs.Rep.{Sized}
use Rattle.node.specs.Node.{back_word, forward_word}
use Rattle.split.specs.Frame.{node_of}
use Rattle.split.specs.Round.{Place, put_both, split_first, round}
use Rattle.split.specs.Insertion.{word_store}
use Rattle.split.specs.Block.{lower, upper, linked, node_ops}
use Rattle.split.proofs.BlockLaws.{node_ops_are}
use Rattle.split.proofs.Blocks.{lower_written, upper_written, linked_written}
use Rattle.split.proofs.Grafts.{forked}
use Rattle.split.proofs.Frame.{node_taken_root, node_taken_levels}
use Rattle.store.specs.Released.{next_node}
use Rattle.represent.specs.Labelled.{count as counted}
use Rattle.represent.proofs.LabelLaws.{ind_eq}
use Rattle.insert.proofs.Supplies.{supply_next}
use Rattle.insert.proofs.InsideWrites.{length_lower, length_upper, length_linked, t₂, two_kept, two_head, two_lower, two_upper, two_other, not_m}
use Rattle.split.proofs.RoundLaws.{round_room, round_full}
use Rattle.insert.specs.Fine.{Off, Apart, Supply, Clear, behind_in, depths, sum}
use Rattle.insert.proofs.InsideRound.{relinked, first_now}
use Rattle.insert.proofs.HeldRound.{Beside}
use Rattle.insert.proofs.FoundPath.{Enters, Sound, sound_among}
use Rattle.insert.proofs.FoundClimb.{path_same, written_here, Climbs, reached_by, SplitInto, grown_sound, above_sound, climb_sound}

module _ (f : Format) (θ key : ℕ) where
  abbrev k : Key
  k = bits (width f) key

  module _ (pos : 1 ≤ θ) where
    -- the level-1 node splits
    first_cut : (s : List ℕ) (p : Place) (path : List Place) (a c next : ℕ) (lo up : Trie ℕ) (n : ℕ) (ns : List ℕ) → Sized f s
        → (head_of s).theta ≡ θ → Supply s (n ∷ ns) → Clear (n ∷ ns) (p ∷ path) → counted (behind_in s (p ∷ path)) (n ∷ ns) ≡ 0
        → (y : Sound f θ key s 0 (p ∷ path) next) → Beside p.at path
        → Off (behind_in s (p ∷ path)) (p ∷ path) → θ ≤ depth y.0.trie p.bits → graft y.0.trie p.bits (pair a c) ≡ fork lo up
        → SplitInto f θ key s (split_first (node_ops θ) (word_store f θ) s p a c) 0 p path lo up ns
    unfolding split_first put_both
    first_cut s p path a c next lo up n ns ok own supply clear far y off behind deep e =
        let laws = node_ops_are θ pos in
        let z = y.0 in
        let m : ℕ = next_node s in
        let d = supply_next f s n ns ok supply in
        let q : ℕ = forward_word (node_of s p.at) 0 in
        let g : ℕ = back_word (node_of s p.at) 0 in
        let lw = linked_written laws (lower_written laws z.is p.bits a c deep e).is g m in
        let uw = linked_written laws (upper_written laws z.is p.bits a c deep e).is p.at q in
        let lo_ws : List ℕ = linked (lower θ (node_of s p.at) p.bits a c) g m in
        let up_ws : List ℕ = linked (upper θ (node_of s p.at) p.bits a c) p.at q in
        let l₀ : length lo_ws ≡ node_words (head_of s).theta =
        length_linked (lower θ (node_of s p.at) p.bits a c) g m ∙ length_lower θ (node_of s p.at) p.bits a c ∙ ap node_words (sym own) in
        let l₁ : length up_ws ≡ node_words (head_of s).theta =
        length_linked (upper θ (node_of s p.at) p.bits a c) p.at q ∙ length_upper θ (node_of s p.at) p.bits a c
        ∙ ap node_words (sym own) in
        let w = first_now f θ k s p a c ok own z.within n ns supply clear.0 z.links.1 far in
        let s₂ : List ℕ = t₂ f θ s p lo_ws up_ws ok z.within n ns supply clear.0 l₀ l₁ in
        let two = two_kept f θ s p lo_ws up_ws ok z.within n ns supply clear.0 l₀ l₁ in
        let r = relinked f θ k s₂ q m two.sized (omega (arith, two.sizes_same.nodes, z.links.1, supply.fits)) in
        let t : List ℕ = split_first (node_ops θ) (word_store f θ) s p a c in
        let head = two_head f θ s p lo_ws up_ws ok z.within n ns supply clear.0 l₀ l₁ in
        let low_m : 1 ≤ m = omega (arith, d.is, d.low) in
        let among = sound_among f θ key s 1 path p.at y.1 in
        let not_q : m ≡ q → ⊥ = λ i. omega (arith, far, ind_eq q n (sym i ∙ d.is)) in
        record {
          sized = w.kept.sized;
          theta = w.kept.sizes_same.theta ∙ own;
          supply = w.supply;
          taken = w.taken;
          root_same = ap (λ h. h.root) r.head ∙ ap (λ h. h.root) head ∙ node_taken_root s;
          levels_same = ap (λ h. h.levels) r.head ∙ ap (λ h. h.levels) head ∙ node_taken_levels s;
          others_same = w.others_same;
          lower_is =
              written_here f θ key t 0 p.at _ g m lo (z.within.0, omega (arith, z.within.1, w.taken))
              (r.elsewhere p.at z.within.0 behind.0
              ∙ two_lower f θ s p lo_ws up_ws ok z.within n ns supply clear.0 l₀ l₁)
              lw (omega (arith, w.taken, z.links.0), w.new);
          upper_is =
              written_here f θ key t 0 m _ p.at q up (low_m, w.new)
              (r.elsewhere m low_m not_q ∙ two_upper f θ s p lo_ws up_ws ok z.within n ns supply clear.0 l₀ l₁) uw
              (omega (arith, w.taken, z.within.1), omega (arith, w.taken, z.links.1));
          above_same =
              all_both (λ x. node_of s₂ x.at ≡ node_of s x.at) (λ x. (1 ≤ x.at) × (x.at ≡ q → ⊥))
              (λ x. node_of t x.at ≡ node_of s x.at) path (λ x i j. r.elsewhere x.at j.0 j.1 ∙ i)
              (path_same s s₂ p.at (head_of s).nodes_taken (n ∷ ns) path among clear.1 off
              (λ x low c ne.
              two_other f θ s p lo_ws up_ws ok z.within n ns supply clear.0 l₀ l₁ x low
              (not_m f θ s p lo_ws up_ws ok z.within n ns supply clear.0 l₀ l₁ x c) (λ i. ne (sym i))))
              (all_both (λ x. (1 ≤ x.at) × (x.at ≤ (head_of s).nodes_taken)) (λ x. x.at ≡ q → ⊥) (λ x. (1 ≤ x.at) × (x.at ≡ q → ⊥)) path
              (λ x i j. (i.0, j)) among behind.1);
        }

    pub round_sound : (path : List Place) (s : List ℕ) (a c next : ℕ) (ns : List ℕ) → Sized f s → (head_of s).theta ≡ θ → Supply s ns
        → Clear ns path → counted (behind_in s path) ns ≡ 0 → bump_cost θ (depths path) ≤ length ns → Sound f θ key s 0 path next
        → 1 ≤ length path
        → Apart path → Off (behind_in s path) path → sum (depths path) < width f → Enters s 0 a → Enters s 0 c
        → Climbs f θ key 0 path (reached_by f θ key path a c) (round (node_ops θ) (word_store f θ) θ k s path a c)
    round_sound [] s a c next ns ok own supply clear far room y some apart behind left ea ec = absurd (omega arith)
    round_sound (p ∷ path) s a c next ns ok own supply clear far room y some apart behind left ea ec =
        elim (dec_lt p.depth θ) [
          | yes h ↦
              subst (Climbs f θ key 0 (p ∷ path) (reached_by f θ key (p ∷ path) a c))
              (sym (round_room (node_ops θ) (word_store f θ) θ k s p path a c h))
              (grown_sound f θ key pos s 0 p path a c next ns ok own supply clear y apart left ea ec h)
          | no h ↦ go ns supply clear far room (omega arith)
        ]
      where
        go : (ns : List ℕ) → Supply s ns → Clear ns (p ∷ path) → counted (forward_word (node_of s p.at) 0) ns ≡ 0
            → bump_cost θ (depths (p ∷ path)) ≤ length ns → θ ≤ p.depth
            → Climbs f θ key 0 (p ∷ path) (reached_by f θ key (p ∷ path) a c) (round (node_ops θ) (word_store f θ) θ k s (p ∷ path) a c)
        go [] supply clear far room full = absurd (omega (arith, (bump_full θ p.depth (depths path) full).1))
        go (n ∷ ns) supply clear far room full =
            let z = y.0 in
            let q = forked z.trie p.bits a c in
            let w =
            first_cut s p path a c next q.0 q.1 n ns ok own supply clear far y apart.0
            behind (omega (arith, z.depth_is)) q.2 in
            subst (Climbs f θ key 0 (p ∷ path) (reached_by f θ key (p ∷ path) a c))
            (sym (round_full (node_ops θ) (word_store f θ) θ k s p path a c full))
            (above_sound f θ key pos s (split_first (node_ops θ) (word_store f θ) s p a c) 0 p path a c next q.0 q.1 n ns ok supply clear
            room y apart left
            ea ec full q.2 w (climb_sound f θ key pos path))
