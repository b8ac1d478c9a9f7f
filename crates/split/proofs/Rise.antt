-- One level of a climb. A node with room has its run halved, and the level stays. A node that splits leaves the levels above as they were:
-- a climb through them that keeps what is promised leaves the level alone, and so the split and that climb together keep it.
--   ClimbKeeps bs == a climb through the levels bs gives the carried levels, and no links
--   Risen         == what a split and the climb above it come to
use mathlib.Core.Path.{◌≡◌, sym, ap, ◌∙◌, subst}
use mathlib.Core.List.{List, ◌∷◌}
use Prim.Native.Nat.{ℕ, suc, ◌+◌, ◌-◌, ◌≤◌, ◌<◌}
use lib.ListN.{length}
use native.Mathlib.Omega.{arith}
use native.Mathlib.Decide.{ℕ_discrete}
use Rattle.tree.specs.Trie.{Trie, fork, Key, leaf_at, depth, rest, graft, pair}
use Rattle.tree.specs.Carry.{locals, bump_cost}
use Rattle.represent.specs.Labelled.{ind, occ, occs, count, Over, under}
use Rattle.represent.specs.Rep.{back_of, forward_of}
use Rattle.split.specs.Round.{NodeOps, NodeLaws, StoreOps, StoreLaws, Place, place_at, path_of, next_node, grown, climb, carried}
use Rattle.represent.proofs.LabelLaws.{Numbered, ind_eq, ind_other, over_map}
use Rattle.split.proofs.Grafts.{occ_split, over_graft}
use Rattle.split.proofs.CarriedLaws.{numbered_above}
use Rattle.split.proofs.Blocks.{Written, grow_written, lower_written, upper_written}
use Rattle.split.proofs.Writes.{numbered_spares, first_low, first_high, changed_then, kept_changed}
use Rattle.split.proofs.Level.{At, is_moved, nodes_frame, SameLinks, unlinked_moved, Plain, Ready, Climbed, ready_low, ready_high}
use Rattle.split.proofs.Level.{ready_off, here, local_depth, rewritten, rewritten_links}
use Rattle.split.proofs.Splits.{Split}

module _ {θ : ℕ} {I : NodeOps} {O : StoreOps} (A : NodeLaws θ I) (B : StoreLaws θ O) where
  open O use {S, node, free, cap}

  abbrev pub ClimbKeeps : List (Trie ℕ) → Type 0
  ClimbKeeps bs =
      (s : S) (k : ℕ) (u : Trie ℕ) (key : Key) (a c : ℕ)
      → Ready θ O s k u bs → bump_cost θ (locals u bs key) ≤ length (free s) → Plain θ (node s) bs
      → Climbed θ O s (climb I O θ key s (path_of u bs key) a c).store k (graft u key (pair a c)) bs (carried θ (free s) u bs key)
      (bump_cost θ (locals u bs key))
      × Plain θ (node (climb I O θ key s (path_of u bs key) a c).store) (carried θ (free s) u bs key)
      × ((climb I O θ key s (path_of u bs key) a c).path ≡ path_of (graft u key (pair a c)) (carried θ (free s) u bs key) key)

  module _ {s : S} {k : ℕ} {u b : Trie ℕ} {bs : List (Trie ℕ)} (y : Ready θ O s k u (b ∷ bs)) (key : Key) where
    abbrev n : ℕ
    n = leaf_at b key

    abbrev m : ℕ
    m = next_node O s

    abbrev v : Trie ℕ
    v = under b u key

    abbrev b' : Trie ℕ
    b' = graft b key (pair n m)

    module _ (a c : ℕ) (small : depth u key - depth b key < θ) where
      grow_here :
          Written θ (I.grow (node s n) (rest b key) a c) (suc k) (back_of (node s) n) (forward_of (node s) n)
          (graft v (rest b key) (pair a c))
      grow_here = grow_written A (here y key) (rest b key) a c (omega (arith, local_depth y key))

      pub grown_climbed : Climbed θ O s (grown I O s (place_at u b key) a c) k (graft u key (pair a c)) (b ∷ bs) (b ∷ bs) 0
      unfolding grown
      grown_climbed = rewritten y key B (pair a c) grow_here

      pub grown_links : (x : ℕ) → 1 ≤ occs x (b ∷ bs) → SameLinks θ (node s) (node (grown I O s (place_at u b key) a c)) x
      unfolding grown
      grown_links = rewritten_links y key B (pair a c) grow_here

    module _ (a c : ℕ) {l r : Trie ℕ} (e : graft v (rest b key) (pair a c) ≡ fork l r) where
      module _ (full : θ ≤ depth u key - depth b key) where
        pub lower_here : Written θ (I.lower (node s n) (rest b key) a c) (suc k) (back_of (node s) n) (forward_of (node s) n) l
        lower_here = lower_written A (here y key) (rest b key) a c (omega (arith, local_depth y key)) e

        pub upper_here : Written θ (I.upper (node s n) (rest b key) a c) (suc k) (back_of (node s) n) (forward_of (node s) n) r
        upper_here = upper_written A (here y key) (rest b key) a c (omega (arith, local_depth y key)) e

      module _ {s₁ : S} (w : Split θ O s s₁ (suc k) b n l r) where
        -- the levels above are as they were
        untouched : (x : ℕ) → 1 ≤ occs x bs → node s₁ x ≡ node s x
        untouched x o =
            w.frame x (ready_low y x (omega arith)) (ready_high y x (omega arith)) (ready_off y x (omega arith))
            (omega (arith, y.numbered.once x))

        -- the numbers to come after the one that is taken
        count_next : (x : ℕ) → count x (free s) ≡ ind x m + count x (free s₁)
        count_next x = ap (count x) w.kept.now

        above : Ready θ O s₁ (suc k) b bs
        above =
            record {
              ok = w.kept.ok;
              nodes = nodes_frame θ (node s) (node s₁) _ _ _ _ (suc k) b bs w.kept.root_same w.kept.levels_same untouched
                  y.nodes.1;
              numbered = subst (λ (t : ℕ). Numbered t (free s₁) bs) (sym w.kept.cap_same)
                  (numbered_above (cap s) m (free s₁) b bs (subst (λ ns. Numbered (cap s) ns (b ∷ bs)) w.kept.now y.numbered));
            }

        pub record Risen (s' : S) (path : List Place) : Type 0 where
          pub climbed : Climbed θ O s s' k (graft u key (pair a c)) (b ∷ bs) (b' ∷ carried θ (free s₁) b bs key)
              (suc (bump_cost θ (locals b bs key)))
          pub kept : (x : ℕ) → 1 ≤ occ x b' → node s' x ≡ node s₁ x
          pub plain : Plain θ (node s') (carried θ (free s₁) b bs key)
          pub way : path ≡ path_of b' (carried θ (free s₁) b bs key) key

        -- the climb above leaves the level's nodes alone
        module _ {s' : S} {bs' : List (Trie ℕ)} {more : ℕ} (z : Climbed θ O s₁ s' (suc k) b' bs bs' more) where
          left_alone : (x : ℕ) → 1 ≤ occ x b' → node s' x ≡ node s₁ x
          left_alone x o =
              elim (ℕ_discrete x m) [
                | yes i ↦
                    let spares = numbered_spares (b ∷ bs) y.numbered in
                    z.frame x (omega (arith, i, first_low m _ w.kept.now spares))
                    (omega (arith, i, w.kept.cap_same, first_high m _ w.kept.now spares))
                    (omega (arith, count_next x, ind_eq x m i, y.numbered.once x))
                    (omega (arith, count_next x, ind_eq x m i, y.numbered.once x))
                | no i ↦
                    let p : 1 ≤ occ x b = omega (arith, occ_split x b key m, ind_other x m i) in
                    z.frame x (ready_low y x (omega arith)) (omega (arith, w.kept.cap_same, ready_high y x (omega arith)))
                    (omega (arith, count_next x, y.numbered.once x))
                    (omega (arith, y.numbered.once x))
              ]

          split_climbed : Climbed θ O s s' k (graft u key (pair a c)) (b ∷ bs) (b' ∷ bs') (suc more)
          split_climbed =
              let halves : Over (At θ (node s₁) (suc k)) b' (graft u key (pair a c)) =
              over_graft (At θ (node s) (suc k)) (At θ (node s₁) (suc k)) b u key (pair n m) (pair a c)
              (λ x. omega (arith, y.numbered.once x))
              w.same y.nodes.0
              (subst (Over (At θ (node s₁) (suc k)) (pair n m)) (sym e) (w.left_is, w.right_is)) in
              record {
                nodes = (
                  over_map (At θ (node s₁) (suc k)) (At θ (node s') (suc k)) b' (graft u key (pair a c))
                      (λ x t o p. is_moved (left_alone x o) p) halves,
                  z.nodes,
                );
                frame = λ x p t f o.
                    z.frame x p (omega (arith, w.kept.cap_same)) (omega (arith, count_next x)) (omega arith)
                    ∙ w.frame x p t f (omega arith);
                changed = changed_then (omega arith) (kept_changed w.kept) z.changed;
              }

        pub rise : ClimbKeeps bs → suc (bump_cost θ (locals b bs key)) ≤ length (free s) → Plain θ (node s) bs
            → Risen (climb I O θ key s₁ (path_of b bs key) n m).store (climb I O θ key s₁ (path_of b bs key) n m).path
        rise up fits f =
            let z =
            up s₁ (suc k) b key n m above (omega (arith, ap length w.kept.now))
            (λ x o. unlinked_moved θ (node s) (node s₁) x (untouched x o) (f x o)) in
            record {
              climbed = split_climbed z.0;
              kept = left_alone z.0;
              plain = z.1;
              way = z.2;
            }
