-- A round keeps the directory: at level 1 the node at the key has room, or splits with its links and the climb above keeps the rest. The
-- labels stay one for one with the taken numbers, and the levels are those of the halved stretches.
use mathlib.Core.Path.{◌≡◌, sym, ap, ◌∙◌}
use mathlib.Core.List.{List, [], ◌∷◌}
use Prim.Native.Nat.{ℕ, ◌+◌, ◌-◌, ◌≤◌, ◌<◌}
use native.Mathlib.Omega.{arith}
use lib.ListN.{length}
use native.Mathlib.Decide.{dec_lt}
use borrow.Author.Tests.{lt-ltb, le-ltb}
use Rattle.tree.specs.Trie.{Trie, leaf, Key, shape, labels, leaf_at, depth, rest, graft, pair}
use Rattle.tree.specs.Tower.{tower}
use Rattle.tree.specs.Carry.{locals, bump_cost}
use Rattle.tree.proofs.TrieLaws.{graft_leaf_at, shape_graft}
use Rattle.tree.proofs.CarryLaws.{bump_slack, bump_full}
use Rattle.represent.specs.Labelled.{occs, count, under}
use Rattle.represent.specs.Rep.{back_of, forward_of, Links, Directory}
use Rattle.split.specs.Round.{NodeOps, NodeLaws, StoreOps, StoreLaws, Place, place_at, path_of, grown, split_first, climb, round, aim_at}
use Rattle.split.specs.Round.{next_node, deeper, in_half, carried, RoundCarries, AimKeeps}
use Rattle.split.proofs.Grafts.{forked}
use Rattle.represent.proofs.Chain.{count_labels, linked_frame}
use Rattle.split.proofs.CarriedLaws.{carried_slack, carried_full, carried_levels, carried_labels, one_same}
use Rattle.represent.proofs.LabelLaws.{one_numbered}
use Rattle.split.proofs.Blocks.{aim_written}
use Rattle.split.proofs.Level.{moved_links, links_frame, Ready, Climbed, here, rewritten, rewritten_links, ready_deep, ready_tall}
use Rattle.split.proofs.Rise.{grown_climbed, grown_links, rise}
use Rattle.split.proofs.Climb.{climb_keeps}
use Rattle.split.proofs.FirstSplit.{first_split, first_linked}
use Rattle.split.proofs.Paths.{slack_path, full_path}

module _ (I : NodeOps) (O : StoreOps) (θ : ℕ) (k : Key) (s : O.S) (p : Place) (path : List Place) (a c : ℕ) where
  pub round_room : p.depth < θ → round I O θ k s (p ∷ path) a c ≡ record { store = grown I O s p a c; path = deeper p ∷ path }
  unfolding round
  round_room h = rw (lt-ltb p.depth θ h, round)

  pub round_full : θ ≤ p.depth
      → round I O θ k s (p ∷ path) a c
      ≡ (let r = climb I O θ k (split_first I O s p a c) path p.at (next_node O s) in
      record { store = r.store; path = in_half θ p (next_node O s) ∷ r.path })
  unfolding round
  round_full h = rw (le-ltb p.depth θ h, round)

module _ {θ : ℕ} {O : StoreOps} {s : O.S} {u : Trie ℕ} {bs : List (Trie ℕ)} where
  open O use {Ok, node, root, levels, free, cap}

  ready : Ok s → Directory θ (node s) (root s) (levels s) (cap s) (λ n. count n (free s)) u bs → Ready θ O s 0 u bs
  ready ok d =
      record {
        ok = ok;
        nodes = d.nodes;
        numbered = one_numbered (cap s) (free s) bs d.one_for_one d.positive d.spare_positive;
      }

module _ {θ : ℕ} {I : NodeOps} {O : StoreOps} (A : NodeLaws θ I) (B : StoreLaws θ O) (pos : 1 ≤ θ) where
  open O use {S, node, free}

  round_climbed : (s : S) (u b : Trie ℕ) (bs : List (Trie ℕ)) (key : Key) (a c : ℕ)
      → Ready θ O s 0 u (b ∷ bs) → Links (node s) (b ∷ bs) → bump_cost θ (locals u (b ∷ bs) key) ≤ length (free s)
      → Climbed θ O s (round I O θ key s (path_of u (b ∷ bs) key) a c).store 0 (graft u key (pair a c))
      (b ∷ bs) (carried θ (free s) u (b ∷ bs) key) (bump_cost θ (locals u (b ∷ bs) key))
      × Links (node (round I O θ key s (path_of u (b ∷ bs) key) a c).store) (carried θ (free s) u (b ∷ bs) key)
      × ((round I O θ key s (path_of u (b ∷ bs) key) a c).path ≡ path_of (graft u key (pair a c)) (carried θ (free s) u (b ∷ bs) key) key)
  round_climbed s u b bs key a c y links fits =
      elim (dec_lt (depth u key - depth b key) θ) [
        | yes small ↦
            rw (
              round_room I O θ key s (place_at u b key) (path_of b bs key) a c small,
              carried_slack θ (free s) u b bs key small,
              (bump_slack θ (depth u key - depth b key) (locals b bs key) small).1,
            ) (
              grown_climbed A B y key a c small,
              links_frame θ (node s) _ b bs (grown_links A B y key a c small) links,
              slack_path u b bs key a c (ready_deep y key),
            )
        | no large ↦
            let full : θ ≤ depth u key - depth b key = omega arith in
            let cost = (bump_full θ (depth u key - depth b key) (locals b bs key) full).1 in
            let more : 1 ≤ length (free s) = omega (arith, cost) in
            let m : ℕ = next_node O s in
            let t = forked (under b u key) (rest b key) a c in
            let s₁ : S = split_first I O s (place_at u b key) a c in
            let s' : S = (climb I O θ key s₁ (path_of b bs key) (leaf_at b key) m).store in
            let b' : Trie ℕ = graft b key (pair (leaf_at b key) m) in
            let w = first_split A B y key a c links.0 t.2 full more in
            let z = rise A B y key a c t.2 w (climb_keeps A B pos bs) (omega (arith, cost)) links.1 in
            rw (
              round_full I O θ key s (place_at u b key) (path_of b bs key) a c full,
              carried_full θ (free s) u b bs key m (free s₁) w.kept.now full,
              cost,
            ) (
              z.climbed,
              (
                linked_frame (back_of (node s₁)) (forward_of (node s₁)) (back_of (node s')) (forward_of (node s')) 0 (labels b')
                    (λ x o. moved_links θ (node s₁) (node s') x (z.kept x (omega (arith, count_labels x b'))))
                    (first_linked A B y key a c links.0 t.2 full more),
                z.plain,
              ),
              full_path u b (carried θ (free s₁) b bs key) key a c (ready_deep y key) θ m _ (ready_tall y key) full
                  z.way,
            )
      ]

pub round_carries : (θ : ℕ) (I : NodeOps) (O : StoreOps) → RoundCarries θ I O
round_carries θ I O A B pos s u [] key a c ok d fits = absurd d.links
round_carries θ I O A B pos s u (b ∷ bs) key a c ok d fits =
    let z = round_climbed A B pos s u b bs key a c (ready ok d) d.links fits in
    let labels_are : (x : ℕ) → occs x (carried θ (O.free s) u (b ∷ bs) key)
    + count x (O.free (round I O θ key s (path_of u (b ∷ bs) key) a c).store) ≡ occs x (b ∷ bs) + count x (O.free s) =
    λ x.
    ap (λ (ns : List ℕ). occs x (carried θ (O.free s) u (b ∷ bs) key) + count x ns) z.0.changed.now
    ∙ carried_labels θ (O.free s) u (b ∷ bs) key x fits in (
      record {
        directory = record {
          nodes = z.0.nodes;
          links = z.1;
          one_for_one = one_same (O.cap s) _ _ _ z.0.changed.cap_same labels_are d.one_for_one;
          positive = omega (arith, labels_are 0, d.positive, d.spare_positive);
          spare_positive = omega (arith, labels_are 0, d.positive, d.spare_positive);
          levels_are = carried_levels θ (O.free s) u (b ∷ bs) key a c pos d.levels_are;
        };
        changed = z.0.changed;
      },
      z.2,
    )

pub aim_keeps : (θ : ℕ) (I : NodeOps) (O : StoreOps) → AimKeeps θ I O
unfolding aim_at
aim_keeps θ I O A B s u b bs key q ok d =
    let y = ready ok d in
    let w = aim_written A (here y key) (rest b key) q in
    let z = rewritten y key B (leaf q) w in
    record {
      directory = record {
        nodes = z.nodes;
        links = links_frame θ (O.node s) _ b bs (rewritten_links y key B (leaf q) w) d.links;
        one_for_one = one_same (O.cap s) _ _ _ z.changed.cap_same (λ x. omega (arith, ap (count x) z.changed.now)) d.one_for_one;
        positive = d.positive;
        spare_positive = ap (count 0) z.changed.now ∙ d.spare_positive;
        levels_are = d.levels_are ∙ ap (tower θ) (sym (shape_aim u key q));
      };
      changed = z.changed;
    }
  where
    -- another label changes no shape
    shape_aim : (t : Trie ℕ) (k : Key) (q : ℕ) → shape (graft t k (leaf q)) ≡ shape t
    shape_aim t k q = shape_graft t k (leaf q) ∙ sym (shape_graft t k (leaf (leaf_at t k))) ∙ ap shape (graft_leaf_at t k)
