-- A climb gives the carried levels, and no links: by induction on the levels, with a new root above the last.
use mathlib.Core.Path.{◌≡◌, refl, sym, ap, ◌∙◌, subst}
use mathlib.Core.List.{List, [], ◌∷◌}
use Prim.Native.Nat.{ℕ, suc, ◌-◌, ◌≤◌, ◌<◌}
use native.Mathlib.Omega.{arith}
use lib.ListN.{length, drop}
use native.Mathlib.Decide.{ℕ_discrete, dec_lt}
use borrow.Author.Tests.{lt-ltb, le-ltb}
use Rattle.tree.specs.Trie.{Trie, leaf, fork, Key, leaf_at, depth, rest, graft, pair}
use Rattle.tree.specs.Carry.{locals, bump_cost}
use Rattle.tree.proofs.CarryLaws.{bump_slack, bump_full}
use Rattle.represent.specs.Labelled.{ind, occ, occs, count, first, under}
use Rattle.represent.specs.Rep.{back_of, forward_of, Unlinked}
use Rattle.split.specs.Round.{NodeOps, NodeLaws, StoreOps, StoreLaws, Place, place_at, path_of, carried}
use Rattle.split.specs.Round.{next_node, take_node, grown, relink, split_node, new_root, deeper, in_half, climb}
use Rattle.represent.proofs.LabelLaws.{ind_other}
use Rattle.split.proofs.Grafts.{forked, occ_split}
use Rattle.split.proofs.CarriedLaws.{carried_slack, carried_full}
use Rattle.split.proofs.Blocks.{Written, top_written}
use Rattle.split.proofs.Writes.{numbered_spares, first_low, first_high, first_gone, first_not, rest_gone, put_kept, taken_kept}
use Rattle.split.proofs.Level.{is_moved, unlinked_same, unlinked_moved, written_unlinked, Plain, plain_cons, Ready, ready_low}
use Rattle.split.proofs.Level.{ready_high, ready_off, here_in, key_low, ready_deep, ready_tall}
use Rattle.split.proofs.Splits.{Split, parts, Parted, parted, parted_split}
use Rattle.split.proofs.Rise.{ClimbKeeps, grown_climbed, grown_links, lower_here, upper_here, rise}
use Rattle.tree.proofs.TrieLaws.{depth_split}
use Rattle.split.proofs.Paths.{slack_path, full_path}

module _ (I : NodeOps) (O : StoreOps) (θ : ℕ) (k : Key) (s : O.S) (p : Place) (a c : ℕ) where
  pub climb_room : (path : List Place) → p.depth < θ
      → climb I O θ k s (p ∷ path) a c ≡ record { store = grown I O s p a c; path = deeper p ∷ path }
  unfolding climb
  climb_room path h = rw (lt-ltb p.depth θ h, climb)

  pub climb_full : (path : List Place) → θ ≤ p.depth
      → climb I O θ k s (p ∷ path) a c
      ≡ (let r = climb I O θ k (split_node I O s p a c) path p.at (next_node O s) in
      record { store = r.store; path = in_half θ p (next_node O s) ∷ r.path })
  unfolding climb
  climb_full path h = rw (le-ltb p.depth θ h, climb)

  -- a node above level 1 splits with no node behind it
  halve_parts : split_node I O s p a c
      ≡ parts I O s p.at (I.lower (O.node s p.at) p.bits a c) (I.upper (O.node s p.at) p.bits a c) 0
  unfolding split_node relink
  halve_parts = refl

module _ {θ : ℕ} {I : NodeOps} {O : StoreOps} (A : NodeLaws θ I) (B : StoreLaws θ O) where
  open O use {S, node, levels, free, cap}

  module _ {s : S} {k : ℕ} {u b : Trie ℕ} {bs : List (Trie ℕ)} (y : Ready θ O s k u (b ∷ bs)) (key : Key) (a c : ℕ)
      {l r : Trie ℕ} (e : graft (under b u key) (rest b key) (pair a c) ≡ fork l r)
      (full : θ ≤ depth u key - depth b key) (more : 1 ≤ length (free s))
    where
      abbrev n : ℕ
      n = leaf_at b key

      abbrev m : ℕ
      m = next_node O s

      abbrev s₁ : S
      s₁ = split_node I O s (place_at u b key) a c

      low : Written θ (I.lower (node s n) (rest b key) a c) (suc k) (back_of (node s) n) (forward_of (node s) n) l
      low = lower_here A B y key a c e full

      high : Written θ (I.upper (node s n) (rest b key) a c) (suc k) (back_of (node s) n) (forward_of (node s) n) r
      high = upper_here A B y key a c e full

      not_null : n ≡ 0 → ⊥
      not_null i = omega (arith, key_low y key)

      halve_parted : Parted I O s s₁ n (I.lower (node s n) (rest b key) a c) (I.upper (node s n) (rest b key) a c) 0
      halve_parted =
          rw (halve_parts I O θ key s (place_at u b key) a c)
          (parted A B y key low.is high.is 0 not_null (λ i. absurd (i refl)) more)

      halve_split : Split θ O s s₁ (suc k) b n l r
      halve_split = parted_split A B y key low.is high.is 0 not_null (λ i. absurd (i refl)) halve_parted

      halve_plain : Plain θ (node s) (b ∷ bs) → (x : ℕ) → 1 ≤ occ x (graft b key (pair n m)) → Unlinked (node s₁) x
      halve_plain f x o =
          let g = f n (here_in y key) in
          elim (ℕ_discrete x m) [
            | yes i ↦ subst (Unlinked (node s₁)) (sym i)
                (written_unlinked θ _ _ halve_parted.at_m high g.no_back g.no_forward)
            | no i ↦ elim (ℕ_discrete x n) [
              | yes j ↦ subst (Unlinked (node s₁)) (sym j)
                  (written_unlinked θ _ _ halve_parted.at_n low g.no_back g.no_forward)
              | no j ↦
                  let p : 1 ≤ occs x (b ∷ bs) = omega (arith, occ_split x b key m, ind_other x m i) in
                  let x≥1 = ready_low y x p in
                  unlinked_moved θ (node s) (node s₁) x (halve_parted.off x x≥1 (ready_high y x p) (ready_off y x p) j (λ z. omega (arith, x≥1))) (f x p)
            ]
          ]

  root_climbed : 1 ≤ θ → ClimbKeeps A B []
  unfolding climb new_root carried bump_cost
  root_climbed h s k u key a c y fits f =
      let w = top_written A (suc (levels s)) a c h in
      let m : ℕ = next_node O s in
      let s₀ : S = take_node O s in
      let t = B.take_is s y.ok fits in
      let spares = numbered_spares [] y.numbered in
      let low = first_low m (free s₀) t.first_is spares in
      let high = first_high m (free s₀) t.first_is spares in
      let gone = first_gone m (free s₀) t.first_is spares in
      let zero₀ = rest_gone m (free s₀) t.first_is spares 0 spares.positive in
      let p = B.put_is s₀ m _ (suc (levels s)) (pair a c) t.ok low (omega (arith, t.cap_same)) gone zero₀ w.is in
      let s₁ : S = O.put s₀ m (I.top (suc (levels s)) a c) in
      let e = put_kept gone (taken_kept B s y.ok fits) p in
      let g = B.head_is s₁ m (suc (levels s₁)) p.ok in
      let at_m : node (new_root I O s a c) m ≡ I.top (suc (levels s)) a c =
      g.nodes_same m low (omega (arith, e.cap_same)) ∙ p.here in
      let first_m : first (free s) ≡ m = ap first t.first_is in (
        record {
          nodes = (
            is_moved (ap (node (new_root I O s a c)) first_m ∙ at_m) (rw (y.nodes.0, ← y.nodes.1) w.is),
            (ap leaf (first_m ∙ sym g.root_is), g.levels_is ∙ ap suc (e.levels_same ∙ y.nodes.1)),
          );
          frame = λ x i l f o.
              g.nodes_same x i (omega (arith, e.cap_same))
              ∙ p.elsewhere x i (omega (arith, t.cap_same)) (first_not m (free s₀) t.first_is spares x f)
              ∙ t.nodes_same x i l;
          changed = record {
            ok = g.ok;
            now = g.free_same ∙ p.free_same ∙ sym (ap (drop 1) t.first_is);
            cap_same = g.cap_same ∙ e.cap_same;
            others_same = g.others_same ∙ e.others_same;
            fresh = λ x i l o.
                g.nodes_same x i (omega (arith, e.cap_same)) ∙ e.fresh x i l (omega (arith, ap (count x) g.free_same));
          };
        },
        λ x o. elim (ℕ_discrete x m) [
          | yes i ↦ subst (Unlinked (node (new_root I O s a c))) (sym i) (written_unlinked θ _ _ at_m w refl refl)
          | no i ↦ absurd (omega (arith, ap (ind x) first_m, ind_other x m i))
        ],
        place_root first_m (sym (omega (arith, depth_split u key a c, ap (λ t. depth t key) y.nodes.0))),
      )
    where
      place_root : {m m' d d' : ℕ} → m' ≡ m → d ≡ d'
          → ◌≡◌ {A = List Place} (record { at = m; bits = key; depth = d } ∷ []) (record { at = m'; bits = key; depth = d' } ∷ [])
      place_root e q = rw (e, q)

  pub climb_keeps : 1 ≤ θ → (bs : List (Trie ℕ)) → ClimbKeeps A B bs
  climb_keeps h [] s k u key a c y fits f = root_climbed h s k u key a c y fits f
  climb_keeps h (b ∷ bs) s k u key a c y fits f =
      elim (dec_lt (depth u key - depth b key) θ) [
        | yes small ↦
            rw (
              climb_room I O θ key s (place_at u b key) a c (path_of b bs key) small,
              carried_slack θ (free s) u b bs key small,
              (bump_slack θ (depth u key - depth b key) (locals b bs key) small).1,
            ) (
              grown_climbed A B y key a c small,
              λ x o. unlinked_same θ (node s) _ x (grown_links A B y key a c small x o) (f x o),
              slack_path u b bs key a c (ready_deep y key),
            )
        | no large ↦
            let full : θ ≤ depth u key - depth b key = omega arith in
            let cost = (bump_full θ (depth u key - depth b key) (locals b bs key) full).1 in
            let more : 1 ≤ length (free s) = omega (arith, cost) in
            let m : ℕ = next_node O s in
            let t = forked (under b u key) (rest b key) a c in
            let s₁ : S = split_node I O s (place_at u b key) a c in
            let s' : S = (climb I O θ key s₁ (path_of b bs key) (leaf_at b key) m).store in
            let w = halve_split y key a c t.2 full more in
            let z = rise A B y key a c t.2 w (climb_keeps h bs) (omega (arith, cost)) (λ x o. f x (omega arith)) in
            rw (
              climb_full I O θ key s (place_at u b key) a c (path_of b bs key) full,
              carried_full θ (free s) u b bs key m (free s₁) w.kept.now full,
              cost,
            ) (
              z.climbed,
              plain_cons θ (node s') (graft b key (pair (leaf_at b key) m)) (carried θ (free s₁) b bs key)
                  (λ x o. unlinked_moved θ (node s₁) (node s') x (z.kept x o) (halve_plain y key a c t.2 full more f x o))
                  z.plain,
              full_path u b (carried θ (free s₁) b bs key) key a c (ready_deep y key) θ m _ (ready_tall y key) full
                  z.way,
            )
      ]
