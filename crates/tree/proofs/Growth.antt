-- A tree never shrinks when records are added: the trie of a sublist has only forks that the trie of the list has, and so have all its
-- cuts.
use mathlib.Core.Bool.{Bool, true, false}
use mathlib.Core.List.{List, Sublistᴰ}
use Prim.Native.Nat.{ℕ, zero, suc, ◌≤◌}
use native.Mathlib.Decide.{dec_le}
use native.Mathlib.Omega.{arith}
use lib.ListN.{length}
use Rattle.lists.specs.Bits.{bit}
use Rattle.lists.proofs.ListLaws.{filter_sublist, length_sublist}
use Rattle.tree.specs.Trie.{leaf, fork, Shape, shape, height, leaves}
use Rattle.tree.specs.Tower.{cut, levels_above, tower, all_leaves, levels, nodes}
use Rattle.tree.specs.Build.{same, side, build, filled, pages}
use Rattle.tree.proofs.TrieLaws.{leaves_pos}
use Rattle.tree.proofs.TowerLaws.{cut_le, cut_gt}
use Rattle.tree.proofs.BuildLaws.{length_sides, build_le, build_gt}
use Rattle.tree.proofs.InsertLaws.{filled_pos, filled_zero, filled_le}

-- u has all the forks of t
abbrev pub Within : Shape → Shape → Type 0
Within (leaf x) u = Unit {0}
Within (fork l r) (leaf y) = ⊥
Within (fork l r) (fork ul ur) = Within l ul × Within r ur

within_height : (t u : Shape) → Within t u → height t ≤ height u
within_height (leaf x) u b = omega arith
within_height (fork l r) (leaf y) b = absurd b
within_height (fork l r) (fork ul ur) b = omega (arith, within_height l ul b.0, within_height r ur b.1)

within_leaves : (t u : Shape) → Within t u → leaves t ≤ leaves u
within_leaves (leaf x) u b = leaves_pos u
within_leaves (fork l r) (leaf y) b = absurd b
within_leaves (fork l r) (fork ul ur) b = omega (arith, within_leaves l ul b.0, within_leaves r ur b.1)

within_cut : (θ : ℕ) (t u : Shape) → Within t u → Within (cut θ t) (cut θ u)
unfolding cut
within_cut θ (leaf x) u b = tt
within_cut θ (fork l r) (leaf y) b = absurd b
within_cut θ (fork l r) (fork ul ur) b =
    elim (dec_le (height (fork l r)) θ) [
      | yes h ↦ rw (cut_le θ (fork l r) h) tt
      | no h ↦ rw (cut_gt θ l r (omega arith), cut_gt θ ul ur (omega (arith, within_height (fork l r) (fork ul ur) b)))
          (within_cut θ l ul b.0, within_cut θ r ur b.1)
    ]

within_above : (n m θ : ℕ) (t u : Shape) → n ≤ m → Within t u
    → (all_leaves (levels_above n θ t) ≤ all_leaves (levels_above m θ u)) × (length (levels_above n θ t) ≤ length (levels_above m θ u))
within_above zero m θ t u h b = omega arith
within_above (suc n) zero θ t u h b = absurd (omega arith)
within_above (suc n) (suc m) θ (leaf x) u h b = omega arith
within_above (suc n) (suc m) θ (fork l r) (leaf y) h b = absurd b
within_above (suc n) (suc m) θ (fork l r) (fork ul ur) h b =
    let c : Within (cut θ (fork l r)) (cut θ (fork ul ur)) = within_cut θ (fork l r) (fork ul ur) b in
    omega (
      arith,
      within_leaves (cut θ (fork l r)) (cut θ (fork ul ur)) c,
      within_above n m θ (cut θ (fork l r)) (cut θ (fork ul ur)) (omega arith) c,
    )

pub within_tower : (θ : ℕ) (t u : Shape) → Within t u → (nodes θ t ≤ nodes θ u) × (levels θ t ≤ levels θ u)
unfolding tower
within_tower θ t u b =
    let c : Within (cut θ t) (cut θ u) = within_cut θ t u b in
    omega (arith, within_leaves (cut θ t) (cut θ u) c, within_above (height t) (height u) θ (cut θ t) (cut θ u) (within_height t u b) c)

module _ {R : Type 0} (key : R → ℕ) (C : ℕ) where
  side_sublist : (b : Bool) (w : ℕ) {xs ys : List R} → Sublistᴰ xs ys → Sublistᴰ (side key b w xs) (side key b w ys)
  side_sublist b w s = filter_sublist (λ r. same b (bit w (key r))) s

  pub within_build : (w : ℕ) (xs ys : List R) → Sublistᴰ xs ys → Within (shape (build key C w xs)) (shape (build key C w ys))
  unfolding build
  within_build zero xs ys s = tt
  within_build (suc w) xs ys s =
      elim (dec_le (length xs) C) [
        | yes h ↦ rw (build_le key C (suc w) xs h) tt
        | no h ↦ rw (build_gt key C w xs (omega arith), build_gt key C w ys (omega (arith, length_sublist s))) (
          within_build w (side key false w xs) (side key false w ys) (side_sublist false w s),
          within_build w (side key true w xs) (side key true w ys) (side_sublist true w s),
        )
      ]

  pages_pos : (w : ℕ) (xs : List R) → 1 ≤ length xs → 1 ≤ pages (build key C w xs)
  unfolding build
  pages_pos zero xs h = omega (arith, filled_pos xs h)
  pages_pos (suc w) xs h =
      elim (dec_le (length xs) C) [
        | yes l ↦ rw (build_le key C (suc w) xs l) (omega (arith, filled_pos xs h))
        | no l ↦ rw (build_gt key C w xs (omega arith))
            (elim (dec_le 1 (length (side key false w xs))) [
              | yes a ↦ omega (arith, pages_pos w (side key false w xs) a)
              | no a ↦ omega (arith, pages_pos w (side key true w xs) (omega (arith, length_sides key w xs)))
            ])
      ]

  -- one leaf is no more pages than any trie of a longer list
  leaf_pages : (w : ℕ) (xs ys : List R) → length xs ≤ length ys → filled xs ≤ pages (build key C w ys)
  leaf_pages w xs ys l =
      elim (dec_le 1 (length xs)) [
        | yes h ↦ omega (arith, filled_le xs, pages_pos w ys (omega arith))
        | no h ↦ omega (arith, filled_zero xs (omega arith))
      ]

  pub sublist_pages : (w : ℕ) (xs ys : List R) → Sublistᴰ xs ys → pages (build key C w xs) ≤ pages (build key C w ys)
  unfolding build
  sublist_pages zero xs ys s = leaf_pages zero xs ys (length_sublist s)
  sublist_pages (suc w) xs ys s =
      elim (dec_le (length xs) C) [
        | yes h ↦ rw (build_le key C (suc w) xs h) (leaf_pages (suc w) xs ys (length_sublist s))
        | no h ↦ rw (build_gt key C w xs (omega arith), build_gt key C w ys (omega (arith, length_sublist s)))
            (omega (
              arith,
              sublist_pages w (side key false w xs) (side key false w ys) (side_sublist false w s),
              sublist_pages w (side key true w xs) (side key true w ys) (side_sublist true w s),
            ))
      ]
