-- The tower by `cut` is the one canonical tower: a level that is tall over the one below is its cut, and a cut takes θ from the height.
use mathlib.Core.Path.{◌≡◌, refl, sym, ap, ap₂, ◌∙◌}
use mathlib.Core.List.{List, [], ◌∷◌}
use Prim.Native.Nat.{ℕ, zero, suc, ◌-◌, ◌≤◌, ◌<◌}
use native.Mathlib.Decide.{dec_le}
use native.Mathlib.Omega.{arith}
use borrow.Author.Tests.{le-leb, lt-leb}
use Rattle.tree.specs.Trie.{leaf, fork, Shape, tip, height}
use Rattle.tree.specs.Tower.{cut, levels_above, tower, Tall, Topped, Canonical}

pub cut_le : (θ : ℕ) (t : Shape) → height t ≤ θ → cut θ t ≡ tip
unfolding cut
cut_le θ (leaf x) h = refl
cut_le θ (fork l r) h = rw (le-leb (height (fork l r)) θ h, cut)

pub cut_gt : (θ : ℕ) (l r : Shape) → θ < height (fork l r) → cut θ (fork l r) ≡ fork (cut θ l) (cut θ r)
unfolding cut
cut_gt θ l r h = rw (lt-leb (height (fork l r)) θ h, cut)

pub height_cut : (θ : ℕ) (t : Shape) → height (cut θ t) ≡ height t - θ
unfolding cut
height_cut θ (leaf x) = omega arith
height_cut θ (fork l r) =
    elim (dec_le (height (fork l r)) θ) [
      | yes h ↦ rw (cut_le θ (fork l r) h) (omega arith)
      | no h ↦ rw (cut_gt θ l r (omega arith)) (omega (arith, height_cut θ l, height_cut θ r))
    ]

pub tall_cut : (θ : ℕ) (t : Shape) → Tall θ (cut θ t) t
unfolding cut
tall_cut θ (leaf x) = omega arith
tall_cut θ (fork l r) =
    elim (dec_le (height (fork l r)) θ) [
      | yes h ↦ rw (cut_le θ (fork l r) h) h
      | no h ↦ rw (cut_gt θ l r (omega arith)) (omega arith, (tall_cut θ l, tall_cut θ r))
    ]

pub tall_is_cut : (θ : ℕ) (b t : Shape) → Tall θ b t → b ≡ cut θ t
tall_is_cut θ (leaf x) t h = sym (cut_le θ t h)
tall_is_cut θ (fork l r) (leaf y) h = absurd h
tall_is_cut θ (fork l r) (fork tl tr) h =
    rw (cut_gt θ tl tr h.0) (ap₂ fork (tall_is_cut θ l tl h.1.0) (tall_is_cut θ r tr h.1.1))

pub above_tip : (n θ : ℕ) → levels_above n θ tip ≡ []
above_tip zero θ = refl
above_tip (suc n) θ = refl

-- with as much fuel as the height the levels above b are canonical, and they are the only ones that are
pub above_canonical : (n θ : ℕ) (b : Shape) → 1 ≤ θ → height b ≤ n → Topped b (levels_above n θ b) × Canonical θ b (levels_above n θ b)
above_canonical zero θ (leaf x) h a = (refl, tt)
above_canonical zero θ (fork l r) h a = absurd (omega arith)
above_canonical (suc n) θ (leaf x) h a = (refl, tt)
above_canonical (suc n) θ (fork l r) h a =
    (tt, (tall_cut θ (fork l r), above_canonical n θ (cut θ (fork l r)) h (omega (arith, height_cut θ (fork l r)))))

pub above_unique : (n θ : ℕ) (b : Shape) (bs : List Shape) → 1 ≤ θ → height b ≤ n → Topped b bs → Canonical θ b bs → bs ≡ levels_above n θ b
above_unique n θ b [] h a t c = rw t (sym (above_tip n θ))
above_unique n θ (leaf x) (d ∷ bs) h a t c = absurd t
above_unique zero θ (fork l r) (d ∷ bs) h a t c = absurd (omega arith)
above_unique (suc n) θ (fork l r) (d ∷ bs) h a t c =
    let e : d ≡ cut θ (fork l r) = tall_is_cut θ d (fork l r) c.0 in
    ap₂ (λ (x : Shape) (xs : List Shape). x ∷ xs) e
    (above_unique n θ d bs h (omega (arith, height_cut θ (fork l r), ap height e)) c.1.0 c.1.1 ∙ ap (levels_above n θ) e)

pub tower_canonical : (θ : ℕ) (t : Shape) → 1 ≤ θ → Canonical θ t (tower θ t)
unfolding tower
tower_canonical θ t h = (tall_cut θ t, above_canonical (height t) θ (cut θ t) h (omega (arith, height_cut θ t)))

pub tower_unique : (θ : ℕ) (t b : Shape) (bs : List Shape) → 1 ≤ θ → Canonical θ t (b ∷ bs) → b ∷ bs ≡ tower θ t
unfolding tower
tower_unique θ t b bs h c =
    let e : b ≡ cut θ t = tall_is_cut θ b t c.0 in
    ap₂ (λ (x : Shape) (xs : List Shape). x ∷ xs) e
    (above_unique (height t) θ b bs h (omega (arith, height_cut θ t, ap height e)) c.1.0 c.1.1 ∙ ap (levels_above (height t) θ) e)
