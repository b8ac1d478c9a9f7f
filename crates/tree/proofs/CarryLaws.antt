-- One halving at the key is a carry: with a local depth below θ the level stays tall over the halved one, at θ it is halved too, and so on
-- up; a level that stays tall is the cut, so the carried tower is the tower.
use mathlib.Core.Path.{◌≡◌, refl, sym, ap, ap₂, ◌∙◌}
use mathlib.Core.Bool.{true, false}
use mathlib.Core.List.{List, [], ◌∷◌, map}
use Prim.Native.Nat.{ℕ, zero, suc, ◌+◌, ◌-◌, ◌≤◌, ◌<◌}
use native.Mathlib.Decide.{dec_lt}
use native.Mathlib.Omega.{arith}
use borrow.Author.Tests.{lt-ltb, le-ltb}
use Rattle.tree.specs.Trie.{Trie, leaf, fork, Shape, tip, Key, shape, height, depth, pair, split}
use Rattle.tree.specs.Tower.{tower, all_leaves, nodes, Tall, IsFork, Topped, Canonical}
use Rattle.tree.specs.Carry.{locals, carry, bump, bump_cost, splits, bumps, bump_costs}
use Rattle.tree.proofs.TrieLaws.{depth_le_height, depth_shape, height_split, depth_split, leaves_graft}
use Rattle.tree.proofs.TowerLaws.{tower_canonical, tower_unique}

pub tall_depth : (θ : ℕ) (b t : Shape) (k : Key) → Tall θ b t → (depth b k ≤ depth t k) × (depth t k ≤ depth b k + θ)
tall_depth θ (leaf x) t k h = omega (arith, depth_le_height t k)
tall_depth θ (fork l r) (leaf y) k h = absurd h
tall_depth θ (fork l r) (fork tl tr) [] h = omega (arith, tall_depth θ l tl [] h.1.0)
tall_depth θ (fork l r) (fork tl tr) (false ∷ k) h = omega (arith, tall_depth θ l tl k h.1.0)
tall_depth θ (fork l r) (fork tl tr) (true ∷ k) h = omega (arith, tall_depth θ r tr k h.1.1)

-- with a local depth below θ
tall_stays : (θ : ℕ) (b t : Shape) (k : Key) → Tall θ b t → depth t k < depth b k + θ → Tall θ b (split t k)
tall_stays θ (leaf x) t k h s = omega (arith, height_split t k tt tt)
tall_stays θ (fork l r) (leaf y) k h s = absurd h
tall_stays θ (fork l r) (fork tl tr) [] h s =
    (omega (arith, height_split tl [] tt tt, h.0), (tall_stays θ l tl [] h.1.0 (omega arith), h.1.1))
tall_stays θ (fork l r) (fork tl tr) (false ∷ k) h s =
    (omega (arith, height_split tl k tt tt, h.0), (tall_stays θ l tl k h.1.0 (omega arith), h.1.1))
tall_stays θ (fork l r) (fork tl tr) (true ∷ k) h s =
    (omega (arith, height_split tr k tt tt, h.0), (h.1.0, tall_stays θ r tr k h.1.1 (omega arith)))

-- at θ
tall_splits : (θ : ℕ) (b t : Shape) (k : Key) → Tall θ b t → depth t k ≡ depth b k + θ → Tall θ (split b k) (split t k)
tall_splits θ (leaf x) (leaf y) k h s = omega arith
tall_splits θ (leaf x) (fork tl tr) [] h s = omega (arith, height_split tl [] tt tt)
tall_splits θ (leaf x) (fork tl tr) (false ∷ k) h s = omega (arith, height_split tl k tt tt)
tall_splits θ (leaf x) (fork tl tr) (true ∷ k) h s = omega (arith, height_split tr k tt tt)
tall_splits θ (fork l r) (leaf y) k h s = absurd h
tall_splits θ (fork l r) (fork tl tr) [] h s =
    (omega (arith, height_split tl [] tt tt, h.0), (tall_splits θ l tl [] h.1.0 (omega arith), h.1.1))
tall_splits θ (fork l r) (fork tl tr) (false ∷ k) h s =
    (omega (arith, height_split tl k tt tt, h.0), (tall_splits θ l tl k h.1.0 (omega arith), h.1.1))
tall_splits θ (fork l r) (fork tl tr) (true ∷ k) h s =
    (omega (arith, height_split tr k tt tt, h.0), (h.1.0, tall_splits θ r tr k h.1.1 (omega arith)))

split_fork : (b : Shape) (k : Key) → IsFork (split b k)
split_fork (leaf x) k = tt
split_fork (fork l r) [] = tt
split_fork (fork l r) (false ∷ k) = tt
split_fork (fork l r) (true ∷ k) = tt

pub carry_slack : (θ : ℕ) (t b : Shape) (bs : List Shape) (k : Key) → depth t k - depth b k < θ → carry θ t (b ∷ bs) k ≡ b ∷ bs
unfolding carry
carry_slack θ t b bs k h = rw (lt-ltb (depth t k - depth b k) θ h, carry)

pub carry_full : (θ : ℕ) (t b : Shape) (bs : List Shape) (k : Key) → θ ≤ depth t k - depth b k
    → carry θ t (b ∷ bs) k ≡ split b k ∷ carry θ b bs k
unfolding carry
carry_full θ t b bs k h = rw (le-ltb (depth t k - depth b k) θ h, carry)

pub bump_slack : (θ h : ℕ) (hs : List ℕ) → h < θ → (bump θ (h ∷ hs) ≡ suc h ∷ hs) × (bump_cost θ (h ∷ hs) ≡ 0)
unfolding bump bump_cost
bump_slack θ h hs e = (rw (lt-ltb h θ e, bump), rw (lt-ltb h θ e, bump_cost))

pub bump_full : (θ h : ℕ) (hs : List ℕ) → θ ≤ h → (bump θ (h ∷ hs) ≡ θ ∷ bump θ hs) × (bump_cost θ (h ∷ hs) ≡ suc (bump_cost θ hs))
unfolding bump bump_cost
bump_full θ h hs e = (rw (le-ltb h θ e, bump), rw (le-ltb h θ e, bump_cost))

abbrev IsCons : List Shape → Type 0
IsCons [] = ⊥
IsCons (b ∷ bs) = Unit {0}

-- where no level is above, there is one stretch
abbrev pub Ends : Shape → List Shape → Type 0
Ends t [] = t ≡ tip
Ends t (b ∷ bs) = Unit {0}

topped_ends : (t : Shape) (bs : List Shape) → Topped t bs → Ends t bs
topped_ends t [] h = h
topped_ends t (b ∷ bs) h = tt

ends_cons : (t : Shape) (bs : List Shape) → IsCons bs → Ends t bs
ends_cons t [] h = absurd h
ends_cons t (b ∷ bs) h = tt

carry_cons : (θ : ℕ) (t : Shape) (bs : List Shape) (k : Key) → IsCons (carry θ t bs k)
unfolding carry
carry_cons θ t [] k = tt
carry_cons θ t (c ∷ bs) k =
    elim (dec_lt (depth t k - depth c k) θ) [
      | yes h ↦ rw (carry_slack θ t c bs k h) tt
      | no h ↦ rw (carry_full θ t c bs k (omega arith)) tt
    ]

tower_cons : (θ : ℕ) (t : Shape) → IsCons (tower θ t)
unfolding tower
tower_cons θ t = tt

topped_cons : (b : Shape) (bs : List Shape) → IsFork b → IsCons bs → Topped b bs
topped_cons b [] f h = absurd h
topped_cons b (c ∷ bs) f h = f

-- what a carry is: canonical over the halved stretches, with these local depths and that many nodes more
pub record Carried (θ : ℕ) (t : Shape) (bs : List Shape) (k : Key) : Type 0 where
  pub canonical : Canonical θ (split t k) (carry θ t bs k)
  pub local : locals (split t k) (carry θ t bs k) k ≡ bump θ (locals t bs k)
  pub cost : all_leaves (carry θ t bs k) ≡ all_leaves bs + bump_cost θ (locals t bs k)

carried_root : (θ : ℕ) (t : Shape) (k : Key) → 1 ≤ θ → t ≡ tip → Carried θ t [] k
unfolding carry bump bump_cost
carried_root θ t k h e =
    record {
      canonical = (omega (arith, height_split t k tt tt, depth_le_height t k, ap height e), (refl, tt));
      local = ap (λ (d : ℕ). d ∷ []) (omega (arith, depth_split t k tt tt, depth_le_height t k, ap height e));
      cost = omega arith;
    }

carried_slack : (θ : ℕ) (t b : Shape) (bs : List Shape) (k : Key) → Canonical θ t (b ∷ bs) → depth t k - depth b k < θ
    → Carried θ t (b ∷ bs) k
carried_slack θ t b bs k c s =
    let d = tall_depth θ b t k c.0 in
    let h : ℕ = depth t k - depth b k in
    record {
      canonical = rw (carry_slack θ t b bs k s) (tall_stays θ b t k c.0 (omega arith), c.1);
      local = rw (carry_slack θ t b bs k s, (bump_slack θ h (locals b bs k) s).0)
          (ap (λ (d : ℕ). d ∷ locals b bs k) (omega (arith, depth_split t k tt tt)));
      cost = rw (carry_slack θ t b bs k s, (bump_slack θ h (locals b bs k) s).1) (omega arith);
    }

carried_full : (θ : ℕ) (t b : Shape) (bs : List Shape) (k : Key) → Canonical θ t (b ∷ bs) → θ ≤ depth t k - depth b k → Carried θ b bs k
    → Carried θ t (b ∷ bs) k
carried_full θ t b bs k c s ih =
    let d = tall_depth θ b t k c.0 in
    let h : ℕ = depth t k - depth b k in
    record {
      canonical =
          rw (carry_full θ t b bs k s) (
            tall_splits θ b t k c.0 (omega arith),
            (topped_cons (split b k) (carry θ b bs k) (split_fork b k) (carry_cons θ b bs k), ih.canonical),
          );
      local = rw (carry_full θ t b bs k s, (bump_full θ h (locals b bs k) s).0)
          (ap₂ (λ (d : ℕ) (ds : List ℕ). d ∷ ds) (omega (arith, depth_split t k tt tt, depth_split b k tt tt)) ih.local);
      cost = rw (carry_full θ t b bs k s, (bump_full θ h (locals b bs k) s).1) (omega (arith, leaves_graft b k (pair tt tt), ih.cost));
    }

pub carried : (θ : ℕ) (t : Shape) (bs : List Shape) (k : Key) → 1 ≤ θ → Ends t bs → Canonical θ t bs → Carried θ t bs k
carried θ t [] k h e c = carried_root θ t k h e
carried θ t (b ∷ bs) k h e c =
    elim (dec_lt (depth t k - depth b k) θ) [
      | yes s ↦ carried_slack θ t b bs k c s
      | no s ↦ carried_full θ t b bs k c (omega arith) (carried θ b bs k h (topped_ends b bs c.1.0) c.1.1)
    ]

-- the tower of the halved stretches
pub record Halved (θ : ℕ) (t : Shape) (k : Key) : Type 0 where
  pub levels : tower θ (split t k) ≡ carry θ t (tower θ t) k
  pub local : locals (split t k) (tower θ (split t k)) k ≡ bump θ (locals t (tower θ t) k)
  pub cost : nodes θ (split t k) ≡ nodes θ t + bump_cost θ (locals t (tower θ t) k)

tower_of : (θ : ℕ) (t : Shape) (bs : List Shape) → 1 ≤ θ → Canonical θ t bs → IsCons bs → bs ≡ tower θ t
tower_of θ t [] h c e = absurd e
tower_of θ t (b ∷ bs) h c e = tower_unique θ t b bs h c

pub halved : (θ : ℕ) (t : Shape) (k : Key) → 1 ≤ θ → Halved θ t k
halved θ t k h =
    let c = carried θ t (tower θ t) k h (ends_cons t (tower θ t) (tower_cons θ t)) (tower_canonical θ t h) in
    let e : carry θ t (tower θ t) k ≡ tower θ (split t k) =
    tower_of θ (split t k) (carry θ t (tower θ t) k) h c.canonical (carry_cons θ t (tower θ t) k) in
    record { levels = sym e; local = rw e at c.local; cost = rw e at c.cost }

-- d halvings, one after another
pub record Halvings (θ d : ℕ) (t : Shape) (k : Key) : Type 0 where
  pub local : locals (splits d t k) (tower θ (splits d t k)) k ≡ bumps d θ (locals t (tower θ t) k)
  pub cost : nodes θ (splits d t k) ≡ nodes θ t + bump_costs d θ (locals t (tower θ t) k)

pub halvings : (θ d : ℕ) (t : Shape) (k : Key) → 1 ≤ θ → Halvings θ d t k
halvings θ zero t k h = record { local = refl; cost = omega arith }
halvings θ (suc d) t k h =
    let m = halvings θ d (split t k) k h in
    let o = halved θ t k h in
    record {
      local = m.local ∙ ap (bumps d θ) o.local;
      cost = rw (← o.local) (omega (arith, m.cost, o.cost));
    }

-- local depths do not depend on labels
pub locals_shape : {A : Type 0} (u : Trie A) (bs : List (Trie A)) (k : Key) → locals (shape u) (map shape bs) k ≡ locals u bs k
locals_shape u [] k = refl
locals_shape u (b ∷ bs) k = ap₂ (λ h hs. h ∷ hs) (ap₂ ◌-◌ (depth_shape u k) (depth_shape b k)) (locals_shape b bs k)
