-- A root above: a node taken, its block written, and the head's two words.
--   some        == the first number of those to come
--   root_done   == the words after it
--   root_needs  == what is asked before
--   root_levels, root_root == its head's levels and root
use mathlib.Core.Path.{◌≡◌, refl, sym, ap, ap₂, ◌∙◌, subst, subst₂}
use mathlib.Core.List.{List, [], ◌∷◌}
use Rattle.tree.specs.Carry.{bump_cost}
use Rattle.insert.specs.Fine.{Climbable, Supply}
use Prim.Native.Nat.{ℕ, suc, ◌+◌, ◌≤◌}
use native.Mathlib.Omega.{arith}
use lib.ListN.{length}
use Rattle.lists.specs.Lists.{replaced}
use Rattle.store.proofs.HeadLaws.{sizes_limits}
use Rattle.store.proofs.Places.{node_fits}
use Rattle.store.specs.declared.Format.{Format}
use Rattle.store.specs.declared.Head.{Head}
use Rattle.store.specs.Head.{head_of, node_words, node_start}
use Rattle.store.specs.Released.{next_node, node_taken}
use Rattle.represent.specs.Rep.{Sized}
use Rattle.split.specs.Frame.{put_node, put_head}
use Rattle.split.specs.Round.{new_root, take_node}
use Rattle.split.specs.Insertion.{word_store}
use Rattle.split.specs.Block.{top, node_ops}
use Rattle.split.proofs.Frame.{sized_long, node_taken_levels, put_head_root, put_head_levels}
use Rattle.insert.proofs.Supplies.{supply_next}
use Rattle.insert.proofs.InsideWrites.{node_head, kept_node, kept₀, length_top}

pub record Some (l : List ℕ) : Type 0 where
  pub n : ℕ
  pub ns : List ℕ
  pub is : l ≡ n ∷ ns

pub some : (l : List ℕ) → 1 ≤ length l → Some l
some [] h = absurd (omega arith)
some (n ∷ ns) h = record { n = n; ns = ns; is = refl }

-- the next node, where some are to come
pub next_room : (f : Format) (s ns : List ℕ) → Sized f s → Supply s ns → 1 ≤ length ns
    → (1 ≤ next_node s) × (next_node s ≤ (head_of s).node_blocks)
next_room f s ns ok y h =
    let c = some ns h in
    let q = supply_next f s c.n c.ns ok (subst (Supply s) c.is y) in
    (omega (arith, q.is, q.low), omega (arith, q.is, q.high))

-- there is a node for a root
pub room_left : (f : Format) (s : List ℕ) → Climbable f s [] → (h : Head) → h ≡ head_of s
    → (1 ≤ next_node s) × (next_node s ≤ (head_of s).node_blocks) × (next_node s ≤ h.node_blocks)
unfolding bump_cost
room_left f s y h e =
    let q = next_room f s y.numbers y.sized y.supply (omega (arith, y.enough)) in
    (q.0, q.1, subst (λ x. next_node s ≤ x.node_blocks) (sym e) q.1)

-- a root above
module _ (f : Format) (s : List ℕ) (a c : ℕ) (ok : Sized f s) (low : 1 ≤ next_node s) (high : next_node s ≤ (head_of s).node_blocks) where
  abbrev θ : ℕ
  θ = (head_of s).theta

  abbrev t₀ : List ℕ
  t₀ = take_node (word_store f θ) s

  abbrev m : ℕ
  m = next_node s

  abbrev l : ℕ
  l = suc (head_of s).levels

  abbrev t₁ : List ℕ
  t₁ = put_node t₀ m (top θ l a c)

  head₁ : head_of t₁ ≡ head_of t₀
  head₁ =
      node_head f t₀ m (top θ l a c) (kept₀ f θ s ok).sized low (omega (arith, (kept₀ f θ s ok).sizes_same.nodes))
      (length_top θ l a c ∙ ap node_words (sym (kept₀ f θ s ok).sizes_same.theta))

  levels₁ : (head_of t₁).levels ≡ (head_of s).levels
  levels₁ = ap (λ (h : Head). h.levels) head₁ ∙ node_taken_levels s

  root_put : put_head t₁ m l ≡ new_root (node_ops θ) (word_store f θ) s a c
  unfolding new_root
  root_put = ap (λ i. put_head t₁ m (suc i)) (sym levels₁)

  long₁ : 8 ≤ length t₁
  long₁ = omega (arith, sized_long f t₁ (root_sized))
    where
      root_sized : Sized f t₁
      root_sized =
          (kept_node f t₀ m (top θ l a c) (kept₀ f θ s ok).sized low (omega (arith, (kept₀ f θ s ok).sizes_same.nodes))
          (length_top θ l a c ∙ ap node_words (sym (kept₀ f θ s ok).sizes_same.theta))).sized

  pub root_levels : (head_of (new_root (node_ops θ) (word_store f θ) s a c)).levels ≡ l
  unfolding new_root
  root_levels = put_head_levels t₁ m (suc (head_of t₁).levels) long₁ ∙ ap suc levels₁

  pub root_root : (head_of (new_root (node_ops θ) (word_store f θ) s a c)).root ≡ m
  unfolding new_root
  root_root = put_head_root t₁ m (suc (head_of t₁).levels) long₁

  -- as the code writes it
  abbrev RootDone : Head → List ℕ → Head → ℕ → List ℕ → Type 0
  RootDone h t h₀ n u =
      t ≡ node_taken s → h₀ ≡ head_of t → n ≡ next_node s
      → u ≡ replaced (node_start h₀ n) (node_words h₀.theta) (top h₀.theta (h.levels + 1) a c) t
      → put_head u n (h.levels + 1) ≡ new_root (node_ops h.theta) (word_store f h.theta) s a c

  root_plain : (t : List ℕ) (h₀ : Head) (n : ℕ) (u : List ℕ) → RootDone (head_of s) t h₀ n u
  unfolding put_node
  root_plain t h₀ n u e g k w =
      let own : h₀ ≡ head_of t₀ = g ∙ ap head_of e in
      let up : (head_of s).levels + 1 ≡ l = omega arith in
      let is : u ≡ t₁ =
      w ∙ ap₂ (λ (h : Head) i. replaced (node_start h n) (node_words h.theta) (top h.theta i a c) t) own up
      ∙ ap₂ (λ i x. replaced (node_start (head_of t₀) i) (node_words (head_of t₀).theta) (top x l a c) t) k
      (kept₀ f θ s ok).sizes_same.theta
      ∙ ap (λ v. replaced (node_start (head_of t₀) m) (node_words (head_of t₀).theta) (top θ l a c) v) e in
      ap₂ (λ v i. put_head v i ((head_of s).levels + 1)) is k ∙ ap (put_head t₁ m) up ∙ root_put

  pub root_done : (h : Head) (t : List ℕ) (h₀ : Head) (n : ℕ) (u : List ℕ) → h ≡ head_of s → RootDone h t h₀ n u
  root_done h t h₀ n u e = subst (λ x. RootDone x t h₀ n u) (sym e) (root_plain t h₀ n u)

  -- what is asked before its block is written
  abbrev RootNeeds : ℕ → List ℕ → Head → Type 0
  RootNeeds n t h = (1 ≤ h.theta) × (h.theta ≤ 6) × (node_start h n + node_words h.theta ≤ length t)

  needs_own : RootNeeds m t₀ (head_of t₀)
  needs_own =
      let k = kept₀ f θ s ok in
      let limits = sizes_limits _ _ _ _ ok.sizes in (
        omega (arith, limits.theta_low, k.sizes_same.theta),
        omega (arith, limits.theta, k.sizes_same.theta),
        node_fits (head_of t₀) f m (length t₀) low (omega (arith, high, k.sizes_same.nodes)) k.sized.long,
      )

  pub root_needs : (t : List ℕ) (h₀ : Head) (n : ℕ) → t ≡ node_taken s → h₀ ≡ head_of t → n ≡ next_node s → RootNeeds n t h₀
  root_needs t h₀ n g i k =
      subst (λ x. RootNeeds x t h₀) (sym k) (subst₂ (RootNeeds m) (sym g) (sym (i ∙ ap head_of g)) needs_own)
