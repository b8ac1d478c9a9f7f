-- A path down which the descent with a key goes, in any words: each of its places is at a node block that is the image of a trie, with
-- pointers and links in range for its level, and the trie's leaf at the bits that are left there points to the place below.
--   Enters s l x    == x is what a node of level l + 1 may point to: a page in use or null, or a node in use
--   LinksIn s l b g == b and g are links that such a node may have
--   More s t        == t is s with as many blocks in use or more
--   half_of b lo up  == the half of a node split into lo and up for keys whose next bit is b
--   Stands s l n ks d used next == node n is that of level l + 1, so many bits are used before it, ks are those left there; the run at ks
--     has the local depth d and points to next
--   Sound s l path next == the path stands so in s from level l + 1 up to the root, and leads to the block next
use mathlib.Core.Path.{◌≡◌, sym, ap, ◌∙◌, subst}
use mathlib.Core.Bool.{Bool, true, false}
use mathlib.Core.List.{List, [], ◌∷◌}
use Prim.Native.Nat.{ℕ, zero, suc, ◌+◌, ◌-◌, ◌≤◌}
use native.Mathlib.Omega.{arith}
use native.Mathlib.Decide.{dec_le}
use lib.ListN.{length}
use Rattle.lists.specs.Bits.{bits}
use Rattle.lists.specs.Lists.{All}
use Rattle.tree.specs.Trie.{Trie, fork, Key, height, leaf_at, depth, rest, graft, pair}
use Rattle.tree.proofs.TrieLaws.{depth_le_height, depth_split, leaf_at_graft, rest_bits}
use Rattle.store.specs.declared.Format.{Format}
use Rattle.store.specs.Format.{width}
use Rattle.store.specs.Head.{head_of}
use Rattle.node.specs.Node.{back_word, forward_word}
use Rattle.represent.specs.Image.{NodeIs}
use Rattle.represent.specs.Labelled.{occ}
use Rattle.represent.proofs.LabelLaws.{occ_graft, each_label}
use Rattle.split.specs.Frame.{node_of}
use Rattle.split.specs.Round.{Place, chosen}
use Rattle.insert.specs.Fine.{Among, depths, sum}

abbrev pub Enters : List ℕ → ℕ → ℕ → Type 0
Enters s zero x = x ≤ (head_of s).pages_taken
Enters s (suc l) x = (1 ≤ x) × (x ≤ (head_of s).nodes_taken)

abbrev pub LinksIn : List ℕ → ℕ → ℕ → ℕ → Type 0
LinksIn s zero b g = (b ≤ (head_of s).nodes_taken) × (g ≤ (head_of s).nodes_taken)
LinksIn s (suc l) b g = (b ≡ 0) × (g ≡ 0)

-- with more blocks in use
pub record More (s t : List ℕ) : Type 0 where
  pub nodes : (head_of s).nodes_taken ≤ (head_of t).nodes_taken
  pub pages : (head_of s).pages_taken ≤ (head_of t).pages_taken

pub enters_more : (s t : List ℕ) (l x : ℕ) → More s t → Enters s l x → Enters t l x
enters_more s t zero x m e = omega (arith, m.pages)
enters_more s t (suc l) x m e = (e.0, omega (arith, e.1, m.nodes))

pub links_more : (s t : List ℕ) (l b g : ℕ) → More s t → LinksIn s l b g → LinksIn t l b g
links_more s t zero b g m e = (omega (arith, e.0, m.nodes), omega (arith, e.1, m.nodes))
links_more s t (suc l) b g m e = e

-- the half of a split node that the key is in
abbrev pub half_of : Bool → Trie ℕ → Trie ℕ → Trie ℕ
half_of b lo up = elim b [ true ↦ up | false ↦ lo ]

pub half_here : (P : ℕ → Trie ℕ → Type 0) (b : Bool) (k : Key) (n m : ℕ) (lo up : Trie ℕ) → P n lo → P m up
    → P (chosen (b ∷ k) n m) (half_of b lo up)
half_here P true k n m lo up p q = q
half_here P false k n m lo up p q = p

module _ (v lo up : Trie ℕ) where
  pub half_depth_lem : (b : Bool) (k : Key) (a c : ℕ) → graft v (b ∷ k) (pair a c) ≡ fork lo up → depth (half_of b lo up) k ≡ depth v (b ∷ k)
  half_depth_lem true k a c e = omega (arith, ap (λ (t : Trie ℕ). depth t (true ∷ k)) e, depth_split v (true ∷ k) a c)
  half_depth_lem false k a c e = omega (arith, ap (λ (t : Trie ℕ). depth t (false ∷ k)) e, depth_split v (false ∷ k) a c)

  pub half_leaf : (b : Bool) (k : Key) (a c : ℕ) → graft v (b ∷ k) (pair a c) ≡ fork lo up
      → leaf_at (half_of b lo up) k ≡ chosen (rest v (b ∷ k)) a c
  half_leaf true k a c e = sym (ap (λ (t : Trie ℕ). leaf_at t (true ∷ k)) e) ∙ leaf_at_graft v (true ∷ k) (pair a c)
  half_leaf false k a c e = sym (ap (λ (t : Trie ℕ). leaf_at t (false ∷ k)) e) ∙ leaf_at_graft v (false ∷ k) (pair a c)

  pub half_height : (b : Bool) (t : Trie ℕ) → t ≡ fork lo up → suc (height (half_of b lo up)) ≤ height t
  half_height true t e = omega (arith, ap height e)
  half_height false t e = omega (arith, ap height e)

  pub half_occ : (b : Bool) (t : Trie ℕ) → t ≡ fork lo up → (x : ℕ) → occ x (half_of b lo up) ≤ occ x t
  half_occ true t e x = omega (arith, ap (occ x) e)
  half_occ false t e x = omega (arith, ap (occ x) e)

-- a label after a graft is an old one or one of the graft's
pub graft_labels : (P : ℕ → Type 0) (v : Trie ℕ) (k : Key) (c : Trie ℕ) → ((x : ℕ) → 1 ≤ occ x v → P x) → ((x : ℕ) → 1 ≤ occ x c → P x)
    → (x : ℕ) → 1 ≤ occ x (graft v k c) → P x
graft_labels P v k c p q x o =
    elim (dec_le 1 (occ x v)) [
      | yes h ↦ p x h
      | no h ↦ q x (omega (arith, occ_graft x v k c))
    ]

pub pair_labels : (P : ℕ → Type 0) (a c : ℕ) → P a → P c → (x : ℕ) → 1 ≤ occ x (pair a c) → P x
pair_labels P a c p q x o = each_label P (pair a c) x (p, q) o

module _ (f : Format) (θ key : ℕ) where
  pub record Stands (s : List ℕ) (l n : ℕ) (ks : Key) (d used next : ℕ) : Type 0 where
    pub trie : Trie ℕ
    pub within : (1 ≤ n) × (n ≤ (head_of s).nodes_taken)
    pub is : NodeIs θ (node_of s n) (suc l) trie
    pub points : (x : ℕ) → 1 ≤ occ x trie → Enters s l x
    pub links : LinksIn s l (back_word (node_of s n) 0) (forward_word (node_of s n) 0)
    pub bits_are : ks ≡ bits (width f - used) key
    pub room : used + height trie ≤ width f
    pub depth_is : depth trie ks ≡ d
    pub next_is : leaf_at trie ks ≡ next

  abbrev pub Sound : List ℕ → ℕ → List Place → ℕ → Type 0
  Sound s l [] next = ((head_of s).root ≡ next) × ((head_of s).levels ≡ l)
  Sound s l (p ∷ path) next = Stands s l p.at p.bits p.depth (sum (depths path)) next × Sound s (suc l) path p.at

  -- in words in which its nodes stay
  pub stands_moved : (s t : List ℕ) (l n : ℕ) (ks : Key) (d used next : ℕ) → More s t → node_of t n ≡ node_of s n
      → Stands s l n ks d used next → Stands t l n ks d used next
  stands_moved s t l n ks d used next m e y =
      record {
        trie = y.trie;
        within = (y.within.0, omega (arith, y.within.1, m.nodes));
        is = subst (λ ws. NodeIs θ ws (suc l) y.trie) (sym e) y.is;
        points = λ x o. enters_more s t l x m (y.points x o);
        links = subst (λ ws. LinksIn t l (back_word ws 0) (forward_word ws 0)) (sym e) (links_more s t l _ _ m y.links);
        bits_are = y.bits_are;
        room = y.room;
        depth_is = y.depth_is;
        next_is = y.next_is;
      }

  pub sound_moved : (s t : List ℕ) (l : ℕ) (path : List Place) (next : ℕ) → More s t → (head_of t).root ≡ (head_of s).root
      → (head_of t).levels ≡ (head_of s).levels → All (λ p. node_of t p.at ≡ node_of s p.at) path → Sound s l path next
      → Sound t l path next
  sound_moved s t l [] next m r g same y = (r ∙ y.0, g ∙ y.1)
  sound_moved s t l (p ∷ path) next m r g same y = (
    stands_moved s t l p.at p.bits p.depth (sum (depths path)) next m same.0 y.0,
    sound_moved s t (suc l) path p.at m r g same.1 y.1,
  )

  pub sound_among : (s : List ℕ) (l : ℕ) (path : List Place) (next : ℕ) → Sound s l path next → Among (head_of s).nodes_taken path
  sound_among s l [] next y = tt
  sound_among s l (p ∷ path) next y = (y.0.within, sound_among s (suc l) path p.at y.1)

  -- the levels are those of the path, and the root is its last node
  pub sound_levels : (s : List ℕ) (l : ℕ) (path : List Place) (next : ℕ) → Sound s l path next → (head_of s).levels ≡ l + length path
  sound_levels s l [] next y = omega (arith, y.1)
  sound_levels s l (p ∷ path) next y = omega (arith, sound_levels s (suc l) path p.at y.1)

  pub sound_root : (s : List ℕ) (l : ℕ) (path : List Place) (next : ℕ) → Sound s l path next
      → (1 ≤ next) × (next ≤ (head_of s).nodes_taken) → (1 ≤ (head_of s).root) × ((head_of s).root ≤ (head_of s).nodes_taken)
  sound_root s l [] next y w = (omega (arith, y.0, w.0), omega (arith, y.0, w.1))
  sound_root s l (p ∷ path) next y w = sound_root s (suc l) path p.at y.1 y.0.within

  module _ {s : List ℕ} {l n : ℕ} {ks : Key} {d used next : ℕ} (y : Stands s l n ks d used next) where
    pub stands_deep : d ≤ θ
    stands_deep = omega (arith, y.depth_is, depth_le_height y.trie ks, y.is.low)

    pub stands_within : used + d ≤ width f
    stands_within = omega (arith, y.depth_is, depth_le_height y.trie ks, y.room)

    -- the bits left behind the run
    pub stands_rest : rest y.trie ks ≡ bits (width f - (d + used)) key
    stands_rest =
        let k : Key = bits (width f - used) key in
        let e : depth y.trie k ≡ d = ap (depth y.trie) (sym y.bits_are) ∙ y.depth_is in
        let g : width f - used - depth y.trie k ≡ width f - (d + used) = omega arith in
        ap (rest y.trie) y.bits_are
        ∙ rest_bits y.trie (width f - used) key (omega (arith, e, stands_within))
        ∙ ap (λ w. bits w key) g
