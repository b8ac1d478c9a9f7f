-- A plan as it is carried: numbers by value, and words in lent slices. Only the node blocks that change are carried, 132 words a level.
--   numbers == the nodes' numbers, the lowest level first; blocks == their words; items == the words of the page;
--   pages, nodes == the numbers of the blocks to be released, the first released first
--   block_in θ blocks l      == the words of the node of level l, counted from 0
--   spot_in θ numbers blocks l == that node
--   spots_from θ numbers blocks i n == the n nodes from level i on
--   LevelIs .. l x          == the node x of a plan is carried at level l, or stays as it is
--   Carried .. p            == what is carried is the plan p
--   Ready ..                == it is a plan that can be carried out on the words s
use Rattle.std.specs.Prelude.{◌≡◌, true, List, [], ◌∷◌, ℕ, zero, suc, ◌*◌, ◌≤◌, ◌<◌, length, get_or, take}
use Rattle.lists.specs.Lists.{part}
use Rattle.store.specs.declared.Format.{Format}
use Rattle.store.specs.declared.Head.{Head}
use Rattle.store.specs.Head.{word, node_words, Under}
use Rattle.represent.specs.Image.{page_image}
use Rattle.split.specs.Frame.{node_of}
use Rattle.remove.specs.Remove.{Spot, no_spot, Plan}
use Rattle.remove.specs.Doable.{Doable}
use Rattle.apply.specs.declared.Outline.{Outline}

unfoldable pub block_in : ℕ → List ℕ → ℕ → List ℕ
block_in θ blocks l = part blocks (132 * l) (node_words θ)

-- (the bits in use and the last number are of no use to the writes)
unfoldable pub spot_in : ℕ → List ℕ → List ℕ → ℕ → Spot
spot_in θ numbers blocks l = record { number = word numbers l; used = 0; last = 0; block = block_in θ blocks l }

unfoldable pub spots_from : ℕ → List ℕ → List ℕ → ℕ → ℕ → List Spot
spots_from θ numbers blocks i zero = []
spots_from θ numbers blocks i (suc n) = spot_in θ numbers blocks i ∷ spots_from θ numbers blocks (suc i) n

pub record LevelIs (s : List ℕ) (θ : ℕ) (changed : ℕ) (numbers blocks : List ℕ) (l : ℕ) (x : Spot) : Type 0 where
  pub number : x.number ≡ word numbers l
  pub carried : l < changed → x.block ≡ block_in θ blocks l
  pub stays : changed ≤ l → x.block ≡ node_of s x.number

module _ (f : Format) (s : List ℕ) (h : Head) (o : Outline) (items numbers blocks pages nodes : List ℕ) where
  pub record Carried (p : Plan) : Type 0 where
    pub page : o.page ≡ p.page
    pub image : (p.page ≡ 0 → ⊥) → items ≡ page_image f h.capacity p.items
    pub levels : o.levels ≡ length p.spots
    pub each : (l : ℕ) → l < length p.spots → LevelIs s h.theta o.changed numbers blocks l (get_or p.spots l no_spot)
    pub linked : o.linked ≡ p.linked
    pub pages_are : p.pages ≡ take o.pages pages
    pub nodes_are : p.nodes ≡ take o.nodes nodes

  pub record Ready : Type 0 where
    pub under : Under f s h
    -- the slices
    pub changed_in : o.changed ≤ o.levels
    pub some : 1 ≤ o.levels
    pub numbers_long : o.levels ≤ length numbers
    pub blocks_long : 132 * o.changed ≤ length blocks
    pub pages_long : o.pages ≤ length pages
    pub nodes_long : o.nodes ≤ length nodes
    pub few_pages : o.pages ≤ 4096
    pub few_nodes : o.nodes ≤ 4096
    -- where a level-1 node joined, its block is carried
    pub first : o.linked ≡ true → 1 ≤ o.changed
    -- a node that stays is none of those that change
    pub apart : (l j : ℕ) → o.changed ≤ l → l < o.levels → j < o.changed → word numbers l ≡ word numbers j → ⊥
    pub plan : Plan
    pub doable : Doable f s plan
    pub is : Carried plan
