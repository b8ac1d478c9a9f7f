-- What is promised of stores that stand for a tree, each as a type; proofs/Promises.antt proves them.
--   SetUpHolds       == a store just set up holds the tree of no record
--   HeadPasses       == a store that holds a set keeps the head rule
--   LevelsAtMost     == its levels are at most L
--   CountsAreTheTrees == its levels, and the nodes and pages in use, are those of the tree
--   RulesAbove h s k bs == the nodes of the levels bs, which stand above level k, keep the node rule
--   NodesPass, PagesPass == every node and every page of a represented store keeps its rule
--   AgreesPasses     == the page at a key agrees with it in the used bits
--   Neighbour s n m  == what enter looks at, of the node m behind the terminal n
--   NeighbourPasses  == the terminal's forward neighbour, if any, is another taken level-1 node that links back
--   path_steps W k u bs == the steps of a key through the levels bs over u, lowest first
--   DescentVisits    == the descent with a key visits the nodes at the key, with the bits used and the local depths of the tries
use Rattle.std.specs.Prelude.{◌≡◌, true, List, [], ◌∷◌, ◌++◌, ℕ, suc, ◌-◌, ◌^◌, ◌≤◌, ◌<◌, length, replicate}
use Rattle.lists.specs.Bits.{bits}
use Rattle.tree.specs.Trie.{Trie, shape, height, leaf_at, depth}
use Rattle.tree.specs.Tower.{levels, nodes}
use Rattle.tree.specs.Build.{build, pages}
use Rattle.tree.specs.Book.{level_bound}
use Rattle.store.specs.declared.Format.{Format}
use Rattle.store.specs.declared.Head.{Head}
use Rattle.store.specs.declared.Item.{Item}
use Rattle.store.specs.Format.{width}
use Rattle.store.specs.Head.{head_of, head_rule, nodes_in_use, pages_in_use, lawful_sizes, size, node_start, page_at}
use Rattle.node.specs.Node.{level_word, back_word, forward_word, node_rule, entry_number}
use Rattle.store.specs.SetUp.{set_up}
use Rattle.page.specs.Page.{page_rule, agrees}
use Rattle.search.specs.declared.Step.{Step}
use Rattle.search.specs.Descent.{no_step, descent}
use Rattle.represent.specs.Labelled.{Each, under}
use Rattle.page.specs.Schema.{key_of}
use Rattle.represent.specs.Rep.{Stretch, numbers, Rep, Holds}

abbrev pub SetUpHolds : Type 0
SetUpHolds =
    (f : Format) (θ C N P : ℕ) (s : List ℕ) → lawful_sizes θ C N P ≡ true → size f θ C N P ≤ length s → Holds f (set_up f θ C N P s).words []

abbrev pub HeadPasses : Type 0
HeadPasses = (f : Format) (s : List ℕ) (S : List Item) → Holds f s S → head_rule f s ≡ true

-- "levels is 1 to L"
abbrev pub LevelsAtMost : Type 0
LevelsAtMost =
    (f : Format) (s : List ℕ) (S : List Item) → Holds f s S
    → (head_of s).levels ≤ level_bound (width f) (head_of s).theta (head_of s).capacity

-- the counts in the head: levels, and the nodes and pages in use, which replies count
abbrev pub CountsAreTheTrees : Type 0
CountsAreTheTrees =
    (f : Format) (s : List ℕ) (S : List Item) → Holds f s S
    → ((head_of s).levels ≡ levels (head_of s).theta (shape (build key_of (head_of s).capacity (width f) S)))
    × (nodes_in_use s ≡ nodes (head_of s).theta (shape (build key_of (head_of s).capacity (width f) S)))
    × (pages_in_use s ≡ pages (build key_of (head_of s).capacity (width f) S))

-- the node rule at each node of the levels above k
abbrev pub RulesAbove : Head → List ℕ → ℕ → List (Trie ℕ) → Type 0
RulesAbove h s k [] = Unit {0}
RulesAbove h s k (b ∷ bs) = Each (λ n. node_rule h s (node_start h n) (suc k) ≡ true) b × RulesAbove h s (suc k) bs

abbrev pub NodesPass : Type 0
NodesPass = (f : Format) (s : List ℕ) (b0 : Trie Stretch) (bs : List (Trie ℕ)) → Rep f s b0 bs → RulesAbove (head_of s) s 0 bs

abbrev pub PagesPass : Type 0
PagesPass =
    (f : Format) (s : List ℕ) (b0 : Trie Stretch) (bs : List (Trie ℕ)) → Rep f s b0 bs
    → Each (λ x. (x.0 ≡ 0 → ⊥) → page_rule f (head_of s).capacity (page_at f s (head_of s) x.0) ≡ true) b0

abbrev pub AgreesPasses : Type 0
AgreesPasses =
    (f : Format) (s : List ℕ) (b0 : Trie Stretch) (bs : List (Trie ℕ)) (k : ℕ) → Rep f s b0 bs → k < 2 ^ width f
    → (leaf_at (numbers b0) (bits (width f) k) ≡ 0 → ⊥)
    → agrees f (page_at f s (head_of s) (leaf_at (numbers b0) (bits (width f) k))) k (depth b0 (bits (width f) k)) ≡ true

-- what enter looks at, of the node m behind the terminal n
pub record Neighbour (s : List ℕ) (n m : ℕ) : Type 0 where
  pub taken : m ≤ (head_of s).nodes_taken
  pub another : m ≡ n → ⊥
  pub level : level_word s (node_start (head_of s) m) ≡ 1
  pub back : back_word s (node_start (head_of s) m) ≡ n

abbrev pub NeighbourPasses : Type 0
NeighbourPasses =
    (f : Format) (s : List ℕ) (b0 : Trie Stretch) (b : Trie ℕ) (bs : List (Trie ℕ)) (k : ℕ) → Rep f s b0 (b ∷ bs)
    → (forward_word s (node_start (head_of s) (leaf_at b (bits (width f) k))) ≡ 0 → ⊥)
    → Neighbour s (leaf_at b (bits (width f) k)) (forward_word s (node_start (head_of s) (leaf_at b (bits (width f) k))))

-- "At a node the next H bits of the key, high bit first, number the entry. The entry's h bits, not H, are then used up."
abbrev pub path_steps : ℕ → ℕ → Trie ℕ → List (Trie ℕ) → List Step
path_steps W k u [] = []
path_steps W k u (b ∷ bs) =
    record {
      node = leaf_at b (bits W k);
      entry = entry_number W k (depth b (bits W k)) (height (under b u (bits W k)));
      depth = depth u (bits W k) - depth b (bits W k);
      used = depth b (bits W k);
    } ∷ path_steps W k b bs

abbrev pub DescentVisits : Type 0
DescentVisits =
    (f : Format) (s : List ℕ) (b0 : Trie Stretch) (bs : List (Trie ℕ)) (k : ℕ) → Rep f s b0 bs → k < 2 ^ width f
    → descent f s (head_of s) k
    ≡ record {
      ok = true;
      page = leaf_at (numbers b0) (bits (width f) k);
      used = depth b0 (bits (width f) k);
      steps = path_steps (width f) k (numbers b0) bs ++ replicate (32 - length bs) no_step;
    }
