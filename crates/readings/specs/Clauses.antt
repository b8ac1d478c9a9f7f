-- The report's definition of a balanced extendible hash tree (document 004, section 3.1), of a store's words, clause by clause.
--   start s n         == the first word of its block
--   run_of s n i       == the number of entries in the run of entry i of node n
--   Entry s n m       == an entry of node n points to m
--   passed f s k l    == the node of level l + 1 on the descent with the key k
--   terminal f s k    == the terminal node of the key k: the last node of its descent
--   NodeInUse s n     == n is a node in use: taken, and not released
--   Balanced f s k    == the descent with the key k passes one node a level, from the root down to level 1
--   Terminal f s n    == n is a node in use on level 1, and some key's terminal node
--   NotBefore n m ns  == m stands in the list ns at n or after it
--   InKeyOrder f s ns == the terminal nodes are ns, linked in this order, which is key order
--   PointsDown s n i  == entry i of node n points one level down
--   Clauses f s       == the five clauses
use Rattle.std.specs.Prelude.{◌≡◌, true, ◌⊎◌, ℕ, suc, ◌+◌, ◌-◌, ◌*◌, ◌%◌, ◌^◌, ◌≤◌, ◌<◌, get_or}
use mathlib.Core.List.{List, ◌∷◌, ◌++◌, Memᴰ}
use Rattle.lists.specs.Lists.{All}
use Rattle.store.specs.declared.Format.{Format}
use Rattle.store.specs.Format.{width}
use Rattle.store.specs.Head.{head_of, zeros, node_start, page_at, InUse}
use Rattle.store.specs.Released.{released_nodes}
use Rattle.node.specs.Node.{depth_word, level_word, back_word, forward_word, entry_depth, entry_pointer, entry_of}
use Rattle.page.specs.Page.{page_rule}
use Rattle.search.specs.Descent.{no_step, descent}
use Rattle.represent.specs.Labelled.{count, Linked}

-- n is a node in use: a taken one that is not released
pub record NodeInUse (s : List ℕ) (n : ℕ) : Type 0 where
  pub taken : InUse (head_of s) n
  pub kept : count n (released_nodes s) ≡ 0

module _ (s : List ℕ) where
  abbrev pub start : ℕ → ℕ
  start n = node_start (head_of s) n

  -- "a directory node or a data page at level l − 1"
  abbrev pub PointsDown : ℕ → ℕ → Type 0
  PointsDown n i =
      ((level_word s (start n) ≡ 1) × (entry_pointer s (start n) i ≤ (head_of s).pages_taken))
      ⊎ (NodeInUse s (entry_pointer s (start n) i) × (suc (level_word s (start (entry_pointer s (start n) i))) ≡ level_word s (start n)))

  -- how many entries the run of entry i has
  abbrev pub run_of : ℕ → ℕ → ℕ
  run_of n i = 2 ^ (depth_word s (start n) - entry_depth s (start n) i)

  -- an entry of node n points to m
  abbrev pub Entry : ℕ → ℕ → Type 0
  Entry n m = (i : ℕ) × (i < 2 ^ depth_word s (start n)) × (entry_pointer s (start n) i ≡ m)

abbrev pub NotBefore : ℕ → ℕ → List ℕ → Type 0
NotBefore n m ns = (left : List ℕ) × (right : List ℕ) × (ns ≡ left ++ (n ∷ right)) × Memᴰ m (n ∷ right)

module _ (f : Format) (s : List ℕ) where
  abbrev pub passed : ℕ → ℕ → ℕ
  passed k l = (get_or (descent f s (head_of s) k).steps l no_step).node

  abbrev pub terminal : ℕ → ℕ
  terminal k = passed k 0

  pub record Balanced (k : ℕ) : Type 0 where
    -- it begins at the root, whose level is the head's ..
    pub root : (l : ℕ) → suc l ≡ (head_of s).levels → passed k l ≡ (head_of s).root
    -- .. passes a node in use on each level down to level 1 ..
    pub nodes : (l : ℕ) → l < (head_of s).levels → NodeInUse s (passed k l) × (level_word s (start s (passed k l)) ≡ suc l)
    -- .. and goes from each of them to the next by an entry
    pub down : (l : ℕ) → suc l < (head_of s).levels → Entry s (passed k (suc l)) (passed k l)

  pub record Terminal (n : ℕ) : Type 0 where
    pub taken : NodeInUse s n
    pub level : level_word s (start s n) ≡ 1
    pub key : ℕ
    pub narrow : key < 2 ^ width f
    pub reached : terminal key ≡ n

  pub record InKeyOrder (ns : List ℕ) : Type 0 where
    pub terminals : All Terminal ns
    pub complete : (n : ℕ) → NodeInUse s n → level_word s (start s n) ≡ 1 → Memᴰ n ns
    pub linked : Linked (λ n. back_word s (start s n)) (λ n. forward_word s (start s n)) 0 ns
    pub ordered : (k k' : ℕ) → k ≤ k' → k' < 2 ^ width f → NotBefore (terminal k) (terminal k') ns

  pub record Clauses : Type 0 where
    -- 1. "all terminal nodes appear on the same level and are linked in key order."
    pub balanced : (k : ℕ) → k < 2 ^ width f → Balanced k
    pub one : (ns : List ℕ) × InKeyOrder ns
    -- 2. "every directory node D at level l is headed by a value D.H for 0 ≤ H ≤ θ and has k = 2^H entries."
    -- (No word after them is in use.)
    pub two : (n : ℕ) → NodeInUse s n
        → (depth_word s (start s n) ≤ (head_of s).theta)
        × (zeros s (start s n + 4 + 2 * 2 ^ depth_word s (start s n)) (2 * (2 ^ (head_of s).theta - 2 ^ depth_word s (start s n))) ≡ true)
    -- 3. "each entry D_i for 0 ≤ i ≤ 2^H − 1 consists of a pointer .. which points to a directory node or a data page at level l − 1, and a
    -- local depth D_i.h for 0 ≤ h ≤ H."
    pub three : (n i : ℕ) → NodeInUse s n → i < 2 ^ depth_word s (start s n)
        → PointsDown s n i × (entry_depth s (start s n) i ≤ depth_word s (start s n))
    -- 4. "if a node has a global depth H then for each entry with local depth h there are 2^(H−h) entries of the node with the same values
    -- of local depth and page pointers." Document 01: "read run by run: several runs of one node may be null with the same h." So these
    -- entries are the aligned run around the entry, and no entry outside it has the same pointer, unless that is null.
    pub four : (n i j : ℕ) → NodeInUse s n → i < 2 ^ depth_word s (start s n) → j < run_of s n i
        → entry_of s (start s n) (i - i % run_of s n i + j) ≡ entry_of s (start s n) i
    pub only : (n i j : ℕ) → NodeInUse s n → i < 2 ^ depth_word s (start s n) → j < 2 ^ depth_word s (start s n)
        → (entry_pointer s (start s n) i ≡ 0 → ⊥) → entry_pointer s (start s n) j ≡ entry_pointer s (start s n) i
        → (i - i % run_of s n i ≤ j) × (j < i - i % run_of s n i + run_of s n i)
    -- 5. "the terminal nodes of the directory, i.e., nodes at level l = 1, contain either data page pointers or are null."
    pub five : (n i : ℕ) → NodeInUse s n → level_word s (start s n) ≡ 1 → i < 2 ^ depth_word s (start s n)
        → (entry_pointer s (start s n) i ≡ 0)
        ⊎ ((1 ≤ entry_pointer s (start s n) i) × (entry_pointer s (start s n) i ≤ (head_of s).pages_taken)
        × (page_rule f (head_of s).capacity (page_at f s (head_of s) (entry_pointer s (start s n) i)) ≡ true))
