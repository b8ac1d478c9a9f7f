-- One round on the directory of a store: the run at a key is halved, at every level that has to follow. It is written over operations on
-- node blocks and on stores, of which only their laws are known.
--   NodeOps            == operations on node blocks, by value
--   NodeLaws θ I       == what they make of the block of a node
--   StoreOps           == a store: its head, its node blocks, all else, and how to write them
--   Put, Headed, Taken == what writing a node block, writing the head, and taking a node block comes to
--   StoreLaws θ O      == that the operations come to this
--   Changed s s' more  == s' is s with so many nodes more taken, and the same outside its nodes
--   Rounded            == the same, and s' has a directory
--   Place               == a node on the way of a key, the bits of the key that are left there, and the local depth of its run
--   place_at u b k       == the step of the key k at the level b over u; path_of u bs k: at the levels bs over u, lowest first
--   next_node s, take_node s == the number of the node block that is taken next, and the store in which it is taken
--   raise s n          == another root, one level higher
--   put_both, relink    == two blocks written; a back link
--   grown, split_node, split_first, new_root == one level of a climb: the node has room; it splits; it splits at level 1; a root is put above
--   chosen k x y       == the one of x and y that the first bit of k chooses
--   Climbed            == a store, and the path of the key in it
--   deeper, in_half     == a place after a climb: its node had room; it split
--   climb θ k s path a c == the runs of a path halved, a and c the pointers of the lowest two halves, as far up as nodes split, and the
--     path
--                         of the key k after that
--   round θ k s path a c == the same from level 1
--   aim_at s p q        == the run at the place p points to q
--   carried θ ns u bs k == the levels bs over u after u's stretch at the key is halved, where the numbers ns are taken next
--   RoundCarries, AimKeeps == a round, and another pointer at the key, keep the directory
use Rattle.std.specs.Prelude.{◌≡◌, true, false, List, [], ◌∷◌, ℕ, suc, ◌-◌, ◌≤◌, ◌<◌, ltb, eqb, length, drop}
use Rattle.tree.specs.Trie.{Trie, leaf, fork, Key, height, leaf_at, depth, rest, graft, pair}
use Rattle.tree.specs.Carry.{locals, bump_cost}
use Rattle.node.specs.Node.{back_word, forward_word}
use Rattle.represent.specs.Labelled.{count, first, behind}
use Rattle.represent.specs.Image.{node_image, NodeIs}
use Rattle.represent.specs.Rep.{Directory}

-- A block is a list of words; a key is the bits that are left at the node.
pub record NodeOps : Type 0 where
  -- the run at the key halved, with two pointers
  pub grow : List ℕ → Key → ℕ → ℕ → List ℕ
  -- the two halves of a split node, in which the run at the key is halved
  pub lower : List ℕ → Key → ℕ → ℕ → List ℕ
  pub upper : List ℕ → Key → ℕ → ℕ → List ℕ
  -- another pointer at the key; other links
  pub aim : List ℕ → Key → ℕ → List ℕ
  pub linked : List ℕ → ℕ → ℕ → List ℕ
  -- a root at a level, with two pointers
  pub top : ℕ → ℕ → ℕ → List ℕ

module _ (θ : ℕ) (I : NodeOps) where
  pub record NodeLaws : Type 0 where
    -- "A run at h = H < θ first doubles the node."
    pub grow_is : (level back forward : ℕ) (v : Trie ℕ) (k : Key) (a c : ℕ) → height v ≤ θ → depth v k < θ
        → I.grow (node_image θ level back forward v) k a c ≡ node_image θ level back forward (graft v k (pair a c))
    -- "At h = H = θ the node first splits on its first bit: every h falls by one, .. both shrink H to their largest h"
    pub lower_is : (level back forward : ℕ) (v l r : Trie ℕ) (k : Key) (a c : ℕ) → height v ≤ θ → θ ≤ depth v k
        → graft v k (pair a c) ≡ fork l r
        → I.lower (node_image θ level back forward v) k a c ≡ node_image θ level back forward l
    pub upper_is : (level back forward : ℕ) (v l r : Trie ℕ) (k : Key) (a c : ℕ) → height v ≤ θ → θ ≤ depth v k
        → graft v k (pair a c) ≡ fork l r
        → I.upper (node_image θ level back forward v) k a c ≡ node_image θ level back forward r
    pub aim_is : (level back forward : ℕ) (v : Trie ℕ) (k : Key) (q : ℕ) → height v ≤ θ
        → I.aim (node_image θ level back forward v) k q ≡ node_image θ level back forward (graft v k (leaf q))
    pub linked_is : (level back forward p q : ℕ) (v : Trie ℕ) → height v ≤ θ
        → I.linked (node_image θ level back forward v) p q ≡ node_image θ level p q v
    -- "a new root with two entries of h = 1"
    pub top_is : (level a c : ℕ) → I.top level a c ≡ node_image θ level 0 0 (pair a c)

pub record StoreOps : Type 1 where
  pub S : Type 0
  pub Ok : S → Type 0
  -- the words of node block n; of the head: root, levels; the number of node blocks
  pub node : S → ℕ → List ℕ
  pub root : S → ℕ
  pub levels : S → ℕ
  pub cap : S → ℕ
  -- the numbers of the node blocks that may be taken, released and unused ones, in the order in which they are taken
  pub free : S → List ℕ
  -- all that is neither head nor node: the pages
  pub R : Type 0
  pub others : S → R
  pub put : S → ℕ → List ℕ → S
  -- another root and other levels
  pub head : S → ℕ → ℕ → S
  -- the number of the node block that is taken next, and the store in which it is taken
  pub next : S → ℕ
  pub take : S → S

module _ (O : StoreOps) where
  open O use {S, Ok, node, root, levels, free, cap, others, next}

  pub record Put (s s' : S) (n : ℕ) (ws : List ℕ) : Type 0 where
    pub ok : Ok s'
    pub here : node s' n ≡ ws
    pub elsewhere : (x : ℕ) → 1 ≤ x → x ≤ cap s → (x ≡ n → ⊥) → node s' x ≡ node s x
    pub root_same : root s' ≡ root s
    pub levels_same : levels s' ≡ levels s
    pub free_same : free s' ≡ free s
    pub cap_same : cap s' ≡ cap s
    pub others_same : others s' ≡ others s

  pub record Headed (s s' : S) (r l : ℕ) : Type 0 where
    pub ok : Ok s'
    pub root_is : root s' ≡ r
    pub levels_is : levels s' ≡ l
    pub free_same : free s' ≡ free s
    pub nodes_same : (x : ℕ) → 1 ≤ x → x ≤ cap s → node s' x ≡ node s x
    pub cap_same : cap s' ≡ cap s
    pub others_same : others s' ≡ others s

  -- the first of the numbers to come is taken
  pub record Taken (s s' : S) : Type 0 where
    pub ok : Ok s'
    pub first_is : free s ≡ next s ∷ free s'
    pub root_same : root s' ≡ root s
    pub levels_same : levels s' ≡ levels s
    pub nodes_same : (x : ℕ) → 1 ≤ x → x ≤ cap s → node s' x ≡ node s x
    pub cap_same : cap s' ≡ cap s
    pub others_same : others s' ≡ others s

  pub record Changed (s s' : S) (more : ℕ) : Type 0 where
    pub ok : Ok s'
    pub now : free s' ≡ drop more (free s)
    pub cap_same : cap s' ≡ cap s
    pub others_same : others s' ≡ others s
    pub fresh : (x : ℕ) → 1 ≤ x → x ≤ cap s → 1 ≤ count x (free s') → node s' x ≡ node s x

module _ (θ : ℕ) (O : StoreOps) where
  open O use {S, Ok, node, root, levels, free, cap, put, head, take}

  pub record StoreLaws : Type 0 where
    -- (a block that may be taken tells which one is taken after it: another one is written)
    pub put_is : (s : S) (n : ℕ) (ws : List ℕ) (level : ℕ) (v : Trie ℕ) → Ok s → 1 ≤ n → n ≤ cap s → count n (free s) ≡ 0
        → count 0 (free s) ≡ 0 → NodeIs θ ws level v → Put O s (put s n ws) n ws
    pub head_is : (s : S) (r l : ℕ) → Ok s → Headed O s (head s r l) r l
    pub take_is : (s : S) → Ok s → 1 ≤ length (free s) → Taken O s (take s)

  pub record Rounded (s s' : S) (more : ℕ) (u : Trie ℕ) (bs : List (Trie ℕ)) : Type 0 where
    pub directory : Directory θ (node s') (root s') (levels s') (cap s') (λ n. count n (free s')) u bs
    pub changed : Changed O s s' more

pub record Place : Type 0 where
  pub at : ℕ
  pub bits : Key
  pub depth : ℕ

abbrev pub place_at : Trie ℕ → Trie ℕ → Key → Place
place_at u b k = record { at = leaf_at b k; bits = rest b k; depth = depth u k - depth b k }

abbrev pub path_of : Trie ℕ → List (Trie ℕ) → Key → List Place
path_of u [] k = []
path_of u (b ∷ bs) k = place_at u b k ∷ path_of b bs k

-- the label at the bits in a fork of two leaves
abbrev pub chosen : Key → ℕ → ℕ → ℕ
chosen k x y = leaf_at (pair x y) k

-- what a climb leaves of a place whose node had room: one bit more
abbrev pub deeper : Place → Place
deeper p = record { at = p.at; bits = p.bits; depth = suc p.depth }

-- of one whose node split, in which the right half is m: the half that the key is in takes up the node's first bit, and the run is at θ
-- again
abbrev pub in_half : ℕ → Place → ℕ → Place
in_half θ p m = record { at = chosen p.bits p.at m; bits = drop 1 p.bits; depth = θ }

module _ (O : StoreOps) where
  open O use {S, levels, put, head, next, take}

  -- Taking a node block is one operation, done before the block is written: its number, and the store in which it is taken. "New blocks
  -- get the next unused number"; M-106: "Enter takes the last released block before an unused one."
  abbrev pub next_node : S → ℕ
  next_node s = next s

  abbrev pub take_node : S → S
  take_node s = take s

  -- a root at the number n, one level higher
  abbrev pub raise : S → ℕ → S
  raise s n = head s n (suc (levels s))

  -- two blocks, "written whole"
  unfoldable pub put_both : S → ℕ → List ℕ → ℕ → List ℕ → S
  put_both s n ws m ws' = put (put s n ws) m ws'

pub record Climbed (S : Type 0) : Type 0 where
  pub store : S
  pub path : List Place

module _ (I : NodeOps) (O : StoreOps) where
  open I use {grow, lower, upper, aim, linked, top}
  open O use {S, node, levels, put}

  unfoldable pub grown : S → Place → ℕ → ℕ → S
  grown s p a c = put s p.at (grow (node s p.at) p.bits a c)

  -- "the left half keeps its number, the right takes a new node"
  unfoldable pub split_node : S → Place → ℕ → ℕ → S
  split_node s p a c =
      put_both O (take_node O s) p.at (lower (node s p.at) p.bits a c) (next_node O s) (upper (node s p.at) p.bits a c)

  -- the node q, if there is one, is linked back to m
  unfoldable pub relink : S → ℕ → ℕ → S
  relink s q m = elim (eqb q 0) [ true ↦ s | false ↦ put s q (linked (node s q) m (forward_word (node s q) 0)) ]

  -- "Level-1 nodes are linked both ways in key order": the right half stands between the left one and the node that was behind it
  unfoldable pub split_first : S → Place → ℕ → ℕ → S
  split_first s p a c =
      let ws : List ℕ = node s p.at in
      relink
      (put_both O (take_node O s) p.at (linked (lower ws p.bits a c) (back_word ws 0) (next_node O s))
      (next_node O s) (linked (upper ws p.bits a c) p.at (forward_word ws 0)))
      (forward_word ws 0)
      (next_node O s)

  -- "A split root gets a new root with two entries of h = 1."
  unfoldable pub new_root : S → ℕ → ℕ → S
  new_root s a c = raise O (put (take_node O s) (next_node O s) (top (suc (levels s)) a c)) (next_node O s)

  -- "the parent's run is halved by the same rule", "in a climb, lower levels take first"
  -- (whether a run has room is said by the path: nothing is read again that the descent has read)
  unfoldable pub climb : ℕ → Key → S → List Place → ℕ → ℕ → Climbed S
  climb θ k s [] a c = record { store = new_root s a c; path = record { at = next_node O s; bits = k; depth = 1 } ∷ [] }
  climb θ k s (p ∷ path) a c =
      elim (ltb p.depth θ) [
        | true ↦ record { store = grown s p a c; path = deeper p ∷ path }
        | false ↦
            let r : Climbed S = climb θ k (split_node s p a c) path p.at (next_node O s) in
            record { store = r.store; path = in_half θ p (next_node O s) ∷ r.path }
      ]

  unfoldable pub round : ℕ → Key → S → List Place → ℕ → ℕ → Climbed S
  round θ k s [] a c = record { store = s; path = [] }
  round θ k s (p ∷ path) a c =
      elim (ltb p.depth θ) [
        | true ↦ record { store = grown s p a c; path = deeper p ∷ path }
        | false ↦
            let r : Climbed S = climb θ k (split_first s p a c) path p.at (next_node O s) in
            record { store = r.store; path = in_half θ p (next_node O s) ∷ r.path }
      ]

  unfoldable pub aim_at : S → Place → ℕ → S
  aim_at s p q = put s p.at (aim (node s p.at) p.bits q)

-- `carry` of crate tree, with the nodes' numbers
unfoldable pub carried : ℕ → List ℕ → Trie ℕ → List (Trie ℕ) → Key → List (Trie ℕ)
carried θ ns u [] k = leaf (first ns) ∷ []
carried θ ns u (b ∷ bs) k =
    elim (ltb (depth u k - depth b k) θ) [
      | true ↦ b ∷ bs
      | false ↦ graft b k (pair (leaf_at b k) (first ns)) ∷ carried θ (behind ns) b bs k
    ]

module _ (θ : ℕ) (I : NodeOps) (O : StoreOps) where
  open O use {S, Ok, node, root, levels, free, cap}

  -- "At a full page: halve it on the next bit": the stretch at the key becomes two, with the pointers a and c. Blocks not taken stay. The
  -- path that is handed back is the key's in the new directory.
  abbrev pub RoundCarries : Type 0
  RoundCarries =
      NodeLaws θ I → StoreLaws θ O → 1 ≤ θ
      → (s : S) (u : Trie ℕ) (bs : List (Trie ℕ)) (key : Key) (a c : ℕ)
      → Ok s → Directory θ (node s) (root s) (levels s) (cap s) (λ n. count n (free s)) u bs
      → bump_cost θ (locals u bs key) ≤ length (free s)
      → Rounded θ O s (round I O θ key s (path_of u bs key) a c).store (bump_cost θ (locals u bs key)) (graft u key (pair a c))
      (carried θ (free s) u bs key)
      × ((round I O θ key s (path_of u bs key) a c).path ≡ path_of (graft u key (pair a c)) (carried θ (free s) u bs key) key)

  -- "Enter, at a null entry: take a page for the whole run."
  abbrev pub AimKeeps : Type 0
  AimKeeps =
      NodeLaws θ I → StoreLaws θ O
      → (s : S) (u b : Trie ℕ) (bs : List (Trie ℕ)) (key : Key) (q : ℕ)
      → Ok s → Directory θ (node s) (root s) (levels s) (cap s) (λ n. count n (free s)) u (b ∷ bs)
      → Rounded θ O s (aim_at I O s (place_at u b key) q) 0 (graft u key (leaf q)) (b ∷ bs)
