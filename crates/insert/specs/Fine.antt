-- What is known of a way before each round and before the put, on damaged words too.
--   depths path     == the local depths on a path; sum hs: the numbers hs together
--   Off x path      == x is the number of no node of the path
--   Among m path    == the path's nodes have numbers from 1 to m
--   Led s path      == they are taken ones of the words s, the first is none of the others, and the node behind it is a taken one
--   behind_in s path == the number of the node behind the first one of the path; 0 for none
--   Held θ s path   == each place of the path is at a node that the arrays of a node can hold, with the local depth that the path says
--   Apart path      == no two places of the path are at one node
--   Slack n path    == at each place, n bits of the key are left behind those of its run
--   climbed, rounded f s k path a c == a climb, and a round, on the words s
--   Coming next taken cap many name ns == the blocks ns are taken next, in this order: `many` are released, the last one is `name`, and of
--     `cap` blocks `taken` are taken
--   Supply s ns     == the node blocks ns may be taken next, in this order, and none twice
--   PageSupply f s ps == so may the page blocks ps
--   Clear ns path   == no node of the path is one of the numbers ns
--   Ready f s p     == the node at the place p may be written
--   Climbable f s path == the nodes of the path may be written, and there are node blocks for it
--   Carries s h ts  == h is the head of the words s, and ts are 32 steps, of which its levels use some
--   Partable f s p b == page p may be halved on bit b
--   Accepted f s it h == the record it passed the tests 3, 6, 9 and 8, and h is the head
--   Placing f s h e it d == the record it may be put at the end e of the way d; Placeable f s h e it: of some way
--   Putting f s at C it h e d == it may be put into its page, of C records, whose words begin at `at`; Puttable f s at C it: for some way
--   Fine f θ C k d w == d rounds of a way w stay inside its words and make room for the key k
use Rattle.std.specs.Prelude.{◌≡◌, true, false, List, [], ◌∷◌, map, ℕ, zero, suc, ◌+◌, ◌-◌, ◌/◌, ◌^◌, ◌≤◌, ◌<◌, length, get_or}
use Rattle.lists.specs.Bits.{bits}
use Rattle.lists.specs.Lists.{All, Pairwise}
use Rattle.lists.specs.Keyed.{Sorted, Lacks, Prefix, contains}
use Rattle.tree.specs.Build.{pages_at}
use Rattle.tree.specs.Carry.{bump_cost, bump_costs}
use Rattle.store.specs.declared.Format.{Format}
use Rattle.store.specs.declared.Head.{Head}
use Rattle.store.specs.declared.Item.{Item}
use Rattle.search.specs.declared.Step.{Step}
use Rattle.search.specs.Way.{Descent}
use Rattle.search.specs.Way.{End}
use Rattle.store.specs.Format.{width}
use Rattle.store.specs.Head.{head_of, head_rule, released_of, InUse, page_start}
use Rattle.store.specs.Released.{node_next, page_next}
use Rattle.node.specs.Node.{forward_word}
use Rattle.search.specs.Descent.{descent, end_of}
use Rattle.represent.specs.Labelled.{count}
use Rattle.page.specs.Page.{lawful_item}
use Rattle.page.specs.Schema.{key_of}
use Rattle.represent.specs.Image.{page_image}
use Rattle.represent.specs.Rep.{Sized}
use Rattle.split.specs.Frame.{node_of, page_of}
use Rattle.split.specs.Round.{Place, Climbed, climb, round}
use Rattle.split.specs.Insertion.{word_store}
use Rattle.split.specs.Block.{node_ops}
use Rattle.split.specs.Value.{Holder}
use Rattle.insert.specs.Enter.{Way, no_place, items_in, own_items, rounds_for, way_of, undamaged}

abbrev pub depths : List Place → List ℕ
depths = map (λ p. p.depth)

abbrev pub sum : List ℕ → ℕ
sum [] = 0
sum (h ∷ hs) = h + sum hs

abbrev pub Off : ℕ → List Place → Type 0
Off x = All (λ p. p.at ≡ x → ⊥)

abbrev pub Among : ℕ → List Place → Type 0
Among m = All (λ p. (1 ≤ p.at) × (p.at ≤ m))

abbrev pub Led : List ℕ → List Place → Type 0
Led s [] = ⊥
Led s (p ∷ path) =
    (1 ≤ p.at) × (p.at ≤ (head_of s).nodes_taken) × Among (head_of s).nodes_taken path × Off p.at path
    × (forward_word (node_of s p.at) 0 ≤ (head_of s).nodes_taken)

-- the number of the node behind the first one of the path; 0 for none
abbrev pub behind_in : List ℕ → List Place → ℕ
behind_in s path = forward_word (node_of s (get_or path 0 no_place).at) 0

abbrev pub Held : ℕ → List ℕ → List Place → Type 0
Held θ s path = All (λ p. Holder θ (node_of s p.at) p.bits p.depth) path

abbrev pub Apart : List Place → Type 0
Apart path = Pairwise (λ p q. p.at ≡ q.at → ⊥) path

abbrev pub Slack : ℕ → List Place → Type 0
Slack n = All (λ p. p.depth + n ≤ length p.bits)

module _ (f : Format) (s : List ℕ) (k : ℕ) (path : List Place) (a c : ℕ) where
  abbrev θ : ℕ
  θ = (head_of s).theta

  abbrev pub climbed : Climbed (List ℕ)
  climbed = climb (node_ops θ) (word_store f θ) θ (bits (width f) k) s path a c

  abbrev pub rounded : Climbed (List ℕ)
  rounded = round (node_ops θ) (word_store f θ) θ (bits (width f) k) s path a c

-- the name of a chain of so many blocks is a taken number, or 0 just if there is none
pub record Named (name many taken : ℕ) : Type 0 where
  pub within : name ≤ taken
  pub some : 1 ≤ many → 1 ≤ name
  pub none : many ≡ 0 → name ≡ 0

-- M-106: "Enter takes the last released block before an unused one"; each name is "a taken number, or 0 just when its count is 0"
abbrev pub Coming : (ℕ → ℕ) → ℕ → ℕ → ℕ → ℕ → List ℕ → Type 0
Coming next taken cap many name [] = Named name many taken
Coming next taken cap zero name (n ∷ ns) = (n ≡ suc taken) × (n ≤ cap) × (name ≡ 0) × Coming next n cap zero name ns
Coming next taken cap (suc many) name (n ∷ ns) = (n ≡ name) × (1 ≤ n) × (n ≤ taken) × Coming next taken cap many (next name) ns

pub record Supply (s : List ℕ) (ns : List ℕ) : Type 0 where
  pub fits : (head_of s).nodes_taken ≤ (head_of s).node_blocks
  pub below : (released_of s).nodes < (head_of s).nodes_taken
  pub coming : Coming (node_next s) (head_of s).nodes_taken (head_of s).node_blocks (released_of s).nodes (released_of s).node ns
  pub once : (x : ℕ) → count x ns ≤ 1

pub record PageSupply (f : Format) (s : List ℕ) (ps : List ℕ) : Type 0 where
  pub fits : (head_of s).pages_taken ≤ (head_of s).page_blocks
  pub below : (released_of s).pages ≤ (head_of s).pages_taken
  pub coming : Coming (page_next f s) (head_of s).pages_taken (head_of s).page_blocks (released_of s).pages (released_of s).page ps
  pub once : (x : ℕ) → count x ps ≤ 1

abbrev pub Clear : List ℕ → List Place → Type 0
Clear ns path = All (λ p. count p.at ns ≡ 0) path

pub record Ready (f : Format) (s : List ℕ) (p : Place) : Type 0 where
  pub sized : Sized f s
  pub in_use : InUse (head_of s) p.at
  pub fits : (head_of s).nodes_taken ≤ (head_of s).node_blocks
  pub holder : Holder (head_of s).theta (node_of s p.at) p.bits p.depth
  pub left : p.depth < length p.bits

pub record Climbable (f : Format) (s : List ℕ) (path : List Place) : Type 0 where
  pub sized : Sized f s
  pub among : Among (head_of s).nodes_taken path
  -- the node blocks to come
  pub numbers : List ℕ
  pub supply : Supply s numbers
  pub enough : bump_cost (head_of s).theta (depths path) ≤ length numbers
  pub clear : Clear numbers path
  pub held : Held (head_of s).theta s path
  pub apart : Apart path
  pub slack : Slack 1 path

-- a round may be made: the node behind the first one is none of those to come
pub record Roundable (f : Format) (s : List ℕ) (path : List Place) : Type 0 where
  pub led : Led s path
  pub climb : Climbable f s path
  pub behind : count (behind_in s path) climb.numbers ≡ 0

pub record Partable (f : Format) (s : List ℕ) (p b : ℕ) : Type 0 where
  pub sized : Sized f s
  pub low : 1 ≤ p
  pub high : p ≤ (head_of s).pages_taken
  -- the page blocks to come
  pub number : ℕ
  pub rest : List ℕ
  pub supply : PageSupply f s (number ∷ rest)
  pub another : number ≡ p → ⊥
  pub narrow : b < width f
  pub prefix_bits : ℕ
  pub image : page_of f s p ≡ page_image f (head_of s).capacity (items_in f (page_of f s p))
  pub fit : length (items_in f (page_of f s p)) ≤ (head_of s).capacity
  pub lawful : All (λ it. lawful_item f it ≡ true) (items_in f (page_of f s p))
  pub sorted : Sorted key_of (items_in f (page_of f s p))
  pub prefix : Prefix key_of (suc b) prefix_bits (items_in f (page_of f s p))

pub record Carries (s : List ℕ) (h : Head) (ts : List Step) : Type 0 where
  pub head_is : h ≡ head_of s
  pub long : length ts ≡ 32
  pub low : 1 ≤ h.levels
  pub high : h.levels ≤ 32

pub record Fine (f : Format) (θ C k d : ℕ) (w : Way) : Type 0 where
  pub sized : Sized f w.words
  pub theta : (head_of w.words).theta ≡ θ
  pub capacity : (head_of w.words).capacity ≡ C
  pub led : Led w.words w.path
  pub held : Held θ w.words w.path
  pub apart : Apart w.path
  pub slack : Slack (width f - w.used) w.path
  -- the node blocks to come; none of them is on the path, or behind its first node
  pub numbers : List ℕ
  pub nodes : Supply w.words numbers
  pub enough : bump_costs d θ (depths w.path) ≤ length numbers
  pub clear : Clear numbers w.path
  pub behind : count (behind_in w.words w.path) numbers ≡ 0
  -- a path has room for 32 steps
  pub short : length w.path ≤ 32
  pub sum_in : sum (depths w.path) ≤ w.used
  pub page_in : w.page ≤ (head_of w.words).pages_taken
  pub some : 1 ≤ length w.items → 1 ≤ w.page
  pub image : (w.page ≡ 0 → ⊥) → page_of f w.words w.page ≡ page_image f C w.items
  pub lawful : All (λ it. lawful_item f it ≡ true) w.items
  pub sorted : Sorted key_of w.items
  pub fit : length w.items ≤ C
  -- the page blocks to come
  pub page_numbers : List ℕ
  pub pages : PageSupply f w.words page_numbers
  pub page_enough : pages_at C w.items ≤ length page_numbers
  pub page_clear : count w.page page_numbers ≡ 0
  pub rounds : rounds_for C (width f - w.used) k w.items ≡ d
  pub new : Lacks key_of k w.items
  pub prefix : Prefix key_of (width f - w.used) (k / 2 ^ (width f - w.used)) w.items

-- a round more can be made
pub record Turnable (f : Format) (k : ℕ) (w : Way) : Type 0 where
  pub more : ℕ
  pub fine : Fine f (head_of w.words).theta (head_of w.words).capacity k (suc more) w

-- past the tests 3, 6, 9 and 8
pub record Accepted (f : Format) (s : List ℕ) (it : Item) (h : Head) : Type 0 where
  pub rule : head_rule f s ≡ true
  pub lawful : lawful_item f it ≡ true
  pub own : h ≡ head_of s
  pub sound : undamaged f s h it.key (descent f s h it.key) ≡ true
  pub new : contains key_of it.key (own_items f s h (descent f s h it.key).page) ≡ false

-- no round is left of the way d
pub record Placing (f : Format) (s : List ℕ) (h : Head) (e : End) (it : Item) (d : Descent) : Type 0 where
  pub ends : e ≡ end_of d
  pub carries : Carries s h d.steps
  pub fine : Fine f h.theta h.capacity it.key 0 (way_of f s h it.key d)

pub record Placeable (f : Format) (s : List ℕ) (h : Head) (e : End) (it : Item) : Type 0 where
  pub way : Descent
  pub placing : Placing f s h e it way

-- its page's words begin at `at`
pub record Putting (f : Format) (s : List ℕ) (at C : ℕ) (it : Item) (h : Head) (e : End) (d : Descent) : Type 0 where
  pub placing : Placing f s h e it d
  pub some : e.page ≡ 0 → ⊥
  pub begins : at ≡ page_start f h e.page
  pub capacity_is : C ≡ h.capacity

pub record Puttable (f : Format) (s : List ℕ) (at C : ℕ) (it : Item) : Type 0 where
  pub head : Head
  pub end : End
  pub way : Descent
  pub putting : Putting f s at C it head end way
