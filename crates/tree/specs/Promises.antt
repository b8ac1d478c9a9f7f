-- What is promised of the tree of a set and of the book, each as a type; proofs/Promises.antt proves them.
--   TowerIsCanonical, OnlyTower == the tower by `cut` is canonical (no level is missing for want of fuel), and nothing else is
--   OneHalving      == what a halving of a level-0 stretch does to the tower, to the local depths at the key and to the number of nodes
--   Inserted        == what one record more does to the tree: where, by how many halvings, and how many nodes and pages more
--   RoundKeeps, RoundCounts, PutReaches == the insertion as rounds and a put
--   NeverShrinks    == levels, nodes and pages of a sublist's tree are at most those of the list's; so a part of a set that fits, fits
--   OneList         == the ascending list does not depend on the order
--   HoldsAccepted   == the book holds the ascending list of the records that it accepted; so the same accepted records, the same book
--   AnyOrder        == a set that fits is accepted in every order, and ends in the same list
--   LevelsWithin    == Levels ≤ L
--   BookKeeps       == the records in the book ascend, are lawful, and their tree fits
--   Insertion       == Inserted, for every record whose key is new
use Rattle.std.specs.Prelude.{◌≡◌, true, ℕ, suc, ◌+◌, ◌^◌, ◌≤◌, ◌<◌, length}
use mathlib.Core.List.{List, [], ◌∷◌, Sublistᴰ, Permᴰ}
use Rattle.lists.specs.Bits.{bits}
use Rattle.lists.specs.Lists.{All}
use Rattle.lists.specs.Keyed.{Sorted, Distinct, Lacks, Bounded, insert, ascending}
use Rattle.tree.specs.Trie.{Trie, Shape, Key, shape, leaf_at, depth, split}
use Rattle.tree.specs.Tower.{tower, levels, nodes, Canonical}
use Rattle.tree.specs.Carry.{locals, carry, bump, bump_cost, splits, bump_costs}
use Rattle.tree.specs.Build.{build, pages, target, halve, put, rounds_at, pages_at}
use Rattle.tree.specs.Book.{Schema, Sizes, levels_of, nodes_of, pages_of, fits, book, accepted, Narrow, log2, level_bound}

abbrev pub TowerIsCanonical : Type 0
TowerIsCanonical = (θ : ℕ) (t : Shape) → 1 ≤ θ → Canonical θ t (tower θ t)

abbrev pub OnlyTower : Type 0
OnlyTower = (θ : ℕ) (t b : Shape) (bs : List Shape) → 1 ≤ θ → Canonical θ t (b ∷ bs) → b ∷ bs ≡ tower θ t

abbrev pub OneHalving : Type 0
OneHalving =
    (θ : ℕ) (t : Shape) (k : Key) → 1 ≤ θ
    → (tower θ (split t k) ≡ carry θ t (tower θ t) k)
    × (locals (split t k) (tower θ (split t k)) k ≡ bump θ (locals t (tower θ t) k))
    × (nodes θ (split t k) ≡ nodes θ t + bump_cost θ (locals t (tower θ t) k))

module _ {R : Type 0} (key : R → ℕ) (W θ C : ℕ) where
  -- one record r more, into the tree t of the ascending list S
  pub record Inserted (r : R) (S : List R) (t : Trie (List R)) : Type 0 where
    pub place : build key C W (insert key r S) ≡ target key C W r t
    pub form : shape (build key C W (insert key r S)) ≡ splits (rounds_at key C W (key r) t) (shape t) (bits W (key r))
    pub node_count : nodes θ (shape (build key C W (insert key r S)))
        ≡ nodes θ (shape t) + bump_costs (rounds_at key C W (key r) t) θ (locals (shape t) (tower θ (shape t)) (bits W (key r)))
    pub page_count : pages (build key C W (insert key r S)) ≡ pages t + pages_at C (leaf_at t (bits W (key r)))

  abbrev pub Insertion : Type 0
  Insertion =
      1 ≤ θ → 1 ≤ C → (r : R) (S : List R) → Sorted key S → Bounded key (2 ^ W) S → key r < 2 ^ W → Lacks key (key r) S
      → Inserted r S (build key C W S)

  -- "levels is 1 to L"
  abbrev pub LevelsWithin : Type 0
  LevelsWithin =
      1 ≤ θ → 1 ≤ C → log2 C < W → (S : List R) → Sorted key S → Bounded key (2 ^ W) S
      → levels θ (shape (build key C W S)) ≤ level_bound W θ C

module _ {R : Type 0} (key : R → ℕ) (W C : ℕ) where
  -- on any trie t, where the leaf at the key is full and has a bit left
  abbrev pub RoundKeeps : Type 0
  RoundKeeps =
      (r : R) (t : Trie (List R)) → depth t (bits W (key r)) < W → Sorted key (leaf_at t (bits W (key r)))
      → length (leaf_at t (bits W (key r))) ≡ C
      → target key C W r (halve key W (key r) t) ≡ target key C W r t

  abbrev pub RoundCounts : Type 0
  RoundCounts =
      (k : ℕ) (t : Trie (List R)) → depth t (bits W k) < W → length (leaf_at t (bits W k)) ≡ C
      → suc (rounds_at key C W k (halve key W k t)) ≡ rounds_at key C W k t

  abbrev pub PutReaches : Type 0
  PutReaches = (r : R) (t : Trie (List R)) → length (leaf_at t (bits W (key r))) < C → target key C W r t ≡ put key W r t

abbrev pub OneList : {R : Type 0} → (R → ℕ) → Type 0
OneList {R} key = (rs qs : List R) → Distinct key rs → Permᴰ rs qs → ascending key rs ≡ ascending key qs

module _ {R : Type 0} (F : Schema R) (p : Sizes) where
  abbrev pub NeverShrinks : Type 0
  NeverShrinks =
      ((S T : List R) → Sublistᴰ S T
      → (levels_of F p S ≤ levels_of F p T) × (nodes_of F p S ≤ nodes_of F p T) × (pages_of F p S ≤ pages_of F p T))
      × ((rs qs : List R) → Sublistᴰ rs qs → Distinct F.key qs → fits F p (ascending F.key qs) ≡ true
      → fits F p (ascending F.key rs) ≡ true)

  abbrev pub HoldsAccepted : Type 0
  HoldsAccepted =
      ((rs : List R) → (book F p [] rs).held ≡ ascending F.key (accepted F p [] rs))
      × ((rs qs : List R) → Permᴰ (accepted F p [] rs) (accepted F p [] qs) → (book F p [] rs).held ≡ (book F p [] qs).held)

  abbrev pub AnyOrder : Type 0
  AnyOrder =
      (rs qs : List R) → Permᴰ rs qs → All (λ r. F.lawful r ≡ true) rs → Distinct F.key rs
      → fits F p (ascending F.key rs) ≡ true
      → All (λ a. a.number ≡ 0) (book F p [] qs).replies × ((book F p [] qs).held ≡ ascending F.key rs)

  -- from a book that starts empty, and has room for the tree of no record
  abbrev pub BookKeeps : Type 0
  BookKeeps =
      1 ≤ p.theta → 1 ≤ p.node_blocks → Narrow F → (rs : List R)
      → Sorted F.key (book F p [] rs).held
      × Bounded F.key (2 ^ F.width) (book F p [] rs).held
      × All (λ r. F.lawful r ≡ true) (book F p [] rs).held
      × (fits F p (book F p [] rs).held ≡ true)
