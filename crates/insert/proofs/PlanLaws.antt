-- What enter plans and tests, as the code counts it. A level of the path passes on the halvings that come when its run is at θ; the rounds
-- end where the keys of a page and the new one part; and a page has the key where find finds it.
--   is_found a == what was sought was found
use mathlib.Core.Path.{◌≡◌, refl, sym, ap, ap₂, ◌∙◌, subst}
use mathlib.Core.Bool.{Bool, true, false, ◌&&◌, ◌||◌, not, true≢false}
use mathlib.Core.List.{List, [], ◌∷◌, map}
use Prim.Native.Nat.{ℕ, zero, suc, ◌+◌, ◌-◌, ◌/◌, ◌%◌, ◌^◌, ◌≤◌, ◌<◌}
use native.Mathlib.Nat.{zero-add}
use native.Mathlib.Numerals.{add-one}
use native.Mathlib.Decide.{dec_lt}
use native.Mathlib.Omega.{arith}
use lib.Dec.{leb, ltb, eqb}
use lib.ListN.{length, get_or, take, drop}
use lib.Seq.{drop-cons}
use borrow.Author.Tests.{lt-ltb, le-ltb, eq-eqb, ne_eqb, eqb-true, ltb-true, leb-true, leb-false}
use Rattle.lists.specs.Bits.{bit}
use Rattle.lists.specs.Lists.{All, all}
use Rattle.lists.specs.Keyed.{Prefix, contains}
use Rattle.lists.proofs.Cases.{by_cases}
use Rattle.lists.proofs.Tests.{and_true, same_test, untrue, get_d_tab, length_tab, all_tab}
use Rattle.lists.proofs.AppendLaws.{all_at}
use Rattle.lists.proofs.ListLaws.{filter_all}
use Rattle.lists.proofs.KeyedLaws.{contains_false, lacks_contains}
use Rattle.tree.specs.Build.{same, rounds}
use Rattle.tree.specs.Carry.{bump, bump_cost, bump_costs}
use Rattle.tree.proofs.BuildLaws.{prefix_side}
use Rattle.tree.proofs.InsertLaws.{rounds_on, rounds_end}
use Rattle.store.specs.declared.Format.{Format}
use Rattle.store.specs.declared.Item.{Item}
use Rattle.store.specs.declared.Head.{Head}
use Rattle.store.specs.Format.{width}
use Rattle.store.specs.Head.{word, node_start}
use Rattle.node.specs.Node.{level_word, back_word, forward_word}
use Rattle.page.specs.Page.{count, item_at, key_at, agrees, above, first_above, page_rule}
use Rattle.page.specs.Schema.{key_of}
use Rattle.page.proofs.Laws.{agrees_facts, facts_agrees, rule_facts, first_facts}
use Rattle.search.specs.Way.{Sought}
use Rattle.search.specs.Way.{Record, Nothing, Damaged}
use Rattle.search.specs.declared.Step.{Step}
use Rattle.search.specs.Descent.{no_step}
use Rattle.search.specs.Find.{no_item, in_page}
use Rattle.insert.specs.Enter.{items_in, neighbour_ok}

-- the nodes that d halvings take, level by level
cost_slack : (θ h : ℕ) (hs : List ℕ) → h < θ → bump_cost θ (h ∷ hs) ≡ 0
unfolding bump_cost
cost_slack θ h hs l = rw (lt-ltb h θ l, bump_cost)

bump_slack : (θ h : ℕ) (hs : List ℕ) → h < θ → bump θ (h ∷ hs) ≡ suc h ∷ hs
unfolding bump
bump_slack θ h hs l = rw (lt-ltb h θ l, bump)

cost_full : (θ h : ℕ) (hs : List ℕ) → θ ≤ h → bump_cost θ (h ∷ hs) ≡ suc (bump_cost θ hs)
unfolding bump_cost
cost_full θ h hs l = rw (le-ltb h θ l, bump_cost)

bump_full : (θ h : ℕ) (hs : List ℕ) → θ ≤ h → bump θ (h ∷ hs) ≡ θ ∷ bump θ hs
unfolding bump
bump_full θ h hs l = rw (le-ltb h θ l, bump)

module _ (θ : ℕ) where
  pub costs_level : (d h : ℕ) (hs : List ℕ) → bump_costs d θ (h ∷ hs) ≡ (d - (θ - h)) + bump_costs (d - (θ - h)) θ hs
  costs_level zero h hs =
      let e : 0 - (θ - h) ≡ 0 = omega arith in
      rw e refl
  costs_level (suc d) h hs =
      elim (dec_lt h θ) [
        | yes l ↦
            let e : suc d - (θ - h) ≡ d - (θ - suc h) = omega arith in
            ap₂ (λ a b. a + bump_costs d θ b) (cost_slack θ h hs l) (bump_slack θ h hs l)
            ∙ omega (arith, costs_level d (suc h) hs, ap (λ n. bump_costs n θ hs) e)
        | no l ↦
            let q : θ ≤ h = omega arith in
            let e : d - (θ - θ) ≡ d = omega arith in
            let g : suc d - (θ - h) ≡ suc d = omega arith in
            ap₂ (λ a b. a + bump_costs d θ b) (cost_full θ h hs q) (bump_full θ h hs q)
            ∙ omega (arith, costs_level d θ (bump θ hs), ap (λ n. bump_costs n θ (bump θ hs)) e, ap (λ n. bump_costs n θ hs) g)
      ]

  -- above the root
  pub costs_root : (d : ℕ) → 1 ≤ θ → 1 ≤ d → bump_costs d θ [] ≡ 1 + (d - θ) + bump_costs (d - θ) θ []
  unfolding bump_cost bump
  costs_root zero h l = absurd (omega arith)
  costs_root (suc d) h l =
      let e : d - (θ - 1) ≡ suc d - θ = omega arith in
      omega (arith, costs_level d 1 [], ap (λ n. bump_costs n θ []) e)

  -- what is left above the root
  pub root_more : (R t d : ℕ) {e : ℕ} → R ≡ t + bump_costs d θ [] → e ≡ d - θ → 1 ≤ θ → 1 ≤ d → R ≡ t + (1 + e) + bump_costs e θ []
  root_more R t d h g l p = omega (arith, h, costs_root d l p, ap (λ n. bump_costs n θ []) g)

-- where the keys of a page part from a key
module _ (f : Format) (pg : List ℕ) (k : ℕ) where
  abbrev rs : List Item
  rs = items_in f pg

  agrees_prefix : (u : ℕ) → agrees f pg k u ≡ true → Prefix key_of (width f - u) (k / 2 ^ (width f - u)) rs
  unfolding items_in
  agrees_prefix u e =
      all_tab (λ it. it.key / 2 ^ (width f - u) ≡ k / 2 ^ (width f - u)) (count pg) (item_at f pg) (agrees_facts f pg k u e)

  item_at_lem : (P : Item → Type 0) → All P rs → (i : ℕ) → i < count pg → P (item_at f pg i)
  unfolding items_in
  item_at_lem P a i q =
      subst P (get_d_tab (count pg) (item_at f pg) i no_item q)
      (all_at P no_item rs i a (omega (arith, length_tab (count pg) (item_at f pg))))

  prefix_agrees : (u : ℕ) → Prefix key_of (width f - u) (k / 2 ^ (width f - u)) rs → agrees f pg k u ≡ true
  prefix_agrees u a = facts_agrees f pg k u (item_at_lem (λ it. it.key / 2 ^ (width f - u) ≡ k / 2 ^ (width f - u)) a)

  -- the records agree with the key in bit w
  abbrev agreeing : ℕ → Bool
  agreeing w = all (λ r. same (bit w k) (bit w (key_of r))) rs

  same_refl : (b : Bool) → same b b ≡ true
  same_refl true = refl
  same_refl false = refl

  prefix_bit : (w : ℕ) (xs : List Item) → Prefix key_of w (k / 2 ^ w) xs → all (λ r. same (bit w k) (bit w (key_of r))) xs ≡ true
  unfolding bit
  prefix_bit w [] a = refl
  prefix_bit w (x ∷ xs) a =
      let e : bit w x.key ≡ bit w k = ap (λ n. eqb (n % 2) 1) a.0 in
      ap₂ (λ b c. same (bit w k) b && c) e (prefix_bit w xs a.1) ∙ ap (λ b. b && true) (same_refl (bit w k))

  bit_prefix : (w : ℕ) → Prefix key_of (suc w) (k / 2 ^ suc w) rs → agreeing w ≡ true → Prefix key_of w (k / 2 ^ w) rs
  bit_prefix w a e =
      subst (Prefix key_of w (k / 2 ^ w)) (filter_all (λ r. same (bit w k) (bit w (key_of r))) rs e) (prefix_side key_of w k rs a)

  module _ (u : ℕ) (low : u < width f) (here : agrees f pg k u ≡ true) where
    abbrev w : ℕ
    w = width f - (u + 1)

    w_is : width f - u ≡ suc w
    w_is = omega arith

    pub rounds_next : agrees f pg k (u + 1) ≡ true → rounds key_of (width f - u) k rs ≡ suc (rounds key_of w k rs)
    rounds_next e = rw w_is (rounds_on key_of w k rs (prefix_bit w rs (agrees_prefix (u + 1) e)))

    pub rounds_last : agrees f pg k (u + 1) ≡ false → rounds key_of (width f - u) k rs ≡ 1
    rounds_last e =
        rw w_is
        (rounds_end key_of w k rs
        (sym
        (untrue
        (λ t. true≢false (sym (prefix_agrees (u + 1) (bit_prefix w (rw w_is at (agrees_prefix u here)) t)) ∙ e)))))

-- no bit is left
pub rounds_out : (f : Format) (k u used : ℕ) (xs : List Item) {R w : ℕ} → R ≡ (u - used) + rounds key_of (width f - u) k xs → width f ≤ u
    → w ≡ u → w - used ≡ R
unfolding rounds
rounds_out f k u used xs e l same =
    let z : width f - u ≡ 0 = omega arith in
    omega (arith, e, same, ap (λ n. rounds key_of n k xs) z)

-- a page with the key
abbrev pub is_found : Sought → Bool
is_found (Record it) = true
is_found Nothing = false
is_found Damaged = false

module _ (f : Format) (C : ℕ) (pg : List ℕ) (k : ℕ) (kept : page_rule f C pg ≡ true) where
  abbrev i : ℕ
  i = first_above f pg false k

  abbrev here : Bool
  here = ltb i (count pg) && eqb (key_at f pg i) k

  found_is : is_found (in_page f pg k) ≡ here
  unfolding in_page
  found_is =
      elim here as (λ b. is_found (elim b [ true ↦ Record (item_at f pg i) | false ↦ Nothing ]) ≡ b) [ true ↦ refl | false ↦ refl ]

  here_contains : here ≡ true → contains key_of k (items_in f pg) ≡ true
  here_contains e =
      let t = and_true _ _ e in
      by_cases (contains key_of k (items_in f pg)) (λ c. c)
      (λ c.
      absurd
      (item_at_lem f pg k (λ it. it.key ≡ k → ⊥) (contains_false key_of k (items_in f pg) c) i (ltb-true i (count pg) t.0)
      (eqb-true (key_at f pg i) k t.1)))

  contains_here : contains key_of k (items_in f pg) ≡ true → here ≡ true
  unfolding items_in above
  contains_here e =
      by_cases here (λ c. c)
      (λ c.
      let first = first_facts f pg false k in
      let order = (rule_facts f C pg kept).order in
      let apart : (j : ℕ) → j < count pg → key_at f pg j ≡ k → ⊥ =
      λ j q h.
      elim (dec_lt j i) [
        | yes l ↦ omega (arith, leb-false k (key_at f pg j) (first.before j l))
        | no l ↦
            let in_page_lem : i < count pg = omega arith in
            let at : k ≤ key_at f pg i = leb-true k (key_at f pg i) (first.found in_page_lem) in
            elim (dec_lt i j) [
              | yes m ↦ omega (arith, order.ascends i j m q)
              | no m ↦
                  let g : i ≡ j = omega arith in
                  true≢false (sym (ap₂ (λ a b. a && b) (lt-ltb i (count pg) in_page_lem) (eq-eqb (key_at f pg i) k (ap (key_at f pg) g ∙ h))) ∙ c)
            ]
      ] in
      absurd
      (true≢false
      (sym e ∙ lacks_contains key_of k (items_in f pg) (all_tab (λ it. it.key ≡ k → ⊥) (count pg) (item_at f pg) apart))))

  found_contains : is_found (in_page f pg k) ≡ contains key_of k (items_in f pg)
  found_contains = found_is ∙ same_test here (contains key_of k (items_in f pg)) here_contains contains_here

  -- with what find gave
  pub as_found : {a b : Sought} → a ≡ in_page f pg k → a ≡ b → is_found b ≡ contains key_of k (items_in f pg)
  as_found ea eb = sym (ap is_found eb) ∙ ap is_found ea ∙ found_contains

-- one bit more
pub rounds_more : {R A B u used : ℕ} → used ≤ u → R ≡ (u - used) + A → A ≡ suc B → R ≡ (u + 1 - used) + B
rounds_more l e h = omega (arith, e, h)

pub rounds_done : {R A u used : ℕ} → used ≤ u → R ≡ (u - used) + A → A ≡ 1 → u + 1 - used ≡ R
rounds_done l e h = omega (arith, e, h)

-- the terminal's forward neighbour, by its tests
module _ (s : List ℕ) (h : Head) (n : ℕ) {q : ℕ} (e : q ≡ forward_word s (node_start h n)) where
  abbrev tests : ℕ → Bool
  tests q =
      leb q h.nodes_taken && not (eqb q n) && eqb (level_word s (node_start h q)) 1 && eqb (back_word s (node_start h q)) n

  pub no_neighbour : q ≡ 0 → true ≡ neighbour_ok s h n
  unfolding neighbour_ok
  no_neighbour z = sym (ap (λ b. b || tests (forward_word s (node_start h n))) (eq-eqb (forward_word s (node_start h n)) 0 (sym e ∙ z)))

  pub neighbour_is : (a b c d : Bool) → (q ≡ 0 → ⊥) → a ≡ leb q h.nodes_taken → b ≡ not (eqb q n)
      → c ≡ eqb (level_word s (node_start h q)) 1 → d ≡ eqb (back_word s (node_start h q)) n → (a && b && c && d) ≡ neighbour_ok s h n
  unfolding neighbour_ok
  neighbour_is a b c d z ea eb ec ed =
      let t : (a && b && c && d) ≡ tests q = rw (ea, eb, ec, ed) refl in
      t ∙ sym (ap (λ x. x || tests q) (ne_eqb q 0 z)) ∙ ap (λ x. eqb x 0 || tests x) e

-- a word of a node block
pub word_of : (s : List ℕ) (h : Head) (n j : ℕ) {b r : ℕ} → r ≡ word s (b + j) → b ≡ node_start h n → r ≡ word s (node_start h n + j)
word_of s h n j e g = e ∙ ap (λ x. word s (x + j)) g

-- a level passed: what is left to be counted where `left` halvings come to level j + 1
pub costs_turn : (θ : ℕ) (ts : List Step) (j left t : ℕ) {R a b : ℕ} → R ≡ t + bump_costs left θ (map (λ t. t.depth) (drop j ts))
    → j < length ts → a ≡ θ - (get_or ts j no_step).depth → b ≡ left - a → R ≡ t + b + bump_costs b θ (map (λ t. t.depth) (drop (j + 1) ts))
costs_turn θ ts j left t {b = b} e l ea eb =
    let x : Step = get_or ts j no_step in
    let rest : List ℕ = map (λ (t : Step). t.depth) (drop (j + 1) ts) in
    let d : drop j ts ≡ x ∷ drop (j + 1) ts = drop-cons ts j no_step l ∙ ap (λ n. x ∷ drop n ts) (sym (add-one j)) in
    let same : left - (θ - x.depth) ≡ b = omega (arith, ea, eb) in
    omega (
      arith,
      e,
      ap (λ q. bump_costs left θ (map (λ (t : Step). t.depth) q)) d,
      costs_level θ left x.depth rest ∙ ap (λ m. m + bump_costs m θ rest) same,
    )

-- the same over a path's first n steps with a count of its own: the levels from number i on
levels_next : (xs : List Step) (i n : ℕ) → i < n → n ≤ length xs
    → map (λ t. t.depth) (take (n - i) (drop i xs)) ≡ (get_or xs i no_step).depth ∷ map (λ t. t.depth) (take (n - (i + 1)) (drop (i + 1) xs))
levels_next [] i n h l = absurd (omega arith)
levels_next (x ∷ xs) zero (suc n) h l =
    let e : suc n - 0 ≡ suc n = omega arith in
    let g : suc n - (0 + 1) ≡ n = omega arith in
    rw (e, g) refl
levels_next (x ∷ xs) zero zero h l = absurd (omega arith)
levels_next (x ∷ xs) (suc i) zero h l = absurd (omega arith)
levels_next (x ∷ xs) (suc i) (suc n) h l =
    let e : suc n - suc i ≡ n - i = omega arith in
    let g : suc n - (suc i + 1) ≡ n - (i + 1) = omega arith in
    let d : suc i + 1 ≡ suc (i + 1) = omega arith in
    rw (e, g, d) (levels_next xs i n (omega arith) (omega arith))

-- what is left to be counted where `left` halvings come to level i + 1
abbrev pub costs_from : ℕ → List Step → ℕ → ℕ → ℕ → ℕ
costs_from θ xs n i left = bump_costs left θ (map (λ t. t.depth) (take (n - i) (drop i xs)))

costs_next : (θ : ℕ) (xs : List Step) (n i left : ℕ) {h a b : ℕ} → i < n → n ≤ length xs → h ≡ (get_or xs i no_step).depth → a ≡ θ - h
    → b ≡ left - a → costs_from θ xs n i left ≡ b + costs_from θ xs n (i + 1) b
costs_next θ xs n i left p q eh ea eb =
    ap (bump_costs left θ) (levels_next xs i n p q)
    ∙ costs_level θ left (get_or xs i no_step).depth _
    ∙ ap (λ m. m + costs_from θ xs n (i + 1) m) (sym (eb ∙ ap (λ m. left - m) (ea ∙ ap (λ m. θ - m) eh)))

pub costs_first : (θ : ℕ) (xs : List Step) (levels left : ℕ) {n : ℕ} → n ≡ levels
    → bump_costs left θ (map (λ t. t.depth) (take levels xs)) ≡ 0 + costs_from θ xs n 0 left
costs_first θ xs levels left {n} e =
    let g : n - 0 ≡ levels = omega (arith, e) in
    sym (zero-add (costs_from θ xs n 0 left) ∙ ap (λ m. bump_costs left θ (map (λ (t : Step). t.depth) (take m xs))) g)

pub costs_more : (θ : ℕ) (xs : List Step) (n i left t : ℕ) {R h a b : ℕ} → R ≡ t + costs_from θ xs n i left → i < n → n ≤ length xs
    → h ≡ (get_or xs i no_step).depth → a ≡ θ - h → b ≡ left - a → R ≡ t + b + costs_from θ xs n (i + 1) b
costs_more θ xs n i left t e p q eh ea eb = omega (arith, e, costs_next θ xs n i left p q eh ea eb)

pub costs_out : (θ : ℕ) (xs : List Step) (n i left t : ℕ) {R a : ℕ} → R ≡ t + costs_from θ xs n i left → n ≤ i → a ≡ bump_costs left θ []
    → t + a ≡ R
costs_out θ xs n i left t h l e =
    let z : n - i ≡ 0 = omega arith in
    omega (arith, h, e, ap (λ m. bump_costs left θ (map (λ (t : Step). t.depth) (take m (drop i xs)))) z)
