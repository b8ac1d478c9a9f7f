-- Enter, as its code makes it: the tests of the way down, the plan, the rounds one by one, and what stands from test to test.
--   Begun f s it h d    == the head rule is kept and the record lawful, h is the head, d the way down
--   Tested f s it h d p == no damage is met and the key is new, p is the plan
--   Roomy f s it h d p v g e == blocks remain, and room is made: in the words v, with the head g and the way e
use mathlib.Core.Path.{◌≡◌, refl, sym, ap, ap₂, ◌∙◌, subst}
use mathlib.Core.Bool.{Bool, true, false, ◌&&◌, ◌||◌, not}
use mathlib.Core.List.{List, [], ◌∷◌, map}
use Prim.Native.Nat.{ℕ, zero, suc, ◌-◌, ◌^◌, ◌≤◌, ◌<◌}
use native.Mathlib.Omega.{arith}
use native.Mathlib.Decide.{dec_lt}
use lib.Dec.{leb, eqb}
use lib.ListN.{length, get_or, take, length-set, length-replicate}
use borrow.Author.Tests.{ne_eqb, le-ltb, le-leb, lt-leb}
use Rattle.lists.specs.Bits.{bit}
use Rattle.lists.specs.Lists.{all}
use Rattle.lists.specs.Keyed.{contains}
use Rattle.lists.proofs.Cases.{by_cases}
use Rattle.lists.proofs.Tests.{and_true, and_three, length_tab}
use Rattle.tree.specs.Build.{same, rounds, pages_at}
use Rattle.tree.specs.Carry.{bump_costs}
use Rattle.tree.specs.Book.{refused}
use Rattle.tree.proofs.InsertLaws.{rounds_on, rounds_end, pages_at_room, pages_at_full}
use Rattle.store.specs.declared.Format.{Format}
use Rattle.store.specs.declared.Head.{Head}
use Rattle.store.specs.declared.Released.{Released}
use Rattle.store.specs.declared.Item.{Item}
use Rattle.store.specs.Format.{width}
use Rattle.store.specs.Head.{largest_capacity, head_of, released_of, head_rule, page_at, nodes_left, pages_left}
use Rattle.store.specs.Released.{chain_ok, nodes_ok, pages_ok}
use Rattle.store.proofs.HeadLaws.{head_facts, width_within, levels_within}
use Rattle.page.specs.Page.{count, item_at, lawful_item, page_rule, agrees}
use Rattle.page.specs.Schema.{key_of}
use Rattle.page.proofs.Laws.{lawful_key, rule_facts}
use Rattle.search.specs.declared.Step.{Step}
use Rattle.search.specs.Way.{Descent}
use Rattle.search.specs.Way.{End}
use Rattle.search.specs.Descent.{no_step, no_steps, end_of, step_of, lost, step_taken, descend, descent}
use Rattle.search.specs.Find.{sound_page}
use Rattle.search.proofs.DescentLaws.{step_lost, step_on}
use Rattle.insert.specs.declared.Plan.{Plan}
use Rattle.std.specs.Prelude.{Result, Ok}
use Rattle.answers.specs.declared.Refusal.{Refusal}
use Rattle.insert.specs.declared.Entered.{Entered}
use Rattle.insert.specs.Enter.{Way, items_in, own_items, own_passes, neighbour_ok, place_of, path_in, rounds_for, plan_of, way_of, undamaged}
use Rattle.insert.specs.Enter.{round_of, rounds_of, placed, found, start_of, plan_for, entered_words}
use Rattle.insert.specs.Enter.{enter_reply, After, unchanged, done, enter_of}
use Rattle.insert.specs.Fine.{Carries, Fine, Turnable, Accepted, Placing}
use Rattle.insert.proofs.TestLaws.{items_null, items_some}
use Rattle.insert.proofs.Refusals.{Passed, enter_9, enter_8, enter_10, enter_chain, enter_done}
use Rattle.insert.proofs.InsideWay.{no_rounds, round_full, round_fine, rounds_fine}
use Rattle.insert.proofs.InsideEnter.{passed_fine}

-- the tests of a way down
module _ (f : Format) (s : List ℕ) (h : Head) (k : ℕ) where
  -- of the key's own page
  abbrev own_test : ℕ → ℕ → Bool
  own_test p used = eqb p 0 || sound_page f h (page_at f s h p) k used

  way_test : End → Bool
  way_test e = e.ok && own_test e.page e.used && neighbour_ok s h e.node

  way_test_lem : (d : Descent) → way_test (end_of d) ≡ undamaged f s h k d
  unfolding undamaged own_passes way_test
  way_test_lem d = refl

  pub way_is : (d : Descent) {e : End} → e ≡ end_of d → (a b c : Bool) → a ≡ e.ok → b ≡ own_test e.page e.used
      → c ≡ neighbour_ok s h e.node → (a && b && c) ≡ undamaged f s h k d
  unfolding way_test
  way_is d {e} ends a b c p q r = ap₂ (λ x y. x && y && c) p q ∙ ap (λ x. e.ok && own_test e.page e.used && x) r ∙ ap way_test ends ∙ way_test_lem d

  pub end_sound : (d : Descent) {e : End} → e ≡ end_of d → undamaged f s h k d ≡ true → own_test e.page e.used ≡ true
  unfolding way_test
  end_sound d {e} ends o =
      (and_three e.ok (own_test e.page e.used) (neighbour_ok s h e.node) (ap way_test ends ∙ way_test_lem d ∙ o)).1

  -- the key's own page, where there is one
  module _ (p used : ℕ) (some : p ≡ 0 → ⊥) {pg : List ℕ} (is : pg ≡ page_at f s h p) (pass : own_test p used ≡ true) where
    own_sound : sound_page f h pg k used ≡ true
    own_sound = ap (λ x. sound_page f h x k used) is ∙ sym (ap (λ b. b || sound_page f h (page_at f s h p) k used) (ne_eqb p 0 some)) ∙ pass

    pub own_rule : page_rule f h.capacity pg ≡ true
    unfolding sound_page
    own_rule = (and_true (page_rule f h.capacity pg) (agrees f pg k used) own_sound).0

    pub own_agrees : agrees f pg k used ≡ true
    unfolding sound_page
    own_agrees = (and_true (page_rule f h.capacity pg) (agrees f pg k used) own_sound).1

pub own_test_lem : (f : Format) (s : List ℕ) (h : Head) (k : ℕ) (d : Descent) → own_passes f s h k d ≡ true
    → (eqb d.page 0 || sound_page f h (page_at f s h d.page) k d.used) ≡ true
unfolding own_passes
own_test_lem f s h k d o = o

length_items : (f : Format) (pg : List ℕ) → length (items_in f pg) ≡ count pg
unfolding items_in
length_items f pg = length_tab (count pg) (item_at f pg)

-- the records of a page
module _ (f : Format) (s : List ℕ) (h : Head) (p : ℕ) where
  items_are : (p ≡ 0 → ⊥) → {pg : List ℕ} → pg ≡ page_at f s h p → own_items f s h p ≡ items_in f pg
  items_are some is = items_some f s h p some ∙ ap (items_in f) (sym is)

  pub held_null : (k : ℕ) → p ≡ 0 → false ≡ contains key_of k (own_items f s h p)
  unfolding contains
  held_null k z = sym (ap (contains key_of k) (items_null f s h p z))

  pub held_some : (k : ℕ) {pg : List ℕ} {r : Bool} → (p ≡ 0 → ⊥) → pg ≡ page_at f s h p → r ≡ contains key_of k (items_in f pg)
      → r ≡ contains key_of k (own_items f s h p)
  held_some k some is e = e ∙ ap (contains key_of k) (sym (items_are some is))

  pub full_null : p ≡ 0 → 1 ≤ h.capacity → false ≡ leb h.capacity (length (own_items f s h p))
  full_null z low = sym (lt-leb h.capacity (length (own_items f s h p)) (omega (arith, ap length (items_null f s h p z))))

  pub full_some : {pg : List ℕ} {c n : ℕ} → (p ≡ 0 → ⊥) → pg ≡ page_at f s h p → c ≡ h.capacity → n ≡ count pg
      → leb c n ≡ leb h.capacity (length (own_items f s h p))
  full_some some is a b = ap₂ leb a (b ∙ sym (length_items f _) ∙ sym (ap length (items_are some is)))

-- the plan
rounds_le : (w k : ℕ) (xs : List Item) → rounds key_of w k xs ≤ w
unfolding rounds
rounds_le zero k xs = omega arith
rounds_le (suc w) k xs =
    by_cases (all (λ r. same (bit w k) (bit w (key_of r))) xs)
    (λ e. omega (arith, rounds_on key_of w k xs e, rounds_le w k xs))
    (λ e. omega (arith, rounds_end key_of w k xs e))

pub rounds_small : (f : Format) (used k : ℕ) (xs : List Item) {r : ℕ} → r ≡ rounds key_of (width f - used) k xs → r ≤ 64
rounds_small f used k xs e = omega (arith, e, rounds_le (width f - used) k xs, width_within f)

full_rounds : (C w k : ℕ) (xs : List Item) → C ≤ length xs → rounds_for C w k xs ≡ rounds key_of w k xs
unfolding rounds_for
full_rounds C w k xs h = rw (le-ltb (length xs) C h, rounds_for)

plan_is : (f : Format) (θ C k : ℕ) (w : Way) {r n p : ℕ} → rounds_for C (width f - w.used) k w.items ≡ r
    → bump_costs r θ (map (λ p. p.depth) w.path) ≡ n → pages_at C w.items ≡ p
    → record { rounds = r; nodes = n; pages = p } ≡ plan_of f θ C k w
unfolding plan_of
plan_is f θ C k w e g h = rw (e, g, h)

depths_same : (f : Format) (k : ℕ) (ts : List Step) → map (λ p. p.depth) (map (place_of f k) ts) ≡ map (λ t. t.depth) ts
depths_same f k [] = refl
depths_same f k (t ∷ ts) = ap (λ hs. t.depth ∷ hs) (depths_same f k ts)

module _ (f : Format) (s : List ℕ) (h : Head) (k : ℕ) (d : Descent) where
  pub plan_null : d.page ≡ 0 → 1 ≤ h.capacity
      → record { rounds = 0; nodes = 0; pages = 1 } ≡ plan_of f h.theta h.capacity k (way_of f s h k d)
  unfolding way_of pages_at
  plan_null z low =
      let e : own_items f s h d.page ≡ [] = items_null f s h d.page z in
      plan_is f h.theta h.capacity k (way_of f s h k d)
      (no_rounds h.capacity (width f - d.used) k (own_items f s h d.page) (omega (arith, ap length e)))
      refl (ap (pages_at h.capacity) e)

  module _ (some : d.page ≡ 0 → ⊥) {pg : List ℕ} (is : pg ≡ page_at f s h d.page) (pass : own_passes f s h k d ≡ true) where
    long : length (own_items f s h d.page) ≡ count pg
    long = ap length (items_are f s h d.page some is) ∙ length_items f pg

    pub plan_some : length (own_items f s h d.page) < h.capacity
        → record { rounds = 0; nodes = 0; pages = 0 } ≡ plan_of f h.theta h.capacity k (way_of f s h k d)
    unfolding way_of
    plan_some l =
        plan_is f h.theta h.capacity k (way_of f s h k d)
        (no_rounds h.capacity (width f - d.used) k (own_items f s h d.page) l)
        refl
        (pages_at_room h.capacity (own_items f s h d.page)
        (omega (arith, long, (rule_facts f h.capacity pg (own_rule f s h k d.page d.used some is (own_test_lem f s h k d pass))).some)) l)

    pub plan_room : {n m : ℕ} → n ≡ count pg → m ≡ h.capacity → n < m
        → record { rounds = 0; nodes = 0; pages = 0 } ≡ plan_of f h.theta h.capacity k (way_of f s h k d)
    plan_room e g l = plan_some (omega (arith, long))

    pub plan_full : {n m r c : ℕ} → n ≡ count pg → m ≡ h.capacity → m ≤ n → r ≡ rounds key_of (width f - d.used) k (items_in f pg)
        → c ≡ bump_costs r h.theta (map (λ t. t.depth) (take h.levels d.steps))
        → record { rounds = r; nodes = c; pages = 1 } ≡ plan_of f h.theta h.capacity k (way_of f s h k d)
    unfolding way_of path_in
    plan_full {r = r} e g l er ec =
        let full : h.capacity ≤ length (own_items f s h d.page) = omega (arith, long) in
        plan_is f h.theta h.capacity k (way_of f s h k d)
        (full_rounds h.capacity (width f - d.used) k (own_items f s h d.page) full
        ∙ ap (rounds key_of (width f - d.used) k) (items_are f s h d.page some is)
        ∙ sym er)
        (ap (bump_costs r h.theta) (depths_same f k (take h.levels d.steps)) ∙ sym ec)
        (pages_at_full h.capacity (own_items f s h d.page) full)

-- the rounds, one by one
module _ (f : Format) (θ C k : ℕ) (s : List ℕ) (h : Head) (d : Descent) (left : ℕ) (y : Fine f θ C k left (way_of f s h k d))
    (more : 0 < left) where
  fine_on : Fine f θ C k (suc (left - 1)) (way_of f s h k d)
  fine_on = let e : left ≡ suc (left - 1) = omega arith in subst (λ n. Fine f θ C k n (way_of f s h k d)) e y

  pub turn_can : Turnable f k (way_of f s h k d)
  turn_can =
      record {
        more = left - 1;
        fine =
            subst (λ a. Fine f a (head_of (way_of f s h k d).words).capacity k (suc (left - 1)) (way_of f s h k d)) (sym y.theta)
            (subst (λ b. Fine f θ b k (suc (left - 1)) (way_of f s h k d)) (sym y.capacity) fine_on);
      }

  -- a round made
  module _ (own : h ≡ head_of s) {v : Way} (e : v ≡ round_of f h.theta h.capacity k (way_of f s h k d)) where
    made : v ≡ round_of f θ C k (way_of f s h k d)
    unfolding way_of
    made =
        e
        ∙ ap₂ (λ a b. round_of f a b k (way_of f s h k d)) (ap (λ x. x.theta) own ∙ y.theta) (ap (λ x. x.capacity) own ∙ y.capacity)

    pub turn_fine : Fine f θ C k (left - 1) v
    turn_fine =
        subst (Fine f θ C k (left - 1)) (sym made)
        (round_fine f θ C k (left - 1) (way_of f s h k d) fine_on (round_full f θ C k (left - 1) (way_of f s h k d) fine_on))

    pub turn_rest : {last : Way} → rounds_of f θ C k left (way_of f s h k d) ≡ last → rounds_of f θ C k (left - 1) v ≡ last
    turn_rest q =
        let g : suc (left - 1) ≡ left = omega arith in
        ap (rounds_of f θ C k (left - 1)) made ∙ ap (λ n. rounds_of f θ C k n (way_of f s h k d)) g ∙ q

pub rounds_over : (f : Format) (θ C k : ℕ) {left : ℕ} {w last : Way} → left ≤ 0 → rounds_of f θ C k left w ≡ last → w ≡ last
rounds_over f θ C k {left} {w} z e =
    let g : 0 ≡ left = omega arith in
    ap (λ n. rounds_of f θ C k n w) g ∙ e

-- a descent has 32 steps
descend_long : (f : Format) (s : List ℕ) (h : Head) (k l n used : ℕ) (steps : List Step) → length steps ≡ 32
    → length (descend f s h k l n used steps).steps ≡ 32
unfolding descend step_taken lost no_steps
descend_long f s h k zero n used steps e = e
descend_long f s h k (suc l) n used steps e =
    by_cases (step_of f s h k (suc l) n used).ok
    (λ g.
    ap (λ (d : Descent). length d.steps) (sym (step_on f s h k l n used steps _ refl g))
    ∙ descend_long f s h k l _ _ _ (length-set steps l _ ∙ e))
    (λ g.
    sym (ap (λ (d : Descent). length d.steps) (step_lost f s h k l n used steps _ refl g))
    ∙ length-replicate 32 no_step)

-- past the tests of the head and of the record
pub record Begun (f : Format) (s : List ℕ) (it : Item) (h : Head) (d : Descent) : Type 0 where
  pub rule : head_rule f s ≡ true
  pub lawful : lawful_item f it ≡ true
  pub own : h ≡ head_of s
  pub way : d ≡ descent f s h it.key

module _ {f : Format} {s : List ℕ} {it : Item} {h : Head} {d : Descent} (b : Begun f s it h d) where
  pub begun_limits : (1 ≤ h.theta) × (h.theta ≤ 6) × (1 ≤ h.capacity) × (h.capacity ≤ largest_capacity) × (h.levels ≤ 32)
  begun_limits =
      let t = head_facts f s b.rule in
      let l = levels_within f (head_of s).theta (head_of s).capacity t.limits.theta_low in
      subst (λ x. (1 ≤ x.theta) × (x.theta ≤ 6) × (1 ≤ x.capacity) × (x.capacity ≤ largest_capacity) × (x.levels ≤ 32)) (sym b.own)
      (t.limits.theta_low, t.limits.theta, t.limits.capacity_low, t.limits.capacity, omega (arith, t.counts.levels))

  pub begun_narrow : it.key < 2 ^ width f
  begun_narrow = (lawful_key f it b.lawful).1

  pub begun_long : length d.steps ≡ 32
  unfolding descent no_steps
  begun_long =
      ap (λ x. length x.steps) b.way ∙ descend_long f s h it.key h.levels h.root 0 no_steps (length-replicate 32 no_step)

  pub begun_carries : Carries s h d.steps
  begun_carries =
      record {
        head_is = b.own;
        long = begun_long;
        low = subst (λ x. 1 ≤ x.levels) (sym b.own) (head_facts f s b.rule).counts.levels_low;
        high = begun_limits.4;
      }

  found_is : d ≡ found f s it
  found_is = b.way ∙ ap (λ x. descent f s x it.key) b.own

  sound_is : undamaged f s h it.key d ≡ undamaged f s (head_of s) it.key (found f s it)
  sound_is = ap₂ (λ x y. undamaged f s x it.key y) b.own found_is

  start_is : way_of f s h it.key d ≡ start_of f s it
  start_is = ap₂ (λ x y. way_of f s x it.key y) b.own found_is

  pub begun_damaged : undamaged f s h it.key d ≡ false → enter_of f s it ≡ unchanged s 9
  begun_damaged e = enter_9 f s it b.rule b.lawful (sym sound_is ∙ e)

  -- the way is sound
  module _ (sound : undamaged f s h it.key d ≡ true) where
    pub begun_own : own_passes f s h it.key d ≡ true
    unfolding undamaged
    begun_own = (and_three d.ok (own_passes f s h it.key d) (neighbour_ok s h (get_or d.steps 0 no_step).node) sound).1

    new_is : (t : Bool) → contains key_of it.key (own_items f s h d.page) ≡ t
        → not (contains key_of it.key (start_of f s it).items) ≡ not t
    unfolding way_of
    new_is t e = ap not (sym (ap (λ (w : Way). contains key_of it.key w.items) start_is) ∙ e)

    pub begun_held : {r : Bool} → r ≡ contains key_of it.key (own_items f s h d.page) → r ≡ true → enter_of f s it ≡ unchanged s 8
    begun_held e q = enter_8 f s it b.rule b.lawful (sym sound_is ∙ sound) (new_is true (sym e ∙ q))

pages_one : (C : ℕ) (xs : List Item) → pages_at C xs ≤ 1
unfolding pages_at
pages_one C [] = omega arith
pages_one C (x ∷ xs) =
    elim (dec_lt (length (x ∷ xs)) C) [
      | yes h ↦ omega (arith, pages_at_room C (x ∷ xs) (omega arith) h)
      | no h ↦ omega (arith, pages_at_full C (x ∷ xs) (omega arith))
    ]

-- past the test of the key
pub record Tested (f : Format) (s : List ℕ) (it : Item) (h : Head) (d : Descent) (p : Plan) : Type 0 where
  pub begun : Begun f s it h d
  pub sound : undamaged f s h it.key d ≡ true
  pub new : contains key_of it.key (own_items f s h d.page) ≡ false
  pub plan : p ≡ plan_of f h.theta h.capacity it.key (way_of f s h it.key d)

module _ {f : Format} {s : List ℕ} {it : Item} {h : Head} {d : Descent} {p : Plan} (t : Tested f s it h d p) where
  plan_same : p ≡ plan_for f s it
  plan_same =
      t.plan ∙ ap₂ (λ x w. plan_of f x.theta x.capacity it.key w) t.begun.own (start_is t.begun)

  abbrev fits : Plan → Bool
  fits q = leb q.nodes (nodes_left s) && leb q.pages (pages_left s)

  abbrev chained : Plan → Bool
  chained q = nodes_ok s q.nodes && pages_ok f s q.pages

  -- at most one page is taken
  pub one_page : p.pages ≤ 1
  unfolding plan_of
  one_page = omega (arith, ap (λ q. q.pages) t.plan, pages_one h.capacity (way_of f s h it.key d).items)

  pub no_room : fits p ≡ false → enter_of f s it ≡ unchanged s 10
  no_room e =
      let b = t.begun in
      enter_10 f s it b.rule b.lawful (sym (sound_is b) ∙ t.sound) (new_is b t.sound false t.new)
      (sym (ap fits plan_same) ∙ e)

  pub no_chain : fits p ≡ true → chained p ≡ false → enter_of f s it ≡ unchanged s 9
  no_chain g e =
      let b = t.begun in
      enter_chain f s it b.rule b.lawful (sym (sound_is b) ∙ t.sound) (new_is b t.sound false t.new)
      (sym (ap fits plan_same) ∙ g) (sym (ap chained plan_same) ∙ e)

  -- all tests are passed
  module _ (room : fits p ≡ true) (chain : chained p ≡ true) where
    all_passed : Passed f s it
    all_passed =
        let b = t.begun in
        record {
          head = b.rule;
          lawful = b.lawful;
          sound = sym (sound_is b) ∙ t.sound;
          new = new_is b t.sound false t.new;
          room = sym (ap fits plan_same) ∙ room;
          chained = sym (ap chained plan_same) ∙ chain;
        }

    pub tested_fine : Fine f h.theta h.capacity it.key p.rounds (way_of f s h it.key d)
    tested_fine =
        let b = t.begun in
        subst (λ x. Fine f x.theta x.capacity it.key p.rounds (way_of f s h it.key d)) (sym b.own)
        (subst (Fine f (head_of s).theta (head_of s).capacity it.key p.rounds) (sym (start_is b))
        (subst (λ n. Fine f (head_of s).theta (head_of s).capacity it.key n (start_of f s it)) (sym (ap (λ q. q.rounds) plan_same))
        (passed_fine f s it all_passed)))

    -- where no round is left, the record may be put
    pub tested_placing : p.rounds ≡ 0 → {e : End} → e ≡ end_of d → Placing f s h e it d
    tested_placing z g =
        record {
          ends = g;
          carries = begun_carries t.begun;
          fine = subst (λ n. Fine f h.theta h.capacity it.key n (way_of f s h it.key d)) z tested_fine;
        }

-- with room made
pub record Roomy (f : Format) (s : List ℕ) (it : Item) (h : Head) (d : Descent) (p : Plan) (v : List ℕ) (g : Head) (e : Descent) :
    Type 0 where
  pub tested : Tested f s it h d p
  pub room : (leb p.nodes (nodes_left s) && leb p.pages (pages_left s)) ≡ true
  pub chain : (nodes_ok s p.nodes && pages_ok f s p.pages) ≡ true
  pub own : g ≡ head_of v
  pub way : way_of f v g it.key e ≡ rounds_of f h.theta h.capacity it.key p.rounds (way_of f s h it.key d)

module _ {f : Format} {s : List ℕ} {it : Item} {h : Head} {d : Descent} {p : Plan} {v : List ℕ} {g : Head} {e : Descent}
    (m : Roomy f s it h d p v g e) where
  last_fine : Fine f h.theta h.capacity it.key 0 (way_of f v g it.key e)
  last_fine =
      subst (Fine f h.theta h.capacity it.key 0) (sym m.way)
      (rounds_fine f h.theta h.capacity it.key p.rounds (way_of f s h it.key d)
      (tested_fine m.tested m.room m.chain)).fine

  theta_is : g.theta ≡ h.theta
  unfolding way_of
  theta_is = ap (λ x. x.theta) m.own ∙ last_fine.theta

  capacity_is : g.capacity ≡ h.capacity
  unfolding way_of
  capacity_is = ap (λ x. x.capacity) m.own ∙ last_fine.capacity

  room_fine : Fine f g.theta g.capacity it.key 0 (way_of f v g it.key e)
  room_fine =
      subst (λ θ. Fine f θ g.capacity it.key 0 (way_of f v g it.key e)) (sym theta_is)
      (subst (λ C. Fine f h.theta C it.key 0 (way_of f v g it.key e)) (sym capacity_is) last_fine)

  pub room_placing : Carries v g e.steps → {z : End} → z ≡ end_of e → Placing f v g z it e
  room_placing c q = record { ends = q; carries = c; fine = room_fine }

  -- and the record put
  module _ {u : List ℕ} (put : u ≡ placed f g.theta g.capacity it (way_of f v g it.key e)) where
    words_are : u ≡ entered_words f s it
    unfolding entered_words
    words_are =
        put
        ∙ ap₂ (λ θ C. placed f θ C it (way_of f v g it.key e)) theta_is capacity_is
        ∙ ap (placed f h.theta h.capacity it) m.way
        ∙ ap₂ (λ x w. placed f x.theta x.capacity it (rounds_of f x.theta x.capacity it.key p.rounds w))
        m.tested.begun.own (start_is m.tested.begun)
        ∙ ap (λ n.
        placed f (head_of s).theta (head_of s).capacity it
        (rounds_of f (head_of s).theta (head_of s).capacity it.key n (start_of f s it)))
        (ap (λ q. q.rounds) (plan_same m.tested))

    done_is : enter_of f s it ≡ done it u
    done_is = enter_done f s it (all_passed m.tested m.room m.chain) ∙ ap (done it) (sym words_are)

    pub enters : (a : Result Entered Refusal) → enter_reply a ≡ (done it u).reply → (enter_reply a ≡ (enter_of f s it).reply) × (u ≡ (enter_of f s it).words)
    unfolding done
    enters a e = (e ∙ sym (ap (λ x. x.reply) done_is), sym (ap (λ x. x.words) done_is))

-- the answer to an entry that was done
pub entered_is : (it : Item) (u : List ℕ) {r : Head} {z : Released} {k n m : ℕ} → it.key ≡ k → r ≡ head_of u → z ≡ released_of u
    → n ≡ r.nodes_taken - z.nodes → m ≡ r.pages_taken - z.pages
    → enter_reply (Ok (record { key = k; levels = r.levels; nodes = n; pages = m })) ≡ (done it u).reply
unfolding done
entered_is it u {r} {z} {k} {n} {m} e q o i j =
    ap₂ (λ n m. enter_reply (Ok (record { key = k; levels = r.levels; nodes = n; pages = m }))) i j
    ∙ ap₂ (λ (x : Head) (z : Released). enter_reply
    (Ok (record { key = k; levels = x.levels; nodes = x.nodes_taken - z.nodes; pages = x.pages_taken - z.pages }))) q o
    ∙ ap (λ k. enter_reply
    (Ok (record {
      key = k;
      levels = (head_of u).levels;
      nodes = (head_of u).nodes_taken - (released_of u).nodes;
      pages = (head_of u).pages_taken - (released_of u).pages;
    }))) (sym e)

-- past the tests 3, 6, 9 and 8
module _ {f : Format} {s : List ℕ} {it : Item} {h : Head} (a : Accepted f s it h) where
  pub accepted_tested : {d : Descent} {p : Plan} → d ≡ descent f s h it.key
      → p ≡ plan_of f h.theta h.capacity it.key (way_of f s h it.key d) → Tested f s it h d p
  accepted_tested {d} e g =
      record {
        begun = record { rule = a.rule; lawful = a.lawful; own = a.own; way = e };
        sound = ap (undamaged f s h it.key) e ∙ a.sound;
        new = ap (λ (x : Descent). contains key_of it.key (own_items f s h x.page)) e ∙ a.new;
        plan = g;
      }

  pub accepted_way : (descent f s h it.key).ok ≡ true
  unfolding undamaged
  accepted_way = (and_three _ (own_passes f s h it.key (descent f s h it.key)) (neighbour_ok s h (get_or (descent f s h it.key).steps 0 no_step).node) a.sound).0

  pub accepted_limits : (1 ≤ h.theta) × (h.theta ≤ 6) × (1 ≤ h.capacity) × (h.capacity ≤ largest_capacity) × (h.levels ≤ 32)
  accepted_limits = begun_limits (record { rule = a.rule; lawful = a.lawful; own = a.own; way = refl })

  pub accepted_own : {d : Descent} → d ≡ descent f s h it.key → own_passes f s h it.key d ≡ true
  accepted_own e = let t = accepted_tested e refl in begun_own t.begun t.sound

  -- where the way ends
  module _ {e : End} (ends : e ≡ end_of (descent f s h it.key)) where
    abbrev d : Descent
    d = descent f s h it.key

    page_is : e.page ≡ d.page
    page_is = ap (λ x. x.page) ends

    pub null_tested : e.page ≡ 0 → Tested f s it h d (record { rounds = 0; nodes = 0; pages = 1 })
    null_tested z = accepted_tested refl (plan_null f s h it.key d (sym page_is ∙ z) accepted_limits.2)

    pub room_tested : (e.page ≡ 0 → ⊥) → length (own_items f s h e.page) < h.capacity
        → Tested f s it h d (record { rounds = 0; nodes = 0; pages = 0 })
    room_tested some small =
        accepted_tested refl
        (plan_some f s h it.key d (λ q. some (page_is ∙ q)) refl (accepted_own refl)
        (subst (λ p. length (own_items f s h p) < h.capacity) page_is small))

-- no block is asked for
pub no_blocks : (f : Format) (s : List ℕ) → (nodes_ok s 0 && pages_ok f s 0) ≡ true
unfolding nodes_ok pages_ok chain_ok
no_blocks f s = refl

pub no_need : (s : List ℕ) → (leb 0 (nodes_left s) && leb 0 (pages_left s)) ≡ true
no_need s = ap₂ ◌&&◌ (le-leb 0 (nodes_left s) (omega arith)) (le-leb 0 (pages_left s) (omega arith))

-- where there is no round, nothing is to be made
pub still : {f : Format} {s : List ℕ} {it : Item} {h : Head} {d : Descent} {n : ℕ} (t : Tested f s it h d (record { rounds = 0; nodes = 0; pages = n }))
    → (leb 0 (nodes_left s) && leb n (pages_left s)) ≡ true → (nodes_ok s 0 && pages_ok f s n) ≡ true
    → Roomy f s it h d (record { rounds = 0; nodes = 0; pages = n }) s h d
still t room chain = record { tested = t; room = room; chain = chain; own = t.begun.own; way = refl }

-- a refusal
pub refuses : {a : After} {s : List ℕ} {n : ℕ} → a ≡ unchanged s n → (refused n ≡ a.reply) × (s ≡ a.words)
refuses e = (sym (ap (λ x. x.reply) e), sym (ap (λ x. x.words) e))
