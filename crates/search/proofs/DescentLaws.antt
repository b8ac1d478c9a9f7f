-- A descent, visit by visit: what a visited node gives, one turn of the way down, and what a whole way has at its end.
use mathlib.Core.Path.{◌≡◌, sym, ap, ◌∙◌}
use mathlib.Core.Bool.{true, false, false≢true}
use mathlib.Core.List.{List}
use mathlib.Core.Logic.{inl, inr}
use Prim.Native.Nat.{ℕ, suc, ◌+◌, ◌-◌, ◌≤◌, ◌<◌}
use native.Mathlib.Omega.{arith}
use lib.Dec.{leb}
use borrow.Author.Tests.{leb-true, le-leb, ne_eqb}
use Rattle.lists.proofs.Cases.{bool_cases, by_cases}
use Rattle.lists.proofs.Tests.{and_true}
use Rattle.store.specs.declared.Format.{Format}
use Rattle.store.specs.declared.Head.{Head}
use Rattle.store.specs.Format.{width}
use Rattle.store.specs.Head.{node_start, InUse}
use Rattle.node.specs.Node.{depth_word, entry_depth, entry_pointer, entry_of, pointer_low, pointer_high, node_rule, entry_number}
use Rattle.node.proofs.NodeLaws.{node_facts}
use Rattle.node.proofs.RunWalk.{Good, good_facts}
use Rattle.node.proofs.EntryNumber.{entry_below}
use Rattle.search.specs.declared.Step.{Step}
use Rattle.search.specs.Way.{Visit}
use Rattle.search.specs.Way.{Descent}
use Rattle.search.specs.Way.{Terminal}
use Rattle.search.specs.Descent.{damaged_node, entry_visit, sound_node, step_of, lost, step_taken, descend}
use Rattle.search.specs.Descent.{lost_terminal, terminal_from, own_visit}

-- a sound node keeps the node rule, and the key has its bits
pub sound_facts : (f : Format) (s : List ℕ) (h : Head) (level n used : ℕ) → sound_node f s h level n used ≡ true
    → (node_rule h s (node_start h n) level ≡ true) × (used + depth_word s (node_start h n) ≤ width f)
sound_facts f s h level n used e =
    let a = and_true (node_rule h s (node_start h n) level) (leb (used + depth_word s (node_start h n)) (width f)) e in
    (a.0, leb-true _ _ a.1)

-- a visit
module _ (f : Format) (s : List ℕ) (h : Head) (k level n used : ℕ) where
  pub step_damaged : sound_node f s h level n used ≡ false → damaged_node ≡ step_of f s h k level n used
  unfolding step_of
  step_damaged e = rw (e, step_of)

  pub step_entry : sound_node f s h level n used ≡ true → own_visit f s h k n used ≡ step_of f s h k level n used
  unfolding step_of own_visit
  step_entry e = rw (e, step_of)

  -- a visit from numbers that are known of the node
  pub visit_entry : (d i deep pointer : ℕ) → node_rule h s (node_start h n) level ≡ true → d ≡ depth_word s (node_start h n) → used + d ≤ width f
      → i ≡ entry_number (width f) k used d → deep ≡ entry_depth s (node_start h n) i → pointer ≡ entry_pointer s (node_start h n) i
      → record { ok = true; entry = i; depth = deep; pointer = pointer } ≡ step_of f s h k level n used
  unfolding own_visit entry_visit
  visit_entry d i deep pointer rule e room ei p q =
      let t : leb (used + depth_word s (node_start h n)) (width f) ≡ true = le-leb _ _ (rw e at room) in
      (rw (p, q, ei, e)) ∙ step_entry (rw (rule, t))

  -- a node whose visit succeeds is sound
  pub visited_sound : (step_of f s h k level n used).ok ≡ true → sound_node f s h level n used ≡ true
  unfolding damaged_node
  visited_sound e =
      elim (bool_cases (sound_node f s h level n used)) [
        | inl a ↦ a
        | inr a ↦ absurd (false≢true (ap (λ v. v.ok) (step_damaged a) ∙ e))
      ]

  -- the key's entry in a sound node
  module _ (e : sound_node f s h level n used ≡ true) where
    rule : node_rule h s (node_start h n) level ≡ true
    rule = (sound_facts f s h level n used e).0

    runs : Good (depth_word s (node_start h n)) (pointer_low level) (pointer_high h level) (entry_of s (node_start h n))
    runs = good_facts _ _ _ _ (node_facts h s (node_start h n) level rule).runs

    pub node_deep : depth_word s (node_start h n) ≤ h.theta
    node_deep = (node_facts h s (node_start h n) level rule).depth

    pub node_bits : used + depth_word s (node_start h n) ≤ width f
    node_bits = (sound_facts f s h level n used e).1

    pub own_bits : used + (own_visit f s h k n used).depth ≤ width f
    unfolding own_visit entry_visit
    own_bits = omega (arith, (runs.rule _ (entry_below (width f) k used (depth_word s (node_start h n)))).0, node_bits)

    pub own_pointer : (pointer_low level ≤ (own_visit f s h k n used).pointer) × ((own_visit f s h k n used).pointer ≤ pointer_high h level)
    unfolding own_visit entry_visit
    own_pointer = runs.pointers _ (entry_below (width f) k used (depth_word s (node_start h n)))

-- above level 1 an entry leads to a node in use
pub own_in_use : (f : Format) (s : List ℕ) (h : Head) (k level n used : ℕ) → sound_node f s h level n used ≡ true → 1 < level
    → InUse h (own_visit f s h k n used).pointer
unfolding pointer_low pointer_high
own_in_use f s h k level n used e up =
    let p = rw (ne_eqb level 1 (λ z. omega arith), pointer_low, pointer_high) at (own_pointer f s h k level n used e) in
    record { positive = p.0; within = p.1 }

-- what the code has of a visit, v, that succeeded
module _ (f : Format) (s : List ℕ) (h : Head) (k level n used : ℕ) {v : Visit} (e : v ≡ step_of f s h k level n used) (o : v.ok ≡ true) where
  seen : sound_node f s h level n used ≡ true
  seen = visited_sound f s h k level n used (sym (ap (λ x. x.ok) e) ∙ o)

  pub seen_own : v ≡ own_visit f s h k n used
  seen_own = e ∙ sym (step_entry f s h k level n used seen)

  pub seen_bits : used + v.depth ≤ width f
  seen_bits = rw seen_own (own_bits f s h k level n used seen)

  pub seen_pointer : (pointer_low level ≤ v.pointer) × (v.pointer ≤ pointer_high h level)
  seen_pointer = rw seen_own (own_pointer f s h k level n used seen)

  pub seen_in_use : 1 < level → InUse h v.pointer
  seen_in_use up = rw seen_own (own_in_use f s h k level n used seen up)

-- one turn of the way to the terminal node
module _ (f : Format) (s : List ℕ) (h : Head) (k l n used : ℕ) (v : Visit) (e : v ≡ step_of f s h k (suc (suc l)) n used) where
  pub way_step : v.ok ≡ true → terminal_from f s h k l v.pointer (used + v.depth) ≡ terminal_from f s h k (suc l) n used
  unfolding terminal_from
  way_step p = rw e (sym (rw (rw e at p, terminal_from)))

  pub way_end : v.ok ≡ false → lost_terminal ≡ terminal_from f s h k (suc l) n used
  unfolding terminal_from
  way_end p = sym (rw (rw e at p, terminal_from))

-- the same as a loop has it: what is left of the way is the whole, R
module _ (f : Format) (s : List ℕ) (h : Head) (k level n used : ℕ) (R : Terminal) (inv : terminal_from f s h k (level - 1) n used ≡ R) where
  module _ (v : Visit) (e : v ≡ step_of f s h k level n used) (up : 1 < level) where
    whole : terminal_from f s h k (suc (level - 2)) n used ≡ R
    whole = let z : suc (level - 2) ≡ level - 1 = omega arith in ap (λ l. terminal_from f s h k l n used) z ∙ inv

    visit : v ≡ step_of f s h k (suc (suc (level - 2))) n used
    visit = let z : level ≡ suc (suc (level - 2)) = omega arith in e ∙ ap (λ l. step_of f s h k l n used) z

    pub way_lost : v.ok ≡ false → lost_terminal ≡ R
    way_lost p = way_end f s h k (level - 2) n used v visit p ∙ whole

    pub way_on : v.ok ≡ true → terminal_from f s h k (level - 1 - 1) v.pointer (used + v.depth) ≡ R
    way_on p =
        let z : level - 1 - 1 ≡ level - 2 = omega arith in
        ap (λ l. terminal_from f s h k l v.pointer (used + v.depth)) z ∙ way_step f s h k (level - 2) n used v visit p ∙ whole

    -- a way with an end passes a sound node
    pub way_visited : R.ok ≡ true → v.ok ≡ true
    unfolding lost_terminal
    way_visited o = by_cases v.ok (λ p. p) (λ p. absurd (false≢true (ap (λ t. t.ok) (way_lost p) ∙ o)))

  module _ (last : level ≡ 1) where
    pub way_sound : sound_node f s h 1 n used ≡ true → record { ok = true; node = n; used = used } ≡ R
    unfolding terminal_from
    way_sound t = sym (rw (t, terminal_from)) ∙ rw last at inv

    pub way_unsound : sound_node f s h 1 n used ≡ false → lost_terminal ≡ R
    unfolding terminal_from
    way_unsound t = sym (rw (t, terminal_from)) ∙ rw last at inv

    pub way_ends : R.ok ≡ true → sound_node f s h 1 n used ≡ true
    unfolding lost_terminal
    way_ends o =
        by_cases (sound_node f s h 1 n used) (λ p. p) (λ p. absurd (false≢true (ap (λ t. t.ok) (way_unsound p) ∙ o)))

-- one turn
module _ (f : Format) (s : List ℕ) (h : Head) (k : ℕ) where
  module _ (l n used : ℕ) (steps : List Step) (v : Visit) (e : v ≡ step_of f s h k (suc l) n used) where
    pub step_lost : v.ok ≡ false → lost ≡ descend f s h k (suc l) n used steps
    unfolding descend
    step_lost p = rw (rw e at p, descend)

    pub step_on : v.ok ≡ true
        → descend f s h k l v.pointer (used + v.depth) (step_taken steps l n used v) ≡ descend f s h k (suc l) n used steps
    unfolding descend step_taken
    step_on p = rw (e, rw e at p, descend)

  -- as a loop has it: what is left of the way is the whole, R
  module _ (level n used : ℕ) (steps : List Step) (v : Visit) (e : v ≡ step_of f s h k level n used) (above : 0 < level)
      (R : Descent) (inv : descend f s h k level n used steps ≡ R) where
    down : level ≡ suc (level - 1)
    down = omega arith

    pub turn_lost : v.ok ≡ false → lost ≡ R
    turn_lost p = step_lost (level - 1) n used steps v (rw down at e) p ∙ rw down at inv

    pub turn_visited : R.ok ≡ true → v.ok ≡ true
    unfolding lost
    turn_visited o = by_cases v.ok (λ p. p) (λ p. absurd (false≢true (ap (λ d. d.ok) (turn_lost p) ∙ o)))

    pub turn_on : v.ok ≡ true → descend f s h k (level - 1) v.pointer (used + v.depth) (step_taken steps (level - 1) n used v) ≡ R
    turn_on p = step_on (level - 1) n used steps v (rw down at e) p ∙ rw down at inv

  pub turn_out : (level n used : ℕ) (steps : List Step) → level ≡ 0 → (R : Descent) → descend f s h k level n used steps ≡ R
      → record { ok = true; page = n; used = used; steps = steps } ≡ R
  unfolding descend
  turn_out level n used steps z R inv = rw z at inv
