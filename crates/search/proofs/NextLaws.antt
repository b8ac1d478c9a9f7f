-- The way on from a key's own page, test by test, and what it gives: a lawful record with a key above the given one.
--   Walked s b H start i == the walk over the entries of a node from entry start on stands at entry i
--   Leads s h x          == the hop x leads to a terminal node, if to any
--   Some s h a           == what was reached, a, is no null page
--   Given a              == the answer a gives no record or a lawful one with a key above k
use mathlib.Core.Path.{◌≡◌, refl, sym, ap, ◌∙◌, subst}
use mathlib.Core.Bool.{Bool, true, false}
use mathlib.Core.List.{List}
use Prim.Native.Nat.{ℕ, zero, suc, ◌+◌, ◌-◌, ◌%◌, ◌^◌, ◌≤◌, ◌<◌}
use native.Mathlib.Omega.{arith}
use lib.Dec.{leb, ltb, eqb}
use lib.Pow.{pow_pos, pow_mono}
use borrow.Author.Tests.{leb-true, lt-ltb, le-ltb, ltb-true, eqb-false, eq-eqb, ne_eqb}
use Rattle.lists.specs.Lists.{every}
use Rattle.lists.proofs.Cases.{by_cases}
use Rattle.lists.proofs.Tests.{and_true}
use Rattle.store.specs.declared.Format.{Format}
use Rattle.store.specs.declared.Head.{Head}
use Rattle.store.specs.declared.Item.{Item}
use Rattle.store.specs.Head.{node_start, page_at, InUse}
use Rattle.node.specs.Node.{back_word, forward_word, entry_depth, entry_pointer, link_rule, node_rule}
use Rattle.node.proofs.NodeLaws.{node_facts}
use Rattle.page.specs.Page.{count, item_at, key_at, lawful_item, page_rule, above, first_above}
use Rattle.page.proofs.Laws.{rule_facts, all_above, first_facts}
use Rattle.search.specs.Way.{Descent}
use Rattle.search.specs.declared.Step.{Step}
use Rattle.search.specs.Way.{Sought}
use Rattle.search.specs.Way.{Record, Nothing, Damaged}
use Rattle.search.specs.Way.{Reached}
use Rattle.search.specs.Way.{Page, Past, Broken}
use Rattle.search.specs.Way.{Hop}
use Rattle.search.specs.Way.{Ends, On}
use Rattle.search.specs.Descent.{TerminalNode, descent}
use Rattle.search.specs.Find.{sound_page}
use Rattle.search.specs.Next.{first_pointer, run_after, visit_after, linked, onward, pointer_from, hop, reach, visited}
use Rattle.search.specs.Next.{after_own, from_descent, next_of}
use Rattle.search.proofs.FindLaws.{sound_lawful}

-- where the next run starts, from numbers that the code has
pub run_after_is :
    (H h i n d a : ℕ) → d ≡ H - h → n ≡ 2 ^ d → a ≡ i → n ≤ 64 → i < 2 ^ 32 → (a - a % n + n ≡ run_after H h i) × (a - a % n + n < 2 ^ 33)
unfolding run_after
run_after_is H h i n d a p q r l m = (rw (r, q, p), omega arith)

-- the first pointer that is not null
module _ (s : List ℕ) (b H : ℕ) where
  pointer_past : (n i : ℕ) → 2 ^ H ≤ i → first_pointer s b H n i ≡ 0
  unfolding first_pointer
  pointer_past zero i h = refl
  pointer_past (suc n) i h = rw (le-ltb i (2 ^ H) h, first_pointer)

  pointer_here : (n i : ℕ) → i < 2 ^ H → (entry_pointer s b i ≡ 0 → ⊥) → first_pointer s b H (suc n) i ≡ entry_pointer s b i
  unfolding first_pointer
  pointer_here n i h p = rw (lt-ltb i (2 ^ H) h, ne_eqb _ 0 p, first_pointer)

  pointer_on : (n i : ℕ) → i < 2 ^ H → entry_pointer s b i ≡ 0
      → first_pointer s b H (suc n) i ≡ first_pointer s b H n (i + 2 ^ (H - entry_depth s b i))
  unfolding first_pointer
  pointer_on n i h p = rw (lt-ltb i (2 ^ H) h, eq-eqb _ 0 p, first_pointer)

  pub record Walked (start i : ℕ) : Type 0 where
    pub fuel : ℕ
    pub enough : 2 ^ H ≤ i + fuel
    pub same : first_pointer s b H fuel i ≡ first_pointer s b H 64 start

  pub walked_none : (start : ℕ) → H ≤ 6 → Walked start start
  walked_none start h = record { fuel = 64; enough = omega (arith, pow_mono {i = H} {j = 6} h); same = refl }

  module _ {start i : ℕ} (w : Walked start i) where
    pub walked_end : 2 ^ H ≤ i → 0 ≡ first_pointer s b H 64 start
    walked_end h = sym (pointer_past w.fuel i h) ∙ w.same

    module _ (h : i < 2 ^ H) where
      fuel_left : (w.fuel ≡ suc (w.fuel - 1))
      fuel_left = omega (arith, w.enough)

      pub walked_here : {p : ℕ} → p ≡ entry_pointer s b i → (p ≡ 0 → ⊥) → p ≡ first_pointer s b H 64 start
      walked_here e q =
          e ∙ sym (pointer_here (w.fuel - 1) i h (λ z. q (e ∙ z))) ∙ sym (ap (λ (n : ℕ). first_pointer s b H n i) fuel_left) ∙ w.same

      pub walked_on : {p d t n : ℕ} → p ≡ entry_pointer s b i → p ≡ 0 → t ≡ entry_depth s b i → d ≡ H - t → n ≡ 2 ^ d → Walked start (i + n)
      walked_on e q et ed en =
          let m = en ∙ ap (λ (x : ℕ). 2 ^ x) ed ∙ ap (λ (x : ℕ). 2 ^ (H - x)) et in
          rw m
          record {
            fuel = w.fuel - 1;
            enough = omega (arith, w.enough, pow_pos (H - entry_depth s b i));
            same = sym (pointer_on (w.fuel - 1) i h (sym e ∙ q)) ∙ sym (ap (λ (n : ℕ). first_pointer s b H n i) fuel_left) ∙ w.same;
          }

-- a page read after the key's own; pg is what the code has of it
module _ (f : Format) (s : List ℕ) (h : Head) (strict : Bool) (k p : ℕ) {pg : List ℕ} (e : pg ≡ page_at f s h p) where
  pub visit_broken : page_rule f h.capacity pg ≡ false → Damaged ≡ visit_after f s h strict k p
  unfolding visit_after
  visit_broken t = sym (rw (rw e at t, visit_after))

  module _ (t : page_rule f h.capacity pg ≡ true) {it : Item} (ei : it ≡ item_at f pg 0) where
    same_key : {b : Bool} → above strict k it.key ≡ b
        → every (count (page_at f s h p)) (λ i. above strict k (key_at f (page_at f s h p) i)) ≡ b
    same_key q =
        all_above f h.capacity (page_at f s h p) strict k (rw e at t) ∙ sym (ap (λ (x : Item). above strict k x.key) (rw e at ei)) ∙ q

    pub visit_below : above strict k it.key ≡ false → Damaged ≡ visit_after f s h strict k p
    unfolding visit_after
    visit_below q = sym (rw (rw e at t, same_key q, visit_after))

    pub visit_gives : above strict k it.key ≡ true → Record it ≡ visit_after f s h strict k p
    unfolding visit_after
    visit_gives q = sym (rw (rw e at t, same_key q, visit_after) (sym (ap Record (rw e at ei))))

-- a node that a terminal node links to is in use
module _ (h : Head) (s : List ℕ) (n : ℕ) (t : node_rule h s (node_start h n) 1 ≡ true) where
  pub forward_within : forward_word s (node_start h n) ≤ h.nodes_taken
  unfolding link_rule
  forward_within =
      let b : ℕ = node_start h n in
      leb-true _ _ (and_true (leb (back_word s b) h.nodes_taken) (leb (forward_word s b) h.nodes_taken) (node_facts h s b 1 t).links).1

  pub forward_used : (forward_word s (node_start h n) ≡ 0 → ⊥) → InUse h (forward_word s (node_start h n))
  forward_used z = record { positive = omega arith; within = forward_within }

-- the node after n; m is what the code has of its forward link
module _ (h : Head) (s : List ℕ) (n left : ℕ) {m : ℕ} (em : m ≡ forward_word s (node_start h n)) where
  pub onward_none : m ≡ 0 → Ends Past ≡ onward h s n left
  unfolding onward
  onward_none z = sym (rw (eq-eqb _ 0 (sym em ∙ z), onward))

  module _ (z : m ≡ 0 → ⊥) where
    more : eqb (forward_word s (node_start h n)) 0 ≡ false
    more = ne_eqb _ 0 (λ q. z (em ∙ q))

    pub onward_spent : left ≡ 0 → Ends Broken ≡ onward h s n left
    unfolding onward
    onward_spent l = sym (rw (more, eq-eqb left 0 l, onward))

    module _ (l : left ≡ 0 → ⊥) where
      pub onward_broken : linked h s m n ≡ false → Ends Broken ≡ onward h s n left
      unfolding onward
      onward_broken t = sym (rw (more, ne_eqb left 0 l, rw em at t, onward))

      pub onward_goes : linked h s m n ≡ true → On m ≡ onward h s n left
      unfolding onward
      onward_goes t = sym (rw (more, ne_eqb left 0 l, rw em at t, onward) (ap On (sym em)))

      -- where no damage is met the node is linked
      pub onward_linked : (onward h s n left ≡ Ends Broken → ⊥) → linked h s m n ≡ true
      onward_linked ok = by_cases (linked h s m n) (λ t. t) (λ t. absurd (ok (sym (onward_broken t))))

-- a hop; p is what the code has of the first pointer
module _ (s : List ℕ) (h : Head) (n i left : ℕ) {p : ℕ} (ep : p ≡ pointer_from s h n i) where
  pub hop_ends : (p ≡ 0 → ⊥) → Ends (Page p) ≡ hop s h n i left
  unfolding hop
  hop_ends z = sym (rw (ne_eqb (pointer_from s h n i) 0 (λ q. z (ep ∙ q)), hop) (ap (λ x. Ends (Page x)) (sym ep)))

  pub hop_onward : p ≡ 0 → onward h s n left ≡ hop s h n i left
  unfolding hop
  hop_onward z = sym (rw (eq-eqb (pointer_from s h n i) 0 (sym ep ∙ z), hop))

-- what holds of each outcome holds of the link and of the hop
module _ (P : Hop → Type 0) (h : Head) (s : List ℕ) (n left : ℕ) where
  pub onward_rule :
      P (Ends Past) →
      P (Ends Broken) →
      ((forward_word s (node_start h n) ≡ 0 → ⊥) → linked h s (forward_word s (node_start h n)) n ≡ true → P (On (forward_word s (node_start h n)))) →
      P (onward h s n left)
  unfolding onward
  onward_rule none damaged goes =
      by_cases (eqb (forward_word s (node_start h n)) 0)
      (λ z. rw (z, onward) none)
      (λ z.
      by_cases (eqb left 0)
      (λ l. rw (z, l, onward) damaged)
      (λ l.
      by_cases (linked h s (forward_word s (node_start h n)) n)
      (λ t. rw (z, l, t, onward) (goes (eqb-false _ _ z) t))
      (λ t. rw (z, l, t, onward) damaged)))

  hop_rule : (i : ℕ) → ((p : ℕ) → (p ≡ 0 → ⊥) → P (Ends (Page p))) → P (onward h s n left) → P (hop s h n i left)
  unfolding hop
  hop_rule i ends goes =
      by_cases (eqb (pointer_from s h n i) 0)
      (λ z. rw (z, hop) goes)
      (λ z. rw (z, hop) (ends _ (eqb-false _ _ z)))

-- a node that a link leads to keeps the node rule
pub linked_rule : (h : Head) (s : List ℕ) (m n : ℕ) → linked h s m n ≡ true → node_rule h s (node_start h m) 1 ≡ true
unfolding linked
linked_rule h s m n t = (and_true _ _ t).0

abbrev Leads : List ℕ → Head → Hop → Type 0
Leads s h (Ends a) = Unit {0}
Leads s h (On m) = TerminalNode h s m

module _ (s : List ℕ) (h : Head) where
  -- a hop from a terminal node leads to one
  hop_on : (n i left m : ℕ) → TerminalNode h s n → hop s h n i left ≡ On m → TerminalNode h s m
  hop_on n i left m t e =
      subst (Leads s h) e
      (hop_rule (Leads s h) h s n left i (λ p q. tt)
      (onward_rule (Leads s h) h s n left tt tt (λ z l. record { in_use = forward_used h s n t.rule z; rule = linked_rule h s _ n l })))

  -- turn by turn
  pub reach_ends : (left n i : ℕ) (a : Reached) → hop s h n i left ≡ Ends a → reach s h (suc left) n i ≡ a
  unfolding reach
  reach_ends left n i a e = rw (e, reach)

  pub reach_on : (left n i m : ℕ) → hop s h n i left ≡ On m → reach s h (suc left) n i ≡ reach s h left m 0
  unfolding reach
  reach_on left n i m e = rw (e, reach)

  pub reach_spent : (n i : ℕ) → Broken ≡ reach s h 0 n i
  unfolding reach
  reach_spent n i = refl

  -- a page that is reached is no null
  abbrev pub Some : Reached → Type 0
  Some (Page p) = p ≡ 0 → ⊥
  Some Past = Unit {0}
  Some Broken = Unit {0}

  abbrev HopSome : Hop → Type 0
  HopSome (Ends a) = Some a
  HopSome (On m) = Unit {0}

  reach_step : (left : ℕ) → ((m : ℕ) → Some (reach s h left m 0)) → (n i : ℕ) (x : Hop) → hop s h n i left ≡ x → HopSome x
      → Some (reach s h (suc left) n i)
  reach_step left rest n i (Ends a) e q = subst Some (sym (reach_ends left n i a e)) q
  reach_step left rest n i (On m) e q = subst Some (sym (reach_on left n i m e)) (rest m)

  pub reach_some : (turns n i : ℕ) → Some (reach s h turns n i)
  reach_some zero n i = subst Some (reach_spent n i) tt
  reach_some (suc left) n i =
      reach_step left (λ m. reach_some left m 0) n i (hop s h n i left) refl
      (hop_rule HopSome h s n left i (λ p q. q) (onward_rule HopSome h s n left tt tt (λ z t. tt)))

  -- a turn of the code, with the hop r
  module _ (turns n i : ℕ) {r : Hop} (some : 0 < turns) (er : r ≡ hop s h n i (turns - 1)) where
    one_more : suc (turns - 1) ≡ turns
    one_more = omega arith

    pub turn_ends : {a : Reached} → r ≡ Ends a → a ≡ reach s h turns n i
    turn_ends {a} e = sym (reach_ends (turns - 1) n i a (sym er ∙ e)) ∙ ap (λ (t : ℕ). reach s h t n i) one_more

    pub turn_on : {m : ℕ} → r ≡ On m → reach s h (turns - 1) m 0 ≡ reach s h turns n i
    turn_on {m} e = sym (reach_on (turns - 1) n i m (sym er ∙ e)) ∙ ap (λ (t : ℕ). reach s h t n i) one_more

    pub turn_node : TerminalNode h s n → {m : ℕ} → r ≡ On m → TerminalNode h s m
    turn_node t {m} e = hop_on n i (turns - 1) m t (sym er ∙ e)

module _ (f : Format) (s : List ℕ) (h : Head) (strict : Bool) (k : ℕ) where
  -- every record that is given is lawful and has a key above
  abbrev Given : Sought → Type 0
  Given (Record it) = (above strict k it.key ≡ true) × (lawful_item f it ≡ true)
  Given Nothing = Unit {0}
  Given Damaged = Unit {0}

  visit_given : (p : ℕ) → Given (visit_after f s h strict k p)
  visit_given p =
      by_cases (page_rule f h.capacity (page_at f s h p))
      (λ t.
      by_cases (above strict k (key_at f (page_at f s h p) 0))
      (λ a.
      let r = rule_facts f h.capacity (page_at f s h p) t in
      subst Given (visit_gives f s h strict k p refl t refl a) (a, r.order.lawful 0 r.some))
      (λ a. subst Given (visit_below f s h strict k p refl t refl a) tt))
      (λ t. subst Given (visit_broken f s h strict k p refl t) tt)

  visited_given : (a : Reached) → Given (visited f s h strict k a)
  unfolding visited
  visited_given (Page p) = visit_given p
  visited_given Past = tt
  visited_given Broken = tt

  own_given : (t : Step) → Given (after_own f s h strict k t)
  unfolding after_own
  own_given t = visited_given _

  descent_given : (d : Descent) → Given (from_descent f s h strict k d)
  unfolding from_descent
  descent_given d =
      let pg : List ℕ = page_at f s h d.page in
      by_cases d.ok
      (λ o.
      by_cases (eqb d.page 0)
      (λ z. rw (o, z, from_descent) (own_given _))
      (λ z.
      by_cases (sound_page f h (page_at f s h d.page) k d.used)
      (λ p.
      by_cases (ltb (first_above f (page_at f s h d.page) strict k) (count (page_at f s h d.page)))
      (λ l.
      rw (o, z, p, l, from_descent)
      ((first_facts f pg strict k).found (ltb-true _ _ l), sound_lawful f h pg k d.used _ p (ltb-true _ _ l)))
      (λ l. rw (o, z, p, l, from_descent) (own_given _)))
      (λ p. rw (o, z, p, from_descent) tt)))
      (λ o. rw (o, from_descent) tt)

  next_given : (it : Item) → next_of f s h strict k ≡ Record it → Given (Record it)
  unfolding next_of
  next_given it e = subst Given e (descent_given (descent f s h k))

  pub next_above : (it : Item) → next_of f s h strict k ≡ Record it → above strict k it.key ≡ true
  next_above it e = (next_given it e).0

  pub next_lawful : (it : Item) → next_of f s h strict k ≡ Record it → lawful_item f it ≡ true
  next_lawful it e = (next_given it e).1
