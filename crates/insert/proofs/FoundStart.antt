-- Where every test of enter is passed, the way that the descent found is a right one: each step is at a node that keeps its rule, so the
-- path is sound.
--   Path path l n used == the path is sound from level l + 1 up, with so many bits used, and leads to n, which may be pointed to from there
use mathlib.Core.Path.{◌≡◌, refl, sym, ap, ◌∙◌, subst}
use mathlib.Core.Bool.{true, false≢true}
use mathlib.Core.List.{List, [], ◌∷◌, map}
use mathlib.Core.Logic.{inl, inr}
use Prim.Native.Nat.{ℕ, zero, suc, ◌+◌, ◌-◌, ◌^◌, ◌≤◌, ◌<◌}
use native.Mathlib.Omega.{arith}
use lib.ListN.{length, get_or, take, drop, set, replicate, length-take, length-set, length-replicate, drop_of_length-le}
use Rattle.lists.specs.Bits.{bits}
use Rattle.lists.proofs.Cases.{bool_cases}
use Rattle.lists.proofs.Tests.{and_three}
use Rattle.represent.proofs.LabelLaws.{occ_at}
use Rattle.store.specs.declared.Format.{Format}
use Rattle.store.specs.declared.Head.{Head}
use Rattle.store.specs.declared.Item.{Item}
use Rattle.store.specs.Format.{width}
use Rattle.store.specs.Head.{head_of}
use Rattle.store.proofs.HeadLaws.{head_facts, levels_within}
use Rattle.page.proofs.Laws.{lawful_key}
use Rattle.search.specs.Way.{Visit}
use Rattle.search.specs.Way.{Descent}
use Rattle.search.specs.Descent.{no_step, no_steps, entry_visit, step_of, lost, step_taken, descend, descent, own_visit}
use Rattle.search.proofs.DescentLaws.{sound_facts, visited_sound, seen_own, step_lost, step_on}
use Rattle.represent.specs.Rep.{Sized}
use Rattle.split.specs.Round.{Place}
use Rattle.insert.specs.Enter.{own_passes, neighbour_ok, path_in, way_of, undamaged, found, start_of}
use Rattle.insert.specs.Fine.{depths, sum}
use Rattle.insert.proofs.Refusals.{Passed}
use Rattle.insert.proofs.InsideEnter.{Visited, drop_set, head_sized}
use Rattle.insert.proofs.FrameEnter.{start_off}
use Rattle.insert.proofs.FoundPath.{Enters, Stands, Sound}
use Rattle.insert.proofs.FoundNode.{rule_stands}
use Rattle.insert.proofs.FoundWay.{Right}

module _ (f : Format) (s : List ℕ) (k : ℕ) (ok : Sized f s) (fits : (head_of s).nodes_taken ≤ (head_of s).node_blocks) (narrow : k < 2 ^ width f)
  where
    abbrev h : Head
    h = head_of s

    abbrev step : Visited → Place
    step t = record { at = t.node; bits = bits (width f - t.used) k; depth = t.depth }

    abbrev Path : List Place → ℕ → ℕ → ℕ → Type 0
    Path path l n used = Sound f h.theta k s l path n × (sum (depths path) ≡ used) × Enters s l n

    -- a step taken
    step_stands : (l n used : ℕ) → (step_of f s h k (suc l) n used).ok ≡ true → (1 ≤ n) × (n ≤ h.nodes_taken)
        → Stands f h.theta k s l n (bits (width f - used) k) (step_of f s h k (suc l) n used).depth used
        (step_of f s h k (suc l) n used).pointer
    unfolding own_visit entry_visit
    step_stands l n used e within =
        let w = sound_facts f s h (suc l) n used (visited_sound f s h k (suc l) n used e) in
        let y = rule_stands f s ok fits k l n used narrow within w.0 w.1 _ refl in
        subst (λ (v : Visit). Stands f h.theta k s l n (bits (width f - used) k) v.depth used v.pointer)
        (sym (seen_own f s h k (suc l) n used refl e)) y

    descends : (top l n used : ℕ) (steps : List Visited) → length steps ≡ 32 → top ≤ 32 → l ≤ top
        → Path (map step (drop l (take top steps))) l n used → (descend f s h k l n used steps).ok ≡ true
        → let d = descend f s h k l n used steps in
        Path (map step (take top d.steps)) 0 d.page d.used
    unfolding descend step_taken lost
    descends top zero n used steps long small low y e = y
    descends top (suc l) n used steps long small low y e =
        elim (bool_cases (step_of f s h k (suc l) n used).ok) [
          | inr g ↦ absurd (false≢true (ap (λ (d : Descent). d.ok) (step_lost f s h k l n used steps _ refl g) ∙ e))
          | inl g ↦
              let v : Visit = step_of f s h k (suc l) n used in
              let t : Visited = record { node = n; entry = v.entry; depth = v.depth; used = used } in
              let on = step_on f s h k l n used steps _ refl g in
              let above : List Place = map step (drop (suc l) (take top steps)) in
              let z = step_stands l n used g y.2 in
              let path : map step (drop l (take top (set steps l t))) ≡ step t ∷ above =
              ap (map step) (drop_set l top steps t (omega arith) (omega arith)) in
              let new : Path (step t ∷ above) l v.pointer (used + v.depth) = (
                (
                  subst (λ u. Stands f h.theta k s l n (bits (width f - used) k) v.depth u v.pointer) (sym y.1) z,
                  y.0,
                ),
                omega (arith, y.1),
                subst (Enters s l) z.next_is (z.points _ (occ_at z.trie (bits (width f - used) k))),
              ) in
              subst (λ d. Path (map step (take top d.steps)) 0 d.page d.used) on
              (descends top l v.pointer (used + v.depth) (set steps l t) (length-set steps l t ∙ long) small (omega arith)
              (subst (λ ps. Path ps l v.pointer (used + v.depth)) (sym path) new) (ap (λ (d : Descent). d.ok) on ∙ e))
        ]

    descent_sound : 1 ≤ h.levels → h.levels ≤ 32 → (1 ≤ h.root) × (h.root ≤ h.nodes_taken) → (descent f s h k).ok ≡ true
        → let d = descent f s h k in
        Path (map step (take h.levels d.steps)) 0 d.page d.used
    unfolding descent no_steps
    descent_sound low small within e =
        let none : drop h.levels (take h.levels (replicate 32 no_step)) ≡ [] =
        drop_of_length-le (take h.levels (replicate 32 no_step)) {i = h.levels}
        (omega (arith, length-take h.levels (replicate 32 no_step))) in
        descends h.levels h.levels h.root 0 no_steps (length-replicate 32 no_step) small (omega arith)
        (subst (λ ts. Path (map step ts) h.levels h.root 0) (sym none) ((refl, refl), refl, root_in h.levels low)) e
      where
        root_in : (l : ℕ) → 1 ≤ l → Enters s l h.root
        root_in zero p = absurd (omega arith)
        root_in (suc l) p = within

pub passed_right : (f : Format) (s : List ℕ) (it : Item) → Passed f s it
    → Right f (head_of s).theta (head_of s).capacity it (start_of f s it)
unfolding undamaged way_of path_in
passed_right f s it p =
    let h : Head = head_of s in
    let k : ℕ = it.key in
    let d : Descent = found f s it in
    let w = and_three d.ok (own_passes f s h k d) (neighbour_ok s h (get_or d.steps 0 no_step).node) p.sound in
    let c = (head_facts f s p.head).counts in
    let ok = head_sized f s p.head in
    let y =
    descent_sound f s k ok c.taken (lawful_key f it p.lawful).1 c.levels_low
    (omega (arith, c.levels, levels_within f h.theta h.capacity (head_facts f s p.head).limits.theta_low))
    (c.root_low, c.root) w.0 in
    record { sound = y.0; behind = start_off f s it p; used_is = y.1; levels_in = c.levels }
