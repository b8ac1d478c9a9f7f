-- A done enter writes only at its path, its page, the node behind and new blocks, on any words. The tests at the start say that the node
-- behind the terminal one is none of the path: it is another node of level 1, and those above have higher levels.
use mathlib.Core.Path.{◌≡◌, sym, ap, ◌∙◌, subst}
use mathlib.Core.Bool.{true}
use mathlib.Core.List.{List, [], ◌∷◌, map}
use mathlib.Core.Logic.{inl, inr}
use Prim.Native.Nat.{ℕ, zero, suc, ◌+◌, ◌≤◌, ◌<◌}
use native.Mathlib.Omega.{arith}
use native.Mathlib.Decide.{ℕ_discrete}
use lib.ListN.{length, get_or, take}
use Rattle.lists.proofs.ListLaws.{all_map}
use Rattle.lists.proofs.Tests.{and_three}
use Rattle.store.specs.declared.Format.{Format}
use Rattle.store.specs.declared.Head.{Head}
use Rattle.store.specs.declared.Item.{Item}
use Rattle.store.specs.Head.{head_of, node_start, node_words}
use Rattle.store.proofs.HeadLaws.{head_facts}
use Rattle.node.specs.Node.{forward_word}
use Rattle.search.specs.Way.{Descent}
use Rattle.search.specs.Descent.{no_step}
use Rattle.represent.specs.Rep.{Sized}
use Rattle.split.specs.Frame.{node_of}
use Rattle.split.specs.Round.{Place}
use Rattle.insert.specs.Enter.{own_passes, neighbour_ok, path_in, done, way_of, undamaged, found, start_of, plan_for, entered_words}
use Rattle.insert.specs.Fine.{Off, Among, behind_in, Fine}
use Rattle.insert.specs.Frame.{Framed, EnterFrame}
use Rattle.insert.proofs.TestLaws.{neighbour_facts}
use Rattle.insert.proofs.Refusals.{Passed, ways, enter_done}
use Rattle.insert.proofs.InsideWay.{led_among}
use Rattle.insert.proofs.InsideEnter.{Visited, StepIn, step, others_in, node_word_lem, head_sized, start_down, passed_fine, passed_on}
use Rattle.insert.proofs.FrameWay.{way_framed, framed_more}
use Rattle.store.specs.Released.{nodes_to_come, pages_to_come}

off_null : (m : ℕ) (path : List Place) → Among m path → Off 0 path
off_null m path = all_map (λ p. (1 ≤ p.at) × (p.at ≤ m)) (λ p. p.at ≡ 0 → ⊥) path (λ p q e. omega (arith, q.0))

-- steps at levels 1, 2, ..
module _ (f : Format) (s : List ℕ) (k : ℕ) (ok : Sized f s) (fits : (head_of s).nodes_taken ≤ (head_of s).node_blocks) where
  abbrev h : Head
  h = head_of s

  behind_off : (n : ℕ) (ts : List Visited) → 1 ≤ n → 1 ≤ length ts
      → ((i : ℕ) → i < n → i < length ts → StepIn f s h k i (get_or ts i no_step))
      → neighbour_ok s h (get_or ts 0 no_step).node ≡ true
      → Among h.nodes_taken (map (step f s k ok fits) (take n ts))
      → Off (behind_in s (map (step f s k ok fits) (take n ts))) (map (step f s k ok fits) (take n ts))
  unfolding node_words
  behind_off zero ts p q a pass among = absurd (omega arith)
  behind_off (suc n) [] p q a pass among = absurd (omega arith)
  behind_off (suc n) (t ∷ ts) p q a pass among =
      let w = a 0 (omega arith) (omega arith) in
      let e : forward_word (node_of s t.node) 0 ≡ forward_word s (node_start h t.node) =
      node_word_lem f s k ok fits t.node 3 w.0 w.1 (omega arith) in
      subst (λ x. Off x (map (step f s k ok fits) (take (suc n) (t ∷ ts)))) (sym e)
      (elim (ℕ_discrete (forward_word s (node_start h t.node)) 0) [
        | yes z ↦
            subst (λ x. Off x (map (step f s k ok fits) (take (suc n) (t ∷ ts)))) (sym z)
            (off_null h.nodes_taken (map (step f s k ok fits) (take (suc n) (t ∷ ts))) among)
        | no z ↦
            let b = neighbour_facts s t.node z pass in
            let more : (i : ℕ) → i < n → i < length ts → StepIn f s h k (1 + i) (get_or ts i no_step) =
            λ i l r. let g : suc i ≡ 1 + i = omega arith in subst (λ m. StepIn f s h k m (get_or ts i no_step)) g
            (a (suc i) (omega arith) (omega arith)) in (
              λ i. b.another (sym i),
              (others_in f s k ok fits (forward_word s (node_start h t.node)) 1 n ts (omega (arith, b.level)) more).1,
            )
      ])

module _ (f : Format) (s : List ℕ) (it : Item) (p : Passed f s it) where
  fine : Fine f (head_of s).theta (head_of s).capacity it.key (plan_for f s it).rounds (start_of f s it)
  fine = passed_fine f s it p

  pub start_off : Off (behind_in s (start_of f s it).path) (start_of f s it).path
  unfolding undamaged way_of path_in
  start_off =
      let d : Descent = found f s it in
      let w =
      and_three d.ok (own_passes f s (head_of s) it.key d) (neighbour_ok s (head_of s) (get_or d.steps 0 no_step).node) p.sound in
      let c = (head_facts f s p.head).counts in
      let z = start_down f s it p.head w.0 in
      behind_off f s it.key (head_sized f s p.head) c.taken (head_of s).levels d.steps c.levels_low (omega (arith, z.long))
      (λ i l r. z.steps_in i l r) w.2 (led_among s (start_of f s it).path fine.led)

  passed_framed : Framed f s (entered_words f s it) (start_of f s it).path (start_of f s it).page (behind_in s (start_of f s it).path)
      (take (plan_for f s it).nodes (nodes_to_come s)) (take (plan_for f s it).pages (pages_to_come f s))
  unfolding entered_words way_of
  passed_framed =
      let on = passed_on f s it p in
      framed_more f _ _ _ _ _ _ _ _ _ on.1 on.2
      (way_framed f (head_of s).theta (head_of s).capacity it.key it (plan_for f s it).rounds (start_of f s it) on.0 start_off)

pub enter_frame : EnterFrame
unfolding done
enter_frame f s it zero_is =
    elim (ways f s it) [
      | inl r ↦ absurd (r.some (sym (ap (λ a. a.reply.number) r.is) ∙ zero_is))
      | inr p ↦
          subst (λ a. Framed f s a.words (start_of f s it).path (start_of f s it).page (behind_in s (start_of f s it).path)
          (take (plan_for f s it).nodes (nodes_to_come s)) (take (plan_for f s it).pages (pages_to_come f s)))
          (sym (enter_done f s it p)) (passed_framed f s it p)
    ]
