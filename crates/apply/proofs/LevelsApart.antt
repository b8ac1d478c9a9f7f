-- On any words, the nodes of a plan have different numbers: each was visited under the rule of its level, which names the level.
use mathlib.Core.Path.{◌≡◌, refl, sym, ap, ◌∙◌, subst}
use mathlib.Core.Bool.{Bool, true, false, ◌||◌, not, false≢true}
use mathlib.Core.List.{List, [], ◌∷◌, map}
use mathlib.Core.Logic.{inl, inr}
use Prim.Native.Nat.{ℕ, zero, suc, ◌+◌, ◌≤◌, ◌<◌, max}
use native.Mathlib.Omega.{arith}
use lib.Dec.{eqb, leb, ltb}
use lib.ListN.{length, get_or, take}
use Rattle.lists.proofs.Cases.{bool_cases}
use Rattle.lists.proofs.Tests.{and_true}
use Rattle.store.specs.declared.Format.{Format}
use Rattle.store.specs.declared.Head.{Head}
use Rattle.store.specs.Format.{width}
use Rattle.store.specs.Head.{node_start}
use Rattle.node.specs.Node.{depth_word, level_word}
use Rattle.node.proofs.NodeLaws.{node_facts}
use Rattle.search.specs.declared.Step.{Step}
use Rattle.search.specs.Descent.{descent, no_step}
use Rattle.search.proofs.DescentLaws.{sound_facts, visited_sound}
use Rattle.split.specs.Frame.{node_of}
use Rattle.insert.proofs.InsideEnter.{StepIn, Down, descent_down}
use Rattle.remove.specs.Remove.{Reach, Sought, sibling, sibling_key, sibling_ok, on_left, links_ok, Spot, no_spot, both_nodes, node_joins, Levels, spot_at, levels_from, kept_over, kept_upper, kept_levels, Pages, Plan, plan_over}
use Rattle.remove.proofs.LevelPhase.{rs, node_lost, node_damaged, node_unlinked, turn_none, turn_tall, turn_on}
use Rattle.remove.proofs.LevelsPhase.{start_of, level_of, levels_lost, levels_stay, levels_go}
use Rattle.remove.proofs.Plans.{plan_is}
use Rattle.remove.proofs.RemoveInside.{plan_ok}

abbrev NodesR : Type 0
NodesR = Rattle.remove.specs.Remove.Nodes

module _ (f : Format) (s : List ℕ) (h : Head) where
  -- the node n has the level word l
  abbrev pub AtLevel : ℕ → ℕ → Type 0
  AtLevel l n = level_word s (node_start h n) ≡ l

  sibling_level : (k m level p : ℕ) (reached : List Reach) → sibling_ok f s h k m level p reached ≡ true → AtLevel level p
  unfolding sibling_ok
  sibling_level k m level p reached t =
      (node_facts h s (node_start h p) level
      (sound_facts f s h level p m (visited_sound f s h (sibling_key (width f) k m) level p m (and_true _ _ t).0)).0).level_is

  both_level : (k level m q : ℕ) (g : NodesR) (b : Bool) (p : ℕ) (reached : List Reach) → AtLevel level g.spot.number → AtLevel level p
      → AtLevel level (both_nodes f s h k m q g b p reached).spot.number
  unfolding both_nodes
  both_level k level m q g true p reached a e = e
  both_level k level m q g false p reached a e = a

  joins_level : (k level m q n : ℕ) (g : NodesR) → AtLevel level g.spot.number → (node_joins f s h k level m q n g).ok ≡ true
      → AtLevel level (node_joins f s h k level m q n g).spot.number
  unfolding node_joins
  joins_level k level m q zero g i a = i
  joins_level k level m q (suc n) g i a =
      let z : Sought = sibling f s h k g.spot.used level g.reached in
      let to : NodesR → Type 0 = λ y. AtLevel level y.spot.number in
      elim (bool_cases z.ok) [
        | inr x ↦ absurd (false≢true (ap (λ (y : NodesR). y.ok) (sym (node_lost f s h k level m q n g x)) ∙ a))
        | inl x ↦
            elim (bool_cases z.found) [
              | inr y ↦ subst to (sym (turn_none f s h k level m q n g z refl x y)) i
              | inl y ↦
                  let p : ℕ = z.pointer in
                  elim (bool_cases (sibling_ok f s h k g.spot.used level p z.reached)) [
                    | inr t ↦ absurd (false≢true (ap (λ (y : NodesR). y.ok) (sym (node_damaged f s h k level m q n g z refl x y t)) ∙ a))
                    | inl t ↦
                        elim (bool_cases (leb (suc (max (depth_word g.spot.block 0) (depth_word (node_of s p) 0))) h.theta)) [
                          | inr u ↦ subst to (sym (turn_tall f s h k level m q n g z refl x y t u)) i
                          | inl u ↦
                              elim (bool_cases (not (eqb level 1) || links_ok s h g.spot p (on_left (width f) k g.spot.used))) [
                                | inr w ↦ absurd (false≢true (ap (λ (y : NodesR). y.ok) (sym (node_unlinked f s h k level m q n g z refl x y t u w)) ∙ a))
                                | inl w ↦
                                    let l : Bool = on_left (width f) k g.spot.used in
                                    let on : NodesR = both_nodes f s h k m q g l p (rs f s h k level m q n g z refl x) in
                                    let eq = turn_on f s h k level m q n g z refl x y t u w in
                                    subst to (sym eq)
                                    (joins_level k level m q n on
                                    (both_level k level m q g l p (rs f s h k level m q n g z refl x) i (sibling_level k g.spot.used level p z.reached t))
                                    (ap (λ (y : NodesR). y.ok) (sym eq) ∙ a))
                              ]
                        ]
                  ]
            ]
      ]

  abbrev Rising : ℕ → List Spot → Type 0
  Rising l [] = Unit {0}
  Rising l (x ∷ xs) = AtLevel l x.number × Rising (suc l) xs

  abbrev StepsRise : ℕ → List Step → Type 0
  StepsRise l [] = Unit {0}
  StepsRise l (t ∷ ts) = AtLevel l t.node × StepsRise (suc l) ts

  rise_stay : (l : ℕ) (ts : List Step) → StepsRise l ts → Rising l (map (spot_at s) ts)
  rise_stay l [] a = tt
  rise_stay l (t ∷ ts) a = (a.0, rise_stay (suc l) ts a.1)

  levels_rise : (k level : ℕ) (ts : List Step) (m q : ℕ) (joins : Bool) (reached : List Reach) → StepsRise level ts
      → (levels_from f s h k level ts m q joins reached).ok ≡ true → Rising level (levels_from f s h k level ts m q joins reached).spots
  unfolding levels_from
  levels_rise k level [] m q joins reached a ok = tt
  levels_rise k level (t ∷ ts) m q joins reached a ok =
      let g : NodesR = level_of f s h k level t ts m q reached joins in
      let to : Levels → Type 0 = λ l. Rising level l.spots in
      elim (bool_cases g.ok) [
        | inr x ↦ absurd (false≢true (ap (λ (l : Levels). l.ok) (sym (levels_lost f s h k level t ts m q reached joins g refl x)) ∙ ok))
        | inl x ↦
            let i : AtLevel level g.spot.number = here joins x in
            elim (bool_cases (ltb g.spot.used t.used)) [
              | inr y ↦ subst to (sym (levels_stay f s h k level t ts m q reached joins g refl x y)) (i, rise_stay (suc level) ts a.1)
              | inl y ↦
                  let up : Levels = levels_from f s h k (suc level) ts g.spot.used g.spot.number true g.reached in
                  let eq = levels_go f s h k level t ts m q reached joins g refl x y up refl in
                  subst to (sym eq)
                  (i, levels_rise k (suc level) ts g.spot.used g.spot.number true g.reached a.1 (ap (λ (l : Levels). l.ok) (sym eq) ∙ ok))
            ]
      ]
    where
      here : (joins : Bool) → (level_of f s h k level t ts m q reached joins).ok ≡ true
          → AtLevel level (level_of f s h k level t ts m q reached joins).spot.number
      here true ok = joins_level k level m q t.used (start_of f s h k level t ts m q reached) a.0 ok
      here false ok = a.0

  over_rise : (l : ℕ) (x : Spot) (ys : List Spot) → AtLevel l x.number → Rising (suc l) ys → Rising l (kept_over x ys)
  unfolding kept_over
  over_rise l x [] p a =
      elim (eqb (depth_word x.block 0) 0) as (λ b. Rising l (elim b [ true ↦ [] | false ↦ x ∷ [] ])) [ true ↦ tt | false ↦ (p, tt) ]
  over_rise l x (y ∷ ys) p a = (p, a)

  upper_rise : (l : ℕ) (xs : List Spot) → Rising l xs → Rising l (kept_upper xs)
  upper_rise l [] a = tt
  upper_rise l (x ∷ xs) a = over_rise l x (kept_upper xs) a.0 (upper_rise (suc l) xs a.1)

  kept_rise : (l : ℕ) (xs : List Spot) → Rising l xs → Rising l (kept_levels xs)
  kept_rise l [] a = tt
  kept_rise l (x ∷ xs) a = (a.0, upper_rise (suc l) xs a.1)

  rise_at : (l : ℕ) (xs : List Spot) (i : ℕ) → Rising l xs → i < length xs → AtLevel (l + i) (get_or xs i no_spot).number
  rise_at l [] i a e = absurd (omega arith)
  rise_at l (x ∷ xs) zero a e = a.0 ∙ omega arith
  rise_at l (x ∷ xs) (suc i) a e = rise_at (suc l) xs i a.1 (omega arith) ∙ omega arith

  steps_rise : (k j n : ℕ) (ts : List Step) → ((i : ℕ) → i < n → i < length ts → StepIn f s h k (j + i) (get_or ts i no_step)) → StepsRise (suc j) (take n ts)
  steps_rise k j zero ts a = tt
  steps_rise k j (suc n) [] a = tt
  steps_rise k j (suc n) (t ∷ ts) a =
      let w = a 0 (omega arith) (omega arith) in (
        (node_facts h s (node_start h t.node) (suc (j + 0)) w.2).level_is ∙ omega arith,
        steps_rise k (suc j) n ts
            (λ i p q. let g : j + suc i ≡ suc j + i = omega arith in subst (λ m. StepIn f s h k m (get_or ts i no_step)) g
            (a (suc i) (omega arith) (omega arith))),
      )

  -- of a path that was walked down, and any pages over it
  pub plan_apart : (k used : ℕ) (g : Pages) → 1 ≤ h.levels → h.levels ≤ 32 → 1 ≤ h.root → h.root ≤ h.nodes_taken → (descent f s h k).ok ≡ true
      → (plan_over f s h k used (take h.levels (descent f s h k).steps) g).ok ≡ true
      → (i j : ℕ) → let xs = (plan_over f s h k used (take h.levels (descent f s h k).steps) g).spots in
      i < length xs → j < length xs → (get_or xs i no_spot).number ≡ (get_or xs j no_spot).number → i ≡ j
  plan_apart k used g low small one high ok done i j a b e =
      let ts : List Step = take h.levels (descent f s h k).steps in
      let both = plan_ok f s h k used ts g done in
      let l : Levels = levels_from f s h k 1 ts g.used g.page (ltb g.used used) g.reached in
      let d : Down f s h k h.levels (descent f s h k) = descent_down f s h k low small one high ok in
      let rise : StepsRise 1 ts =
      steps_rise k 0 h.levels (descent f s h k).steps
      (λ m p q. let z : m ≡ 0 + m = omega arith in subst (λ x. StepIn f s h k x (get_or (descent f s h k).steps m no_step)) z (d.steps_in m p q)) in
      let kept : Rising 1 (kept_levels l.spots) =
      kept_rise 1 l.spots (levels_rise k 1 ts g.used g.page (ltb g.used used) g.reached rise both.1) in
      let all : Rising 1 (plan_over f s h k used ts g).spots =
      subst (λ (p : Plan). Rising 1 p.spots) (sym (plan_is f s h k used ts g l both.0 both.1 refl)) kept in
      omega (
        arith,
        rise_at 1 (plan_over f s h k used ts g).spots i all a,
        rise_at 1 (plan_over f s h k used ts g).spots j all b,
        ap (λ n. level_word s (node_start h n)) e,
      )
