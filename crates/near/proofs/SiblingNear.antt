-- The sibling of the page's bits, where the page's run has used bits of its terminal node: the descent to it goes down the key's path, and ends in that
-- node. On any words.
--   at d j            == the step of level j + 1 of the way d
--   OnPath d top x    == the reach x is that of a step
use mathlib.Core.Path.{◌≡◌, refl, sym, ap, ap₂, ◌∙◌}
use mathlib.Core.Bool.{true, false, false≢true}
use mathlib.Core.List.{List, [], ◌∷◌, map}
use mathlib.Core.Logic.{inl, inr}
use Prim.Native.Nat.{ℕ, zero, suc, ◌+◌, ◌-◌, ◌/◌, ◌^◌, ◌≤◌, ◌<◌}
use native.Mathlib.Omega.{arith}
use lib.Dec.{eqb}
use lib.ListN.{length, get_or, set, take, length-set, length-replicate}
use lib.Seq.{get_or-set_same, get_or-set_other}
use borrow.Author.Tests.{eqb-true, eq-eqb}
use Rattle.lists.specs.Lists.{All}
use Rattle.lists.proofs.Cases.{bool_cases}
use Rattle.store.specs.declared.Format.{Format}
use Rattle.store.specs.declared.Head.{Head}
use Rattle.store.specs.Format.{width}
use Rattle.store.specs.Head.{node_start}
use Rattle.node.specs.Node.{level_word, node_rule}
use Rattle.node.proofs.NodeLaws.{node_facts}
use Rattle.search.specs.declared.Step.{Step}
use Rattle.search.specs.Way.{Visit}
use Rattle.search.specs.Way.{Descent}
use Rattle.search.specs.Descent.{no_step, no_steps, sound_node, step_of, lost, step_taken, descend, descent, entry_visit, own_visit}
use Rattle.search.proofs.DescentLaws.{step_lost, step_on, step_entry, visited_sound, seen_own}
use Rattle.search.proofs.TerminalLaws.{fewer, node_same}
use Rattle.remove.specs.Remove.{Reach, once, sibling_key, reach_at, seek, sibling, path_reach}
use Rattle.remove.proofs.SiblingKeys.{sibling_other, other_div}
use Rattle.remove.proofs.SiblingLaws.{turn_near, turn_far}
use Rattle.levels.proofs.PathFacts.{all_steps}

-- a level over the pages
over_pages : (f : Format) (s : List ℕ) (h : Head) (k j n used : ℕ) → step_of f s h k (suc j) n used ≡ step_of f s h k (suc j + 0) n used
over_pages f s h k j n used = ap (λ l. step_of f s h k l n used) (let z : suc j ≡ suc j + 0 = omega arith in z)

-- an entry that is read
pub found_ok : (f : Format) (s : List ℕ) (h : Head) (k n used : ℕ) {v : Visit} → v ≡ own_visit f s h k n used → v.ok ≡ true
unfolding own_visit entry_visit
found_ok f s h k n used q = ap (λ (x : Visit). x.ok) q

abbrev pub at : Descent → ℕ → Step
at d j = get_or d.steps j no_step

-- a way down, turn by turn
module _ (f : Format) (s : List ℕ) (h : Head) (k : ℕ) where
  visit_ok : (l n used : ℕ) (steps : List Step) → (descend f s h k (suc l) n used steps).ok ≡ true → (step_of f s h k (suc l) n used).ok ≡ true
  unfolding lost
  visit_ok l n used steps o =
      elim (bool_cases (step_of f s h k (suc l) n used).ok) [
        | inl g ↦ g
        | inr g ↦ absurd (false≢true (ap (λ (d : Descent). d.ok) (step_lost f s h k l n used steps _ refl g) ∙ o))
      ]

  -- the steps above are kept
  kept_above : (l n used : ℕ) (steps : List Step) (j : ℕ) → l ≤ j → (descend f s h k l n used steps).ok ≡ true
      → at (descend f s h k l n used steps) j ≡ get_or steps j no_step
  unfolding descend step_taken
  kept_above zero n used steps j p o = refl
  kept_above (suc l) n used steps j p o =
      let v : Visit = step_of f s h k (suc l) n used in
      let t : Step = record { node = n; entry = v.entry; depth = v.depth; used = used } in
      let on = step_on f s h k l n used steps v refl (visit_ok l n used steps o) in
      ap (λ (d : Descent). at d j) (sym on)
      ∙ kept_above l v.pointer (used + v.depth) (set steps l t) j (omega arith) (ap (λ (d : Descent). d.ok) on ∙ o)
      ∙ get_or-set_other steps l j t no_step (λ z. omega (arith, z))

  pub step_here : (l n used : ℕ) (steps : List Step) → l < length steps → (descend f s h k (suc l) n used steps).ok ≡ true
      → ((at (descend f s h k (suc l) n used steps) l).node ≡ n) × ((at (descend f s h k (suc l) n used steps) l).used ≡ used)
  unfolding step_taken
  step_here l n used steps room o =
      let v : Visit = step_of f s h k (suc l) n used in
      let t : Step = record { node = n; entry = v.entry; depth = v.depth; used = used } in
      let on = step_on f s h k l n used steps v refl (visit_ok l n used steps o) in
      let is : at (descend f s h k (suc l) n used steps) l ≡ t =
      ap (λ (d : Descent). at d l) (sym on)
      ∙ kept_above l v.pointer (used + v.depth) (set steps l t) l (omega arith) (ap (λ (d : Descent). d.ok) on ∙ o)
      ∙ get_or-set_same steps l t no_step room in
      (ap (λ (x : Step). x.node) is, ap (λ (x : Step). x.used) is)

  -- no bit is given back
  used_grows : (l n used : ℕ) (steps : List Step) → l < length steps → (descend f s h k (suc l) n used steps).ok ≡ true
      → used ≤ (at (descend f s h k (suc l) n used steps) 0).used
  unfolding step_taken
  used_grows zero n used steps room o = omega (arith, (step_here 0 n used steps room o).1)
  used_grows (suc l) n used steps room o =
      let v : Visit = step_of f s h k (suc (suc l)) n used in
      let t : Step = record { node = n; entry = v.entry; depth = v.depth; used = used } in
      let on = step_on f s h k (suc l) n used steps v refl (visit_ok (suc l) n used steps o) in
      let more = used_grows l v.pointer (used + v.depth) (set steps (suc l) t) (omega (arith, room, length-set steps (suc l) t))
      (ap (λ (d : Descent). d.ok) on ∙ o) in
      omega (arith, more, ap (λ (d : Descent). (at d 0).used) on)

-- the descent to a key k' that agrees with k in the bits before the terminal node
module _ (f : Format) (s : List ℕ) (h : Head) (k k' m : ℕ) (d : Descent) (ok : d.ok ≡ true) (top : ℕ)
    (rules : (j : ℕ) → j < top → node_rule h s (node_start h (at d j).node) (suc j) ≡ true)
    (agree : k' / 2 ^ (width f - (at d 0).used) ≡ k / 2 ^ (width f - (at d 0).used)) (low : (at d 0).used ≤ m) where
  abbrev here : ℕ → Reach
  here j = reach_at (width f) k (at d j).node (at d j).used

  abbrev OnPath : Reach → Type 0
  OnPath x = (j : ℕ) × (j < top) × (x ≡ here j)

  -- each node has its level's word
  same_step : (i j : ℕ) → i < top → j < top → (at d j).node ≡ (at d i).node → j ≡ i
  same_step i j p q e =
      omega (
        arith,
        (node_facts h s (node_start h (at d i).node) (suc i) (rules i p)).level_is,
        (node_facts h s (node_start h (at d j).node) (suc j) (rules j q)).level_is,
        ap (λ n. level_word s (node_start h n)) e,
      )

  once_path : (i : ℕ) → i < top → (rs : List Reach) → All OnPath rs → once (here i) rs ≡ true
  unfolding once
  once_path i p [] a = refl
  once_path i p (x ∷ rs) a =
      elim (bool_cases (eqb x.node (at d i).node)) [
        | inr n ↦ rw n (once_path i p rs a.1)
        | inl n ↦
            let y = a.0 in
            let same : x ≡ here i =
            y.2 ∙ ap here (same_step i y.0 p y.1 (sym (ap (λ (r : Reach). r.node) y.2) ∙ eqb-true x.node (at d i).node n)) in
            rw (n, eq-eqb x.bits (here i).bits (ap (λ (r : Reach). r.bits) same), eq-eqb x.used (here i).used (ap (λ (r : Reach). r.used) same))
            (once_path i p rs a.1)
      ]

  -- a node of the path is reached under the same bits
  reach_same : (i : ℕ) → (at d i).used ≤ (at d 0).used → {n used : ℕ} → (at d i).node ≡ n → (at d i).used ≡ used → reach_at (width f) k' n used ≡ here i
  reach_same i l {n} {used} en eu =
      ap₂ (λ x y. reach_at (width f) k' x y) (sym en) (sym eu)
      ∙ ap (λ b. record { node = (at d i).node; bits = b; used = (at d i).used }) (fewer (width f) (at d i).used (at d 0).used k k' l agree)

  record Came (l n used : ℕ) (rs : List Reach) : Type 0 where
    reached : List Reach
    on_path : All OnPath reached
    left : seek f s h k' m 0 (suc l) n used rs ≡ seek f s h k' m 0 1 (at d 0).node (at d 0).used reached

  came : (l n used : ℕ) (steps : List Step) (rs : List Reach) → l < top → l < length steps → descend f s h k (suc l) n used steps ≡ d → All OnPath rs
      → Came l n used rs
  unfolding step_taken
  came zero n used steps rs p room e a =
      let w = step_here f s h k 0 n used steps room (ap (λ (x : Descent). x.ok) e ∙ ok) in
      record {
        reached = rs;
        on_path = a;
        left =
            ap₂ (λ x y. seek f s h k' m 0 1 x y rs) (sym w.0 ∙ ap (λ (x : Descent). (at x 0).node) e)
            (sym w.1 ∙ ap (λ (x : Descent). (at x 0).used) e);
      }
  came (suc l) n used steps rs p room e a =
      let o : (descend f s h k (suc (suc l)) n used steps).ok ≡ true = ap (λ (x : Descent). x.ok) e ∙ ok in
      let v : Visit = step_of f s h k (suc (suc l)) n used in
      let v' : Visit = step_of f s h k' (suc (suc l)) n used in
      let t : Step = record { node = n; entry = v.entry; depth = v.depth; used = used } in
      let vo = visit_ok f s h k (suc l) n used steps o in
      let on = step_on f s h k (suc l) n used steps v refl vo in
      let room' : l < length (set steps (suc l) t) = omega (arith, room, length-set steps (suc l) t) in
      let o' : (descend f s h k (suc l) v.pointer (used + v.depth) (set steps (suc l) t)).ok ≡ true = ap (λ (x : Descent). x.ok) on ∙ o in
      let w = step_here f s h k (suc l) n used steps room o in
      let en : (at d (suc l)).node ≡ n = ap (λ (x : Descent). (at x (suc l)).node) (sym e) ∙ w.0 in
      let eu : (at d (suc l)).used ≡ used = ap (λ (x : Descent). (at x (suc l)).used) (sym e) ∙ w.1 in
      let grown : used + v.depth ≤ (at d 0).used =
      omega (
        arith,
        used_grows f s h k l v.pointer (used + v.depth) (set steps (suc l) t) room' o',
        ap (λ (x : Descent). (at x 0).used) (on ∙ e),
      ) in
      let sound = visited_sound f s h k (suc (suc l)) n used vo in
      let own = seen_own f s h k (suc (suc l)) n used refl vo in
      let own' : v' ≡ own_visit f s h k' n used = sym (step_entry f s h k' (suc (suc l)) n used sound) in
      let deep : used + (own_visit f s h k n used).depth ≤ (at d 0).used = omega (arith, grown, ap (λ (x : Visit). x.depth) own) in
      let same = node_same f s h k k' (suc (suc l)) n used sound
      (fewer (width f) (used + (own_visit f s h k n used).depth) (at d 0).used k k' deep agree) in
      let depth_is : v'.depth ≡ v.depth = ap (λ (x : Visit). x.depth) own' ∙ same.0 ∙ sym (ap (λ (x : Visit). x.depth) own) in
      let pointer_is : v'.pointer ≡ v.pointer = ap (λ (x : Visit). x.pointer) own' ∙ same.1 ∙ sym (ap (λ (x : Visit). x.pointer) own) in
      let r : reach_at (width f) k' n used ≡ here (suc l) = reach_same (suc l) (omega (arith, eu, grown)) en eu in
      let i = came l v.pointer (used + v.depth) (set steps (suc l) t) (reach_at (width f) k' n used ∷ rs) (omega arith) room' (on ∙ e)
      ((suc l, p, r), a) in
      record {
        reached = i.reached;
        on_path = i.on_path;
        left =
            turn_near f s h k' m 0 (suc l) n used rs v' (over_pages f s h k' (suc l) n used) (found_ok f s h k' n used own') (ap (λ x. once x rs) r ∙ once_path (suc l) p rs a)
            (omega (arith, depth_is, grown, low))
            ∙ ap₂ (λ x y. seek f s h k' m 0 (suc l) x (used + y) (reach_at (width f) k' n used ∷ rs)) pointer_is depth_is
            ∙ i.left;
      }

-- what holds of the reach of each step holds of all
all_reach : (P : Reach → Type 0) (g : Step → Reach) (ts : List Step) → All (λ t. P (g t)) ts → All P (map g ts)
all_reach P g [] a = tt
all_reach P g (t ∷ ts) a = (a.0, all_reach P g ts a.1)

-- what the descent to the sibling finds, by the sibling's entry v in the terminal node
pub record Beside (f : Format) (s : List ℕ) (h : Head) (k m : ℕ) (rs : List Reach) (n used : ℕ) (v : Visit) : Type 0 where
  pub reached : List Reach
  pub none : m < used + v.depth → sibling f s h k m 0 rs ≡ record { ok = true; found = false; pointer = 0; reached = reached }
  pub some : used + v.depth ≤ m → sibling f s h k m 0 rs ≡ record { ok = true; found = true; pointer = v.pointer; reached = reached }

module _ (f : Format) (s : List ℕ) (h : Head) (k : ℕ) (levels : 1 ≤ h.levels) (few : h.levels ≤ 32) (ok : (descent f s h k).ok ≡ true)
    (rules : (j : ℕ) → j < h.levels → node_rule h s (node_start h (at (descent f s h k) j).node) (suc j) ≡ true)
    (sound : sound_node f s h 1 (at (descent f s h k) 0).node (at (descent f s h k) 0).used ≡ true) where
  abbrev d : Descent
  d = descent f s h k

  abbrev ts : List Step
  ts = take h.levels d.steps

  pub sibling_near : (m : ℕ) → (at d 0).used < m → m ≤ width f
      → Beside f s h k m (path_reach (width f) k ts) (at d 0).node (at d 0).used
      (step_of f s h (sibling_key (width f) k m) 1 (at d 0).node (at d 0).used)
  unfolding seek descent no_steps
  sibling_near m above within =
      let W : ℕ = width f in
      let k' : ℕ = sibling_key W k m in
      let n : ℕ = (at d 0).node in
      let u : ℕ = (at d 0).used in
      let v : Visit = step_of f s h k' 1 n u in
      let agree : k' / 2 ^ (W - u) ≡ k / 2 ^ (W - u) =
      ap (λ x. x / 2 ^ (W - u)) (sibling_other W k m) ∙ other_div (W - m) k (W - u) (omega arith) in
      let up : suc (h.levels - 1) ≡ h.levels = omega arith in
      let rs : List Reach = path_reach W k ts in
      let on : All (OnPath f s h k k' m d ok h.levels rules agree (omega arith)) rs =
      all_reach (OnPath f s h k k' m d ok h.levels rules agree (omega arith)) (λ t. reach_at W k t.node t.used) ts
      (all_steps (λ t. OnPath f s h k k' m d ok h.levels rules agree (omega arith) (reach_at W k t.node t.used)) h.levels d.steps
      (λ i p q. (i, p, refl))) in
      let c = came f s h k k' m d ok h.levels rules agree (omega arith) (h.levels - 1) h.root 0 no_steps rs (omega arith)
      (omega (arith, length-replicate 32 no_step)) (ap (λ l. descend f s h k l h.root 0 no_steps) up) on in
      let whole : sibling f s h k m 0 rs ≡ seek f s h k' m 0 1 n u c.reached =
      ap (λ l. seek f s h k' m 0 l h.root 0 rs) (let z : h.levels - 0 ≡ suc (h.levels - 1) = omega arith in z) ∙ c.left in
      let own : v ≡ own_visit f s h k' n u = sym (step_entry f s h k' 1 n u sound) in
      let r = reach_same f s h k k' m d ok h.levels rules agree (omega arith) 0 (omega arith) refl refl in
      let o : once (reach_at W k' n u) c.reached ≡ true =
      ap (λ x. once x c.reached) r ∙ once_path f s h k k' m d ok h.levels rules agree (omega arith) 0 (omega arith) c.reached c.on_path in
      record {
        reached = reach_at W k' n u ∷ c.reached;
        none = λ l. whole ∙ turn_far f s h k' m 0 0 n u c.reached v (over_pages f s h k' 0 n u) (found_ok f s h k' n u own) o l;
        some = λ l. whole ∙ turn_near f s h k' m 0 0 n u c.reached v (over_pages f s h k' 0 n u) (found_ok f s h k' n u own) o l;
      }
