-- What is known of the steps of a path, on any words: the nodes differ, and each step's bits and local depth lead to the step below.
use mathlib.Core.Path.{◌≡◌, refl, sym, ap, ◌∙◌, subst}
use mathlib.Core.Bool.{true, false≢true}
use mathlib.Core.List.{List, [], ◌∷◌}
use mathlib.Core.Logic.{inl, inr}
use Prim.Native.Nat.{ℕ, zero, suc, ◌+◌, ◌*◌, ◌≤◌, ◌<◌}
use native.Mathlib.Decide.{ℕ_discrete}
use native.Mathlib.Omega.{arith}
use native.Mathlib.Numerals.{add-one}
use lib.Dec.{ltb}
use lib.ListN.{length, get_or, take, drop, set, replicate, length-set, length-replicate, length-take}
use lib.Seq.{get_or-set_same, get_or-set_other, drop-cons}
use borrow.Author.Tests.{le-leb, ltb-true}
use Rattle.lists.specs.Lists.{All, Pairwise}
use Rattle.lists.proofs.Cases.{bool_cases}
use Rattle.store.specs.declared.Format.{Format}
use Rattle.store.specs.declared.Head.{Head}
use Rattle.store.specs.Format.{width}
use Rattle.store.specs.Head.{word, head_of, head_rule, node_start, node_words, node_at, InUse, Under}
use Rattle.store.proofs.HeadLaws.{width_within, levels_within}
use Rattle.store.proofs.Places.{node_end, nodes_end_lem, part_word}
use Rattle.node.specs.Node.{depth_word, level_word, entry_depth, entry_number}
use Rattle.node.proofs.NodeLaws.{node_facts}
use Rattle.node.proofs.RunWalk.{good_facts}
use Rattle.node.proofs.EntryNumber.{entry_below}
use Rattle.search.specs.declared.Step.{Step}
use Rattle.search.specs.Way.{Visit}
use Rattle.search.specs.Way.{Descent}
use Rattle.search.specs.Descent.{no_step, no_steps, sound_node, step_of, lost, step_taken, descend, descent, entry_visit, own_visit}
use Rattle.search.proofs.DescentLaws.{step_lost, step_on, step_entry, visited_sound}
use Rattle.split.specs.Frame.{node_of}
use Rattle.insert.proofs.InsideEnter.{StepIn, Down, descent_down}
use Rattle.remove.specs.Remove.{path_reach}
use Rattle.remove.proofs.InsideRemove.{Headed, head_facts}
use Rattle.remove.proofs.BlocksIn.{visited_block}
use Rattle.siblings.specs.Marks.{mark, Tracks, Passed}
use Rattle.siblings.specs.Nodes.{HandFine}
use Rattle.siblings.specs.Paths.{path_marks}
use Rattle.siblings.proofs.PathLaws.{Apart, path_tracks, clear_passed, path_passed}
use Rattle.siblings.proofs.MarkLaws.{own_level}

-- the bits of what is below step i: of the step below it, or of the page
abbrev pub below : ℕ → List Step → ℕ → ℕ
below used steps zero = used
below used steps (suc i) = (get_or steps i no_step).used

-- a level that joined has fewer bits than what is below the next one
pub below_next : (used : ℕ) (steps : List Step) (l b : ℕ) → ltb b (get_or steps l no_step).used ≡ true → b ≤ below used steps (l + 1)
below_next used steps l b e = subst (λ n. b ≤ below used steps n) (sym (add-one l)) (omega (arith, ltb-true b (get_or steps l no_step).used e))

abbrev deep : List Step → ℕ → ℕ
deep steps i = (get_or steps i no_step).used + (get_or steps i no_step).depth

module _ (f : Format) (s : List ℕ) (h : Head) (k : ℕ) where
  -- a step's bits and its local depth are the bits of what is below it
  linked : (top l n used : ℕ) (steps : List Step) → length steps ≡ 32 → top ≤ 32 → l ≤ top
      → (l < top → deep steps l ≡ used) → ((i : ℕ) → l ≤ i → suc i < top → deep steps (suc i) ≡ (get_or steps i no_step).used)
      → (descend f s h k l n used steps).ok ≡ true → (i : ℕ) → i < top
      → deep (descend f s h k l n used steps).steps i ≡ below (descend f s h k l n used steps).used (descend f s h k l n used steps).steps i
  unfolding descend step_taken lost
  linked top zero n used steps long small low a b ok zero e = a e
  linked top zero n used steps long small low a b ok (suc i) e = b i (omega arith) e
  linked top (suc l) n used steps long small low a b ok i e =
      elim (bool_cases (step_of f s h k (suc l) n used).ok) [
        | inr g ↦ absurd (false≢true (ap (λ (d : Descent). d.ok) (step_lost f s h k l n used steps _ refl g) ∙ ok))
        | inl g ↦
            let v : Visit = step_of f s h k (suc l) n used in
            let t : Step = record { node = n; entry = v.entry; depth = v.depth; used = used } in
            let on = step_on f s h k l n used steps _ refl g in
            let room : l < length steps = omega arith in
            let same : get_or (set steps l t) l no_step ≡ t = get_or-set_same steps l t no_step room in
            subst (λ (d : Descent). deep d.steps i ≡ below d.used d.steps i) on
            (linked top l v.pointer (used + v.depth) (set steps l t) (length-set steps l t ∙ long) small (omega arith)
            (λ p. ap (λ (x : Step). x.used + x.depth) same)
            (λ j p q.
            elim (ℕ_discrete j l) [
              | yes z ↦
                  let next : get_or (set steps l t) (suc j) no_step ≡ get_or steps (suc l) no_step =
                  ap (λ x. get_or (set steps l t) (suc x) no_step) z ∙ get_or-set_other steps l (suc l) t no_step (λ w. omega (arith, w)) in
                  ap (λ (x : Step). x.used + x.depth) next ∙ a (omega arith)
                  ∙ sym (ap (λ x. (get_or (set steps l t) x no_step).used) z ∙ ap (λ (x : Step). x.used) same)
              | no z ↦
                  ap (λ (x : Step). x.used + x.depth) (get_or-set_other steps l (suc j) t no_step (λ w. omega (arith, w)))
                  ∙ b j (omega arith) q
                  ∙ sym (ap (λ (x : Step). x.used) (get_or-set_other steps l j t no_step z))
            ])
            (ap (λ (d : Descent). d.ok) on ∙ ok) i e)
      ]

  pub descent_linked : h.levels ≤ 32 → (descent f s h k).ok ≡ true → (i : ℕ) → i < h.levels
      → deep (descent f s h k).steps i ≡ below (descent f s h k).used (descent f s h k).steps i
  unfolding descent no_steps
  descent_linked small ok i e =
      linked h.levels h.levels h.root 0 no_steps (length-replicate 32 no_step) small (omega arith) (λ p. absurd (omega arith))
      (λ j p q. absurd (omega arith)) ok i e

-- what holds of each of the first n steps holds of all
pub all_steps : (P : Step → Type 0) (n : ℕ) (ts : List Step) → ((i : ℕ) → i < n → i < length ts → P (get_or ts i no_step)) → All P (take n ts)
all_steps P zero ts a = tt
all_steps P (suc n) [] a = tt
all_steps P (suc n) (t ∷ ts) a = (a 0 (omega arith) (omega arith), all_steps P n ts (λ i p q. a (suc i) (omega arith) (omega arith)))

-- the steps of the path with the key k
pub record StepFine (f : Format) (s : List ℕ) (h : Head) (b : ℕ) (t : Step) : Type 0 where
  pub node_in : InUse h t.node
  pub within : t.used ≤ width f
  pub fine : (m : ℕ) → m ≤ b → HandFine f h.theta m t.used (node_at s h t.node)
  pub room : node_start h t.node + node_words h.theta ≤ length s

module _ (f : Format) (s : List ℕ) (rule : head_rule f s ≡ true) (k : ℕ) (ok : (descent f s (head_of s) k).ok ≡ true) where
  abbrev h : Head
  h = head_of s

  abbrev d : Descent
  d = descent f s h k

  facts : Headed f s
  facts = head_facts f s rule

  few : h.levels ≤ 32
  few = omega (arith, facts.counts.levels, levels_within f h.theta h.capacity facts.limits.theta_low)

  down : Down f s h k h.levels d
  down = descent_down f s h k facts.counts.levels_low few facts.counts.root_low facts.counts.root ok

  stepped : (i : ℕ) → i < h.levels → StepIn f s h k i (get_or d.steps i no_step)
  stepped i l = down.steps_in i l (omega (arith, down.long, few))

  visited : (i : ℕ) (t : Step) → StepIn f s h k i t → (step_of f s h k (suc i) t.node t.used).ok ≡ true
  unfolding own_visit entry_visit
  visited i t w =
      ap (λ (v : Visit). v.ok)
      (sym (step_entry f s h k (suc i) t.node t.used (rw (w.2, le-leb (t.used + depth_word s (node_start h t.node)) (width f) w.3))))

  step_at : (i : ℕ) (t : Step) (b : ℕ) → StepIn f s h k i t → t.used + t.depth ≡ b → StepFine f s h b t
  unfolding node_at node_words
  step_at i t b w e =
      let at : ℕ = node_start h t.node in
      let room : at + node_words h.theta ≤ length s =
      omega (arith, node_end h t.node w.0 (omega (arith, w.1, facts.counts.taken)), nodes_end_lem h f, facts.room) in
      let v = visited_block f s facts k (suc i) t.node t.used (w.0, w.1) (visited i t w) in
      let H : depth_word (node_of s t.node) 0 ≡ depth_word s at =
      part_word s at (node_words h.theta) 0 room (omega arith) ∙ ap (word s) (let z : at + 0 ≡ at = omega arith in z) in
      let local : entry_depth s at (entry_number (width f) k t.used (depth_word s at)) ≤ depth_word s at =
      ((good_facts _ _ _ _ (node_facts h s at (suc i) w.2).runs).rule _ (entry_below (width f) k t.used (depth_word s at))).0 in
      record {
        node_in = record { positive = w.0; within = w.1 };
        within = omega (arith, w.3);
        fine = λ m l. record { shallow = v.0; reaches = omega (arith, H, local, w.4, e, l); left = v.1 };
        room = room;
      }

  step_of_lem : (i : ℕ) → i < h.levels → StepFine f s h (below d.used d.steps i) (get_or d.steps i no_step)
  step_of_lem i l = step_at i (get_or d.steps i no_step) _ (stepped i l) (descent_linked f s h k few ok i l)

  -- the nodes of the path differ: each has its level's word
  others : (x j n : ℕ) (ts : List Step) → level_word s (node_start h x) ≤ j
      → ((i : ℕ) → i < n → i < length ts → StepIn f s h k (j + i) (get_or ts i no_step)) → All (λ t. t.node ≡ x → ⊥) (take n ts)
  others x j zero ts e a = tt
  others x j (suc n) [] e a = tt
  others x j (suc n) (t ∷ ts) e a =
      let w = a 0 (omega arith) (omega arith) in (
        λ q. omega (
          arith,
          e,
          (node_facts h s (node_start h t.node) (suc (j + 0)) w.2).level_is,
          ap (λ n. level_word s (node_start h n)) q,
        ),
        others x (suc j) n ts (omega arith)
            (λ i p q. let g : j + suc i ≡ suc j + i = omega arith in subst (λ m. StepIn f s h k m (get_or ts i no_step)) g
            (a (suc i) (omega arith) (omega arith))),
      )

  all_apart : (j n : ℕ) (ts : List Step) → ((i : ℕ) → i < n → i < length ts → StepIn f s h k (j + i) (get_or ts i no_step))
      → Pairwise Apart (take n ts)
  all_apart j zero ts a = tt
  all_apart j (suc n) [] a = tt
  all_apart j (suc n) (t ∷ ts) a =
      let w = a 0 (omega arith) (omega arith) in
      let more : (i : ℕ) → i < n → i < length ts → StepIn f s h k (suc j + i) (get_or ts i no_step) =
      λ i p q. let g : j + suc i ≡ suc j + i = omega arith in subst (λ m. StepIn f s h k m (get_or ts i no_step)) g
      (a (suc i) (omega arith) (omega arith)) in (
        others t.node (suc j) n ts (omega (arith, (node_facts h s (node_start h t.node) (suc (j + 0)) w.2).level_is)) more,
        all_apart (suc j) n ts more,
      )

  pub path_apart : Pairwise Apart (take h.levels d.steps)
  path_apart =
      all_apart 0 h.levels d.steps
      (λ i p q. let g : i ≡ 0 + i = omega arith in subst (λ m. StepIn f s h k m (get_or d.steps i no_step)) g (stepped i p))

  -- the path marked on clear marks is tracked
  pub path_noted : (marks : List ℕ) → ((n : ℕ) → get_or marks n 0 ≡ 0) → h.nodes_taken < length marks
      → Tracks (width f) k (path_reach (width f) k (take h.levels d.steps)) (path_marks (take h.levels d.steps) marks)
  path_noted marks clear long =
      path_tracks (width f) k (take h.levels d.steps) marks clear path_apart
      (all_steps (λ t. t.node < length marks) h.levels d.steps (λ i p q. omega (arith, (step_of_lem i p).node_in.within, long)))

  -- and its nodes are sound
  pub path_sound : (marks : List ℕ) → ((n : ℕ) → get_or marks n 0 ≡ 0) → h.nodes_taken < length marks
      → Passed f s h (path_marks (take h.levels d.steps) marks)
  path_sound marks clear long =
      path_passed f s h (take h.levels d.steps) marks (clear_passed f s h marks clear)
      (all_steps (λ t. t.node < length marks) h.levels d.steps (λ i p q. omega (arith, (step_of_lem i p).node_in.within, long)))
      (all_steps (λ t. sound_node f s h (level_word s (node_start h t.node)) t.node t.used ≡ true) h.levels d.steps
      (λ i p q. let t : Step = get_or d.steps i no_step in
      own_level f s h (suc i) t.node t.used (visited_sound f s h k (suc i) t.node t.used (visited i t (stepped i p)))))

-- over a head, steps and bits that are carried
pub record PathFine (f : Format) (s : List ℕ) (h : Head) (steps : List Step) (used : ℕ) : Type 0 where
  pub some : 1 ≤ h.levels
  pub few : h.levels ≤ 32
  pub theta : h.theta ≤ 6
  pub long : length steps ≡ 32
  pub step : (i : ℕ) → i < h.levels → StepFine f s h (below used steps i) (get_or steps i no_step)

pub path_fine : (f : Format) (s : List ℕ) (h : Head) (k : ℕ) {steps : List Step} {used : ℕ} → Under f s h → (descent f s h k).ok ≡ true
    → steps ≡ (descent f s h k).steps → used ≡ (descent f s h k).used → PathFine f s h steps used
path_fine f s h k u ok e g = rw (e, g) (at u ok)
  where
    at : Under f s h → (descent f s h k).ok ≡ true → PathFine f s h (descent f s h k).steps (descent f s h k).used
    at u =
        subst (λ i. (descent f s i k).ok ≡ true → PathFine f s i (descent f s i k).steps (descent f s i k).used) (sym u.head)
        (λ ok.
        record {
          some = (facts f s u.rule k ok).counts.levels_low;
          few = few f s u.rule k ok;
          theta = (facts f s u.rule k ok).limits.theta;
          long = (down f s u.rule k ok).long;
          step = step_of_lem f s u.rule k ok;
        })

-- what `note_path` asks
pub path_needs : (f : Format) (s : List ℕ) (h : Head) (steps : List Step) (used : ℕ) (marks : List ℕ) → PathFine f s h steps used → h.nodes_taken < length marks
    → (h.levels ≤ length steps) × (length steps ≡ 32)
    × ((i : ℕ) → i < h.levels → ((get_or steps i no_step).node < length marks) × ((get_or steps i no_step).used ≤ 64))
path_needs f s h steps used marks y long = (
  omega (arith, y.few, y.long),
  y.long,
  λ i l. (omega (arith, (y.step i l).node_in.within, long), omega (arith, (y.step i l).within, width_within f)),
)

-- clear marks
pub clear_zeros : (n i : ℕ) → ◌≡◌ {A = ℕ} (get_or (replicate n 0) i 0) 0
clear_zeros zero i = refl
clear_zeros (suc n) zero = refl
clear_zeros (suc n) (suc i) = clear_zeros n i

-- the path noted on clear marks is tracked: the start of every descent to a sibling
pub noted_tracks : (f : Format) (s : List ℕ) (h : Head) (k : ℕ) {steps : List Step} (marks : List ℕ) {marks' : List ℕ} → Under f s h → (descent f s h k).ok ≡ true
    → steps ≡ (descent f s h k).steps → ((n : ℕ) → get_or marks n 0 ≡ 0) → h.nodes_taken < length marks → marks' ≡ path_marks (take h.levels steps) marks
    → Tracks (width f) k (path_reach (width f) k (take h.levels steps)) marks'
noted_tracks f s h k marks u ok e clear long g = rw (g, e) (at u ok long)
  where
    at : Under f s h → (descent f s h k).ok ≡ true → h.nodes_taken < length marks
        → Tracks (width f) k (path_reach (width f) k (take h.levels (descent f s h k).steps)) (path_marks (take h.levels (descent f s h k).steps) marks)
    at u =
        subst
        (λ i. (descent f s i k).ok ≡ true → i.nodes_taken < length marks
        → Tracks (width f) k (path_reach (width f) k (take i.levels (descent f s i k).steps)) (path_marks (take i.levels (descent f s i k).steps) marks))
        (sym u.head) (λ ok long. path_noted f s u.rule k ok marks clear long)

-- and each node marked is sound
pub noted_passed : (f : Format) (s : List ℕ) (h : Head) (k : ℕ) {steps : List Step} (marks : List ℕ) {marks' : List ℕ} → Under f s h → (descent f s h k).ok ≡ true
    → steps ≡ (descent f s h k).steps → ((n : ℕ) → get_or marks n 0 ≡ 0) → h.nodes_taken < length marks → marks' ≡ path_marks (take h.levels steps) marks
    → Passed f s h marks'
noted_passed f s h k marks u ok e clear long g = rw (g, e) (at u ok long)
  where
    at : Under f s h → (descent f s h k).ok ≡ true → h.nodes_taken < length marks → Passed f s h (path_marks (take h.levels (descent f s h k).steps) marks)
    at u =
        subst (λ i. (descent f s i k).ok ≡ true → i.nodes_taken < length marks → Passed f s i (path_marks (take i.levels (descent f s i k).steps) marks))
        (sym u.head) (λ ok long. path_sound f s u.rule k ok marks clear long)

-- the loops over steps
pub marks_turn : (ts : List Step) (i : ℕ) (marks X : List ℕ) → i < length ts → path_marks (drop i ts) marks ≡ X
    → path_marks (drop (i + 1) ts) (set marks (get_or ts i no_step).node (2 * (get_or ts i no_step).used + 1)) ≡ X
unfolding mark
marks_turn ts i marks X l e =
    ap (λ j. path_marks (drop j ts) (set marks (get_or ts i no_step).node (2 * (get_or ts i no_step).used + 1))) (add-one i)
    ∙ sym (ap (λ us. path_marks us marks) (drop-cons ts i no_step l)) ∙ e

pub marks_out : (ts : List Step) (i : ℕ) (marks X : List ℕ) → length ts ≤ i → path_marks (drop i ts) marks ≡ X → marks ≡ X
marks_out ts i marks X l e = sym (ap (λ us. path_marks us marks) (lib.ListN.drop_of_length-le ts {i = i} l)) ∙ e

pub numbers_turn : (steps : List Step) (i : ℕ) (numbers : List ℕ) → i < length numbers
    → ((l : ℕ) → l < i → word numbers l ≡ (get_or steps l no_step).node)
    → (l : ℕ) → l < i + 1 → word (set numbers i (get_or steps i no_step).node) l ≡ (get_or steps l no_step).node
numbers_turn steps i numbers room a l e =
    elim (ℕ_discrete l i) [
      | yes z ↦ ap (λ j. word (set numbers i (get_or steps i no_step).node) j) z ∙ get_or-set_same numbers i (get_or steps i no_step).node 0 room
          ∙ ap (λ j. (get_or steps j no_step).node) (sym z)
      | no z ↦ get_or-set_other numbers i l (get_or steps i no_step).node 0 z ∙ a l (omega arith)
    ]
