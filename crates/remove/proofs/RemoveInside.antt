-- Remove on any words: what it may write, and what it never does.
use mathlib.Core.Path.{◌≡◌, refl, sym, ap, ◌∙◌, subst}
use mathlib.Core.Bool.{Bool, true, false, ◌&&◌, not, false≢true}
use mathlib.Core.List.{List, [], ◌∷◌, ◌++◌}
use mathlib.Core.Logic.{◌⊎◌, inl, inr}
use Prim.Native.Nat.{ℕ, zero, suc, ◌≤◌, ◌<◌}
use native.Mathlib.Decide.{ℕ_discrete}
use native.Mathlib.Omega.{arith}
use lib.Dec.{ltb, eqb}
use lib.ListN.{length, get_or, take, drop}
use borrow.Author.Tests.{eq-eqb}
use Rattle.lists.specs.Lists.{All}
use Rattle.lists.proofs.Cases.{bool_cases}
use Rattle.lists.proofs.ListLaws.{length_filter, all_map}
use Rattle.lists.proofs.Tests.{and_true, length_tab}
use Rattle.store.specs.declared.Format.{Format}
use Rattle.store.specs.declared.Head.{Head}
use Rattle.store.specs.declared.Item.{Item}
use Rattle.store.specs.Format.{width}
use Rattle.store.specs.Head.{head_of, page_at}
use Rattle.store.proofs.HeadLaws.{levels_within}
use Rattle.node.specs.Node.{forward_word}
use Rattle.page.specs.Page.{count, item_at}
use Rattle.page.specs.Schema.{key_of}
use Rattle.page.proofs.Laws.{rule_facts}
use Rattle.search.specs.declared.Step.{Step}
use Rattle.search.specs.Way.{Descent}
use Rattle.search.specs.Way.{Sought}
use Rattle.search.specs.Way.{Record, Nothing, Damaged}
use Rattle.search.specs.Descent.{descent, no_step}
use Rattle.search.specs.Find.{sound_page, find_of}
use Rattle.insert.specs.Enter.{items_in, own_items}
use Rattle.insert.proofs.TestLaws.{items_some}
use Rattle.insert.proofs.InsideEnter.{Down, descent_down}
use Rattle.joins.specs.Joins.{without}
use Rattle.store.specs.Head.{head_rule}
use Rattle.remove.specs.Remove.{Pages, page_joins, emptied, Spot, Levels, levels_from, kept_over, kept_upper, kept_levels, gone_roots}
use Rattle.remove.specs.Remove.{first_used, first_spot, no_plan, Plan, path_reach, plan_over, plan_of, written_by, carried_out, found_of}
use Rattle.remove.specs.Remove.{remove_of}
use Rattle.remove.specs.Frame.{Done, RemoveWrites}
use Rattle.remove.specs.Promises.{RemoveInside}
use Rattle.remove.specs.Frame.{Kept, Framed}
use Rattle.remove.proofs.Framed.{kept_self}
use Rattle.remove.specs.Doable.{In, Doable}
use Rattle.remove.specs.Frame.{numbers_of}
use Rattle.remove.specs.Frame.{NodeWritten, PageWritten, HeadWritten}
use Rattle.remove.proofs.Releases.{in_wide}
use Rattle.remove.proofs.Writes.{in_backwards, written_framed}
use Rattle.remove.proofs.InsideRemove.{Headed, head_facts, SpotIn, StepFine, LevelsIn, levels_in, PagesIn, pages_in, emptied_in}
use Rattle.remove.proofs.InsideRemove.{rule_forward, in_append}

take_fine : {A : Type 0} (P : A → Type 0) (z : A) (n : ℕ) (xs : List A) → ((i : ℕ) → i < n → i < length xs → P (get_or xs i z))
    → All P (take n xs)
take_fine P z zero xs g = tt
take_fine P z (suc n) [] g = tt
take_fine P z (suc n) (x ∷ xs) g = (g 0 (omega arith) (omega arith), take_fine P z n xs (λ i a b. g (suc i) (omega arith) (omega arith)))

-- a record that is found is in a sound page
module _ (f : Format) (s : List ℕ) (h : Head) (k : ℕ) where
  abbrev d : Descent
  d = descent f s h k

  pub record FoundIn : Type 0 where
    pub ok : d.ok ≡ true
    pub some : d.page ≡ 0 → ⊥
    pub sound : sound_page f h (page_at f s h d.page) k d.used ≡ true

  is_found_lem : Sought → Bool
  is_found_lem (Record it) = true
  is_found_lem Nothing = false
  is_found_lem Damaged = false

  pub found_in_lem : (it : Item) → find_of f s h k ≡ Record it → FoundIn
  unfolding find_of is_found_lem
  found_in_lem it e =
      elim (bool_cases d.ok) [
        | inr a ↦ absurd (false≢true (ap is_found_lem (rw (a, find_of) at e)))
        | inl a ↦
            elim (bool_cases (eqb d.page 0)) [
              | inl b ↦ absurd (false≢true (ap is_found_lem (rw (a, b, find_of) at e)))
              | inr b ↦
                  elim (bool_cases (sound_page f h (page_at f s h d.page) k d.used)) [
                    | inr c ↦ absurd (false≢true (ap is_found_lem (rw (a, b, c, find_of) at e)))
                    | inl c ↦ record { ok = a; some = λ z. false≢true (sym b ∙ eq-eqb d.page 0 z); sound = c }
                  ]
            ]
      ]

-- of all levels those that are kept, and the roots that go
module _ (P : Spot → Type 0) where
  over_all : (x : Spot) (ys : List Spot) → P x → All P ys → All P (kept_over x ys)
  unfolding kept_over
  over_all x [] p a =
      elim (eqb (Rattle.node.specs.Node.depth_word x.block 0) 0) as
      (λ b. All P (elim b [ true ↦ [] | false ↦ x ∷ [] ])) [ true ↦ tt | false ↦ (p, tt) ]
  over_all x (y ∷ ys) p a = (p, a)

  upper_all : (xs : List Spot) → All P xs → All P (kept_upper xs)
  upper_all [] a = tt
  upper_all (x ∷ xs) a = over_all x (kept_upper xs) a.0 (upper_all xs a.1)

  kept_all : (xs : List Spot) → All P xs → All P (kept_levels xs)
  kept_all [] a = tt
  kept_all (x ∷ xs) a = (a.0, upper_all xs a.1)

  drop_all : (n : ℕ) (xs : List Spot) → All P xs → All P (drop n xs)
  drop_all zero xs a = a
  drop_all (suc n) [] a = tt
  drop_all (suc n) (x ∷ xs) a = drop_all n xs a.1

numbers_all : (m : ℕ) (xs : List Spot) → All (λ x. (1 ≤ x.number) × (x.number ≤ m)) xs → In m (numbers_of xs)
numbers_all m [] a = tt
numbers_all m (x ∷ xs) a = (a.0, numbers_all m xs a.1)

pub plan_ok : (f : Format) (s : List ℕ) (h : Head) (k used : ℕ) (ts : List Step) (g : Pages) → (plan_over f s h k used ts g).ok ≡ true
    → (g.ok ≡ true) × ((levels_from f s h k 1 ts g.used g.page (ltb g.used used) g.reached).ok ≡ true)
unfolding plan_over
plan_ok f s h k used ts g e =
    let l : Levels = levels_from f s h k 1 ts g.used g.page (ltb g.used used) g.reached in
    elim (bool_cases (g.ok && l.ok)) [
      | inl a ↦ and_true g.ok l.ok a
      | inr a ↦ absurd (false≢true (ap (λ (p : Plan). p.ok) (sym (off a)) ∙ e))
    ]
  where
    off : (g.ok && (levels_from f s h k 1 ts g.used g.page (ltb g.used used) g.reached).ok) ≡ false
        → plan_over f s h k used ts g ≡ no_plan
    off a = rw (a, plan_over)

module _ (f : Format) (s : List ℕ) (rule : head_rule f s ≡ true) (k : ℕ) (it : Item) (found : find_of f s (head_of s) k ≡ Record it) where
  abbrev h : Head
  h = head_of s

  H : Headed f s
  H = head_facts f s rule

  F : FoundIn f s h k
  F = found_in_lem f s h k it found

  abbrev de : Descent
  de = descent f s h k

  small : h.levels ≤ 32
  small = omega (arith, H.counts.levels, levels_within f h.theta h.capacity H.limits.theta_low)

  D : Down f s h k h.levels de
  D = descent_down f s h k H.counts.levels_low small H.counts.root_low H.counts.root F.ok

  abbrev ts : List Step
  ts = take h.levels de.steps

  steps_fine : All (StepFine f s H) ts
  steps_fine =
      take_fine (StepFine f s H) no_step h.levels de.steps
      (λ i a b.
      let w = D.steps_in i a b in
      ((w.0, w.1), rule_forward f s H (get_or de.steps i no_step).node (suc i) (w.0, w.1) w.2))

  abbrev start : Pages
  start = emptied de.used de.page (without key_of k (own_items f s h de.page)) (path_reach (width f) k ts)

  own_fits : length (own_items f s h de.page) ≤ h.capacity
  unfolding sound_page items_in
  own_fits =
      let pg : List ℕ = page_at f s h de.page in
      omega (
        arith,
        ap length (items_some f s h de.page F.some),
        length_tab (count pg) (item_at f pg),
        (rule_facts f h.capacity pg (and_true _ _ F.sound).0).fits,
      )

  start_in : PagesIn f s H start
  start_in =
      emptied_in f s H de.used de.page (without key_of k (own_items f s h de.page)) (path_reach (width f) k ts)
      (omega (arith, F.some)) D.page_in
      (omega (arith, own_fits, length_filter (λ (x : Item). not (eqb x.key k)) (own_items f s h de.page)))

  abbrev q : Plan
  q = plan_of f s h k de

  abbrev g : Pages
  g = page_joins f s h k de.used start

  abbrev l : Levels
  l = levels_from f s h k 1 ts g.used g.page (ltb g.used de.used) g.reached

  module _ (ok : q.ok ≡ true) where
    both : (g.ok ≡ true) × (l.ok ≡ true)
    unfolding plan_of
    both = plan_ok f s h k de.used ts g ok

    G : PagesIn f s H g
    G = pages_in f s H k de.used start start_in both.0

    L : LevelsIn f s H l
    L = levels_in f s H k 1 ts g.used g.page (ltb g.used de.used) g.reached (omega arith) steps_fine both.1

    plan_is : q ≡ record {
      ok = true;
      page = g.page;
      items = g.items;
      spots = kept_levels l.spots;
      linked = ltb (first_spot l.spots).used (first_used ts);
      pages = g.released;
      nodes = l.released ++ gone_roots l.spots;
    }
    unfolding plan_of
    plan_is = Rattle.remove.proofs.Plans.plan_is f s h k de.used ts g l both.0 both.1 refl

    first_in : (xs : List Spot) → All (SpotIn f s H) xs → forward_word (first_spot xs).block 0 ≤ h.nodes_taken
    unfolding first_spot
    first_in [] a = omega arith
    first_in (x ∷ xs) a = a.0.forward_in

    pub doable : Doable f s q
    doable =
        subst (Doable f s) (sym plan_is)
        (record {
          room = H.room;
          capacity = H.limits.capacity_low;
          own = elim (ℕ_discrete g.page 0) [
            | yes e ↦ inl e
            | no e ↦ inr (omega (arith, e), omega (arith, G.page_in, H.counts.filled), G.fits)
          ];
          spots = all_map (SpotIn f s H) _ (kept_levels l.spots)
              (λ x w. (w.number_in.0, omega (arith, w.number_in.1, H.counts.taken), w.long))
              (kept_all (SpotIn f s H) l.spots L.spots_in);
          link = λ e. omega (arith, first_in (kept_levels l.spots) (kept_all (SpotIn f s H) l.spots L.spots_in), H.counts.taken);
          pages = in_wide h.pages_taken h.page_blocks g.released H.counts.filled G.released_in;
          nodes = in_wide h.nodes_taken h.node_blocks (l.released ++ gone_roots l.spots) H.counts.taken
              (in_append f s H h.nodes_taken l.released (gone_roots l.spots) L.released_in
              (in_backwards h.nodes_taken [] (numbers_of (drop (length (kept_levels l.spots)) l.spots)) tt
              (numbers_all h.nodes_taken (drop (length (kept_levels l.spots)) l.spots)
              (all_map (SpotIn f s H) (λ x. (1 ≤ x.number) × (x.number ≤ h.nodes_taken))
              (drop (length (kept_levels l.spots)) l.spots) (λ x w. w.number_in)
              (drop_all (SpotIn f s H) (length (kept_levels l.spots)) l.spots L.spots_in)))));
        })

    pub plan_framed : Framed f s (written_by f s h q) (NodeWritten q) (PageWritten q) HeadWritten
    plan_framed = written_framed f s q doable

abbrev AfterR : Type 0
AfterR = Rattle.remove.specs.Remove.After

module _ (f : Format) (s : List ℕ) (it : Item) (q : Plan) where
  abbrev out : Bool → AfterR
  out b = elim b [
    | false ↦ Rattle.remove.specs.Remove.same s 9
    | true ↦
        record { reply = record { number = 0; item = it }; words = written_by f s (head_of s) q }
  ]

  out_done : (b : Bool) → b ≡ true → (out b).words ≡ written_by f s (head_of s) q
  out_done true e = refl
  out_done false e = absurd (false≢true e)

  out_stays : (b : Bool) → b ≡ false → (out b).words ≡ s
  out_stays true e = absurd (false≢true (sym e))
  out_stays false e = refl

  carried_done : q.ok ≡ true → (carried_out f s (head_of s) it q).words ≡ written_by f s (head_of s) q
  unfolding carried_out
  carried_done e = out_done q.ok e

  carried_stays : q.ok ≡ false → (carried_out f s (head_of s) it q).words ≡ s
  unfolding carried_out
  carried_stays e = out_stays q.ok e

-- either nothing is changed, or the blocks of a plan are
pub remove_writes : RemoveWrites
unfolding remove_of found_of
remove_writes f s k =
    elim (bool_cases (head_rule f s)) [
      | inr a ↦ inl (rw (a, remove_of))
      | inl a ↦ go (find_of f s (head_of s) k) refl a
    ]
  where
    is : head_rule f s ≡ true → remove_of f s k ≡ found_of f s (head_of s) k (find_of f s (head_of s) k)
    is a = rw (a, remove_of)

    go : (x : Sought) → find_of f s (head_of s) k ≡ x → head_rule f s ≡ true → ((remove_of f s k).words ≡ s) ⊎ Done f s k
    go Damaged e a = inl (ap (λ (x : AfterR). x.words) (is a ∙ ap (found_of f s (head_of s) k) e))
    go Nothing e a = inl (ap (λ (x : AfterR). x.words) (is a ∙ ap (found_of f s (head_of s) k) e))
    go (Record it) e a =
        let p : Plan = plan_of f s (head_of s) k (descent f s (head_of s) k) in
        let w : (remove_of f s k).words ≡ (carried_out f s (head_of s) it p).words =
        ap (λ (x : AfterR). x.words) (is a ∙ ap (found_of f s (head_of s) k) e) in
        elim (bool_cases p.ok) [
          | inr n ↦ inl (w ∙ carried_stays f s it p n)
          | inl y ↦
              inr (subst (λ (t : List ℕ). Framed f s t (NodeWritten p) (PageWritten p) HeadWritten) (sym (w ∙ carried_done f s it p y))
              (plan_framed f s a k it e y))
        ]

pub remove_inside : RemoveInside
remove_inside f s k =
    elim (remove_writes f s k) [
      | inl e ↦ subst (Kept f s) (sym e) (kept_self f s)
      | inr d ↦ d.kept
    ]
