-- The climb's loop: i levels are done, and the rest of the climb leads to the same end.
--   Climbing    == where the loop stands
--   climb_on, climb_stops, climb_tops == a node split; a node with room; above the root
--   climb_ready == the node of level i + 1 may be written; climb_rest: none is left
--   climb_short == a new root has a place on the path
use mathlib.Core.Path.{◌≡◌, refl, sym, ap, ap₂, ◌∙◌, subst, subst₂}
use mathlib.Core.List.{List, [], ◌∷◌, ◌++◌, map}
use Prim.Native.Nat.{ℕ, suc, ◌+◌, ◌≤◌, ◌<◌}
use native.Mathlib.Nat.{sub-zero}
use native.Mathlib.Omega.{arith}
use lib.ListN.{length, take, drop, get_or, set, length-set, length-map, length-take, length-append, drop_of_length-le, get_or-map}
use lib.Seq.{length-take-le, take-suc-set, take-set-lt, drop-set-lt, set_split, drop-cons, take_all, get_or-take, append_snoc}
use Rattle.lists.specs.Bits.{bits}
use Rattle.lists.proofs.ListLaws.{map_append, map_set}
use Rattle.tree.specs.Carry.{bump_cost}
use Rattle.tree.proofs.CarryLaws.{bump_full}
use Rattle.store.specs.declared.Format.{Format}
use Rattle.store.specs.declared.Head.{Head}
use Rattle.store.specs.Format.{width}
use Rattle.store.specs.Head.{head_of}
use Rattle.store.specs.Released.{next_node}
use Rattle.search.specs.declared.Step.{Step}
use Rattle.search.specs.Descent.{no_step}
use Rattle.split.specs.Frame.{node_of}
use Rattle.split.specs.Round.{Place, deeper, in_half, grown, split_node, new_root, climb}
use Rattle.split.specs.Insertion.{word_store}
use Rattle.split.specs.Block.{grow, node_ops}
use Rattle.split.proofs.Climb.{climb_room, climb_full}
use Rattle.insert.specs.Enter.{place_of, places}
use Rattle.insert.specs.Fine.{Climbable, Carries, Ready, Held, Supply, Clear, climbed, depths}
use Rattle.insert.proofs.InsideWrites.{among_more, clear_behind, node_head, length_grow}
use Rattle.insert.proofs.HeldRound.{Cut, split_cut, held_beside}
use Rattle.insert.proofs.SplitCode.{split_levels}
use Rattle.insert.proofs.RootCode.{some, next_room, room_left, root_levels, root_root}

-- what a split leaves of a climb: its rest
pub cut_climbable : (f : Format) (s t : List ℕ) (p : Place) (path : List Place) (a c : ℕ) (y : Climbable f s (p ∷ path)) (n : ℕ) (ns : List ℕ)
    → y.numbers ≡ n ∷ ns → (head_of s).theta ≤ p.depth
    → Cut f (head_of s).theta s t p a c n ns → Climbable f t path
cut_climbable f s t p path a c y n ns e full w =
    let θ : ℕ = (head_of s).theta in
    let cost = (bump_full θ p.depth (depths path) full).1 in
    let theta : (head_of t).theta ≡ θ = w.kept.sizes_same.theta in
    let clear : Clear (n ∷ ns) (p ∷ path) = subst (λ l. Clear l (p ∷ path)) e y.clear in
    record {
      sized = w.kept.sized;
      among = among_more f θ (head_of s).nodes_taken (head_of t).nodes_taken path (omega (arith, w.taken)) y.among.1;
      numbers = ns;
      supply = w.supply;
      enough = omega (arith, ap (λ x. bump_cost x (depths path)) theta, y.enough, ap length e, cost);
      clear = clear_behind f θ n ns path clear.1;
      held =
          subst (λ x. Held x t path) (sym theta)
          (held_beside θ p.at (head_of s).nodes_taken (n ∷ ns) s t path w.other_is y.among.1 clear.1 y.apart.0 y.held.1);
      apart = y.apart.1;
      slack = y.slack.1;
    }

pub full_some : (f : Format) (s : List ℕ) (p : Place) (path : List Place) (y : Climbable f s (p ∷ path)) → (head_of s).theta ≤ p.depth
    → 1 ≤ length y.numbers
full_some f s p path y full = omega (arith, y.enough, (bump_full (head_of s).theta p.depth (depths path) full).1)

pub full_more : (f : Format) (s : List ℕ) (p : Place) (path : List Place) → Climbable f s (p ∷ path) → (head_of s).theta ≤ p.depth
    → (1 ≤ next_node s) × (next_node s ≤ (head_of s).node_blocks)
full_more f s p path y full = next_room f s y.numbers y.sized y.supply (full_some f s p path y full)

pub ready_first : (f : Format) (s : List ℕ) (p : Place) (path : List Place) → Climbable f s (p ∷ path) → Ready f s p
ready_first f s p path y =
    record {
      sized = y.sized;
      in_use = record { positive = y.among.0.0; within = y.among.0.1 };
      fits = y.supply.fits;
      holder = y.held.0;
      left = omega (arith, y.slack.0);
    }

pub grown_head : (f : Format) (s : List ℕ) (p : Place) (a c : ℕ) → Ready f s p
    → head_of (grown (node_ops (head_of s).theta) (word_store f (head_of s).theta) s p a c) ≡ head_of s
unfolding grown
grown_head f s p a c y =
    let θ : ℕ = (head_of s).theta in
    node_head f s p.at (grow θ (node_of s p.at) p.bits a c) y.sized y.in_use.positive
    (omega (arith, y.in_use.within, y.fits))
    (length_grow θ (node_of s p.at) p.bits a c)

-- places of steps
module _ (f : Format) (k n : ℕ) (ts : List Step) where
  abbrev held : List Place
  held = places f k n ts

  pub length_places : n ≤ length ts → length held ≡ n
  length_places h = length-map (take n ts) (place_of f k) ∙ length-take-le n ts h

  pub places_at : (i : ℕ) → i < n → n ≤ length ts → drop i held ≡ place_of f k (get_or ts i no_step) ∷ drop (suc i) held
  places_at i l h =
      drop-cons held i (place_of f k no_step) (omega (arith, length_places h))
      ∙ ap (λ p. p ∷ drop (suc i) held)
      (get_or-map (place_of f k) (take n ts) i no_step ∙ ap (place_of f k) (get_or-take n ts i no_step l))

  pub places_set : (i : ℕ) (t : Step) → i < n → places f k n (set ts i t) ≡ set held i (place_of f k t)
  places_set i t l = ap (map (place_of f k)) (take-set-lt n ts i t l) ∙ map_set (place_of f k) (take n ts) i t

  pub places_more : (t : Step) → n < length ts → places f k (suc n) (set ts n t) ≡ held ++ (place_of f k t ∷ [])
  places_more t l = ap (map (place_of f k)) (take-suc-set ts n t l) ∙ map_append (place_of f k) (take n ts) (t ∷ [])

pub one_first : (xs ys : List Place) (m : ℕ) → length ys ≤ m → length (take 1 xs ++ ys) ≤ suc m
one_first xs ys m h = omega (arith, length-append (take 1 xs) ys, length-take 1 xs)

-- where the loop stands: the words s with the head h, the steps ts and the halves a and c of the level below, i levels done of n
pub record Climbing (f : Format) (k : ℕ) (s₀ : List ℕ) (path₀ : List Place) (a₀ c₀ n : ℕ) (s : List ℕ) (h : Head) (ts : List Step)
    (i a c : ℕ)
    : Type 0 where
  pub head_is : h ≡ head_of s
  pub levels : h.levels ≡ n
  pub long : length ts ≡ 32
  pub low : 1 ≤ i
  pub high : i ≤ n
  pub top : n ≤ 32
  pub able : Climbable f s (drop i (places f k n ts))
  pub store_is : (climbed f s k (drop i (places f k n ts)) a c).store ≡ (climbed f s₀ k (drop 1 path₀) a₀ c₀).store
  pub path_is :
      take i (places f k n ts) ++ (climbed f s k (drop i (places f k n ts)) a c).path
      ≡ take 1 path₀ ++ (climbed f s₀ k (drop 1 path₀) a₀ c₀).path

module _ (f : Format) (k : ℕ) (s₀ : List ℕ) (path₀ : List Place) (a₀ c₀ n : ℕ) (s : List ℕ) (h : Head) (ts : List Step) (i a c : ℕ)
    (w : Climbing f k s₀ path₀ a₀ c₀ n s h ts i a c) where
  abbrev θ : ℕ
  θ = (head_of s).theta

  abbrev path : List Place
  path = places f k n ts

  abbrev goal : List Place
  goal = take 1 path₀ ++ (climbed f s₀ k (drop 1 path₀) a₀ c₀).path

  fits : n ≤ length ts
  fits = omega (arith, w.long, w.top)

  -- a level that is left
  module _ (l : i < n) where
    abbrev t : Step
    t = get_or ts i no_step

    abbrev p : Place
    p = place_of f k t

    at : drop i path ≡ p ∷ drop (suc i) path
    at = places_at f k n ts i l fits

    able : Climbable f s (p ∷ drop (suc i) path)
    able = subst (Climbable f s) at w.able

    pub climb_ready : Ready f s p
    climb_ready = ready_first f s p (drop (suc i) path) able

    pub climb_more : h.theta ≤ t.depth → (1 ≤ next_node s) × (next_node s ≤ h.node_blocks)
    climb_more =
        subst (λ x. x.theta ≤ t.depth → (1 ≤ next_node s) × (next_node s ≤ x.node_blocks)) (sym w.head_is)
        (full_more f s p (drop (suc i) path) able)

    module _ (t' : Step) where
      after : drop (suc i) (places f k n (set ts i t')) ≡ drop (suc i) path
      after = ap (drop (suc i)) (places_set f k n ts i t' l) ∙ drop-set-lt (suc i) path i (place_of f k t') (omega arith)

      before : take (suc i) (places f k n (set ts i t')) ≡ take i path ++ (place_of f k t' ∷ [])
      before =
          ap (take (suc i)) (places_set f k n ts i t' l) ∙ take-suc-set path i (place_of f k t') (omega (arith, length_places f k n ts fits))

      whole : places f k n (set ts i t') ≡ take i path ++ place_of f k t' ∷ drop (suc i) path
      whole = places_set f k n ts i t' l ∙ set_split path i (place_of f k t') (omega (arith, length_places f k n ts fits))

      -- its node has room
      abbrev Stops : Head → List ℕ → Type 0
      Stops x v =
          t.depth < x.theta → v ≡ grown (node_ops x.theta) (word_store f x.theta) s p a c → place_of f k t' ≡ deeper p
          → Carries v x (set ts i t') × (v ≡ (climbed f s₀ k (drop 1 path₀) a₀ c₀).store) × (places f k x.levels (set ts i t') ≡ goal)

      stops_own : (head_of s).levels ≡ n → (v : List ℕ) → Stops (head_of s) v
      stops_own lv v room is e =
          let rest : List Place = drop (suc i) path in
          let end : climbed f s k (drop i path) a c
          ≡ record { store = grown (node_ops θ) (word_store f θ) s p a c; path = deeper p ∷ rest } =
          ap (λ q. climbed f s k q a c) at ∙ climb_room (node_ops θ) (word_store f θ) θ (bits (width f) k) s p a c rest room in (
            record {
              head_is = sym (ap head_of is ∙ grown_head f s p a c climb_ready);
              long = length-set ts i t' ∙ w.long;
              low = omega (arith, w.low, w.high);
              high = omega (arith, w.top);
            },
            is ∙ ap (λ r. r.store) (sym end) ∙ w.store_is,
            ap (λ m. places f k m (set ts i t')) lv ∙ whole ∙ ap (λ q. take i path ++ q ∷ drop (suc i) path) e
                ∙ ap (λ r. take i path ++ r.path) (sym end)
                ∙ w.path_is,
          )

      pub climb_stops : (v : List ℕ) → Stops h v
      climb_stops v =
          subst (λ x. x.levels ≡ n → Stops x v) (sym w.head_is) (λ lv. stops_own lv v) w.levels

      -- its node splits
      abbrev On : Head → Head → ℕ → List ℕ → Type 0
      On x h' m' v =
          x.theta ≤ t.depth → m' ≡ next_node s → v ≡ split_node (node_ops x.theta) (word_store f x.theta) s p a c → h' ≡ head_of v
          → place_of f k t' ≡ in_half h'.theta p m'
          → Climbing f k s₀ path₀ a₀ c₀ n v h' (set ts i t') (i + 1) t.node m'

      on_own : (h' : Head) (m' : ℕ) (v : List ℕ) → (head_of s).levels ≡ n → On (head_of s) h' m' v
      on_own h' m' v lv full taken is own e =
          let rest : List Place = drop (suc i) path in
          let more = full_more f s p rest able full in
          let o = some able.numbers (full_some f s p rest able full) in
          let cut =
          split_cut f θ s p a c o.n o.ns able.sized refl able.among.0 (subst (Supply s) o.is able.supply)
          (subst (λ l. Clear l (p ∷ rest)) o.is able.clear).0 in
          let sp : List ℕ = split_node (node_ops θ) (word_store f θ) s p a c in
          let m : ℕ = next_node s in
          let one : i + 1 ≡ suc i = omega arith in
          let split : h' ≡ head_of sp = own ∙ ap head_of is in
          let theta : (head_of sp).theta ≡ θ = cut.kept.sizes_same.theta in
          let left : drop (i + 1) (places f k n (set ts i t')) ≡ rest = ap (λ j. drop j (places f k n (set ts i t'))) one ∙ after in
          let done : take (i + 1) (places f k n (set ts i t')) ≡ take i path ++ (in_half θ p m ∷ []) =
          ap (λ j. take j (places f k n (set ts i t'))) one ∙ before
          ∙ ap (λ q. take i path ++ (q ∷ [])) (e ∙ ap₂ (λ x y. in_half x p y) (ap (λ (x : Head). x.theta) split ∙ theta) taken) in
          let up = climb (node_ops θ) (word_store f θ) θ (bits (width f) k) sp rest p.at m in
          let above : climbed f v k (drop (i + 1) (places f k n (set ts i t'))) t.node m' ≡ up =
          ap₂ (λ x q. climbed f x k q t.node m') is left
          ∙ ap₂ (λ x y. climb (node_ops x) (word_store f x) x (bits (width f) k) sp rest p.at y) theta taken in
          let whole_is : climbed f s k (drop i path) a c ≡ record { store = up.store; path = in_half θ p m ∷ up.path } =
          ap (λ q. climbed f s k q a c) at ∙ climb_full (node_ops θ) (word_store f θ) θ (bits (width f) k) s p a c rest full in
          record {
            head_is = own;
            levels = ap (λ (x : Head). x.levels) split ∙ split_levels f s p a c climb_ready more.0 more.1 ∙ lv;
            long = length-set ts i t' ∙ w.long;
            low = omega arith;
            high = omega arith;
            top = w.top;
            able = subst₂ (Climbable f) (sym is) (sym left) (cut_climbable f s sp p rest a c able o.n o.ns o.is full cut);
            store_is = ap (λ r. r.store) above ∙ ap (λ r. r.store) (sym whole_is) ∙ w.store_is;
            path_is =
                ap₂ (λ q r. q ++ r.path) done above ∙ append_snoc (take i path) (in_half θ p m) up.path
                ∙ ap (λ r. take i path ++ r.path) (sym whole_is)
                ∙ w.path_is;
          }

      pub climb_on : (h' : Head) (m' : ℕ) (v : List ℕ) → On h h' m' v
      climb_on h' m' v = subst (λ x. x.levels ≡ n → On x h' m' v) (sym w.head_is) (on_own h' m' v) w.levels

  -- no level is left
  module _ (last : n ≤ i) where
    none : drop i path ≡ []
    none = drop_of_length-le path {i = i} (omega (arith, length_places f k n ts fits))

    pub climb_rest : Climbable f s []
    climb_rest = subst (Climbable f s) none w.able

    more : (1 ≤ next_node s) × (next_node s ≤ (head_of s).node_blocks) × (next_node s ≤ (head_of s).node_blocks)
    more = room_left f s climb_rest (head_of s) refl

    abbrev root : Place
    root = record { at = next_node s; bits = bits (width f) k; depth = 1 }

    end : climbed f s k (drop i path) a c ≡ record { store = new_root (node_ops θ) (word_store f θ) s a c; path = root ∷ [] }
    unfolding climb
    end = ap (λ q. climbed f s k q a c) none

    all_done : take i path ≡ path
    all_done = take_all i path (omega (arith, length_places f k n ts fits))

    path_now : path ++ (root ∷ []) ≡ goal
    path_now = ap₂ (λ q r. q ++ r.path) (sym all_done) (sym end) ∙ w.path_is

    -- there is a place for it
    pub climb_short : length goal ≤ 32 → n < 32
    climb_short short =
        omega (arith, ap length path_now, length-append path (root ∷ []), length_places f k n ts fits)

    abbrev Tops : Head → Head → List ℕ → Type 0
    Tops x h' v =
        length goal ≤ 32 → v ≡ new_root (node_ops x.theta) (word_store f x.theta) s a c → h' ≡ head_of v
        → let ts' = set ts n (record { node = h'.root; entry = 0; depth = 1; used = 0 }) in
        Carries v h' ts' × (v ≡ (climbed f s₀ k (drop 1 path₀) a₀ c₀).store) × (places f k h'.levels ts' ≡ goal)

    tops_own : (h' : Head) (v : List ℕ) → (head_of s).levels ≡ n → Tops (head_of s) h' v
    tops_own h' v lv short is own =
        let t' : Step = record { node = h'.root; entry = 0; depth = 1; used = 0 } in
        let ok = climb_rest.sized in
        let top = own ∙ ap head_of is in
        let levels : h'.levels ≡ suc n = ap (λ (x : Head). x.levels) top ∙ root_levels f s a c ok more.0 more.1 ∙ ap suc lv in
        let number : h'.root ≡ next_node s = ap (λ (x : Head). x.root) top ∙ root_root f s a c ok more.0 more.1 in
        let small = climb_short short in
        let place : place_of f k t' ≡ root =
        ap₂ (λ x j. record { at = x; bits = bits j k; depth = 1 }) number (sub-zero (width f)) in (
          record {
            head_is = own;
            long = length-set ts n t' ∙ w.long;
            low = omega (arith, levels);
            high = omega (arith, levels);
          },
          is ∙ ap (λ r. r.store) (sym end) ∙ w.store_is,
          ap (λ m. places f k m (set ts n t')) levels ∙ places_more f k n ts t' (omega (arith, w.long))
              ∙ ap (λ q. path ++ (q ∷ [])) place
              ∙ path_now,
        )

    pub climb_tops : (h' : Head) (v : List ℕ) → Tops h h' v
    climb_tops h' v = subst (λ x. x.levels ≡ n → Tops x h' v) (sym w.head_is) (tops_own h' v) w.levels
