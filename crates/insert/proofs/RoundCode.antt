-- A round in code: level 1, and the climb above it.
--   round_ready == the node of level 1 may be written
--   round_stops == it has room
--   round_more, round_behind == it is full: there is a node for its right half, and the node behind it is a taken one
--   round_climbs == it splits: what the climb above is given
--   round_ends  == the climb's end is the round's
use mathlib.Core.Path.{◌≡◌, refl, sym, ap, ap₂, ◌∙◌, subst, subst₂}
use mathlib.Core.List.{List, ◌∷◌, ◌++◌}
use Prim.Native.Nat.{ℕ, ◌≤◌, ◌<◌}
use native.Mathlib.Omega.{arith}
use lib.ListN.{length, take, drop, get_or, set, length-set}
use lib.Seq.{set_split}
use Rattle.lists.specs.Bits.{bits}
use Rattle.store.specs.declared.Format.{Format}
use Rattle.store.specs.declared.Head.{Head}
use Rattle.store.specs.Format.{width}
use Rattle.store.specs.Head.{head_of}
use Rattle.store.specs.Released.{next_node}
use Rattle.node.specs.Node.{forward_word}
use Rattle.search.specs.declared.Step.{Step}
use Rattle.search.specs.Descent.{no_step}
use Rattle.split.specs.Frame.{node_of}
use Rattle.split.specs.Round.{Place, deeper, in_half, grown, split_first, climb}
use Rattle.split.specs.Insertion.{word_store}
use Rattle.split.specs.Block.{node_ops}
use Rattle.represent.specs.Labelled.{count}
use Rattle.split.proofs.RoundLaws.{round_room, round_full}
use Rattle.insert.specs.Enter.{place_of, places}
use Rattle.insert.specs.Fine.{Climbable, Roundable, Carries, Ready, Led, Supply, Clear, climbed, rounded}
use Rattle.insert.proofs.HeldRound.{Cut, first_cut}
use Rattle.insert.proofs.FirstCode.{first_levels}
use Rattle.insert.proofs.RootCode.{Some, some}
use Rattle.insert.proofs.ClimbCode.{cut_climbable, full_some, full_more, ready_first, grown_head, length_places, places_at, places_set}

module _ (f : Format) (k : ℕ) (s : List ℕ) (h : Head) (ts : List Step) (a c : ℕ) (w : Carries s h ts)
    (z : Roundable f s (places f k h.levels ts)) where
  abbrev θ : ℕ
  θ = (head_of s).theta

  abbrev n : ℕ
  n = h.levels

  abbrev path : List Place
  path = places f k n ts

  abbrev t : Step
  t = get_or ts 0 no_step

  abbrev p : Place
  p = place_of f k t

  abbrev rest : List Place
  rest = drop 1 path

  fits : n ≤ length ts
  fits = omega (arith, w.long, w.high)

  at : path ≡ p ∷ rest
  at = places_at f k n ts 0 w.low fits

  abbrev whole_able : Roundable f s (p ∷ rest)
  whole_able = subst (Roundable f s) at z

  abbrev able : Climbable f s (p ∷ rest)
  able = whole_able.climb

  ahead : Led s (p ∷ rest)
  ahead = whole_able.led

  pub round_ready : Ready f s p
  round_ready = ready_first f s p rest able

  pub round_more : h.theta ≤ t.depth → (1 ≤ next_node s) × (next_node s ≤ h.node_blocks)
  round_more =
      subst (λ x. x.theta ≤ t.depth → (1 ≤ next_node s) × (next_node s ≤ x.node_blocks)) (sym w.head_is) (full_more f s p rest able)

  pub round_behind : forward_word (node_of s t.node) 0 ≤ h.node_blocks
  round_behind =
      subst (λ (x : Head). forward_word (node_of s t.node) 0 ≤ x.node_blocks) (sym w.head_is) (omega (arith, ahead.4, able.supply.fits))

  levels_own : (head_of s).levels ≡ n
  levels_own = ap (λ (x : Head). x.levels) (sym w.head_is)

  module _ (t' : Step) where
    whole : places f k n (set ts 0 t') ≡ place_of f k t' ∷ rest
    whole = places_set f k n ts 0 t' w.low ∙ set_split path 0 (place_of f k t') (omega (arith, length_places f k n ts fits, w.low))

    -- its node has room
    abbrev Stops : Head → List ℕ → Type 0
    Stops x v =
        t.depth < x.theta → v ≡ grown (node_ops x.theta) (word_store f x.theta) s p a c → place_of f k t' ≡ deeper p
        → Carries v x (set ts 0 t') × (v ≡ (rounded f s k path a c).store)
        × (places f k x.levels (set ts 0 t') ≡ (rounded f s k path a c).path)

    stops_own : (v : List ℕ) → Stops (head_of s) v
    stops_own v room is e =
        let end : rounded f s k path a c ≡ record { store = grown (node_ops θ) (word_store f θ) s p a c; path = deeper p ∷ rest } =
        ap (λ q. rounded f s k q a c) at ∙ round_room (node_ops θ) (word_store f θ) θ (bits (width f) k) s p rest a c room in (
          record {
            head_is = sym (ap head_of is ∙ grown_head f s p a c round_ready);
            long = length-set ts 0 t' ∙ w.long;
            low = omega (arith, w.low, levels_own);
            high = omega (arith, w.high, levels_own);
          },
          is ∙ ap (λ r. r.store) (sym end),
          ap (λ m. places f k m (set ts 0 t')) levels_own ∙ whole ∙ ap (λ q. q ∷ rest) e ∙ ap (λ r. r.path) (sym end),
        )

    pub round_stops : (v : List ℕ) → Stops h v
    round_stops v = subst (λ x. Stops x v) (sym w.head_is) (stops_own v)

    -- its node splits
    module _ (full : θ ≤ t.depth) (h' : Head) (m' : ℕ) (v : List ℕ) (taken : m' ≡ next_node s)
        (is : v ≡ split_first (node_ops θ) (word_store f θ) s p a c) (own : h' ≡ head_of v)
        (e : place_of f k t' ≡ in_half h'.theta p m') where
      abbrev sp : List ℕ
      sp = split_first (node_ops θ) (word_store f θ) s p a c

      abbrev m : ℕ
      m = next_node s

      more : (1 ≤ next_node s) × (next_node s ≤ (head_of s).node_blocks)
      more = full_more f s p rest able full

      o : Some able.numbers
      o = some able.numbers (full_some f s p rest able full)

      cut : Cut f θ s sp p a c o.n o.ns
      cut =
          first_cut f θ (bits (width f) k) s p a c o.n o.ns able.sized refl (ahead.0, ahead.1)
          (subst (Supply s) o.is able.supply) (subst (λ l. Clear l (p ∷ rest)) o.is able.clear).0 ahead.4
          (subst (λ l. count (forward_word (node_of s p.at) 0) l ≡ 0) o.is whole_able.behind)

      split : h' ≡ head_of sp
      split = own ∙ ap head_of is

      theta : (head_of sp).theta ≡ θ
      theta = cut.kept.sizes_same.theta

      levels : h'.levels ≡ n
      levels =
          ap (λ (x : Head). x.levels) split
          ∙ first_levels f s p a c round_ready more.0 more.1 (omega (arith, ahead.4, able.supply.fits))
          ∙ levels_own

      first : places f k h'.levels (set ts 0 t') ≡ in_half θ p m ∷ rest
      first =
          ap (λ i. places f k i (set ts 0 t')) levels ∙ whole
          ∙ ap (λ q. q ∷ rest) (e ∙ ap₂ (λ x i. in_half x p i) (ap (λ (x : Head). x.theta) split ∙ theta) taken)

      above : climbed f v k (drop 1 (places f k h'.levels (set ts 0 t'))) t.node m'
          ≡ climb (node_ops θ) (word_store f θ) θ (bits (width f) k) sp rest p.at m
      above =
          ap₂ (λ x q. climbed f x k (drop 1 q) t.node m') is first
          ∙ ap₂ (λ x i. climb (node_ops x) (word_store f x) x (bits (width f) k) sp rest p.at i) theta taken

      end : rounded f s k path a c
          ≡ (let r = climb (node_ops θ) (word_store f θ) θ (bits (width f) k) sp rest p.at m in
          record { store = r.store; path = in_half θ p m ∷ r.path })
      end = ap (λ q. rounded f s k q a c) at ∙ round_full (node_ops θ) (word_store f θ) θ (bits (width f) k) s p rest a c full

      climbs_own : length (rounded f s k path a c).path ≤ 32
          → Carries v h' (set ts 0 t') × Climbable f v (drop 1 (places f k h'.levels (set ts 0 t')))
          × (length (climbed f v k (drop 1 (places f k h'.levels (set ts 0 t'))) t.node m').path ≤ 31)
      climbs_own short = (
        record {
          head_is = own;
          long = length-set ts 0 t' ∙ w.long;
          low = omega (arith, levels, w.low);
          high = omega (arith, levels, w.high);
        },
        subst₂ (λ x q. Climbable f x (drop 1 q)) (sym is) (sym first) (cut_climbable f s sp p rest a c able o.n o.ns o.is full cut),
        omega (arith, ap (λ r. length r.path) above, ap (λ r. length r.path) end),
      )

      ends_own : (h₂ : Head) (ts₂ : List Step) (u : List ℕ)
          → u ≡ (climbed f v k (drop 1 (places f k h'.levels (set ts 0 t'))) t.node m').store
          → places f k h₂.levels ts₂
          ≡ take 1 (places f k h'.levels (set ts 0 t'))
          ++ (climbed f v k (drop 1 (places f k h'.levels (set ts 0 t'))) t.node m').path
          → (u ≡ (rounded f s k path a c).store) × (places f k h₂.levels ts₂ ≡ (rounded f s k path a c).path)
      ends_own h₂ ts₂ u store paths = (
        store ∙ ap (λ r. r.store) above ∙ ap (λ r. r.store) (sym end),
        paths ∙ ap₂ (λ q r. take 1 q ++ r.path) first above ∙ ap (λ r. r.path) (sym end),
      )

    -- by the head that is carried
    abbrev Splits : Head → Head → ℕ → List ℕ → Type 0 → Type 0
    Splits x h' m' v R =
        x.theta ≤ t.depth → m' ≡ next_node s → v ≡ split_first (node_ops x.theta) (word_store f x.theta) s p a c → h' ≡ head_of v
        → place_of f k t' ≡ in_half h'.theta p m' → R

    abbrev Climbs : Head → ℕ → List ℕ → Type 0
    Climbs h' m' v =
        length (rounded f s k path a c).path ≤ 32
        → Carries v h' (set ts 0 t') × Climbable f v (drop 1 (places f k h'.levels (set ts 0 t')))
        × (length (climbed f v k (drop 1 (places f k h'.levels (set ts 0 t'))) t.node m').path ≤ 31)

    abbrev Ends : Head → ℕ → List ℕ → Head → List Step → List ℕ → Type 0
    Ends h' m' v h₂ ts₂ u =
        u ≡ (climbed f v k (drop 1 (places f k h'.levels (set ts 0 t'))) t.node m').store
        → places f k h₂.levels ts₂
        ≡ take 1 (places f k h'.levels (set ts 0 t'))
        ++ (climbed f v k (drop 1 (places f k h'.levels (set ts 0 t'))) t.node m').path
        → (u ≡ (rounded f s k path a c).store) × (places f k h₂.levels ts₂ ≡ (rounded f s k path a c).path)

    pub round_climbs : (h' : Head) (m' : ℕ) (v : List ℕ) → Splits h h' m' v (Climbs h' m' v)
    round_climbs h' m' v =
        subst (λ x. Splits x h' m' v (Climbs h' m' v)) (sym w.head_is) (λ full q is own e. climbs_own full h' m' v q is own e)

    pub round_ends : (h' : Head) (m' : ℕ) (v : List ℕ) (h₂ : Head) (ts₂ : List Step) (u : List ℕ) → Splits h h' m' v (Ends h' m' v h₂ ts₂ u)
    round_ends h' m' v h₂ ts₂ u =
        subst (λ x. Splits x h' m' v (Ends h' m' v h₂ ts₂ u)) (sym w.head_is)
        (λ full q is own e. ends_own full h' m' v q is own e h₂ ts₂ u)
