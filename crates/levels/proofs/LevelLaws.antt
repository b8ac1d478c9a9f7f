-- One level of the way up, and the levels as a loop: the levels done, with the definition of the rest, are the whole.
use mathlib.Core.Path.{◌≡◌, refl, sym, ap, ap₂, ◌∙◌, subst}
use mathlib.Core.Bool.{Bool, true, false, false≢true}
use mathlib.Core.List.{List, [], ◌∷◌, ◌++◌, map, append_assoc, append-nil}
use mathlib.Core.Logic.{inl, inr}
use Prim.Native.Nat.{ℕ, zero, suc, ◌+◌, ◌-◌, ◌*◌, ◌≤◌, ◌<◌}
use native.Mathlib.Decide.{ℕ_discrete, dec_lt}
use native.Mathlib.Nat.{mul-le-mul_left}
use native.Mathlib.Numerals.{add-one}
use native.Mathlib.Omega.{arith}
use lib.Dec.{ltb}
use lib.ListN.{length, length-append, get_or, take, drop, set, get_or-append}
use lib.Seq.{length-take-le, drop-cons, get_or_at, get_or-take, get_or-drop, get_or-set_same, get_or-set_other}
use borrow.Author.Tests.{lt-ltb, le-ltb}
use Rattle.lists.specs.Bits.{bits}
use Rattle.lists.specs.Lists.{replaced, part}
use Rattle.lists.proofs.Parts.{get_d_past, part_replaced}
use Rattle.lists.proofs.Elsewhere.{elsewhere_replaced, part_beside}
use Rattle.store.specs.declared.Format.{Format}
use Rattle.store.specs.declared.Head.{Head}
use Rattle.store.specs.Format.{width}
use Rattle.store.specs.Head.{word, head_of, node_words, node_start, node_at}
use Rattle.search.specs.declared.Step.{Step}
use Rattle.search.specs.Descent.{no_step}
use Rattle.remove.specs.Remove.{Reach, Spot, no_spot, covered, spot_at, spot_over, node_joins, Levels, levels_from, first_spot, first_used}
use Rattle.remove.proofs.BlocksIn.{cover_fine}
use Rattle.remove.proofs.LevelsPhase.{levels_lost, levels_stay, levels_go}
use Rattle.std.specs.Prelude.{Result}
use Rattle.answers.specs.declared.Refusal.{Refusal}
use Rattle.siblings.specs.Outcome.{NodeJoins, nodes_of}
use Rattle.siblings.specs.Marks.{Tracks}
use Rattle.siblings.specs.Nodes.{NodesR, spot_is, HandFine, Noded}
use Rattle.apply.specs.Carried.{block_in, LevelIs}
use Rattle.apply.proofs.LoopLaws.{node_small}
use Rattle.levels.specs.Outcome.{Rise, LevelJoins, rise_of}
use Rattle.levels.specs.Levels.{LevelsAre, StaysIn, level_nodes, Turned, Levelled}
use Rattle.levels.proofs.PathFacts.{PathFine}

-- a node in hand, covered
pub hand_fine : (f : Format) (θ k used m q : ℕ) (ws : List ℕ) → HandFine f θ m used ws → {out : List ℕ} → out ≡ covered (width f) θ k used m q ws
    → HandFine f θ m used out
hand_fine f θ k used m q ws y e =
    let v = cover_fine θ ws (bits (width f - used) k) (m - used) q y.shallow y.reaches in
    rw e record { shallow = v.0; reaches = v.1; left = omega (arith, y.left, v.2) }

-- one level
module _ (f : Format) (s : List ℕ) (h : Head) (k level : ℕ) (t : Step) (m q : ℕ) (joins : Bool) where
  module _ (rs : List Reach) where
    abbrev start : NodesR
    start = record { ok = true; spot = spot_over f s h k m q t; released = []; reached = rs }

    spot_start : {hand : List ℕ} → h ≡ head_of s → hand ≡ covered (width f) h.theta k t.used m q (node_at s h t.node)
        → start.spot ≡ spot_is t.node t.used t.node hand
    spot_start e g =
        ap (spot_is t.node t.used t.node)
        (ap (λ i. covered (width f) h.theta k t.used m q (node_at s i t.node)) (sym e) ∙ sym g)

  pub level_rests : (hand gone marks : List ℕ) (at : ℕ) → joins ≡ false → h ≡ head_of s
      → hand ≡ covered (width f) h.theta k t.used m q (node_at s h t.node) → (rs : List Reach) → Tracks (width f) k rs marks
      → Noded f k (level_nodes f s h k level t m q joins rs) (record { ok = true; number = t.node; used = t.used; last = t.node; end = at }) hand
      gone at gone marks
  level_rests hand gone marks at b e g rs y =
      subst
      (λ c. Noded f k (level_nodes f s h k level t m q c rs) (record { ok = true; number = t.node; used = t.used; last = t.node; end = at }) hand
      gone at gone marks)
      (sym b)
      (record {
        ok_is = refl;
        spot_is = λ o. spot_start rs e g;
        gone_are = λ o. sym (append-nil (take at gone));
        tracked = λ o. y;
      })

  pub level_joins : (hand hand' gone gone' marks marks' : List ℕ) (at : ℕ) (r : NodeJoins) → joins ≡ true → h ≡ head_of s
      → hand ≡ covered (width f) h.theta k t.used m q (node_at s h t.node)
      → ((g : NodesR) → g.ok ≡ true → g.spot ≡ spot_is t.node t.used t.node hand → g.released ≡ [] → Tracks (width f) k g.reached marks
      → Noded f k (node_joins f s h k level m q t.used g) r hand' gone at gone' marks')
      → (rs : List Reach) → Tracks (width f) k rs marks
      → Noded f k (level_nodes f s h k level t m q joins rs) r hand' gone at gone' marks'
  level_joins hand hand' gone gone' marks marks' at r b e g a rs y =
      subst (λ c. Noded f k (level_nodes f s h k level t m q c rs) r hand' gone at gone' marks') (sym b)
      (a (start rs) refl (spot_start rs e g) refl y)

-- a part of the blocks, lent and given back
abbrev pub lent_part : ℕ → ℕ → List ℕ → List ℕ
lent_part a w blocks = take (a + w - a) (drop a blocks)

pub part_long_lem : (θ : ℕ) (blocks : List ℕ) (l w : ℕ) → w ≡ node_words θ → θ ≤ 6 → 132 * l + 132 ≤ length blocks
    → length (lent_part (132 * l) w blocks) ≡ node_words θ
part_long_lem θ blocks l w e small fits =
    let k : 132 * l + w - 132 * l ≡ node_words θ = omega (arith, e) in
    ap (λ n. length (take n (drop (132 * l) blocks))) k
    ∙ length-take-le (node_words θ) (drop (132 * l) blocks) (omega (arith, lib.ListN.length-drop (132 * l) blocks, node_small θ small, fits))

module _ (θ : ℕ) (blocks hand : List ℕ) (l : ℕ) (small : θ ≤ 6) (fits : 132 * l + 132 ≤ length blocks) (same : length hand ≡ node_words θ)
    {out : List ℕ} (e : out ≡ replaced (132 * l) (node_words θ) hand blocks) where
  room : 132 * l + node_words θ ≤ length blocks
  room = omega (arith, node_small θ small, fits)

  pub block_here : block_in θ out l ≡ hand
  unfolding block_in
  block_here = ap (λ x. part x (132 * l) (node_words θ)) e ∙ part_replaced (132 * l) (node_words θ) hand blocks room same

  pub block_beside : (j : ℕ) → (j ≡ l → ⊥) → block_in θ out j ≡ block_in θ blocks j
  unfolding block_in
  block_beside j ne =
      ap (λ x. part x (132 * j) (node_words θ)) e
      ∙ part_beside 0 (elsewhere_replaced 0 (132 * l) (node_words θ) hand blocks room same) (132 * j) (node_words θ)
      (elim (dec_lt j l) [
        | yes p ↦ inl (omega (arith, node_small θ small))
        | no p ↦ inr (let z : l < j = omega (arith, ne) in omega (arith, node_small θ small))
      ])

pub turned : (f : Format) (k θ l : ℕ) (z : NodesR) (w : Rise) {r r' : Result Rattle.siblings.specs.declared.NodeJoins.NodeJoins Refusal} → r ≡ r'
    → (b : Bool) (hand blocks gone gone' marks : List ℕ) → block_in θ blocks l ≡ hand → Noded f k z (nodes_of r) hand gone w.end gone' marks
    → Turned f k θ l z w
    (record { ok = (nodes_of r').ok; joins = b; bits = (nodes_of r').used; pointer = (nodes_of r').number; end = (nodes_of r').end })
    blocks gone gone' marks
turned f k θ l z w q b hand blocks gone gone' marks e y₀ =
    let y = subst (λ x. Noded f k z (nodes_of x) hand gone w.end gone' marks) q y₀ in
    record {
      ok_is = y.ok_is;
      number_is = λ o. ap (λ (x : Spot). x.number) (y.spot_is o);
      used_is = λ o. ap (λ (x : Spot). x.used) (y.spot_is o);
      block_is = λ o. ap (λ (x : Spot). x.block) (y.spot_is o) ∙ sym e;
      gone_are = λ o. y.gone_are o;
      tracked = λ o. y.tracked o;
    }

pub turned_at : {f : Format} {k θ l : ℕ} {z : NodesR} {w : Rise} {r r' : Result Rattle.levels.specs.declared.Rise.Rise Refusal}
    {blocks gone gone' marks : List ℕ} → r ≡ r' → Turned f k θ l z w (rise_of r) blocks gone gone' marks
    → Turned f k θ l z w (rise_of r') blocks gone gone' marks
turned_at {f} {k} {θ} {l} {z} {w} {blocks = blocks} {gone} {gone'} {marks} q y =
    subst (λ x. Turned f k θ l z w (rise_of x) blocks gone gone' marks) q y

-- the levels done, and those as found behind them
map_at : (s : List ℕ) (us : List Step) (i : ℕ) → i < length us → get_or (map (spot_at s) us) i no_spot ≡ spot_at s (get_or us i no_step)
map_at s [] i l = absurd (omega arith)
map_at s (t ∷ us) zero l = refl
map_at s (t ∷ us) (suc i) l = map_at s us i (omega arith)

map_long : (s : List ℕ) (us : List Step) → length (map (spot_at s) us) ≡ length us
map_long s [] = refl
map_long s (t ∷ us) = ap suc (map_long s us)

first_of : (xs ys : List Spot) → 1 ≤ length xs → first_spot (xs ++ ys) ≡ first_spot xs
unfolding first_spot
first_of [] ys l = absurd (omega arith)
first_of (x ∷ xs) ys l = refl

abbrev over : List Spot → List ℕ → Levels → Levels
over done released up = record { ok = up.ok; spots = done ++ up.spots; released = released ++ up.released }

module _ (f : Format) (s : List ℕ) (h : Head) (k : ℕ) (ts : List Step) (whole : Levels) where
  pub record Rising (l : ℕ) (w : Rise) (numbers blocks gone marks : List ℕ) : Type 0 where
    pub done : List Spot
    pub reaches : List Reach
    pub long : length done ≡ l
    pub each : (j : ℕ) → j < l → ((get_or done j no_spot).number ≡ word numbers j) × ((get_or done j no_spot).block ≡ block_in h.theta blocks j)
    pub tracked : Tracks (width f) k reaches marks
    pub rest : whole ≡ over done (take w.end gone) (levels_from f s h k (l + 1) (drop l ts) w.bits w.pointer w.joins reaches)
    pub first : 1 ≤ l → ltb (first_spot done).used (first_used ts) ≡ true

-- before the first level
pub rising_start : (f : Format) (s : List ℕ) (h : Head) (k : ℕ) (ts : List Step) (m q : ℕ) (b : Bool) {w : Rise} (numbers blocks gone marks : List ℕ)
    (rs : List Reach) → w ≡ record { ok = true; joins = b; bits = m; pointer = q; end = 0 } → Tracks (width f) k rs marks
    → Rising f s h k ts (levels_from f s h k 1 ts m q b rs) 0 w numbers blocks gone marks
rising_start f s h k ts m q b numbers blocks gone marks rs e y =
    subst (λ w. Rising f s h k ts (levels_from f s h k 1 ts m q b rs) 0 w numbers blocks gone marks) (sym e)
    (record {
      done = [];
      reaches = rs;
      long = refl;
      each = λ j l. absurd (omega arith);
      tracked = y;
      rest = refl;
      first = λ l. absurd (omega arith);
    })

-- a turn
module _ {f : Format} {s : List ℕ} {h : Head} {k : ℕ} {ts : List Step} {whole : Levels} {l : ℕ} {w : Rise} {numbers blocks gone marks : List ℕ}
    (y : Rising f s h k ts whole l w numbers blocks gone marks) (low : l < length ts) {t : Step} (here : t ≡ get_or ts l no_step) {r : Rise}
    {blocks' gone' marks' : List ℕ}
    (turn : Turned f k h.theta l (level_nodes f s h k (l + 1) t w.bits w.pointer w.joins y.reaches) w r blocks' gone gone' marks') where
  abbrev us : List Step
  us = drop (suc l) ts

  abbrev g : NodesR
  g = level_nodes f s h k (l + 1) t w.bits w.pointer w.joins y.reaches

  next : drop l ts ≡ t ∷ us
  next = drop-cons ts l no_step low ∙ ap (λ x. x ∷ us) (sym here)

  abbrev from : List Step → Levels
  from vs = levels_from f s h k (l + 1) vs w.bits w.pointer w.joins y.reaches

  rest_is : whole ≡ over y.done (take w.end gone) (from (t ∷ us))
  rest_is = y.rest ∙ ap (λ vs. over y.done (take w.end gone) (from vs)) next

  pub rising_lost : r.ok ≡ false → whole.ok ≡ false
  rising_lost o =
      ap (λ (x : Levels). x.ok)
      (rest_is ∙ ap (over y.done (take w.end gone))
      (levels_lost f s h k (l + 1) t us w.bits w.pointer y.reaches w.joins g refl (sym turn.ok_is ∙ o)))

  module _ {numbers' : List ℕ} (stored : numbers' ≡ set numbers l r.pointer) (fits : l < length numbers)
      (beside : (j : ℕ) → (j ≡ l → ⊥) → block_in h.theta blocks' j ≡ block_in h.theta blocks j) where
    -- the level's node, as it is carried
    number_here : r.ok ≡ true → g.spot.number ≡ word numbers' l
    number_here o = turn.number_is o ∙ sym (get_or-set_same numbers l r.pointer 0 fits) ∙ ap (λ x. word x l) (sym stored)

    number_beside : (j : ℕ) → (j ≡ l → ⊥) → word numbers j ≡ word numbers' j
    number_beside j ne = sym (get_or-set_other numbers l j r.pointer 0 ne) ∙ ap (λ x. word x j) (sym stored)

    below_here : (xs : List Spot) (j : ℕ) → j < l → get_or (y.done ++ xs) j no_spot ≡ get_or y.done j no_spot
    below_here xs j p = get_or-append y.done xs no_spot j (omega (arith, y.long))

    at_here : (xs : List Spot) → get_or (y.done ++ (g.spot ∷ xs)) l no_spot ≡ g.spot
    at_here xs = get_or_at y.done g.spot xs no_spot l y.long

    carried_below : (xs : List Spot) (j : ℕ) → j < l
        → ((get_or (y.done ++ xs) j no_spot).number ≡ word numbers' j) × ((get_or (y.done ++ xs) j no_spot).block ≡ block_in h.theta blocks' j)
    carried_below xs j p =
        let e = below_here xs j p in
        let ne : j ≡ l → ⊥ = λ z. omega (arith, z) in
        (ap (λ (x : Spot). x.number) e ∙ (y.each j p).0 ∙ number_beside j ne, ap (λ (x : Spot). x.block) e ∙ (y.each j p).1 ∙ sym (beside j ne))

    carried_here : r.ok ≡ true → (xs : List Spot)
        → ((get_or (y.done ++ (g.spot ∷ xs)) l no_spot).number ≡ word numbers' l) × ((get_or (y.done ++ (g.spot ∷ xs)) l no_spot).block ≡ block_in h.theta blocks' l)
    carried_here o xs =
        (ap (λ (x : Spot). x.number) (at_here xs) ∙ number_here o, ap (λ (x : Spot). x.block) (at_here xs) ∙ turn.block_is o)

    gone_on : r.ok ≡ true → (xs : List ℕ) → take w.end gone ++ (g.released ++ xs) ≡ take r.end gone' ++ xs
    gone_on o xs = sym (append_assoc (take w.end gone) g.released xs) ∙ ap (λ ys. ys ++ xs) (sym (turn.gone_are o))

    -- where level 1 did not join
    not_first : l ≡ 0 → (xs : List Spot) → ltb (first_spot (y.done ++ (g.spot ∷ xs))).used (first_used ts) ≡ ltb g.spot.used t.used
    unfolding first_spot first_used
    not_first z xs =
        ap₂ (λ a b. ltb a b) (ap (λ (x : Spot). x.used) (none y.done (y.long ∙ z)))
        (ap first_used (ap (λ i. drop i ts) (sym z) ∙ next))
      where
        none : (ds : List Spot) → length ds ≡ 0 → first_spot (ds ++ (g.spot ∷ xs)) ≡ g.spot
        none [] e = refl
        none (d ∷ ds) e = absurd (omega (arith, e))

    pub rising_on : r.ok ≡ true → ltb r.bits t.used ≡ true → r.joins ≡ true → Rising f s h k ts whole (l + 1) r numbers' blocks' gone' marks'
    rising_on o b j =
        let up : Levels = levels_from f s h k (suc (l + 1)) us g.spot.used g.spot.number true g.reached in
        let fell : ltb g.spot.used t.used ≡ true = ap (λ n. ltb n t.used) (turn.used_is o) ∙ b in
        let go = levels_go f s h k (l + 1) t us w.bits w.pointer y.reaches w.joins g refl (sym turn.ok_is ∙ o) fell up refl in
        let up_is : up ≡ levels_from f s h k (l + 1 + 1) (drop (l + 1) ts) r.bits r.pointer r.joins g.reached =
        ap₂ (λ n m. levels_from f s h k n us m g.spot.number true g.reached) (sym (add-one (l + 1))) (turn.used_is o)
        ∙ ap₂ (λ vs q. levels_from f s h k (l + 1 + 1) vs r.bits q true g.reached) (ap (λ n. drop n ts) (sym (add-one l))) (turn.number_is o)
        ∙ ap (λ c. levels_from f s h k (l + 1 + 1) (drop (l + 1) ts) r.bits r.pointer c g.reached) (sym j) in
        record {
          done = y.done ++ (g.spot ∷ []);
          reaches = g.reached;
          long = length-append y.done (g.spot ∷ []) ∙ omega (arith, y.long);
          each = λ i p.
              elim (ℕ_discrete i l) [
                | yes z ↦
                    subst
                    (λ n. ((get_or (y.done ++ (g.spot ∷ [])) n no_spot).number ≡ word numbers' n)
                    × ((get_or (y.done ++ (g.spot ∷ [])) n no_spot).block ≡ block_in h.theta blocks' n))
                    (sym z) (carried_here o [])
                | no z ↦ carried_below (g.spot ∷ []) i (omega (arith, z, p))
              ];
          tracked = turn.tracked o;
          rest =
              rest_is ∙ ap (over y.done (take w.end gone)) go
              ∙ ap₂ (λ xs ns. record { ok = up.ok; spots = xs; released = ns }) (sym (append_assoc y.done (g.spot ∷ []) up.spots))
              (gone_on o up.released)
              ∙ ap (over (y.done ++ (g.spot ∷ [])) (take r.end gone')) up_is;
          first = λ p.
              elim (ℕ_discrete l 0) [
                | yes z ↦ not_first z [] ∙ fell
                | no z ↦
                    ap (λ (x : Spot). ltb x.used (first_used ts)) (first_of y.done (g.spot ∷ []) (omega (arith, y.long, z))) ∙ y.first (omega (arith, z))
              ];
        }

    -- the level did not join: those above stay as found
    pub rising_stays : r.ok ≡ true → ltb r.bits t.used ≡ false → length ts ≡ h.levels
        → ((j : ℕ) → l < j → j < h.levels → word numbers' j ≡ (get_or ts j no_step).node)
        → Levelled s h ts whole (record { ok = true; changed = l + 1; linked = ltb 0 l; end = r.end }) numbers' blocks' gone'
    rising_stays o b size path =
        let stay : ltb g.spot.used t.used ≡ false = ap (λ n. ltb n t.used) (turn.used_is o) ∙ b in
        let xs : List Spot = g.spot ∷ map (spot_at s) us in
        let is : whole ≡ record { ok = true; spots = y.done ++ xs; released = take w.end gone ++ g.released } =
        rest_is ∙ ap (over y.done (take w.end gone))
        (levels_stay f s h k (l + 1) t us w.bits w.pointer y.reaches w.joins g refl (sym turn.ok_is ∙ o) stay) in
        let spots_are : whole.spots ≡ y.done ++ xs = ap (λ (x : Levels). x.spots) is in
        let us_long : length us ≡ length ts - suc l = lib.ListN.length-drop (suc l) ts in
        record {
          ok_is = ap (λ (x : Levels). x.ok) (sym is);
          levels_are = λ _.
              subst (LevelsAre s h.theta (l + 1) numbers' blocks' h.levels) (sym spots_are)
              (record {
                long = length-append y.done xs ∙ omega (arith, y.long, map_long s us, us_long, size, low);
                each = λ j p.
                    elim (dec_lt j l) [
                      | yes a ↦
                          let v = carried_below xs j a in
                          record { number = v.0; carried = λ q. v.1; stays = λ q. absurd (omega arith) }
                      | no a ↦
                          elim (ℕ_discrete j l) [
                            | yes z ↦
                                subst (λ n. LevelIs s h.theta (l + 1) numbers' blocks' n (get_or (y.done ++ xs) n no_spot)) (sym z)
                                (let v = carried_here o (map (spot_at s) us) in
                                record { number = v.0; carried = λ q. v.1; stays = λ q. absurd (omega arith) })
                            | no z ↦
                                let i : ℕ = j - suc l in
                                let above : l < j = omega (arith, a, z) in
                                let at_j : get_or (y.done ++ xs) j no_spot ≡ spot_at s (get_or ts j no_step) =
                                get_d_past y.done xs no_spot (suc i) {i = j} (omega (arith, y.long, above))
                                ∙ map_at s us i (omega (arith, us_long, size, p, above))
                                ∙ ap (spot_at s) (get_or-drop (suc l) ts i no_step ∙ ap (λ n. get_or ts n no_step) (let v : suc l + i ≡ j = omega (arith, above) in v)) in
                                subst (LevelIs s h.theta (l + 1) numbers' blocks' j) (sym at_j)
                                (record { number = sym (path j above p); carried = λ q. absurd (omega arith); stays = λ q. refl })
                          ]
                    ];
              });
          gone_are = λ _. ap (λ (x : Levels). x.released) is ∙ sym (turn.gone_are o);
          linked_is = λ _.
              elim (ℕ_discrete l 0) [
                | yes z ↦
                    le-ltb 0 l (omega (arith, z))
                    ∙ sym (ap (λ ys. ltb (first_spot ys).used (first_used ts)) spots_are ∙ not_first z (map (spot_at s) us) ∙ stay)
                | no z ↦
                    lt-ltb 0 l (omega (arith, z))
                    ∙ sym (ap (λ ys. ltb (first_spot ys).used (first_used ts)) spots_are
                    ∙ ap (λ (x : Spot). ltb x.used (first_used ts)) (first_of y.done xs (omega (arith, y.long, z))) ∙ y.first (omega (arith, z)))
              ];
        }

-- all levels joined
pub rising_out : {f : Format} {s : List ℕ} {h : Head} {k : ℕ} {ts : List Step} {whole : Levels} {l : ℕ} {w : Rise} {numbers blocks gone marks : List ℕ}
    → Rising f s h k ts whole l w numbers blocks gone marks → length ts ≡ h.levels → h.levels ≡ l
    → 1 ≤ l → Levelled s h ts whole (record { ok = true; changed = h.levels; linked = true; end = w.end }) numbers blocks gone
unfolding levels_from
rising_out {f} {s} {h} {k} {ts} {whole} {l} {w} {numbers} {blocks} {gone} {marks} y size e some =
    let none : drop l ts ≡ [] = lib.ListN.drop_of_length-le ts {i = l} (omega (arith, size, e)) in
    let is : whole ≡ record { ok = true; spots = y.done; released = take w.end gone } =
    y.rest
    ∙ ap (λ vs. over y.done (take w.end gone) (levels_from f s h k (l + 1) vs w.bits w.pointer w.joins y.reaches)) none
    ∙ ap₂ (λ xs ns. record { ok = true; spots = xs; released = ns }) (append-nil y.done) (append-nil (take w.end gone)) in
    let spots_are : whole.spots ≡ y.done = ap (λ (x : Levels). x.spots) is in
    subst (λ i. Levelled s h ts whole (record { ok = true; changed = i; linked = true; end = w.end }) numbers blocks gone) (sym e)
    (record {
      ok_is = ap (λ (x : Levels). x.ok) (sym is);
      levels_are = λ _.
          subst (LevelsAre s h.theta l numbers blocks h.levels) (sym spots_are)
          (record {
            long = y.long ∙ sym e;
            each = λ j p.
                let v = y.each j (omega (arith, e, p)) in
                record { number = v.0; carried = λ q. v.1; stays = λ q. absurd (omega (arith, q, e, p)) };
          });
      gone_are = λ _. ap (λ (x : Levels). x.released) is;
      linked_is = λ _. sym (ap (λ ys. ltb (first_spot ys).used (first_used ts)) spots_are ∙ y.first some);
    })

-- the numbers above the level are still those of the path
pub numbers_above : (steps : List Step) (levels l x : ℕ) (numbers : List ℕ) {numbers' : List ℕ} → numbers' ≡ set numbers l x
    → ((j : ℕ) → l ≤ j → j < levels → word numbers j ≡ (get_or steps j no_step).node)
    → (j : ℕ) → l + 1 ≤ j → j < levels → word numbers' j ≡ (get_or steps j no_step).node
numbers_above steps levels l x numbers e a j p q =
    ap (λ ns. word ns j) e ∙ get_or-set_other numbers l j x 0 (λ z. omega (arith, z, p)) ∙ a j (omega arith) q

pub numbers_taken : (steps : List Step) (levels l : ℕ) (numbers : List ℕ)
    → ((j : ℕ) → l + 1 ≤ j → j < levels → word numbers j ≡ (get_or steps j no_step).node)
    → (j : ℕ) → l < j → j < levels → word numbers j ≡ (get_or (take levels steps) j no_step).node
numbers_taken steps levels l numbers a j p q =
    a j (omega arith) q ∙ ap (λ (t : Step). t.node) (sym (get_or-take levels steps j no_step q))

-- the released nodes: no more than the width for each level
pub ends_on : (W l e e' b used : ℕ) → e ≤ W * l → used ≤ W → e' + b ≡ e + used → e' ≤ W * (l + 1)
ends_on W l e e' b used p q r = omega arith

pub ends_in : (W l levels e used : ℕ) → l < levels → e ≤ W * l → used ≤ W → e + used ≤ W * levels
ends_in W l levels e used p q r = omega (arith, mul-le-mul_left {m = l + 1} {n = levels} W (omega arith))

-- damage
pub levelled_lost : (s : List ℕ) (h : Head) (ts : List Step) (z : Levels) (r : LevelJoins) (numbers blocks gone : List ℕ) → r.ok ≡ false → z.ok ≡ false
    → Levelled s h ts z r numbers blocks gone
levelled_lost s h ts z r numbers blocks gone o e =
    record {
      ok_is = o ∙ sym e;
      levels_are = λ q. absurd (false≢true (sym o ∙ q));
      gone_are = λ q. absurd (false≢true (sym o ∙ q));
      linked_is = λ q. absurd (false≢true (sym o ∙ q));
    }

-- the nodes that stay
pub path_stays : (f : Format) (s : List ℕ) (h : Head) (steps : List Step) (used changed : ℕ) (numbers : List ℕ) → PathFine f s h steps used
    → ((j : ℕ) → changed ≤ j → j < h.levels → word numbers j ≡ (get_or steps j no_step).node) → StaysIn s h changed h.levels numbers
path_stays f s h steps used changed numbers y path l p q =
    subst (λ n. node_start h n + node_words h.theta ≤ length s) (sym (path l p q)) (y.step l q).room
