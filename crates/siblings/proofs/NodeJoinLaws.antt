-- The joins of a level as a loop: what is left to join from the node in hand is the whole.
use mathlib.Core.Path.{◌≡◌, refl, sym, ap, ap₂, ◌∙◌, subst}
use mathlib.Core.Bool.{Bool, true, false, false≢true}
use mathlib.Core.List.{List, [], ◌∷◌, ◌++◌}
use Prim.Native.Nat.{ℕ, suc, ◌+◌, ◌-◌, ◌≤◌, ◌<◌}
use native.Mathlib.Omega.{arith}
use lib.ListN.{length, take, set}
use Rattle.store.specs.declared.Format.{Format}
use Rattle.store.specs.declared.Head.{Head}
use Rattle.store.specs.Format.{width}
use Rattle.store.specs.Head.{node_at, head_of, InUse, Under}
use Rattle.node.specs.Node.{depth_word}
use Rattle.search.specs.Descent.{step_of}
use Rattle.split.specs.Frame.{node_of}
use Rattle.split.specs.Value.{Shallow}
use Rattle.fuse.specs.Join.{joined}
use Rattle.remove.specs.Remove.{Reach, Spot, on_left, covered, both_nodes, node_joins}
use Rattle.remove.proofs.InsideRemove.{head_facts}
use Rattle.remove.proofs.BlocksIn.{visited_block}
use Rattle.siblings.specs.Outcome.{Found, NodeJoins}
use Rattle.siblings.specs.Marks.{Tracks}
use Rattle.siblings.specs.Nodes.{NodesR, spot_is, paired, Decided, Noded}
use Rattle.siblings.proofs.PageJoinLaws.{take_next}

-- the block of a sibling that was visited
pub sibling_fine : (f : Format) (s : List ℕ) (h : Head) (sk level p used : ℕ) → Under f s h → InUse h p → (step_of f s h sk level p used).ok ≡ true
    → Shallow h.theta (node_at s h p) × (used + depth_word (node_at s h p) 0 ≤ width f)
sibling_fine f s h sk level p used u =
    subst
    (λ i. InUse i p → (step_of f s i sk level p used).ok ≡ true → Shallow i.theta (node_at s i p) × (used + depth_word (node_at s i p) 0 ≤ width f))
    (sym u.head) (λ i o. visited_block f s (head_facts f s u.rule) sk level p used (i.positive, i.within) o)

append_none : (xs : List ℕ) → xs ++ [] ≡ xs
append_none [] = refl
append_none (x ∷ xs) = ap (λ ys. x ∷ ys) (append_none xs)

append_three : (xs ys zs : List ℕ) → (xs ++ ys) ++ zs ≡ xs ++ (ys ++ zs)
append_three [] ys zs = refl
append_three (x ∷ xs) ys zs = ap (λ w. x ∷ w) (append_three xs ys zs)

-- a number picked
abbrev pub Picked : Bool → ℕ → ℕ → ℕ → Type 0
Picked b r x y = (b ≡ true → r ≡ x) × (b ≡ false → r ≡ y)

module _ (f : Format) (s : List ℕ) (h : Head) (k level m q : ℕ) where
  module _ (g : NodesR) (p : ℕ) (rs : List Reach) where
    abbrev nx : Bool → NodesR
    nx b = both_nodes f s h k m q g b p rs

    nx_ok : (b : Bool) → (nx b).ok ≡ true
    unfolding both_nodes
    nx_ok true = refl
    nx_ok false = refl

    nx_reached : (b : Bool) → (nx b).reached ≡ rs
    unfolding both_nodes
    nx_reached true = refl
    nx_reached false = refl

    nx_released : (b : Bool) {number lost : ℕ} → g.spot.number ≡ number → Picked b lost number p → (nx b).released ≡ g.released ++ (lost ∷ [])
    unfolding both_nodes
    nx_released true e y = ap (λ x. g.released ++ (x ∷ [])) (e ∙ sym (y.0 refl))
    nx_released false e y = ap (λ x. g.released ++ (x ∷ [])) (sym (y.1 refl))

    nx_spot : (b : Bool) {number used last number' last' : ℕ} {hand hand' : List ℕ} → h ≡ head_of s → g.spot ≡ spot_is number used last hand
        → Picked b number' p number → Picked b last' last p → hand' ≡ covered (width f) h.theta k (used - 1) m q (paired h.theta (node_at s h p) hand b)
        → (nx b).spot ≡ spot_is number' (used - 1) last' hand'
    unfolding both_nodes paired
    nx_spot true {used = used} {hand = hand} at eg y z e =
        ap (λ (x : Spot). spot_is p (x.used - 1) x.last (covered (width f) h.theta k (x.used - 1) m q (joined h.theta (node_of s p) x.block))) eg
        ∙ ap₂ (λ a b. spot_is a (used - 1) b (covered (width f) h.theta k (used - 1) m q (joined h.theta (node_of s p) hand))) (sym (y.0 refl)) (sym (z.0 refl))
        ∙ ap (spot_is _ (used - 1) _)
        (ap (λ i. covered (width f) h.theta k (used - 1) m q (joined h.theta (node_at s i p) hand)) (sym at) ∙ sym e)
    nx_spot false {used = used} {hand = hand} at eg y z e =
        ap (λ (x : Spot). spot_is x.number (x.used - 1) p (covered (width f) h.theta k (x.used - 1) m q (joined h.theta x.block (node_of s p)))) eg
        ∙ ap₂ (λ a b. spot_is a (used - 1) b (covered (width f) h.theta k (used - 1) m q (joined h.theta hand (node_of s p)))) (sym (y.1 refl)) (sym (z.1 refl))
        ∙ ap (spot_is _ (used - 1) _)
        (ap (λ i. covered (width f) h.theta k (used - 1) m q (joined h.theta hand (node_at s i p))) (sym at) ∙ sym e)

  pub record Noding (whole : NodesR) (number left last at end : ℕ) (hand gone₀ gone marks : List ℕ) : Type 0 where
    pub now_in : NodesR
    pub fine : now_in.ok ≡ true
    pub spot : now_in.spot ≡ spot_is number left last hand
    pub tracked : Tracks (width f) k now_in.reached marks
    pub rest : node_joins f s h k level m q left now_in ≡ whole
    pub gone_are : take end gone ≡ take at gone₀ ++ now_in.released

  pub noding_start : (g : NodesR) (first used at : ℕ) (hand gone marks : List ℕ) → g.ok ≡ true → g.spot ≡ spot_is first used first hand
      → g.released ≡ [] → Tracks (width f) k g.reached marks → {left end : ℕ} → used ≡ left → at ≡ end
      → Noding (node_joins f s h k level m q used g) first left first at end hand gone gone marks
  noding_start g first used at hand gone marks o e r y d b =
      record {
        now_in = g;
        fine = o;
        spot = e ∙ ap (λ x. spot_is first x first hand) d;
        tracked = y;
        rest = ap (λ n. node_joins f s h k level m q n g) (sym d);
        gone_are =
            ap (λ i. take i gone) (sym b) ∙ sym (append_none (take at gone)) ∙ ap (λ xs. take at gone ++ xs) (sym r);
      }

  module _ (whole : NodesR) (number left last at end : ℕ) (hand gone₀ gone marks : List ℕ)
      (j : Noding whole number left last at end hand gone₀ gone marks) where
    abbrev ends : NodeJoins
    ends = record { ok = true; number = number; used = left; last = last; end = end }

    pub noding_out : left ≡ 0 → {end' : ℕ} → end ≡ end'
        → Noded f k whole (record { ok = true; number = number; used = 0; last = last; end = end' }) hand gone₀ at gone marks
    unfolding node_joins
    noding_out z b =
        let e : whole ≡ j.now_in = sym j.rest ∙ ap (λ n. node_joins f s h k level m q n j.now_in) z in
        rw e record {
          ok_is = sym j.fine;
          spot_is = λ o. j.spot ∙ ap (λ x. spot_is number x last hand) z;
          gone_are = λ o. ap (λ i. take i gone) (sym b) ∙ j.gone_are;
          tracked = λ o. j.tracked;
        }

    module _ (some : 1 ≤ left) {r : Found} {more : List ℕ} (y : Decided f s h k level j.now_in r more) where
      turn : whole ≡ node_joins f s h k level m q (suc (left - 1)) j.now_in
      turn = sym j.rest ∙ ap (λ n. node_joins f s h k level m q n j.now_in) (let e : left ≡ suc (left - 1) = omega arith in e)

      pub noding_lost : r.ok ≡ false → {x : NodeJoins} → x.ok ≡ false → (any other : List ℕ) → Noded f k whole x any gone₀ at other more
      noding_lost o e any other =
          rw (turn ∙ y.lost o m q (left - 1))
          record {
            ok_is = e;
            spot_is = λ b. absurd (false≢true (sym e ∙ b));
            gone_are = λ b. absurd (false≢true (sym e ∙ b));
            tracked = λ b. absurd (false≢true (sym e ∙ b));
          }

      module _ (ok : r.ok ≡ true) where
        pub noding_none : r.found ≡ false → Noded f k whole ends hand gone₀ at gone more
        noding_none a =
            rw (turn ∙ y.none ok a m q (left - 1))
            record { ok_is = refl; spot_is = λ b. j.spot; gone_are = λ b. j.gone_are; tracked = λ b. y.tracked ok }

        noding_next : r.found ≡ true → h ≡ head_of s → {b : Bool} → b ≡ on_left (width f) k left → {number' last' lost : ℕ} {hand' gone' : List ℕ}
            → Picked b number' r.pointer number → Picked b last' last r.pointer → Picked b lost number r.pointer
            → hand' ≡ covered (width f) h.theta k (left - 1) m q (paired h.theta (node_at s h r.pointer) hand b)
            → end < length gone → gone' ≡ set gone end lost
            → Noding whole number' (left - 1) last' at (end + 1) hand' gone₀ gone' more
        noding_next a at_head {b} eb {lost = lost} {gone' = gone'} yn yl yg eh room eg =
            let p : ℕ = r.pointer in
            let used_is : j.now_in.spot.used ≡ left = ap (λ (x : Spot). x.used) j.spot in
            let side : b ≡ on_left (width f) k j.now_in.spot.used = eb ∙ ap (on_left (width f) k) (sym used_is) in
            let more_of : take (end + 1) gone' ≡ take end gone ++ (lost ∷ []) =
            ap₂ (λ i xs. take i xs) (let z : end + 1 ≡ suc end = omega arith in z) eg ∙ take_next end gone lost room in
            record {
              now_in = nx j.now_in p y.reaches b;
              fine = nx_ok j.now_in p y.reaches b;
              spot = nx_spot j.now_in p y.reaches b at_head j.spot yn yl eh;
              tracked = subst (λ rs. Tracks (width f) k rs more) (sym (nx_reached j.now_in p y.reaches b)) (y.tracked ok);
              rest =
                  ap (λ c. node_joins f s h k level m q (left - 1) (both_nodes f s h k m q j.now_in c p y.reaches)) side
                  ∙ sym (y.on ok a m q (left - 1))
                  ∙ sym turn;
              gone_are =
                  more_of
                  ∙ ap (λ xs. xs ++ (lost ∷ [])) j.gone_are
                  ∙ append_three (take at gone₀) j.now_in.released (lost ∷ [])
                  ∙ ap (λ xs. take at gone₀ ++ xs) (sym (nx_released j.now_in p y.reaches b (ap (λ (x : Spot). x.number) j.spot) yg));
            }

        pub noding_on : r.found ≡ true → h ≡ head_of s → {b : Bool} → b ≡ on_left (width f) k left → {number' last' lost : ℕ} {hand' gone' : List ℕ}
            → Picked b number' r.pointer number → Picked b last' last r.pointer → Picked b lost number r.pointer
            → hand' ≡ covered (width f) h.theta k (left - 1) m q (paired h.theta (node_at s h r.pointer) hand b)
            → end < length gone → gone' ≡ set gone end lost → {left' end' : ℕ} → left - 1 ≡ left' → end + 1 ≡ end'
            → Noding whole number' left' last' at end' hand' gone₀ gone' more
        noding_on a at_head {b} eb {number'} {last'} {lost} {hand'} {gone'} yn yl yg eh room eg {end' = end'} d c =
            subst (λ x. Noding whole number' x last' at end' hand' gone₀ gone' more) d
            (subst (λ x. Noding whole number' (left - 1) last' at x hand' gone₀ gone' more) c
            (noding_next a at_head eb yn yl yg eh room eg))
