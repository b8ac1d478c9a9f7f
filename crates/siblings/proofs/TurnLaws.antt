-- What is decided beside the node in hand.
use mathlib.Core.Path.{◌≡◌, refl, sym, ap, ap₂, ◌∙◌, subst}
use mathlib.Core.Bool.{Bool, true, false, ◌||◌, not, true≢false, false≢true}
use mathlib.Core.List.{List, []}
use Prim.Native.Nat.{ℕ, suc, ◌≤◌, ◌<◌, max}
use native.Mathlib.Omega.{arith}
use lib.Dec.{eqb}
use borrow.Author.Tests.{le-leb, lt-leb}
use Rattle.store.specs.declared.Format.{Format}
use Rattle.store.specs.declared.Head.{Head}
use Rattle.store.specs.Format.{width}
use Rattle.store.specs.Head.{node_at, head_of}
use Rattle.node.specs.Node.{depth_word}
use Rattle.split.specs.Frame.{node_of}
use Rattle.remove.specs.Remove.{Spot, links_ok, on_left, no_nodes, node_joins}
use Rattle.siblings.specs.Outcome.{Found}
use Rattle.siblings.specs.Pairs.{in_hand}
use Rattle.siblings.specs.Nodes.{NodesR, rests, low_pair, may_join, NodeMated, Decided, spot_is, linked_pair}

links_hand : (s : List ℕ) (h : Head) (x : Spot) (p : ℕ) (b : Bool) → links_ok s h (in_hand x.number x.last x.block) p b ≡ links_ok s h x p b
unfolding links_ok
links_hand s h x p true = refl
links_hand s h x p false = refl

module _ (f : Format) (s : List ℕ) (h : Head) (k level : ℕ) (g : NodesR) {w : Found} {marks : List ℕ} (y : NodeMated f s h k level g w marks) where
  abbrev gone : Bool → Found
  gone b = record { ok = b; found = false; pointer = 0 }

  lost_one : ((m q n : ℕ) → node_joins f s h k level m q (suc n) g ≡ no_nodes) → {r : Found} → r ≡ gone false → Decided f s h k level g r marks
  lost_one l e =
      subst (λ r. Decided f s h k level g r marks) (sym e)
      (record { reaches = []; tracked = λ b. absurd (false≢true b); lost = λ b. l; none = λ b. absurd (false≢true b); on = λ b. absurd (false≢true b) })

  none_one : w.ok ≡ true → ((m q n : ℕ) → node_joins f s h k level m q (suc n) g ≡ rests g y.reaches) → {r : Found} → r ≡ gone true → Decided f s h k level g r marks
  none_one o l e =
      subst (λ r. Decided f s h k level g r marks) (sym e)
      (record {
        reaches = y.reaches;
        tracked = λ b. y.tracked o;
        lost = λ b. absurd (true≢false b);
        none = λ b c. l;
        on = λ b c. absurd (false≢true c);
      })

  pub decided_lost : w.ok ≡ false → {r : Found} → r ≡ gone false → Decided f s h k level g r marks
  decided_lost o e = lost_one (y.lost o) e

  module _ (o : w.ok ≡ true) where
    pub decided_none : w.found ≡ false → {r : Found} → r ≡ gone true → Decided f s h k level g r marks
    decided_none a e = none_one o (y.none o a) e

    module _ (a : w.found ≡ true) (at : h ≡ head_of s) {number used last d : ℕ} {hand node : List ℕ} (eg : g.spot ≡ spot_is number used last hand)
        (en : node ≡ node_at s h w.pointer) (ed : d ≡ max (depth_word hand 0) (depth_word node 0)) where
      depths : max (depth_word g.spot.block 0) (depth_word (node_of s w.pointer) 0) ≡ d
      depths =
          ap₂ (λ x b. max (depth_word x 0) (depth_word b 0)) (ap (λ (x : Spot). x.block) eg) (ap (λ i. node_at s i w.pointer) (sym at) ∙ sym en)
          ∙ sym ed

      pub decided_tall : h.theta ≤ d → {r : Found} → r ≡ gone true → Decided f s h k level g r marks
      decided_tall l e = none_one o (y.tall o a (lt-leb _ h.theta (omega (arith, l, depths)))) e

      module _ (l : d < h.theta) {left t : Bool} (el : left ≡ on_left (width f) k used)
          (et : t ≡ linked_pair s h level number last hand w.pointer left) where
        low : low_pair s h g w.pointer ≡ true
        low = le-leb _ h.theta (omega (arith, l, depths))

        may : may_join f s h k level g w.pointer ≡ t
        unfolding linked_pair
        may =
            ap (λ (x : Spot). not (eqb level 1) || links_ok s h x w.pointer (on_left (width f) k x.used)) eg
            ∙ ap (λ b. not (eqb level 1) || b) (sym (links_hand s h (spot_is number used last hand) w.pointer (on_left (width f) k used)))
            ∙ ap (λ b. not (eqb level 1) || links_ok s h (in_hand number last hand) w.pointer b) (sym el)
            ∙ sym et

        pub decided_apart : t ≡ false → {r : Found} → r ≡ gone false → Decided f s h k level g r marks
        decided_apart b e = lost_one (y.apart o a low (may ∙ b)) e

        pub decided_on : t ≡ true → Decided f s h k level g w marks
        decided_on b =
            record {
              reaches = y.reaches;
              tracked = y.tracked;
              lost = λ c. absurd (true≢false (sym o ∙ c));
              none = λ c d. absurd (true≢false (sym a ∙ d));
              on = λ c d. y.on o a low (may ∙ b);
            }
