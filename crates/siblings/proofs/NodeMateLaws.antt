-- One turn of the joins of nodes, as the code makes it.
use mathlib.Core.Path.{◌≡◌, refl, sym, ap, ap₂, ◌∙◌, subst}
use mathlib.Core.Bool.{Bool, true, false, ◌&&◌, ◌||◌, true≢false, false≢true}
use mathlib.Core.List.{List, [], ◌∷◌}
use Prim.Native.Nat.{ℕ, suc, ◌≤◌, ◌<◌}
use native.Mathlib.Omega.{arith}
use lib.Dec.{eqb}
use lib.ListN.{length, get_or, set}
use Rattle.store.specs.declared.Format.{Format}
use Rattle.store.specs.declared.Head.{Head}
use Rattle.store.specs.Format.{width}
use Rattle.search.specs.Way.{Visit}
use Rattle.search.specs.Descent.{step_of}
use Rattle.remove.specs.Remove.{Reach, Sought, once, sibling_key, reach_at, on_left, sibling, sibling_ok, no_nodes, both_nodes, node_joins}
use Rattle.remove.proofs.LevelPhase.{node_lost, node_damaged, node_unlinked, turn_none, turn_tall, turn_on}
use Rattle.siblings.specs.Outcome.{Found}
use Rattle.siblings.specs.Marks.{mark_at, bits_under, SoughtIs}
use Rattle.siblings.specs.Nodes.{NodesR, low_pair, may_join, NodeMated}
use Rattle.siblings.proofs.MarkLaws.{once_is, tracks_on, way_bits}

module _ (f : Format) (s : List ℕ) (h : Head) (k level : ℕ) (g : NodesR) {w : Found} {marks : List ℕ}
    (q : SoughtIs (width f) k w (sibling f s h k g.spot.used level g.reached) marks) where
  abbrev u : ℕ
  u = g.spot.used

  abbrev z : Sought
  z = sibling f s h k u level g.reached

  abbrev gone : Bool → Found
  gone b = record { ok = b; found = false; pointer = 0 }

  -- damage, whatever the marks are
  damaged : ((m q n : ℕ) → node_joins f s h k level m q (suc n) g ≡ no_nodes) → {r : Found} → r ≡ gone false → (any : List ℕ)
      → NodeMated f s h k level g r any
  damaged l e any =
      subst (λ r. NodeMated f s h k level g r any) (sym e)
      (record {
        reaches = [];
        tracked = λ b. absurd (false≢true b);
        lost = λ b. l;
        none = λ b. absurd (false≢true b);
        tall = λ b. absurd (false≢true b);
        apart = λ b. absurd (false≢true b);
        on = λ b. absurd (false≢true b);
      })

  pub beside_lost : w.ok ≡ false → {r : Found} → r ≡ gone false → NodeMated f s h k level g r marks
  beside_lost o e = damaged (λ m x n. node_lost f s h k level m x n g (sym q.ok_is ∙ o)) e marks

  module _ (o : w.ok ≡ true) where
    ok : z.ok ≡ true
    ok = sym q.ok_is ∙ o

    pub beside_none : w.found ≡ false → {r : Found} → r ≡ gone true → NodeMated f s h k level g r marks
    beside_none a e =
        subst (λ r. NodeMated f s h k level g r marks) (sym e)
        (record {
          reaches = z.reached;
          tracked = λ b. q.tracks ok;
          lost = λ b. absurd (true≢false b);
          none = λ b c m x n. turn_none f s h k level m x n g z refl ok (sym q.found_is ∙ a);
          tall = λ b c. absurd (false≢true c);
          apart = λ b c. absurd (false≢true c);
          on = λ b c. absurd (false≢true c);
        })

    module _ (a : w.found ≡ true) {sk m : ℕ} (em : u ≡ m) (low : m ≤ width f) (ek : sk ≡ sibling_key (width f) k m) {v : Visit}
        (ev : v ≡ step_of f s h sk level w.pointer m) where
      there : z.found ≡ true
      there = sym q.found_is ∙ a

      visit_is : step_of f s h (sibling_key (width f) k u) level z.pointer u ≡ v
      visit_is =
          ap₂ (λ x y. step_of f s h x level z.pointer y) (ap (sibling_key (width f) k) em ∙ sym ek) em
          ∙ ap (λ p. step_of f s h sk level p m) (sym q.pointer_is)
          ∙ sym ev

      pub beside_unsound : v.ok ≡ false → {r : Found} → r ≡ gone false → NodeMated f s h k level g r marks
      unfolding sibling_ok
      beside_unsound b e =
          damaged
          (λ m x n. node_damaged f s h k level m x n g z refl ok there
          (ap (λ c. c && once (reach_at (width f) (sibling_key (width f) k u) z.pointer u) z.reached) (ap (λ y. y.ok) visit_is ∙ b))) e marks

      module _ (fine : v.ok ≡ true) {mk : ℕ} (ek' : mk ≡ mark_at m m) {t : Bool}
          (et : t ≡ (eqb (get_or marks w.pointer 0) 0 || eqb (get_or marks w.pointer 0) mk)) where
        mk_is : mk ≡ mark_at u u
        mk_is = ek' ∙ ap (λ x. mark_at x x) (sym em)

        abbrev r : Reach
        r = reach_at (width f) (sibling_key (width f) k u) z.pointer u

        reach_is : r ≡ record { node = z.pointer; bits = bits_under (width f) k (eqb u u) u; used = u }
        reach_is = ap (λ b. record { node = z.pointer; bits = b; used = u }) (way_bits (width f) k u u (omega arith) (omega (arith, em, low)))

        free_is : once r z.reached ≡ t
        free_is =
            ap (λ x. once x z.reached) reach_is
            ∙ once_is (width f) k marks z.pointer u (eqb u u) z.reached (q.tracks ok)
            ∙ ap₂ (λ p x. eqb (get_or marks p 0) 0 || eqb (get_or marks p 0) x) (sym q.pointer_is) (sym mk_is)
            ∙ sym et

        sibling_is : sibling_ok f s h k u level z.pointer z.reached ≡ t
        unfolding sibling_ok
        sibling_is = ap₂ (λ x y. x && y) (ap (λ y. y.ok) visit_is ∙ fine) free_is

        pub beside_twice : t ≡ false → {r : Found} → r ≡ gone false → (any : List ℕ) → NodeMated f s h k level g r any
        beside_twice b e any = damaged (λ m x n. node_damaged f s h k level m x n g z refl ok there (sibling_is ∙ b)) e any

        pub beside_found : t ≡ true → w.pointer < length marks → {more : List ℕ} → more ≡ set marks w.pointer mk
            → NodeMated f s h k level g w more
        beside_found b room {more} eo =
            let p_is = q.pointer_is in
            let same : more ≡ set marks z.pointer (mark_at u u) = eo ∙ ap₂ (λ p x. set marks p x) p_is mk_is in
            record {
              reaches = r ∷ z.reached;
              tracked = λ c.
                  rw (same, reach_is)
                  (tracks_on (width f) k marks z.pointer u (eqb u u) z.reached (subst (λ p. p < length marks) p_is room)
                  (sym (once_is (width f) k marks z.pointer u (eqb u u) z.reached (q.tracks ok)) ∙ ap (λ x. once x z.reached) (sym reach_is) ∙ free_is ∙ b)
                  (q.tracks ok));
              lost = λ c. absurd (true≢false (sym o ∙ c));
              none = λ c d. absurd (true≢false (sym a ∙ d));
              tall = λ c d y m x n. turn_tall f s h k level m x n g z refl ok there (sibling_is ∙ b) (subst (λ p. low_pair s h g p ≡ false) p_is y);
              apart = λ c d y l m x n.
                  node_unlinked f s h k level m x n g z refl ok there (sibling_is ∙ b) (subst (λ p. low_pair s h g p ≡ true) p_is y)
                  (subst (λ p. may_join f s h k level g p ≡ false) p_is l);
              on = λ c d y l m x n.
                  turn_on f s h k level m x n g z refl ok there (sibling_is ∙ b) (subst (λ p. low_pair s h g p ≡ true) p_is y)
                  (subst (λ p. may_join f s h k level g p ≡ true) p_is l)
                  ∙ ap (λ p. node_joins f s h k level m x n (both_nodes f s h k m x g (on_left (width f) k u) p (r ∷ z.reached))) (sym p_is);
            }
