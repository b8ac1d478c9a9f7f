-- One turn of the descent to a sibling, on any words.
use mathlib.Core.Path.{◌≡◌, refl, sym, ap, ◌∙◌, subst}
use mathlib.Core.Bool.{Bool, true, false, ◌||◌}
use mathlib.Core.List.{List, ◌∷◌}
use Prim.Native.Nat.{ℕ, suc, ◌+◌, ◌-◌, ◌≤◌, ◌<◌}
use native.Mathlib.Omega.{arith}
use lib.Dec.{eqb}
use lib.ListN.{length, get_or, set}
use Rattle.store.specs.declared.Format.{Format}
use Rattle.store.specs.declared.Head.{Head}
use Rattle.store.specs.Format.{width}
use Rattle.search.specs.Way.{Visit}
use Rattle.search.specs.Descent.{step_of}
use Rattle.node.proofs.NodeLaws.{high_1}
use Rattle.search.proofs.DescentLaws.{seen_pointer}
use Rattle.remove.specs.Remove.{Reach, once, sibling_key, reach_at, damaged_way, seek, sibling}
use Rattle.remove.proofs.SiblingLaws.{turn_near, turn_far}
use Rattle.siblings.specs.Outcome.{Found}
use Rattle.siblings.specs.Marks.{mark_at, bits_under, Tracks, SoughtIs}
use Rattle.siblings.proofs.MarkLaws.{once_is, tracks_on, way_bits}

-- an entry at level 1 leads to a taken page, or to null
pub seen_page : (f : Format) (s : List ℕ) (h : Head) (k level n used : ℕ) {v : Visit} → v ≡ step_of f s h k level n used → v.ok ≡ true → level ≡ 1
    → v.pointer ≤ h.pages_taken
seen_page f s h k level n used e o one = omega (arith, (seen_pointer f s h k level n used e o).1, high_1 h level one)

-- one turn that meets damage, by the levels left
module _ (f : Format) (s : List ℕ) (h : Head) (sk m target j n used : ℕ) (rs : List Reach) (v : Visit)
    (e : v ≡ step_of f s h sk (suc j + target) n used) where
  lost_step : v.ok ≡ false → seek f s h sk m target (suc j) n used rs ≡ damaged_way
  unfolding seek
  lost_step o = rw (rw e at o, seek)

  twice_step : v.ok ≡ true → once (reach_at (width f) sk n used) rs ≡ false → seek f s h sk m target (suc j) n used rs ≡ damaged_way
  unfolding seek
  twice_step ok o = rw (rw e at ok, o, seek)

-- the same by the level, with marks: what is left of the descent is the whole
module _ (f : Format) (s : List ℕ) (h : Head) (m target : ℕ) (low : m ≤ width f) where
  -- a state of the descent to the sibling of the key k
  pub record Seeking (k : ℕ) (rs₀ : List Reach) (level n used : ℕ) (marks : List ℕ) : Type 0 where
    pub reaches : List Reach
    pub tracked : Tracks (width f) k reaches marks
    pub left : seek f s h (sibling_key (width f) k m) m target (level - target) n used reaches ≡ sibling f s h k m target rs₀

  module _ (k : ℕ) (rs₀ : List Reach) (level n used : ℕ) (marks : List ℕ) (within : used ≤ m) (above : target < level)
      (g : Seeking k rs₀ level n used marks) (v : Visit) (e : v ≡ step_of f s h (sibling_key (width f) k m) level n used) where
    abbrev j : ℕ
    j = level - target - 1

    down : level - target ≡ suc j
    down = omega arith

    e' : v ≡ step_of f s h (sibling_key (width f) k m) (suc j + target) n used
    e' = e ∙ ap (λ x. step_of f s h (sibling_key (width f) k m) x n used) (let q : level ≡ suc j + target = omega arith in q)

    abbrev sk : ℕ
    sk = sibling_key (width f) k m

    whole : sibling f s h k m target rs₀ ≡ seek f s h sk m target (suc j) n used g.reaches
    whole = sym g.left ∙ ap (λ x. seek f s h sk m target x n used g.reaches) down

    abbrev free : Bool
    free = eqb (get_or marks n 0) 0 || eqb (get_or marks n 0) (mark_at used m)

    reach_is : reach_at (width f) sk n used ≡ record { node = n; bits = bits_under (width f) k (eqb used m) used; used = used }
    reach_is = ap (λ b. record { node = n; bits = b; used = used }) (way_bits (width f) k m used within low)

    once_free : once (reach_at (width f) sk n used) g.reaches ≡ free
    once_free = ap (λ r. once r g.reaches) reach_is ∙ once_is (width f) k marks n used (eqb used m) g.reaches g.tracked

    damaged_is : sibling f s h k m target rs₀ ≡ damaged_way → (any : List ℕ) → SoughtIs (width f) k (record { ok = false; found = false; pointer = 0 }) (sibling f s h k m target rs₀) any
    unfolding damaged_way
    damaged_is q any = rw q (record { ok_is = refl; found_is = refl; pointer_is = refl; tracks = λ z. absurd (mathlib.Core.Bool.false≢true z) })

    pub seek_lost : v.ok ≡ false → SoughtIs (width f) k (record { ok = false; found = false; pointer = 0 }) (sibling f s h k m target rs₀) marks
    seek_lost o = damaged_is (whole ∙ lost_step f s h sk m target j n used g.reaches v e' o) marks

    module _ (ok : v.ok ≡ true) where
      pub seek_twice : (any : List ℕ) → free ≡ false → SoughtIs (width f) k (record { ok = false; found = false; pointer = 0 }) (sibling f s h k m target rs₀) any
      seek_twice any o = damaged_is (whole ∙ twice_step f s h sk m target j n used g.reaches v e' ok (once_free ∙ o)) any

      module _ (o : free ≡ true) (room : n < length marks) where
        abbrev more : List ℕ
        more = set marks n (mark_at used m)

        tracks_more : Tracks (width f) k (reach_at (width f) sk n used ∷ g.reaches) more
        tracks_more =
            subst (λ r. Tracks (width f) k (r ∷ g.reaches) more) (sym reach_is)
            (tracks_on (width f) k marks n used (eqb used m) g.reaches room o g.tracked)

        pub seek_far : m < used + v.depth → SoughtIs (width f) k (record { ok = true; found = false; pointer = 0 }) (sibling f s h k m target rs₀) more
        seek_far l =
            rw (whole ∙ turn_far f s h sk m target j n used g.reaches v e' ok (once_free ∙ o) l)
            (record { ok_is = refl; found_is = refl; pointer_is = refl; tracks = λ z. tracks_more })

        pub seek_near : used + v.depth ≤ m → Seeking k rs₀ (level - 1) v.pointer (used + v.depth) more
        seek_near l =
            record {
              reaches = reach_at (width f) sk n used ∷ g.reaches;
              tracked = tracks_more;
              left =
                  ap (λ x. seek f s h sk m target x v.pointer (used + v.depth) (reach_at (width f) sk n used ∷ g.reaches))
                  (let q : level - 1 - target ≡ j = omega arith in q)
                  ∙ sym (turn_near f s h sk m target j n used g.reaches v e' ok (once_free ∙ o) l)
                  ∙ sym whole;
            }

  pub seek_starts : (k : ℕ) (rs : List Reach) (marks : List ℕ) → Tracks (width f) k rs marks → Seeking k rs h.levels h.root 0 marks
  seek_starts k rs marks y = record { reaches = rs; tracked = y; left = refl }

  pub seek_ends : (k : ℕ) (rs₀ : List Reach) (level n used : ℕ) (marks : List ℕ) → level ≤ target → Seeking k rs₀ level n used marks
      → SoughtIs (width f) k (record { ok = true; found = true; pointer = n }) (sibling f s h k m target rs₀) marks
  unfolding seek
  seek_ends k rs₀ level n used marks l g =
      let z : level - target ≡ 0 = omega arith in
      rw (sym g.left ∙ ap (λ x. seek f s h (sibling_key (width f) k m) m target x n used g.reaches) z)
      (record { ok_is = refl; found_is = refl; pointer_is = refl; tracks = λ o. g.tracked })

-- as the code has it: the sibling's key, and marks before the descent
module _ (f : Format) (s : List ℕ) (h : Head) (key m target : ℕ) (low : m ≤ width f) (marks₀ : List ℕ) where
  abbrev pub Going : ℕ → ℕ → ℕ → List ℕ → Type 0
  Going level n used marks =
      (k : ℕ) (rs : List Reach) → key ≡ sibling_key (width f) k m → Tracks (width f) k rs marks₀ → Seeking f s h m target low k rs level n used marks

  abbrev pub Ends : Found → List ℕ → Type 0
  Ends r marks =
      (k : ℕ) (rs : List Reach) → key ≡ sibling_key (width f) k m → Tracks (width f) k rs marks₀
      → SoughtIs (width f) k r (sibling f s h k m target rs) marks

  abbrev gone : Bool → Found
  gone b = record { ok = b; found = false; pointer = 0 }

  module _ {level n used : ℕ} {marks : List ℕ} (within : used ≤ m) (above : target < level) (g : Going level n used marks) {v : Visit}
      (e : v ≡ step_of f s h key level n used) where
    at_key : (k : ℕ) → key ≡ sibling_key (width f) k m → v ≡ step_of f s h (sibling_key (width f) k m) level n used
    at_key k ek = e ∙ ap (λ x. step_of f s h x level n used) ek

    pub going_lost : v.ok ≡ false → {r : Found} → r ≡ gone false → Ends r marks
    going_lost o er k rs ek y =
        subst (λ x. SoughtIs (width f) k x (sibling f s h k m target rs) marks) (sym er)
        (seek_lost f s h m target low k rs level n used marks within above (g k rs ek y) v (at_key k ek) o)

    module _ (ok : v.ok ≡ true) {mk : ℕ} (em : mk ≡ mark_at used m) {t : Bool} (et : t ≡ (eqb (get_or marks n 0) 0 || eqb (get_or marks n 0) mk)) where
      free_is : (eqb (get_or marks n 0) 0 || eqb (get_or marks n 0) (mark_at used m)) ≡ t
      free_is = sym (et ∙ ap (λ x. eqb (get_or marks n 0) 0 || eqb (get_or marks n 0) x) em)

      pub going_twice : t ≡ false → {r : Found} → r ≡ gone false → (any : List ℕ) → Ends r any
      going_twice o er any k rs ek y =
          subst (λ x. SoughtIs (width f) k x (sibling f s h k m target rs) any) (sym er)
          (seek_twice f s h m target low k rs level n used marks within above (g k rs ek y) v (at_key k ek) ok any (free_is ∙ o))

      module _ (o : t ≡ true) (room : n < length marks) {more : List ℕ} (eo : more ≡ set marks n mk) where
        more_is : more ≡ set marks n (mark_at used m)
        more_is = eo ∙ ap (set marks n) em

        pub going_far : m < used + v.depth → {r : Found} → r ≡ gone true → Ends r more
        going_far l er k rs ek y =
            rw (er, more_is)
            (seek_far f s h m target low k rs level n used marks within above (g k rs ek y) v (at_key k ek) ok (free_is ∙ o) room l)

        pub going_near : used + v.depth ≤ m → Going (level - 1) v.pointer (used + v.depth) more
        going_near l k rs ek y =
            rw more_is
            (seek_near f s h m target low k rs level n used marks within above (g k rs ek y) v (at_key k ek) ok (free_is ∙ o) room l)
