-- The two-prefix test by marks is the test over all nodes reached.
use mathlib.Core.Path.{◌≡◌, refl, sym, ap, ◌∙◌, subst}
use mathlib.Core.Bool.{Bool, true, false, ◌&&◌, ◌||◌, not, false≢true}
use mathlib.Core.List.{List, [], ◌∷◌}
use mathlib.Core.Logic.{inl, inr}
use Prim.Native.Nat.{ℕ, ◌-◌, ◌/◌, ◌^◌, ◌≤◌, ◌<◌}
use native.Mathlib.Decide.{ℕ_discrete}
use native.Mathlib.Omega.{arith}
use lib.Dec.{eqb}
use lib.ListN.{length, get_or, set}
use lib.Seq.{get_or-set_same, get_or-set_other}
use borrow.Author.Tests.{eq-eqb, ne_eqb, eqb-true}
use Rattle.lists.specs.Lists.{All, all}
use Rattle.lists.proofs.Cases.{bool_cases}
use Rattle.lists.proofs.Tests.{and_true, or_cases, same_test}
use Rattle.lists.proofs.ListLaws.{all_map}
use Rattle.store.specs.declared.Format.{Format}
use Rattle.store.specs.declared.Head.{Head}
use Rattle.store.specs.Head.{node_start}
use Rattle.node.specs.Node.{level_word}
use Rattle.node.proofs.NodeLaws.{node_facts}
use Rattle.search.specs.Way.{Visit}
use Rattle.search.specs.Descent.{sound_node, step_of}
use Rattle.search.proofs.DescentLaws.{sound_facts, visited_sound}
use Rattle.remove.specs.Remove.{Reach, once, prefix, sibling_key}
use Rattle.remove.proofs.SiblingKeys.{other, sibling_other, other_shift, other_div}
use Rattle.siblings.specs.Marks.{mark, mark_at, bits_under, Known, Tracks, Passed}

-- the sibling's bits are not the key's
under_apart : (W k u : ℕ) → bits_under W k true u ≡ bits_under W k false u → ⊥
unfolding bits_under
under_apart W k u e =
    let q : other (W - u) k / 2 ^ (W - u) ≡ k / 2 ^ (W - u) = ap (λ x. x / 2 ^ (W - u)) (sym (sibling_other W k u)) ∙ e in
    elim (other_shift (W - u) k) [
      | inl a ↦ omega (arith, a.0, a.1, q)
      | inr a ↦ omega (arith, a.0, a.1, q)
    ]

under_same : (W k u : ℕ) (a b : Bool) → bits_under W k a u ≡ bits_under W k b u → a ≡ b
under_same W k u true true e = refl
under_same W k u false false e = refl
under_same W k u true false e = absurd (under_apart W k u e)
under_same W k u false true e = absurd (under_apart W k u (sym e))

pub mark_some : (a : Bool) (u : ℕ) → mark a u ≡ 0 → ⊥
unfolding mark
mark_some true u e = omega (arith, e)
mark_some false u e = omega (arith, e)

mark_same : (a b : Bool) (u v : ℕ) → mark a u ≡ mark b v → (a ≡ b) × (u ≡ v)
unfolding mark
mark_same true true u v e = (refl, omega (arith, e))
mark_same false false u v e = (refl, omega (arith, e))
mark_same true false u v e = absurd (omega (arith, e))
mark_same false true u v e = absurd (omega (arith, e))

module _ (W k : ℕ) (marks : List ℕ) (n u : ℕ) (b : Bool) where
  abbrev here : Reach
  here = record { node = n; bits = bits_under W k b u; used = u }

  abbrev free : Bool
  free = eqb (get_or marks n 0) 0 || eqb (get_or marks n 0) (mark b u)

  abbrev tested : Reach → Bool
  tested x = not (eqb x.node n) || (eqb x.bits (bits_under W k b u) && eqb x.used u)

  -- a reach known by the marks passes the test if the mark is free
  one_passes : (x : Reach) → Known W k marks x → free ≡ true → tested x ≡ true
  one_passes x y e =
      elim (bool_cases (eqb x.node n)) [
        | inr a ↦ rw a refl
        | inl a ↦
            let q : get_or marks n 0 ≡ mark y.side x.used = ap (λ i. get_or marks i 0) (sym (eqb-true x.node n a)) ∙ y.is in
            elim (or_cases (eqb (get_or marks n 0) 0) (eqb (get_or marks n 0) (mark b u)) e) [
              | inl z ↦ absurd (mark_some y.side x.used (sym q ∙ eqb-true (get_or marks n 0) 0 z))
              | inr z ↦
                  let m = mark_same y.side b x.used u (sym q ∙ eqb-true (get_or marks n 0) (mark b u) z) in
                  let bs : x.bits ≡ bits_under W k b u = y.bits_are ∙ ap (λ c. bits_under W k c x.used) m.0 ∙ ap (bits_under W k b) m.1 in
                  rw (a, eq-eqb x.bits (bits_under W k b u) bs, eq-eqb x.used u m.1) refl
            ]
      ]

  all_pass : (rs : List Reach) → All (Known W k marks) rs → free ≡ true → all tested rs ≡ true
  all_pass [] a e = refl
  all_pass (x ∷ rs) a e = rw (one_passes x a.0 e) (all_pass rs a.1 e)

  -- if it is not free, no node that passes is this one
  one_apart : (x : Reach) → Known W k marks x → free ≡ false → tested x ≡ true → x.node ≡ n → ⊥
  one_apart x y e t a =
      let q : get_or marks n 0 ≡ mark y.side x.used = ap (λ i. get_or marks i 0) (sym a) ∙ y.is in
      let r = and_true (eqb x.bits (bits_under W k b u)) (eqb x.used u) (rw (eq-eqb x.node n a) at t) in
      let v : x.used ≡ u = eqb-true x.used u r.1 in
      let s : y.side ≡ b =
      under_same W k u y.side b
      (ap (bits_under W k y.side) (sym v) ∙ sym y.bits_are ∙ eqb-true x.bits (bits_under W k b u) r.0) in
      let g : get_or marks n 0 ≡ mark b u = q ∙ ap (λ c. mark c x.used) s ∙ ap (mark b) v in
      let f : free ≡ true = rw (eq-eqb (get_or marks n 0) (mark b u) g) (or_true (eqb (get_or marks n 0) 0)) in
      false≢true (sym e ∙ f)
    where
      or_true : (c : Bool) → (c || true) ≡ true
      or_true true = refl
      or_true false = refl

  all_apart : (rs : List Reach) → All (Known W k marks) rs → free ≡ false → all tested rs ≡ true → All (λ x. x.node ≡ n → ⊥) rs
  all_apart [] a e t = tt
  all_apart (x ∷ rs) a e t =
      let r = and_true (tested x) (all tested rs) t in
      (one_apart x a.0 e r.0, all_apart rs a.1 e r.1)

  pub once_is : (rs : List Reach) → Tracks W k rs marks → once here rs ≡ free
  unfolding once
  once_is rs y = same_test (all tested rs) free to (all_pass rs y.known)
    where
      to : all tested rs ≡ true → free ≡ true
      to t =
          elim (bool_cases free) [
            | inl e ↦ e
            | inr e ↦
                let z : get_or marks n 0 ≡ 0 = y.others n (all_apart rs y.known e t) in
                rw (eq-eqb (get_or marks n 0) 0 z) refl
          ]

  -- the node is marked
  known_on : (x : Reach) → n < length marks → free ≡ true → Known W k marks x → Known W k (set marks n (mark b u)) x
  known_on x l e y =
      elim (ℕ_discrete x.node n) [
        | no a ↦ record { side = y.side; is = get_or-set_other marks n x.node (mark b u) 0 a ∙ y.is; bits_are = y.bits_are }
        | yes a ↦
            let q : get_or marks n 0 ≡ mark y.side x.used = ap (λ i. get_or marks i 0) (sym a) ∙ y.is in
            let g : mark b u ≡ mark y.side x.used =
            elim (or_cases (eqb (get_or marks n 0) 0) (eqb (get_or marks n 0) (mark b u)) e) [
              | inl z ↦ absurd (mark_some y.side x.used (sym q ∙ eqb-true (get_or marks n 0) 0 z))
              | inr z ↦ sym (eqb-true (get_or marks n 0) (mark b u) z) ∙ q
            ] in
            record {
              side = y.side;
              is = ap (λ i. get_or (set marks n (mark b u)) i 0) a ∙ get_or-set_same marks n (mark b u) 0 l ∙ g;
              bits_are = y.bits_are;
            }
      ]

  pub tracks_on : (rs : List Reach) → n < length marks → free ≡ true → Tracks W k rs marks → Tracks W k (here ∷ rs) (set marks n (mark b u))
  tracks_on rs l e y =
      record {
        known = (
          record { side = b; is = get_or-set_same marks n (mark b u) 0 l; bits_are = refl },
          all_map (Known W k marks) (Known W k (set marks n (mark b u))) rs (λ x. known_on x l e) y.known,
        );
        others = λ i a. get_or-set_other marks n i (mark b u) 0 (λ q. a.0 (sym q)) ∙ y.others i a.1;
      }

-- on the way to the sibling of m bits
pub way_bits : (W k m used : ℕ) → used ≤ m → m ≤ W → prefix W (sibling_key W k m) used ≡ bits_under W k (eqb used m) used
unfolding bits_under
way_bits W k m used l g =
    elim (ℕ_discrete used m) [
      | yes e ↦ rw (eq-eqb used m e) (ap (λ x. prefix W (sibling_key W k x) used) (sym e))
      | no e ↦
          rw (ne_eqb used m e)
          (ap (λ x. x / 2 ^ (W - used)) (sibling_other W k m) ∙ other_div (W - m) k (W - used) (omega arith))
    ]

-- a node found sound has its level in its block
pub own_level : (f : Format) (s : List ℕ) (h : Head) (level n used : ℕ) → sound_node f s h level n used ≡ true
    → sound_node f s h (level_word s (node_start h n)) n used ≡ true
own_level f s h level n used e =
    let l = (node_facts h s (node_start h n) level (sound_facts f s h level n used e).0).level_is in
    subst (λ x. sound_node f s h x n used ≡ true) (sym l) e

-- the marks with that of a node found sound
pub passed_on : (f : Format) (s : List ℕ) (h : Head) (level n used : ℕ) (b : Bool) {marks : List ℕ} → Passed f s h marks → n < length marks
    → sound_node f s h level n used ≡ true → Passed f s h (set marks n (mark b used))
passed_on f s h level n used b {marks} y l e = record { sound = at }
  where
    at : (i : ℕ) (c : Bool) (u : ℕ) → get_or (set marks n (mark b used)) i 0 ≡ mark c u → sound_node f s h (level_word s (node_start h i)) i u ≡ true
    at i c u g =
        elim (ℕ_discrete i n) [
          | no a ↦ y.sound i c u (sym (get_or-set_other marks n i (mark b used) 0 a) ∙ g)
          | yes a ↦
              let here : mark b used ≡ mark c u =
              sym (ap (λ j. get_or (set marks n (mark b used)) j 0) a ∙ get_or-set_same marks n (mark b used) 0 l) ∙ g in
              let v : used ≡ u = (mark_same b c used u here).1 in
              subst (λ j. sound_node f s h (level_word s (node_start h j)) j u ≡ true) (sym a)
              (subst (λ x. sound_node f s h (level_word s (node_start h n)) n x ≡ true) v (own_level f s h level n used e))
        ]

-- as the code has it, on the way to the sibling of m bits
module _ (f : Format) (s : List ℕ) (h : Head) (n used m : ℕ) {mk : ℕ} (em : mk ≡ mark_at used m) {marks : List ℕ} (y : Passed f s h marks) where
  -- a node with the mark was found sound
  pub marked_sound : get_or marks n 0 ≡ mk → sound_node f s h (level_word s (node_start h n)) n used ≡ true
  marked_sound e = y.sound n (eqb used m) used (e ∙ em)

  -- a node is marked after its visit
  pub passed_more : (k level : ℕ) {v : Visit} → v ≡ step_of f s h k level n used → v.ok ≡ true → n < length marks → {more : List ℕ}
      → more ≡ set marks n mk → Passed f s h more
  passed_more k level e o l g =
      subst (Passed f s h) (sym (g ∙ ap (set marks n) em))
      (passed_on f s h level n used (eqb used m) y l (visited_sound f s h k level n used (sym (ap (λ (x : Visit). x.ok) e) ∙ o)))
