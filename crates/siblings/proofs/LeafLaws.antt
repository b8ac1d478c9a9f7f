-- What the small functions compute is what the definitions say.
use mathlib.Core.Path.{◌≡◌, refl, sym, ap, ◌∙◌, subst}
use mathlib.Core.Bool.{Bool, true, false, ◌&&◌, not, true≢false}
use mathlib.Core.List.{List}
use Prim.Native.Nat.{ℕ, ◌+◌, ◌-◌, ◌*◌, ◌/◌, ◌%◌, ◌^◌, ◌≤◌, ◌<◌}
use native.Mathlib.Nat.{mod-eq_of_lt}
use native.Mathlib.Omega.{arith}
use lib.Dec.{eqb}
use lib.ListN.{get_or}
use lib.Pow.{pow_mono}
use borrow.Author.Tests.{eq-eqb, ne_eqb, eqb-true}
use Rattle.lists.proofs.Tests.{and_true}
use Rattle.store.specs.declared.Format.{Format}
use Rattle.store.specs.declared.Head.{Head}
use Rattle.store.specs.Head.{node_start}
use Rattle.node.specs.Node.{level_word}
use Rattle.search.specs.Way.{Visit}
use Rattle.search.specs.Descent.{sound_node, step_of, own_visit, entry_visit}
use Rattle.search.proofs.DescentLaws.{step_entry}
use Rattle.remove.specs.Remove.{on_left, sibling_key}
use Rattle.remove.proofs.SiblingKeys.{sibling_other, other_low}

-- a node that is not to be checked was found sound at its level
pub known_visit : (f : Format) (s : List ℕ) (h : Head) (k level n used : ℕ) (marks : List ℕ) (mk : ℕ) {b c : Bool}
    → b ≡ (eqb (get_or marks n 0) mk && eqb (level_word s (node_start h n)) level) → c ≡ not b
    → (get_or marks n 0 ≡ mk → sound_node f s h (level_word s (node_start h n)) n used ≡ true) → c ≡ false → (step_of f s h k level n used).ok ≡ true
unfolding own_visit entry_visit
known_visit f s h k level n used marks mk {b} e g a z =
    let t = and_true (eqb (get_or marks n 0) mk) (eqb (level_word s (node_start h n)) level) (sym e ∙ on b (sym g ∙ z)) in
    let l = eqb-true (level_word s (node_start h n)) level t.1 in
    ap (λ (v : Visit). v.ok)
    (sym (step_entry f s h k level n used (subst (λ x. sound_node f s h x n used ≡ true) l (a (eqb-true (get_or marks n 0) mk t.0)))))
  where
    on : (x : Bool) → not x ≡ false → x ≡ true
    on true q = refl
    on false q = absurd (true≢false q)

-- the sibling's key
sibling_left : (W k m : ℕ) → k / 2 ^ (W - m) % 2 ≡ 1 → sibling_key W k m ≡ (k / 2 ^ (W - m) - 1) * 2 ^ (W - m)
unfolding sibling_key on_left
sibling_left W k m e = rw (eq-eqb (k / 2 ^ (W - m) % 2) 1 e, sibling_key)

sibling_right : (W k m : ℕ) → (k / 2 ^ (W - m) % 2 ≡ 1 → ⊥) → sibling_key W k m ≡ (k / 2 ^ (W - m) + 1) * 2 ^ (W - m)
unfolding sibling_key on_left
sibling_right W k m e = rw (ne_eqb (k / 2 ^ (W - m) % 2) 1 e, sibling_key)

module _ (W k m : ℕ) (some : 1 ≤ m) (within : m ≤ W) (fits : W ≤ 64) (low : k < 2 ^ W) where
  key_below : sibling_key W k m < 2 ^ W
  key_below = subst (λ x. x < 2 ^ W) (sym (sibling_other W k m)) (other_low W (W - m) k (omega arith) low)

  exact : (x : ℕ) → sibling_key W k m ≡ x → (x % 2 ^ 64 ≡ sibling_key W k m) × (x % 2 ^ 64 < 2 ^ W)
  exact x e =
      let b : x < 2 ^ W = subst (λ y. y < 2 ^ W) e key_below in
      let g : x % 2 ^ 64 ≡ x = mod-eq_of_lt (omega (arith, b, pow_mono {i = W} {j = 64} fits)) in
      (g ∙ sym e, rw g b)

  module _ (d p : ℕ) (ed : d ≡ W - m) (ep : p ≡ k / 2 ^ d) where
    there : k / 2 ^ (W - m) ≡ p
    there = ap (λ x. k / 2 ^ x) (sym ed) ∙ sym ep

    pub key_left : p % 2 ≡ 1 → ((p - 1) * 2 ^ d % 2 ^ 64 ≡ sibling_key W k m) × ((p - 1) * 2 ^ d % 2 ^ 64 < 2 ^ W)
    key_left o =
        exact ((p - 1) * 2 ^ d)
        (sibling_left W k m (ap (λ x. x % 2) there ∙ o) ∙ ap (λ x. (x - 1) * 2 ^ (W - m)) there ∙ ap (λ x. (p - 1) * 2 ^ x) (sym ed))

    pub key_right : (p % 2 ≡ 1 → ⊥) → ((p + 1) * 2 ^ d % 2 ^ 64 ≡ sibling_key W k m) × ((p + 1) * 2 ^ d % 2 ^ 64 < 2 ^ W)
    key_right o =
        exact ((p + 1) * 2 ^ d)
        (sibling_right W k m (λ q. o (ap (λ x. x % 2) (sym there) ∙ q)) ∙ ap (λ x. (x + 1) * 2 ^ (W - m)) there ∙ ap (λ x. (p + 1) * 2 ^ x) (sym ed))
