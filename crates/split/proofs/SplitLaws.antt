-- A split node, by the next bit of the key: that bit is the entry that the key takes in a node of depth 1.
use mathlib.Core.Path.{◌≡◌, refl, sym, ap, ◌∙◌, subst}
use lib.Dec.{ltb}
use mathlib.Core.Bool.{Bool, true, false}
use mathlib.Core.List.{List, [], ◌∷◌}
use mathlib.Core.Logic.{inl, inr}
use Prim.Native.Nat.{ℕ, suc, ◌+◌, ◌-◌, ◌^◌, ◌≤◌, ◌<◌}
use native.Mathlib.Omega.{arith}
use Rattle.lists.specs.Bits.{bit, bits, index}
use Rattle.lists.proofs.Cases.{bool_cases}
use Rattle.lists.proofs.BitLaws.{length_bits, index_lt}
use lib.ListN.{length, set}
use Rattle.tree.specs.Trie.{Key}
use Rattle.store.specs.declared.Format.{Format}
use Rattle.store.specs.Format.{width}
use Rattle.store.specs.Head.{node_words}
use Rattle.node.specs.Node.{depth_word, back_word, forward_word, entry_depth, entry_number}
use Rattle.node.proofs.EntryNumber.{entry_left}
use Rattle.split.specs.Block.{block, number, halve_run, double, grow, half, lower, upper, linked}
use Rattle.split.proofs.ValueLaws.{back_only, forward_only}
use Rattle.split.specs.Value.{local_at, Reached}
use Rattle.split.proofs.GrowLaws.{Aimable, Growable}

-- the entry that a key takes, by the bits that are left
pub entry_at : (W k used H : ℕ) {i : ℕ} → H ≤ W - used → i ≡ entry_number W k used H → index H (bits (W - used) k) ≡ i
entry_at W k used H l e = sym (e ∙ entry_left W k used H l)

module _ (W k used : ℕ) (l : used < W) {i : ℕ} (e : i ≡ entry_number W k used 1) where
  abbrev rest : Key
  rest = bits (W - (used + 1)) k

  next_bit_lem : bits (W - used) k ≡ bit (W - (used + 1)) k ∷ rest
  next_bit_lem = let g : W - used ≡ suc (W - (used + 1)) = omega arith in rw g refl

  bit_at_lem : index 1 (bit (W - (used + 1)) k ∷ rest) ≡ i
  bit_at_lem = ap (index 1) (sym next_bit_lem) ∙ entry_at W k used 1 (omega arith) e

  clear : i ≡ 0 → bits (W - used) k ≡ false ∷ rest
  clear z =
      elim (bool_cases (bit (W - (used + 1)) k)) [
        | inl t ↦ absurd (omega (arith, ap (λ b. index 1 (b ∷ rest)) (sym t) ∙ bit_at_lem, z))
        | inr t ↦ next_bit_lem ∙ ap (λ b. b ∷ rest) t
      ]

  set_bit : (i ≡ 0 → ⊥) → bits (W - used) k ≡ true ∷ rest
  set_bit z =
      elim (bool_cases (bit (W - (used + 1)) k)) [
        | inl t ↦ next_bit_lem ∙ ap (λ b. b ∷ rest) t
        | inr t ↦ absurd (z (sym bit_at_lem ∙ ap (λ b. index 1 (b ∷ rest)) t))
      ]

  module _ (θ : ℕ) (ws : List ℕ) (a c : ℕ) where
    pub lower_clear : i ≡ 0 → lower θ ws (bits (W - used) k) a c ≡ grow θ (half θ ws false) rest a c
    unfolding lower
    lower_clear z = rw (clear z) refl

    pub upper_clear : i ≡ 0 → upper θ ws (bits (W - used) k) a c ≡ half θ ws true
    unfolding upper
    upper_clear z = rw (clear z) refl

    pub lower_set : (i ≡ 0 → ⊥) → lower θ ws (bits (W - used) k) a c ≡ half θ ws false
    unfolding lower
    lower_set z = rw (set_bit z) refl

    pub upper_set : (i ≡ 0 → ⊥) → upper θ ws (bits (W - used) k) a c ≡ grow θ (half θ ws true) rest a c
    unfolding upper
    upper_set z = rw (set_bit z) refl

-- a node takes no more bits than are left
pub reached_width : (f : Format) (θ : ℕ) (ws : List ℕ) (key used : ℕ) → Reached f θ ws key used → depth_word ws 0 ≤ width f - used
reached_width f θ ws key used r = omega (arith, r.left, length_bits (width f - used) key)

-- the entry that a key takes in a node that it came to
pub reached_at : (f : Format) (θ : ℕ) (ws : List ℕ) (key used : ℕ) → Reached f θ ws key used → {H i : ℕ} → H ≡ depth_word ws 0
    → i ≡ entry_number (width f) key used H → number ws (bits (width f - used) key) ≡ i
reached_at f θ ws key used r deep e =
    entry_at (width f) key used (depth_word ws 0) (reached_width f θ ws key used r) (e ∙ ap (entry_number (width f) key used) deep)

-- it is one of those in use, and no deeper than the node
module _ (f : Format) (θ : ℕ) (ws : List ℕ) (key used : ℕ) (r : Reached f θ ws key used) {i : ℕ}
    (at_key : number ws (bits (width f - used) key) ≡ i) (long : length ws ≡ node_words θ) where
  within : i < 2 ^ depth_word ws 0
  within = subst (λ x. x < 2 ^ depth_word ws 0) at_key (index_lt (depth_word ws 0) (bits (width f - used) key))

  pub reached_aimable : {vs : List ℕ} → vs ≡ ws → Aimable θ i vs
  reached_aimable e = subst (Aimable θ i) (sym e) (long, r.shallow.low, within, omega (arith, r.shallow.all i within, r.shallow.low))

  pub reached_growable : local_at ws (bits (width f - used) key) < θ → {vs : List ℕ} → vs ≡ ws → Growable θ i vs
  reached_growable less e =
      let local = ap (entry_depth ws 0) at_key in
      subst (Growable θ i) (sym e) (long, r.shallow.low, within, omega (arith, local), r.shallow.all i within)

-- a run halved, and a half, keep the links
abbrev SameLinks : List ℕ → List ℕ → Type 0
SameLinks ws vs = (back_word vs 0 ≡ back_word ws 0) × (forward_word vs 0 ≡ forward_word ws 0)

module _ (θ : ℕ) (a c : ℕ) where
  grow_links : (ws : List ℕ) (k : Key) → SameLinks ws (grow θ ws k a c)
  unfolding grow halve_run double block
  grow_links ws k =
      elim (ltb (entry_depth ws 0 (number ws k)) (depth_word ws 0))
      as (λ b. SameLinks ws (elim b [ true ↦ halve_run θ ws k a c | false ↦ halve_run θ (double θ ws) k a c ])) [
        | true ↦ (refl, refl)
        | false ↦ (refl, refl)
      ]

  half_links : (ws : List ℕ) (b : Bool) → SameLinks ws (half θ ws b)
  unfolding half block
  half_links ws b = (refl, refl)

  both_links : (ws : List ℕ) (b : Bool) (k : Key) → SameLinks ws (grow θ (half θ ws b) k a c)
  both_links ws b k =
      let g = grow_links (half θ ws b) k in
      let h = half_links ws b in
      (g.0 ∙ h.0, g.1 ∙ h.1)

  lower_links : (ws : List ℕ) (k : Key) → SameLinks ws (lower θ ws k a c)
  unfolding lower
  lower_links ws [] = both_links ws false []
  lower_links ws (false ∷ k) = both_links ws false k
  lower_links ws (true ∷ k) = half_links ws false

  upper_links : (ws : List ℕ) (k : Key) → SameLinks ws (upper θ ws k a c)
  unfolding upper
  upper_links ws [] = half_links ws true
  upper_links ws (false ∷ k) = half_links ws true
  upper_links ws (true ∷ k) = both_links ws true k

  -- so each half lacks one link of its own
  module _ (ws : List ℕ) (k : Key) where
    pub lower_linked : (m : ℕ) → set (lower θ ws k a c) 3 m ≡ linked (lower θ ws k a c) (back_word ws 0) m
    lower_linked m = sym (forward_only (lower θ ws k a c) m) ∙ ap (λ x. linked (lower θ ws k a c) x m) (lower_links ws k).0

    pub upper_linked : (n : ℕ) → set (upper θ ws k a c) 2 n ≡ linked (upper θ ws k a c) n (forward_word ws 0)
    upper_linked n = sym (back_only (upper θ ws k a c) n) ∙ ap (linked (upper θ ws k a c) n) (upper_links ws k).1
