-- The node rule, test by test: what a row of tests comes to.
use Rattle.std.proofs.Common.{◌≡◌, ℕ, ◌+◌, ◌-◌, ◌*◌, ◌/◌, ◌%◌, ◌^◌, ◌<◌, ◌≤◌, Bool, true, ◌&&◌, eqb, leb, List, length, take, drop, sym, refl, ap, ◌∙◌, arith, pow_pos, pow_mono, eq-eqb, ne_eqb, eqb-true, le-leb, leb-true}
use native.Mathlib.Nat.{mod-one}
use lib.Bits.{bit_and}
use borrow.Author.Tests.{eqb-false}
use Rattle.lists.proofs.Cases.{by_cases}
use Rattle.lists.proofs.Tests.{and_true}
use Rattle.lists.proofs.Shifts.{low_bits, mod_below}
use Rattle.store.specs.declared.Head.{Head}
use Rattle.store.specs.Head.{zeros, node_words}
use Rattle.store.proofs.Places.{zeros_lent}
use Rattle.node.specs.Node.{depth_word, level_word, back_word, forward_word, entry_of, good_runs}
use Rattle.node.specs.Node.{link_rule, pointer_low, pointer_high, node_rule, entry_number}

-- links and pointers by the level
pub link_1 : (h : Head) (level back forward : ℕ) (a b : Bool) → level ≡ 1 → a ≡ leb back h.nodes_taken
    → b ≡ leb forward h.nodes_taken → (a && b) ≡ link_rule h level back forward
unfolding link_rule
link_1 h level back forward a b e p q = rw (p, q, eq-eqb level 1 e, link_rule)

pub link_above : (h : Head) (level back forward : ℕ) (a b : Bool) → (level ≡ 1 → ⊥) → a ≡ eqb back 0 → b ≡ eqb forward 0
    → (a && b) ≡ link_rule h level back forward
unfolding link_rule
link_above h level back forward a b e p q = rw (p, q, ne_eqb level 1 e, link_rule)

pub low_1 : (level : ℕ) → level ≡ 1 → 0 ≡ pointer_low level
unfolding pointer_low
low_1 level e = rw (eq-eqb level 1 e, pointer_low)

pub low_above : (level : ℕ) → (level ≡ 1 → ⊥) → 1 ≡ pointer_low level
unfolding pointer_low
low_above level e = rw (ne_eqb level 1 e, pointer_low)

pub high_1 : (h : Head) (level : ℕ) → level ≡ 1 → h.pages_taken ≡ pointer_high h level
unfolding pointer_high
high_1 h level e = rw (eq-eqb level 1 e, pointer_high)

pub high_above : (h : Head) (level : ℕ) → (level ≡ 1 → ⊥) → h.nodes_taken ≡ pointer_high h level
unfolding pointer_high
high_above h level e = rw (ne_eqb level 1 e, pointer_high)

-- bounds of what the level says
module _ (level : ℕ) where
  by_level : {A : Type 0} → (level ≡ 1 → A) → ((level ≡ 1 → ⊥) → A) → A
  by_level f g = by_cases (eqb level 1) (λ t. f (eqb-true level 1 t)) (λ t. g (eqb-false level 1 t))

  pub low_most : pointer_low level ≤ 1
  low_most = by_level (λ e. omega (arith, low_1 level e)) (λ e. omega (arith, low_above level e))

  module _ (h : Head) where
    pub high_most : (m : ℕ) → h.nodes_taken ≤ m → h.pages_taken ≤ m → pointer_high h level ≤ m
    high_most m p q = by_level (λ e. omega (arith, high_1 h level e)) (λ e. omega (arith, high_above h level e))

    pub back_most : (back forward : ℕ) → link_rule h level back forward ≡ true → back ≤ h.nodes_taken
    back_most back forward t =
        by_level
        (λ e. leb-true _ _ (and_true _ _ (link_1 h level back forward _ _ e refl refl ∙ t)).0)
        (λ e. omega (arith, eqb-true back 0 (and_true _ _ (link_above h level back forward _ _ e refl refl ∙ t)).0))

-- the words of a block: entries, and what is lent from behind them
module _ (θ : ℕ) where
  pub block_words : {L : ℕ} → L ≡ node_words θ → 6 ≤ L
  unfolding node_words
  block_words e = omega (arith, pow_pos θ)

  pub block_holds : {L d : ℕ} → L ≡ node_words θ → d ≤ θ → 4 + 2 * 2 ^ d ≤ L
  unfolding node_words
  block_holds e h = omega (arith, pow_mono h)

  pub block_rest : (ws : List ℕ) {d n : ℕ} {r : Bool} → length ws ≡ node_words θ → d ≤ θ → n ≡ 2 ^ d
      → r ≡ zeros (take (length ws - (4 + 2 * n)) (drop (4 + 2 * n) ws)) 0 (length (take (length ws - (4 + 2 * n)) (drop (4 + 2 * n) ws)))
      → r ≡ zeros ws (4 + 2 * 2 ^ d) (2 * (2 ^ θ - 2 ^ d))
  unfolding node_words
  block_rest ws {d} e h p z =
      let n : length ws - (4 + 2 * 2 ^ d) ≡ 2 * (2 ^ θ - 2 ^ d) = omega (arith, e) in
      (rw p at z) ∙ zeros_lent ws (4 + 2 * 2 ^ d) (length ws) (block_holds e h) (omega arith) ∙ ap (zeros ws (4 + 2 * 2 ^ d)) n

pub node_rule_is : (h : Head) (s : List ℕ) (at level d : ℕ) (a b c g z : Bool) → d ≡ depth_word s at
    → a ≡ leb d h.theta → b ≡ eqb (level_word s at) level → c ≡ link_rule h level (back_word s at) (forward_word s at)
    → g ≡ good_runs d (pointer_low level) (pointer_high h level) (entry_of s at)
    → z ≡ zeros s (at + 4 + 2 * 2 ^ d) (2 * (2 ^ h.theta - 2 ^ d))
    → (a && b && c && g && z) ≡ node_rule h s at level
unfolding node_rule
node_rule_is h s at level d a b c g z e p q r t u = rw (p, q, r, t, u, e)

-- the entry number by shift and mask
pub entry_none : (W k used H : ℕ) → H ≡ 0 → 0 ≡ entry_number W k used H
unfolding entry_number
entry_none W k used H e = rw e (sym (mod-one _))

pub entry_masked : (W w k used H : ℕ) → w ≡ W → H ≤ 6
    → (bit_and (k / 2 ^ (w - used - H)) ((1 * 2 ^ H) % 2 ^ 64 - 1) ≡ entry_number W k used H)
    × (bit_and (k / 2 ^ (w - used - H)) ((1 * 2 ^ H) % 2 ^ 64 - 1) < 2 ^ H)
    × (bit_and (k / 2 ^ (w - used - H)) ((1 * 2 ^ H) % 2 ^ 64 - 1) < 64)
unfolding entry_number
entry_masked W w k used H e h =
    let q : ℕ = k / 2 ^ (w - used - H) in
    let b : bit_and q ((1 * 2 ^ H) % 2 ^ 64 - 1) ≡ q % 2 ^ H = low_bits q H 64 (omega arith) in
    (b ∙ rw e, rw b (mod_below q H H (omega arith)), rw b (mod_below q H 6 h))

-- a node that keeps the rule, as facts
pub record NodeFacts (h : Head) (s : List ℕ) (at level : ℕ) : Type 0 where
  pub depth : depth_word s at ≤ h.theta
  pub level_is : level_word s at ≡ level
  pub links : link_rule h level (back_word s at) (forward_word s at) ≡ true
  pub runs : good_runs (depth_word s at) (pointer_low level) (pointer_high h level) (entry_of s at) ≡ true
  pub rest : zeros s (at + 4 + 2 * 2 ^ depth_word s at) (2 * (2 ^ h.theta - 2 ^ depth_word s at)) ≡ true

pub node_facts : (h : Head) (s : List ℕ) (at level : ℕ) → node_rule h s at level ≡ true → NodeFacts h s at level
unfolding node_rule
node_facts h s at level e =
    let a = and_true _ _ e in
    let b = and_true _ _ a.0 in
    let c = and_true _ _ b.0 in
    let d = and_true _ _ c.0 in
    record { depth = leb-true _ _ d.0; level_is = eqb-true _ _ d.1; links = c.1; runs = b.1; rest = a.1 }

pub facts_node : (h : Head) (s : List ℕ) (at level : ℕ) → NodeFacts h s at level → node_rule h s at level ≡ true
unfolding node_rule
facts_node h s at level n = rw (le-leb _ _ n.depth, eq-eqb _ _ n.level_is, n.links, n.runs, n.rest)
