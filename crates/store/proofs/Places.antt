-- Where the blocks of a store stand: node blocks one after another behind the head, page blocks behind them, all within the size.
use mathlib.Core.Path.{◌≡◌, sym, ap, ap₂, ◌∙◌}
use mathlib.Core.Bool.{Bool, true, ◌&&◌}
use mathlib.Core.List.{List}
use mathlib.Core.Logic.{◌⊎◌, inl, inr}
use Prim.Native.Nat.{ℕ, ◌+◌, ◌-◌, ◌*◌, ◌≤◌, ◌<◌}
use native.Mathlib.Decide.{dec_lt}
use native.Mathlib.Nat.{zero-add}
use native.Mathlib.Omega.{arith}
use lib.Bits.{bit_or}
use lib.Dec.{eqb}
use lib.ListN.{length, get_or, take, drop}
use lib.Pow.{pow_pos}
use lib.Seq.{get_or-take, get_or-drop}
use Rattle.lists.specs.Lists.{part, every}
use Rattle.lists.proofs.Gather.{or_zero}
use Rattle.lists.proofs.Parts.{part_in_lem, length_part}
use Rattle.lists.proofs.Shifts.{stride}
use Rattle.lists.proofs.Tests.{every_none, every_and, every_ext}
use Rattle.store.specs.declared.Format.{Format}
use Rattle.store.specs.declared.Format.TheVariants.{Plots}
use Rattle.store.specs.declared.Head.{Head}
use Rattle.store.specs.declared.Released.{Released}
use Rattle.store.specs.Format.{words}
use Rattle.store.specs.Head.{word, zeros, released_of, node_words, page_words, size, node_start, node_at, page_start, Under, InUse}
use Rattle.store.proofs.HeadLaws.{Limits, Counts, Chains, Headed, head_facts}

-- a word of a part
pub part_word : (s : List ℕ) (a n i : ℕ) → a + n ≤ length s → i < n → word (part s a n) i ≡ word s (a + i)
part_word s a n i h l = ap (λ ws. get_or ws i 0) (part_in_lem s a n h) ∙ get_or-take n (drop a s) i 0 l ∙ get_or-drop a s i 0

-- zeros word by word, and those of a part
pub zeros_none : (s : List ℕ) (a : ℕ) → true ≡ zeros s a 0
unfolding zeros
zeros_none s a = sym (every_none _)

pub zeros_more : (s : List ℕ) (bits j : ℕ) → eqb bits 0 ≡ zeros s 0 j → eqb (bit_or bits (word s j)) 0 ≡ zeros s 0 (j + 1)
unfolding zeros
zeros_more s bits j e =
    or_zero bits (word s j) ∙ ap₂ (λ a b. a && b) e (ap (λ (i : ℕ). eqb (word s i) 0) (sym (zero-add j)))
    ∙ sym (every_and j (λ i. eqb (word s (0 + i)) 0))

pub zeros_part : (s : List ℕ) (a n : ℕ) → a + n ≤ length s → zeros (part s a n) 0 n ≡ zeros s a n
unfolding zeros
zeros_part s a n h =
    every_ext n _ _ (λ j l. ap (λ (x : ℕ). eqb x 0) (ap (word (part s a n)) (zero-add j) ∙ part_word s a n j h l))

-- the same of a part as it is lent
pub zeros_lent : (s : List ℕ) (a b : ℕ) → a ≤ b → b ≤ length s
    → zeros (take (b - a) (drop a s)) 0 (length (take (b - a) (drop a s))) ≡ zeros s a (b - a)
zeros_lent s a b low high =
    let h : a + (b - a) ≤ length s = omega arith in
    rw (← (part_in_lem s a (b - a) h)) (ap (zeros (part s a (b - a)) 0) (length_part s a (b - a) h) ∙ zeros_part s a (b - a) h)

-- the first n words from `at` on, and those from number i on of a block of w words
pub zeros_first : (s : List ℕ) (at n : ℕ) (b : Bool)
    → b ≡ zeros (take (at + n - at) (drop at s)) 0 (length (take (at + n - at) (drop at s))) → at + n ≤ length s → b ≡ zeros s at n
zeros_first s at n b e h =
    let d : at + n - at ≡ n = omega arith in e ∙ zeros_lent s at (at + n) (omega arith) h ∙ ap (zeros s at) d

pub zeros_rest : (s : List ℕ) (at i w : ℕ) (b : Bool)
    → b ≡ zeros (take (at + w - (at + i)) (drop (at + i) s)) 0 (length (take (at + w - (at + i)) (drop (at + i) s))) → i ≤ w
    → at + w ≤ length s → b ≡ zeros s (at + i) (w - i)
zeros_rest s at i w b e l h =
    let d : at + w - (at + i) ≡ w - i = omega arith in e ∙ zeros_lent s (at + i) (at + w) (omega arith) h ∙ ap (zeros s (at + i)) d

pub zeros_one : (s : List ℕ) (at : ℕ) → zeros s at 1 ≡ eqb (word s at) 0
unfolding zeros every
zeros_one s at = let d : at + 0 ≡ at = omega arith in ap (λ i. eqb (word s i) 0) d

pub node_words_low : (θ : ℕ) → 6 ≤ node_words θ
unfolding node_words
node_words_low θ = omega (arith, pow_pos θ)

pub page_words_low : (f : Format) (C : ℕ) → 1 ≤ C → 2 ≤ page_words f C
unfolding page_words words
page_words_low Plots C l = omega arith

-- blocks of one size, counted from 1, lie beside one another
blocks_apart : (base step x n : ℕ) → 1 ≤ x → 1 ≤ n → (x ≡ n → ⊥)
    → (base + (x - 1) * step + step ≤ base + (n - 1) * step) ⊎ (base + (n - 1) * step + step ≤ base + (x - 1) * step)
blocks_apart base step x n p q ne =
    elim (dec_lt x n) [
      | yes l ↦ inl (omega (arith, stride (x - 1) (n - 1) step (omega arith)))
      | no l ↦
          elim (dec_lt n x) [
            | yes g ↦ inr (omega (arith, stride (n - 1) (x - 1) step (omega arith)))
            | no g ↦ absurd (ne (omega arith))
          ]
    ]

module _ (h : Head) where
  pub node_start_lem : (n : ℕ) → 16 ≤ node_start h n
  unfolding node_start
  node_start_lem n = omega arith

  pub node_end : (n : ℕ) → 1 ≤ n → n ≤ h.node_blocks → node_start h n + node_words h.theta ≤ 16 + h.node_blocks * node_words h.theta
  unfolding node_start
  node_end n low high = omega (arith, stride (n - 1) h.node_blocks (node_words h.theta) (omega arith))

  pub nodes_apart : (x n : ℕ) → 1 ≤ x → 1 ≤ n → (x ≡ n → ⊥)
      → (node_start h x + node_words h.theta ≤ node_start h n) ⊎ (node_start h n + node_words h.theta ≤ node_start h x)
  unfolding node_start
  nodes_apart = blocks_apart 16 (node_words h.theta)

  module _ (f : Format) where
    pub nodes_end_lem : 16 + h.node_blocks * node_words h.theta ≤ size f h.theta h.capacity h.node_blocks h.page_blocks
    unfolding size
    nodes_end_lem = omega arith

    pub page_start_lem : (p : ℕ) → 16 + h.node_blocks * node_words h.theta ≤ page_start f h p
    unfolding page_start
    page_start_lem p = omega arith

    pub page_end : (p : ℕ) → 1 ≤ p → p ≤ h.page_blocks
        → page_start f h p + page_words f h.capacity ≤ size f h.theta h.capacity h.node_blocks h.page_blocks
    unfolding page_start size
    page_end p low high = omega (arith, stride (p - 1) h.page_blocks (page_words f h.capacity) (omega arith))

    pub pages_apart : (x p : ℕ) → 1 ≤ x → 1 ≤ p → (x ≡ p → ⊥)
        → (page_start f h x + page_words f h.capacity ≤ page_start f h p) ⊎ (page_start f h p + page_words f h.capacity ≤ page_start f h x)
    unfolding page_start
    pages_apart = blocks_apart (16 + h.node_blocks * node_words h.theta) (page_words f h.capacity)

    -- a node block lies in a store that is long enough
    pub node_fits : (n L : ℕ) → 1 ≤ n → n ≤ h.node_blocks → size f h.theta h.capacity h.node_blocks h.page_blocks ≤ L
        → node_start h n + node_words h.theta ≤ L
    node_fits n L low high room = omega (arith, node_end n low high, nodes_end_lem)

-- the store of a head that keeps the head rule
module _ {f : Format} {s : List ℕ} {h : Head} (u : Under f s h) where
  headed : Headed f s
  headed = head_facts f s u.rule

  pub under_limits : Limits h.theta h.capacity h.node_blocks h.page_blocks
  under_limits = rw u.head headed.limits

  pub under_counts : Counts f h
  under_counts = rw u.head headed.counts

  pub under_room : size f h.theta h.capacity h.node_blocks h.page_blocks ≤ length s
  under_room = rw u.head headed.room

  pub under_chains : {r : Released} → r ≡ released_of s → Chains h r
  under_chains e = rw (u.head, e) headed.chains

  pub page_inside : {p : ℕ} → 1 ≤ p → p ≤ h.pages_taken → page_start f h p + page_words f h.capacity ≤ length s
  page_inside {p} low high = omega (arith, page_end h f p low (omega (arith, under_counts.filled)), under_room)

  -- the block of a node in use
  module _ {n : ℕ} (i : InUse h n) where
    pub node_inside : node_start h n + node_words h.theta ≤ length s
    node_inside = node_fits h f n (length s) i.positive (omega (arith, i.within, under_counts.taken)) under_room

    pub node_length : length (node_at s h n) ≡ node_words h.theta
    unfolding node_at
    node_length = length_part s (node_start h n) (node_words h.theta) node_inside

    pub node_word_lem : (j : ℕ) → j < node_words h.theta → word (node_at s h n) j ≡ word s (node_start h n + j)
    unfolding node_at
    node_word_lem j l = part_word s (node_start h n) (node_words h.theta) j node_inside l

    pub node_given : {a w : ℕ} → a ≡ node_start h n → w ≡ node_words h.theta → take (a + w - a) (drop a s) ≡ node_at s h n
    unfolding node_at
    node_given {a} {w} p q =
        let e : a + w - a ≡ w = omega arith in
        rw (e, p, q) (sym (part_in_lem s (node_start h n) (node_words h.theta) node_inside))
