-- The gathered tests of a node's entries say whether the entries fall into lawful runs.
--   Inside H low high x == the entry x is inside its limits
--   Clear, Untorn, Short j == the three tests of entry j: inside, not torn from the entry before, its local depth not the node's
--   Gathered .. i g     == g has gathered the tests of the first i entries
--   Fair H low high ws  == what runs_ok asks, and that each word fits 32 bits
use Rattle.std.proofs.Common.{◌≡◌, ℕ, zero, suc, ◌+◌, ◌-◌, ◌*◌, ◌^◌, ◌<◌, ◌≤◌, Bool, true, false, not, ◌&&◌, eqb, ltb, ◌⊎◌, List, sym, refl, ap, ◌∙◌, subst, ap₂, inl, inr, arith, pow_pos, pow_mono, ltb-true, le-ltb, lt-ltb, eq-eqb, ne_eqb, eqb-true}
use mathlib.Core.Bool.{false≢true}
use native.Mathlib.Decide.{dec_lt}
use lib.Bits.{bit_or, bit_xor, or_lt, xor_self}
use Rattle.lists.specs.Lists.{every, greatest}
use Rattle.lists.proofs.Cases.{by_cases}
use Rattle.lists.proofs.Gather.{or_above, or_none, none_or, or_zero, or_below, xor_none}
use Rattle.lists.proofs.Tests.{untrue, same_test, every_none, every_and, every_at, every_of, greatest_le, greatest_at}
use Rattle.tree.specs.Node.{Entry}
use Rattle.store.specs.Head.{word}
use Rattle.node.specs.declared.Faults.{Faults}
use Rattle.node.specs.Faults.{behind_of, outside_of, torn_of, gathered_of, before_of}
use Rattle.node.specs.Node.{back_word, entry_of, good_runs}
use Rattle.node.proofs.RunWalk.{Good, good_facts, facts_good}
use Rattle.node.proofs.Neighbours.{zeros_of, zeros_most, zeros_first, Joined, runs_join, joined_run}

-- a local depth is not below H − t just where that difference has its top bit clear
module _ {H t h : ℕ} (p : H ≤ 6) (q : t ≤ 6) (r : h ≤ 4096) where
  apart_clear : H ≤ h + t → behind_of h (behind_of H t) < 2 ^ 31
  unfolding behind_of
  apart_clear l = omega arith

  clear_apart : behind_of h (behind_of H t) < 2 ^ 31 → H ≤ h + t
  unfolding behind_of
  clear_apart l = omega arith

-- an entry inside its limits
pub record Inside (H low high : ℕ) (x : Entry ℕ) : Type 0 where
  pub depth : x.0 ≤ H
  pub above : low ≤ x.1
  pub below : x.1 ≤ high

module _ (H low high : ℕ) (p : H ≤ 6) (q : low ≤ 1) (r : high ≤ 4096) (x : Entry ℕ) where
  pub clear_inside : x.1 < 2 ^ 32 → outside_of H low high x < 2 ^ 31 → Inside H low high x
  unfolding outside_of behind_of
  clear_inside w h =
      let a = or_above (bit_or (bit_or x.0 (behind_of H x.0)) (behind_of x.1 low)) (behind_of high x.1) in
      let b = or_above (bit_or x.0 (behind_of H x.0)) (behind_of x.1 low) in
      let c = or_above x.0 (behind_of H x.0) in
      record {
        depth = omega (arith, a.0, b.0, c.0, c.1);
        above = omega (arith, a.0, b.1, a.1);
        below = omega (arith, a.0, b.1, a.1);
      }

  pub inside_clear : Inside H low high x → outside_of H low high x < 2 ^ 31
  unfolding outside_of behind_of
  inside_clear i =
      let a : x.0 < 2 ^ 31 = omega (arith, i.depth) in
      let b : behind_of H x.0 < 2 ^ 31 = omega (arith, i.depth) in
      let c : behind_of x.1 low < 2 ^ 31 = omega (arith, i.above, i.below) in
      let d : behind_of high x.1 < 2 ^ 31 = omega (arith, i.below) in
      or_lt 31 _ _ (or_lt 31 _ _ (or_lt 31 _ _ a b) c) d

-- neighbours that are torn apart
module _ (apart : ℕ) (x y : Entry ℕ) where
  -- its top bit is set where the local depth of either is below `apart`
  abbrev pub either : ℕ
  either = bit_or (behind_of y.0 apart) (behind_of x.0 apart)

  pub torn_clear : either < 2 ^ 31 → torn_of apart x y ≡ 0
  unfolding torn_of
  torn_clear h = rw (lt-ltb either (2 ^ 31) h, torn_of)

  pub torn_set : 2 ^ 31 ≤ either → torn_of apart x y ≡ bit_or (bit_xor y.0 x.0) (bit_xor y.1 x.1)
  unfolding torn_of
  torn_set h = rw (le-ltb either (2 ^ 31) h, torn_of)

  torn_same : x ≡ y → torn_of apart x y ≡ 0
  torn_same e =
      elim (dec_lt either (2 ^ 31)) [
        | yes l ↦ torn_clear l
        | no l ↦ torn_set (omega arith) ∙ rw e (none_or _ _ (xor_self y.0) (xor_self y.1))
      ]

  torn_equal : torn_of apart x y ≡ 0 → 2 ^ 31 ≤ either → x ≡ y
  torn_equal e h =
      let z = or_none _ _ (sym (torn_set h) ∙ e) in
      ap₂ (λ a b. (a, b)) (sym (xor_none y.0 x.0 z.0)) (sym (xor_none y.1 x.1 z.1))

module _ {H t : ℕ} (p : H ≤ 6) (q : t ≤ 6) (x y : Entry ℕ) (a : x.0 ≤ 4096) (b : y.0 ≤ 4096) where
  joined_untorn : ((x.0 + t < H) ⊎ (y.0 + t < H) → x ≡ y) → torn_of (behind_of H t) x y ≡ 0
  joined_untorn j =
      elim (dec_lt (x.0 + t) H) [
        | yes l ↦ torn_same _ x y (j (inl l))
        | no l ↦
            elim (dec_lt (y.0 + t) H) [
              | yes k ↦ torn_same _ x y (j (inr k))
              | no k ↦ torn_clear _ x y (or_lt 31 _ _ (apart_clear p q b (omega arith)) (apart_clear p q a (omega arith)))
            ]
      ]

  untorn_joined : torn_of (behind_of H t) x y ≡ 0 → (x.0 + t < H) ⊎ (y.0 + t < H) → x ≡ y
  untorn_joined e s =
      elim (dec_lt (either (behind_of H t) x y) (2 ^ 31)) [
        | no l ↦ torn_equal _ x y e (omega arith)
        | yes l ↦
            let o = or_above (behind_of y.0 (behind_of H t)) (behind_of x.0 (behind_of H t)) in
            let c : H ≤ x.0 + t = clear_apart p q a (omega (arith, o.1)) in
            let d : H ≤ y.0 + t = clear_apart p q b (omega (arith, o.0)) in
            elim s [ inl k ↦ absurd (omega arith) | inr k ↦ absurd (omega arith) ]
      ]

-- some local depth is the largest that is allowed
full_greatest : (n H : ℕ) (f : ℕ → ℕ) → 0 < n → ((k : ℕ) → k < n → f k ≤ H)
    → not (every n (λ k. not (eqb (f k) H))) ≡ eqb (greatest n f) H
full_greatest n H f p d =
    let t : ℕ → Bool = λ k. not (eqb (f k) H) in
    let other : (k : ℕ) → (f k ≡ H → ⊥) → t k ≡ true = λ k ne. ap not (ne_eqb (f k) H ne) in
    by_cases (every n t)
    (λ e.
    let below : (k : ℕ) → k < n → f k < H =
    λ k h. let ne : f k ≡ H → ⊥ = λ i. false≢true (ap not (sym (eq-eqb (f k) H i)) ∙ every_at n t e k h) in omega (arith, d k h) in
    let less : greatest n f ≤ H - 1 = greatest_le n f (H - 1) (λ k h. omega (arith, below k h)) in
    ap not e ∙ sym (ne_eqb (greatest n f) H (λ i. omega (arith, below 0 p))))
    (λ e.
    elim (dec_lt (greatest n f) H) [
      | yes l ↦ absurd (false≢true (sym e ∙ every_of n t (λ k h. other k (λ i. omega (arith, greatest_at n f k h)))))
      | no l ↦ ap not e ∙ sym (eq-eqb (greatest n f) H (omega (arith, greatest_le n f H d)))
    ])

-- the gathered tests
module _ (H low high : ℕ) (ws : List ℕ) where
  abbrev pub Clear : ℕ → Bool
  Clear j = ltb (outside_of H low high (entry_of ws 0 j)) (2 ^ 31)

  abbrev pub Untorn : ℕ → Bool
  Untorn j = eqb (torn_of (behind_of H (zeros_of j)) (before_of ws j) (entry_of ws 0 j)) 0

  abbrev pub Short : ℕ → Bool
  Short j = not (eqb (entry_of ws 0 j).0 H)

  pub record Gathered (i : ℕ) (g : Faults) : Type 0 where
    pub clear : ltb g.outside (2 ^ 31) ≡ every i Clear
    pub untorn : eqb g.torn 0 ≡ every i Untorn
    pub short : eqb g.full 0 ≡ every i Short

  pub gathered_none : Gathered 0 (record { outside = 0; torn = 0; full = 0 })
  gathered_none = record { clear = sym (every_none _); untorn = sym (every_none _); short = sym (every_none _) }

  flag : (b : Bool) → eqb (elim b [ true ↦ 1 | false ↦ 0 ]) 0 ≡ not b
  flag true = refl
  flag false = refl

  pub gathered_more : {i : ℕ} {g : Faults} → Gathered i g
      → Gathered (i + 1) (gathered_of H low high (behind_of H (zeros_of i)) (before_of ws i) (entry_of ws 0 i) g)
  unfolding gathered_of
  gathered_more {i} {g} s =
      record {
        clear = or_below 31 g.outside _ ∙ ap (λ b. b && Clear i) s.clear ∙ sym (every_and i Clear);
        untorn = or_zero g.torn _ ∙ ap (λ b. b && Untorn i) s.untorn ∙ sym (every_and i Untorn);
        short =
            or_zero g.full _ ∙ ap₂ (λ a b. a && b) s.short (flag (eqb (entry_of ws 0 i).0 H)) ∙ sym (every_and i Short);
      }

  -- what is asked of a node, and of its words
  pub record Fair : Type 0 where
    pub depth : H ≤ 6
    pub lows : low ≤ 1
    pub highs : high ≤ 4096
    pub back : back_word ws 0 ≤ 4096
    pub words : (j : ℕ) → word ws j < 2 ^ 32

  module _ (f : Fair) where
    before_is : (i : ℕ) → 1 ≤ i → before_of ws i ≡ entry_of ws 0 (i - 1)
    before_is i h =
        let a : 2 + 2 * i ≡ 0 + 4 + 2 * (i - 1) = omega arith in
        let b : 3 + 2 * i ≡ 0 + 5 + 2 * (i - 1) = omega arith in
        ap₂ (λ (h p : ℕ). (word ws h, word ws p)) a b

    small : (i : ℕ) → i < 2 ^ H → i < 64
    small i h = omega (arith, pow_mono {i = H} {j = 6} f.depth)

    module _ (inside : (j : ℕ) → j < 2 ^ H → Inside H low high (entry_of ws 0 j)) where
      shallow : (j : ℕ) → j < 2 ^ H → (entry_of ws 0 j).0 ≤ 4096
      shallow j h = omega (arith, f.depth, (inside j h).depth)

      before_shallow : (j : ℕ) → j < 2 ^ H → (before_of ws j).0 ≤ 4096
      before_shallow zero h = f.back
      before_shallow (suc j) h =
          subst (λ (x : Entry ℕ). x.0 ≤ 4096) (sym (before_is (suc j) (omega arith))) (shallow (suc j - 1) (omega arith))

      before_joined : ((i : ℕ) → 1 ≤ i → i < 2 ^ H → Joined H (entry_of ws 0) i) → (j : ℕ) → j < 2 ^ H
          → ((before_of ws j).0 + zeros_of j < H) ⊎ ((entry_of ws 0 j).0 + zeros_of j < H) → before_of ws j ≡ entry_of ws 0 j
      before_joined all zero h (inl l) = absurd (omega (arith, f.depth, zeros_first))
      before_joined all zero h (inr l) = absurd (omega (arith, f.depth, zeros_first))
      before_joined all (suc j) h s =
          let q : 1 ≤ suc j = omega arith in
          subst (λ (x : Entry ℕ). (x.0 + zeros_of (suc j) < H) ⊎ ((entry_of ws 0 (suc j)).0 + zeros_of (suc j) < H) → x ≡ entry_of ws 0 (suc j))
          (sym (before_is (suc j) q)) (all (suc j) q h) s

      joined_all : ((i : ℕ) → 1 ≤ i → i < 2 ^ H → Joined H (entry_of ws 0) i) → every (2 ^ H) Untorn ≡ true
      joined_all all =
          every_of (2 ^ H) Untorn
          (λ j h.
          eq-eqb _ _
          (joined_untorn f.depth (zeros_most j (small j h)) (before_of ws j) (entry_of ws 0 j) (before_shallow j h) (shallow j h)
          (before_joined all j h)))

      all_joined : every (2 ^ H) Untorn ≡ true → (i : ℕ) → 1 ≤ i → i < 2 ^ H → Joined H (entry_of ws 0) i
      all_joined t i p h =
          untorn_joined f.depth (zeros_most i (small i h)) (entry_of ws 0 (i - 1)) (entry_of ws 0 i) (shallow (i - 1) (omega arith))
          (shallow i h)
          (ap (λ (x : Entry ℕ). torn_of (behind_of H (zeros_of i)) x (entry_of ws 0 i)) (sym (before_is i p))
          ∙ eqb-true _ _ (every_at (2 ^ H) Untorn t i h))

    good_inside : Good H low high (entry_of ws 0) → (j : ℕ) → j < 2 ^ H → Inside H low high (entry_of ws 0 j)
    good_inside g j h = record { depth = (g.rule j h).0; above = (g.pointers j h).0; below = (g.pointers j h).1 }

    clear_inside_all : every (2 ^ H) Clear ≡ true → (j : ℕ) → j < 2 ^ H → Inside H low high (entry_of ws 0 j)
    clear_inside_all t j h =
        clear_inside H low high f.depth f.lows f.highs (entry_of ws 0 j) (f.words _) (ltb-true _ _ (every_at (2 ^ H) Clear t j h))

    module _ {g : Faults} (s : Gathered (2 ^ H) g) where
      pub outside_breaks : 2 ^ 31 ≤ g.outside → false ≡ good_runs H low high (entry_of ws 0)
      outside_breaks h =
          untrue
          (λ t.
          let i = good_inside (good_facts _ _ _ _ t) in
          let c : every (2 ^ H) Clear ≡ true =
          every_of (2 ^ H) Clear (λ j q. lt-ltb _ _ (inside_clear H low high f.depth f.lows f.highs (entry_of ws 0 j) (i j q))) in
          false≢true (sym (le-ltb g.outside (2 ^ 31) h) ∙ s.clear ∙ c))

      pub torn_breaks : (g.torn ≡ 0 → ⊥) → false ≡ good_runs H low high (entry_of ws 0)
      torn_breaks n =
          untrue
          (λ t.
          let d = good_facts _ _ _ _ t in
          n (eqb-true _ _ (s.untorn ∙ joined_all (good_inside d) (runs_join H (entry_of ws 0) f.depth d.rule))))

      pub full_is : g.outside < 2 ^ 31 → g.torn ≡ 0 → not (eqb g.full 0) ≡ good_runs H low high (entry_of ws 0)
      full_is p q =
          let e : ℕ → Entry ℕ = entry_of ws 0 in
          let i = clear_inside_all (sym s.clear ∙ lt-ltb _ _ p) in
          let j = all_joined i (sym s.untorn ∙ eq-eqb _ _ q) in
          let m = ap not s.short ∙ full_greatest (2 ^ H) H (λ k. (e k).0) (pow_pos H) (λ k h. (i k h).depth) in
          m
          ∙ same_test (eqb (greatest (2 ^ H) (λ k. (e k).0)) H) (good_runs H low high e)
          (λ t.
          facts_good H low high e
          (record {
            rule = λ k h. joined_run H e f.depth j k h (i k h).depth;
            pointers = λ k h. ((i k h).above, (i k h).below);
            deepest = eqb-true _ _ t;
          }))
          (λ t. eq-eqb _ _ (good_facts _ _ _ _ t).deepest)
