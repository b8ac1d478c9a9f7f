-- Stretches, rows of them and their counts: one law for each step and way out.
use mathlib.Core.Path.{◌≡◌, sym, ap, ap₂, ◌∙◌}
use mathlib.Core.Bool.{Bool, true, false, not, ◌&&◌}
use mathlib.Core.List.{List}
use Prim.Native.Nat.{ℕ, suc, ◌+◌, ◌-◌, ◌*◌, ◌%◌, ◌^◌, ◌≤◌, ◌<◌, min}
use native.Mathlib.Omega.{arith}
use lib.Dec.{eqb, ltb, leb}
use lib.ListN.{set, replicate}
use borrow.Author.Tests.{eq-eqb, ne_eqb, lt-ltb, le-ltb, le-leb, lt-leb}
use Rattle.lists.proofs.Tests.{passed, failed}
use Rattle.store.specs.Head.{word}
use Rattle.raw.specs.Words.{written}
use Rattle.raw.proofs.Steps.{first_arm, second_arm}
use Rattle.stretches.specs.declared.Counts.{Counts}
use Rattle.stretches.specs.declared.Rule.{Rule}
use Rattle.stretches.specs.declared.Sweep.{Sweep}
use Rattle.stretches.specs.Stretches.{element_of, end_of, shortest_of, crowded_at, deep_from, deep_at, halved_at, depth_from, depth_of}
use Rattle.stretches.specs.Stretches.{first_from, from_on, with_stretch, Swept, stepped, swept_from, swept_over, taller_by}
use Rattle.stretches.specs.Stretches.{Climbed, climbed_from, counts_of}

-- a word of an element
module _ (row : List ℕ) (words i j : ℕ) where
  pub element_none : 1 < j → 0 ≡ element_of row words i j
  unfolding element_of
  element_none l = first_arm (ltb 1 j) _ _ (lt-ltb 1 j l)

  module _ {k r : ℕ} (l : j ≤ 1) (e : k ≡ i) where
    pub element_four : words ≡ 4 → r ≡ word row (1 + 4 * k + j) → r ≡ element_of row words i j
    unfolding element_of
    element_four w er =
        er ∙ ap (λ x. word row (1 + 4 * x + j)) e
        ∙ first_arm (eqb words 4) _ _ (eq-eqb words 4 w) ∙ second_arm (ltb 1 j) _ _ (le-ltb 1 j l)

    pub element_two : (words ≡ 4 → ⊥) → r ≡ word row (1 + 2 * k + j) → r ≡ element_of row words i j
    unfolding element_of
    element_two w er =
        er ∙ ap (λ x. word row (1 + 2 * x + j)) e
        ∙ second_arm (eqb words 4) _ _ (ne_eqb words 4 w) ∙ second_arm (ltb 1 j) _ _ (le-ltb 1 j l)

-- a page's records counted
module _ (list : List ℕ) (most from start depth : ℕ) {i n : ℕ} (ei : i ≡ min (from + most) (2 ^ 32 - 1)) (en : n ≡ word list 0) where
  -- the last test, and both
  abbrev within : ℕ → Bool
  within x = ltb (element_of list 4 x 0) (end_of start depth)

  abbrev tests : ℕ → ℕ → Bool
  tests x y = ltb x y && within x

  whole : tests i n ≡ crowded_at list most from start depth
  unfolding crowded_at
  whole = ap₂ tests ei en

  pub crowded_past : n ≤ i → false ≡ crowded_at list most from start depth
  crowded_past l = sym (ap (λ x. x && within i) (le-ltb i n l)) ∙ whole

  pub crowded_test : {k w e : ℕ} → i < n → k ≡ element_of list 4 i 0 → w ≡ k → e ≡ end_of start depth
      → ltb w e ≡ crowded_at list most from start depth
  crowded_test l ek ew ee = ap₂ ltb (ew ∙ ek) ee ∙ sym (ap (λ x. x && within i) (lt-ltb i n l)) ∙ whole

-- the prefixes of the level below, from the first, at one that is in the stretch and after the last
pub deep_first : (below : List ℕ) (most from start depth : ℕ) {end m n : ℕ}
    → end ≡ end_of start depth → m ≡ min (depth + most) (2 ^ 32 - 1) → n ≡ word below 0
    → deep_from below end m from (n - from) ≡ deep_at below most from start depth
unfolding deep_at
deep_first below most from start depth {end} {m} {n} ee em en =
    ap₂ (λ x y. deep_from below x y from (n - from)) ee em
    ∙ ap (λ x. deep_from below (end_of start depth) (min (depth + most) (2 ^ 32 - 1)) from (x - from)) en

module _ (below : List ℕ) (end most n i : ℕ) {b : Bool} (h : deep_from below end most i (n - i) ≡ b) where
  module _ {k w : ℕ} (l : i < n) (ek : k ≡ element_of below 2 i 0) (ew : w ≡ k) where
    deep_turn : deep_from below end most i (suc (n - (i + 1))) ≡ b
    deep_turn = let one : suc (n - (i + 1)) ≡ n - i = omega arith in ap (deep_from below end most i) one ∙ h

    key : w ≡ element_of below 2 i 0
    key = ew ∙ ek

    pub deep_past : end ≤ w → false ≡ b
    unfolding deep_from
    deep_past q =
        first_arm (leb end (element_of below 2 i 0)) _ _ (le-leb end (element_of below 2 i 0) (omega (arith, key))) ∙ deep_turn

    module _ {d : ℕ} (q : w < end) (ed : d ≡ element_of below 2 i 1) where
      inside : leb end (element_of below 2 i 0) ≡ false
      inside = lt-leb end (element_of below 2 i 0) (omega (arith, key))

      pub deep_found : most < d → true ≡ b
      unfolding deep_from
      deep_found z =
          first_arm (ltb most (element_of below 2 i 1)) _ _ (lt-ltb most (element_of below 2 i 1) (omega (arith, ed)))
          ∙ second_arm (leb end (element_of below 2 i 0)) _ _ inside ∙ deep_turn

      pub deep_more : d ≤ most → deep_from below end most (i + 1) (n - (i + 1)) ≡ b
      unfolding deep_from
      deep_more z =
          second_arm (ltb most (element_of below 2 i 1)) _ _ (le-ltb most (element_of below 2 i 1) (omega (arith, ed)))
          ∙ second_arm (leb end (element_of below 2 i 0)) _ _ inside ∙ deep_turn

  pub deep_out : n ≤ i → false ≡ b
  unfolding deep_from
  deep_out l = let none : 0 ≡ n - i = omega arith in ap (deep_from below end most i) none ∙ h

-- the rule of level 0 and that of the levels above
module _ (row : List ℕ) (rule : Rule) (from start depth : ℕ) {b : Bool} where
  pub halved_first : rule.words ≡ 4 → b ≡ crowded_at row rule.most from start depth → b ≡ halved_at row rule from start depth
  unfolding halved_at
  halved_first e eb = eb ∙ first_arm (eqb rule.words 4) _ _ (eq-eqb rule.words 4 e)

  pub halved_above : (rule.words ≡ 4 → ⊥) → b ≡ deep_at row rule.most from start depth → b ≡ halved_at row rule from start depth
  unfolding halved_at
  halved_above e eb = eb ∙ second_arm (eqb rule.words 4) _ _ (ne_eqb rule.words 4 e)

-- prefix lengths tried: from the shortest, at one that is long enough, after any other and after the last
module _ (row : List ℕ) (rule : Rule) (from start : ℕ) where
  pub depth_first : {d : ℕ} → d ≡ shortest_of start → depth_from row rule from start d (32 - d) ≡ depth_of row rule from start
  unfolding depth_of
  depth_first e = ap (λ x. depth_from row rule from start x (32 - x)) e

  module _ (d : ℕ) {r : ℕ} (h : depth_from row rule from start d (32 - d) ≡ r) where
    module _ {b : Bool} (l : d < 32) (eb : b ≡ halved_at row rule from start d) where
      depth_turn : depth_from row rule from start d (suc (32 - (d + 1))) ≡ r
      depth_turn = let one : suc (32 - (d + 1)) ≡ 32 - d = omega arith in ap (depth_from row rule from start d) one ∙ h

      pub depth_found : not b ≡ true → d ≡ r
      unfolding depth_from
      depth_found z = second_arm (halved_at row rule from start d) _ _ (failed eb z) ∙ depth_turn

      pub depth_more : not b ≡ false → depth_from row rule from start (d + 1) (32 - (d + 1)) ≡ r
      unfolding depth_from
      depth_more z = first_arm (halved_at row rule from start d) _ _ (passed eb z) ∙ depth_turn

    pub depth_out : 32 ≤ d → 32 ≡ r
    unfolding depth_from
    depth_out l = let none : 0 ≡ 32 - d = omega arith in ap (depth_from row rule from start d) none ∙ h

-- elements passed: from the first, at one that is not before the key, after any other and after the last
module _ (row : List ℕ) (words key : ℕ) where
  pub from_first : (from : ℕ) {n : ℕ} → n ≡ word row 0 → first_from row words key from (n - from) ≡ from_on row words from key
  unfolding from_on
  from_first from e = ap (λ x. first_from row words key from (x - from)) e

  module _ (n i : ℕ) {r : ℕ} (h : first_from row words key i (n - i) ≡ r) where
    module _ {k w : ℕ} (l : i < n) (ek : k ≡ element_of row words i 0) (ew : w ≡ k) where
      from_turn : first_from row words key i (suc (n - (i + 1))) ≡ r
      from_turn = let one : suc (n - (i + 1)) ≡ n - i = omega arith in ap (first_from row words key i) one ∙ h

      same : w ≡ element_of row words i 0
      same = ew ∙ ek

      pub from_found : key ≤ w → i ≡ r
      unfolding first_from
      from_found q =
          first_arm (leb key (element_of row words i 0)) _ _ (le-leb key (element_of row words i 0) (omega (arith, same))) ∙ from_turn

      pub from_more : w < key → first_from row words key (i + 1) (n - (i + 1)) ≡ r
      unfolding first_from
      from_more q =
          second_arm (leb key (element_of row words i 0)) _ _ (lt-leb key (element_of row words i 0) (omega (arith, same))) ∙ from_turn

    pub from_out : n ≤ i → i ≡ r
    unfolding first_from
    from_out l = let none : 0 ≡ n - i = omega arith in ap (first_from row words key i) none ∙ h

-- a stretch more, word by word
pub stretch_put : (row : List ℕ) (start depth : ℕ) {n k m : ℕ} {t u v : List ℕ}
    → n ≡ word row 0 → k ≡ n → t ≡ set row (1 + 2 * k) start → u ≡ set t (1 + 2 * k + 1) depth
    → m ≡ min (n + 1) (2 ^ 32 - 1) → v ≡ set u 0 m → v ≡ with_stretch row start depth
unfolding with_stretch
stretch_put row start depth en ek et eu em ev = rw (ev, eu, et, em, ek, en)

-- counts, number by number
pub taller_by_lem : (c : Counts) (n : ℕ) {l m : ℕ} → l ≡ min (c.levels + 1) (2 ^ 32 - 1) → m ≡ min (c.nodes + n) (2 ^ 32 - 1)
    → ◌≡◌ {A = Counts} (record { levels = l; nodes = m; pages = c.pages }) (taller_by c n)
unfolding taller_by
taller_by_lem c n el em = ap₂ (λ x y. record { levels = x; nodes = y; pages = c.pages }) el em

-- the next stretch, with an element and without one
module _ (below : List ℕ) (rule : Rule) (s : Sweep) (above : List ℕ) {start depth end from : ℕ} {t : List ℕ}
    (es : start ≡ s.start % 2 ^ 32) (ed : depth ≡ depth_of below rule s.from start) (et : t ≡ with_stretch above start depth)
    (ee : end ≡ end_of start depth) (ef : from ≡ from_on below rule.words s.from end) where
  abbrev next : Swept
  next = stepped below rule (record { sweep = s; row = above })

  abbrev onward : ℕ → ℕ
  onward x = from_on below rule.words s.from x

  abbrev more : ℕ → ℕ
  more f = elim (ltb s.from f) [ true ↦ min (s.filled + 1) (2 ^ 32 - 1) | false ↦ s.filled ]

  abbrev made : ℕ → ℕ → ℕ → ℕ → Swept
  made st d e f = record { sweep = record { start = e; from = f; filled = more f }; row = with_stretch above st d }

  all_made : made start depth end from ≡ next
  unfolding stepped
  all_made =
      ap (made start depth end) ef
      ∙ ap (λ e. made start depth e (onward e)) ee
      ∙ ap (λ d. made start d (end_of start d) (onward (end_of start d))) ed
      ∙ ap (λ x. let d = depth_of below rule s.from x in made x d (end_of x d) (onward (end_of x d))) es

  abbrev Taken : ℕ → Type 0
  Taken n = (◌≡◌ {A = Sweep} (record { start = end; from = from; filled = n }) next.sweep) × (t ≡ next.row)

  taken : {n : ℕ} → n ≡ more from → Taken n
  taken e =
      (ap (λ x. record { start = end; from = from; filled = x }) e ∙ ap (λ q. q.sweep) all_made, et ∙ ap (λ q. q.row) all_made)

  pub step_filled : {n : ℕ} → s.from < from → n ≡ min (s.filled + 1) (2 ^ 32 - 1) → Taken n
  step_filled l en = taken (en ∙ first_arm (ltb s.from from) _ _ (lt-ltb s.from from l))

  pub step_empty : from ≤ s.from → Taken s.filled
  step_empty l = taken (second_arm (ltb s.from from) _ _ (le-ltb s.from from l))

-- a sweep from its start, after a stretch more, at the end of the keys and at its last turn
module _ (below : List ℕ) (rule : Rule) where
  -- no stretch yet
  abbrev none_yet : List ℕ → Swept
  none_yet row = record { sweep = record { start = 0; from = 0; filled = 0 }; row = row }

  pub swept_first : (above : List ℕ) {t : List ℕ} → t ≡ set above 0 0
      → swept_from below rule (none_yet t) (4095 - 0) ≡ swept_over below rule above
  unfolding swept_over
  swept_first above e =
      let all : 4095 - 0 ≡ 4095 = omega arith in ap₂ (λ x. swept_from below rule (none_yet x)) e all

  module _ (s : Sweep) (above : List ℕ) (m turn : ℕ) {q : Swept}
      (h : swept_from below rule (record { sweep = s; row = above }) (m - turn) ≡ q) where
    abbrev at : Swept
    at = record { sweep = s; row = above }

    abbrev Ended : Type 0
    Ended = (s.filled ≡ q.sweep.filled) × (above ≡ q.row)

    ended : at ≡ q → Ended
    ended e = (ap (λ x. x.sweep.filled) e, ap (λ x. x.row) e)

    module _ (l : turn < m) where
      swept_turn : swept_from below rule at (suc (m - (turn + 1))) ≡ q
      swept_turn = let one : suc (m - (turn + 1)) ≡ m - turn = omega arith in ap (swept_from below rule at) one ∙ h

      pub swept_full : 2 ^ 32 ≤ s.start → Ended
      unfolding swept_from
      swept_full z = ended (first_arm (leb (2 ^ 32) s.start) _ _ (le-leb (2 ^ 32) s.start z) ∙ swept_turn)

      pub swept_more : {s' : Sweep} {t : List ℕ} → s.start < 2 ^ 32
          → (s' ≡ (stepped below rule at).sweep) × (t ≡ (stepped below rule at).row)
          → swept_from below rule (record { sweep = s'; row = t }) (m - (turn + 1)) ≡ q
      unfolding swept_from
      swept_more z w =
          ap₂ (λ x y. swept_from below rule (record { sweep = x; row = y }) (m - (turn + 1))) w.0 w.1
          ∙ second_arm (leb (2 ^ 32) s.start) _ _ (lt-leb (2 ^ 32) s.start z) ∙ swept_turn

    pub swept_out : m ≤ turn → Ended
    unfolding swept_from
    swept_out l = let none : 0 ≡ m - turn = omega arith in ended (ap (swept_from below rule at) none ∙ h)

-- levels from the first on, at one with a single stretch, after any other and after the last
pub climbed_first : (θ : ℕ) (p : Climbed) → climbed_from θ p (33 - 0) ≡ climbed_from θ p 33
climbed_first θ p = let all : 33 - 0 ≡ 33 = omega arith in ap (climbed_from θ p) all

module _ (θ : ℕ) (row above : List ℕ) (c : Counts) (m level : ℕ) {q : Climbed}
    (h : climbed_from θ (record { row = row; above = above; counts = c }) (m - level) ≡ q) where
  abbrev Reached : List ℕ → Counts → Type 0
  Reached a d = (d ≡ q.counts) × (row ≡ q.row) × (a ≡ q.above)

  reached : {a : List ℕ} {d : Counts} → record { row = row; above = a; counts = d } ≡ q → Reached a d
  reached e = (ap (λ x. x.counts) e, ap (λ x. x.row) e, ap (λ x. x.above) e)

  module _ {a : List ℕ} {n : ℕ} {d : Counts} (l : level < m) (ea : a ≡ (swept_over row (record { words = 2; most = θ }) above).row)
      (en : n ≡ word a 0) (ed : d ≡ taller_by c n) where
    abbrev new : List ℕ
    new = (swept_over row (record { words = 2; most = θ }) above).row

    climbed_turn : climbed_from θ (record { row = row; above = above; counts = c }) (suc (m - (level + 1))) ≡ q
    climbed_turn = let one : suc (m - (level + 1)) ≡ m - level = omega arith in ap (climbed_from θ _) one ∙ h

    size : n ≡ word new 0
    size = en ∙ ap (λ x. word x 0) ea

    count : d ≡ taller_by c (word new 0)
    count = ed ∙ ap (taller_by c) size

    pub climbed_single : n ≡ 1 → Reached a d
    unfolding climbed_from
    climbed_single z =
        reached
        (ap₂ (λ x y. record { row = row; above = x; counts = y }) ea count
        ∙ first_arm (eqb (word new 0) 1) _ _ (eq-eqb (word new 0) 1 (sym size ∙ z)) ∙ climbed_turn)

    pub climbed_more : {k : ℕ} {t : List ℕ} → (n ≡ 1 → ⊥) → k ≡ n → t ≡ written (word a) row (1 + 2 * k)
        → climbed_from θ (record { row = t; above = a; counts = d }) (m - (level + 1)) ≡ q
    unfolding climbed_from
    climbed_more z ek et =
        let w = et ∙ ap₂ (λ x y. written (word x) row (1 + 2 * y)) ea (ek ∙ size) in
        ap (λ x. climbed_from θ (record { row = x; above = a; counts = d }) (m - (level + 1))) w
        ∙ ap₂ (λ x y. climbed_from θ (record { row = written (word new) row (1 + 2 * word new 0); above = x; counts = y }) (m - (level + 1)))
        ea count
        ∙ second_arm (eqb (word new 0) 1) _ _ (ne_eqb (word new 0) 1 (λ e. z (size ∙ e))) ∙ climbed_turn

  pub climbed_out : m ≤ level → Reached above c
  unfolding climbed_from
  climbed_out l = let none : 0 ≡ m - level = omega arith in reached (ap (climbed_from θ _) none ∙ h)

-- the counts of a list's tree
module _ (list : List ℕ) (θ C : ℕ) where
  -- the lowest row, and the counts above a row
  abbrev lowest : List ℕ → Swept
  lowest = swept_over list (record { words = 4; most = C })

  abbrev counted : List ℕ → List ℕ → ℕ → Counts
  counted row above n =
      (climbed_from θ (record { row = row; above = above; counts = record { levels = 0; nodes = 0; pages = n } }) 33).counts

  pub counts_are : {row none : List ℕ} {pages : ℕ} {r : Counts} → none ≡ replicate 8192 0
      → (pages ≡ (lowest none).sweep.filled) × (row ≡ (lowest none).row) → r ≡ counted row none pages → r ≡ counts_of list θ C
  unfolding counts_of
  counts_are {row} {none} {pages} e w er =
      er ∙ ap₂ (λ x n. counted x none n) w.1 w.0 ∙ ap (λ x. counted (lowest x).row x (lowest x).sweep.filled) e
