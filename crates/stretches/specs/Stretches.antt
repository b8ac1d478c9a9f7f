-- The tree of a set, counted. A row of stretches: the count, then for each its first key and its prefix length; level 0 is made of the
-- sorted list, each higher level of the one below. Each is defined on any words.
--   element_of row words i j == word j of element i: elements of two words or of four
--   end_of start depth == the key after a stretch
--   shortest_of start == the shortest prefix of a stretch that starts at a key
--   crowded_at list most from start depth == a level-0 stretch holds more records than a page
--   deep_from, deep_at below most from start depth == a stretch contains one of the level below whose prefix is too long for it
--   halved_at row rule from start depth == a stretch must be halved
--   depth_from, depth_of row rule from start == the prefix length of the stretch that starts at a key
--   first_from, from_on row words from key == the first element at or after a key
--   with_stretch row start depth == a row with one stretch more
--   Swept            == a sweep and the row that it makes
--   stepped below rule p == the next stretch taken
--   swept_from, swept_over below rule above == a row made; with at most 4,095 stretches
--   taller_by counts n == counts with the nodes of one level more
--   Climbed, climbed_from θ p n == at most n levels above a row, until one has a single stretch
--   counts_of list θ C == the levels, nodes and pages of the list's tree
use Rattle.std.specs.Prelude.{Bool, true, false, ◌&&◌, List, ℕ, zero, suc, ◌+◌, ◌-◌, ◌*◌, ◌%◌, ◌^◌, min, eqb, ltb, leb, set, replicate}
use Rattle.std.specs.Int.Count.{count_trailing_zeros}
use Rattle.store.specs.Head.{word}
use Rattle.raw.specs.Words.{written}
use Rattle.stretches.specs.declared.Counts.{Counts}
use Rattle.stretches.specs.declared.Rule.{Rule}
use Rattle.stretches.specs.declared.Sweep.{Sweep}

unfoldable pub element_of : List ℕ → ℕ → ℕ → ℕ → ℕ
element_of row words i j =
    elim (ltb 1 j) [
      | true ↦ 0
      | false ↦ elim (eqb words 4) [ true ↦ word row (1 + 4 * i + j) | false ↦ word row (1 + 2 * i + j) ]
    ]

abbrev pub end_of : ℕ → ℕ → ℕ
end_of start depth = start + 2 ^ (32 - depth)

abbrev pub shortest_of : ℕ → ℕ
shortest_of start = 32 - count_trailing_zeros 32 start

unfoldable pub crowded_at : List ℕ → ℕ → ℕ → ℕ → ℕ → Bool
crowded_at list most from start depth =
    let i = min (from + most) (2 ^ 32 - 1) in
    ltb i (word list 0) && ltb (element_of list 4 i 0) (end_of start depth)

unfoldable pub deep_from : List ℕ → ℕ → ℕ → ℕ → ℕ → Bool
deep_from below end most i zero = false
deep_from below end most i (suc n) =
    elim (leb end (element_of below 2 i 0)) [
      | true ↦ false
      | false ↦ elim (ltb most (element_of below 2 i 1)) [ true ↦ true | false ↦ deep_from below end most (i + 1) n ]
    ]

unfoldable pub deep_at : List ℕ → ℕ → ℕ → ℕ → ℕ → Bool
deep_at below most from start depth =
    deep_from below (end_of start depth) (min (depth + most) (2 ^ 32 - 1)) from (word below 0 - from)

unfoldable pub halved_at : List ℕ → Rule → ℕ → ℕ → ℕ → Bool
halved_at row rule from start depth =
    elim (eqb rule.words 4) [
      | true ↦ crowded_at row rule.most from start depth
      | false ↦ deep_at row rule.most from start depth
    ]

unfoldable pub depth_from : List ℕ → Rule → ℕ → ℕ → ℕ → ℕ → ℕ
depth_from row rule from start depth zero = 32
depth_from row rule from start depth (suc n) =
    elim (halved_at row rule from start depth) [ true ↦ depth_from row rule from start (depth + 1) n | false ↦ depth ]

unfoldable pub depth_of : List ℕ → Rule → ℕ → ℕ → ℕ
depth_of row rule from start = depth_from row rule from start (shortest_of start) (32 - shortest_of start)

unfoldable pub first_from : List ℕ → ℕ → ℕ → ℕ → ℕ → ℕ
first_from row words key i zero = i
first_from row words key i (suc n) =
    elim (leb key (element_of row words i 0)) [ true ↦ i | false ↦ first_from row words key (i + 1) n ]

unfoldable pub from_on : List ℕ → ℕ → ℕ → ℕ → ℕ
from_on row words from key = first_from row words key from (word row 0 - from)

unfoldable pub with_stretch : List ℕ → ℕ → ℕ → List ℕ
with_stretch row start depth =
    let n = word row 0 in
    let at = 1 + 2 * n in
    set (set (set row at start) (at + 1) depth) 0 (min (n + 1) (2 ^ 32 - 1))

pub record Swept : Type 0 where
  pub sweep : Sweep
  pub row : List ℕ

unfoldable pub stepped : List ℕ → Rule → Swept → Swept
stepped below rule p =
    let sweep = p.sweep in
    let start = sweep.start % 2 ^ 32 in
    let depth = depth_of below rule sweep.from start in
    let end = end_of start depth in
    let from = from_on below rule.words sweep.from end in
    let filled : ℕ = elim (ltb sweep.from from) [ true ↦ min (sweep.filled + 1) (2 ^ 32 - 1) | false ↦ sweep.filled ] in
    record { sweep = record { start = end; from = from; filled = filled }; row = with_stretch p.row start depth }

unfoldable pub swept_from : List ℕ → Rule → Swept → ℕ → Swept
swept_from below rule p zero = p
swept_from below rule p (suc n) = elim (leb (2 ^ 32) p.sweep.start) [ true ↦ p | false ↦ swept_from below rule (stepped below rule p) n ]

unfoldable pub swept_over : List ℕ → Rule → List ℕ → Swept
swept_over below rule above =
    swept_from below rule (record { sweep = record { start = 0; from = 0; filled = 0 }; row = set above 0 0 }) 4095

unfoldable pub taller_by : Counts → ℕ → Counts
taller_by counts n =
    record {
      levels = min (counts.levels + 1) (2 ^ 32 - 1);
      nodes = min (counts.nodes + n) (2 ^ 32 - 1);
      pages = counts.pages;
    }

pub record Climbed : Type 0 where
  pub row : List ℕ
  pub above : List ℕ
  pub counts : Counts

unfoldable pub climbed_from : ℕ → Climbed → ℕ → Climbed
climbed_from θ p zero = p
climbed_from θ p (suc n) =
    let a = (swept_over p.row (record { words = 2; most = θ }) p.above).row in
    let counts = taller_by p.counts (word a 0) in
    elim (eqb (word a 0) 1) [
      | true ↦ record { row = p.row; above = a; counts = counts }
      | false ↦ climbed_from θ (record { row = written (word a) p.row (1 + 2 * word a 0); above = a; counts = counts }) n
    ]

unfoldable pub counts_of : List ℕ → ℕ → ℕ → Counts
counts_of list θ C =
    let none : List ℕ = replicate 8192 0 in
    let p = swept_over list (record { words = 4; most = C }) none in
    (climbed_from θ (record { row = p.row; above = none; counts = record { levels = 0; nodes = 0; pages = p.sweep.filled } }) 33).counts
