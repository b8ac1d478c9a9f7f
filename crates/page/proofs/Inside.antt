-- Which records lie in the words of a page.
--   Room f pg n == the words of n records, behind the count, are in pg; n is no larger than a count
--   Lies f pg i == the same of record number i
use mathlib.Core.Path.{◌≡◌, ap}
use mathlib.Core.Bool.{true}
use mathlib.Core.List.{List, [], ◌∷◌}
use mathlib.Core.Logic.{inl, inr}
use Prim.Native.Nat.{ℕ, ◌+◌, ◌*◌, ◌^◌, ◌≤◌, ◌<◌}
use native.Mathlib.Decide.{dec_le}
use native.Mathlib.Nat.{mul-le-mul_left}
use native.Mathlib.Omega.{arith}
use lib.ListN.{length}
use Rattle.lists.proofs.Parts.{part_out, length_part}
use Rattle.plot.specs.Plot.{lawful_term}
use Rattle.store.specs.declared.Format.{Format}
use Rattle.store.specs.declared.Head.{Head}
use Rattle.store.specs.Format.{words}
use Rattle.store.specs.Head.{page_words, page_start, page_at}
use Rattle.page.specs.Page.{count, item_at, Lent, Filled, page_rule}
use Rattle.page.proofs.Laws.{rule_facts, ordered_facts, facts_ordered, item_term}

abbrev pub Room : Format → List ℕ → ℕ → Type 0
Room f pg n = (n < 2 ^ 32) × (words f * n < length pg)

abbrev pub Lies : Format → List ℕ → ℕ → Type 0
Lies f pg i = (i < 2 ^ 32) × (words f * (i + 1) < length pg)

pub lies_at : (f : Format) {xs ys : List ℕ} {i j : ℕ} → xs ≡ ys → i ≡ j → Lies f ys j → Lies f xs i
lies_at f e d h = rw (e, d) h

-- the words of record i end where those of i + 1 records do
pub inside : (w n i L : ℕ) → w * n < L → i < n → w * (i + 1) < L
inside w n i L h q = omega (arith, mul-le-mul_left {m = i + 1} {n = n} w (omega arith))

-- each of n records lies in a page with room for n
pub lies : (f : Format) (pg : List ℕ) (n : ℕ) → Room f pg n → (i : ℕ) → i < n → Lies f pg i
lies f pg n h i q = (omega (arith, h.0), inside (words f) n i (length pg) h.1 q)

-- each record of a filled page
pub record_inside : {f : Format} {pg : List ℕ} {i : ℕ} → Filled f pg → i < count pg → words f * (i + 1) < length pg
record_inside {f} {pg} {i} h q = inside (words f) (count pg) i (length pg) h.inside q

pub record_term :
    {f : Format} {pg : List ℕ} {i : ℕ} → Filled f pg → i < count pg
    → lawful_term (item_at f pg i).lease (item_at f pg i).last ≡ true
record_term {f} {pg} {i} h q = item_term f (item_at f pg i) ((ordered_facts f pg (count pg) h.order).lawful i q)

-- a page block is lent whole, or no word of it
pub page_lent : (f : Format) (s : List ℕ) (h : Head) (p : ℕ) → Lent f h.capacity (page_at f s h p)
unfolding page_at
page_lent f s h p =
    let a = page_start f h p in
    let n = page_words f h.capacity in
    elim (dec_le (a + n) (length s)) [
      | yes l ↦ inr (length_part s a n l)
      | no l ↦ inl (ap length (part_out s a n (omega arith)))
    ]

-- a page that says it has records is not empty, so it is the whole block
pub count_some : (pg : List ℕ) → 1 ≤ count pg → 1 ≤ length pg
count_some [] h = h
count_some (x ∷ pg) h = omega arith

pub long : (f : Format) (C : ℕ) (pg : List ℕ) → Lent f C pg → 1 ≤ count pg → length pg ≡ 1 + words f * C
unfolding page_words
long f C pg (inl e) h = absurd (omega (arith, count_some pg h))
long f C pg (inr e) h = e

-- as many records as the capacity allows have their words in it
pub fits : (f : Format) (C : ℕ) (pg : List ℕ) → Lent f C pg → 1 ≤ count pg → (n : ℕ) → n ≤ C → words f * n < length pg
fits f C pg l h n q = omega (arith, long f C pg l h, mul-le-mul_left {m = n} {n = C} (words f) q)

-- a page that keeps the rule, as it is lent
pub filled : (f : Format) (C : ℕ) (pg : List ℕ) → page_rule f C pg ≡ true → Lent f C pg → Filled f pg
filled f C pg e l =
    let k = rule_facts f C pg e in
    record {
      inside = fits f C pg l k.some (count pg) k.fits;
      order = facts_ordered f pg (count pg) k.order;
    }
