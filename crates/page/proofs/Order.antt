-- A check of records in order, one after another.
--   Before f pg i b    == b is the key before record i, 0 for none
--   Reached f pg i g b == the first i records are checked: g says whether they are in order, b is the last key
use mathlib.Core.Path.{◌≡◌, refl, sym, ap, ◌∙◌}
use mathlib.Core.Bool.{Bool, true, ◌&&◌, false≢true}
use mathlib.Core.List.{List}
use Prim.Native.Nat.{ℕ, zero, suc, ◌+◌, ◌^◌, ◌≤◌, ◌<◌}
use native.Mathlib.Decide.{dec_lt}
use native.Mathlib.Numerals.{add-one}
use native.Mathlib.Omega.{arith}
use lib.Dec.{ltb}
use lib.Pow.{pow_pos}
use borrow.Author.Count.{below_more}
use borrow.Author.Tests.{ltb-true, lt-ltb}
use Rattle.lists.proofs.Cases.{by_cases}
use Rattle.lists.proofs.Tests.{and_true, same_test, untrue}
use Rattle.store.specs.declared.Format.{Format}
use Rattle.store.specs.declared.Item.{Item}
use Rattle.store.specs.Format.{width}
use Rattle.page.specs.Page.{item_at, key_at, lawful_item, in_turn, ordered}
use Rattle.page.proofs.Laws.{Ordered, ordered_facts, facts_ordered, lawful_key}

abbrev Before : Format → List ℕ → ℕ → ℕ → Type 0
Before f pg i b = (i ≡ 0 → b ≡ 0) × ((j : ℕ) → j + 1 ≡ i → b ≡ key_at f pg j)

pub record Reached (f : Format) (pg : List ℕ) (i : ℕ) (g : Bool) (b : ℕ) : Type 0 where
  pub good : g ≡ ordered f pg i
  pub before : Before f pg i b
  pub short : b < 2 ^ width f

module _ (f : Format) (pg : List ℕ) where
  highest : (i b : ℕ) → Ordered f pg i → Before f pg i b → (j : ℕ) → j < i → key_at f pg j ≤ b
  highest zero b o p j q = absurd (omega arith)
  highest (suc m) b o p j q =
      let e : b ≡ key_at f pg m = p.1 m (add-one m) in
      elim (dec_lt j m) [
        | yes l ↦ omega (arith, o.ascends j m l (omega arith))
        | no l ↦ let d : j ≡ m = omega arith in omega (arith, ap (key_at f pg) d)
      ]

  -- one record more is in order
  more :
      (i b : ℕ) → Ordered f pg i → Before f pg i b → lawful_item f (item_at f pg i) ≡ true → b < key_at f pg i →
      Ordered f pg (i + 1)
  more i b o p l h =
      record {
        lawful = below_more (λ (j : ℕ). lawful_item f (item_at f pg j) ≡ true) i o.lawful l;
        ascends = λ j k q r.
            elim (dec_lt k i) [
              | yes m ↦ o.ascends j k q m
              | no m ↦ let d : k ≡ i = omega arith in omega (arith, highest i b o p j (omega arith), ap (key_at f pg) d)
            ];
      }

  fewer : (i n : ℕ) → i ≤ n → Ordered f pg n → Ordered f pg i
  fewer i n h o = record { lawful = λ j q. o.lawful j (omega arith); ascends = λ j k q r. o.ascends j k q (omega arith) }

  last_above : (i b : ℕ) → Ordered f pg (i + 1) → Before f pg i b → b < key_at f pg i
  last_above zero b o p = omega (arith, p.0 refl, lawful_key f (item_at f pg 0) (o.lawful 0 (omega arith)))
  last_above (suc m) b o p = omega (arith, p.1 m (add-one m), o.ascends m (suc m) (omega arith) (omega arith))

  -- where the first i records are in order, record i decides on one more
  turn : (i b : ℕ) → ordered f pg i ≡ true → Before f pg i b → in_turn f b (item_at f pg i) ≡ ordered f pg (i + 1)
  unfolding in_turn
  turn i b o p =
      same_test (lawful_item f (item_at f pg i) && ltb b (key_at f pg i)) (ordered f pg (i + 1))
      (λ e.
      let a = and_true (lawful_item f (item_at f pg i)) (ltb b (key_at f pg i)) e in
      facts_ordered f pg (i + 1) (more i b (ordered_facts f pg i o) p a.0 (ltb-true b (key_at f pg i) a.1)))
      (λ e.
      let h = ordered_facts f pg (i + 1) e in
      rw (h.lawful i (omega arith), lt-ltb b (key_at f pg i) (last_above i b h p)))

  -- or nothing does
  turned : (i b : ℕ) {g : Bool} → g ≡ ordered f pg i → Before f pg i b → (g && in_turn f b (item_at f pg i)) ≡ ordered f pg (i + 1)
  turned i b {g} e p =
      by_cases g
      (λ t. rw t (turn i b (sym e ∙ t) p))
      (λ t.
      rw t
      (untrue (λ o. false≢true (sym t ∙ e ∙ facts_ordered f pg i (fewer i (i + 1) (omega arith) (ordered_facts f pg (i + 1) o))))))

  pub starts : Reached f pg 0 true 0
  starts =
      record {
        good = sym (facts_ordered f pg 0 (record { lawful = λ i q. absurd (omega arith); ascends = λ i j q r. absurd (omega arith) }));
        before = (λ e. refl, λ j e. absurd (omega arith));
        short = pow_pos (width f);
      }

  pub next : {i b : ℕ} {g t : Bool} {it : Item} → Reached f pg i g b → it ≡ item_at f pg i → it.key < 2 ^ width f → t ≡ in_turn f b it
      → Reached f pg (i + 1) (g && t) it.key
  next {i = i} {b = b} {g = g} h e s t =
      record {
        good = ap (λ x. g && x) (t ∙ ap (in_turn f b) e) ∙ turned i b h.good h.before;
        before = (
          λ z. absurd (omega arith),
          λ j z. let m : i ≡ j = omega arith in ap (λ (x : Item). x.key) e ∙ ap (key_at f pg) m,
        );
        short = s;
      }
