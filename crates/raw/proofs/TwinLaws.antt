-- Two stores compared, step by step and test by test.
use mathlib.Core.Path.{◌≡◌, refl, sym, ap, ap₂, ◌∙◌}
use mathlib.Core.Bool.{Bool, true, false, not, ◌&&◌, true≢false}
use mathlib.Core.List.{List}
use mathlib.Core.Logic.{◌⊎◌, inl, inr}
use Prim.Native.Nat.{ℕ, suc, ◌+◌, ◌-◌, ◌*◌, ◌^◌, ◌≤◌, ◌<◌, min}
use native.Mathlib.Omega.{arith}
use lib.Dec.{eqb}
use lib.ListN.{set, replicate}
use borrow.Author.Tests.{eq-eqb, ne_eqb, lt-ltb, le-ltb}
use Rattle.lists.specs.Lists.{every}
use Rattle.lists.proofs.Tests.{or_holds, passed, failed}
use Rattle.store.specs.Head.{word}
use Rattle.raw.specs.Words.{alike}
use Rattle.raw.specs.Blocks.{node_block, page_size, page_block}
use Rattle.raw.specs.Twins.{node_word, entries_of, Paired, both, paired, paired_from, paired_below}
use Rattle.raw.specs.Twins.{paired_next, paired_all}
use Rattle.raw.specs.Twins.{same_page, twin, same_pointer, same_link, same_entries, same_node, apart_from, same_head, same_tree}
use Rattle.raw.proofs.Steps.{steps_first, steps_turn, steps_out}

-- the twins and the queue of a pairing
abbrev pub Holds : List ℕ → List ℕ → Paired → Type 0
Holds t q p = (t ≡ p.twins) × (q ≡ p.queue)

both_of : {t q : List ℕ} {p : Paired} → Holds t q p → both t q ≡ p
both_of h = ap₂ both h.0 h.1

of_both : {t q : List ℕ} {p : Paired} → both t q ≡ p → Holds t q p
of_both e = (ap (λ p. p.twins) e, ap (λ p. p.queue) e)

-- two nodes paired: the first has a twin, or gets one and is queued
module _ (t q : List ℕ) (a b : ℕ) {i w : ℕ} (ei : i ≡ a) (ew : w ≡ word t i) where
  pub pair_kept : (w ≡ 0 → ⊥) → Holds t q (paired (both t q) a b)
  unfolding paired
  pair_kept d = rw (ne_eqb (word t a) 0 (λ z. d (ew ∙ ap (word t) ei ∙ z)), paired) (refl, refl)

  pub pair_made : {n h m k : ℕ} {u v r : List ℕ} → w ≡ 0 → h ≡ word q 0 → n ≡ min (h + 1) (2 ^ 32 - 1)
      → m ≡ a → u ≡ set t m b → k ≡ n → v ≡ set q k a → r ≡ set v 0 n → Holds u r (paired (both t q) a b)
  unfolding paired
  pair_made {n = n} z eh en em eu ek ev er =
      rw (eq-eqb (word t a) 0 (sym (ew ∙ ap (word t) ei) ∙ z), paired) (
        eu ∙ ap (λ m. set t m b) em,
        er ∙ ap (λ l. set l 0 n) (ev ∙ ap (λ k. set q k a) ek)
            ∙ ap (λ n. set (set q n a) 0 n) (en ∙ ap (λ h. min (h + 1) (2 ^ 32 - 1)) eh),
      )

-- the entries of two nodes from j on: all, one, none
module _ (x y : List ℕ) (a b : ℕ) where
  pub from_first : (p : Paired) (n : ℕ) → paired_from x y a b p 0 (n - 0) ≡ paired_from x y a b p 0 n
  unfolding paired_from
  from_first p n = steps_first _ p n

  module _ (p : Paired) (t q : List ℕ) (j n : ℕ) (h : paired_from x y a b (both t q) j (n - j) ≡ paired_from x y a b p 0 n) where
    pub from_turn : {i k c d : ℕ} {u v : List ℕ} → j < n → i ≡ node_block x a → k ≡ node_block y b
        → c ≡ word x (i + 5 + 2 * j) → d ≡ word y (k + 5 + 2 * j) → Holds u v (paired (both t q) c d)
        → paired_from x y a b (both u v) (j + 1) (n - (j + 1)) ≡ paired_from x y a b p 0 n
    unfolding paired_from
    from_turn l ei ek ec ed w =
        steps_turn _ (both t q) j n h l
        (both_of w ∙ ap₂ (paired (both t q)) (ec ∙ ap (λ i. word x (i + 5 + 2 * j)) ei) (ed ∙ ap (λ k. word y (k + 5 + 2 * j)) ek))

    pub from_done : {m : ℕ} → n ≤ j → n ≡ m → Holds t q (paired_from x y a b p 0 m)
    unfolding paired_from
    from_done l e = of_both (steps_out _ (both t q) j n h l ∙ ap (paired_from x y a b p 0) e)

-- what a node and its twin point to
module _ (x y t q : List ℕ) (a : ℕ) {w : ℕ} (ew : w ≡ node_word x a 1) where
  pub below_nodes : {u v : List ℕ} → 1 < w → Holds u v (paired_from x y a (word t a) (both t q) 0 (entries_of x a))
      → Holds u v (paired_below x y (both t q) a)
  unfolding paired_below
  below_nodes l h = rw (lt-ltb 1 (node_word x a 1) (rw (← ew) l), paired_below) h

  pub below_pages : w ≤ 1 → Holds t q (paired_below x y (both t q) a)
  unfolding paired_below
  below_pages l = rw (le-ltb 1 (node_word x a 1) (rw (← ew) l), paired_below) (refl, refl)

-- the nodes of the queue from place i on: all, one, none
module _ (x y : List ℕ) where
  pub next_first : (p : Paired) (n : ℕ) → paired_next x y p 0 (n - 0) ≡ paired_next x y p 0 n
  unfolding paired_next
  next_first p n = steps_first _ p n

  module _ (t q : List ℕ) (i n : ℕ) where
    pub next_turn : {a : ℕ} {u v : List ℕ} {r : Paired} → i < n → paired_next x y (both t q) i (n - i) ≡ r
        → a ≡ word q (i + 1) → Holds u v (paired_below x y (both t q) a) → paired_next x y (both u v) (i + 1) (n - (i + 1)) ≡ r
    unfolding paired_next
    next_turn l h ea w = steps_turn _ (both t q) i n h l (both_of w ∙ ap (paired_below x y (both t q)) ea)

    pub next_done : (p : Paired) {c d m : ℕ} {u v : List ℕ} → n ≤ i
        → paired_next x y (both t q) i (n - i) ≡ paired_next x y (both u v) 0 n → Holds u v (paired p c d) → c ≡ word x 6 → d ≡ word y 6
        → n ≡ m → m ≡ word x 4 → Holds t q (paired_all x y p)
    unfolding paired_next paired_all
    next_done p l h w ec ed em ek =
        of_both
        (steps_out _ (both t q) i n h l ∙ ap₂ (λ p n. paired_next x y p 0 n) (both_of w ∙ ap₂ (paired p) ec ed) (em ∙ ek))

pub page_same : (x y : List ℕ) (p q : ℕ) {i j n : ℕ} → i ≡ page_block x p → j ≡ page_block y q → n ≡ page_size x
    → alike x i y j n ≡ same_page x y p q
unfolding same_page
page_same x y p q {n = n} e f g = ap₂ (λ i j. alike x i y j n) e f ∙ ap (alike x (page_block x p) y (page_block y q)) g

one_fails : (a b c : Bool) → (a ≡ false) ⊎ ((b ≡ false) ⊎ (c ≡ false)) → (a && b && c) ≡ false
one_fails false b c h = refl
one_fails true false c h = refl
one_fails true true c (inl e) = absurd (true≢false e)
one_fails true true c (inr (inl e)) = absurd (true≢false e)
one_fails true true c (inr (inr e)) = e

module _ (twins : List ℕ) (p q : ℕ) where
  pub twin_null : (eqb p 0 ≡ true) ⊎ (eqb q 0 ≡ true) → eqb p q ≡ twin twins p q
  unfolding twin
  twin_null h = rw (or_holds (eqb p 0) (eqb q 0) h, twin)

  pub twin_some : eqb p 0 ≡ false → eqb q 0 ≡ false → eqb (word twins p) q ≡ twin twins p q
  unfolding twin
  twin_some e f = rw (e, f, twin)

module _ (x y twins : List ℕ) (level p q : ℕ) where
  pub pointer_page : eqb level 1 ≡ true → not (eqb p 0) ≡ true → not (eqb q 0) ≡ true
      → same_page x y p q ≡ same_pointer x y twins level p q
  unfolding same_pointer
  pointer_page e f g = rw (e, f, g, same_pointer)

  pub pointer_twin : (eqb level 1 ≡ false) ⊎ ((not (eqb p 0) ≡ false) ⊎ (not (eqb q 0) ≡ false))
      → twin twins p q ≡ same_pointer x y twins level p q
  unfolding same_pointer
  pointer_twin h = rw (one_fails (eqb level 1) (not (eqb p 0)) (not (eqb q 0)) h, same_pointer)

-- the entries of two nodes, by where the nodes stand
pub entries_alike : (x y twins : List ℕ) (a b : ℕ) {i k l n : ℕ} → i ≡ node_block x a → k ≡ node_block y b → l ≡ node_word x a 1
    → n ≡ entries_of x a
    → every n (λ j. eqb (word x (i + 4 + 2 * j)) (word y (k + 4 + 2 * j))
    && same_pointer x y twins l (word x (i + 5 + 2 * j)) (word y (k + 5 + 2 * j)))
    ≡ same_entries x y twins a b
unfolding same_entries
entries_alike x y twins a b ei ek el en = rw (ei, ek, el, en)

-- a node and its twin, test by test
module _ (x y twins : List ℕ) (a : ℕ) {i b : ℕ} (ei : i ≡ a) (eb : b ≡ word twins i) where
  abbrev it : b ≡ word twins a
  it = eb ∙ ap (word twins) ei

  abbrev words : (k : ℕ) {v w : ℕ} → v ≡ node_word x a k → w ≡ node_word y b k
      → eqb (node_word x a k) (node_word y (word twins a) k) ≡ eqb v w
  words k ev ew = sym (ap₂ eqb ev (ew ∙ ap (λ n. node_word y n k) it))

  pub node_alone : b ≡ 0 → false ≡ same_node x y twins a
  unfolding same_node
  node_alone z = rw (eq-eqb (word twins a) 0 (sym it ∙ z), same_node)

  module _ (z : b ≡ 0 → ⊥) {v w : ℕ} (ev : v ≡ node_word x a 1) (ew : w ≡ node_word y b 1) where
    abbrev some : eqb (word twins a) 0 ≡ false
    some = ne_eqb (word twins a) 0 (λ q. z (it ∙ q))

    pub node_level : (v ≡ w → ⊥) → false ≡ same_node x y twins a
    unfolding same_node
    node_level d = rw (some, words 1 ev ew ∙ ne_eqb v w d, same_node)

    module _ (l : v ≡ w) {d e : ℕ} (ed : d ≡ node_word x a 0) (ee : e ≡ node_word y b 0) where
      abbrev level : eqb (node_word x a 1) (node_word y (word twins a) 1) ≡ true
      level = words 1 ev ew ∙ eq-eqb v w l

      pub node_depth : (d ≡ e → ⊥) → false ≡ same_node x y twins a
      unfolding same_node
      node_depth h = rw (some, level, words 0 ed ee ∙ ne_eqb d e h, same_node)

      module _ (h : d ≡ e) {r : Bool} (er : r ≡ same_link x y twins a b 2) where
        abbrev depth : eqb (node_word x a 0) (node_word y (word twins a) 0) ≡ true
        depth = words 0 ed ee ∙ eq-eqb d e h

        abbrev back : r ≡ same_link x y twins a (word twins a) 2
        back = er ∙ ap (λ n. same_link x y twins a n 2) it

        pub node_back : not r ≡ true → false ≡ same_node x y twins a
        unfolding same_node
        node_back n = rw (some, level, depth, failed back n, same_node)

        module _ (n : not r ≡ false) {s : Bool} (es : s ≡ same_link x y twins a b 3) where
          abbrev forward : s ≡ same_link x y twins a (word twins a) 3
          forward = es ∙ ap (λ n. same_link x y twins a n 3) it

          pub node_forward : not s ≡ true → false ≡ same_node x y twins a
          unfolding same_node
          node_forward m = rw (some, level, depth, passed back n, failed forward m, same_node)

          pub node_entries : {t : Bool} → not s ≡ false → t ≡ same_entries x y twins a b → t ≡ same_node x y twins a
          unfolding same_node
          node_entries m e =
              rw (some, level, depth, passed back n, passed forward m, same_node) (e ∙ ap (same_entries x y twins a) it)

-- no twin of two nodes: none left, and one more
pub apart_first : (twins seen : List ℕ) (n : ℕ) → apart_from twins seen 0 (n - 0) ≡ apart_from twins seen 0 n
apart_first twins seen n = let e : n - 0 ≡ n = omega arith in ap (apart_from twins seen 0) e

module _ (twins seen : List ℕ) (a n : ℕ) {r : Bool} (h : apart_from twins seen a (n - a) ≡ r) where
  pub apart_done : n ≤ a → true ≡ r
  unfolding apart_from
  apart_done l = let none : n - a ≡ 0 = omega arith in sym (ap (apart_from twins seen a) none) ∙ h

  module _ (l : a < n) {i w b s : ℕ} (ei : i ≡ a + 1) (ew : w ≡ word twins i) (eb : b ≡ w) (es : s ≡ word seen b) where
    abbrev at : b ≡ word twins (a + 1)
    at = eb ∙ ew ∙ ap (word twins) ei

    abbrev turn : apart_from twins seen a (suc (n - (a + 1))) ≡ r
    turn = let one : n - a ≡ suc (n - (a + 1)) = omega arith in sym (ap (apart_from twins seen a) one) ∙ h

    pub apart_twice : (s ≡ 0 → ⊥) → false ≡ r
    unfolding apart_from
    apart_twice d =
        let z = ne_eqb (word seen (word twins (a + 1))) 0 (λ q. d (es ∙ ap (word seen) at ∙ q)) in rw (z, apart_from) at turn

    pub apart_more : {u : List ℕ} → s ≡ 0 → u ≡ set seen b 1 → apart_from twins u (a + 1) (n - (a + 1)) ≡ r
    unfolding apart_from
    apart_more e eu =
        let z = eq-eqb (word seen (word twins (a + 1))) 0 (sym (es ∙ ap (word seen) at) ∙ e) in
        ap (λ u. apart_from twins u (a + 1) (n - (a + 1))) (eu ∙ ap (λ b. set seen b 1) at) ∙ (rw (z, apart_from) at turn)

-- two heads
module _ (x y : List ℕ) {b : Bool} (e : b ≡ alike x 0 y 0 6) where
  pub head_fails : not b ≡ true → false ≡ same_head x y
  unfolding same_head
  head_fails h = rw (failed e h, same_head)

  pub head_rest : {c d : ℕ} → not b ≡ false → c ≡ word x 7 → d ≡ word y 7 → eqb c d ≡ same_head x y
  unfolding same_head
  head_rest h ec ed = rw (passed e h, same_head) (ap₂ eqb ec ed)

-- two trees, test by test
abbrev none : List ℕ
none = replicate 4097 0

module _ (x y : List ℕ) {t : List ℕ} {n : ℕ} {b : Bool} (et : t ≡ (paired_all x y (both none none)).twins) (en : n ≡ word x 4)
    (eb : b ≡ apart_from t none 0 n) where
  abbrev single : b ≡ apart_from (paired_all x y (both none none)).twins none 0 (word x 4)
  single = eb ∙ ap₂ (λ t n. apart_from t none 0 n) et en

  pub tree_twice : not b ≡ true → false ≡ same_tree x y
  unfolding same_tree
  tree_twice h = rw (failed single h, same_tree)

  module _ (h : not b ≡ false) {c : Bool} (ec : c ≡ same_head x y) where
    pub tree_head : not c ≡ true → false ≡ same_tree x y
    unfolding same_tree
    tree_head i = rw (passed single h, failed ec i, same_tree)

    pub tree_nodes : {d : Bool} → not c ≡ false → d ≡ every (word x 4) (λ a. same_node x y t (a + 1)) → d ≡ same_tree x y
    unfolding same_tree
    tree_nodes i e =
        rw (passed single h, passed ec i, same_tree) (e ∙ ap (λ t. every (word x 4) (λ a. same_node x y t (a + 1))) et)
