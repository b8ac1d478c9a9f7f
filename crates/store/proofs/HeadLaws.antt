-- The head rule, test by test: what a row of tests comes to, and what a head that keeps the rule has.
use mathlib.Core.Path.{◌≡◌, refl, sym, ◌∙◌}
use mathlib.Core.Bool.{Bool, true, false, ◌&&◌}
use mathlib.Core.List.{List, []}
use Prim.Native.Nat.{ℕ, ◌+◌, ◌-◌, ◌*◌, ◌/◌, ◌≤◌, ◌<◌}
use native.Mathlib.Nat.{div-le_of_le-mul}
use native.Mathlib.Omega.{arith}
use native.Mathlib.Decide.{dec_le}
use lib.Dec.{leb, eqb}
use lib.ListN.{length, take, drop}
use borrow.Author.Tests.{leb-true, le-leb, ltb-true, lt-ltb, eqb-true, eq-eqb, ne_eqb}
use Rattle.lists.proofs.Parts.{part_in_lem, part_out}
use Rattle.lists.proofs.Tests.{untrue, and_true}
use Rattle.tree.specs.Book.{log2, level_bound}
use Rattle.tree.proofs.BuildLaws.{same_true}
use Rattle.store.specs.declared.Format.{Format}
use Rattle.store.specs.declared.Format.TheVariants.{Plots}
use Rattle.store.specs.declared.Head.{Head}
use Rattle.store.specs.declared.Released.{Released}
use Rattle.store.specs.Format.{width, words}
use Rattle.store.specs.Head.{largest_capacity, zeros, head_of, node_words, page_words, size, node_start, page_start, page_at}
use Rattle.store.specs.Head.{lawful_sizes, lawful_counts, released_of, named, lawful_released, head_rule}

-- what the code computes is what the definitions name
pub level_bound_is : (w l W θ C : ℕ) → w ≡ W → l ≡ log2 C → (w - l + (θ - 1)) / θ ≡ level_bound W θ C
unfolding level_bound
level_bound_is w l W θ C p q = rw (p, q)

pub page_words_is : (f : Format) (a b C : ℕ) → a ≡ words f → b ≡ C → 1 + a * b ≡ page_words f C
unfolding page_words
page_words_is f a b C p q = rw (p, q)

pub size_is : (f : Format) (θ C N P a b c d : ℕ) → a ≡ N → b ≡ node_words θ → c ≡ P → d ≡ page_words f C
    → 16 + a * b + c * d ≡ size f θ C N P
unfolding size
size_is f θ C N P a b c d p q r t = rw (p, q, r, t)

pub size_head : (f : Format) (θ C N P : ℕ) → 16 ≤ size f θ C N P
unfolding size
size_head f θ C N P = omega arith

pub node_start_is : (h : Head) (n a b : ℕ) → a ≡ n - 1 → b ≡ node_words h.theta → 16 + a * b ≡ node_start h n
unfolding node_start
node_start_is h n a b p q = rw (p, q)

pub page_start_is : (f : Format) (h : Head) (p a b c d : ℕ) → a ≡ h.node_blocks → b ≡ node_words h.theta
    → c ≡ p - 1 → d ≡ page_words f h.capacity → 16 + a * b + c * d ≡ page_start f h p
unfolding page_start
page_start_is f h p a b c d i j k l = rw (i, j, k, l)

pub counts_are : (f : Format) (h : Head) (a b c d e g i : Bool) → a ≡ leb 1 h.nodes_taken → b ≡ leb h.nodes_taken h.node_blocks
    → c ≡ leb h.pages_taken h.page_blocks → d ≡ leb 1 h.root → e ≡ leb h.root h.nodes_taken → g ≡ leb 1 h.levels
    → i ≡ leb h.levels (level_bound (width f) h.theta h.capacity) → (a && b && c && d && e && g && i) ≡ lawful_counts f h
unfolding lawful_counts
counts_are f h a b c d e g i p q r t u v w = rw (p, q, r, t, u, v, w)

pub rule_is : (f : Format) (s : List ℕ) (h : Head) (a b c d g : Bool) → h ≡ head_of s
    → a ≡ lawful_sizes h.theta h.capacity h.node_blocks h.page_blocks → b ≡ zeros s 12 4
    → c ≡ leb (size f h.theta h.capacity h.node_blocks h.page_blocks) (length s) → d ≡ lawful_counts f h
    → g ≡ lawful_released h (released_of s)
    → (a && b && c && d && g) ≡ head_rule f s
unfolding head_rule
rule_is f s h a b c d g e p q r t u = rw (p, q, r, t, u, e)

-- the name of a chain, as facts
pub record Named (name count taken : ℕ) : Type 0 where
  pub within : name ≤ taken
  pub some : 1 ≤ count → 1 ≤ name
  pub none : count ≡ 0 → name ≡ 0

pub named_facts : (name count taken : ℕ) → named name count taken ≡ true → Named name count taken
unfolding named
named_facts name count taken e =
    let a = and_true _ _ e in
    let b = same_true (eqb name 0) (eqb count 0) a.1 in
    record {
      within = leb-true _ _ a.0;
      some = λ l.
          elim (dec_le 1 name) [
            | yes p ↦ p
            | no p ↦ absurd (omega (arith, eqb-true count 0 (b ∙ eq-eqb name 0 (omega arith))))
          ];
      none = λ z. eqb-true name 0 (sym b ∙ eq-eqb count 0 z);
    }

pub named_of : (name count taken : ℕ) → Named name count taken → named name count taken ≡ true
unfolding named
named_of name count taken n =
    elim (dec_le 1 count) [
      | yes p ↦ rw (le-leb _ _ n.within, ne_eqb name 0 (λ z. omega (arith, n.some p)), ne_eqb count 0 (λ z. omega arith))
      | no p ↦
          let z : count ≡ 0 = omega arith in
          rw (le-leb _ _ n.within, eq-eqb name 0 (n.none z), eq-eqb count 0 z)
    ]

and_false : (b : Bool) → false ≡ (b && false)
and_false true = refl
and_false false = refl

and_true_right : (b : Bool) → b ≡ (b && true)
and_true_right true = refl
and_true_right false = refl

-- the two cases of a count
pub named_none : (name count taken : ℕ) → count ≡ 0 → eqb name 0 ≡ named name count taken
unfolding named
named_none name count taken z =
    elim (dec_le 1 name) [
      | yes p ↦ rw (ne_eqb name 0 (λ e. omega arith), eq-eqb count 0 z) (and_false (leb name taken))
      | no p ↦ let e : name ≡ 0 = omega arith in rw (eq-eqb name 0 e, eq-eqb count 0 z, le-leb name taken (omega arith))
    ]

pub named_some : (name count taken : ℕ) → 1 ≤ count → 1 ≤ name → leb name taken ≡ named name count taken
unfolding named
named_some name count taken p q = rw (ne_eqb name 0 (λ e. omega arith), ne_eqb count 0 (λ e. omega arith)) (and_true_right (leb name taken))

-- the names and counts of released blocks, as facts
pub record Chains (h : Head) (r : Released) : Type 0 where
  pub nodes : r.nodes < h.nodes_taken
  pub pages : r.pages ≤ h.pages_taken
  pub node : Named r.node r.nodes h.nodes_taken
  pub page : Named r.page r.pages h.pages_taken

pub released_facts : (h : Head) (r : Released) → lawful_released h r ≡ true → Chains h r
unfolding lawful_released
released_facts h r e =
    let a = and_true _ _ e in
    let b = and_true _ _ a.0 in
    let c = and_true _ _ b.0 in
    record {
      nodes = ltb-true _ _ c.0;
      pages = leb-true _ _ c.1;
      node = named_facts _ _ _ b.1;
      page = named_facts _ _ _ a.1;
    }

pub released_of_lem : (h : Head) (r : Released) → Chains h r → lawful_released h r ≡ true
unfolding lawful_released
released_of_lem h r c = rw (lt-ltb _ _ c.nodes, le-leb _ _ c.pages, named_of _ _ _ c.node, named_of _ _ _ c.page)

-- where all tests but the last hold, the last decides
pub released_last : (h : Head) (r : Released) (b : Bool) → r.nodes < h.nodes_taken → r.pages ≤ h.pages_taken
    → named r.node r.nodes h.nodes_taken ≡ true → b ≡ named r.page r.pages h.pages_taken → b ≡ lawful_released h r
unfolding lawful_released
released_last h r b p q n e = e ∙ rw (lt-ltb _ _ p, le-leb _ _ q, n)

-- limits as facts
pub record Limits (θ C N P : ℕ) : Type 0 where
  pub theta_low : 1 ≤ θ
  pub theta : θ ≤ 6
  pub capacity_low : 1 ≤ C
  pub capacity : C ≤ largest_capacity
  pub nodes_low : 1 ≤ N
  pub nodes : N ≤ 4096
  pub pages_low : 1 ≤ P
  pub pages : P ≤ 4096

pub sizes_limits : (θ C N P : ℕ) → lawful_sizes θ C N P ≡ true → Limits θ C N P
unfolding lawful_sizes
sizes_limits θ C N P e =
    let a = and_true _ _ e in
    let b = and_true _ _ a.0 in
    let c = and_true _ _ b.0 in
    let d = and_true _ _ c.0 in
    let g = and_true _ _ d.0 in
    let h = and_true _ _ g.0 in
    let i = and_true _ _ h.0 in
    record {
      theta_low = leb-true _ _ i.0;
      theta = leb-true _ _ i.1;
      capacity_low = leb-true _ _ h.1;
      capacity = leb-true _ _ g.1;
      nodes_low = leb-true _ _ d.1;
      nodes = leb-true _ _ c.1;
      pages_low = leb-true _ _ b.1;
      pages = leb-true _ _ a.1;
    }

-- where all tests but the last hold, the last decides
pub sizes_last : (θ C N P : ℕ) → (1 ≤ θ) × (θ ≤ 6) × (1 ≤ C) × (C ≤ largest_capacity) × (1 ≤ N) × (N ≤ 4096) × (1 ≤ P)
    → leb P 4096 ≡ lawful_sizes θ C N P
unfolding lawful_sizes
sizes_last θ C N P l =
    simp
    (le-leb _ _ l.0, le-leb _ _ l.1, le-leb _ _ l.2, le-leb _ _ l.3, le-leb _ _ l.4, le-leb _ _ l.5, le-leb _ _ l.6)

pub width_within : (f : Format) → width f ≤ 32
unfolding width
width_within Plots = omega arith

-- a lawful head has at most 32 levels
pub levels_within : (f : Format) (θ C : ℕ) → 1 ≤ θ → level_bound (width f) θ C ≤ 32
unfolding level_bound width
levels_within Plots θ C low = div-le_of_le-mul θ (omega arith)

pub record Counts (f : Format) (h : Head) : Type 0 where
  pub taken_low : 1 ≤ h.nodes_taken
  pub taken : h.nodes_taken ≤ h.node_blocks
  pub filled : h.pages_taken ≤ h.page_blocks
  pub root_low : 1 ≤ h.root
  pub root : h.root ≤ h.nodes_taken
  pub levels_low : 1 ≤ h.levels
  pub levels : h.levels ≤ level_bound (width f) h.theta h.capacity

pub counts_facts : (f : Format) (h : Head) → lawful_counts f h ≡ true → Counts f h
unfolding lawful_counts
counts_facts f h e =
    let a = and_true _ _ e in
    let b = and_true _ _ a.0 in
    let c = and_true _ _ b.0 in
    let d = and_true _ _ c.0 in
    let g = and_true _ _ d.0 in
    let i = and_true _ _ g.0 in
    record {
      taken_low = leb-true _ _ i.0;
      taken = leb-true _ _ i.1;
      filled = leb-true _ _ g.1;
      root_low = leb-true _ _ d.1;
      root = leb-true _ _ c.1;
      levels_low = leb-true _ _ b.1;
      levels = leb-true _ _ a.1;
    }

pub counts_last : (f : Format) (h : Head) (l : ℕ) → (1 ≤ h.nodes_taken) × (h.nodes_taken ≤ h.node_blocks)
    × (h.pages_taken ≤ h.page_blocks) × (1 ≤ h.root) × (h.root ≤ h.nodes_taken) × (1 ≤ h.levels)
    → l ≡ level_bound (width f) h.theta h.capacity → leb h.levels l ≡ lawful_counts f h
unfolding lawful_counts
counts_last f h l t e =
    simp (le-leb _ _ t.0, le-leb _ _ t.1, le-leb _ _ t.2, le-leb _ _ t.3, le-leb _ _ t.4, le-leb _ _ t.5, e)

-- what a store that keeps the head rule has
pub record Headed (f : Format) (s : List ℕ) : Type 0 where
  pub limits : Limits (head_of s).theta (head_of s).capacity (head_of s).node_blocks (head_of s).page_blocks
  pub counts : Counts f (head_of s)
  pub room : size f (head_of s).theta (head_of s).capacity (head_of s).node_blocks (head_of s).page_blocks ≤ length s
  pub chains : Chains (head_of s) (released_of s)

pub head_facts : (f : Format) (s : List ℕ) → head_rule f s ≡ true → Headed f s
unfolding head_rule
head_facts f s e =
    let z = and_true _ _ e in
    let a = and_true _ _ z.0 in
    let b = and_true _ _ a.0 in
    let c = and_true _ _ b.0 in
    record {
      limits = sizes_limits _ _ _ _ c.0;
      counts = counts_facts f (head_of s) a.1;
      room = leb-true _ _ b.1;
      chains = released_facts (head_of s) (released_of s) z.1;
    }

-- a store that keeps the rule has its head
pub head_whole : (f : Format) (s : List ℕ) → head_rule f s ≡ true → 16 ≤ length s
head_whole f s e =
    let h = head_of s in omega (arith, (head_facts f s e).room, size_head f h.theta h.capacity h.node_blocks h.page_blocks)

pub head_long : (f : Format) (s : List ℕ) → head_rule f s ≡ true → 8 ≤ length s
head_long f s e = omega (arith, head_whole f s e)

-- a store shorter than the head's sizes ask
pub rule_short : (f : Format) (s : List ℕ) (h : Head) → h ≡ head_of s
    → length s < size f h.theta h.capacity h.node_blocks h.page_blocks → false ≡ head_rule f s
rule_short f s h e l = untrue (λ t. omega (arith, (head_facts f s t).room, rw e at l))

pub page_given : (f : Format) (s : List ℕ) (h : Head) (p a w : ℕ) → a ≡ page_start f h p → w ≡ page_words f h.capacity
    → a + w ≤ length s → take (a + w - a) (drop a s) ≡ page_at f s h p
unfolding page_at
page_given f s h p a w i j l =
    let e : a + w - a ≡ w = omega arith in
    rw (e, ← i, ← j) (sym (part_in_lem s a w l))

pub page_none : (f : Format) (s : List ℕ) (h : Head) (p a w : ℕ) → a ≡ page_start f h p → w ≡ page_words f h.capacity
    → length s < a + w → [] ≡ page_at f s h p
unfolding page_at
page_none f s h p a w i j l = rw (← i, ← j) (sym (part_out s a w l))
