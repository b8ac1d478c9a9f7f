-- The rule of runs as facts.
-- Arrays and tries: an array keeps the rule and has the largest depth H if and only if it is the array of a trie of height H.
--   RunAt H e k       == the rule of runs at entry k
--   Points low high x == the pointer of the entry x is from low to high
--   Good ..           == what good_runs says, as facts
use Rattle.std.proofs.Common.{◌≡◌, ℕ, zero, suc, ◌+◌, ◌-◌, ◌%◌, ◌^◌, ◌<◌, ◌≤◌, max, true, eqb, get_or, sym, refl, ap, ◌∙◌, subst, ap₂, zero-add, sub-le, arith, ext_get_or, eq-eqb, eqb-true, le-leb, leb-true}
use Rattle.lists.specs.Lists.{greatest, tab}
use Rattle.lists.proofs.Powers.{run_lt}
use Rattle.lists.proofs.Tests.{and_true, every_at, every_of, greatest_first, greatest_ext, length_tab, get_d_tab}
use Rattle.tree.specs.Trie.{Trie, height}
use Rattle.tree.specs.Node.{Entry, flatten, largest, RunRule}
use Rattle.tree.proofs.Flatten.{length_flatten}
use Rattle.tree.proofs.NodePromises.{largest_is, obeys, is_trie}
use Rattle.node.specs.Node.{same_entry, run_rule, good_runs}

-- tests as facts
pub entry_true : (x y : Entry ℕ) → same_entry x y ≡ true → x ≡ y
entry_true x y t =
    let a = and_true (eqb x.0 y.0) (eqb x.1 y.1) t in
    ap₂ (λ h p. (h, p)) (eqb-true x.0 y.0 a.0) (eqb-true x.1 y.1 a.1)

pub true_entry : (x y : Entry ℕ) → x ≡ y → same_entry x y ≡ true
true_entry x y p = rw (p, eq-eqb y.0 y.0 refl, eq-eqb y.1 y.1 refl)

abbrev pub Points : ℕ → ℕ → Entry ℕ → Type 0
Points low high x = (low ≤ x.1) × (x.1 ≤ high)

-- the largest depth of an array
pub largest_tab : {A : Type 0} (n : ℕ) (f : ℕ → Entry A) → largest (tab n f) ≡ greatest n (λ k. (f k).0)
unfolding tab greatest
largest_tab zero f = refl
largest_tab (suc n) f = ap (max (f 0).0) (largest_tab n (λ k. f (suc k))) ∙ sym (greatest_first n (λ k. (f k).0))

module _ (H : ℕ) (e : ℕ → Entry ℕ) where
  abbrev pub RunAt : ℕ → Type 0
  RunAt k = ((e k).0 ≤ H) × ((j : ℕ) → j < 2 ^ (H - (e k).0) → e (k - k % 2 ^ (H - (e k).0) + j) ≡ e k)

  rule_true : run_rule H e ≡ true → (k : ℕ) → k < 2 ^ H → RunAt k
  unfolding run_rule
  rule_true t k h =
      let a = and_true _ _ (every_at (2 ^ H) _ t k h) in
      (leb-true (e k).0 H a.0, λ j q. entry_true _ _ (every_at (2 ^ (H - (e k).0)) _ a.1 j q))

  true_rule : ((k : ℕ) → k < 2 ^ H → RunAt k) → run_rule H e ≡ true
  unfolding run_rule
  true_rule r =
      every_of (2 ^ H) _
      (λ k h. rw (le-leb (e k).0 H (r k h).0) (every_of (2 ^ (H - (e k).0)) _ (λ j q. true_entry _ _ ((r k h).1 j q))))

  -- the rule of an array as a list
  module _ (z : Entry ℕ) where
    inside : (k j : ℕ) → k < 2 ^ H → j < 2 ^ (H - (e k).0)
        → get_or (tab (2 ^ H) e) (k - k % 2 ^ (H - (e k).0) + j) z ≡ e (k - k % 2 ^ (H - (e k).0) + j)
    inside k j h q = get_d_tab (2 ^ H) e _ z (run_lt H (H - (e k).0) k j (sub-le H (e k).0) h q)

    tab_rule : ((k : ℕ) → k < 2 ^ H → RunAt k) → RunRule H (tab (2 ^ H) e) z
    unfolding RunRule
    tab_rule r k h = rw (get_d_tab (2 ^ H) e k z h) ((r k h).0, λ j q. inside k j h q ∙ (r k h).1 j q)

    rule_tab : RunRule H (tab (2 ^ H) e) z → (k : ℕ) → k < 2 ^ H → RunAt k
    unfolding RunRule
    rule_tab r k h =
        let s = rw (get_d_tab (2 ^ H) e k z h) at (r k h) in
        (s.0, λ j q. sym (inside k j h q) ∙ s.1 j q)

module _ (H low high : ℕ) (e : ℕ → Entry ℕ) where
  pub record Good : Type 0 where
    pub rule : (k : ℕ) → k < 2 ^ H → RunAt H e k
    pub pointers : (k : ℕ) → k < 2 ^ H → Points low high (e k)
    pub deepest : greatest (2 ^ H) (λ k. (e k).0) ≡ H

  pub good_facts : good_runs H low high e ≡ true → Good
  unfolding good_runs
  good_facts t =
      let a = and_true _ _ t in
      let b = and_true _ _ a.0 in
      record {
        rule = rule_true H e b.0;
        pointers = λ k h.
            let c = and_true _ _ (every_at (2 ^ H) _ a.1 k h) in
            (leb-true low (e k).1 c.0, leb-true (e k).1 high c.1);
        deepest = eqb-true (greatest (2 ^ H) (λ k. (e k).0)) H b.1;
      }

  pub facts_good : Good → good_runs H low high e ≡ true
  unfolding good_runs
  facts_good g =
      rw (true_rule H e g.rule, eq-eqb (greatest (2 ^ H) (λ k. (e k).0)) H g.deepest)
      (every_of (2 ^ H) _ (λ k h. rw (le-leb low (e k).1 (g.pointers k h).0) (le-leb (e k).1 high (g.pointers k h).1)))

  -- arrays and tries
  pub good_is_trie : good_runs H low high e ≡ true → (t : Trie ℕ) × (height t ≡ H) × (flatten H t 0 ≡ tab (2 ^ H) e)
  good_is_trie t =
      let g = good_facts t in
      is_trie H (tab (2 ^ H) e) (0, 0) (length_tab (2 ^ H) e) (tab_rule H e (0, 0) g.rule) (largest_tab (2 ^ H) e ∙ g.deepest)

  pub trie_is_good : (t : Trie ℕ) → height t ≡ H → ((j : ℕ) → j < 2 ^ H → e j ≡ get_or (flatten H t 0) j (0, 0))
      → ((j : ℕ) → j < 2 ^ H → Points low high (e j)) → good_runs H low high e ≡ true
  trie_is_good t h same points =
      let n = length_flatten H t 0 in
      let fits : height t ≤ H = omega arith in
      let a : flatten H t 0 ≡ tab (2 ^ H) e =
      ext_get_or (0, 0) (flatten H t 0) (tab (2 ^ H) e) (n ∙ sym (length_tab (2 ^ H) e))
      (λ j q. let q' : j < 2 ^ H = omega (arith, n) in sym (same j q') ∙ sym (get_d_tab (2 ^ H) e j (0, 0) q')) in
      facts_good
      (record {
        rule = rule_tab H e (0, 0) (rw a at (obeys H t (0, 0) fits));
        pointers = points;
        deepest = sym (largest_tab (2 ^ H) e) ∙ ap largest (sym a) ∙ largest_is H t 0 fits ∙ zero-add (height t) ∙ h;
      })

-- only the entries below 2^H count
pub good_ext : (H low high : ℕ) (e f : ℕ → Entry ℕ) → ((k : ℕ) → k < 2 ^ H → e k ≡ f k) → good_runs H low high e ≡ true
    → good_runs H low high f ≡ true
good_ext H low high e f same t =
    let g = good_facts H low high e t in
    facts_good H low high f
    (record {
      rule = λ k h.
          let r = g.rule k h in
          subst (λ (x : Entry ℕ). (x.0 ≤ H) × ((j : ℕ) → j < 2 ^ (H - x.0) → f (k - k % 2 ^ (H - x.0) + j) ≡ x)) (same k h)
          (r.0, λ j q. sym (same _ (run_lt H (H - (e k).0) k j (sub-le H (e k).0) h q)) ∙ r.1 j q);
      pointers = λ k h. subst (Points low high) (same k h) (g.pointers k h);
      deepest = sym (greatest_ext (2 ^ H) (λ k. (e k).0) (λ k. (f k).0) (λ k h. ap (λ x. x.0) (same k h))) ∙ g.deepest;
    })
