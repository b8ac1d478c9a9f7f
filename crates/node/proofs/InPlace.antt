-- A node's block read by itself is the node in its store: words, entries and the rule of a visited one.
use Rattle.std.proofs.Common.{◌≡◌, ℕ, ◌+◌, ◌-◌, ◌*◌, ◌^◌, ◌<◌, true, eqb, List, sym, ap, ◌∙◌, ap₂, add-zero, zero-add, arith, pow_pos, pow_mono}
use Rattle.lists.proofs.Tests.{same_test, every_ext}
use Rattle.store.specs.declared.Format.{Format}
use Rattle.store.specs.declared.Head.{Head}
use Rattle.store.specs.Head.{word, zeros, node_words, node_start, node_at, Under, InUse}
use Rattle.store.proofs.Places.{node_word_lem}
use Rattle.node.specs.Node.{depth_word, back_word, forward_word, entry_depth, entry_pointer, entry_of, link_rule}
use Rattle.node.specs.Node.{pointer_low, pointer_high, good_runs, node_rule}
use Rattle.node.proofs.RunWalk.{good_ext}
use Rattle.node.proofs.NodeLaws.{node_facts, facts_node}

-- zeros at two places with the same words
zeros_moved : (ws vs : List ℕ) (a b n : ℕ) → ((j : ℕ) → j < n → word ws (a + j) ≡ word vs (b + j)) → zeros ws a n ≡ zeros vs b n
unfolding zeros
zeros_moved ws vs a b n same = every_ext n _ _ (λ j h. ap (λ (x : ℕ). eqb x 0) (same j h))

-- the rule holds at each place with the words of a block that keeps it
module _ (h : Head) (ws vs : List ℕ) (a b : ℕ) (same : (j : ℕ) → j < node_words h.theta → word ws (a + j) ≡ word vs (b + j)) where
  same_at : {i j k : ℕ} → k < node_words h.theta → i ≡ a + k → j ≡ b + k → word ws i ≡ word vs j
  same_at {k = k} l p q = ap (word ws) p ∙ same k l ∙ ap (word vs) (sym q)

  entries_same : (k : ℕ) → k < 2 ^ h.theta → entry_of ws a k ≡ entry_of vs b k
  unfolding node_words
  entries_same k l =
      ap₂ (λ x y. (x, y)) (same_at {k = 4 + 2 * k} (omega arith) (omega arith) (omega arith))
      (same_at {k = 5 + 2 * k} (omega arith) (omega arith) (omega arith))

  pub rule_moved : (level : ℕ) → node_rule h ws a level ≡ true → node_rule h vs b level ≡ true
  unfolding node_words
  rule_moved level t =
      let N = node_facts h ws a level t in
      let z = pow_pos h.theta in
      let d : depth_word ws a ≡ depth_word vs b = same_at {k = 0} (omega arith) (sym (add-zero a)) (sym (add-zero b)) in
      let m = pow_mono N.depth in
      facts_node h vs b level
      (record {
        depth = omega (arith, N.depth, d);
        level_is = sym (same 1 (omega arith)) ∙ N.level_is;
        links = ap₂ (link_rule h level) (sym (same 2 (omega arith))) (sym (same 3 (omega arith))) ∙ N.links;
        runs =
            ap (λ H. good_runs H (pointer_low level) (pointer_high h level) (entry_of vs b)) (sym d)
            ∙ good_ext _ _ _ (entry_of ws a) (entry_of vs b) (λ k l. entries_same k (omega arith)) N.runs;
        rest =
            ap (λ H. zeros vs (b + 4 + 2 * 2 ^ H) (2 * (2 ^ h.theta - 2 ^ H))) (sym d)
            ∙ sym
            (zeros_moved ws vs _ _ _
            (λ j l. same_at {k = 4 + 2 * 2 ^ depth_word ws a + j} (omega arith) (omega arith) (omega arith)))
            ∙ N.rest;
      })

module _ {f : Format} {s : List ℕ} {h : Head} {n : ℕ} (u : Under f s h) (i : InUse h n) where
  pub rule_in_place : (level : ℕ) → node_rule h (node_at s h n) 0 level ≡ node_rule h s (node_start h n) level
  rule_in_place level =
      let same : (j : ℕ) → j < node_words h.theta → word (node_at s h n) (0 + j) ≡ word s (node_start h n + j) =
      λ j l. ap (word (node_at s h n)) (zero-add j) ∙ node_word_lem u i j l in
      same_test _ _ (rule_moved h (node_at s h n) s 0 (node_start h n) same level)
      (rule_moved h s (node_at s h n) (node_start h n) 0 (λ j l. sym (same j l)) level)

  pub depth_in_place : word (node_at s h n) 0 ≡ depth_word s (node_start h n)
  unfolding node_words
  depth_in_place = node_word_lem u i 0 (omega arith) ∙ ap (word s) (add-zero (node_start h n))

  pub back_in_place : word (node_at s h n) 2 ≡ back_word s (node_start h n)
  unfolding node_words
  back_in_place = node_word_lem u i 2 (omega arith)

  pub forward_in_place : word (node_at s h n) 3 ≡ forward_word s (node_start h n)
  unfolding node_words
  forward_in_place = node_word_lem u i 3 (omega arith)

  pub entry_in_place : (j : ℕ) → j < 2 ^ h.theta
      → (word (node_at s h n) (4 + 2 * j) ≡ entry_depth s (node_start h n) j)
      × (word (node_at s h n) (5 + 2 * j) ≡ entry_pointer s (node_start h n) j)
  unfolding node_words
  entry_in_place j l =
      let p : node_start h n + (4 + 2 * j) ≡ node_start h n + 4 + 2 * j = omega arith in
      let q : node_start h n + (5 + 2 * j) ≡ node_start h n + 5 + 2 * j = omega arith in
      (node_word_lem u i (4 + 2 * j) (omega arith) ∙ ap (word s) p, node_word_lem u i (5 + 2 * j) (omega arith) ∙ ap (word s) q)
