-- A run covered with its own depth and pointer: a node that keeps the rule stays as it is, word by word.
use mathlib.Core.Path.{◌≡◌, refl, sym, ap, ap₂, ◌∙◌}
use mathlib.Core.Bool.{true}
use mathlib.Core.List.{List, [], ◌∷◌, ◌++◌}
use Prim.Native.Nat.{ℕ, ◌+◌, ◌-◌, ◌*◌, ◌%◌, ◌^◌, ◌≤◌, ◌<◌}
use native.Mathlib.Decide.{dec_le, dec_lt}
use native.Mathlib.Omega.{arith}
use lib.Dec.{eqb}
use lib.ListN.{length, drop, replicate, length-drop, length-replicate, get_or-replicate, take-append-drop}
use lib.Pow.{pow_mono}
use lib.Seq.{ext_get_or, get_or-drop, drop-drop}
use borrow.Author.Tests.{eqb-true}
use Rattle.lists.specs.Lists.{greatest}
use Rattle.lists.proofs.BitLaws.{index_lt}
use Rattle.lists.proofs.Tests.{every_at, greatest_ext}
use Rattle.tree.specs.Trie.{Key}
use Rattle.tree.specs.Node.{Entry}
use Rattle.store.specs.declared.Head.{Head}
use Rattle.store.specs.Head.{word, zeros, node_words}
use Rattle.node.specs.Node.{depth_word, level_word, back_word, forward_word, entry_depth, entry_pointer, entry_of, node_rule, pointer_low, pointer_high}
use Rattle.node.proofs.NodeLaws.{NodeFacts, node_facts}
use Rattle.node.proofs.RunWalk.{Good, good_facts}
use Rattle.split.specs.Block.{block, over_run, number}
use Rattle.split.proofs.ValueLaws.{entries_are}
use Rattle.split.proofs.EntryLaws.{block_entries, over_in, over_below, over_above}
use Rattle.split.proofs.GrowLaws.{block_same}
use Rattle.fuse.specs.Join.{shrunk, cover}

-- words that are zeros to the end
rest_zeros : (ws : List ℕ) (a n : ℕ) → zeros ws a n ≡ true → length ws ≡ a + n → drop a ws ≡ replicate n 0
unfolding zeros
rest_zeros ws a n z long =
    let size : length (drop a ws) ≡ n = omega (arith, length-drop a ws, long) in
    ext_get_or 0 (drop a ws) (replicate n 0) (size ∙ sym (length-replicate n 0))
    (λ i l.
    let l' : i < n = omega (arith, l, size) in
    get_or-drop a ws i 0 ∙ eqb-true _ _ (every_at n (λ j. eqb (word ws (a + j)) 0) z i l') ∙ sym (get_or-replicate n i 0 0 l'))

-- the first four words, and the others
four_and : (ws : List ℕ) → 4 ≤ length ws → depth_word ws 0 ∷ level_word ws 0 ∷ back_word ws 0 ∷ forward_word ws 0 ∷ drop 4 ws ≡ ws
four_and [] h = absurd (omega arith)
four_and (a ∷ []) h = absurd (omega arith)
four_and (a ∷ b ∷ []) h = absurd (omega arith)
four_and (a ∷ b ∷ c ∷ []) h = absurd (omega arith)
four_and (a ∷ b ∷ c ∷ d ∷ ws) h = refl

-- words with zeros behind the entries in use are the block of their entries
own_block : (θ : ℕ) (ws : List ℕ) → length ws ≡ node_words θ → depth_word ws 0 ≤ θ
    → zeros ws (0 + 4 + 2 * 2 ^ depth_word ws 0) (2 * (2 ^ θ - 2 ^ depth_word ws 0)) ≡ true
    → block θ (depth_word ws 0) (level_word ws 0) (back_word ws 0) (forward_word ws 0) (entry_of ws 0) ≡ ws
unfolding block node_words
own_block θ ws long low z =
    let H : ℕ = depth_word ws 0 in
    let n : ℕ = 2 ^ H in
    let fits : n ≤ 2 ^ θ = pow_mono {i = H} {j = θ} low in
    let rest : drop (2 * n) (drop 4 ws) ≡ replicate (2 * (2 ^ θ - n)) 0 =
    drop-drop (2 * n) 4 ws ∙ rest_zeros ws (0 + 4 + 2 * n) (2 * (2 ^ θ - n)) z (omega (arith, long, fits)) in
    ap (λ l. H ∷ level_word ws 0 ∷ back_word ws 0 ∷ forward_word ws 0 ∷ l)
    (block_entries θ H (entry_of ws 0) low
    ∙ ap₂ (λ x y. x ++ y) (sym (entries_are n ws (omega (arith, long, fits)))) (sym rest)
    ∙ take-append-drop (2 * n) (drop 4 ws))
    ∙ four_and ws (omega (arith, long))

-- the key's own run written again
module _ (h : Head) (ws : List ℕ) (level : ℕ) (k : Key) (rule : node_rule h ws 0 level ≡ true) where
  abbrev H : ℕ
  H = depth_word ws 0

  abbrev i : ℕ
  i = number ws k

  abbrev d : ℕ
  d = entry_depth ws 0 i

  abbrev q : ℕ
  q = entry_pointer ws 0 i

  abbrev n : ℕ
  n = 2 ^ (H - d)

  abbrev e : ℕ → Entry ℕ
  e = over_run n i (λ j. (d, q)) (entry_of ws 0)

  facts : NodeFacts h ws 0 level
  facts = node_facts h ws 0 level rule

  good : Good H (pointer_low level) (pointer_high h level) (entry_of ws 0)
  good = good_facts _ _ _ _ facts.runs

  entry_stays : (j : ℕ) → j < 2 ^ H → e j ≡ entry_of ws 0 j
  entry_stays j l =
      elim (dec_le (i - i % n) j) [
        | no a ↦ over_below n i (λ j. (d, q)) (entry_of ws 0) j (omega arith)
        | yes a ↦
            elim (dec_lt j (i - i % n + n)) [
              | yes b ↦
                  let there : i - i % n + (j - (i - i % n)) ≡ j = omega arith in
                  over_in n i (λ j. (d, q)) (entry_of ws 0) j a b
                  ∙ sym ((good.rule i (index_lt H k)).1 (j - (i - i % n)) (omega arith))
                  ∙ ap (entry_of ws 0) there
              | no b ↦ over_above n i (λ j. (d, q)) (entry_of ws 0) j (omega arith)
            ]
      ]

  depth_stays : greatest (2 ^ H) (λ j. (e j).0) ≡ H
  depth_stays = greatest_ext (2 ^ H) (λ j. (e j).0) (entry_depth ws 0) (λ j l. ap (λ x. x.0) (entry_stays j l)) ∙ good.deepest

  pub cover_own : length ws ≡ node_words h.theta → cover h.theta ws k d q ≡ ws
  unfolding cover shrunk
  cover_own long =
      let G : ℕ = greatest (2 ^ H) (λ j. (e j).0) in
      let none : (j : ℕ) → j * 2 ^ (H - G) ≡ j =
      λ j. ap (λ x. j * 2 ^ (H - x)) depth_stays ∙ ap (λ x. j * 2 ^ x) (let z : H - H ≡ 0 = omega arith in z) ∙ omega arith in
      block_same h.theta (level_word ws 0) (back_word ws 0) (forward_word ws 0) (λ j. e (j * 2 ^ (H - G))) (entry_of ws 0) depth_stays
      (λ j l. ap e (none j) ∙ entry_stays j l)
      ∙ own_block h.theta ws long facts.depth facts.rest
