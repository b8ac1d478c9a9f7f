-- The run rule and tries. In a trie's array the run around an index is the run of the index's own bits, as a key. Conversely an array that
-- keeps the rule is constant where its first depth is that of the root, and is otherwise two halves that keep the rule one bit further
-- down.
use mathlib.Core.Path.{◌≡◌, sym, ap, ap₂, ◌∙◌}
use mathlib.Core.List.{List, ◌++◌}
use Prim.Native.Nat.{ℕ, zero, suc, ◌+◌, ◌-◌, ◌*◌, ◌/◌, ◌%◌, ◌^◌, ◌≤◌, ◌<◌}
use native.Mathlib.Nat.{le_trans, zero-add, div-eq_of_lt, mod-lt, zero-div}
use native.Mathlib.Decide.{dec_lt}
use native.Mathlib.Omega.{arith}
use lib.ListN.{length, get_or, take, drop, length-drop, take-append-drop, get_or-replicate}
use lib.Seq.{ext_get_or, get_or-take, get_or-drop, length-take-le}
use lib.Pow.{pow_pos, split}
use Rattle.lists.specs.Bits.{bits, index}
use Rattle.lists.proofs.Powers.{shr_add_le}
use Rattle.lists.proofs.BitLaws.{index_own, index_align}
use Rattle.tree.specs.Trie.{Trie, leaf, fork, Key, height, depth}
use Rattle.tree.specs.Node.{Entry, flatten, RunRule}
use Rattle.tree.specs.NodePromises.{Obeys}
use Rattle.tree.proofs.TrieLaws.{depth_le_height}
use Rattle.tree.proofs.Flatten.{length_flatten, run, entry}

pub flatten_obeys : {A : Type 0} → Obeys A
unfolding RunRule
flatten_obeys H t z fits i q =
    let k : Key = bits H i in
    let e : index H k ≡ i = index_own H i q in
    let f : depth t k ≤ H = le_trans (depth_le_height t k) fits in
    let o : 0 + depth t k ≡ depth t k = zero-add (depth t k) in
    rw (rw (e, o) at (entry H t k 0 f z))
    (f, λ j h. ap (λ n. get_or (flatten H t 0) (n + j) z) (rw e at (index_align k f)) ∙ rw o at (run H t k 0 f z j h))

module _ {A : Type 0} (z : Entry A) where
  abbrev depth_at : List (Entry A) → ℕ → ℕ
  depth_at es i = (get_or es i z).0

  -- the rule at index i of an array whose root has depth d: entries in the aligned run around it are equal
  record Rule (d H : ℕ) (es : List (Entry A)) (i : ℕ) : Type 0 where
    low : d ≤ depth_at es i
    high : depth_at es i ≤ d + H
    same : (j : ℕ) → j < 2 ^ H → j / 2 ^ (d + H - depth_at es i) ≡ i / 2 ^ (d + H - depth_at es i) → get_or es j z ≡ get_or es i z

  -- the first entry has the root's depth: the array is constant
  constant : (H d : ℕ) (es : List (Entry A)) → length es ≡ 2 ^ H → ((i : ℕ) → i < 2 ^ H → Rule d H es i) → depth_at es 0 ≤ d
      → flatten H (leaf (get_or es 0 z).1) d ≡ es
  constant H d es n r p =
      let t : Trie A = leaf (get_or es 0 z).1 in
      let first = r 0 (pow_pos H) in
      let e : depth_at es 0 ≡ d = omega (arith, first.low) in
      let w : d + H - depth_at es 0 ≡ H = omega arith in
      ext_get_or z (flatten H t d) es (length_flatten H t d ∙ sym n)
      (λ i q.
      let q' : i < 2 ^ H = omega (arith, length_flatten H t d) in
      get_or-replicate (2 ^ H) i (d, (get_or es 0 z).1) z q'
      ∙ ap (λ n. (n, (get_or es 0 z).1)) (sym e)
      ∙ sym (first.same i q' (rw w (div-eq_of_lt q' ∙ sym (zero-div (2 ^ H))))))

  -- the first entry is deeper: so is every other, and both halves keep the rule
  module _ (H d : ℕ) (es : List (Entry A)) (r : (i : ℕ) → i < 2 ^ suc H → Rule d (suc H) es i) (q : d < depth_at es 0) where
    deeper : (i : ℕ) → i < 2 ^ suc H → d < depth_at es i
    deeper i p =
        elim (dec_lt d (depth_at es i)) [
          | yes k ↦ k
          | no k ↦
              let s = r i p in
              let w : d + suc H - depth_at es i ≡ suc H = omega (arith, s.low) in
              let e : depth_at es 0 ≡ depth_at es i =
              ap (λ u. u.0) (s.same 0 (pow_pos (suc H)) (rw w (zero-div (2 ^ suc H) ∙ sym (div-eq_of_lt p)))) in
              omega arith
        ]

    left : (i : ℕ) → i < 2 ^ H → Rule (suc d) H (take (2 ^ H) es) i
    left i p =
        let p' : i < 2 ^ suc H = omega arith in
        let s = r i p' in
        let g = get_or-take (2 ^ H) es i z p in
        let e : depth_at (take (2 ^ H) es) i ≡ depth_at es i = ap (λ u. u.0) g in
        let w : suc d + H - depth_at (take (2 ^ H) es) i ≡ d + suc H - depth_at es i = omega arith in
        record {
          low = omega (arith, deeper i p');
          high = omega (arith, s.high);
          same = λ j k c. get_or-take (2 ^ H) es j z k ∙ s.same j (omega arith) (rw w at c) ∙ sym g;
        }

    right : (i : ℕ) → i < 2 ^ H → Rule (suc d) H (drop (2 ^ H) es) i
    right i p =
        let p' : 2 ^ H + i < 2 ^ suc H = omega arith in
        let s = r (2 ^ H + i) p' in
        let g = get_or-drop (2 ^ H) es i z in
        let e : depth_at (drop (2 ^ H) es) i ≡ depth_at es (2 ^ H + i) = ap (λ u. u.0) g in
        let w : suc d + H - depth_at (drop (2 ^ H) es) i ≡ d + suc H - depth_at es (2 ^ H + i) = omega arith in
        let m : d + suc H - depth_at es (2 ^ H + i) ≤ H = omega (arith, deeper (2 ^ H + i) p') in
        record {
          low = omega (arith, deeper (2 ^ H + i) p');
          high = omega (arith, s.high);
          same = λ j k c.
              get_or-drop (2 ^ H) es j z
              ∙ s.same (2 ^ H + j) (omega arith)
              (shr_add_le _ H j m ∙ ap (λ n. 2 ^ (H - (d + suc H - depth_at es (2 ^ H + i))) + n) (rw w at c) ∙ sym (shr_add_le _ H i m))
              ∙ sym g;
        }

  -- so the array is that of a trie, half by half
  trie_from : (H d : ℕ) (es : List (Entry A)) → length es ≡ 2 ^ H → ((i : ℕ) → i < 2 ^ H → Rule d H es i)
      → (t : Trie A) × (height t ≤ H) × (flatten H t d ≡ es)
  trie_from zero d es n r =
      let first = r 0 (pow_pos 0) in
      (leaf (get_or es 0 z).1, omega arith, constant zero d es n r (omega (arith, first.high)))
  trie_from (suc H) d es n r =
      elim (dec_lt d (depth_at es 0)) [
        | no q ↦ (leaf (get_or es 0 z).1, omega arith, constant (suc H) d es n r (omega arith))
        | yes q ↦
            let a = trie_from H (suc d) (take (2 ^ H) es) (length-take-le (2 ^ H) es (omega arith)) (left H d es r q) in
            let b = trie_from H (suc d) (drop (2 ^ H) es) (omega (arith, length-drop (2 ^ H) es)) (right H d es r q) in
            (fork a.0 b.0, omega (arith, a.1, b.1), ap₂ ◌++◌ a.2 b.2 ∙ take-append-drop (2 ^ H) es)
      ]

  -- the rule with quotients, from the rule with starts
  rule : (H : ℕ) (es : List (Entry A)) → RunRule H es z → (i : ℕ) → i < 2 ^ H → Rule 0 H es i
  unfolding RunRule
  rule H es r i p =
      let s = r i p in
      let w : 0 + H - depth_at es i ≡ H - depth_at es i = omega arith in
      let R : ℕ = 2 ^ (H - depth_at es i) in
      record {
        low = omega arith;
        high = omega (arith, s.0);
        same = λ j k c.
            let e : j / R * R ≡ i / R * R = ap (λ n. n * R) (rw w at c) in
            let f : j ≡ i - i % R + j % R = omega (arith, split i (H - depth_at es i), split j (H - depth_at es i)) in
            ap (λ n. get_or es n z) f ∙ s.1 (j % R) (mod-lt j (pow_pos (H - depth_at es i)));
      }

  pub converse : (H : ℕ) (es : List (Entry A)) → length es ≡ 2 ^ H → RunRule H es z
      → (t : Trie A) × (height t ≤ H) × (flatten H t 0 ≡ es)
  converse H es n r = trie_from H 0 es n (rule H es r)
