-- An array is its runs one after the other, and each starts at a multiple of its length; so the start and the end of the run around an
-- index follow from the index and the depth that stands there.
--   spread H es == the runs es written out, each 2^(H−h) times
use mathlib.Core.Path.{◌≡◌, refl, sym, ap, ap₂, ◌∙◌}
use mathlib.Core.List.{List, [], ◌∷◌, ◌++◌, append_assoc, append-nil}
use Prim.Native.Nat.{ℕ, zero, suc, ◌+◌, ◌-◌, ◌*◌, ◌%◌, ◌^◌, ◌≤◌, ◌<◌}
use native.Mathlib.Nat.{zero-add, zero-mul}
use native.Mathlib.Decide.{dec_lt}
use native.Mathlib.Omega.{arith}
use lib.ListN.{length, get_or, replicate, length-append, length-replicate, get_or-replicate, get_or-append}
use lib.Pow.{low}
use Rattle.lists.proofs.Powers.{pow_join}
use Rattle.lists.proofs.Parts.{get_d_past}
use Rattle.tree.specs.Trie.{Trie, leaf, fork, height}
use Rattle.tree.specs.Node.{Entry, flatten, runs, begin}
use Rattle.tree.specs.NodePromises.{Steps}
use Rattle.tree.proofs.Flatten.{length_flatten}

module _ {A : Type 0} where
  abbrev pub spread : ℕ → List (Entry A) → List (Entry A)
  spread H [] = []
  spread H (e ∷ es) = replicate (2 ^ (H - e.0)) e ++ spread H es

  spread_append : (H : ℕ) (a b : List (Entry A)) → spread H (a ++ b) ≡ spread H a ++ spread H b
  spread_append H [] b = refl
  spread_append H (e ∷ a) b =
      ap (λ l. replicate (2 ^ (H - e.0)) e ++ l) (spread_append H a b)
      ∙ sym (append_assoc (replicate (2 ^ (H - e.0)) e) (spread H a) (spread H b))

  -- where the root has depth d, a run of depth h has 2^(d + H − h) entries
  pub flatten_spread : (H N : ℕ) (t : Trie A) (d : ℕ) → height t ≤ H → N ≡ d + H → flatten H t d ≡ spread N (runs t d)
  flatten_spread H N (leaf x) d p e =
      let w : H ≡ N - d = omega arith in
      ap (λ n. replicate (2 ^ n) (d, x)) w ∙ sym (append-nil (replicate (2 ^ (N - d)) (d, x)))
  flatten_spread zero N (fork l r) d p e = absurd (omega arith)
  flatten_spread (suc H) N (fork l r) d p e =
      ap₂ ◌++◌ (flatten_spread H N l (suc d) (omega arith) (omega arith)) (flatten_spread H N r (suc d) (omega arith) (omega arith))
      ∙ sym (spread_append N (runs l (suc d)) (runs r (suc d)))

  -- where runs start
  begin_suc : (H : ℕ) (es : List (Entry A)) (z : Entry A) (n : ℕ) → n < length es
      → begin H es (suc n) ≡ begin H es n + 2 ^ (H - (get_or es n z).0)
  begin_suc H [] z n h = absurd (omega arith)
  begin_suc H (e ∷ es) z zero h = omega arith
  begin_suc H (e ∷ es) z (suc n) h = omega (arith, begin_suc H es z n (omega arith))

  begin_length : (H : ℕ) (es : List (Entry A)) → begin H es (length es) ≡ length (spread H es)
  begin_length H [] = refl
  begin_length H (e ∷ es) =
      omega (arith, begin_length H es, length-append (replicate (2 ^ (H - e.0)) e) (spread H es), length-replicate (2 ^ (H - e.0)) e)

  begin_left : (H : ℕ) (a b : List (Entry A)) (n : ℕ) → n ≤ length a → begin H (a ++ b) n ≡ begin H a n
  begin_left H a b zero h = refl
  begin_left H [] b (suc n) h = absurd (omega arith)
  begin_left H (e ∷ a) b (suc n) h = omega (arith, begin_left H a b n (omega arith))

  begin_right : (H : ℕ) (a b : List (Entry A)) (n i : ℕ) → n ≡ length a + i → begin H (a ++ b) n ≡ begin H a (length a) + begin H b i
  begin_right H [] b n i q = rw (q, zero-add i) (omega arith)
  begin_right H (e ∷ a) b zero i q = absurd (omega arith)
  begin_right H (e ∷ a) b (suc n) i q = omega (arith, begin_right H a b n i (omega arith))

  -- the last run ends where the array does
  pub begin_end : (H N : ℕ) (t : Trie A) (d : ℕ) → height t ≤ H → N ≡ d + H → begin N (runs t d) (length (runs t d)) ≡ 2 ^ H
  begin_end H N t d p e = begin_length N (runs t d) ∙ ap length (sym (flatten_spread H N t d p e)) ∙ length_flatten H t d

  -- what stands in run number n
  spread_run : (H : ℕ) (es : List (Entry A)) (z : Entry A) (n k : ℕ) → n < length es → k < 2 ^ (H - (get_or es n z).0)
      → get_or (spread H es) (begin H es n + k) z ≡ get_or es n z
  spread_run H [] z n k h q = absurd (omega arith)
  spread_run H (e ∷ es) z zero k h q =
      rw zero-add
      (get_or-append (replicate (2 ^ (H - e.0)) e) (spread H es) z k (omega (arith, length-replicate (2 ^ (H - e.0)) e))
      ∙ get_or-replicate (2 ^ (H - e.0)) k e z q)
  spread_run H (e ∷ es) z (suc n) k h q =
      get_d_past (replicate (2 ^ (H - e.0)) e) (spread H es) z (begin H es n + k) (omega (arith, length-replicate (2 ^ (H - e.0)) e))
      ∙ spread_run H es z n k (omega arith) q

  -- every start is a multiple of its run's length
  aligned : (H N : ℕ) (t : Trie A) (d : ℕ) (z : Entry A) (n : ℕ) → height t ≤ H → N ≡ d + H → n < length (runs t d)
      → (d ≤ (get_or (runs t d) n z).0)
      × ((q : ℕ) × (begin N (runs t d) n ≡ q * 2 ^ (N - (get_or (runs t d) n z).0)))
  aligned H N (leaf x) d z zero p e h = (omega arith, (0, sym (zero-mul (2 ^ (N - d)))))
  aligned H N (leaf x) d z (suc n) p e h = absurd (omega arith)
  aligned zero N (fork l r) d z n p e h = absurd (omega arith)
  aligned (suc H) N (fork l r) d z n p e h =
      let a = runs l (suc d) in
      let b = runs r (suc d) in
      elim (dec_lt n (length a)) [
        | yes k ↦
            let v = aligned H N l (suc d) z n (omega arith) (omega arith) k in
            rw (get_or-append a b z n k) (omega (arith, v.0), (v.1.0, begin_left N a b n (omega arith) ∙ v.1.1))
        | no k ↦
            let i : ℕ = n - length a in
            let o : n ≡ length a + i = omega arith in
            let v = aligned H N r (suc d) z i (omega arith) (omega arith) (omega (arith, length-append a b)) in
            let m : ℕ = N - (get_or b i z).0 in
            let c : m ≤ H = omega (arith, v.0) in
            rw (get_d_past a b z i o) (
              omega (arith, v.0),
              (
                2 ^ (H - m) + v.1.0,
                omega (arith, begin_right N a b n i o, begin_end H N l (suc d) (omega arith) (omega arith), v.1.1, pow_join c),
              ),
            )
      ]

  pub flatten_steps : Steps A
  flatten_steps H t z fits = (
    λ n i h p q.
        let es = runs t 0 in
        let m : ℕ = H - (get_or es n z).0 in
        let k : ℕ = i - begin H es n in
        let l : k < 2 ^ m = omega (arith, begin_suc H es z n h) in
        let e : i ≡ begin H es n + k = omega arith in
        let g : get_or (flatten H t 0) i z ≡ get_or es n z =
        ap₂ (λ u v. get_or u v z) (flatten_spread H H t 0 fits (omega arith)) e ∙ spread_run H es z n k h l in
        let v = (aligned H H t 0 z n fits (omega arith) h).1 in
        let f : i ≡ v.0 * 2 ^ m + k = omega (arith, v.1) in
        let o : i % 2 ^ m ≡ k = ap (λ x. x % 2 ^ m) f ∙ low v.0 m l in
        rw g (refl, omega arith, omega (arith, begin_suc H es z n h)),
    begin_end H H t 0 fits (omega arith),
  )
