-- A node on the path fits the arrays that hold it, on damaged words too: its depth is at most θ, no local depth is above it, and the key's
-- entry has the local depth that the path says. Each operation on node blocks keeps this, by its entries alone: a run halved is one bit
-- deeper and there is room for it, and a half in which the key's entry was at θ keeps every entry. No rule of runs is needed.
--   Held θ s path   == each place of the path is at such a node of the words s
--   Apart path      == no two places of the path are at one node
--   Alike ws vs     == the block vs has the depth and the local depths of ws
use mathlib.Core.Path.{◌≡◌, refl, sym, ap, ◌∙◌, subst}
use mathlib.Core.Bool.{Bool, true, false, ◌&&◌}
use mathlib.Core.List.{List, [], ◌∷◌}
use Prim.Native.Nat.{ℕ, zero, suc, pred, ◌+◌, ◌-◌, ◌*◌, ◌/◌, ◌%◌, ◌^◌, ◌≤◌, ◌<◌}
use native.Mathlib.Nat.{zero-add, mod-lt, pow-zero, mul-one}
use native.Mathlib.Omega.{arith}
use native.Mathlib.Decide.{dec_lt}
use lib.Dec.{leb, ltb}
use lib.ListN.{length, drop, set}
use lib.Pow.{pow_pos}
use lib.Seq.{get_or-set_other}
use borrow.Author.Tests.{le-leb, lt-ltb, le-ltb}
use Rattle.lists.specs.Bits.{index}
use Rattle.lists.proofs.BitLaws.{index_lt}
use Rattle.lists.proofs.Tests.{greatest_at}
use Rattle.tree.specs.Trie.{Key}
use Rattle.tree.specs.Node.{Entry}
use Rattle.node.specs.Node.{depth_word, entry_depth, entry_of}
use Rattle.split.specs.Round.{chosen}
use Rattle.split.specs.Value.{Holder}
use Rattle.split.proofs.GrowLaws.{start_of, depth_of, index_half, half_deep, half_is, half_shallow, here_low}
use Rattle.split.specs.Block.{block, over_run, halves, number, run_length, halve_run, double, grow, half}
use Rattle.split.specs.Block.{lower, upper, linked, top}
use Rattle.split.proofs.EntryLaws.{block_entry}
use Rattle.insert.specs.Fine.{}

-- links do not matter
pub record Alike (ws vs : List ℕ) : Type 0 where
  pub depth_same : depth_word vs 0 ≡ depth_word ws 0
  pub entry_same : (j : ℕ) → entry_depth vs 0 j ≡ entry_depth ws 0 j

pub alike_is : (ws vs : List ℕ) → vs ≡ ws → Alike ws vs
alike_is ws vs e = record { depth_same = ap (λ x. depth_word x 0) e; entry_same = λ j. ap (λ x. entry_depth x 0 j) e }

pub alike_then : (ws vs us : List ℕ) → Alike ws vs → Alike vs us → Alike ws us
alike_then ws vs us a b =
    record { depth_same = b.depth_same ∙ a.depth_same; entry_same = λ j. b.entry_same j ∙ a.entry_same j }

pub alike_linked : (ws : List ℕ) (p q : ℕ) → Alike ws (linked ws p q)
unfolding linked
alike_linked ws p q =
    record {
      depth_same = get_or-set_other (set ws 2 p) 3 0 q 0 (λ e. omega arith) ∙ get_or-set_other ws 2 0 p 0 (λ e. omega arith);
      entry_same = λ j.
          get_or-set_other (set ws 2 p) 3 (0 + 4 + 2 * j) q 0 (λ e. omega arith)
          ∙ get_or-set_other ws 2 (0 + 4 + 2 * j) p 0 (λ e. omega arith);
    }

pub holder_alike : (θ : ℕ) (ws vs : List ℕ) (k : Key) (h : ℕ) → Alike ws vs → Holder θ ws k h → Holder θ vs k h
holder_alike θ ws vs k h a w =
    record {
      shallow = record {
        low = omega (arith, a.depth_same, w.shallow.low);
        all = λ j l. omega (arith, a.depth_same, a.entry_same j, w.shallow.all j (subst (λ d. j < 2 ^ d) a.depth_same l));
      };
      here = a.entry_same (index (depth_word vs 0) k) ∙ ap (λ d. entry_depth ws 0 (index d k)) a.depth_same ∙ w.here;
      left = omega (arith, a.depth_same, w.left);
    }

-- a block written from entries
block_holder : (θ H level back forward : ℕ) (e : ℕ → Entry ℕ) (k : Key) (h : ℕ) → H ≤ θ → H ≤ length k
    → ((j : ℕ) → j < 2 ^ H → (e j).0 ≤ H)
    → (e (index H k)).0 ≡ h → Holder θ (block θ H level back forward e) k h
unfolding block
block_holder θ H level back forward e k h low left all here =
    let at : (j : ℕ) → j < 2 ^ H → entry_depth (block θ H level back forward e) 0 j ≡ (e j).0 =
    λ j l. ap (λ x. x.0) (block_entry θ H level back forward e j low l) in
    record {
      shallow = record { low = low; all = λ j l. omega (arith, at j l, all j l) };
      here = at (index H k) (index_lt H k) ∙ here;
      left = left;
    }

-- a run written over others
over_either : (P : Entry ℕ → Type 0) (n i : ℕ) (g e : ℕ → Entry ℕ) (j : ℕ) → ((x : ℕ) → P (g x)) → P (e j) → P (over_run n i g e j)
unfolding over_run
over_either P n i g e j p q =
    elim (leb (i - i % n) j && ltb j (i - i % n + n)) as (λ b. P (elim b [ true ↦ g (j - (i - i % n)) | false ↦ e j ])) [
      | true ↦ p (j - (i - i % n))
      | false ↦ q
    ]

over_here : (P : Entry ℕ → Type 0) (n i : ℕ) (g e : ℕ → Entry ℕ) → 1 ≤ n → ((x : ℕ) → P (g x)) → P (over_run n i g e i)
unfolding over_run
over_here P n i g e pos p =
    rw (le-leb (i - i % n) i (omega arith), lt-ltb i (i - i % n + n) (omega (arith, mod-lt i {m = n} pos)), over_run) (p (i - (i - i % n)))

halves_depth : (n h a c j : ℕ) → (halves n h a c j).0 ≡ suc h
unfolding halves
halves_depth n h a c j =
    elim (ltb j (n / 2)) as (λ b. (elim b as (λ c. Entry ℕ) [ true ↦ (suc h, a) | false ↦ (suc h, c) ]).0 ≡ suc h) [
      | true ↦ refl
      | false ↦ refl
    ]

-- the run at the key halved: a bit is left for it
run_holder : (θ : ℕ) (ws : List ℕ) (k : Key) (h a c : ℕ) → Holder θ ws k h → h < depth_word ws 0 → Holder θ (halve_run θ ws k a c) k (suc h)
unfolding halve_run
run_holder θ ws k h a c w room =
    let i : ℕ = number ws k in
    let n : ℕ = run_length ws i in
    let new : (x : ℕ) → (halves n (entry_depth ws 0 i) a c x).0 ≡ suc h =
    λ x. halves_depth n (entry_depth ws 0 i) a c x ∙ ap suc w.here in
    block_holder θ (depth_word ws 0) _ _ _ _ k (suc h) w.shallow.low w.left
    (λ j l.
    over_either (λ x. x.0 ≤ depth_word ws 0) n i (halves n (entry_depth ws 0 i) a c) (entry_of ws 0) j (λ x. omega (arith, new x))
    (w.shallow.all j l))
    (over_here (λ x. x.0 ≡ suc h) n i (halves n (entry_depth ws 0 i) a c) (entry_of ws 0) (pow_pos (depth_word ws 0 - entry_depth ws 0 i)) new)

-- each entry twice
double_holder : (θ : ℕ) (ws : List ℕ) (k : Key) (h : ℕ) → Holder θ ws k h → depth_word ws 0 < θ → depth_word ws 0 < length k
    → Holder θ (double θ ws) k h
unfolding double
double_holder θ ws k h w room left =
    block_holder θ (suc (depth_word ws 0)) _ _ _ _ k h room left (λ j l. omega (arith, w.shallow.all (j / 2) (omega arith)))
    (ap (entry_depth ws 0) (index_half (depth_word ws 0) k) ∙ w.here)

pub grow_holder : (θ : ℕ) (ws : List ℕ) (k : Key) (h a c : ℕ) → Holder θ ws k h → h < θ → h < length k
    → Holder θ (grow θ ws k a c) k (suc h)
unfolding grow double block
grow_holder θ ws k h a c w room left =
    elim (dec_lt h (depth_word ws 0)) [
      | yes l ↦
          rw (lt-ltb (entry_depth ws 0 (number ws k)) (depth_word ws 0) (omega (arith, w.here)), grow) (run_holder θ ws k h a c w l)
      | no l ↦
          let deep = here_low θ ws k h w in
          rw (le-ltb (entry_depth ws 0 (number ws k)) (depth_word ws 0) (omega (arith, w.here)), grow)
          (run_holder θ (double θ ws) k h a c (double_holder θ ws k h w (omega arith) (omega arith)) (omega arith))
    ]

-- a half of a node of depth θ: every local depth less by one
module _ (θ : ℕ) (ws : List ℕ) (k : Key) (w : Holder θ ws k θ) (pos : 1 ≤ θ) where
  abbrev H : ℕ
  H = depth_word ws 0

  pub full_depth : H ≡ θ
  full_depth = omega (arith, w.shallow.low, here_low θ ws k θ w)

  some : 1 ≤ H
  some = omega (arith, full_depth)

  -- the half that the key is in, by the numbers of its entries: its own is among the deepest, so the half is one less deep
  half_at_lem : (b : Bool) (j : Key) → suc (length j) ≡ length k → index H k ≡ start_of H b + index (pred H) j → Holder θ (half θ ws b) j (pred θ)
  half_at_lem b j long e =
      let own : pred (entry_depth ws 0 (start_of H b + index (pred H) j)) ≡ pred θ =
      ap (λ i. pred (entry_depth ws 0 i)) (sym e) ∙ ap pred w.here in
      let r = half_is θ ws some w.shallow b in
      let K : ℕ = depth_of H (entry_of ws 0) b in
      let same : K ≡ pred H =
      omega (
        arith,
        half_deep θ ws some w.shallow b,
        greatest_at (2 ^ pred H) (λ i. pred (entry_depth ws 0 (start_of H b + i))) (index (pred H) j) (index_lt (pred H) j),
        own,
        full_depth,
      ) in
      let none : pred H - K ≡ 0 = omega arith in
      let at : index K j * 2 ^ (pred H - K) ≡ index (pred H) j =
      ap (λ n. index K j * 2 ^ n) none ∙ ap (λ n. index K j * n) (pow-zero 2) ∙ mul-one (index K j) ∙ ap (λ n. index n j) same in
      record {
        shallow = half_shallow θ ws some w.shallow b;
        here =
            ap (λ d. entry_depth (half θ ws b) 0 (index d j)) r.depth_is
            ∙ ap (λ x. x.0) (r.entry (index K j) (index_lt K j))
            ∙ ap (λ i. pred (entry_depth ws 0 (start_of H b + i))) at ∙ own;
        left = omega (arith, r.depth_is, same, w.left);
      }

-- the number of an entry, without the key's first bit
index_false : (H : ℕ) (k : Key) → 1 ≤ H → index H (false ∷ k) ≡ 0 + index (pred H) k
index_false zero k p = absurd (omega arith)
index_false (suc H) k p = sym (zero-add (index H k))

index_true : (H : ℕ) (k : Key) → 1 ≤ H → index H (true ∷ k) ≡ 2 ^ pred H + index (pred H) k
index_true zero k p = absurd (omega arith)
index_true (suc H) k p = refl

module _ (θ : ℕ) (ws : List ℕ) (pos : 1 ≤ θ) where
  pub half_holder : (b : Bool) (k : Key) → Holder θ ws (b ∷ k) θ → Holder θ (half θ ws b) k (pred θ)
  half_holder false k w =
      half_at_lem θ ws (false ∷ k) w pos false k refl (index_false (depth_word ws 0) k (omega (arith, full_depth θ ws (false ∷ k) w pos)))
  half_holder true k w =
      half_at_lem θ ws (true ∷ k) w pos true k refl (index_true (depth_word ws 0) k (omega (arith, full_depth θ ws (true ∷ k) w pos)))

  -- the run halved in it: the key's entry is at θ again
  again : (vs : List ℕ) (k : Key) (a c : ℕ) → Holder θ vs k (pred θ) → θ ≤ length k → Holder θ (grow θ vs k a c) k θ
  again vs k a c w left =
      let e : suc (pred θ) ≡ θ = omega arith in
      subst (Holder θ (grow θ vs k a c) k) e (grow_holder θ vs k (pred θ) a c w (omega arith) (omega arith))

  pub lower_holder : (k : Key) (a c : ℕ) → Holder θ ws (false ∷ k) θ → θ ≤ length k → Holder θ (lower θ ws (false ∷ k) a c) k θ
  unfolding lower
  lower_holder k a c w left = again (half θ ws false) k a c (half_holder false k w) left

  pub upper_holder : (k : Key) (a c : ℕ) → Holder θ ws (true ∷ k) θ → θ ≤ length k → Holder θ (upper θ ws (true ∷ k) a c) k θ
  unfolding upper
  upper_holder k a c w left = again (half θ ws true) k a c (half_holder true k w) left

  -- the one of the two that the key is in, where they stand at the numbers x and y
  pub split_holder : (k : Key) (a c x y : ℕ) (at : ℕ → List ℕ) → Alike (lower θ ws k a c) (at x) → Alike (upper θ ws k a c) (at y)
      → Holder θ ws k θ → θ < length k → Holder θ (at (chosen k x y)) (drop 1 k) θ
  split_holder [] a c x y at l u w left = absurd (omega arith)
  split_holder (false ∷ k) a c x y at l u w left =
      holder_alike θ (lower θ ws (false ∷ k) a c) (at x) k θ l (lower_holder k a c w (omega arith))
  split_holder (true ∷ k) a c x y at l u w left =
      holder_alike θ (upper θ ws (true ∷ k) a c) (at y) k θ u (upper_holder k a c w (omega arith))

-- a root with two entries
pub top_holder : (θ level a c : ℕ) (k : Key) → 1 ≤ θ → 1 ≤ length k → Holder θ (top θ level a c) k 1
unfolding top
top_holder θ level a c k pos left =
    block_holder θ 1 level 0 0 (halves 2 0 a c) k 1 pos left (λ j l. omega (arith, halves_depth 2 0 a c j))
    (halves_depth 2 0 a c (index 1 k))
