-- What the operations on a node block read of it: its four words and the entries in use. So they make the same of two blocks that agree
-- there, and words with a run written, doubled or halved are what the operation makes of them.
--   ReadAs ws H level back forward e == the block ws has these four words, and the 2^H entries e
--   run_at H e i          == how many entries the run of entry i has
--   run_by H e i g        == the entries e with the run of entry i written by g, which is told its length and its local depth
--   start_of H b          == where the half begins whose first bit is b
--   depth_of H e b        == the largest local depth in that half, less by one
--   half_of H e b         == the entries of that half
use mathlib.Core.Path.{◌≡◌, refl, sym, ap, ap₂, ◌∙◌, subst}
use mathlib.Core.Bool.{Bool, true, false, ◌&&◌}
use mathlib.Core.List.{List}
use Prim.Native.Nat.{ℕ, zero, suc, pred, ◌+◌, ◌-◌, ◌*◌, ◌/◌, ◌%◌, ◌^◌, ◌≤◌, ◌<◌}
use native.Mathlib.Nat.{add-zero, add-sub_of_le, mod-le}
use native.Mathlib.Numerals.{add-one}
use native.Mathlib.Omega.{arith}
use native.Mathlib.Decide.{dec_le, dec_lt}
use lib.Dec.{leb, ltb}
use lib.Pow.{pow_pos, pow_mono, ones_lt, shl_lt, shl-shr}
use lib.ListN.{length, drop}
use borrow.Author.Tests.{lt-ltb, le-ltb}
use Rattle.lists.specs.Bits.{bits, index}
use Rattle.lists.specs.Lists.{greatest}
use Rattle.lists.proofs.Tests.{greatest_ext, greatest_le, greatest_at}
use Rattle.lists.proofs.BitLaws.{index_lt, index_add, index_own}
use Rattle.lists.proofs.Powers.{pow_split, pow_join, run_lt}
use Rattle.tree.specs.Trie.{Key}
use Rattle.tree.specs.Node.{Entry, lowered}
use Rattle.store.specs.Head.{node_words}
use Rattle.node.specs.Node.{depth_word, level_word, back_word, forward_word, entry_depth, entry_of}
use Rattle.split.specs.Block.{block, like, over_run, halves, number, run_length, halve_run, double, grow, half_start, fallen}
use Rattle.split.specs.Block.{half_depth, half, aim}
use Rattle.split.specs.Value.{with_entries, parted, Shallow, Holder}
use Rattle.split.proofs.ValueLaws.{block_ext, length_entries, entries_in, entries_other, entries_at}
use Rattle.split.proofs.EntryLaws.{block_entry, over_in, over_below, over_above}

-- blocks are equal by the entries in use
pub block_same : (θ : ℕ) {H K : ℕ} (level back forward : ℕ) (e f : ℕ → Entry ℕ) → H ≡ K → ((j : ℕ) → j < 2 ^ K → e j ≡ f j)
    → block θ H level back forward e ≡ block θ K level back forward f
block_same θ {H} {K} level back forward e f same at =
    ap (λ D. block θ D level back forward e) same ∙ block_ext θ K level back forward e f (λ j l m. at j l)

-- the run that is written goes by where it starts, the others by themselves
module _ (n i : ℕ) (g e : ℕ → Entry ℕ) (j : ℕ) where
  over_start : (m : ℕ) → i - i % n ≡ m - m % n → over_run n i g e j ≡ over_run n m g e j
  unfolding over_run
  over_start m same = ap {B = Entry ℕ} (λ s. elim (leb s j && ltb j (s + n)) [ true ↦ g (j - s) | false ↦ e j ]) same

  over_rest : (f : ℕ → Entry ℕ) → e j ≡ f j → over_run n i g e j ≡ over_run n i g f j
  unfolding over_run
  over_rest f same =
      ap {B = Entry ℕ} (λ x. elim (leb (i - i % n) j && ltb j (i - i % n + n)) [ true ↦ g (j - (i - i % n)) | false ↦ x ]) same

  over_new : (f : ℕ → Entry ℕ) → g (j - (i - i % n)) ≡ f (j - (i - i % n)) → over_run n i g e j ≡ over_run n i f e j
  unfolding over_run
  over_new f same = ap {B = Entry ℕ} (λ x. elim (leb (i - i % n) j && ltb j (i - i % n + n)) [ true ↦ x | false ↦ e j ]) same

  over_of : (x : Entry ℕ) → (i - i % n ≤ j → j < i - i % n + n → x ≡ g (j - (i - i % n)))
      → ((i - i % n ≤ j → i - i % n + n ≤ j) → x ≡ e j) → x ≡ over_run n i g e j
  over_of x within outside =
      elim (dec_le (i - i % n) j) [
        | no p ↦ outside (λ q. absurd (p q)) ∙ sym (over_below n i g e j (omega arith))
        | yes p ↦
            elim (dec_lt j (i - i % n + n)) [
              | yes q ↦ within p q ∙ sym (over_in n i g e j p q)
              | no q ↦ outside (λ w. omega arith) ∙ sym (over_above n i g e j (omega arith))
            ]
      ]

abbrev pub start_of : ℕ → Bool → ℕ
start_of H false = 0
start_of H true = 2 ^ pred H

module _ (H : ℕ) (e : ℕ → Entry ℕ) where
  abbrev pub run_at : ℕ → ℕ
  run_at i = 2 ^ (H - (e i).0)

  abbrev pub run_by : ℕ → (ℕ → ℕ → ℕ → Entry ℕ) → ℕ → Entry ℕ
  run_by i g = over_run (run_at i) i (g (run_at i) (e i).0) e

  abbrev pub depth_of : Bool → ℕ
  depth_of b = greatest (2 ^ pred H) (λ j. pred (e (start_of H b + j)).0)

  abbrev pub half_of : Bool → ℕ → Entry ℕ
  half_of b j = lowered (e (start_of H b + j * 2 ^ (pred H - depth_of b)))

-- two halves
pow_pred : (H : ℕ) → 1 ≤ H → 2 ^ H ≡ 2 ^ pred H + 2 ^ pred H
pow_pred zero some = absurd (omega arith)
pow_pred (suc H) some = omega arith

pub half_room : (H : ℕ) (b : Bool) → 1 ≤ H → start_of H b + 2 ^ pred H ≤ 2 ^ H
half_room H false some = omega (arith, pow_pred H some)
half_room H true some = omega (arith, pow_pred H some)

in_half_lem : (H : ℕ) (b : Bool) (j : ℕ) → 1 ≤ H → j < 2 ^ pred H → start_of H b + j < 2 ^ H
in_half_lem H b j some l = omega (arith, half_room H b some)

-- no local depth is over H, so the half is no deeper than H − 1; its entries are spread over 2^(H−1)
module _ (H : ℕ) (e : ℕ → Entry ℕ) (some : 1 ≤ H) (low : (j : ℕ) → j < 2 ^ H → (e j).0 ≤ H) (b : Bool) where
  pub depth_low : depth_of H e b ≤ pred H
  depth_low = greatest_le (2 ^ pred H) _ (pred H) (λ j l. omega (arith, low (start_of H b + j) (in_half_lem H b j some l)))

  step_lt : (j : ℕ) → j < 2 ^ depth_of H e b → j * 2 ^ (pred H - depth_of H e b) < 2 ^ pred H
  step_lt j l = rw (add-sub_of_le depth_low) at (shl_lt (depth_of H e b) (pred H - depth_of H e b) l)

pub record ReadAs (ws : List ℕ) (H level back forward : ℕ) (e : ℕ → Entry ℕ) : Type 0 where
  pub depth_is : depth_word ws 0 ≡ H
  pub level_is : level_word ws 0 ≡ level
  pub back_is : back_word ws 0 ≡ back
  pub forward_is : forward_word ws 0 ≡ forward
  pub entry : (j : ℕ) → j < 2 ^ H → entry_of ws 0 j ≡ e j

pub read_ext : {ws : List ℕ} {H level back forward : ℕ} {e : ℕ → Entry ℕ} → ReadAs ws H level back forward e → (f : ℕ → Entry ℕ)
    → ((j : ℕ) → j < 2 ^ H → e j ≡ f j) → ReadAs ws H level back forward f
read_ext r f same =
    record {
      depth_is = r.depth_is;
      level_is = r.level_is;
      back_is = r.back_is;
      forward_is = r.forward_is;
      entry = λ j l. r.entry j l ∙ same j l;
    }

-- a block as it is written
pub block_read : (θ H level back forward : ℕ) (e : ℕ → Entry ℕ) → H ≤ θ
    → ReadAs (block θ H level back forward e) H level back forward e
unfolding block
block_read θ H level back forward e high =
    record {
      depth_is = refl;
      level_is = refl;
      back_is = refl;
      forward_is = refl;
      entry = λ j l. block_entry θ H level back forward e j high l;
    }

-- any words as they stand
pub plain_read : (ws : List ℕ) → ReadAs ws (depth_word ws 0) (level_word ws 0) (back_word ws 0) (forward_word ws 0) (entry_of ws 0)
plain_read ws = record { depth_is = refl; level_is = refl; back_is = refl; forward_is = refl; entry = λ j l. refl }

module _ {ws : List ℕ} {H level back forward : ℕ} {e : ℕ → Entry ℕ} (r : ReadAs ws H level back forward e) (θ : ℕ) where
  like_read : (K : ℕ) (f : ℕ → Entry ℕ) → like θ ws K f ≡ block θ K level back forward f
  like_read K f =
      ap₂ (λ l b. block θ K l b (forward_word ws 0) f) r.level_is r.back_is ∙ ap (λ x. block θ K level back x f) r.forward_is

  module _ (k : Key) where
    here : entry_depth ws 0 (number ws k) ≡ (e (index H k)).0
    here =
        ap (λ d. entry_depth ws 0 (index d k)) r.depth_is ∙ ap (λ x. x.0) (r.entry (index H k) (index_lt H k))

    run_read : (g : ℕ → ℕ → ℕ → Entry ℕ)
        → like θ ws (depth_word ws 0)
        (over_run (run_length ws (number ws k)) (number ws k) (g (run_length ws (number ws k)) (entry_depth ws 0 (number ws k))) (entry_of ws 0))
        ≡ block θ H level back forward (run_by H e (index H k) g)
    run_read g =
        like_read (depth_word ws 0) _
        ∙ block_same θ _ _ _ _ _ r.depth_is
        (λ j l.
        ap₂ (λ d h. over_run (2 ^ (d - h)) (index d k) (g (2 ^ (d - h)) h) (entry_of ws 0) j) r.depth_is here
        ∙ over_rest (run_at H e (index H k)) (index H k) (g (run_at H e (index H k)) (e (index H k)).0) (entry_of ws 0) j e (r.entry j l))

    pub halve_read : (a c : ℕ) → halve_run θ ws k a c ≡ block θ H level back forward (run_by H e (index H k) (λ n h. halves n h a c))
    unfolding halve_run
    halve_read a c = run_read (λ n h. halves n h a c)

    pub aim_read : (q : ℕ) → aim θ ws k q ≡ block θ H level back forward (run_by H e (index H k) (λ n h j. (h, q)))
    unfolding aim
    aim_read q = run_read (λ n h j. (h, q))

    pub grow_slack_read : (a c : ℕ) → (e (index H k)).0 < H → grow θ ws k a c ≡ halve_run θ ws k a c
    unfolding grow
    grow_slack_read a c h = rw (lt-ltb (entry_depth ws 0 (number ws k)) (depth_word ws 0) (omega (arith, here, r.depth_is)), grow)

    pub grow_full_read : (a c : ℕ) → H ≤ (e (index H k)).0 → grow θ ws k a c ≡ halve_run θ (double θ ws) k a c
    unfolding grow
    grow_full_read a c h = rw (le-ltb (entry_depth ws 0 (number ws k)) (depth_word ws 0) (omega (arith, here, r.depth_is)), grow)

  pub double_read : double θ ws ≡ block θ (suc H) level back forward (λ j. e (j / 2))
  unfolding double
  double_read =
      like_read (suc (depth_word ws 0)) _ ∙ block_same θ _ _ _ _ _ (ap suc r.depth_is) (λ j l. r.entry (j / 2) (omega arith))

  pub twice_read : suc H ≤ θ → ReadAs (double θ ws) (suc H) level back forward (λ j. e (j / 2))
  twice_read high =
      subst (λ t. ReadAs t (suc H) level back forward (λ j. e (j / 2))) (sym double_read)
      (block_read θ (suc H) level back forward (λ j. e (j / 2)) high)

  start_read : (b : Bool) → half_start ws b ≡ start_of H b
  start_read false = refl
  start_read true = ap (λ d. 2 ^ pred d) r.depth_is

  module _ (some : 1 ≤ H) (low : (j : ℕ) → j < 2 ^ H → (e j).0 ≤ H) (b : Bool) where
    fallen_read : (j : ℕ) → j < 2 ^ pred H → fallen ws b j ≡ lowered (e (start_of H b + j))
    fallen_read j l = ap lowered (ap (λ s. entry_of ws 0 (s + j)) (start_read b) ∙ r.entry (start_of H b + j) (in_half_lem H b j some l))

    depth_read : half_depth ws b ≡ depth_of H e b
    depth_read =
        ap (λ d. greatest (2 ^ pred d) (λ j. (fallen ws b j).0)) r.depth_is
        ∙ greatest_ext (2 ^ pred H) _ _ (λ j l. ap (λ x. x.0) (fallen_read j l))

    pub half_read : half θ ws b ≡ block θ (depth_of H e b) level back forward (half_of H e b)
    unfolding half
    half_read =
        like_read (half_depth ws b) _
        ∙ block_same θ _ _ _ _ _ depth_read
        (λ j l.
        ap₂ (λ d n. fallen ws b (j * 2 ^ (pred d - n))) r.depth_is depth_read
        ∙ fallen_read (j * 2 ^ (pred H - depth_of H e b)) (step_lt H e some low b j l))

-- the run of an entry is within the entries in use
pub run_room : (H x i n : ℕ) → i < 2 ^ H → n ≡ 2 ^ (H - x) → (i % n ≤ i) × (i - i % n + n ≤ 2 ^ H)
run_room H x i n l e =
    let m : ℕ = H - x in
    (mod-le i n, rw e (omega (arith, run_lt H m i (2 ^ m - 1) (omega arith) l (ones_lt m), ones_lt m)))

module _ (n h a c j : ℕ) where
  parted_left : j < n / 2 → parted n h a c j ≡ (h, a)
  unfolding parted
  parted_left l = rw (lt-ltb j (n / 2) l, parted)

  parted_right : n / 2 ≤ j → parted n h a c j ≡ (h, c)
  unfolding parted
  parted_right l = rw (le-ltb j (n / 2) l, parted)

-- the two halves of the run of entry i filled
run_filled : (ws : List ℕ) (n i h a c j : ℕ) → 4 + 2 * (i - i % n + n) ≤ length ws
    → entry_of (with_entries (with_entries ws (i - i % n) (n / 2) (λ x. (h, a))) (i - i % n + n / 2) (n - n / 2) (λ x. (h, c))) 0 j
    ≡ over_run n i (parted n h a c) (entry_of ws 0) j
run_filled ws n i h a c j room =
    over_of n i (parted n h a c) (entry_of ws 0) j _
    (λ l r.
    elim (dec_lt j (s + n / 2)) [
      | yes q ↦
          entries_other left (s + n / 2) (λ x. (h, c)) (n - n / 2) j (λ w. absurd (omega arith)) ∙ entries_in ws s (λ x. (h, a)) (n / 2) j (omega arith) l q
          ∙ sym (parted_left n h a c (j - s) (omega arith))
      | no q ↦
          entries_in left (s + n / 2) (λ x. (h, c)) (n - n / 2) j (omega (arith, length_entries ws s (λ x. (h, a)) (n / 2))) (omega arith) (omega arith)
          ∙ sym (parted_right n h a c (j - s) (omega arith))
    ])
    (λ o.
    entries_other left (s + n / 2) (λ x. (h, c)) (n - n / 2) j (λ l. omega (arith, o (omega arith)))
    ∙ entries_other ws s (λ x. (h, a)) (n / 2) j (λ l. omega (arith, o l)))
  where
    s : ℕ
    s = i - i % n

    left : List ℕ
    left = with_entries ws s (n / 2) (λ x. (h, a))

-- a node's words with the run of entry i, n entries from s on, written
pub run_written : (θ : ℕ) (ws : List ℕ) (i n s h a c : ℕ) {one two : List ℕ} → n ≡ run_length ws i → s ≡ i - i % n
    → 4 + 2 * (s + n) ≤ length ws → one ≡ with_entries ws s (n / 2) (λ x. (h, a)) → two ≡ with_entries one (s + n / 2) (n - n / 2) (λ x. (h, c))
    → like θ ws (depth_word ws 0) (entry_of two 0)
    ≡ like θ ws (depth_word ws 0) (over_run (run_length ws i) i (parted (run_length ws i) h a c) (entry_of ws 0))
run_written θ ws i n s h a c {one} {two} run start room first second =
    block_same θ _ _ _ _ _ refl
    (λ j l.
    ap (λ vs. entry_of vs 0 j)
    (second ∙ ap (λ vs. with_entries vs (s + n / 2) (n - n / 2) (λ x. (h, c))) first
    ∙ ap (λ y. with_entries (with_entries ws y (n / 2) (λ x. (h, a))) (y + n / 2) (n - n / 2) (λ x. (h, c))) start)
    ∙ run_filled ws n i h a c j (omega arith)
    ∙ ap (λ m. over_run m i (parted m h a c) (entry_of ws 0) j) run)

-- that is the run halved, or aimed, at a key that takes the entry
module _ (θ : ℕ) (ws : List ℕ) (i : ℕ) (k : Key) (at_key : number ws k ≡ i) where
  abbrev written : ℕ → ℕ → ℕ → List ℕ
  written h a c = like θ ws (depth_word ws 0) (over_run (run_length ws i) i (parted (run_length ws i) h a c) (entry_of ws 0))

  pub halved_words : (a c : ℕ) {vs : List ℕ} → vs ≡ written (entry_depth ws 0 i + 1) a c → vs ≡ halve_run θ ws k a c
  unfolding halve_run halves parted
  halved_words a c new =
      new ∙ ap (λ x. written x a c) (add-one (entry_depth ws 0 i))
      ∙ ap (λ x. like θ ws (depth_word ws 0) (over_run (run_length ws x) x (halves (run_length ws x) (entry_depth ws 0 x) a c) (entry_of ws 0)))
      (sym at_key)

  pub aimed_words : (q : ℕ) {vs : List ℕ} → vs ≡ written (entry_depth ws 0 i + 0) q q → vs ≡ aim θ ws k q
  unfolding aim
  aimed_words q new =
      new ∙ ap (λ x. written x q q) (add-zero (entry_depth ws 0 i))
      ∙ block_same θ _ _ _ _ _ refl
      (λ j l. over_new (run_length ws i) i _ (entry_of ws 0) j _ (both (run_length ws i) (entry_depth ws 0 i) q _))
      ∙ ap (λ x. like θ ws (depth_word ws 0) (over_run (run_length ws x) x (λ j. (entry_depth ws 0 x, q)) (entry_of ws 0))) (sym at_key)
    where
      both : (n h q j : ℕ) → parted n h q q j ≡ (h, q)
      both n h q j =
          elim (dec_lt j (n / 2)) [ yes l ↦ parted_left n h q q j l | no l ↦ parted_right n h q q j (omega arith) ]

-- each entry twice
pub doubled_words : (θ : ℕ) (ws : List ℕ) (m : ℕ) {vs : List ℕ} → m ≡ 2 ^ depth_word ws 0 → 4 + 4 * m ≤ length ws
    → vs ≡ with_entries ws 0 (2 * m) (λ j. entry_of ws 0 (j / 2)) → like θ ws (depth_word ws 0 + 1) (entry_of vs 0) ≡ double θ ws
unfolding double
doubled_words θ ws m em room twice =
    block_same θ _ _ _ _ _ (add-one (depth_word ws 0)) (λ j l. entries_at ws (2 * m) _ twice (omega arith) j (omega arith))

-- one bit more of a key: the two entries that one entry became
pub index_half : (H : ℕ) (k : Key) → index (suc H) k / 2 ≡ index H k
index_half H k = omega (arith, rw (add-one H) at (index_add H 1 k), index_lt 1 (drop H k))

-- these two are one run, if the entry was one
run_near : (H : ℕ) (e : ℕ → Entry ℕ) (x y : ℕ) (g : ℕ → ℕ → ℕ → Entry ℕ) (j : ℕ) → x / 2 ≡ y / 2 → (e (y / 2)).0 ≡ H
    → run_by (suc H) (λ m. e (m / 2)) x g j ≡ run_by (suc H) (λ m. e (m / 2)) y g j
run_near H e x y g j same one =
    let d : suc H - (e (y / 2)).0 ≡ 1 = omega arith in
    let two : 2 ^ (suc H - (e (y / 2)).0) ≡ 2 = ap (λ w. 2 ^ w) d in
    ap (λ z. over_run (2 ^ (suc H - (e z).0)) x (g (2 ^ (suc H - (e z).0)) (e z).0) (λ m. e (m / 2)) j) same
    ∙ over_start (2 ^ (suc H - (e (y / 2)).0)) x (g (2 ^ (suc H - (e (y / 2)).0)) (e (y / 2)).0) (λ m. e (m / 2)) j y
    (rw two (omega arith))

-- a node's words after a growth: its run halved; or the run of the doubled node, at either of the two entries
module _ (θ : ℕ) (ws : List ℕ) (i a c : ℕ) (k : Key) (at_key : number ws k ≡ i) {vs : List ℕ} where
  pub grown_slack : entry_depth ws 0 i < depth_word ws 0 → vs ≡ halve_run θ ws k a c → vs ≡ grow θ ws k a c
  grown_slack test made =
      made ∙ sym (grow_slack_read (plain_read ws) θ k a c (subst (λ x. entry_depth ws 0 x < depth_word ws 0) (sym at_key) test))

  pub grown_full : depth_word ws 0 < θ → i < 2 ^ depth_word ws 0 → entry_depth ws 0 i ≡ depth_word ws 0 → {d : List ℕ} → d ≡ double θ ws
      → ((m : Key) → number d m ≡ 2 * i → vs ≡ halve_run θ d m a c) → vs ≡ grow θ ws k a c
  grown_full less below one twice made =
      let H : ℕ = depth_word ws 0 in
      let r = plain_read ws in
      let two = twice_read r θ less in
      let m : Key = bits (suc H) (2 * i) in
      let em : index (suc H) m ≡ 2 * i = index_own (suc H) (2 * i) (omega arith) in
      let near : index (suc H) m / 2 ≡ index (suc H) k / 2 = omega (arith, index_half H k) in
      let here : entry_depth ws 0 (index (suc H) k / 2) ≡ H = ap (entry_depth ws 0) (index_half H k ∙ at_key) ∙ one in
      made m (ap (λ x. index x m) (ap (λ t. depth_word t 0) twice ∙ two.depth_is) ∙ em)
      ∙ ap (λ t. halve_run θ t m a c) twice
      ∙ halve_read two θ m a c
      ∙ block_same θ _ _ _ _ _ refl
      (λ j l. run_near H (entry_of ws 0) (index (suc H) m) (index (suc H) k) (λ w x. halves w x a c) j near here)
      ∙ sym (halve_read two θ k a c)
      ∙ sym (grow_full_read r θ k a c (omega (arith, ap (entry_depth ws 0) at_key)))

-- entry 2i of the doubled node is entry i
pub twice_at : (θ : ℕ) (ws : List ℕ) (i : ℕ) {d : List ℕ} → depth_word ws 0 < θ → i < 2 ^ depth_word ws 0 → d ≡ double θ ws
    → (depth_word d 0 ≤ θ) × (2 * i < 2 ^ depth_word d 0) × (entry_depth d 0 (2 * i) ≡ entry_depth ws 0 i)
twice_at θ ws i less below twice =
    let H : ℕ = depth_word ws 0 in
    let two = twice_read (plain_read ws) θ less in
    let l : 2 * i < 2 ^ suc H = omega arith in
    let e : 2 * i / 2 ≡ i = omega arith in
    let deep = ap (λ t. depth_word t 0) twice ∙ two.depth_is in (
      omega (arith, deep),
      subst (λ x. 2 * i < 2 ^ x) (sym deep) l,
      ap (λ t. entry_depth t 0 (2 * i)) twice ∙ ap (λ x. x.0) (two.entry (2 * i) l) ∙ ap (entry_depth ws 0) e,
    )

-- how far apart the entries stand that a half keeps, of n entries m
pub half_step : (L K n m : ℕ) → K ≤ L → n ≡ 2 ^ L → m ≡ 2 ^ K → (n / m ≡ 2 ^ (L - K)) × (1 ≤ n / m) × (m * (n / m) ≡ n)
half_step L K n m fits en em =
    let e : n / m ≡ 2 ^ (L - K) = ap₂ (λ x y. x / y) (en ∙ sym (pow_join fits)) em ∙ shl-shr (2 ^ (L - K)) K in
    let p : m * (n / m) ≡ n = ap₂ (λ x y. x * y) em e ∙ pow_split fits ∙ sym en in
    (e, omega (arith, pow_pos (L - K)), p)

-- a node's words, halved
module _ (θ : ℕ) (ws : List ℕ) (some : 1 ≤ depth_word ws 0) (shallow : Shallow θ ws) (b : Bool) where
  abbrev H : ℕ
  H = depth_word ws 0

  abbrev K : ℕ
  K = depth_of H (entry_of ws 0) b

  pub half_deep : K ≤ pred H
  half_deep = depth_low H (entry_of ws 0) some shallow.all b

  -- n entries from s on lowered into the words l, of which every n / m-th is kept
  pub half_words : (s n D m : ℕ) → s ≡ start_of H b → n ≡ 2 ^ pred H → D ≡ K → m ≡ 2 ^ D → (to : List ℕ) {l t : List ℕ}
      → 4 + 2 * n ≤ length to → l ≡ with_entries to 0 n (λ j. lowered (entry_of ws 0 (s + j))) → length l ≡ length to
      → t ≡ with_entries l 0 m (λ j. entry_of l 0 (j * (n / m))) → like θ ws D (entry_of t 0) ≡ half θ ws b
  half_words s n D m es en eD em to {l} room lowers long thins =
      let mid : m ≡ 2 ^ K = em ∙ ap (λ d. 2 ^ d) eD in
      let step : n / m ≡ 2 ^ (pred H - K) = (half_step (pred H) K n m half_deep en mid).0 in
      let fewer : 4 + 2 * m ≤ length l = omega (arith, pow_mono {i = K} {j = pred H} half_deep, mid, en, long, room) in
      block_same θ _ _ _ _ _ eD
      (λ j r.
      let at : j * (n / m) < n = rw (step, en) (step_lt H (entry_of ws 0) some shallow.all b j r) in
      entries_at l m _ thins fewer j (omega arith) ∙ entries_at to n _ lowers room (j * (n / m)) at
      ∙ ap₂ (λ y w. lowered (entry_of ws 0 (y + j * w))) es step)
      ∙ sym (half_read (plain_read ws) θ some shallow.all b)

  pub half_is : ReadAs (half θ ws b) K (level_word ws 0) (back_word ws 0) (forward_word ws 0) (half_of H (entry_of ws 0) b)
  half_is =
      subst (λ t. ReadAs t K (level_word ws 0) (back_word ws 0) (forward_word ws 0) (half_of H (entry_of ws 0) b))
      (sym (half_read (plain_read ws) θ some shallow.all b))
      (block_read θ K (level_word ws 0) (back_word ws 0) (forward_word ws 0) (half_of H (entry_of ws 0) b)
      (omega (arith, half_deep, shallow.low)))

  -- its depth is less, and no local depth is over it
  pub half_less : depth_word (half θ ws b) 0 < H
  half_less = omega (arith, half_is.depth_is, half_deep)

  pub half_shallow : Shallow θ (half θ ws b)
  half_shallow =
      record {
        low = omega (arith, half_less, shallow.low);
        all = λ j l.
            let r : j < 2 ^ K = subst (λ d. j < 2 ^ d) half_is.depth_is l in
            let at = step_lt H (entry_of ws 0) some shallow.all b j r in
            omega (
              arith,
              ap (λ x. x.0) (half_is.entry j r),
              half_is.depth_is,
              greatest_at (2 ^ pred H) (λ i. pred (entry_depth ws 0 (start_of H b + i))) (j * 2 ^ (pred H - K)) at,
            );
      }

-- what the run of entry i needs to be aimed, or halved
abbrev pub Aimable : ℕ → ℕ → List ℕ → Type 0
Aimable θ i ws = (length ws ≡ node_words θ) × (depth_word ws 0 ≤ θ) × (i < 2 ^ depth_word ws 0) × (entry_depth ws 0 i ≤ θ)

abbrev pub Growable : ℕ → ℕ → List ℕ → Type 0
Growable θ i ws =
    (length ws ≡ node_words θ) × (depth_word ws 0 ≤ θ) × (i < 2 ^ depth_word ws 0) × (entry_depth ws 0 i < θ)
    × (entry_depth ws 0 i ≤ depth_word ws 0)

pub half_growable : (θ : ℕ) (ws : List ℕ) → 1 ≤ depth_word ws 0 → Shallow θ ws → (b : Bool) (i : ℕ) {vs : List ℕ} → vs ≡ half θ ws b
    → length vs ≡ node_words θ → i < 2 ^ depth_word vs 0 → Growable θ i vs
half_growable θ ws some shallow b i {vs} made long l =
    let e : Shallow θ vs = subst (Shallow θ) (sym made) (half_shallow θ ws some shallow b) in
    let less : depth_word vs 0 < depth_word ws 0 = subst (λ t. depth_word t 0 < depth_word ws 0) (sym made) (half_less θ ws some shallow b) in
    (long, e.low, l, omega (arith, e.all i l, less, shallow.low), e.all i l)

-- the key's depth is at most the node's
pub here_low : (θ : ℕ) (ws : List ℕ) (k : Key) (h : ℕ) → Holder θ ws k h → h ≤ depth_word ws 0
here_low θ ws k h w = omega (arith, w.here, w.shallow.all (index (depth_word ws 0) k) (index_lt (depth_word ws 0) k))
