-- A node block's words, changed where they stand: entries set, the block settled, and its part lent from the store.
--   spare        == the words of an array for the largest block, before it is lent
use mathlib.Core.Path.{◌≡◌, refl, sym, ap, ap₂, ◌∙◌}
use mathlib.Core.List.{List, [], ◌∷◌, ◌++◌, append-nil}
use Prim.Native.Nat.{ℕ, zero, suc, ◌+◌, ◌-◌, ◌*◌, ◌/◌, ◌^◌, ◌≤◌, ◌<◌, max}
use native.Mathlib.Nat.{add-zero, mul-le-mul_left, mul-le-mul_right}
use native.Mathlib.Decide.{dec_lt}
use native.Mathlib.Numerals.{add-one}
use native.Mathlib.Omega.{arith}
use lib.Pow.{pow_mono}
use lib.ListN.{length, get_or, take, drop, set, replicate, length-append, length-drop, length-set}
use lib.ListN.{drop_of_length-le, take-append-drop}
use lib.Seq.{length-take-le, take-set-lt, take_all, take_at, drop_at, drop-drop, set_comm, get_or-set_same}
use lib.Seq.{get_or-set_other, get_or-take, get_or-drop, set-get_or}
use borrow.Rule.Slice.PartMut.{set_mid_at}
use Rattle.lists.specs.Lists.{tab, greatest, replaced}
use Rattle.lists.proofs.Parts.{part_in_lem, length_part}
use Rattle.lists.proofs.Tests.{tab_ext}
use Rattle.tree.specs.Node.{Entry}
use Rattle.store.specs.declared.Head.{Head}
use Rattle.store.specs.Head.{node_start, node_words, node_at}
use Rattle.page.proofs.Flat.{set_four}
use Rattle.node.specs.Node.{depth_word, back_word, forward_word, entry_of}
use Rattle.represent.specs.Image.{entry_words}
use Rattle.split.specs.Block.{kept, block, halves, linked, top}
use Rattle.split.specs.Value.{with_entry, with_entries}
use Rattle.split.proofs.EntryLaws.{kept_in, kept_out, block_entries}

-- n steps of k from 0 on
pub steps_within : (i n k : ℕ) → i < n → 1 ≤ k → (i * k < n * k) × (i ≤ i * k)
steps_within i n k h p = (omega (arith, mul-le-mul_right k h), omega (arith, mul-le-mul_left i p))

-- the largest of no numbers, and of one more
pub greatest_none : (f : ℕ → ℕ) → greatest 0 f ≡ 0
unfolding greatest
greatest_none f = refl

pub greatest_next : (n : ℕ) (f : ℕ → ℕ) → greatest (n + 1) f ≡ max (greatest n f) (f n)
unfolding greatest
greatest_next n f = ap (λ k. greatest k f) (add-one n)

-- for a loop that keeps the largest so far
pub ruleset greatest_steps = (greatest_none, greatest_next)

-- an entry that is set, and the others
pub length_with : (ws : List ℕ) (j : ℕ) (e : Entry ℕ) → length (with_entry ws j e) ≡ length ws
unfolding with_entry
length_with ws j e = simp length-set

pub with_same : (ws : List ℕ) (j : ℕ) (e : Entry ℕ) → 5 + 2 * j < length ws → entry_of (with_entry ws j e) 0 j ≡ e
unfolding with_entry
with_same ws j e h =
    let long : 5 + 2 * j < length (set ws (4 + 2 * j) e.0) = simp length-set h in
    ap₂ (λ x y. (x, y))
    (get_or-set_other (set ws (4 + 2 * j) e.0) (5 + 2 * j) (4 + 2 * j) e.1 0 (λ q. omega arith)
    ∙ get_or-set_same ws (4 + 2 * j) e.0 0 (omega arith))
    (get_or-set_same (set ws (4 + 2 * j) e.0) (5 + 2 * j) e.1 0 long)

pub with_other : (ws : List ℕ) (j : ℕ) (e : Entry ℕ) (i : ℕ) → (i ≡ j → ⊥) → entry_of (with_entry ws j e) 0 i ≡ entry_of ws 0 i
unfolding with_entry
with_other ws j e i apart =
    ap₂ (λ x y. (x, y))
    (get_or-set_other (set ws (4 + 2 * j) e.0) (5 + 2 * j) (4 + 2 * i) e.1 0 (λ q. omega arith)
    ∙ get_or-set_other ws (4 + 2 * j) (4 + 2 * i) e.0 0 (λ q. apart (omega arith)))
    (get_or-set_other (set ws (4 + 2 * j) e.0) (5 + 2 * j) (5 + 2 * i) e.1 0 (λ q. apart (omega arith))
    ∙ get_or-set_other ws (4 + 2 * j) (5 + 2 * i) e.0 0 (λ q. omega arith))

-- the same of several entries
module _ (ws : List ℕ) (start : ℕ) (e : ℕ → Entry ℕ) where
  pub length_entries : (n : ℕ) → length (with_entries ws start n e) ≡ length ws
  unfolding with_entries
  length_entries zero = refl
  length_entries (suc n) = length_with (with_entries ws start n e) (start + n) (e n) ∙ length_entries n

  pub entries_none : with_entries ws start 0 e ≡ ws
  unfolding with_entries
  entries_none = refl

  pub entries_next : (n : ℕ) → with_entries ws start (n + 1) e ≡ with_entry (with_entries ws start n e) (start + n) (e n)
  unfolding with_entries
  entries_next n = ap (λ m. with_entries ws start m e) (add-one n)

  pub entries_more : (n : ℕ) {vs : List ℕ} {i : ℕ} {x : Entry ℕ} → vs ≡ with_entries ws start n e → i ≡ start + n → x ≡ e n
      → with_entry vs i x ≡ with_entries ws start (n + 1) e
  unfolding with_entries
  entries_more n {vs} {i} {x} g at is =
      ap (λ v. with_entry v i x) g ∙ ap₂ (with_entry (with_entries ws start n e)) at is
      ∙ ap (λ m. with_entries ws start m e) (sym (add-one n))

  pub entries_other : (n j : ℕ) → (start ≤ j → start + n ≤ j) → entry_of (with_entries ws start n e) 0 j ≡ entry_of ws 0 j
  unfolding with_entries
  entries_other zero j out = refl
  entries_other (suc n) j out =
      with_other (with_entries ws start n e) (start + n) (e n) j (λ q. absurd (omega (arith, out (omega arith))))
      ∙ entries_other n j (λ l. omega (arith, out l))

  pub entries_in : (n j : ℕ) → 4 + 2 * (start + n) ≤ length ws → start ≤ j → j < start + n
      → entry_of (with_entries ws start n e) 0 j ≡ e (j - start)
  unfolding with_entries
  entries_in zero j room l r = absurd (omega arith)
  entries_in (suc n) j room l r =
      elim (dec_lt j (start + n)) [
        | yes q ↦
            with_other (with_entries ws start n e) (start + n) (e n) j (λ w. omega arith) ∙ entries_in n j (omega arith) l q
        | no q ↦
            let at : j ≡ start + n = omega arith in
            let back : n ≡ j - start = omega arith in
            ap (entry_of (with_entries ws start (suc n) e) 0) at
            ∙ with_same (with_entries ws start n e) (start + n) (e n) (omega (arith, length_entries n)) ∙ ap e back
      ]

-- for a loop that sets entry after entry
pub ruleset entry_steps = (entries_none, entries_next)

pub entries_at : (ws : List ℕ) (n : ℕ) (e : ℕ → Entry ℕ) {vs : List ℕ} → vs ≡ with_entries ws 0 n e → 4 + 2 * n ≤ length ws
    → (j : ℕ) → j < n → entry_of vs 0 j ≡ e j
entries_at ws n e g room j l =
    let z : j - 0 ≡ j = omega arith in
    ap (λ v. entry_of v 0 j) g ∙ entries_in ws 0 e n j (omega arith) (omega arith) (omega arith) ∙ ap e z

pub entries_ext : (ws : List ℕ) (start n : ℕ) (e e' : ℕ → Entry ℕ) → ((j : ℕ) → e j ≡ e' j)
    → with_entries ws start n e ≡ with_entries ws start n e'
unfolding with_entries
entries_ext ws start zero e e' same = refl
entries_ext ws start (suc n) e e' same = ap₂ (λ v x. with_entry v (start + n) x) (entries_ext ws start n e e' same) (same n)

-- entries are set in any order
with_swap : (ws : List ℕ) (i j : ℕ) (e f : Entry ℕ) → (i ≡ j → ⊥) → with_entry (with_entry ws i e) j f ≡ with_entry (with_entry ws j f) i e
unfolding with_entry
with_swap ws i j e f apart =
    let a : ℕ = 4 + 2 * i in
    let b : ℕ = 4 + 2 * j in
    let a' : ℕ = 5 + 2 * i in
    let b' : ℕ = 5 + 2 * j in
    ap (λ v. set v b' f.1) (set_comm (set ws a e.0) a' b e.1 f.0 (λ q. omega arith))
    ∙ set_comm (set (set ws a e.0) b f.0) a' b' e.1 f.1 (λ q. apart (omega arith))
    ∙ ap (λ v. set (set v b' f.1) a' e.1) (set_comm ws a b e.0 f.0 (λ q. apart (omega arith)))
    ∙ ap (λ v. set v a' e.1) (set_comm (set ws b f.0) a b' e.0 f.1 (λ q. omega arith))

-- so one more may come before the others
entries_before : (ws : List ℕ) (start n : ℕ) (e : ℕ → Entry ℕ)
    → with_entry (with_entries ws (suc start) n (λ j. e (suc j))) start (e 0) ≡ with_entries ws start (suc n) e
unfolding with_entries
entries_before ws start zero e = ap (λ i. with_entry ws i (e 0)) (sym (add-zero start))
entries_before ws start (suc n) e =
    let at : suc start + n ≡ start + suc n = omega arith in
    with_swap (with_entries ws (suc start) n (λ j. e (suc j))) (suc start + n) start (e (suc n)) (e 0) (λ q. omega arith)
    ∙ ap₂ (λ v i. with_entry v i (e (suc n))) (entries_before ws start n e) at

-- entries spread from the top down, as far as entry j
abbrev pub spread_from : List ℕ → ℕ → ℕ → List ℕ
spread_from ws n j = with_entries ws (2 * j) (2 * (n - j)) (λ i. entry_of ws 0 (j + i / 2))

pub spread_none : (ws : List ℕ) (n : ℕ) → ws ≡ spread_from ws n n
unfolding with_entries
spread_none ws n =
    let z : 2 * (n - n) ≡ 0 = omega arith in
    sym (ap (λ m. with_entries ws (2 * n) m (λ i. entry_of ws 0 (n + i / 2))) z)

pub spread_turn : (ws vs : List ℕ) (n j : ℕ) (one two : List ℕ) → 1 ≤ j → j ≤ n → vs ≡ spread_from ws n j
    → one ≡ with_entry vs (2 * (j - 1)) (entry_of vs 0 (j - 1)) → two ≡ with_entry one (2 * (j - 1) + 1) (entry_of vs 0 (j - 1))
    → two ≡ spread_from ws n (j - 1)
spread_turn ws vs n j one two some l s first second =
    second ∙ ap (λ v. with_entry v (2 * m + 1) x) first
    ∙ with_swap vs (2 * m) (2 * m + 1) x x (λ q. omega arith)
    ∙ ap (λ v. with_entry (with_entry v (2 * m + 1) x) (2 * m) x) (s ∙ rest)
    ∙ ap₂ (λ y z. with_entry (with_entry (with_entries ws (suc (suc (2 * m))) k (λ i. e (suc (suc i)))) (2 * m + 1) y) (2 * m) z) (is ∙ one_is) (is ∙ zero_is)
    ∙ ap (λ i. with_entry (with_entry (with_entries ws (suc (suc (2 * m))) k (λ i. e (suc (suc i)))) i (e 1)) (2 * m) (e 0)) next
    ∙ ap (λ v. with_entry v (2 * m) (e 0)) (entries_before ws (suc (2 * m)) k (λ i. e (suc i)))
    ∙ entries_before ws (2 * m) (suc k) e
    ∙ ap (λ c. with_entries ws (2 * m) c e) all
  where
    m : ℕ
    m = j - 1

    k : ℕ
    k = 2 * (n - j)

    x : Entry ℕ
    x = entry_of vs 0 m

    e : ℕ → Entry ℕ
    e i = entry_of ws 0 (m + i / 2)

    next : 2 * m + 1 ≡ suc (2 * m)
    next = omega arith

    all : suc (suc k) ≡ 2 * (n - m)
    all = omega arith

    is : x ≡ entry_of ws 0 m
    is =
        ap (λ v. entry_of v 0 m) s
        ∙ entries_other ws (2 * j) (λ i. entry_of ws 0 (j + i / 2)) (2 * (n - j)) m (λ q. absurd (omega arith))

    one_is : entry_of ws 0 m ≡ e 1
    one_is = let h : m ≡ m + 1 / 2 = omega arith in ap (entry_of ws 0) h

    zero_is : entry_of ws 0 m ≡ e 0
    zero_is = let h : m ≡ m + 0 / 2 = omega arith in ap (entry_of ws 0) h

    from : 2 * j ≡ suc (suc (2 * m))
    from = omega arith

    rest : spread_from ws n j ≡ with_entries ws (suc (suc (2 * m))) k (λ i. e (suc (suc i)))
    rest =
        entries_ext ws (2 * j) k (λ i. entry_of ws 0 (j + i / 2)) (λ i. e (suc (suc i)))
        (λ i. let h : j + i / 2 ≡ m + suc (suc i) / 2 = omega arith in ap (entry_of ws 0) h)
        ∙ ap (λ a. with_entries ws a k (λ i. e (suc (suc i)))) from

-- a block asks its entries only below 2^H, and below 2^θ
pub block_ext : (θ H level back forward : ℕ) (e e' : ℕ → Entry ℕ) → ((j : ℕ) → j < 2 ^ H → j < 2 ^ θ → e j ≡ e' j)
    → block θ H level back forward e ≡ block θ H level back forward e'
unfolding block
block_ext θ H level back forward e e' same =
    ap (λ es. H ∷ level ∷ back ∷ forward ∷ entry_words es) (tab_ext (2 ^ θ) (kept H e) (kept H e') at)
  where
    at : (j : ℕ) → j < 2 ^ θ → kept H e j ≡ kept H e' j
    at j l =
        elim (dec_lt j (2 ^ H)) [
          | yes q ↦ kept_in H e j q ∙ same j q l ∙ sym (kept_in H e' j q)
          | no q ↦ kept_out H e j (omega arith) ∙ sym (kept_out H e' j (omega arith))
        ]

-- the rest of a list, from index a on, lent and given back
rest_all : (a : ℕ) (xs : List ℕ) → take (length xs - a) (drop a xs) ≡ drop a xs
rest_all a xs = take_all (length xs - a) (drop a xs) (omega (arith, length-drop a xs))

rest_back : (a : ℕ) (xs ys : List ℕ) → take a xs ++ (ys ++ drop (length xs - a) (drop a xs)) ≡ take a xs ++ ys
rest_back a xs ys =
    ap (λ l. take a xs ++ (ys ++ l)) (drop_of_length-le (drop a xs) {i = length xs - a} (omega (arith, length-drop a xs)))
    ∙ ap (λ l. take a xs ++ l) (append-nil ys)

-- the rest of a list, after a front p, cleared
pub rest_cleared : (a : ℕ) (p q xs ys : List ℕ) → xs ≡ p ++ q → length p ≡ a
    → ys ≡ replicate (length (take (length xs - a) (drop a xs))) 0
    → take a xs ++ (ys ++ drop (length xs - a) (drop a xs)) ≡ p ++ replicate (length q) 0
rest_cleared a p q xs ys e long zeros =
    rest_back a xs ys
    ∙ ap₂ (λ l m. l ++ m) (ap (take a) e ∙ take_at p q a long)
    (zeros ∙ ap (λ l. replicate (length l) 0) (rest_all a xs ∙ ap (drop a) e ∙ drop_at p q a long))

-- words in pairs
pairs_are : (n : ℕ) (ws : List ℕ) → 2 * n ≤ length ws
    → take (2 * n) ws ≡ entry_words (tab n (λ j. (get_or ws (2 * j) 0, get_or ws (2 * j + 1) 0)))
unfolding tab
pairs_are zero ws h = refl
pairs_are (suc n) [] h = absurd (omega arith)
pairs_are (suc n) (x ∷ []) h = absurd (omega arith)
pairs_are (suc n) (x ∷ y ∷ ws) h =
    let two : 2 * suc n ≡ suc (suc (2 * n)) = omega arith in
    ap (λ m. take m (x ∷ y ∷ ws)) two
    ∙ ap (λ l. x ∷ y ∷ l)
    (pairs_are n ws (omega arith)
    ∙ ap entry_words (tab_ext n _ _ (λ j l. ap₂ (λ a b. (get_or (x ∷ y ∷ ws) a 0, get_or (x ∷ y ∷ ws) b 0)) (even j) (odd j))))
  where
    even : (j : ℕ) → suc (suc (2 * j)) ≡ 2 * suc j
    even j = omega arith

    odd : (j : ℕ) → suc (suc (2 * j + 1)) ≡ 2 * suc j + 1
    odd j = omega arith

-- the entries of words after the first four
pub entries_are : (n : ℕ) (ws : List ℕ) → 4 + 2 * n ≤ length ws → take (2 * n) (drop 4 ws) ≡ entry_words (tab n (entry_of ws 0))
entries_are n [] h = absurd (omega arith)
entries_are n (a ∷ []) h = absurd (omega arith)
entries_are n (a ∷ b ∷ []) h = absurd (omega arith)
entries_are n (a ∷ b ∷ c ∷ []) h = absurd (omega arith)
entries_are n (a ∷ b ∷ c ∷ d ∷ ws) h =
    pairs_are n ws (omega arith)
    ∙ ap entry_words (tab_ext n _ _ (λ j l. ap₂ (λ x y. (get_or (a ∷ b ∷ c ∷ d ∷ ws) x 0, get_or (a ∷ b ∷ c ∷ d ∷ ws) y 0)) (even j) (odd j)))
  where
    even : (j : ℕ) → suc (suc (suc (suc (2 * j)))) ≡ 4 + 2 * j
    even j = omega arith

    odd : (j : ℕ) → suc (suc (suc (suc (2 * j + 1)))) ≡ 5 + 2 * j
    odd j = omega arith

-- words with another front of four
abbrev pub headed : ℕ → ℕ → ℕ → ℕ → List ℕ → List ℕ
headed H level back forward ws = set (set (set (set ws 0 H) 1 level) 2 back) 3 forward

-- a block whose first four words are written, and whose words behind the entries in use are cleared
module _ (θ H level back forward : ℕ) (ws : List ℕ) where
  abbrev t : List ℕ
  t = headed H level back forward ws

  pub settled : (n : ℕ) (ys : List ℕ) → H ≤ θ → length ws ≡ node_words θ → n ≡ 2 ^ H
      → ys ≡ replicate (length (take (length t - (4 + 2 * n)) (drop (4 + 2 * n) t))) 0
      → take (4 + 2 * n) t ++ (ys ++ drop (length t - (4 + 2 * n)) (drop (4 + 2 * n) t)) ≡ block θ H level back forward (entry_of ws 0)
  unfolding block node_words
  settled n ys low long en zeros =
      let fits : 4 + 2 * n ≤ length ws = omega (arith, pow_mono {i = H} {j = θ} low) in
      let p : List ℕ = H ∷ level ∷ back ∷ forward ∷ take (2 * n) (drop 4 ws) in
      let q : List ℕ = drop (2 * n) (drop 4 ws) in
      let split : t ≡ p ++ q =
      set_four ws H level back forward (omega arith)
      ∙ ap (λ l. H ∷ level ∷ back ∷ forward ∷ l) (sym (take-append-drop (2 * n) (drop 4 ws))) in
      let front : length p ≡ 4 + 2 * n = omega (arith, length-take-le (2 * n) (drop 4 ws) (omega (arith, length-drop 4 ws))) in
      let left : length q ≡ 2 * (2 ^ θ - 2 ^ H) = omega (arith, length-drop (2 * n) (drop 4 ws), length-drop 4 ws) in
      rest_cleared (4 + 2 * n) p q t ys split front zeros
      ∙ ap₂ (λ l m. H ∷ level ∷ back ∷ forward ∷ (l ++ replicate m 0))
      (entries_are n ws (omega arith) ∙ ap (λ m. entry_words (tab m (entry_of ws 0))) en) left
      ∙ ap (λ l. H ∷ level ∷ back ∷ forward ∷ l) (sym (block_entries θ H (entry_of ws 0) low))

-- the words of a block, and of its entries in use
pub four_words : (θ : ℕ) → 4 ≤ node_words θ
unfolding node_words
four_words θ = omega arith

pub entries_room : (θ H : ℕ) {n : ℕ} → H ≤ θ → n ≡ node_words θ → 4 + 2 * 2 ^ H ≤ n
unfolding node_words
entries_room θ H low long = omega (arith, pow_mono {i = H} {j = θ} low)

-- a root's two entries
pub root_words : (θ level a c : ℕ) (ws : List ℕ) {one two : List ℕ} → 8 ≤ length ws → one ≡ with_entry ws 0 (1, a)
    → two ≡ with_entry one 1 (1, c) → block θ 1 level 0 0 (entry_of two 0) ≡ top θ level a c
unfolding top halves
root_words θ level a c ws {one} {two} long first second =
    ap (λ vs. block θ 1 level 0 0 (entry_of vs 0)) (second ∙ ap (λ vs. with_entry vs 1 (1, c)) first)
    ∙ block_ext θ 1 level 0 0 _ (halves 2 0 a c) (λ j h _. at j h)
  where
    left : List ℕ
    left = with_entry ws 0 (1, a)

    at : (j : ℕ) → j < 2 → entry_of (with_entry left 1 (1, c)) 0 j ≡ halves 2 0 a c j
    at zero h = with_other left 1 (1, c) 0 (λ e. omega arith) ∙ with_same ws 0 (1, a) (omega arith)
    at (suc zero) h = with_same left 1 (1, c) (omega (arith, length_with ws 0 (1, a)))
    at (suc (suc j)) h = absurd (omega arith)

-- an array beside the store, of as many words as the largest block
abbrev pub spare : List ℕ
spare = replicate 132 0

-- a part lent from the front of an array
pub front_long : (xs : List ℕ) (n : ℕ) → n ≤ length xs → length (take (n - 0) (drop 0 xs)) ≡ n
front_long xs n l = let z : n - 0 ≡ n = omega arith in ap (λ m. length (take m xs)) z ∙ length-take-le n xs l

-- and given back as vs
module _ (xs : List ℕ) (n : ℕ) {ys vs : List ℕ} (long : length ys ≡ n) (is : ys ≡ vs) where
  abbrev back : List ℕ
  back = take 0 xs ++ (ys ++ drop (n - 0) (drop 0 xs))

  pub front_room : n ≤ length back
  front_room = omega (arith, length-append ys (drop (n - 0) (drop 0 xs)))

  pub front_is : take (n - 0) (drop 0 back) ≡ vs
  front_is = let z : n - 0 ≡ n = omega arith in ap (λ m. take m back) z ∙ take_at ys (drop (n - 0) (drop 0 xs)) n long ∙ is

  pub length_front : length (take (n - 0) (drop 0 back)) ≡ n
  length_front = front_long back n front_room

  pub front_set : (i x : ℕ) → i < n → take (n - 0) (drop 0 (set back i x)) ≡ set vs i x
  front_set i x l =
      let z : n - 0 ≡ n = omega arith in
      ap (λ m. take m (set back i x)) z ∙ take-set-lt n back i x l
      ∙ ap (λ t. set t i x) (take_at ys (drop (n - 0) (drop 0 xs)) n long ∙ is)

  pub length_front_set : (i x : ℕ) → length (take (n - 0) (drop 0 (set back i x))) ≡ n
  length_front_set i x = front_long (set back i x) n (simp length-set front_room)

-- a node block of the store, and that block lent as a part of it
pub node_long : (s : List ℕ) (h : Head) (n : ℕ) → node_start h n + node_words h.theta ≤ length s
    → length (node_at s h n) ≡ node_words h.theta
unfolding node_at
node_long s h n l = length_part s (node_start h n) (node_words h.theta) l

module _ (s : List ℕ) (h : Head) (n : ℕ) {a w : ℕ} (start : a ≡ node_start h n) (words : w ≡ node_words h.theta) where
  pub node_lent : node_start h n + node_words h.theta ≤ length s → take (a + w - a) (drop a s) ≡ node_at s h n
  unfolding node_at
  node_lent l =
      let e : a + w - a ≡ w = omega arith in
      rw (e, start, words) (sym (part_in_lem s (node_start h n) (node_words h.theta) l))

  pub node_back : {ws vs : List ℕ} → ws ≡ vs
      → take a s ++ (ws ++ drop (a + w - a) (drop a s)) ≡ replaced (node_start h n) (node_words h.theta) vs s
  unfolding replaced
  node_back {ws} {vs} g =
      let e : a + w - a ≡ w = omega arith in
      rw (e, start, words, g) (ap (λ l. take (node_start h n) s ++ (vs ++ l)) (drop-drop (node_words h.theta) (node_start h n) s))

-- its first word
pub node_depth : (s : List ℕ) (h : Head) (n : ℕ) {a : ℕ} → a ≡ node_start h n → node_start h n + node_words h.theta ≤ length s
    → get_or s a 0 ≡ depth_word (node_at s h n) 0
unfolding node_at
node_depth s h n start l =
    ap (λ x. get_or s x 0) start
    ∙ sym (ap (λ ws. depth_word ws 0) (part_in_lem s (node_start h n) (node_words h.theta) l)
    ∙ get_or-take (node_words h.theta) (drop (node_start h n) s) 0 0 (omega (arith, four_words h.theta))
    ∙ get_or-drop (node_start h n) s 0 0 ∙ ap (λ x. get_or s x 0) (add-zero (node_start h n)))

-- another link alone
pub forward_only : (ws : List ℕ) (m : ℕ) → linked ws (back_word ws 0) m ≡ set ws 3 m
unfolding linked
forward_only ws m = ap (λ t. set t 3 m) (set-get_or ws 2 0)

pub back_only : (ws : List ℕ) (m : ℕ) → linked ws m (forward_word ws 0) ≡ set ws 2 m
unfolding linked
back_only ws m = ap (set (set ws 2 m) 3) (sym (get_or-set_other ws 2 3 m 0 (λ e. omega arith))) ∙ set-get_or (set ws 2 m) 3 0

-- the back link of a node block where it stands
module _ (s : List ℕ) (h : Head) (n m : ℕ) (inside : node_start h n + node_words h.theta ≤ length s) where
  abbrev ws : List ℕ
  ws = node_at s h n

  abbrev a : ℕ
  a = node_start h n

  abbrev w : ℕ
  w = node_words h.theta

  block_is_part : ws ≡ take w (drop a s)
  unfolding node_at
  block_is_part = part_in_lem s a w inside

  pub relinked : {b : ℕ} → b ≡ node_start h n → set s (b + 2) m ≡ replaced a w (linked ws m (forward_word ws 0)) s
  unfolding replaced
  relinked e =
      let short : 2 < length (take w (drop a s)) = omega (arith, ap length block_is_part, node_long s h n inside, four_words h.theta) in
      ap (λ x. set s (x + 2) m) e
      ∙ sym (set_mid_at a w 2 s m short)
      ∙ ap (λ l. take a s ++ (set (take w (drop a s)) 2 m ++ l)) (drop-drop w a s)
      ∙ ap (λ l. take a s ++ (l ++ drop (a + w) s)) (ap (λ l. set l 2 m) (sym block_is_part) ∙ sym (back_only ws m))
