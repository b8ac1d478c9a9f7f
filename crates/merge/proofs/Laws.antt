-- Pages in hand: words that are moved and then cut are the image of the records whose words stand in front.
use mathlib.Core.Path.{◌≡◌, refl, sym, ap, ◌∙◌}
use mathlib.Core.Bool.{Bool, true, false, not}
use mathlib.Core.List.{List, [], ◌∷◌, ◌++◌, append_assoc}
use Prim.Native.Nat.{ℕ, zero, suc, ◌+◌, ◌-◌, ◌*◌, ◌≤◌, ◌<◌}
use native.Mathlib.Omega.{arith}
use borrow.Author.Tests.{eq-eqb, ne_eqb}
use lib.Dec.{eqb}
use lib.ListN.{length, get_or, take, drop, replicate, length-append, length-drop}
use lib.Seq.{length-take-le, take_at, drop_at}
use Rattle.lists.specs.Lists.{All, replaced}
use Rattle.lists.specs.Keyed.{Sorted}
use Rattle.lists.proofs.Shifts.{shares}
use Rattle.lists.proofs.AppendLaws.{all_at}
use Rattle.lists.proofs.ListLaws.{all_map, filter_true, filter_false}
use Rattle.store.specs.declared.Format.{Format}
use Rattle.store.specs.declared.Item.{Item}
use Rattle.store.specs.Format.{words}
use Rattle.store.specs.Head.{page_words}
use Rattle.page.specs.Page.{count, key_at, lawful_item, flat}
use Rattle.page.specs.Schema.{key_of}
use Rattle.page.proofs.Flat.{length_flat, flat_append}
use Rattle.search.specs.Find.{no_item}
use Rattle.represent.specs.Image.{page_image}
use Rattle.represent.proofs.PageImage.{page_count_lem, page_key}
use Rattle.put.specs.Put.{cut_to}
use Rattle.put.proofs.WordLaws.{row}
use Rattle.put.proofs.PutLaws.{room_for, blank, length_low, length_high, image_sides}
use Rattle.joins.specs.Joins.{without}
use Rattle.merge.specs.Added.{added}
use Rattle.joins.proofs.ListLaws.{without_lacks}

-- records whose words stand first
pub cut_image : (f : Format) (C n : ℕ) (rs : List Item) (ws : List ℕ) → n ≡ length rs → take (words f * n) (drop 1 ws) ≡ flat f rs
    → cut_to f C n ws ≡ page_image f C rs
unfolding cut_to page_image
cut_image f C n rs ws e is =
    ap (λ l. n ∷ (l ++ replicate (words f * (C - n)) 0)) is ∙ ap (λ k. k ∷ (flat f rs ++ replicate (words f * (C - k)) 0)) e

-- two rows, the first of them behind one word
two_rows : (x : List ℕ) (A B R : List ℕ) (m : ℕ) → length x ≡ 1 → length A + length B ≡ m → take m (drop 1 (x ++ (A ++ (B ++ R)))) ≡ A ++ B
two_rows x A B R m one e =
    ap (take m) (drop_at x (A ++ (B ++ R)) 1 one ∙ sym (append_assoc A B R))
    ∙ take_at (A ++ B) R m (length-append A B ∙ e)

module _ (f : Format) (C : ℕ) (rs : List Item) (s : List ℕ) (is : s ≡ page_image f C rs) where
  front : (i : ℕ) → i ≤ length rs → take (1 + words f * i) s ≡ length rs ∷ flat f (take i rs)
  front i h =
      ap (take (1 + words f * i)) (is ∙ image_sides f rs i h C)
      ∙ take_at (length rs ∷ flat f (take i rs)) (flat f (drop i rs) ++ blank f C rs) (1 + words f * i) (omega (arith, length_low f rs i h))

  behind : (i : ℕ) → i ≤ length rs → row s (1 + words f * i) (words f * (length rs - i)) ≡ flat f (drop i rs)
  behind i h =
      ap (λ l. take (words f * (length rs - i)) (drop (1 + words f * i) l)) (is ∙ image_sides f rs i h C)
      ∙ ap (take (words f * (length rs - i)))
      (drop_at (length rs ∷ flat f (take i rs)) (flat f (drop i rs) ++ blank f C rs) (1 + words f * i) (omega (arith, length_low f rs i h)))
      ∙ take_at (flat f (drop i rs)) (blank f C rs) (words f * (length rs - i)) (length_high f rs i h)

  -- the words of all records
  pub records : row s 1 (words f * length rs) ≡ flat f rs
  unfolding page_image
  records =
      ap (λ l. take (words f * length rs) (drop 1 l)) is
      ∙ take_at (flat f rs) (blank f C rs) (words f * length rs) (length_flat f rs)

  pub front_all : take (1 + words f * length rs) s ≡ length rs ∷ flat f rs
  unfolding page_image
  front_all =
      ap (take (1 + words f * length rs)) is
      ∙ take_at (length rs ∷ flat f rs) (blank f C rs) (1 + words f * length rs) (omega (arith, length_flat f rs))

  out_here : (i : ℕ) (t : List ℕ) → i < length rs
      → t ≡ replaced (1 + words f * i) (words f * (length rs - suc i)) (row s (1 + words f * suc i) (words f * (length rs - suc i))) s
      → cut_to f C (length rs - 1) t ≡ page_image f C (take i rs ++ drop (suc i) rs)
  unfolding replaced
  out_here i t h e =
      let A : List ℕ = flat f (take i rs) in
      let B : List ℕ = flat f (drop (suc i) rs) in
      let m : ℕ = words f * (length rs - suc i) in
      let R : List ℕ = drop (1 + words f * i + m) s in
      let less : length rs - suc i ≡ length rs - 1 - i = omega arith in
      let size : length A + length B ≡ words f * (length rs - 1) =
      omega (
        arith,
        length_low f rs i (omega arith),
        length_high f rs (suc i) (omega arith),
        shares (words f) i (length rs - 1) (omega arith),
        ap (λ k. words f * k) less,
      ) in
      let many : length rs - 1 ≡ length (take i rs ++ drop (suc i) rs) =
      omega (arith, length-append (take i rs) (drop (suc i) rs), length-take-le i rs (omega arith), length-drop (suc i) rs) in
      let is_t : t ≡ (length rs ∷ []) ++ (A ++ (B ++ R)) = e ∙ rw (front i (omega arith), behind (suc i) (omega arith)) in
      cut_image f C (length rs - 1) (take i rs ++ drop (suc i) rs) t many
      (ap (λ l. take (words f * (length rs - 1)) (drop 1 l)) is_t ∙ two_rows (length rs ∷ []) A B R (words f * (length rs - 1)) refl size
      ∙ sym (flat_append f (take i rs) (drop (suc i) rs)))

  pub out_words : (i n w : ℕ) (t : List ℕ) → n ≡ length rs → w ≡ words f → i < n
      → t ≡ replaced (1 + w * i) (w * (n - 1 - i)) (row s (1 + w * i + w) (w * (n - 1 - i))) s
      → cut_to f C (n - 1) t ≡ page_image f C (take i rs ++ drop (suc i) rs)
  out_words i n w t a b h =
      let less : length rs - 1 - i ≡ length rs - suc i = omega arith in
      let next : 1 + words f * i + words f ≡ 1 + words f * suc i = omega arith in
      rw (a, b, less, next) (out_here i t (omega (arith, a)))

  module _ (its : List Item) (o : List ℕ) (os : o ≡ page_image f C its) where
    behind_here : (t : List ℕ) → t ≡ replaced (1 + words f * length rs) (words f * length its) (row o 1 (words f * length its)) s
        → row o 1 (words f * length its) ≡ flat f its
        → cut_to f C (length rs + length its) t ≡ page_image f C (rs ++ its)
    unfolding replaced
    behind_here t e g =
        let R : List ℕ = drop (1 + words f * length rs + words f * length its) s in
        let is_t : t ≡ (length rs ∷ []) ++ (flat f rs ++ (flat f its ++ R)) = e ∙ rw (front_all, g) in
        let size : length (flat f rs) + length (flat f its) ≡ words f * (length rs + length its) =
        omega (arith, length_flat f rs, length_flat f its) in
        cut_image f C (length rs + length its) (rs ++ its) t (sym (length-append rs its))
        (ap (λ l. take (words f * (length rs + length its)) (drop 1 l)) is_t
        ∙ two_rows (length rs ∷ []) (flat f rs) (flat f its) R (words f * (length rs + length its)) refl size
        ∙ sym (flat_append f rs its))

    before_here : (u t : List ℕ) → 1 + words f * length its ≤ length s
        → u ≡ replaced (1 + words f * length its) (words f * length rs) (row s 1 (words f * length rs)) s
        → t ≡ replaced 1 (words f * length its) (row o 1 (words f * length its)) u
        → row o 1 (words f * length its) ≡ flat f its
        → cut_to f C (length rs + length its) t ≡ page_image f C (its ++ rs)
    unfolding replaced
    before_here u t room d e g =
        let m : ℕ = words f * length its in
        let R : List ℕ = drop (1 + m + words f * length rs) s in
        let F : List ℕ = take (1 + m) s in
        let long : length F ≡ 1 + m = length-take-le (1 + m) s room in
        let is_u : u ≡ F ++ (flat f rs ++ R) = d ∙ rw records in
        let one : length (take 1 u) ≡ 1 = length-take-le 1 u (omega (arith, ap length is_u, length-append F (flat f rs ++ R), long)) in
        let back : drop (1 + m) u ≡ flat f rs ++ R = ap (drop (1 + m)) is_u ∙ drop_at F (flat f rs ++ R) (1 + m) long in
        let is_t : t ≡ take 1 u ++ (flat f its ++ (flat f rs ++ R)) = e ∙ rw (g, back) in
        let size : length (flat f its) + length (flat f rs) ≡ words f * (length rs + length its) =
        omega (arith, length_flat f rs, length_flat f its) in
        cut_image f C (length rs + length its) (its ++ rs) t (omega (arith, length-append its rs))
        (ap (λ l. take (words f * (length rs + length its)) (drop 1 l)) is_t
        ∙ two_rows (take 1 u) (flat f its) (flat f rs) R (words f * (length rs + length its)) one size
        ∙ sym (flat_append f its rs))

-- the same with the numbers that the code has
pub behind_words : (f : Format) (C : ℕ) (rs its : List Item) (s o t : List ℕ) (n m w : ℕ) → s ≡ page_image f C rs → o ≡ page_image f C its
    → n ≡ length rs → m ≡ length its → w ≡ words f → t ≡ replaced (1 + w * n) (w * m) (row o 1 (w * m)) s
    → cut_to f C (n + m) t ≡ page_image f C (rs ++ its)
behind_words f C rs its s o t n m w is os a b c =
    rw (a, b, c) (λ e. behind_here f C rs s is its o os t e (records f C its o os))

pub before_words : (f : Format) (C : ℕ) (rs its : List Item) (s o u t : List ℕ) (n m w : ℕ) → s ≡ page_image f C rs → o ≡ page_image f C its
    → n ≡ length rs → m ≡ length its → w ≡ words f → 1 + w * m ≤ length s → u ≡ replaced (1 + w * m) (w * n) (row s 1 (w * n)) s
    → t ≡ replaced 1 (w * m) (row o 1 (w * m)) u
    → cut_to f C (n + m) t ≡ page_image f C (its ++ rs)
before_words f C rs its s o u t n m w is os a b c =
    rw (a, b, c) (λ room d e. before_here f C rs s is its o os u t room d e (records f C its o os))

-- the record at a number is the only one of its key
module _ {R : Type 0} (key : R → ℕ) (z : R) where
  pub without_at : (rs : List R) (i : ℕ) → i < length rs → Sorted key rs → without key (key (get_or rs i z)) rs ≡ take i rs ++ drop (suc i) rs
  without_at [] i h s = absurd (omega arith)
  without_at (x ∷ xs) zero h s =
      filter_false (λ r. not (eqb (key r) (key x))) x xs (ap not (eq-eqb (key x) (key x) refl))
      ∙ (without_lacks key (key x) xs (all_map (λ y. key x < key y) (λ y. key y ≡ key x → ⊥) xs (λ y l e. omega (arith, l, e)) s.0))
  without_at (x ∷ xs) (suc i) h s =
      let l : key x < key (get_or xs i z) = all_at (λ y. key x < key y) z xs i s.0 (omega arith) in
      filter_true (λ r. not (eqb (key r) (key (get_or xs i z)))) x xs (ap not (ne_eqb (key x) (key (get_or xs i z)) (λ e. omega (arith, l, e))))
      ∙ (ap (λ (k : List R). x ∷ k) (without_at xs i (omega arith) s.1))

pub out_page : (f : Format) (C : ℕ) (pg : List ℕ) (rs : List Item) (i : ℕ) → pg ≡ page_image f C rs → All (λ it. lawful_item f it ≡ true) rs
    → Sorted key_of rs → i < count pg → page_image f C (take i rs ++ drop (suc i) rs) ≡ page_image f C (without key_of (key_at f pg i) rs)
out_page f C pg rs i is lawful sorted h =
    let l : i < length rs = omega (arith, h, page_count_lem f C pg rs is) in
    ap (page_image f C) (sym (without_at key_of no_item rs i l sorted) ∙ ap (λ k. without key_of k rs) (sym (page_key f C pg rs is lawful i l)))

-- room for the words that are moved and copied
module _ (f : Format) (C w L : ℕ) (is : w ≡ words f) (long : L ≡ page_words f C) where
  pub ends_out : (n i : ℕ) → i < n → n ≤ C → (1 + w * n ≡ 1 + w * i + w + w * (n - 1 - i)) × (1 + w * n ≤ L)
  ends_out n i h l =
      let next : w * i + w ≡ w * suc i = omega arith in
      let less : n - 1 - i ≡ n - suc i = omega arith in
      (omega (arith, shares w (suc i) n (omega arith), next, ap (λ k. w * k) less), room_for f C w n L is long l)

  pub room_both : (n m : ℕ) → n + m ≤ C → 1 + w * n + w * m ≤ L
  room_both n m l = omega (arith, room_for f C w (n + m) L is long l)

pub added_before : (b : Bool) (rs its : List Item) → b ≡ true → its ++ rs ≡ added b rs its
unfolding added
added_before b rs its e = ap (λ c. added c rs its) (sym e)

pub added_behind : (b : Bool) (rs its : List Item) → b ≡ false → rs ++ its ≡ added b rs its
unfolding added
added_behind b rs its e = ap (λ c. added c rs its) (sym e)
