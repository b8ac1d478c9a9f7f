-- Pages that are written, as page images: the words of records stand one after another, so a page's words are cut where its list of
-- records is cut, and a record's words stand between those of the records before it and behind it.
use mathlib.Core.Path.{◌≡◌, refl, sym, ap, ◌∙◌}
use mathlib.Core.Bool.{true, false}
use mathlib.Core.List.{List, [], ◌∷◌, ◌++◌, append_assoc, append-nil}
use Prim.Native.Nat.{ℕ, zero, suc, ◌+◌, ◌-◌, ◌*◌, ◌≤◌, ◌<◌}
use native.Mathlib.Numerals.{add-one}
use native.Mathlib.Omega.{arith}
use borrow.Author.Tests.{ltb-true, ltb-false}
use lib.ListN.{length, get_or, take, drop, set, replicate, length-append, length-drop, length-replicate, take-append-drop}
use lib.Seq.{length-take-le, drop_at}
use Rattle.lists.specs.Bits.{bit}
use Rattle.lists.specs.Lists.{All, replaced}
use Rattle.lists.specs.Keyed.{Sorted, Prefix, insert}
use Rattle.lists.proofs.Shifts.{shares}
use Rattle.lists.proofs.KeyedLaws.{insert_lt, insert_ge}
use Rattle.tree.specs.Build.{side}
use Rattle.tree.proofs.BuildLaws.{sides_low, sides_high}
use Rattle.store.specs.declared.Format.{Format}
use Rattle.store.specs.declared.Format.TheVariants.{Plots}
use Rattle.store.specs.declared.Item.{Item}
use Rattle.store.specs.Format.{width, words}
use Rattle.store.specs.Head.{page_words}
use Rattle.page.specs.Page.{count, key_at, lawful_item, above, first_above, item_words, flat}
use Rattle.page.specs.Schema.{key_of}
use Rattle.page.proofs.Flat.{length_flat, flat_append}
use Rattle.page.proofs.Laws.{First, first_facts}
use Rattle.search.specs.Find.{no_item}
use Rattle.represent.specs.Image.{page_image}
use Rattle.represent.proofs.PageImage.{page_count_lem, page_key}
use Rattle.put.specs.Put.{cut_to}
use Rattle.put.proofs.WordLaws.{row, end, returned, end_cleared, end_written, moved_up_lem, zeros_less}

pub width_small : (f : Format) → width f ≤ 64
unfolding width
width_small Plots = omega arith

-- room for n records of C, the first i apart, and for one more between those and the others
module _ (f : Format) (C w n L : ℕ) (is : w ≡ words f) (long : L ≡ page_words f C) where
  pub room_for : n ≤ C → 1 + w * n ≤ L
  unfolding page_words
  room_for h = rw (long, is) (omega (arith, shares (words f) n C h))

  pub room_cut : (i : ℕ) → i ≤ n → n ≤ C → 1 + w * i + w * (n - i) ≤ L
  room_cut i l h = omega (arith, room_for h, shares w i n l)

  pub room_more : (i : ℕ) → i ≤ n → n < C → 1 + w * i + w * (n - i) + w ≤ L
  unfolding page_words
  room_more i l h =
      rw (long, is)
      (omega (arith, shares (words f) i n l, shares (words f) n C (omega arith), shares (words f) 1 (C - n) (omega arith)))

-- a page with room for a record has its words
pub first_room : (f : Format) (C : ℕ) → 1 ≤ C → words f < page_words f C
unfolding page_words
first_room f C h = omega (arith, shares (words f) 1 C h)

-- a page cut to n records
pub cut_words : (f : Format) (C n w : ℕ) (s last : List ℕ) → n ≤ C → length s ≡ page_words f C → w ≡ words f
    → last ≡ replicate (length (end (set s 0 n) (1 + w * n))) 0
    → returned (set s 0 n) (1 + w * n) last ≡ cut_to f C n s
unfolding page_words cut_to
cut_words f C n w [] last h long is e = absurd (omega arith)
cut_words f C n w (x ∷ xs) last h long is e =
    let m : ℕ = words f * n in
    let size : length xs ≡ m + words f * (C - n) = omega (arith, shares (words f) n C h) in
    let front : length (n ∷ take m xs) ≡ 1 + w * n = rw is (omega (arith, length-take-le m xs (omega arith))) in
    let behind : length (drop m xs) ≡ words f * (C - n) = omega (arith, length-drop m xs) in
    end_cleared (n ∷ take m xs) (drop m xs) (n ∷ xs) (1 + w * n) (ap (λ t. n ∷ t) (sym (take-append-drop m xs))) front last e
    ∙ ap (λ k. n ∷ (take m xs ++ replicate k 0)) behind

-- a page of one record, written into zeros
pub first_words : (f : Format) (C : ℕ) (it : Item) (s t last : List ℕ) → 1 ≤ C → length s ≡ page_words f C
    → t ≡ set (replicate (length s) 0) 0 1 → last ≡ item_words f it ++ drop (words f) (end t 1)
    → returned t 1 last ≡ page_image f C (it ∷ [])
unfolding page_image flat page_words
first_words f C it s t last h long is e =
    let size : length s ≡ suc (words f * C) = omega (arith, long) in
    end_written (1 ∷ []) (replicate (words f * C) 0) t 1 (is ∙ rw size) refl (item_words f it) (words f) last e
    ∙ ap (λ k. 1 ∷ (item_words f it ++ k)) (zeros_less (words f) (words f * (C - 1)) (words f * C) (omega (arith, shares (words f) 1 C h)))
    ∙ ap (λ k. 1 ∷ (k ++ replicate (words f * (C - 1)) 0)) (sym (append-nil (item_words f it)))

-- the zeros of a page with the records rs
abbrev pub blank : Format → ℕ → List Item → List ℕ
blank f C rs = replicate (words f * (C - length rs)) 0

module _ (f : Format) (rs : List Item) (i : ℕ) (within : i ≤ length rs) where
  pub size_front : length (take i rs) ≡ i
  size_front = length-take-le i rs within

  -- the words of the first i records, and those of the others
  abbrev pub low : List ℕ
  low = flat f (take i rs)

  abbrev pub high : List ℕ
  high = flat f (drop i rs)

  pub length_low : length low ≡ words f * i
  length_low = length_flat f (take i rs) ∙ ap (λ n. words f * n) size_front

  pub length_high : length high ≡ words f * (length rs - i)
  length_high = length_flat f (drop i rs) ∙ ap (λ n. words f * n) (length-drop i rs)

  flat_sides : flat f rs ≡ low ++ high
  flat_sides = ap (flat f) (sym (take-append-drop i rs)) ∙ flat_append f (take i rs) (drop i rs)

  module _ (C : ℕ) where
    abbrev zeros : List ℕ
    zeros = blank f C rs

    pub image_sides : page_image f C rs ≡ (length rs ∷ low) ++ (high ++ zeros)
    unfolding page_image
    image_sides = ap (λ l. length rs ∷ (l ++ zeros)) flat_sides ∙ ap (λ l. length rs ∷ l) (append_assoc low high zeros)

    -- a page that is not full has the zeros of one record more
    less : length rs < C → words f * (C - length rs) ≡ words f + words f * (C - suc (length rs))
    less h =
        let e : C - length rs ≡ 1 + (C - suc (length rs)) = omega arith in
        omega (arith, ap (λ (m : ℕ). words f * m) e)

    -- the record between the two
    put_image : (it : Item) → length rs < C
        → suc (length rs) ∷ (low ++ (item_words f it ++ (high ++ drop (words f) zeros))) ≡ page_image f C (take i rs ++ it ∷ drop i rs)
    unfolding page_image flat
    put_image it h =
        let more : length (take i rs ++ it ∷ drop i rs) ≡ suc (length rs) =
        length-append (take i rs) (it ∷ drop i rs) ∙ omega (arith, size_front, length-drop i rs) in
        rw (
          more,
          flat_append f (take i rs) (it ∷ drop i rs),
          zeros_less (words f) (words f * (C - suc (length rs))) (words f * (C - length rs)) (less h),
        )
        (simp append_assoc)

    put_here : (it : Item) (s t last : List ℕ) → s ≡ page_image f C rs → length rs < C
        → t ≡ replaced (1 + words f * i + words f) (words f * (length rs - i)) (row s (1 + words f * i) (words f * (length rs - i))) s
        → last ≡ item_words f it ++ drop (words f) (end t (1 + words f * i))
        → set (returned t (1 + words f * i) last) 0 (length rs + 1) ≡ page_image f C (take i rs ++ it ∷ drop i rs)
    put_here it s t last is h e q =
        let H : List ℕ = length rs ∷ low in
        let free : List ℕ = take (words f) (high ++ zeros) in
        let moved : List ℕ = high ++ drop (words f) zeros in
        let size : length H ≡ 1 + words f * i = omega (arith, length_low) in
        let opened : t ≡ H ++ (free ++ moved) =
        moved_up_lem H high zeros s t (words f) (1 + words f * i) (words f * (length rs - i)) (is ∙ image_sides) size length_high e in
        let long : words f ≤ length (high ++ zeros) =
        omega (arith, length-append high zeros, length-replicate {A = ℕ} (words f * (C - length rs)) 0, less h) in
        ap (λ l. set l 0 (length rs + 1)) (end_written H (free ++ moved) t (1 + words f * i) opened size (item_words f it) (words f) last q)
        ∙ ap (λ l. (length rs + 1) ∷ (low ++ (item_words f it ++ l)))
        (drop_at free moved (words f) (length-take-le (words f) (high ++ zeros) long))
        ∙ ap (λ k. k ∷ (low ++ (item_words f it ++ moved))) (add-one (length rs))
        ∙ put_image it h

-- the words that `put_record` leaves
pub put_words : (f : Format) (C : ℕ) (rs : List Item) (it : Item) (s t last : List ℕ) (w n i : ℕ) → s ≡ page_image f C rs → i ≤ n → n < C
    → n ≡ length rs → w ≡ words f
    → t ≡ replaced (1 + w * i + w) (w * (n - i)) (row s (1 + w * i) (w * (n - i))) s
    → last ≡ item_words f it ++ drop (words f) (end t (1 + w * i))
    → set (returned t (1 + w * i) last) 0 (n + 1) ≡ page_image f C (take i rs ++ it ∷ drop i rs)
put_words f C rs it s t last w n i is h l e d =
    rw (e, d) (put_here f rs i (omega arith) C it s t last is (omega arith))

-- a number that is the first of a kind in an ascending list cuts the list
module _ {R : Type 0} (key : R → ℕ) (z : R) where
  insert_at : (it : R) (rs : List R) (r : ℕ) → r ≤ length rs → ((j : ℕ) → j < r → key (get_or rs j z) ≤ key it)
      → (r < length rs → key it < key (get_or rs r z)) → insert key it rs ≡ take r rs ++ it ∷ drop r rs
  unfolding insert
  insert_at it [] zero h before found = refl
  insert_at it [] (suc r) h before found = absurd (omega arith)
  insert_at it (x ∷ xs) zero h before found = insert_lt key it x xs (found (omega arith))
  insert_at it (x ∷ xs) (suc r) h before found =
      insert_ge key it x xs (before 0 (omega arith))
      ∙ ap (λ (l : List R). x ∷ l)
      (insert_at it xs r (omega arith) (λ j l. before (suc j) (omega arith)) (λ l. found (omega arith)))

  sides_at : (w q : ℕ) (rs : List R) (r : ℕ) → r ≤ length rs → ((j : ℕ) → j < r → bit w (key (get_or rs j z)) ≡ false)
      → (r < length rs → bit w (key (get_or rs r z)) ≡ true) → Sorted key rs → Prefix key (suc w) q rs
      → (take r rs ≡ side key false w rs) × (drop r rs ≡ side key true w rs)
  sides_at w q [] zero h before found s p = (refl, refl)
  sides_at w q [] (suc r) h before found s p = absurd (omega arith)
  sides_at w q (x ∷ xs) zero h before found s p =
      let all = sides_high key w q x xs s p (found (omega arith)) in
      (sym all.0, sym all.1)
  sides_at w q (x ∷ xs) (suc r) h before found s p =
      let one = sides_low key w x xs (before 0 (omega arith)) in
      let rest =
      sides_at w q xs r (omega arith) (λ j l. before (suc j) (omega arith)) (λ l. found (omega arith)) s.1 p.1 in
      (ap (λ (l : List R). x ∷ l) rest.0 ∙ sym one.0, rest.1 ∙ sym one.1)

-- a page's number of a record is the list's
module _ (f : Format) (C : ℕ) (pg : List ℕ) (rs : List Item) (is : pg ≡ page_image f C rs)
    (lawful : All (λ it. lawful_item f it ≡ true) rs) where
  size : count pg ≡ length rs
  size = page_count_lem f C pg rs is

  at : (j : ℕ) → j < length rs → key_at f pg j ≡ (get_or rs j no_item).key
  at = page_key f C pg rs is lawful

  pub insert_first : (it : Item) (r : ℕ) → r ≡ first_above f pg true it.key → insert key_of it rs ≡ take r rs ++ it ∷ drop r rs
  unfolding above
  insert_first it r e =
      let k : ℕ = it.key in
      let first : First f pg true k r = rw e (first_facts f pg true k) in
      insert_at key_of no_item it rs r (omega (arith, first.within, size))
      (λ j l. rw (at j (omega (arith, first.within, size))) at (ltb-false k (key_at f pg j) (first.before j l)))
      (λ l. rw (at r l) at (ltb-true k (key_at f pg r) (first.found (omega (arith, size)))))

  pub low_first : (w q r : ℕ) → r ≤ count pg → ((j : ℕ) → j < r → bit w (key_at f pg j) ≡ false)
      → (r < count pg → bit w (key_at f pg r) ≡ true) → Sorted key_of rs → Prefix key_of (suc w) q rs
      → (take r rs ≡ side key_of false w rs) × (drop r rs ≡ side key_of true w rs)
  low_first w q r h before found =
      sides_at key_of no_item w q rs r (omega (arith, size))
      (λ j l. rw (at j (omega (arith, size))) at (before j l))
      (λ l. rw (at r l) at (found (omega (arith, size))))
