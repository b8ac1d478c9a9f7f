-- A page that is halved: the copied words are those of the records from number i on, both pages are written whole, and neither is changed
-- by what is written to the other one.
use mathlib.Core.Path.{◌≡◌, refl, sym, ap, ◌∙◌}
use mathlib.Core.List.{List, ◌∷◌, ◌++◌, append_assoc}
use mathlib.Core.Logic.{◌⊎◌, inl, inr}
use Prim.Native.Nat.{ℕ, ◌+◌, ◌-◌, ◌*◌, ◌≤◌}
use native.Mathlib.Nat.{add-zero}
use native.Mathlib.Omega.{arith}
use lib.ListN.{length, take, drop, replicate, length-drop}
use lib.Seq.{take_at, drop_at, drop-drop, get_or-drop}
use Rattle.lists.specs.Lists.{replaced, part}
use Rattle.lists.proofs.Parts.{part_in_lem, part_next, part_replaced, length_replaced, replaced_below, replaced_above}
use Rattle.lists.proofs.Elsewhere.{Elsewhere, elsewhere_replaced, part_beside}
use Rattle.lists.proofs.Shifts.{shares}
use Rattle.store.specs.declared.Format.{Format}
use Rattle.store.specs.declared.Item.{Item}
use Rattle.store.specs.Format.{words}
use Rattle.store.specs.Head.{word, page_words}
use Rattle.page.specs.Page.{flat}
use Rattle.represent.specs.Image.{page_image}
use Rattle.put.specs.Put.{Halvable, cut_to}
use Rattle.put.proofs.WordLaws.{row, length_row, lent, lent_is, over_two, inner_row}
use Rattle.put.proofs.PutLaws.{room_for, room_cut, size_front, blank, length_low, length_high, image_sides}

module _ (f : Format) (C : ℕ) (rs : List Item) (i : ℕ) (within : i ≤ length rs) where
  cut_low : cut_to f C i (page_image f C rs) ≡ page_image f C (take i rs)
  unfolding cut_to page_image
  cut_low =
      let Z : List ℕ = blank f C rs in
      ap (λ l. i ∷ (take (words f * i) (drop 1 l) ++ replicate (words f * (C - i)) 0)) (image_sides f rs i within C)
      ∙ ap (λ l. i ∷ (l ++ replicate (words f * (C - i)) 0))
      (take_at (flat f (take i rs)) (flat f (drop i rs) ++ Z) (words f * i) (length_low f rs i within))
      ∙ ap (λ k. k ∷ (flat f (take i rs) ++ replicate (words f * (C - k)) 0)) (sym (size_front f rs i within))

  cut_high : (ws : List ℕ) → take (words f * (length rs - i)) (drop 1 ws) ≡ flat f (drop i rs)
      → cut_to f C (length rs - i) ws ≡ page_image f C (drop i rs)
  unfolding cut_to page_image
  cut_high ws e =
      ap (λ l. (length rs - i) ∷ (l ++ replicate (words f * (C - (length rs - i))) 0)) e
      ∙ ap (λ k. k ∷ (flat f (drop i rs) ++ replicate (words f * (C - k)) 0)) (sym (length-drop i rs))

-- the words of the records from number i on, and the room for them
pub copy_fits : (f : Format) (C from to i w n : ℕ) (s : List ℕ) → Halvable f s C from to i → w ≡ words f → n ≡ word s from
    → (from + 1 + w * n ≡ from + 1 + w * i + w * (n - i)) × (from + 1 + w * n ≤ length s) × (to + 1 + w * (n - i) ≤ length s)
copy_fits f C from to i w n s ready is e =
    let in_all : w * i + w * (n - i) ≡ w * n = shares w i n (omega (arith, ready.within)) in
    let room : 1 + w * n ≤ page_words f C = room_for f C w n (page_words f C) is refl (omega (arith, ready.fits)) in
    (omega (arith, in_all), omega (arith, ready.from_in, room), omega (arith, ready.to_in, room, in_all))

module _ (f : Format) (C from to i : ℕ) (s : List ℕ) (ready : Halvable f s C from to i) (rs : List Item)
    (is : part s from (page_words f C) ≡ page_image f C rs) where
  abbrev P : ℕ
  P = page_words f C

  -- how many words are moved
  abbrev m : ℕ
  m = words f * (length rs - i)

  whole : drop from s ≡ page_image f C rs ++ drop (from + P) s
  whole = part_next s from P ready.from_in ∙ ap (λ l. l ++ drop (from + P) s) is

  pub counted : word s from ≡ length rs
  unfolding page_image
  counted = ap (word s) (sym (add-zero from)) ∙ sym (get_or-drop from s 0 0) ∙ ap (λ l. word l 0) whole

  within : i ≤ length rs
  within = omega (arith, ready.within, counted)

  room : 1 + words f * i + m ≤ P
  room = room_cut f C (words f) (length rs) P refl refl i within (omega (arith, ready.fits, counted))

  moved : row s (from + 1 + words f * i) m ≡ flat f (drop i rs)
  moved =
      let H : List ℕ = length rs ∷ flat f (take i rs) in
      let B : List ℕ = flat f (drop i rs) in
      let Z : List ℕ = blank f C rs in
      let rest : List ℕ = drop (from + P) s in
      let at : from + 1 + words f * i ≡ from + (1 + words f * i) = omega arith in
      let size : length H ≡ 1 + words f * i = omega (arith, length_low f rs i within) in
      ap (λ k. take m (drop k s)) at
      ∙ ap (take m) (sym (drop-drop (1 + words f * i) from s))
      ∙ ap (λ l. take m (drop (1 + words f * i) l))
      (whole ∙ ap (λ l. l ++ rest) (image_sides f rs i within C) ∙ append_assoc H (B ++ Z) rest)
      ∙ ap (take m) (drop_at H ((B ++ Z) ++ rest) (1 + words f * i) size ∙ append_assoc B Z rest)
      ∙ take_at B (Z ++ rest) m (length_high f rs i within)

  module _ (s₁ p₁ s₂ p₂ : List ℕ) (first : s₁ ≡ replaced (to + 1) m (row s (from + 1 + words f * i) m) s)
      (low_cut : p₁ ≡ cut_to f C i (row s₁ from P)) (low_long : length p₁ ≡ P) (second : s₂ ≡ replaced from P p₁ s₁)
      (high_cut : p₂ ≡ cut_to f C (length rs - i) (row s₂ to P)) where
    abbrev X : List ℕ
    X = flat f (drop i rs)

    copied : s₁ ≡ replaced (to + 1) m X s
    copied = first ∙ ap (λ l. replaced (to + 1) m l s) moved

    size : length X ≡ m
    size = length_high f rs i within

    inside : to + 1 + m ≤ length s
    inside = omega (arith, room, ready.to_in)

    beside : Elsewhere 0 to P s s₁
    beside =
        rw copied
        (record {
          long = length_replaced (to + 1) m X s inside size;
          below = λ j h. replaced_below (to + 1) m X s inside size 0 j (omega arith);
          above = λ j h. replaced_above (to + 1) m X s inside size 0 j (omega (arith, room));
        })

    low_page : p₁ ≡ page_image f C (take i rs)
    low_page =
        low_cut
        ∙ ap (cut_to f C i)
        (sym (part_in_lem s₁ from P (omega (arith, beside.long, ready.from_in))) ∙ part_beside 0 beside from P ready.apart ∙ is)
        ∙ cut_low f C rs i within

    away : Elsewhere 0 from P s₁ s₂
    away = rw second (elsewhere_replaced 0 from P p₁ s₁ (omega (arith, beside.long, ready.from_in)) low_long)

    still : row s₂ (to + 1) m ≡ X
    still =
        sym (part_in_lem s₂ (to + 1) m (omega (arith, away.long, beside.long, inside)))
        ∙ part_beside 0 away (to + 1) m (other ready.apart)
        ∙ ap (λ l. part l (to + 1) m) copied
        ∙ part_replaced (to + 1) m X s inside size
      where
        other : (from + P ≤ to) ⊎ (to + P ≤ from) → (to + 1 + m ≤ from) ⊎ (from + P ≤ to + 1)
        other (inl h) = inr (omega arith)
        other (inr h) = inl (omega (arith, room))

    high_page : p₂ ≡ page_image f C (drop i rs)
    high_page = high_cut ∙ cut_high f C rs i within (row s₂ to P) (inner_row s₂ to m P (omega (arith, room)) ∙ still)

    halved : replaced to P p₂ s₂ ≡ replaced to P (page_image f C (drop i rs)) (replaced from P (page_image f C (take i rs)) s)
    halved =
        rw (second, high_page)
        (over_two from P to P p₁ (page_image f C (drop i rs)) s s₁ ready.from_in low_long ready.to_in beside
        ∙ ap (λ l. replaced to P (page_image f C (drop i rs)) (replaced from P l s)) low_page)

  -- the words that `halve_page` leaves
  pub halve_words : (w n k l : ℕ) (s₁ p₁ p₂ : List ℕ) → w ≡ words f → n ≡ length rs → k ≡ P → l ≡ P
      → s₁ ≡ replaced (to + 1) (w * (n - i)) (row s (from + 1 + w * i) (w * (n - i))) s → length s₁ ≡ length s
      → p₁ ≡ cut_to f C i (row s₁ from k) → length p₁ ≡ length (row s₁ from k) → p₂ ≡ cut_to f C (n - i) (row (lent s₁ from k p₁) to l)
      → lent (lent s₁ from k p₁) to l p₂ ≡ replaced to P (page_image f C (drop i rs)) (replaced from P (page_image f C (take i rs)) s)
  halve_words w n k l s₁ p₁ p₂ a b c d =
      rw (a, b, c, d)
      (λ first long low_cut low_long high_cut.
      let size = low_long ∙ length_row s₁ from P (omega (arith, ready.from_in)) in
      lent_is (lent s₁ from P p₁) to P p₂
      ∙ halved s₁ p₁ (lent s₁ from P p₁) p₂ first low_cut size (lent_is s₁ from P p₁) high_cut)
