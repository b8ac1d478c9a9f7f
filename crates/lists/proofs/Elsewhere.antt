-- A list in which all elements but a row of them stay: parts beside the row are the same.
use mathlib.Core.Path.{◌≡◌, sym, ◌∙◌}
use mathlib.Core.Logic.{◌⊎◌, inl, inr}
use mathlib.Core.List.{List}
use Prim.Native.Nat.{ℕ, ◌+◌, ◌≤◌, ◌<◌}
use native.Mathlib.Decide.{dec_le}
use native.Mathlib.Omega.{arith}
use lib.ListN.{length, get_or, take, drop, set, length-drop, length-set}
use lib.Seq.{length-take-le, get_or-take, get_or-drop, get_or-set_other, ext_get_or}
use Rattle.lists.specs.Lists.{replaced, part}
use Rattle.lists.proofs.Parts.{part_in_lem, part_out, length_replaced, replaced_below, replaced_above}

-- ys is as long as xs and has its elements, but for the n from index a on; z stands for what is past the end
pub record Elsewhere {A : Type 0} (z : A) (a n : ℕ) (xs ys : List A) : Type 0 where
  pub long : length ys ≡ length xs
  pub below : (j : ℕ) → j < a → get_or ys j z ≡ get_or xs j z
  pub above : (j : ℕ) → a + n ≤ j → get_or ys j z ≡ get_or xs j z

module _ {A : Type 0} (z : A) where
  pub elsewhere_replaced : (a n : ℕ) (ys xs : List A) → a + n ≤ length xs → length ys ≡ n → Elsewhere z a n xs (replaced a n ys xs)
  elsewhere_replaced a n ys xs fits same =
      record {
        long = length_replaced a n ys xs fits same;
        below = replaced_below a n ys xs fits same z;
        above = replaced_above a n ys xs fits same z;
      }

  pub elsewhere_set : (a n i : ℕ) (x : A) (xs ys : List A) → a ≤ i → i < a + n → Elsewhere z a n xs ys → Elsewhere z a n xs (set ys i x)
  elsewhere_set a n i x xs ys low high e =
      record {
        long = length-set ys i x ∙ e.long;
        below = λ j h. get_or-set_other ys i j x z (λ s. omega arith) ∙ e.below j h;
        above = λ j h. get_or-set_other ys i j x z (λ s. omega arith) ∙ e.above j h;
      }

  module _ {a n : ℕ} {xs ys : List A} (e : Elsewhere z a n xs ys) where
    -- a part beside the other one stays
    pub part_beside : (b m : ℕ) → (b + m ≤ a) ⊎ (a + n ≤ b) → part ys b m ≡ part xs b m
    part_beside b m d =
        elim (dec_le (b + m) (length xs)) [
          | yes h ↦
              let g : b + m ≤ length ys = omega (arith, e.long) in
              part_in_lem ys b m g
              ∙ ext_get_or z (take m (drop b ys)) (take m (drop b xs)) (size ys g ∙ sym (size xs h))
              (λ i l. let k : i < m = omega (arith, size ys g) in at ys i k ∙ here i k d ∙ sym (at xs i k))
              ∙ sym (part_in_lem xs b m h)
          | no h ↦ part_out ys b m (omega (arith, e.long)) ∙ sym (part_out xs b m (omega arith))
        ]
      where
        size : (zs : List A) → b + m ≤ length zs → length (take m (drop b zs)) ≡ m
        size zs h = length-take-le m (drop b zs) (omega (arith, length-drop b zs))

        at : (zs : List A) (i : ℕ) → i < m → get_or (take m (drop b zs)) i z ≡ get_or zs (b + i) z
        at zs i h = get_or-take m (drop b zs) i z h ∙ get_or-drop b zs i z

        here : (i : ℕ) → i < m → (b + m ≤ a) ⊎ (a + n ≤ b) → get_or ys (b + i) z ≡ get_or xs (b + i) z
        here i h (inl l) = e.below (b + i) (omega arith)
        here i h (inr l) = e.above (b + i) (omega arith)

    pub drop_beside : (m : ℕ) → a + n ≤ m → drop m ys ≡ drop m xs
    drop_beside m h =
        ext_get_or z (drop m ys) (drop m xs) (omega (arith, length-drop m ys, length-drop m xs, e.long))
        (λ i l. get_or-drop m ys i z ∙ e.above (m + i) (omega arith) ∙ sym (get_or-drop m xs i z))
