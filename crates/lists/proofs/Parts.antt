-- Parts of a list: a list with a part replaced by a list as long keeps its other elements.
use mathlib.Core.Path.{◌≡◌, refl, sym, ap, ap₂, ◌∙◌}
use mathlib.Core.List.{List, [], ◌∷◌, ◌++◌, map, append_assoc, append-nil}
use Prim.Native.Nat.{ℕ, zero, suc, ◌+◌, ◌-◌, ◌≤◌, ◌<◌}
use native.Mathlib.Nat.{add_assoc, add-zero, zero-add}
use native.Mathlib.Numerals.{add-one}
use native.Mathlib.Decide.{dec_le}
use native.Mathlib.Omega.{arith}
use borrow.Author.Tests.{le-leb, lt-leb}
use lib.ListN.{length, get_or, take, drop, set, replicate, length-append, length-drop, take-append-drop, drop_of_length-le, get_or-append}
use lib.Seq.{length-take-le, take-append-le, drop-append-le, take-append-add, drop-append-add, take_at, drop_at, drop-drop}
use lib.Seq.{get_or-take, get_or-drop, get_or-append-add, set_split, take-set-le, take_all, paste, paste-suc}
use Rattle.lists.specs.Lists.{replaced, part}

pub map_replicate : {A B : Type 0} (f : A → B) (n : ℕ) (x : A) → map f (replicate n x) ≡ replicate n (f x)
map_replicate f zero x = refl
map_replicate f (suc n) x = ap (λ l. f x ∷ l) (map_replicate f n x)

-- a load past the first of two lists, its place by an equation
pub get_d_past : {A : Type 0} (xs ys : List A) (z : A) (j : ℕ) {i : ℕ} → i ≡ length xs + j → get_or (xs ++ ys) i z ≡ get_or ys j z
get_d_past xs ys z j e = ap (λ n. get_or (xs ++ ys) n z) e ∙ get_or-append-add xs ys j z

module _ {A : Type 0} where
  pub part_in_lem : (xs : List A) (a n : ℕ) → a + n ≤ length xs → part xs a n ≡ take n (drop a xs)
  unfolding part
  part_in_lem xs a n h = rw (le-leb (a + n) (length xs) h, part)

  pub part_out : (xs : List A) (a n : ℕ) → length xs < a + n → part xs a n ≡ []
  unfolding part
  part_out xs a n h = rw (lt-leb (a + n) (length xs) h, part)

  pub length_part : (xs : List A) (a n : ℕ) → a + n ≤ length xs → length (part xs a n) ≡ n
  length_part xs a n h = ap length (part_in_lem xs a n h) ∙ length-take-le n (drop a xs) (rw (length-drop a xs) (omega arith))

  -- a list written over the front of another
  pub length_over : (n : ℕ) (ys zs xs : List A) → length ys ≡ n → n ≤ length xs → zs ≡ ys ++ drop n xs → length zs ≡ length xs
  length_over n ys zs xs e h q = ap length q ∙ length-append ys (drop n xs) ∙ rw (length-drop) (omega arith)

  -- the first elements of xs copied over the front of d: after j of them, one more; and after n
  pub copied_more : (xs d out : List A) (j : ℕ) (z : A) → out ≡ paste d 0 xs j → j < length d → j < length xs
      → set out j (get_or xs j z) ≡ paste d 0 xs (j + 1)
  copied_more xs d out j z e l m =
      let at : 0 + j ≡ j = zero-add j in
      ap (λ o. set o j (get_or xs j z)) e ∙ ap (λ i. set (paste d 0 xs j) i (get_or xs j z)) (sym at)
      ∙ paste-suc d 0 xs j z (omega arith) m ∙ ap (paste d 0 xs) (sym (add-one j))

  pub copied_all : (xs d out : List A) (n : ℕ) → out ≡ paste d 0 xs n → out ≡ take n xs ++ drop n d
  copied_all xs d out n e = e ∙ ap (λ i. take n xs ++ drop i d) (zero-add n)

  pub copied_whole : (xs d out : List A) (n : ℕ) → out ≡ paste d 0 xs n → n ≡ length xs → length d ≡ n → out ≡ xs
  copied_whole xs d out n e long room =
      copied_all xs d out n e ∙ ap₂ (λ l m. l ++ m) (take_all n xs (omega arith)) (drop_of_length-le d {i = n} (omega arith)) ∙ append-nil xs

  -- a list from index a on, its first n elements apart
  pub part_next : (xs : List A) (a n : ℕ) → a + n ≤ length xs → drop a xs ≡ part xs a n ++ drop (a + n) xs
  part_next xs a n h =
      sym (ap (λ l. l ++ drop (a + n) xs) (part_in_lem xs a n h) ∙ ap (λ l. take n (drop a xs) ++ l) (sym (drop-drop n a xs))
      ∙ take-append-drop n (drop a xs))

  pub part_front : (xs ys : List A) (n : ℕ) → length xs ≡ n → part (xs ++ ys) 0 n ≡ xs
  part_front xs ys n e = part_in_lem (xs ++ ys) 0 n (rw (length-append xs ys) (omega arith)) ∙ take_at xs ys n e

  pub part_past : (xs ys : List A) (a b n : ℕ) → a ≡ length xs + b → part (xs ++ ys) a n ≡ part ys b n
  part_past xs ys a b n e =
      let l = length-append xs ys in
      elim (dec_le (b + n) (length ys)) [
        | yes h ↦
            part_in_lem (xs ++ ys) a n (omega arith)
            ∙ ap (λ k. take n (drop k (xs ++ ys))) e
            ∙ ap (take n) (drop-append-add xs ys b)
            ∙ sym (part_in_lem ys b n h)
        | no h ↦ part_out (xs ++ ys) a n (omega arith) ∙ sym (part_out ys b n (omega arith))
      ]

  pub replaced_all : (n : ℕ) (ys xs : List A) → length xs ≡ n → replaced 0 n ys xs ≡ ys
  unfolding replaced
  replaced_all n ys xs e = rw (zero-add n, drop_of_length-le xs {i = n} (omega arith)) (append-nil ys)

  pub replaced_left : (a n : ℕ) (ys xs zs : List A) → a + n ≤ length xs → replaced a n ys xs ++ zs ≡ replaced a n ys (xs ++ zs)
  unfolding replaced
  replaced_left a n ys xs zs h = rw (take-append-le a xs zs (omega arith), drop-append-le (a + n) xs zs h) (simp append_assoc)

  pub replaced_right : (a n : ℕ) (ys xs zs : List A) → xs ++ replaced a n ys zs ≡ replaced (length xs + a) n ys (xs ++ zs)
  unfolding replaced
  replaced_right a n ys xs zs =
      rw (take-append-add xs zs a, add_assoc (length xs) a n, drop-append-add xs zs (a + n)) (simp append_assoc)

  -- the part after the first elements
  pub part_drop : (xs : List A) (a b n : ℕ) → 1 ≤ n → part (drop a xs) b n ≡ part xs (a + b) n
  part_drop xs a b n p =
      elim (dec_le (a + b + n) (length xs)) [
        | yes h ↦
            part_in_lem (drop a xs) b n (omega (arith, length-drop a xs)) ∙ ap (take n) (drop-drop b a xs) ∙ sym (part_in_lem xs (a + b) n h)
        | no h ↦ part_out (drop a xs) b n (omega (arith, length-drop a xs)) ∙ sym (part_out xs (a + b) n (omega arith))
      ]

  pub replaced_none : (a : ℕ) (xs : List A) → replaced a 0 [] xs ≡ xs
  unfolding replaced
  replaced_none a xs = rw (add-zero a) (take-append-drop a xs)

  -- the last element of the part is stored first
  pub replaced_set : (a n : ℕ) (ys : List A) (y : A) (xs : List A) → a + n < length xs
      → replaced a n ys (set xs (a + n) y) ≡ replaced a (suc n) (ys ++ y ∷ []) xs
  unfolding replaced
  replaced_set a n ys y xs h =
      let e : suc (a + n) ≡ a + suc n = omega arith in
      rw (
        take-set-le a xs (a + n) y (omega arith),
        set_split xs (a + n) y h,
        drop_at (take (a + n) xs) (y ∷ drop (suc (a + n)) xs) (a + n) (length-take-le (a + n) xs (omega arith)),
        e,
        append_assoc ys (y ∷ []) (drop (a + suc n) xs),
      )

  -- a part that is replaced right after a new front
  pub replaced_after : (p ys xs : List A) (a n : ℕ) → length p ≡ a → replaced a n ys (p ++ drop a xs) ≡ (p ++ ys) ++ drop (a + n) xs
  unfolding replaced
  replaced_after p ys xs a n e =
      ap (λ l. l ++ (ys ++ drop (a + n) (p ++ drop a xs))) (take_at p (drop a xs) a e)
      ∙ ap (λ k. p ++ (ys ++ drop (k + n) (p ++ drop a xs))) (sym e)
      ∙ ap (λ l. p ++ (ys ++ l)) (drop-append-add p (drop a xs) n ∙ drop-drop n a xs)
      ∙ sym (append_assoc p ys (drop (a + n) xs))

  module _ (a n : ℕ) (ys xs : List A) (fits : a + n ≤ length xs) (same : length ys ≡ n) where
    front : length (take a xs) ≡ a
    front = length-take-le a xs (omega arith)

    pub length_replaced : length (replaced a n ys xs) ≡ length xs
    unfolding replaced
    length_replaced =
        length-append (take a xs) (ys ++ drop (a + n) xs) ∙ omega (arith, front, length-append ys (drop (a + n) xs), length-drop (a + n) xs)

    pub part_replaced : part (replaced a n ys xs) a n ≡ ys
    unfolding replaced
    part_replaced =
        part_in_lem (replaced a n ys xs) a n (omega (arith, length_replaced))
        ∙ ap (take n) (drop_at (take a xs) (ys ++ drop (a + n) xs) a front)
        ∙ take_at ys (drop (a + n) xs) n same

    module _ (z : A) (j : ℕ) where
      pub replaced_in : j < n → get_or (replaced a n ys xs) (a + j) z ≡ get_or ys j z
      unfolding replaced
      replaced_in h =
          get_d_past (take a xs) (ys ++ drop (a + n) xs) z j (omega (arith, front)) ∙ get_or-append ys (drop (a + n) xs) z j (omega arith)

      pub replaced_below : j < a → get_or (replaced a n ys xs) j z ≡ get_or xs j z
      unfolding replaced
      replaced_below h = get_or-append (take a xs) (ys ++ drop (a + n) xs) z j (omega (arith, front)) ∙ get_or-take a xs j z h

      pub replaced_above : a + n ≤ j → get_or (replaced a n ys xs) j z ≡ get_or xs j z
      unfolding replaced
      replaced_above h =
          let i : ℕ = j - (a + n) in
          let e : a + n + i ≡ j = omega arith in
          get_d_past (take a xs) (ys ++ drop (a + n) xs) z (n + i) (omega (arith, front))
          ∙ get_d_past ys (drop (a + n) xs) z i (omega arith)
          ∙ get_or-drop (a + n) xs i z
          ∙ ap (λ m. get_or xs m z) e
