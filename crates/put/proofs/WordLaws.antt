-- Words that are written into a list. A row that is copied replaces what stood there, and a part that a callee was lent comes back in its
-- place.
--   row s a n       == the n words of s from index a on
--   end t a         == the words of t from index a on, as they are lent
--   returned t a ws == t with ws for its words from index a on
--   lent t a n ws   == t with ws for its n words from index a on
use mathlib.Core.Path.{◌≡◌, refl, sym, ap, ap₂, ◌∙◌}
use mathlib.Core.List.{List, [], ◌∷◌, ◌++◌, append_assoc, append-nil}
use mathlib.Core.Logic.{inl}
use Prim.Native.Nat.{ℕ, zero, suc, ◌+◌, ◌-◌, ◌≤◌}
use native.Mathlib.Decide.{dec_lt, dec_le}
use native.Mathlib.Omega.{arith}
use lib.ListN.{length, get_or, take, drop, replicate, length-append, length-take, length-drop, length-replicate}
use lib.ListN.{replicate-append-replicate}
use lib.Seq.{take-length, drop-length, length-take-le, take_at, drop_at, take-take, drop-drop}
use lib.Seq.{take-append-add, drop-append-add}
use Rattle.std.specs.List.{copy_within}
use Rattle.lists.specs.Lists.{replaced}
use Rattle.lists.proofs.Parts.{part_in_lem, length_replaced, replaced_in, replaced_below, replaced_above}
use Rattle.lists.proofs.Elsewhere.{Elsewhere, part_beside, drop_beside}

abbrev pub row : List ℕ → ℕ → ℕ → List ℕ
row s a n = take n (drop a s)

module _ (s : List ℕ) where
  pub length_row : (a n : ℕ) → a + n ≤ length s → length (row s a n) ≡ n
  length_row a n h = length-take-le n (drop a s) (omega (arith, length-drop a s))

  -- words copied to another place
  pub moved : (a b to n : ℕ) → b ≡ a + n → copy_within s a b to ≡ replaced to n (row s a n) s
  unfolding replaced
  moved a b to n e = let m : b - a ≡ n = omega arith in rw m (simp append_assoc)

-- a callee is lent the end of a list, from index a on, and leaves `last` there
abbrev pub end : List ℕ → ℕ → List ℕ
end t a = take (length t - a) (drop a t)

abbrev pub returned : List ℕ → ℕ → List ℕ → List ℕ
returned t a last = take a t ++ (last ++ drop (length t - a) (drop a t))

pub end_room : (t : List ℕ) (a w : ℕ) → a + w ≤ length t → w ≤ length (end t a)
end_room t a w h = simp (length-take, length-drop) (omega arith)

module _ (H T t : List ℕ) (a : ℕ) (is : t ≡ H ++ T) (size : length H ≡ a) where
  back : drop a t ≡ T
  back = ap (drop a) is ∙ drop_at H T a size

  rest : length t - a ≡ length T
  rest = omega (arith, ap length is, length-append H T)

  end_is : end t a ≡ T
  end_is = rw (back, rest) (take-length T)

  end_returned : (last : List ℕ) → returned t a last ≡ H ++ last
  end_returned last = rw (ap (take a) is ∙ take_at H T a size, back, rest, drop-length T) (ap (λ l. H ++ l) (append-nil last))

  -- zeros, or some words and what stood behind them
  pub end_cleared : (last : List ℕ) → last ≡ replicate (length (end t a)) 0 → returned t a last ≡ H ++ replicate (length T) 0
  end_cleared last e = end_returned last ∙ ap (λ l. H ++ l) (e ∙ ap (λ l. replicate (length l) 0) end_is)

  pub end_written : (ys : List ℕ) (n : ℕ) (last : List ℕ) → last ≡ ys ++ drop n (end t a) → returned t a last ≡ H ++ (ys ++ drop n T)
  end_written ys n last e = end_returned last ∙ ap (λ l. H ++ l) (e ∙ ap (λ l. ys ++ drop n l) end_is)

-- a row B moved up by w words: w words are free in front of it
pub moved_up_lem : (H B Z s t : List ℕ) (w a m : ℕ) → s ≡ H ++ (B ++ Z) → length H ≡ a → length B ≡ m → t ≡ replaced (a + w) m (row s a m) s
    → t ≡ H ++ (take w (B ++ Z) ++ (B ++ drop w Z))
unfolding replaced
moved_up_lem H B Z s t w a m is p q e =
    let r : row s a m ≡ B = ap (λ l. take m (drop a l)) is ∙ ap (take m) (drop_at H (B ++ Z) a p) ∙ take_at B Z m q in
    let n : a + w + m ≡ length H + (length B + w) = omega arith in
    let front : take (a + w) s ≡ H ++ take w (B ++ Z) = ap₂ take (ap (λ k. k + w) (sym p)) is ∙ take-append-add H (B ++ Z) w in
    let back : drop (a + w + m) s ≡ drop w Z =
    ap₂ drop n is ∙ drop-append-add H (B ++ Z) (length B + w) ∙ drop-append-add B Z w in
    e ∙ rw (r, front, back) (append_assoc H (take w (B ++ Z)) (B ++ drop w Z))

-- zeros without the first w
pub zeros_less : (w k m : ℕ) → m ≡ w + k → drop w (replicate {A = ℕ} m 0) ≡ replicate k 0
zeros_less w k m e =
    ap (λ j. drop w (replicate j 0)) e
    ∙ ap (drop w) (sym (replicate-append-replicate w k 0))
    ∙ drop_at (replicate w 0) (replicate k 0) w (length-replicate {A = ℕ} w 0)

-- a part that is written over does not show what stood there
over : (b m : ℕ) (ys s t : List ℕ) → b + m ≤ length s → Elsewhere 0 b m s t → replaced b m ys t ≡ replaced b m ys s
unfolding replaced
over b m ys s t h e =
    rw (
      sym (part_in_lem t 0 b (omega (arith, e.long))) ∙ part_beside 0 e 0 b (inl (omega arith)) ∙ part_in_lem s 0 b (omega arith),
      drop_beside 0 e (b + m) (omega arith),
    )

-- one part replaced in two lists that agree at an index
same_at : (a n : ℕ) (ys s t : List ℕ) → a + n ≤ length s → length t ≡ length s → length ys ≡ n → (j : ℕ) → get_or t j 0 ≡ get_or s j 0
    → get_or (replaced a n ys t) j 0 ≡ get_or (replaced a n ys s) j 0
same_at a n ys s t h l k j e =
    let g : a + n ≤ length t = omega arith in
    elim (dec_lt j a) [
      | yes p ↦ replaced_below a n ys t g k 0 j p ∙ e ∙ sym (replaced_below a n ys s h k 0 j p)
      | no p ↦
          elim (dec_le (a + n) j) [
            | yes q ↦ replaced_above a n ys t g k 0 j q ∙ e ∙ sym (replaced_above a n ys s h k 0 j q)
            | no q ↦
                let i : ℕ = j - a in
                let d : j ≡ a + i = omega arith in
                rw d (replaced_in a n ys t g k 0 i (omega arith) ∙ sym (replaced_in a n ys s h k 0 i (omega arith)))
          ]
    ]

-- the same with another part replaced in between
pub over_two : (a n b m : ℕ) (xs ys s t : List ℕ) → a + n ≤ length s → length xs ≡ n → b + m ≤ length s → Elsewhere 0 b m s t
    → replaced b m ys (replaced a n xs t) ≡ replaced b m ys (replaced a n xs s)
over_two a n b m xs ys s t h k g e =
    let l = length_replaced a n xs s h k in
    over b m ys (replaced a n xs s) (replaced a n xs t) (omega arith)
    (record {
      long = length_replaced a n xs t (omega (arith, e.long)) k ∙ e.long ∙ sym l;
      below = λ j q. same_at a n xs s t h e.long k j (e.below j q);
      above = λ j q. same_at a n xs s t h e.long k j (e.above j q);
    })

-- a callee is lent the n words from a on, and leaves `last` there
abbrev pub lent : List ℕ → ℕ → ℕ → List ℕ → List ℕ
lent t a n last = take a t ++ (last ++ drop n (drop a t))

pub lent_is : (t : List ℕ) (a n : ℕ) (last : List ℕ) → lent t a n last ≡ replaced a n last t
unfolding replaced
lent_is t a n last = rw (drop-drop n a t)

-- words of another list, copied to a part that is lent
pub placed : (t o ys : List ℕ) (a k from l m : ℕ) → k ≡ m → l ≡ m → ys ≡ take l (drop from o) → lent t a k ys ≡ replaced a m (row o from m) t
placed t o ys a k from l m e d q = rw (e, q, d) (lent_is t a m (row o from m))

-- words within a page, without its count
inner : (m n : ℕ) (xs : List ℕ) → suc m ≤ n → take m (drop 1 (take n xs)) ≡ take m (drop 1 xs)
inner m zero xs h = absurd (omega arith)
inner m (suc n) [] h = refl
inner m (suc n) (x ∷ xs) h = take-take m n xs (omega arith)

pub inner_row : (s : List ℕ) (a m n : ℕ) → suc m ≤ n → take m (drop 1 (row s a n)) ≡ row s (a + 1) m
inner_row s a m n h = inner m n (drop a s) h ∙ ap (take m) (drop-drop 1 a s)
