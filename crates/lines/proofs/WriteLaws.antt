-- Writing columns: each store of a digit moves it from what is still to be written to the bytes, so the two together stay the same; a
-- line is filled from the front, part by part.
use mathlib.Core.Path.{◌≡◌, refl, sym, ap, ◌∙◌}
use mathlib.Core.List.{List, [], ◌∷◌, ◌++◌, append_assoc}
use Prim.Native.Nat.{ℕ, zero, suc, ◌+◌, ◌-◌, ◌/◌, ◌%◌, ◌≤◌, ◌<◌}
use native.Mathlib.Omega.{arith}
use lib.ListN.{length, drop, set, length-append}
use lib.Seq.{drop-cons, set_at}
use Rattle.lists.specs.Lists.{replaced}
use Rattle.lists.proofs.Parts.{replaced_none, replaced_set, replaced_after}
use Rattle.lines.specs.Columns.{nought, column}
use Rattle.lines.specs.Reply.{line_feed, four_fields, summary_fields, request_fields}
use Rattle.lines.specs.Steps.{digit_or}
use Rattle.lines.proofs.ColumnLaws.{padded, column_padded, length_column}

pub put_first : (a w n : ℕ) (xs : List ℕ) → 1 ≤ w → a + w ≤ length xs
    → let k : ℕ = a + w - 1 - a in
    replaced a k (padded k (n / 10)) (set xs (a + w - 1) (nought + n % 10)) ≡ replaced a w (column w n) xs
put_first a zero n xs h l = absurd (omega arith)
put_first a (suc w) n xs h l =
    let e : a + suc w - 1 - a ≡ w = omega arith in
    let f : a + suc w - 1 ≡ a + w = omega arith in
    ap (λ k. replaced a k (padded k (n / 10)) (set xs (a + suc w - 1) (nought + n % 10))) e
    ∙ ap (λ i. replaced a w (padded w (n / 10)) (set xs i (nought + n % 10))) f
    ∙ replaced_set a w (padded w (n / 10)) (nought + n % 10) xs (omega arith)
    ∙ ap (λ l. replaced a (suc w) l xs) (sym (column_padded w n))

pub put_more : (a i n v : ℕ) (xs : List ℕ) → a < i → i ≤ length xs → v ≡ digit_or n
    → replaced a (i - 1 - a) (padded (i - 1 - a) (n / 10)) (set xs (i - 1) v) ≡ replaced a (i - a) (padded (i - a) n) xs
put_more a i n v xs h l d =
    let k : ℕ = i - 1 - a in
    let e : suc k ≡ i - a = omega arith in
    let f : i - 1 ≡ a + k = omega arith in
    ap (λ j. replaced a k (padded k (n / 10)) (set xs j v)) f
    ∙ replaced_set a k (padded k (n / 10)) v xs (omega arith)
    ∙ ap (λ b. replaced a (suc k) (padded k (n / 10) ++ b ∷ []) xs) d
    ∙ ap (λ j. replaced a j (padded j n) xs) e

pub put_done : (a n : ℕ) (xs : List ℕ) → replaced a 0 (padded 0 n) xs ≡ xs
put_done a n xs = replaced_none a xs

-- The first m bytes of s are p, the others are those of s₀.
record Filled (s₀ : List ℕ) (m : ℕ) (p s : List ℕ) : Type 0 where
  size : length p ≡ m
  same : s ≡ p ++ drop m s₀

none_filled : (s₀ : List ℕ) → Filled s₀ 0 [] s₀
none_filled s₀ = record { size = refl; same = refl }

fill_next : (s₀ : List ℕ) (m w n e : ℕ) (p s t : List ℕ) → Filled s₀ m p s → m + w ≡ e → t ≡ replaced m w (column w n) s
    → Filled s₀ e (p ++ column w n) t
fill_next s₀ m w n e p s t f q r =
    record {
      size = length-append p (column w n) ∙ omega (arith, length_column w n);
      same =
          r
          ∙ ap (λ l. replaced m w (column w n) l) f.same
          ∙ replaced_after p (column w n) s₀ m w f.size
          ∙ ap (λ k. (p ++ column w n) ++ drop k s₀) q;
    }

fill_two :
    (s₀ : List ℕ) (m w a b e : ℕ) (p s t : List ℕ)
    → Filled s₀ m p s
    → m + w + w ≡ e
    → t ≡ replaced (m + w) w (column w b) (replaced m w (column w a) s)
    → Filled s₀ e ((p ++ column w a) ++ column w b) t
fill_two s₀ m w a b e p s t f q r = fill_next s₀ (m + w) w b e _ _ t (fill_next s₀ m w a (m + w) p s _ f refl refl) q r

fill_last : (s₀ : List ℕ) (m b : ℕ) (p s : List ℕ) → Filled s₀ m p s → m < length s₀ → set s m b ≡ p ++ b ∷ drop (suc m) s₀
fill_last s₀ m b p s f h =
    ap (λ l. set l m b) (f.same ∙ ap (λ l. p ++ l) (drop-cons s₀ m 0 h)) ∙ set_at p _ (drop (suc m) s₀) b m f.size

pub fields_put :
    (s₀ s₁ s₂ s₃ : List ℕ) (kind answer a b c d : ℕ)
    → 45 ≤ length s₀
    → s₁ ≡ replaced 2 2 (column 2 answer) (replaced 0 2 (column 2 kind) s₀)
    → s₂ ≡ replaced 14 10 (column 10 b) (replaced 4 10 (column 10 a) s₁)
    → s₃ ≡ replaced 34 10 (column 10 d) (replaced 24 10 (column 10 c) s₂)
    → set s₃ 44 line_feed ≡ four_fields kind answer a b c d ++ drop 45 s₀
unfolding four_fields
fields_put s₀ s₁ s₂ s₃ kind answer a b c d h e₁ e₂ e₃ =
    let f₁ = fill_two s₀ 0 2 kind answer 4 [] s₀ s₁ (none_filled s₀) refl e₁ in
    let f₂ = fill_two s₀ 4 10 a b 24 _ s₁ s₂ f₁ refl e₂ in
    let f₃ = fill_two s₀ 24 10 c d 44 _ s₂ s₃ f₂ refl e₃ in
    fill_last s₀ 44 line_feed _ s₃ f₃ (omega arith) ∙ simp append_assoc

pub summary_put :
    (s₀ s₁ s₂ s₃ s₄ : List ℕ) (count total key : ℕ)
    → 45 ≤ length s₀
    → s₁ ≡ replaced 2 2 (column 2 0) (replaced 0 2 (column 2 5) s₀)
    → s₂ ≡ replaced 4 10 (column 10 count) s₁
    → s₃ ≡ replaced 14 20 (column 20 total) s₂
    → s₄ ≡ replaced 34 10 (column 10 key) s₃
    → set s₄ 44 line_feed ≡ summary_fields count total key ++ drop 45 s₀
unfolding summary_fields
summary_put s₀ s₁ s₂ s₃ s₄ count total key h e₁ e₂ e₃ e₄ =
    let f₁ = fill_two s₀ 0 2 5 0 4 [] s₀ s₁ (none_filled s₀) refl e₁ in
    let f₂ = fill_next s₀ 4 10 count 14 _ s₁ s₂ f₁ refl e₂ in
    let f₃ = fill_next s₀ 14 20 total 34 _ s₂ s₃ f₂ refl e₃ in
    let f₄ = fill_next s₀ 34 10 key 44 _ s₃ s₄ f₃ refl e₄ in
    fill_last s₀ 44 line_feed _ s₄ f₄ (omega arith) ∙ simp append_assoc

pub request_put :
    (s₀ s₁ s₂ s₃ : List ℕ) (kind a b c d : ℕ)
    → 43 ≤ length s₀
    → s₁ ≡ replaced 0 2 (column 2 kind) s₀
    → s₂ ≡ replaced 12 10 (column 10 b) (replaced 2 10 (column 10 a) s₁)
    → s₃ ≡ replaced 32 10 (column 10 d) (replaced 22 10 (column 10 c) s₂)
    → set s₃ 42 line_feed ≡ request_fields kind a b c d ++ drop 43 s₀
unfolding request_fields
request_put s₀ s₁ s₂ s₃ kind a b c d h e₁ e₂ e₃ =
    let f₁ = fill_next s₀ 0 2 kind 2 [] s₀ s₁ (none_filled s₀) refl e₁ in
    let f₂ = fill_two s₀ 2 10 a b 22 _ s₁ s₂ f₁ refl e₂ in
    let f₃ = fill_two s₀ 22 10 c d 42 _ s₂ s₃ f₂ refl e₃ in
    fill_last s₀ 42 line_feed _ s₃ f₃ (omega arith) ∙ simp append_assoc
