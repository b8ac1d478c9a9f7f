-- Reading columns byte by byte: what is left of the columns decides the answer, so each step keeps it.
use mathlib.Core.Path.{◌≡◌, refl, sym, ap, ◌∙◌, subst}
use mathlib.Core.Bool.{Bool, true, false, not, cond, ◌&&◌, false≢true, and-true as and_id}
use mathlib.Core.List.{List, [], ◌∷◌}
use Prim.Native.Nat.{ℕ, suc, ◌+◌, ◌-◌, ◌*◌, ◌^◌, ◌≤◌, ◌<◌}
use native.Mathlib.Nat.{pow-succ'}
use native.Mathlib.Numerals.{add-one}
use native.Mathlib.Omega.{arith}
use lib.Dec.{eqb, ltb, leb}
use lib.ListN.{length, take, drop, get_or, length-drop, drop_of_length-le}
use lib.Seq.{drop-cons}
use borrow.Author.Tests.{lt-ltb, le-ltb, leb-true, ltb-false, ne_eqb}
use Rattle.lists.specs.Lists.{all, part}
use Rattle.lists.proofs.Cases.{by_cases}
use Rattle.lists.proofs.Tests.{and_true, untrue}
use Rattle.std.specs.Prelude.{Option, Some, None, Result, Ok, Err, OkIff, unwrap_or, option_and_then, nat_eq}
use Rattle.std.specs.Char.{is_ascii_digit}
use Rattle.std.specs.List.{position_or_len}
use Rattle.std.specs.Result.{result_ok}
use Rattle.std.specs.declared.num.TryFromIntError.{TryFromIntError}
use Rattle.std.proofs.lemmas.List.{take_all}
use Rattle.std.proofs.lemmas.Option.{same_Some, none-some}
use Rattle.lines.specs.Columns.{blank, nought, digit, skipped, plain, value, number_of, is_number}
use Rattle.lines.specs.Steps.{taken, spelled_by, number_in}
use Rattle.lines.proofs.ColumnLaws.{skipped_none, plain_facts}
use Rattle.lines.specs.declared.Kind.{Kind}
use Rattle.lines.specs.Request.{kind_numbered, field_of, request_of, well_formed, parsed}
use Rattle.lines.proofs.RequestLaws.{Holds, parsed_right}

-- the byte at i first
drop_at_byte : (bs : List ℕ) (i b : ℕ) → i < length bs → get_or bs i 0 ≡ b → drop i bs ≡ b ∷ drop (i + 1) bs
drop_at_byte bs i b h e = drop-cons bs i 0 h ∙ ap (λ x. x ∷ drop (suc i) bs) e ∙ ap (λ k. b ∷ drop k bs) (sym (add-one i))

drop_all : (bs : List ℕ) (i : ℕ) → length bs ≤ i → drop i bs ≡ []
drop_all bs i h = drop_of_length-le bs {i = i} h

-- Blanks are passed over.
abbrev pub other : ℕ → Bool
other b = not (nat_eq b blank)

passed : (bs : List ℕ) → (position_or_len other bs ≤ length bs) × (drop (position_or_len other bs) bs ≡ skipped bs)
unfolding skipped
passed [] = (omega arith, skipped_none)
passed (b ∷ bs) =
    let n : ℕ = position_or_len other bs in
    let r = passed bs in
    let e : suc n ≡ 1 + n = omega arith in
    elim (eqb b blank) as (λ v.
    (cond (not (not v)) (1 + n) 0 ≤ length (b ∷ bs))
    × (drop (cond (not (not v)) (1 + n) 0) (b ∷ bs) ≡ elim v [ true ↦ skipped bs | false ↦ b ∷ bs ])) [
      | true ↦ (omega (arith, r.0), ap (λ k. drop k (b ∷ bs)) (sym e) ∙ r.1)
      | false ↦ (omega arith, refl)
    ]

found_or_len : (n : ℕ) (bs : List ℕ) → n ≤ length bs → unwrap_or (cond (ltb n (length bs)) (Some n) None) (length bs) ≡ n
found_or_len n bs h =
    by_cases (ltb n (length bs))
    (λ e. rw e)
    (λ e. rw e (omega (arith, h, ltb-false n (length bs) e)))

pub trimmed_rest : (bs : List ℕ) (o : Option ℕ)
    → o ≡ cond (ltb (position_or_len other bs) (length bs)) (Some (position_or_len other bs)) None
    → let k : ℕ = unwrap_or o (length bs) in
    (take (length bs - k) (drop k bs) ≡ skipped bs) × (length (take (length bs - k) (drop k bs)) ≤ length bs)
trimmed_rest bs o e =
    let r = passed bs in
    let n : ℕ = position_or_len other bs in
    let whole : take (length bs - n) (drop n bs) ≡ drop n bs = take_all (length bs - n) (drop n bs) (omega (arith, length-drop n bs)) in
    subst
    (λ k. (take (length bs - k) (drop k bs) ≡ skipped bs) × (length (take (length bs - k) (drop k bs)) ≤ length bs))
    (sym (ap (λ (q : Option ℕ). unwrap_or q (length bs)) e ∙ found_or_len n bs r.0))
    (whole ∙ r.1, omega (arith, ap length whole, length-drop n bs))

-- Digits are taken in.
-- i digits spell a number below 10^i
digits_below : (i n d : ℕ) → n < 10 ^ i → d < 10 → 10 * n + d < 10 ^ (i + 1)
digits_below i n d h l = rw (add-one i) (omega (arith, pow-succ' 10 i))

digit_same : (b : ℕ) → is_ascii_digit b ≡ digit b
unfolding digit
digit_same b = refl

digit_range : (b : ℕ) → is_ascii_digit b ≡ true → (48 ≤ b) × (b ≤ 57)
digit_range b e = let a = and_true (leb 48 b) (leb b 57) e in (leb-true 48 b a.0, leb-true b 57 a.1)

pub digit_missed : (bs : List ℕ) (i n : ℕ) → i < length bs → false ≡ is_ascii_digit (get_or bs i 0) → spelled_by n (drop i bs) ≡ None
unfolding spelled_by taken
digit_missed bs i n h d = rw (drop_at_byte bs i (get_or bs i 0) h refl, sym (d ∙ digit_same (get_or bs i 0)))

pub digit_taken : (bs : List ℕ) (i n b : ℕ) → i < length bs → get_or bs i 0 ≡ b → true ≡ is_ascii_digit b → n < 10 ^ i
    → (10 * n + (b - nought) < 10 ^ (i + 1)) × (spelled_by (10 * n + (b - nought)) (drop (i + 1) bs) ≡ spelled_by n (drop i bs))
unfolding spelled_by value
digit_taken bs i n b h e d l =
    let r = digit_range b (sym d) in (
      digits_below i n (b - nought) l (omega arith),
      rw (drop_at_byte bs i b h e, sym (d ∙ digit_same b)),
    )

pub digits_end : (bs : List ℕ) (i n : ℕ) (r : Result ℕ TryFromIntError) → length bs ≤ i → OkIff r (n < 2 ^ 32) n
    → result_ok r ≡ spelled_by n (drop i bs)
unfolding spelled_by value taken
digits_end bs i n (Ok x) h o = rw (drop_all bs i h, lt-ltb n (2 ^ 32) o.0) (ap Some o.1)
digits_end bs i n (Err e) h o = rw (drop_all bs i h, le-ltb n (2 ^ 32) (omega (arith, o)))

-- What columns hold.
taken_is : (t : Bool) (m n : ℕ) → taken t m ≡ Some n → (t ≡ true) × (m ≡ n)
unfolding taken
taken_is true m n e = (refl, same_Some m n e)
taken_is false m n e = absurd (none-some n e)

pub number_is : (bs : List ℕ) (n : ℕ) → number_in bs ≡ Some n → Holds bs n
unfolding number_in
number_is bs n e = taken_is (is_number bs) (number_of bs) n e

taken_not : (t : Bool) (m : ℕ) → taken t m ≡ None → t ≡ true → ⊥
unfolding taken
taken_not true m e q = none-some m (sym e)
taken_not false m e q = false≢true q

pub number_not : (bs : List ℕ) → number_in bs ≡ None → is_number bs ≡ true → ⊥
unfolding number_in
number_not bs e = taken_not (is_number bs) (number_of bs) e

-- A line whose kind is none, and one whose kind and fields are numbers.
pub kind_wrong : (bs : List ℕ) (k : ℕ) → number_in (part bs 0 2) ≡ Some k → kind_numbered k ≡ None → parsed bs ≡ None
unfolding parsed
kind_wrong bs k h e =
    let i : kind_numbered (number_of (part bs 0 2)) ≡ None = ap kind_numbered (number_is _ _ h).1 ∙ e in
    by_cases (well_formed bs) (λ t. rw (t, parsed) (rw i)) (λ t. rw (t, parsed))

pub line_made : (bs : List ℕ) (k : ℕ) (kind : Kind) (a b c d : ℕ) → length bs ≡ 42 → number_in (part bs 0 2) ≡ Some k → kind_numbered k ≡ Some kind
    → number_in (field_of bs 0) ≡ Some a → number_in (field_of bs 1) ≡ Some b → number_in (field_of bs 2) ≡ Some c
    → number_in (field_of bs 3) ≡ Some d → request_of kind a b c d ≡ parsed bs
line_made bs k kind a b c d l hk h ha hb hc hd =
    sym
    (parsed_right bs k a b c d l (number_is _ _ hk) (number_is _ _ ha) (number_is _ _ hb) (number_is _ _ hc) (number_is _ _ hd)
    ∙ ap (option_and_then (λ (i : Kind). request_of i a b c d)) h)

-- The bytes after the blanks decide it: none, a 0, a 0 with more behind it, anything else.
pub none_held : (bs ds : List ℕ) → ds ≡ skipped bs → length ds < 1 → None ≡ number_in bs
unfolding number_in taken is_number plain
none_held bs [] s h = rw (sym s)
none_held bs (d ∷ ds) s h = absurd (omega arith)

pub zero_held : (bs ds : List ℕ) → ds ≡ skipped bs → 1 ≤ length ds → length ds < 2 → get_or ds 0 0 ≡ nought → Some 0 ≡ number_in bs
unfolding number_in taken is_number plain number_of value digit
zero_held bs [] s h l e = absurd (omega arith)
zero_held bs (d ∷ []) s h l e = rw (sym s ∙ ap (λ b. b ∷ []) e)
zero_held bs (d ∷ b ∷ ds) s h l e = absurd (omega arith)

pub leading_zero : (bs ds : List ℕ) → ds ≡ skipped bs → 2 ≤ length ds → get_or ds 0 0 ≡ nought → None ≡ number_in bs
unfolding number_in taken is_number
leading_zero bs [] s h e = absurd (omega arith)
leading_zero bs (d ∷ ds) s h e =
    sym (ap (λ t. taken t (number_of bs))
    (sym (untrue
    (λ t.
    let p = and_true (plain (skipped bs)) (ltb (number_of bs) (2 ^ 32)) t in
    let none = (plain_facts d ds (ap plain s ∙ p.0)).2 e in
    omega (arith, ap length none)))))

pub digits_held : (bs ds : List ℕ) → ds ≡ skipped bs → 1 ≤ length ds → (get_or ds 0 0 ≡ nought → ⊥) → spelled_by 0 ds ≡ number_in bs
unfolding number_in spelled_by is_number plain number_of
digits_held bs [] s h e = absurd (omega arith)
digits_held bs (d ∷ ds) s h e = rw (sym s, ne_eqb d nought e, and_id (digit d && all digit ds))
