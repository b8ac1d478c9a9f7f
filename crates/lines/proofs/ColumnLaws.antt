-- Numbers in columns. The columns before the last are grown from the right, one digit a column (`padded`): reading takes a digit
-- in where writing puts one out, so the laws of the two go by the same steps.
--   padded w n == the number n in w columns, all blank if n is 0
use mathlib.Core.Path.{◌≡◌, refl, sym, ap, ◌∙◌}
use mathlib.Core.Bool.{or-true, Bool, true, false, not, ◌&&◌, ◌||◌, false≢true}
use mathlib.Core.List.{List, [], ◌∷◌, ◌++◌, append_assoc, append-nil}
use Prim.Native.Nat.{ℕ, zero, suc, ◌+◌, ◌-◌, ◌*◌, ◌/◌, ◌%◌, ◌^◌, ◌≤◌, ◌<◌}
use native.Mathlib.Decide.{ℕ_discrete}
use native.Mathlib.Nat.{add-zero, pow-succ', div-div-eq-div-mul}
use native.Mathlib.Numerals.{add-one}
use native.Mathlib.Omega.{arith}
use lib.Dec.{leb, ltb, eqb}
use lib.ListN.{length, length-append}
use borrow.Author.Tests.{eq-eqb, ne_eqb, eqb-true, le-leb, leb-true, lt-ltb, le-ltb}
use Rattle.lists.specs.Lists.{all, tab}
use Rattle.lists.proofs.Tests.{and_true, and_three, length_tab, tab_ext, tab_last}
use Rattle.lines.specs.Columns.{blank, nought, digit, skipped, plain, value, number_of, byte_at, column}
use Rattle.lines.specs.Steps.{digit_or}

abbrev pub padded : ℕ → ℕ → List ℕ
padded zero n = []
padded (suc w) n = padded w (n / 10) ++ digit_or n ∷ []

pub digit_or_zero : digit_or 0 ≡ blank
unfolding digit_or
digit_or_zero = refl

pub digit_or_pos : (n : ℕ) → 0 < n → digit_or n ≡ nought + n % 10
unfolding digit_or
digit_or_pos n h = rw (ne_eqb n 0 (omega arith), digit_or)

-- what is left of n for a column before the last, and for the last
left_before : (w n i : ℕ) → i < w → n / 10 ^ (suc w - 1 - i) ≡ n / 10 / 10 ^ (w - 1 - i)
left_before w n i h =
    let j : ℕ = w - 1 - i in
    let e : suc w - 1 - i ≡ suc j = omega arith in
    ap (λ k. n / 10 ^ k) e ∙ ap (λ d. n / d) (pow-succ' 10 j) ∙ sym (div-div-eq-div-mul n 10 (10 ^ j))

left_last : (w n : ℕ) → n / 10 ^ (suc w - 1 - w) ≡ n
left_last w n =
    let e : suc w - 1 - w ≡ 0 = omega arith in
    let q : n / 10 ^ 0 ≡ n = omega arith in
    ap (λ k. n / 10 ^ k) e ∙ q

byte_by : (w n i m : ℕ) (before : Bool) → n / 10 ^ (w - 1 - i) ≡ m → ltb i (w - 1) ≡ before
    → ◌≡◌ {A = ℕ} (byte_at w n i) (elim (eqb m 0 && before) [ true ↦ blank | false ↦ nought + m % 10 ])
unfolding byte_at
byte_by w n i m before e l =
    ap {B = ℕ} (λ k. elim (eqb k 0 && ltb i (w - 1)) [ true ↦ blank | false ↦ nought + k % 10 ]) e
    ∙ ap {B = ℕ} (λ t. elim (eqb m 0 && t) [ true ↦ blank | false ↦ nought + m % 10 ]) l

byte_before : (w n i : ℕ) → i < w → byte_at (suc w) n i ≡ digit_or (n / 10 / 10 ^ (w - 1 - i))
unfolding digit_or
byte_before w n i h =
    let m : ℕ = n / 10 / 10 ^ (w - 1 - i) in
    byte_by (suc w) n i m true (left_before w n i h) (lt-ltb i (suc w - 1) (omega arith))
    ∙ elim (eqb m 0) as (λ b.
    ◌≡◌ {A = ℕ} (elim (b && true) [ true ↦ blank | false ↦ nought + m % 10 ]) (elim b [ true ↦ blank | false ↦ nought + m % 10 ])) [
      | true ↦ refl
      | false ↦ refl
    ]

byte_last : (w n : ℕ) → byte_at (suc w) n w ≡ nought + n % 10
byte_last w n =
    byte_by (suc w) n w n false (left_last w n) (le-ltb w (suc w - 1) (omega arith))
    ∙ elim (eqb n 0) as (λ b. ◌≡◌ {A = ℕ} (elim (b && false) [ true ↦ blank | false ↦ nought + n % 10 ]) (nought + n % 10)) [
      | true ↦ refl
      | false ↦ refl
    ]

padded_tab : (w n : ℕ) → padded w n ≡ tab w (λ i. digit_or (n / 10 ^ (w - 1 - i)))
unfolding tab
padded_tab zero n = refl
padded_tab (suc w) n =
    let f : ℕ → ℕ = λ i. digit_or (n / 10 ^ (suc w - 1 - i)) in
    ap (λ l. l ++ digit_or n ∷ []) (padded_tab w (n / 10) ∙ tab_ext w _ f (λ i h. ap digit_or (sym (left_before w n i h))))
    ∙ ap (λ m. tab w f ++ digit_or m ∷ []) (sym (left_last w n))
    ∙ sym (tab_last w f)

pub column_padded : (w n : ℕ) → column (suc w) n ≡ padded w (n / 10) ++ (nought + n % 10) ∷ []
unfolding column
column_padded w n =
    tab_last w (byte_at (suc w) n)
    ∙ ap (λ b. tab w (byte_at (suc w) n) ++ b ∷ []) (byte_last w n)
    ∙ ap (λ l. l ++ (nought + n % 10) ∷ []) (tab_ext w _ _ (byte_before w n) ∙ sym (padded_tab w (n / 10)))

-- with a digit to show, the last column is as the others
pub column_pos : (w n : ℕ) → 0 < n → column (suc w) n ≡ padded (suc w) n
column_pos w n h = column_padded w n ∙ ap (λ b. padded w (n / 10) ++ b ∷ []) (sym (digit_or_pos n h))

pub length_column : (w n : ℕ) → length (column w n) ≡ w
unfolding column
length_column w n = length_tab w (byte_at w n)

-- A number of no digits is all blanks.
blanks_more : (b : ℕ) → blank ∷ padded b 0 ≡ padded (suc b) 0
blanks_more zero = ap (λ x. x ∷ []) (sym digit_or_zero)
blanks_more (suc b) = ap (λ l. l ++ digit_or 0 ∷ []) (blanks_more b)

pub skipped_none : [] ≡ skipped []
unfolding skipped
skipped_none = refl

pub skipped_blank : (bs : List ℕ) → skipped (blank ∷ bs) ≡ skipped bs
unfolding skipped
skipped_blank bs = refl

pub skipped_at : (b : ℕ) (bs : List ℕ) → (b ≡ blank → ⊥) → skipped (b ∷ bs) ≡ b ∷ bs
unfolding skipped
skipped_at b bs h = rw (ne_eqb b blank h, skipped)

skipped_blanks : (w : ℕ) (bs : List ℕ) → skipped (padded w 0 ++ bs) ≡ skipped bs
skipped_blanks zero bs = refl
skipped_blanks (suc w) bs = ap (λ l. skipped (l ++ bs)) (sym (blanks_more w)) ∙ skipped_blank (padded w 0 ++ bs) ∙ skipped_blanks w bs

-- what was skipped is blanks
unskipped : (bs : List ℕ) → (b : ℕ) × (bs ≡ padded b 0 ++ skipped bs)
unskipped [] = (0, skipped_none)
unskipped (b ∷ bs) =
    elim (ℕ_discrete b blank) [
      | yes e ↦
          let r = unskipped bs in (
            suc r.0,
            ap (λ x. x ∷ bs) e
                ∙ ap (λ l. blank ∷ l) r.1
                ∙ ap (λ l. l ++ skipped bs) (blanks_more r.0)
                ∙ ap (λ l. padded (suc r.0) 0 ++ l) (sym (skipped_blank bs) ∙ ap (λ x. skipped (x ∷ bs)) (sym e)),
          )
      | no h ↦ (0, sym (skipped_at b bs h))
    ]

-- Digits that are read come back from what they spell.
value_ge : (ds : List ℕ) (n : ℕ) → n ≤ value n ds
unfolding value
value_ge [] n = omega arith
value_ge (d ∷ ds) n = omega (arith, value_ge ds (10 * n + (d - nought)))

digit_range : (d : ℕ) → digit d ≡ true → (48 ≤ d) × (d ≤ 57)
unfolding digit
digit_range d e =
    let a = and_true (leb nought d) (leb d 57) e in
    (leb-true nought d a.0, leb-true d 57 a.1)

pub digit_true : (b : ℕ) → 48 ≤ b → b ≤ 57 → digit b ≡ true
unfolding digit
digit_true b h l = rw (le-leb nought b h, le-leb b 57 l)

-- a digit after n > 0, or one that is not 0
padded_more : (w n d : ℕ) → (48 ≤ d) × (d ≤ 57) → 0 < 10 * n + (d - nought) → padded (suc w) (10 * n + (d - nought)) ≡ padded w n ++ d ∷ []
padded_more w n d r h =
    let m : ℕ = 10 * n + (d - nought) in
    let q : m / 10 ≡ n = omega arith in
    let e : nought + m % 10 ≡ d = omega arith in
    ap (λ k. padded w k ++ digit_or m ∷ []) q ∙ ap (λ b. padded w n ++ b ∷ []) (digit_or_pos m h ∙ e)

padded_value : (ds : List ℕ) (w n : ℕ) → 0 < n → all digit ds ≡ true → padded (w + length ds) (value n ds) ≡ padded w n ++ ds
unfolding value
padded_value [] w n h e = ap (λ k. padded k n) (add-zero w) ∙ sym (append-nil (padded w n))
padded_value (d ∷ ds) w n h e =
    let a = and_true (digit d) (all digit ds) e in
    let m : ℕ = 10 * n + (d - nought) in
    let l : w + suc (length ds) ≡ suc w + length ds = omega arith in
    ap (λ k. padded k (value m ds)) l
    ∙ padded_value ds (suc w) m (omega arith) a.1
    ∙ ap (λ l. l ++ ds) (padded_more w n d (digit_range d a.0) (omega arith))
    ∙ append_assoc (padded w n) (d ∷ []) ds

-- the first digit is 0 only if it is the last
first_not_zero : (z e : Bool) → (not z || e) ≡ true → z ≡ true → e ≡ true
first_not_zero true e h q = h
first_not_zero false e h q = absurd (false≢true q)

no_digits : (ds : List ℕ) → length ds ≡ 0 → ds ≡ []
no_digits [] e = refl
no_digits (d ∷ ds) e = absurd (omega arith)

pub plain_facts : (d : ℕ) (ds : List ℕ) → plain (d ∷ ds) ≡ true → (digit d ≡ true) × (all digit ds ≡ true) × (d ≡ nought → ds ≡ [])
unfolding plain
plain_facts d ds e =
    let a = and_three (digit d) (all digit ds) (not (eqb d nought) || eqb (length ds) 0) e in (
      a.0,
      a.1,
      λ q. no_digits ds (eqb-true (length ds) 0 (first_not_zero (eqb d nought) (eqb (length ds) 0) a.2 (eq-eqb d nought q))),
    )

plain_of : (d : ℕ) (ds : List ℕ) → digit d ≡ true → all digit ds ≡ true → (d ≡ nought → ds ≡ []) → plain (d ∷ ds) ≡ true
unfolding plain
plain_of d ds p q z =
    elim (ℕ_discrete d nought) [
      | yes e ↦ rw (p, q, ap length (z e)) (or-true (not (eqb d nought)))
      | no h ↦ rw (p, q, ne_eqb d nought h)
    ]

plain_column : (b : ℕ) (ds : List ℕ) → plain ds ≡ true → column (b + length ds) (value 0 ds) ≡ padded b 0 ++ ds
unfolding value plain
plain_column b [] p = absurd (false≢true p)
plain_column b (d ∷ ds) p =
    let f = plain_facts d ds p in
    let r = digit_range d f.0 in
    let l : b + suc (length ds) ≡ suc (b + length ds) = omega arith in
    let s : suc (b + length ds) ≡ suc b + length ds = omega arith in
    let m : ℕ = 10 * 0 + (d - nought) in
    elim (ℕ_discrete d nought) [
      | yes e ↦ rw (e, f.2 e) (ap (λ k. column k 0) (add-one b) ∙ column_padded b 0)
      | no h ↦
          ap (λ k. column k (value m ds)) l
          ∙ column_pos (b + length ds) (value m ds) (omega (arith, value_ge ds m))
          ∙ ap (λ k. padded k (value m ds)) s
          ∙ padded_value ds (suc b) m (omega arith) f.1
          ∙ ap (λ l. l ++ ds) (padded_more b 0 d r (omega arith))
          ∙ append_assoc (padded b 0) (d ∷ []) ds
    ]

length_padded : (w n : ℕ) → length (padded w n) ≡ w
length_padded zero n = refl
length_padded (suc w) n = length-append (padded w (n / 10)) (digit_or n ∷ []) ∙ omega (arith, length_padded w (n / 10))

-- the columns of a number are the columns of that number
pub column_read : (bs : List ℕ) → plain (skipped bs) ≡ true → column (length bs) (number_of bs) ≡ bs
unfolding number_of
column_read bs p =
    let r = unskipped bs in
    let b : ℕ = r.0 in
    let l : length bs ≡ b + length (skipped bs) =
    ap length r.1 ∙ length-append (padded b 0) (skipped bs) ∙ ap (λ k. k + length (skipped bs)) (length_padded b 0)
    in
    ap (λ k. column k (value 0 (skipped bs))) l ∙ plain_column b (skipped bs) p ∙ sym r.1

-- Columns that are written are read back.
value_none : (n : ℕ) → value n [] ≡ n
unfolding value
value_none n = refl

value_more : (n : ℕ) (ds : List ℕ) → value (n / 10) ((nought + n % 10) ∷ ds) ≡ value n ds
unfolding value
value_more n ds =
    let e : 10 * (n / 10) + (nought + n % 10 - nought) ≡ n = omega arith in
    ap (λ k. value k ds) e

digit_shown : (n : ℕ) → digit (nought + n % 10) ≡ true
digit_shown n = digit_true (nought + n % 10) (omega arith) (omega arith)

padded_read : (w n : ℕ) (ds : List ℕ) → n < 10 ^ w → skipped ds ≡ ds → all digit ds ≡ true → (n ≡ 0 → plain ds ≡ true)
    → (plain (skipped (padded w n ++ ds)) ≡ true) × (value 0 (skipped (padded w n ++ ds)) ≡ value n ds)
padded_read zero n ds h s a z =
    let e : n ≡ 0 = omega arith in
    (ap plain s ∙ z e, ap (value 0) s ∙ ap (λ k. value k ds) (sym e))
padded_read (suc w) n ds h s a z =
    elim (ℕ_discrete n 0) [
      | yes e ↦
          let q : skipped (padded (suc w) n ++ ds) ≡ ds =
          ap (λ k. skipped (padded (suc w) k ++ ds)) e ∙ skipped_blanks (suc w) ds ∙ s
          in
          (ap plain q ∙ z e, ap (value 0) q ∙ ap (λ k. value k ds) (sym e))
      | no p ↦
          let d : ℕ = nought + n % 10 in
          let e : padded (suc w) n ++ ds ≡ padded w (n / 10) ++ d ∷ ds =
          append_assoc (padded w (n / 10)) (digit_or n ∷ []) ds ∙ ap (λ b. padded w (n / 10) ++ b ∷ ds) (digit_or_pos n (omega arith))
          in
          let b : n / 10 < 10 ^ w = omega (arith, pow-succ' 10 w) in
          let r =
          padded_read w (n / 10) (d ∷ ds) b (skipped_at d ds (λ q. omega arith)) (rw (digit_shown n, a))
          (λ q. plain_of d ds (digit_shown n) a (λ t. absurd (omega arith)))
          in
          (ap (λ l. plain (skipped l)) e ∙ r.0, ap (λ l. value 0 (skipped l)) e ∙ r.1 ∙ value_more n ds)
    ]

pub column_plain : (w n : ℕ) → 1 ≤ w → n < 10 ^ w → (plain (skipped (column w n)) ≡ true) × (number_of (column w n) ≡ n)
unfolding number_of
column_plain zero n h b = absurd (omega arith)
column_plain (suc w) n h b =
    let d : ℕ = nought + n % 10 in
    let r =
    padded_read w (n / 10) (d ∷ []) (omega (arith, pow-succ' 10 w)) (skipped_at d [] (λ q. omega arith)) (rw (digit_shown n))
    (λ q. plain_of d [] (digit_shown n) refl (λ t. refl))
    in
    rw (column_padded w n) (r.0, r.1 ∙ value_more n [] ∙ value_none n)
