-- What the functions' proofs and the promises share: bounds on products and quotients, days left and balances, and the limits of labels
-- and keys.
use mathlib.Core.Bool.{Bool, true, false, and-false, and-eq-true_iff, not-eq-not}
use mathlib.Core.Path.{◌≡◌, sym, subst⁻¹, ◌∙◌}
use mathlib.Core.Logic.{inl, inr}
use Prim.Native.Nat.{ℕ, ◌+◌, ◌*◌, ◌/◌, ◌^◌, ◌≤◌, ◌<◌, max}
use native.Mathlib.Nat.{le_of_lt, lt_of_le_of_lt, mul-le-mul_left, mul-lt-mul_of_pos_right, mul_comm}
use native.Mathlib.Nat.{div-le_of_le-mul, div-zero, div-mul-le_self, lt-div-mul-add, div-lt_iff_lt-mul}
use native.Mathlib.Decide.{ℕ_discrete}
use native.Mathlib.Omega.{arith}
use lib.Dec.{leb, ltb}
use lib.Pow.{pow_pos, pow-add}
use borrow.Author.Tests.{leb-true, ltb-true, eqb-true, le-leb, lt-ltb, eq-eqb, ne_eqb}
use Rattle.lists.proofs.Cases.{bool_cases}
use Rattle.plot.specs.declared.Label.{Label}
use Rattle.plot.specs.Plot.{lawful_day, lawful_term}
use Rattle.plot.specs.Money.{days_left, amount, balance_reply}
use Rattle.plot.specs.Label.{lawful_label, pack, section_of, row_of, place_of, letter_of, has_label, key_of_reply, label_of_reply}
use Rattle.plot.specs.Label.{largest_place, old_place_of, converts, convert_reply}
use Rattle.plot.specs.Promises.{InTerm, Limits, Convertible}

-- The product of two numbers of k bits has at most k + k.
pub product_below : (k : ℕ) {a b : ℕ} → a < 2 ^ k → b < 2 ^ k → a * b < 2 ^ (k + k)
product_below k {a} {b} ha hb =
    subst⁻¹ (λ (n : ℕ). a * b < n) (pow-add 2 k k)
    (lt_of_le_of_lt (mul-le-mul_left a (le_of_lt hb)) (mul-lt-mul_of_pos_right ha (pow_pos k)))

-- x × d / l is at most x where d is at most l.
pub share_le : (x d l : ℕ) → d ≤ l → x * d / l ≤ x
share_le x d l h = div-le_of_le-mul l (rw (mul_comm l x) (mul-le-mul_left x h))

-- A number of 32 bits times at most l is below l × 2^32.
pub share_fits : {x d l : ℕ} → x < 2 ^ 32 → d ≤ l → 1 ≤ l → x * d < l * 2 ^ 32
share_fits {x} {d} {l} h w p =
    rw (mul_comm l (2 ^ 32)) (lt_of_le_of_lt (mul-le-mul_left x w) (mul-lt-mul_of_pos_right h p))

-- A number below l × 2^32 has a quotient by l of at most 32 bits.
pub quotient_below : (x l : ℕ) → 1 ≤ l → x < l * 2 ^ 32 → x / l < 2 ^ 32
quotient_below x l p h = (div-lt_iff_lt-mul p).1 (rw (mul_comm (2 ^ 32) l) h)

-- The limits of lease days, a last day and today.
module _ (day : ℕ) where
  pub day_limit : lawful_day day ≡ true → day ≤ 99999
  unfolding lawful_day
  day_limit = leb-true day 99999

  pub limit_day : day ≤ 99999 → lawful_day day ≡ true
  unfolding lawful_day
  limit_day = le-leb day 99999

module _ (lease last : ℕ) where
  pub term_facts : lawful_term lease last ≡ true → InTerm lease last
  unfolding lawful_term
  term_facts e =
      elim (ℕ_discrete lease 0) [
        | yes z ↦ inl (z, eqb-true last 0 (rw (eq-eqb lease 0 z, lawful_term) at e))
        | no z ↦
            let a = (and-eq-true_iff (leb lease 36525) (lawful_day last)).0 (rw (ne_eqb lease 0 z, lawful_term) at e) in
            inr (omega arith, leb-true lease 36525 a.0, day_limit last a.1)
      ]

  pub facts_term : InTerm lease last → lawful_term lease last ≡ true
  unfolding lawful_term
  facts_term (inl a) = rw (eq-eqb lease 0 a.0, eq-eqb last 0 a.1, lawful_term)
  facts_term (inr a) = rw (ne_eqb lease 0 (λ z. omega arith), le-leb lease 36525 a.1, limit_day last a.2, lawful_term)

-- Lease days of a lawful term, with 1 for none, as a divisor of 16 binary digits.
pub divisor_fits : (lease last : ℕ) → lawful_term lease last ≡ true → max lease 1 < 2 ^ 16
divisor_fits lease last e = elim (term_facts lease last e) [ inl a ↦ omega (arith, a.0) | inr a ↦ omega (arith, a.1) ]

pub last_fits : (lease last : ℕ) → lawful_term lease last ≡ true → last ≤ 99999
last_fits lease last e = elim (term_facts lease last e) [ inl a ↦ omega (arith, a.1) | inr a ↦ omega (arith, a.2) ]

-- Days left: at most the lease days, and 0 past the last day.
module _ (lease last today : ℕ) where
  pub days_within : days_left lease last today ≤ lease
  unfolding days_left
  days_within = omega arith

  pub days_ended : last < today → days_left lease last today ≡ 0
  unfolding days_left
  days_ended h = omega arith

-- A balance: 0 if perpetual, always the quotient (a quotient by 0 is 0), and at most the price.
module _ (price lease last today : ℕ) where
  pub amount_perpetual : lease ≡ 0 → amount price lease last today ≡ 0
  unfolding amount
  amount_perpetual h = rw (eq-eqb lease 0 h, amount)

  pub amount_quotient : amount price lease last today ≡ price * days_left lease last today / lease
  unfolding amount
  amount_quotient =
      elim (ℕ_discrete lease 0) [
        | yes h ↦ amount_perpetual h ∙ sym (rw h (div-zero _))
        | no h ↦ rw (ne_eqb lease 0 h, amount)
      ]

  -- a perpetual lease has no days left, so 1 serves as its lease days
  pub amount_share : amount price lease last today ≡ price * days_left lease last today / max lease 1
  amount_share =
      elim (ℕ_discrete lease 0) [
        | yes h ↦
            let d : days_left lease last today ≡ 0 = omega (arith, days_within lease last today) in
            amount_perpetual h ∙ sym (rw (d, h) (omega arith))
        | no h ↦ let m : max lease 1 ≡ lease = omega arith in rw m amount_quotient
      ]

  pub amount_exact : 1 ≤ lease
      → let q = amount price lease last today in
      (q * lease ≤ price * days_left lease last today) × (price * days_left lease last today < (q + 1) * lease)
  amount_exact h =
      let n : ℕ = price * days_left lease last today in
      rw amount_quotient (div-mul-le_self n lease, omega (arith, lt-div-mul-add {a = n} {b = lease} h))

  pub amount_within : amount price lease last today ≤ price
  amount_within = rw amount_quotient (share_le price _ lease (days_within lease last today))

-- What `balance` is to reply: a refusal of the term or of today, else the amount.
module _ (price lease last today : ℕ) where
  pub term_refused : lawful_term lease last ≡ false → record { number = 6; value = 0 } ≡ balance_reply price lease last today
  unfolding balance_reply
  term_refused h = rw (h, balance_reply)

  pub today_refused : lawful_day today ≡ false → record { number = 6; value = 0 } ≡ balance_reply price lease last today
  unfolding balance_reply
  today_refused h = rw (h, and-false (lawful_term lease last), balance_reply)

  pub balance_given :
      {v : ℕ} →
      lawful_term lease last ≡ true →
      lawful_day today ≡ true →
      v ≡ amount price lease last today →
      record { number = 0; value = v } ≡ balance_reply price lease last today
  unfolding balance_reply
  balance_given t d e = rw (t, d, balance_reply) (rw e)

-- The limits of a label.
module _ (s r p l : ℕ) where
  pub label_limits : lawful_label s r p l ≡ true → Limits s r p l
  unfolding lawful_label
  label_limits h =
      let a = (and-eq-true_iff (leb 1 s) _).0 h in
      let b = (and-eq-true_iff (leb s 255) _).0 a.1 in
      let d = (and-eq-true_iff (leb r 4095) _).0 b.1 in
      let e = (and-eq-true_iff (leb p 255) (leb l 15)).0 d.1 in
      record {
        first = leb-true 1 s a.0;
        section = leb-true s 255 b.0;
        row = leb-true r 4095 d.0;
        place = leb-true p 255 e.0;
        letter = leb-true l 15 e.1;
      }

  pub limits_label : Limits s r p l → lawful_label s r p l ≡ true
  unfolding lawful_label
  limits_label h =
      simp
      (le-leb 1 s h.first, le-leb s 255 h.section, le-leb r 4095 h.row, le-leb p 255 h.place, le-leb l 15 h.letter)

-- What `key_of` is to reply: a refusal outside the limits, else the key.
abbrev is_lawful : Label → Bool
is_lawful l = lawful_label l.section l.row l.place l.letter

abbrev packed : Label → ℕ
packed l = pack l.section l.row l.place l.letter

module _ {l : Label} where
  pub key_refused : (Limits l.section l.row l.place l.letter → ⊥) → record { number = 11; key = 0 } ≡ key_of_reply l
  unfolding key_of_reply
  key_refused h = rw ((not-eq-not {a = is_lawful l} {b = false}).0 (λ e. h (label_limits _ _ _ _ e)), key_of_reply)

  pub key_given :
      {k : ℕ} →
      Limits l.section l.row l.place l.letter →
      k ≡ packed l →
      record { number = 0; key = k } ≡ key_of_reply l
  unfolding key_of_reply
  key_given h e = rw (limits_label l.section l.row l.place l.letter h, key_of_reply) (rw e)

-- a label that is not refused
module _ (l : Label) where
  pub key_lawful : (key_of_reply l).number ≡ 0 → is_lawful l ≡ true
  unfolding key_of_reply
  key_lawful e =
      elim (bool_cases (is_lawful l)) [ inl h ↦ h | inr h ↦ absurd (omega (arith, rw (h, key_of_reply) at e)) ]

  pub key_packed : is_lawful l ≡ true → (key_of_reply l).key ≡ packed l
  unfolding key_of_reply
  key_packed h = rw (h, key_of_reply)

-- The limits of a key that has a label.
module _ (k : ℕ) where
  pub key_limits : has_label k ≡ true → (2 ^ 24 ≤ k) × (k < 2 ^ 32)
  unfolding has_label
  key_limits h =
      let a = (and-eq-true_iff (leb (2 ^ 24) k) (ltb k (2 ^ 32))).0 h in
      (leb-true (2 ^ 24) k a.0, ltb-true k (2 ^ 32) a.1)

  pub limits_key : 2 ^ 24 ≤ k → k < 2 ^ 32 → has_label k ≡ true
  unfolding has_label
  limits_key h l = simp (le-leb (2 ^ 24) k h, lt-ltb k (2 ^ 32) l)

-- What `label_of` is to reply: a refusal below 2^24, else the parts of the key.
module _ {k : ℕ} where
  pub label_refused : k < 2 ^ 24 → record { number = 11; section = 0; row = 0; place = 0; letter = 0 } ≡ label_of_reply k
  unfolding label_of_reply
  label_refused h = rw ((not-eq-not {a = has_label k} {b = false}).0 (λ e. omega (arith, key_limits k e)), label_of_reply)

  pub label_given : 2 ^ 24 ≤ k → k < 2 ^ 32
      → record { number = 0; section = section_of k; row = row_of k; place = place_of k; letter = letter_of k } ≡ label_of_reply k
  unfolding label_of_reply
  label_given h l = rw (limits_key k h l, label_of_reply)

-- What `convert` is to reply: a refusal below 2^24 or of a place above 255, else the key with letter 0.
module _ (k : ℕ) where
  pub convert_limits : converts k ≡ true → Convertible k
  unfolding converts
  convert_limits h =
      let a = (and-eq-true_iff (has_label k) (leb (old_place_of k) largest_place)).0 h in
      let b = key_limits k a.0 in
      (b.0, b.1, leb-true (old_place_of k) largest_place a.1)

  pub convert_refused : (Convertible k → ⊥) → record { number = 11; key = 0 } ≡ convert_reply k
  unfolding convert_reply
  convert_refused h = rw ((not-eq-not {a = converts k} {b = false}).0 (λ e. h (convert_limits e)), convert_reply)

  pub convert_given :
      {n : ℕ} →
      Convertible k →
      n ≡ pack (section_of k) (row_of k) (old_place_of k) 0 →
      record { number = 0; key = n } ≡ convert_reply k
  unfolding converts convert_reply
  convert_given h e = rw (limits_key k h.0 h.1, le-leb (old_place_of k) largest_place h.2, convert_reply) (rw e)

  pub convert_key : converts k ≡ true → (convert_reply k).key ≡ pack (section_of k) (row_of k) (old_place_of k) 0
  unfolding convert_reply
  convert_key h = rw (h, convert_reply)
