-- The promises hold, by the laws on money and labels.
use mathlib.Core.Bool.{not, and-eq-true_iff}
use mathlib.Core.Path.{◌≡◌, sym, ◌∙◌}
use mathlib.Core.Logic.{inl, inr}
use Prim.Native.Nat.{ℕ, ◌^◌, ◌<◌}
use native.Mathlib.Decide.{dec_lt}
use native.Mathlib.Nat.{mul-zero, zero-div}
use native.Mathlib.Omega.{arith}
use lib.Dec.{eqb}
use borrow.Author.Tests.{ltb-true, lt-ltb, eqb-false, ne_eqb, not-true}
use Rattle.plot.specs.Plot.{is_word, lawful}
use Rattle.plot.specs.Money.{days_left}
use Rattle.plot.specs.Label.{LabelReply, pack, section_of, row_of, place_of, letter_of, old_place_of}
use Rattle.plot.specs.Promises.{TermLimits, DaysWithinLease, NoneLeftAfterTheEnd, OneLeftAtTheEnd, BalanceWithinPrice, BalanceExact}
use Rattle.plot.specs.Promises.{LabelKeyLabel, KeyLabelKey, Limits, Before, LabelOrder, Converted, ConvertedInOrder, LawfulRecord}
use Rattle.plot.proofs.Laws.{term_facts, facts_term, days_within, days_ended, amount_quotient, amount_exact, amount_within}
use Rattle.plot.proofs.Laws.{label_limits, limits_label, key_limits, limits_key, label_given, key_lawful, key_packed}
use Rattle.plot.proofs.Laws.{convert_limits, convert_key}

pub term_limits : TermLimits
term_limits lease last = (term_facts lease last, facts_term lease last)

pub days_within_lease : DaysWithinLease
days_within_lease = days_within

pub one_left_at_the_end : OneLeftAtTheEnd
unfolding days_left
one_left_at_the_end lease last h = omega arith

pub none_left_after_the_end : NoneLeftAfterTheEnd
none_left_after_the_end price lease last today h =
    let ended = days_ended lease last today h in
    (ended, rw (amount_quotient, ended, mul-zero price, zero-div lease))

pub balance_within_price : BalanceWithinPrice
balance_within_price = amount_within

pub balance_exact : BalanceExact
balance_exact = amount_exact

pub label_key_label : LabelKeyLabel
unfolding pack section_of row_of place_of letter_of
label_key_label s r p l h =
    let i = label_limits s r p l h in
    (limits_key (pack s r p l) (omega arith) (omega arith), omega arith, omega arith, omega arith, omega arith)

pub key_label_key : KeyLabelKey
unfolding pack section_of row_of place_of letter_of
key_label_key k h =
    let i = key_limits k h in (
      limits_label (section_of k) (row_of k) (place_of k) (letter_of k)
          record { first = omega arith; section = omega arith; row = omega arith; place = omega arith; letter = omega arith },
      omega arith,
    )

before_lower : {a b c d e f g h : ℕ} → Limits a b c d → Limits e f g h
    → Before (record { section = a; row = b; place = c; letter = d }) (record { section = e; row = f; place = g; letter = h })
    → pack a b c d < pack e f g h
unfolding pack
before_lower i j (inl q) = omega (arith, i.row, i.place, i.letter)
before_lower i j (inr (q, inl r)) = omega (arith, i.place, i.letter)
before_lower i j (inr (q, inr (r, inl t))) = omega (arith, i.letter)
before_lower i j (inr (q, inr (r, inr (t, u)))) = omega arith

lower_before : {a b c d e f g h : ℕ} → Limits a b c d → Limits e f g h → pack a b c d < pack e f g h
    → Before (record { section = a; row = b; place = c; letter = d }) (record { section = e; row = f; place = g; letter = h })
unfolding pack
lower_before {a} {b} {c} {d} {e} {f} {g} {h} i j q =
    elim (dec_lt a e) [
      | yes r ↦ inl r
      | no r ↦
          let x : a ≡ e = omega (arith, j.row, j.place, j.letter) in
          elim (dec_lt b f) [
            | yes t ↦ inr (x, inl t)
            | no t ↦
                let y : b ≡ f = omega (arith, j.place, j.letter) in
                elim (dec_lt c g) [
                  | yes u ↦ inr (x, inr (y, inl u))
                  | no u ↦
                      let z : c ≡ g = omega (arith, j.letter) in
                      inr (x, inr (y, inr (z, omega arith)))
                ]
          ]
    ]

pub label_order : LabelOrder
label_order x y p q =
    let h = key_lawful x p in
    let k = key_lawful y q in
    let i = label_limits _ _ _ _ h in
    let j = label_limits _ _ _ _ k in
    rw (key_packed x h, key_packed y k) (before_lower i j, lower_before i j)

same_label : {s s' r r' p p' l l' : ℕ} → s ≡ s' → r ≡ r' → p ≡ p' → l ≡ l'
    → ◌≡◌ {A = LabelReply} (record { number = 0; section = s; row = r; place = p; letter = l })
    (record { number = 0; section = s'; row = r'; place = p'; letter = l' })
same_label a b c d = rw (a, b, c, d)

pub converted : Converted
unfolding pack section_of row_of place_of letter_of old_place_of
converted k h =
    let i = convert_limits k h in
    rw (convert_key k h)
    (sym (label_given (omega (arith, i.0)) (omega (arith, i.1, i.2)))
    ∙ same_label (omega arith) (omega arith) (omega (arith, i.2)) (omega arith))

pub converted_in_order : ConvertedInOrder
unfolding pack section_of row_of old_place_of
converted_in_order j k h i l =
    let a = convert_limits j h in
    let b = convert_limits k i in
    rw (convert_key j h, convert_key k i) (omega (arith, a.2, b.2))

pub lawful_record : LawfulRecord
unfolding lawful is_word
lawful_record r = (
  λ h. let a = (and-eq-true_iff (is_word r.key) _).0 h in
      let b = (and-eq-true_iff (not (eqb r.key 0)) _).0 a.1 in
      let d = (and-eq-true_iff (is_word r.price) _).0 b.1 in (
        ltb-true r.key (2 ^ 32) a.0,
        eqb-false r.key 0 (not-true (eqb r.key 0) b.0),
        ltb-true r.price (2 ^ 32) d.0,
        term_facts r.lease r.last d.1,
      ),
  λ h. rw
      (lt-ltb r.key (2 ^ 32) h.0, ne_eqb r.key 0 h.1, lt-ltb r.price (2 ^ 32) h.2, facts_term r.lease r.last h.3),
)
