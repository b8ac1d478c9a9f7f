-- What holds of plots, money and labels, as document 01 has it. `proofs/Promises.antt` proves each: `DaysWithinLease` as
-- `days_within_lease`, and so on.
--   InTerm lease last  == lease days and last day within their limits, said with numbers
--   TermLimits         == `lawful_term` tests just these
--   Limits s r p l     == section, row, place and letter within their limits, said with numbers
--   DaysWithinLease    == days left are at most the lease days
--   NoneLeftAfterTheEnd == past the last day no days and no money are left
--   OneLeftAtTheEnd    == on the last day one day is left
--   BalanceWithinPrice == a balance is at most the price
--   BalanceExact       == a balance is price × days left / lease days, rounded down
--   LabelKeyLabel      == a label's key has that label again
--   KeyLabelKey        == the label of a key has that key again
--   Before x y         == the label x comes before the label y: by section, then row, then place, then letter
--   LabelOrder         == the order of labels is the order of their keys
--   Convertible k      == what a key of the old packing needs to convert, said with numbers
--   Converted          == a key that converts has the old section, row and place, and no letter
--   ConvertedInOrder   == of two keys that convert, the lower converts to the lower
--   InLimits r         == a record within its limits, said with numbers
--   LawfulRecord       == `lawful` tests just these
use Rattle.std.specs.Prelude.{true, ◌≡◌, ◌⊎◌, ℕ, ◌+◌, ◌*◌, ◌^◌, ◌≤◌, ◌<◌}
use Rattle.plot.specs.declared.Record.{Record}
use Rattle.plot.specs.Plot.{lawful_term, lawful}
use Rattle.plot.specs.Money.{days_left, amount}
use Rattle.plot.specs.declared.Label.{Label}
use Rattle.plot.specs.Label.{lawful_label, pack, section_of, row_of, place_of, letter_of, has_label, old_place_of, converts}
use Rattle.plot.specs.Label.{key_of_reply, label_of_reply, convert_reply}

-- "Lease days are 0 (perpetual; last day is then 0) or 1 to 36,525. A last day .. is a day number 0 to 99,999."
abbrev pub InTerm : ℕ → ℕ → Type 0
InTerm lease last = ((lease ≡ 0) × (last ≡ 0)) ⊎ ((1 ≤ lease) × (lease ≤ 36525) × (last ≤ 99999))

abbrev pub TermLimits : Type 0
TermLimits = (lease last : ℕ) → (lawful_term lease last ≡ true → InTerm lease last) × (InTerm lease last → lawful_term lease last ≡ true)

-- "A label is section 1 to 255, row 0 to 4,095"; M-102: "place 0 to 255, letter 0 for none or 1 to 15"
pub record Limits (s r p l : ℕ) : Type 0 where
  pub first : 1 ≤ s
  pub section : s ≤ 255
  pub row : r ≤ 4095
  pub place : p ≤ 255
  pub letter : l ≤ 15

-- "but never more than the lease days."
abbrev pub DaysWithinLease : Type 0
DaysWithinLease = (lease last today : ℕ) → days_left lease last today ≤ lease

-- M-104: "0 after it", and then the balance is 0, whatever the price.
abbrev pub NoneLeftAfterTheEnd : Type 0
NoneLeftAfterTheEnd =
    (price lease last today : ℕ) →
    last < today →
    (days_left lease last today ≡ 0) × (amount price lease last today ≡ 0)

-- M-104: "Our offices' new lease form includes the last day."
abbrev pub OneLeftAtTheEnd : Type 0
OneLeftAtTheEnd = (lease last : ℕ) → 1 ≤ lease → days_left lease last last ≡ 1

-- "Balance = price × days left / lease days, rounded down; 0 if perpetual." So it is at most the price.
abbrev pub BalanceWithinPrice : Type 0
BalanceWithinPrice = (price lease last today : ℕ) → amount price lease last today ≤ price

-- "rounded down": no other whole number q has q × lease days ≤ price × days left < (q + 1) × lease days.
abbrev pub BalanceExact : Type 0
BalanceExact =
    (price lease last today : ℕ) →
    1 ≤ lease →
    let q = amount price lease last today in
    (q * lease ≤ price * days_left lease last today) × (price * days_left lease last today < (q + 1) * lease)

-- a label's key has a label, with the same four parts
abbrev pub LabelKeyLabel : Type 0
LabelKeyLabel =
    (s r p l : ℕ) →
    lawful_label s r p l ≡ true →
    let k = pack s r p l in
    (has_label k ≡ true) × (section_of k ≡ s) × (row_of k ≡ r) × (place_of k ≡ p) × (letter_of k ≡ l)

-- "A key below 2^24 has no label." Any other 32-bit key is the key of the label of its four parts.
abbrev pub KeyLabelKey : Type 0
KeyLabelKey =
    (k : ℕ) →
    has_label k ≡ true →
    (lawful_label (section_of k) (row_of k) (place_of k) (letter_of k) ≡ true) × (pack (section_of k) (row_of k) (place_of k) (letter_of k) ≡ k)

-- M-102: "12A must list after 12 and before 13."
abbrev pub Before : Label → Label → Type 0
Before x y =
    (x.section < y.section)
    ⊎ ((x.section ≡ y.section)
    × ((x.row < y.row)
    ⊎ ((x.row ≡ y.row) × ((x.place < y.place) ⊎ ((x.place ≡ y.place) × (x.letter < y.letter))))))

abbrev pub LabelOrder : Type 0
LabelOrder =
    (x y : Label) →
    (key_of_reply x).number ≡ 0 →
    (key_of_reply y).number ≡ 0 →
    (Before x y → (key_of_reply x).key < (key_of_reply y).key) × ((key_of_reply x).key < (key_of_reply y).key → Before x y)

-- M-102: "an old one whose place is at most 255"; "those below 2^24" are refused
abbrev pub Convertible : ℕ → Type 0
Convertible k = (2 ^ 24 ≤ k) × (k < 2 ^ 32) × (old_place_of k ≤ 255)

-- M-102: "gives the new key of an old one whose place is at most 255, as letter 0"
abbrev pub Converted : Type 0
Converted =
    (k : ℕ) →
    converts k ≡ true →
    label_of_reply (convert_reply k).key ≡ record { number = 0; section = section_of k; row = row_of k; place = old_place_of k; letter = 0 }

-- M-102: "Of two old keys that convert, the lower converts to the lower."
abbrev pub ConvertedInOrder : Type 0
ConvertedInOrder = (j k : ℕ) → converts j ≡ true → converts k ≡ true → j < k → (convert_reply j).key < (convert_reply k).key

-- "A record is four 32-bit unsigned words", "Key 0 is never held."
abbrev pub InLimits : Record → Type 0
InLimits r = (r.key < 2 ^ 32) × (r.key ≡ 0 → ⊥) × (r.price < 2 ^ 32) × InTerm r.lease r.last

abbrev pub LawfulRecord : Type 0
LawfulRecord = (r : Record) → (lawful r ≡ true → InLimits r) × (InLimits r → lawful r ≡ true)
