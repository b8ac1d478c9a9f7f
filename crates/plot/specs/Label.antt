-- Plot labels and their keys. Document 02, M-102, for document 01's packing.
--   largest_place      == the largest place of a label
--   lawful_label s r p l == section, row, place and letter within their limits
--   pack s r p l      == the key of a label
--   section_of, row_of, place_of, letter_of == the parts of a key
--   has_label k        == the key k has a label
--   old_place_of k      == the place in a key of the old packing, which has the same section and row
--   converts k        == the key k of the old packing has a place that a label may have
--   KeyReply, key_reply, key_of_reply       == document 01's number and value of an answer; what `key_of` is to reply
--   LabelReply, label_reply, label_of_reply == the same for `label_of`
--   convert_reply k    == what `convert` is to reply
use Rattle.std.specs.Prelude.{Result, Ok, Err, Bool, true, false, ◌&&◌, ℕ, ◌+◌, ◌*◌, ◌/◌, ◌%◌, ◌^◌, leb, ltb}
use Rattle.plot.specs.declared.Label.{Label}
use Rattle.answers.specs.declared.Refusal.{Refusal}
use Rattle.answers.specs.Answers.{number}

abbrev pub largest_place : ℕ
largest_place = 255

-- "A label is section 1 to 255, row 0 to 4,095"; M-102: "A label becomes section, row, place 0 to 255, letter 0 for none or 1 to 15 for A to
-- O"
unfoldable pub lawful_label : ℕ → ℕ → ℕ → ℕ → Bool
lawful_label section row place letter =
    leb 1 section && (leb section 255 && (leb row 4095 && (leb place largest_place && leb letter 15)))

-- M-102: "and its key section × 2^24 + row × 2^12 + place × 16 + letter."
unfoldable pub pack : ℕ → ℕ → ℕ → ℕ → ℕ
pack section row place letter = section * 2 ^ 24 + row * 2 ^ 12 + place * 16 + letter

unfoldable pub section_of : ℕ → ℕ
section_of k = k / 2 ^ 24

unfoldable pub row_of : ℕ → ℕ
row_of k = k / 2 ^ 12 % 2 ^ 12

unfoldable pub place_of : ℕ → ℕ
place_of k = k / 16 % 2 ^ 8

unfoldable pub letter_of : ℕ → ℕ
letter_of k = k % 16

-- "A key below 2^24 has no label." A key is a 32-bit number.
unfoldable pub has_label : ℕ → Bool
has_label k = leb (2 ^ 24) k && ltb k (2 ^ 32)

pub record KeyReply : Type 0 where
  pub number : ℕ
  pub key : ℕ

abbrev pub key_reply : Result ℕ Refusal → KeyReply
key_reply (Ok k) = record { number = 0; key = k }
key_reply (Err e) = record { number = number e; key = 0 }

-- "label or key outside its limits: 11, zeros"
unfoldable pub key_of_reply : Label → KeyReply
key_of_reply l =
    elim (lawful_label l.section l.row l.place l.letter) [
      | true ↦ record { number = 0; key = pack l.section l.row l.place l.letter }
      | false ↦ record { number = 11; key = 0 }
    ]

pub record LabelReply : Type 0 where
  pub number : ℕ
  pub section : ℕ
  pub row : ℕ
  pub place : ℕ
  pub letter : ℕ

abbrev pub label_reply : Result Label Refusal → LabelReply
label_reply (Ok l) = record { number = 0; section = l.section; row = l.row; place = l.place; letter = l.letter }
label_reply (Err e) = record { number = number e; section = 0; row = 0; place = 0; letter = 0 }

unfoldable pub label_of_reply : ℕ → LabelReply
label_of_reply k =
    elim (has_label k) [
      | true ↦ record { number = 0; section = section_of k; row = row_of k; place = place_of k; letter = letter_of k }
      | false ↦ record { number = 11; section = 0; row = 0; place = 0; letter = 0 }
    ]

-- "its key is section × 2^24 + row × 2^12 + place", the old packing
unfoldable pub old_place_of : ℕ → ℕ
old_place_of k = k % 2 ^ 12

-- M-102: "a conversion gives the new key of an old one whose place is at most 255, as letter 0, and refuses others, those below 2^24
-- included, with 11."
unfoldable pub converts : ℕ → Bool
converts k = has_label k && leb (old_place_of k) largest_place

unfoldable pub convert_reply : ℕ → KeyReply
convert_reply k =
    elim (converts k) [
      | true ↦ record { number = 0; key = pack (section_of k) (row_of k) (old_place_of k) 0 }
      | false ↦ record { number = 11; key = 0 }
    ]
