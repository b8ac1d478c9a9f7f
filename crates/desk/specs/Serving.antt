-- The desk between two bytes of input, and what serving some bytes does.
--   line_of d          == the bytes of the line that is not yet ended
--   rest_of s d input  == what is still to be written, and the words at the end, if this is the input still to come
--   kept_line bs       == the bytes of a line that are kept: one more than a line has
--   until_feed bs      == how many bytes stand before the first 0A
--   goes_on d left room == the desk has a listing to carry on or bytes to take, and room for a part
--   to_do d            == 1 if a listing is open, else 0
--   GetsOn d r        == a turn gets on: bytes are taken or put, or the listing is at its end
--   Answers s l n out t out' r == r says how the line l was answered
--   Serves s d input out t out' r == r says how far the desk d has come with the input: what it has put into the output, and then what
--                        is still to be written, is what was to be written; whatever input follows
--   Finishes          == it has come to the end of the input, or the output has no room for a part
--   finished d out    == the bytes after the last line
--   Run s d input bytes t e == calls of serve, one after another, on the words s and the desk d, each on bytes that come next in the input;
--                        they take all of it, put the bytes, and leave the words t and the desk e
--   Delivered         == however the input comes and the output goes, the bytes put, with the reply to an unfinished line, are the transcript
--   EndPut            == finish puts that reply
use Rattle.std.specs.Prelude.{◌≡◌, None, is_some, Bool, true, false, ◌&&◌, ◌||◌, List, [], ◌∷◌, ◌++◌, ◌⊎◌, ℕ, suc, ◌+◌, ◌*◌, ◌≤◌, ◌<◌, leb, ltb, eqb, length, take, drop, replicate}
use Rattle.lines.specs.declared.Reply.TheVariants.{WrongLine}
use Rattle.lines.specs.Request.{parsed}
use Rattle.lines.specs.Reply.{line_feed, After, written}
use Rattle.desk.specs.declared.Desk.{Desk}
use Rattle.desk.specs.declared.Progress.{Progress}
use Rattle.desk.specs.Listing.{part_bytes, carried}
use Rattle.desk.specs.Transcript.{answered_line, outcome_bytes, Served, before, ending, served, store_words, transcript}

unfoldable pub line_of : Desk → List ℕ
line_of d = take d.held d.line

unfoldable pub rest_of : List ℕ → Desk → List ℕ → Served
rest_of s d input = before (carried s d.listing) (served s (line_of d) input)

unfoldable pub until_feed : List ℕ → ℕ
until_feed [] = 0
until_feed (b ∷ bs) = elim (eqb b line_feed) [ true ↦ 0 | false ↦ suc (until_feed bs) ]

unfoldable pub kept_line : List ℕ → List ℕ
kept_line bs = take 43 bs

-- whether there is something to do, and room for it
unfoldable pub goes_on : Desk → ℕ → ℕ → Bool
goes_on d left room = leb part_bytes room && (is_some d.listing || ltb 0 left)

unfoldable pub to_do : Desk → ℕ
to_do d = elim (is_some d.listing) [ true ↦ 1 | false ↦ 0 ]

-- (the listing of an empty register has no line)
abbrev pub GetsOn : Desk → Progress → Type 0
GetsOn d r = to_do r.desk < 2 * (r.taken + r.put) + to_do d

-- the line l is answered: what is put, and the listing that is opened, are its outcome
pub record Answers (s l : List ℕ) (n : ℕ) (out : List ℕ) (t out' : List ℕ) (r : Progress) : Type 0 where
  pub words : t ≡ (answered_line s (parsed l)).words
  pub says : outcome_bytes t (answered_line s (parsed l)).outcome ≡ take r.put out' ++ carried t r.desk.listing
  pub empty : line_of r.desk ≡ []
  pub taken : r.taken ≡ n
  pub put : r.put ≤ length out
  pub long : length out' ≡ length out
  pub stays : drop r.put out' ≡ drop r.put out

pub record Serves (s : List ℕ) (d : Desk) (input out : List ℕ) (t out' : List ℕ) (r : Progress) : Type 0 where
  pub taken : r.taken ≤ length input
  pub put : r.put ≤ length out
  pub says : (more : List ℕ)
      → rest_of s d (input ++ more) ≡ before (take r.put out') (rest_of t r.desk (drop r.taken input ++ more))
  -- other bytes of the output stay
  pub long : length out' ≡ length out
  pub stays : drop r.put out' ≡ drop r.put out

abbrev pub Finishes : List ℕ → List ℕ → Progress → Type 0
Finishes input out r =
    ((r.taken ≡ length input) × (r.desk.listing ≡ None)) ⊎ (length out < r.put + part_bytes)

-- "Bytes after the last 0A are one wrong line."
unfoldable pub finished : Desk → List ℕ → After
finished d out = elim (eqb d.held 0) [ true ↦ record { count = 0; bytes = out } | false ↦ written WrongLine out ]

pub data Run : List ℕ → Desk → List ℕ → List ℕ → List ℕ → Desk → Type 0 where
  over : {s : List ℕ} {d : Desk} → Run s d [] [] s d
  call : {s : List ℕ} {d : Desk} {t bytes u : List ℕ} {e : Desk} (chunk more out out' : List ℕ) (r : Progress) → Serves s d chunk out t out' r
      → Run t r.desk (drop r.taken chunk ++ more) bytes u e → Run s d (chunk ++ more) (take r.put out' ++ bytes) u e

abbrev pub Delivered : Type 0
Delivered =
    (input bytes t : List ℕ) (d e : Desk) → line_of d ≡ [] → d.listing ≡ None → Run (replicate store_words 0) d input bytes t e
    → e.listing ≡ None → bytes ++ ending (line_of e) ≡ transcript input

abbrev pub EndPut : Type 0
EndPut =
    (d : Desk) (out : List ℕ) → length d.line ≡ 43 → 45 ≤ length out
    → take (finished d out).count (finished d out).bytes ≡ ending (line_of d)
