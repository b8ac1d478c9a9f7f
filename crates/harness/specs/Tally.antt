-- What was tried, counted in a lent tally: the group's number, the trials, those that failed, the entries accepted, then the answers by their
-- numbers.
--   counted t i    == the tally with one more at a place
--   answer_place n  == the place of the answers with a number
--   started t group == all counts 0
--   tried t holds  == a trial that holds or fails
--   compared t x y == a trial of a value that is not a call's answer: x expected, y got
--   judged t x y   == a trial of a reply
--   judged_outcome t x o == a trial of a reply, and of the words that the call may not change
use Rattle.std.specs.Prelude.{Bool, true, false, List, ℕ, ◌+◌, ◌-◌, ◌%◌, ◌^◌, ltb, length, set, replicate}
use Rattle.store.specs.Head.{word}
use Rattle.harness.specs.declared.calls.Reply.{Reply}
use Rattle.harness.specs.declared.calls.Outcome.{Outcome}
use Rattle.harness.specs.Calls.{same_reply}

unfoldable pub counted : List ℕ → ℕ → List ℕ
counted t i = elim (ltb (word t i) (2 ^ 64 - 1)) [ true ↦ set t i (word t i + 1) | false ↦ t ]

abbrev pub answer_place : ℕ → ℕ
answer_place n = 4 + n % 12

unfoldable pub started : List ℕ → ℕ → List ℕ
started t group = set (replicate (length t) 0) 0 group

unfoldable pub tried : List ℕ → Bool → List ℕ
tried t holds = elim holds [ true ↦ counted t 1 | false ↦ counted (counted t 1) 2 ]

unfoldable pub compared : List ℕ → Reply → Reply → List ℕ
compared t x y = tried t (same_reply x y)

unfoldable pub judged : List ℕ → Reply → Reply → List ℕ
judged t x y = compared (counted t (answer_place y.number)) x y

unfoldable pub judged_outcome : List ℕ → Reply → Outcome → List ℕ
judged_outcome t x o = tried (judged t x o.reply) o.kept
