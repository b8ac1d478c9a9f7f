-- The test is the definition's, since a key is a 32-bit number, and so are the parts of the label.
use native.Mathlib.Omega.{arith}
use Rattle.plot.specs.Label.{section_of, row_of, place_of, letter_of}
use Rattle.plot.proofs.Laws.{label_refused, label_given}
use Rattle.plot.proofs.label_of.Goals as goal

pub returns-then-key-lt16777216 : goal.returns-then-key-lt16777216
returns-then-key-lt16777216 c = label_refused (omega arith)

pub returns : goal.returns
unfolding section_of row_of place_of letter_of
returns c = label_given (omega arith) (omega arith)
