-- A refusal stands where the key or its place is outside the limits, and elsewhere section and row stay where they are.
use native.Mathlib.Omega.{arith}
use Rattle.plot.specs.Label.{pack, section_of, row_of, old_place_of}
use Rattle.plot.proofs.Laws.{convert_refused, convert_given}
use Rattle.plot.proofs.convert.Goals as goal

pub returns-then-key-le16777215 : goal.returns-then-key-le16777215
returns-then-key-le16777215 c = convert_refused _ (λ h. omega (arith, h.0))

pub returns-then-place-gt255 : goal.returns-then-place-gt255
unfolding old_place_of
returns-then-place-gt255 c = convert_refused _ (λ h. omega (arith, h.2))

pub returns : goal.returns
unfolding pack section_of row_of old_place_of
returns c = convert_given _ (omega arith, omega arith, omega arith) (omega arith)
