-- Outside the limits the key is refused, and within them it fits 32 bits.
use mathlib.Core.Path.{◌≡◌, sym, ◌∙◌}
use mathlib.Core.Bool.{Bool, true, false, false≢true}
use native.Mathlib.Omega.{arith}
use Rattle.plot.specs.declared.Label.{Label}
use Rattle.plot.specs.Label.{lawful_label, pack}
use Rattle.plot.specs.Promises.{Limits}
use Rattle.plot.proofs.Laws.{label_limits, limits_label, key_refused, key_given}
use Rattle.plot.proofs.key_of.Goals as goal

limits : {l : Label} {b : Bool} → b ≡ lawful_label l.section l.row l.place l.letter → b ≡ true → Limits l.section l.row l.place l.letter
limits e h = label_limits _ _ _ _ (sym e ∙ h)

pub returns-then-not-lawful_label : goal.returns-then-not-lawful_label
returns-then-not-lawful_label c =
    key_refused (λ i. absurd (false≢true (sym c.if-not-lawful_label.true ∙ c.lawful_label.ensures ∙ limits_label _ _ _ _ i)))

pub overflow_mul-result : goal.overflow_mul-result
overflow_mul-result c = let h = limits c.lawful_label.ensures c.if-not-lawful_label.false in omega (arith, h.section, h.row, h.place, h.letter)

pub overflow_mul-result-2 : goal.overflow_mul-result-2
overflow_mul-result-2 c = let h = limits c.lawful_label.ensures c.if-not-lawful_label.false in omega (arith, h.section, h.row, h.place, h.letter)

pub overflow_add-result : goal.overflow_add-result
overflow_add-result c = let h = limits c.lawful_label.ensures c.if-not-lawful_label.false in omega (arith, h.section, h.row, h.place, h.letter)

pub overflow_mul-result-3 : goal.overflow_mul-result-3
overflow_mul-result-3 c = let h = limits c.lawful_label.ensures c.if-not-lawful_label.false in omega (arith, h.section, h.row, h.place, h.letter)

pub overflow_add-result-2 : goal.overflow_add-result-2
overflow_add-result-2 c = let h = limits c.lawful_label.ensures c.if-not-lawful_label.false in omega (arith, h.section, h.row, h.place, h.letter)

pub overflow_add-result-3 : goal.overflow_add-result-3
overflow_add-result-3 c = let h = limits c.lawful_label.ensures c.if-not-lawful_label.false in omega (arith, h.section, h.row, h.place, h.letter)

pub returns : goal.returns
unfolding pack
returns c = key_given (limits c.lawful_label.ensures c.if-not-lawful_label.false) (omega arith)
