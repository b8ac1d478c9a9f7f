-- The key's entry, and the run around it.
use native.Mathlib.Omega.{arith}
use Rattle.split.proofs.ValueLaws.{four_words}
use Rattle.siblings.proofs.HandLaws.{cover_code}
use Rattle.siblings.proofs.cover_hand.Goals as goal

pub bounds-hand-0 : goal.bounds-hand-0
bounds-hand-0 c = omega (arith, c.requires.1, four_words c.args.theta)

pub returns : goal.returns
returns c =
    let p = c.requires in
    cover_code _ _ _ _ _ _ _ c.entry_number-i.ensures.0 c.saturating_sub.ensures p.4 p.3 c.cover_part.ensures
