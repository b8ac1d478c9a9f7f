-- The tests before the sibling leave the removal undecided.
use mathlib.Core.Path.{refl, sym, ap, ◌∙◌}
use native.Mathlib.Omega.{arith}
use Rattle.search.proofs.BlockLaws.{under_page}
use Rattle.near.specs.Near.{near_result}
use Rattle.near.proofs.Told.{near_emptied, near_wide, near_root, near_told}
use Rattle.near.proofs.nothing_joins.Goals as goal
use Rattle.near.proofs.nothing_joins.Goals.{then-left-eq0-via-then-left-eq0, then-left-eq0-via-else-left-eq0+then-e, then-left-eq0-via-else-left-eq0+else-e+then-not-root_stays}

pub root_stays-requires : goal.root_stays-requires
root_stays-requires c = (under_page c.requires.0).0

pub returns-then-left-eq0 : goal.returns-then-left-eq0
returns-then-left-eq0 c =
    ap near_result
    (elim c.then-left-eq0.branch [
      | then-left-eq0-via-then-left-eq0 w ↦ near_emptied _ _ _ _ _ _ w.if-left-eq0.true
      | then-left-eq0-via-else-left-eq0+then-e w ↦ near_wide _ _ _ _ _ _ (omega (arith, w.if-left-eq0.false)) w.if-e.true
      | then-left-eq0-via-else-left-eq0+else-e+then-not-root_stays w ↦
          near_root _ _ _ _ _ _ (omega (arith, w.if-left-eq0.false)) (omega (arith, w.if-e.false)) (sym w.root_stays.ensures ∙ w.if-not-root_stays.true)
    ])

pub returns : goal.returns
returns c =
    c.stays_apart.ensures
    ∙ ap near_result
    (near_told _ _ _ _ _ _ (omega (arith, c.if-left-eq0.false)) (omega (arith, c.if-e.false)) (sym c.root_stays.ensures ∙ c.if-not-root_stays.false)
    refl)
