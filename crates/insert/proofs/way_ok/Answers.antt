-- By its tests.
use mathlib.Core.Path.{refl, sym, ◌∙◌}
use mathlib.Core.Bool.{true, false}
use Rattle.insert.proofs.EnterCode.{way_is}
use Rattle.insert.proofs.way_ok.Goals as goal

pub returns-then-not-own_ok : goal.returns-then-not-own_ok
returns-then-not-own_ok c =
    λ d e. way_is _ _ _ _ _ e true false _ refl (sym c.if-not-own_ok.true ∙ c.own_ok.ensures) refl

pub returns : goal.returns
returns c =
    λ d e. way_is _ _ _ _ _ e true true _ refl (sym c.if-not-own_ok.false ∙ c.own_ok.ensures) c.neighbour_ok.ensures
