-- The key's next bit chooses the half.
use Rattle.std.proofs.Common.{sym, ◌∙◌, ◌-◌, inl, inr}
use native.Mathlib.Omega.{arith}
use Rattle.insert.proofs.StepCode.{half_place}
use Rattle.insert.proofs.in_half.Goals as goal
use Rattle.insert.proofs.in_half.Goals.{then-upper, else-upper}

pub returns : goal.returns
returns c =
    let a = c.args in
    half_place a.f a.theta a.key a.t a.m _ (c.width_of.result - 1 - a.t.used) (omega (arith, c.width_of.ensures.0, c.requires))
    (elim c.if-upper.branch [
      | then-upper h ↦ inl (sym c.bit_set-upper.ensures ∙ h.if-upper.true, h.result-is)
      | else-upper h ↦ inr (sym c.bit_set-upper.ensures ∙ h.if-upper.false, h.result-is)
    ])
