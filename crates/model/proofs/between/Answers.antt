use native.Mathlib.Omega.{arith}
use Rattle.model.specs.Model.{between_of}
use Rattle.model.proofs.between.Goals as goal

pub returns : goal.returns
unfolding between_of
returns c = omega arith
