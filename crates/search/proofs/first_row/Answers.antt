-- By its definition.
use mathlib.Core.Path.{refl}
use Rattle.search.specs.Span.{first_row}
use Rattle.search.proofs.first_row.Goals as goal

pub returns : goal.returns
unfolding first_row
returns c = refl
