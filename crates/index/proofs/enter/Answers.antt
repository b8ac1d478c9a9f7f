-- The key replied is the record's, or 0.
use native.Mathlib.Omega.{arith}
use Rattle.store.specs.Format.{width}
use Rattle.insert.proofs.Refusals.{replied_key}
use Rattle.index.proofs.enter.Goals as goal

pub enter-requires : goal.enter-requires
unfolding width
enter-requires c = c.widen.ensures.1

pub overflow_cast-result : goal.overflow_cast-result
overflow_cast-result c = grind (arith, replied_key)
