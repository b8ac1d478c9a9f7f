-- The key of a summary is not above high, so it is a 32-bit number.
use native.Mathlib.Omega.{arith}
use Rattle.scan.proofs.Promises.{summary_key}
use Rattle.index.proofs.summary.Goals as goal

pub overflow_cast-result : goal.overflow_cast-result
overflow_cast-result c = grind (arith, summary_key)
