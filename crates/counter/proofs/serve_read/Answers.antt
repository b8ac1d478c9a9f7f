-- Nothing came, or what came is served.
use Rattle.std.proofs.Common.{rules}
use Rattle.counter.proofs.Laws.{nothing_read}
use Rattle.counter.proofs.serve_read.Goals as goal

pub returns-then-is_empty-clause-served : goal.returns-then-is_empty-clause-served
returns-then-is_empty-clause-served g c = nothing_read _ _ _ _ c.requires.1 (search rules)
