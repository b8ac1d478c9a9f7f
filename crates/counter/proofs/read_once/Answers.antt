-- Where the read failed, nothing is done; else what came is served.
use Rattle.std.proofs.Common.{arith, rules}
use Rattle.counter.proofs.Laws.{turned_failed, none_read}
use Rattle.counter.proofs.read_once.Goals as goal

pub returns-in_err-n-clause-came : goal.returns-in_err-n-clause-came
returns-in_err-n-clause-came g c =
    let e = c.in_err-n.ensures.came in
    (0, omega arith, e.1, turned_failed _ _ _ _ c.requires.1 (search rules) (search rules))

pub returns-clause-came : goal.returns-clause-came
returns-clause-came g c =
    let e = c.in_ok-n.ensures.came in
    (c.in_ok-n.n, e.0, e.1, c.serve_read.ensures.served)

pub returns-clause-ended : goal.returns-clause-ended
returns-clause-ended g c is some =
    let e = c.in_ok-n.ensures.came in
    e.2 (none_read _ _ _ _ _ _ _ _ c.serve_read.ensures.served is e.0) some
