-- Each read is one step more, or the last.
use Rattle.std.proofs.Common.{◌≡◌, ◌+◌, ◌-◌, arith, rules}
use Rattle.counter.specs.Program.{most_reads}
use Rattle.counter.proofs.Laws.{so_start, so_quiet, more_read, all_read, read_failed}
use Rattle.counter.proofs.serve_all.Goals as goal

pub loop-init : goal.loop-init
loop-init g c = let e = c.start-desk.ensures in so_start _ _ _ _ c.requires.0 e.0 e.1

pub read_once-requires : goal.read_once-requires
read_once-requires g c = (omega (arith, c.requires.1, c.loop.auto.out), so_quiet _ _ _ _ _ _ _ c.loop.invariant)

pub returns-in_err-next : goal.returns-in_err-next
returns-in_err-next g c =
    let l = c.loop in
    let e = c.in_err-next.ensures.came in
    read_failed _ _ _ _ _ _ _ l.invariant _ _ _ _ e.2 _ _ _ e.3 (search rules) (search rules)

pub returns-in-None : goal.returns-in-None
returns-in-None g c =
    let l = c.loop in
    let e = c.in_ok-next.ensures in
    all_read _ _ _ _ _ _ _ l.invariant _ _ _ _ e.came.2 _ _ e.came.3 c.in-None.is
    (λ k. e.ended (cc) (omega (arith, k, c.read_once.auto.input, l.auto.input)))

pub loop-preserved : goal.loop-preserved
loop-preserved g c =
    let l = c.loop in
    let e = c.in_ok-next.ensures.came in
    let one : most_reads - (l.counter + 1) + 1 ≡ most_reads - l.counter = omega (arith, c.loop-test.true) in
    more_read _ _ _ _ _ _ _ l.invariant _ _ _ _ e.2 _ _ _ one e.3 c.in-Some.is
