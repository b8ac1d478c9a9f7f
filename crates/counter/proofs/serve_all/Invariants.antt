-- Read after read, what is read is served.
use Rattle.std.proofs.Common.{◌-◌}
use Rattle.counter.specs.Program.{most_reads, SoFar}
use Rattle.counter.proofs.serve_all.Given as goal

abbrev pub invariant-loop : goal.invariant-loop
invariant-loop g l =
    let left = g.R.Read.remaining in
    let held = g.W.Write.contents in
    SoFar l.store l.desk (most_reads - l.counter) (left l.initial.reader) (left l.reader) (held l.initial.writer) (held l.writer)
