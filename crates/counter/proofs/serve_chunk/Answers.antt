-- Each turn takes the input on from where the one before ended; with no room for a part it puts at least a byte of what is to be written.
use Rattle.std.proofs.Common.{◌-◌, ◌≤◌, ◌<◌, arith, length}
use Rattle.desk.specs.Listing.{part_bytes}
use Rattle.counter.proofs.Laws.{reaches_then, reaches_end, taken_within, to_write_less, stops_then}
use Rattle.counter.proofs.serve_chunk.Goals as goal

pub returns-then-out-p-ge-PART_BYTES-clause-served : goal.returns-then-out-p-ge-PART_BYTES-clause-served
returns-then-out-p-ge-PART_BYTES-clause-served g c =
    let l = c.loop-p in
    let e = c.in_ok-p.ensures.served in
    let input = c.args.input.now in
    let room : part_bytes ≤ length l.out - c.in_ok-p.p.put = omega (arith, c.if-out-p-ge-PART_BYTES.true, e.0.long) in
    let all = stops_then _ _ input l.from _ _ _ _ e.0 e.1 room l.invariant.1 in
    reaches_end _ _ _ _ _ _ _ _ (reaches_then _ _ input l.from _ _ _ _ e.0 _ _ _ _ _ e.2 l.invariant.0) all.0 all.1

pub loop-p-smaller : goal.loop-p-smaller
loop-p-smaller g c =
    let l = c.loop-p in
    let e = c.in_ok-p.ensures.served in
    let room : part_bytes ≤ length l.out = omega (arith, c.requires, l.auto.out) in
    let full : length l.out - c.in_ok-p.p.put < part_bytes = omega (arith, c.if-out-p-ge-PART_BYTES.false, e.0.long) in
    to_write_less _ _ c.args.input.now l.from _ _ _ _ e.0 room full

pub loop-p-preserved : goal.loop-p-preserved
loop-p-preserved g c =
    let l = c.loop-p in
    let e = c.in_ok-p.ensures.served in
    let input = c.args.input.now in (
      reaches_then _ _ input l.from _ _ _ _ e.0 _ _ _ _ _ e.2 l.invariant.0,
      taken_within _ _ input l.from _ _ _ _ e.0 l.invariant.1,
    )
