-- Each record's line is put behind those of the records before it.
use Rattle.std.proofs.Common.{◌≡◌, ◌++◌, ◌≤◌, ◌+◌, ◌∙◌, ℕ, List, length, drop, arith, ap}
use Rattle.desk.specs.Replies.{listed_lines}
use Rattle.desk.specs.Listing.{items_of}
use Rattle.desk.proofs.LineLaws.{items_most, lines_more, lines_start, written_small}
use Rattle.desk.proofs.write_records.Goals as goal

pub loop-i-init : goal.loop-i-init
loop-i-init c = let a = c.args in lines_start a.dump a.words.now a.out.now

pub overflow_add-at : goal.overflow_add-at
overflow_add-at c =
    let l = c.loop-i in
    let m = items_most c.args.dump l.i c.args.words.now in
    let n = written_small _ _ c.write-at.ensures.0 in
    record { fits = omega (arith, c.requires.1, l.invariant.0, m, n) }

pub loop-i-preserved : goal.loop-i-preserved
loop-i-preserved c =
    let l = c.loop-i in
    let a = c.args in
    let m = items_most a.dump l.i a.words.now in
    let room : l.at + 45 ≤ length l.out = omega (arith, c.requires.2, l.invariant.0, l.auto.out, m) in
    lines_more a.dump a.words.now l.i l.at _ l.out a.out.now _ _ c.record_told.ensures l.invariant.0 room l.invariant.1 c.write-at.ensures.0
    c.write-at.ensures.1

pub returns : goal.returns
returns c =
    let l = c.loop-i in
    let a = c.args in
    let e : l.i ≡ a.n = omega (arith, l.auto.i-end) in
    let same = ap (λ (i : ℕ). listed_lines a.dump (items_of i a.words.now)) e in (
      l.invariant.0 ∙ ap length same,
      omega (arith, l.invariant.0, items_most a.dump l.i a.words.now),
      l.invariant.1 ∙ ap (λ (bs : List ℕ). bs ++ drop l.at a.out.now) same,
    )
