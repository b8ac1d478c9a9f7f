-- The lines so far are those of the first records.
use Rattle.std.proofs.Common.{◌≡◌, ◌++◌, length, drop}
use Rattle.desk.specs.Replies.{listed_lines}
use Rattle.desk.specs.Listing.{items_of}
use Rattle.desk.proofs.write_records.Given as goal

abbrev pub invariant-loop-i : goal.invariant-loop-i
invariant-loop-i l =
    (l.at ≡ length (listed_lines l.dump (items_of l.i l.words)))
    × (l.out ≡ listed_lines l.dump (items_of l.i l.words) ++ drop l.at l.initial.out)
