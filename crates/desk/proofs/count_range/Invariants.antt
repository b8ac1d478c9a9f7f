-- After each call, the survey is the records counted so far with what the calls from the first key not written on give.
use Rattle.std.proofs.Common.{◌≡◌, ◌≤◌, ◌<◌, Ok}
use Rattle.index.specs.Answers.{range_reply}
use Rattle.desk.specs.Listing.{surveyed}
use Rattle.desk.proofs.ListingLaws.{survey_rest, left_at}
use Rattle.desk.proofs.count_range.Given as goal

abbrev pub invariant-loop-p : goal.invariant-loop-p
invariant-loop-p l =
    ((l.p.more ≡ 0 → ⊥) → l.count < l.p.more) × (l.p.more ≤ l.high)
    × (survey_rest l.store l.high l.count (range_reply (Ok l.p)) ≡ surveyed l.store l.low l.high)

abbrev pub decreases-loop-p : goal.decreases-loop-p
decreases-loop-p l = left_at l.high l.p.more
