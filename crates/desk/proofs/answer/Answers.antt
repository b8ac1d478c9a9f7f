-- A summary counts keys, so its count is small.
use Rattle.std.proofs.Common.{◌≡◌, ◌≤◌, ◌<◌, ◌^◌, ℕ, arith, ap}
use Rattle.scan.specs.Summary.{SummaryReply}
use Rattle.scan.proofs.Promises.{summary_count}
use Rattle.desk.proofs.answer.Goals as goal

narrow : {r q : SummaryReply} {high : ℕ} → r ≡ q → q.count ≤ high → high < 2 ^ 32 → r.count < 2 ^ 32
narrow e l h = omega (arith, ap (λ (r : SummaryReply). r.count) e)

pub summary_told-requires : goal.summary_told-requires
summary_told-requires c = narrow c.summary.ensures (summary_count _ _ _ _ _) (omega arith)
