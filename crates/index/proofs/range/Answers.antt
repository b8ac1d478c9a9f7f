-- The first key not written is not above high, so it is a 32-bit number.
use borrow.Author.Rules.{rules}
use mathlib.Core.Path.{◌≡◌, sym, ap, ◌∙◌}
use Prim.Native.Nat.{ℕ, ◌^◌, ◌≤◌, ◌<◌}
use native.Mathlib.Omega.{arith}
use Rattle.scan.specs.Range.{RangeReply, range_reply}
use Rattle.scan.proofs.Promises.{range_more}
use Rattle.index.proofs.range.Goals as goal

narrow : {r q : RangeReply} {high : ℕ} → r ≡ q → q.more ≤ high → high < 2 ^ 32 → r.more < 2 ^ 32
narrow e l h = omega (arith, ap (λ (r : RangeReply). r.more) e)

pub overflow_cast-result : goal.overflow_cast-result
overflow_cast-result c =
    let low = narrow (sym (ap range_reply c.in_ok-l.was) ∙ c.range.ensures.0) (range_more _ _ _ _ _) c.widen-2.ensures.1 in
    search rules
