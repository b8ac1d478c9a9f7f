-- The reader stands in the page, at the record that is checked next; the records before it are checked.
use Rattle.std.proofs.Common.{◌≡◌}
use Rattle.page.proofs.Order.{Reached}
use Rattle.page.proofs.in_order.Given as goal

abbrev pub invariant-loop-i : goal.invariant-loop-i
invariant-loop-i l = (l.reader.page.now ≡ l.page) × (l.reader.at ≡ l._i) × Reached l.f l.page l._i l.good l.key
