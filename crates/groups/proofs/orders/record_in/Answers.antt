-- The record by its order.
use Rattle.groups.proofs.OrderLaws.{placed_up, placed_down, placed_drawn, placed_stride}
use Rattle.groups.proofs.orders.record_in.Goals as goal

pub returns-in-Ascending : goal.returns-in-Ascending
returns-in-Ascending c = placed_up _ _ _ _ c.in-Ascending.is c.record_at.ensures

pub returns-in-Descending : goal.returns-in-Descending
returns-in-Descending c =
    placed_down _ _ _ _ c.in-Descending.is c.size-n.ensures c.saturating_add.ensures c.saturating_sub.ensures
    c.record_at-in-Descending.ensures

pub returns-in-Drawn : goal.returns-in-Drawn
returns-in-Drawn c = placed_drawn _ _ _ _ c.in-Drawn.is c.record_at-in-Drawn.ensures

pub returns-in-Stride : goal.returns-in-Stride
returns-in-Stride c =
    placed_stride _ _ _ _ c.in-Stride.is c.size-n.ensures c.wide_product.ensures c.remainder.ensures
    c.record_at-in-Stride.ensures
