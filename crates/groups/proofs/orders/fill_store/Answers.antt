-- The store is set up, that is tried, and the set is entered.
use Rattle.groups.proofs.OrderLaws.{filled_in_lem}
use Rattle.groups.proofs.orders.fill_store.Goals as goal

pub returns : goal.returns
returns g c =
    filled_in_lem _ _ _ _ _ _ c.prepare-size.ensures c.hold.ensures c.enter_all.ensures
