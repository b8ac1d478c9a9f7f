-- The parts are listed, and the trees after that are compared.
use Rattle.groups.proofs.OrderLaws.{compared_in_lem}
use Rattle.groups.proofs.orders.compare.Goals as goal

pub returns : goal.returns
returns g c =
    compared_in_lem _ _ _ _ c.parts.ensures c.same_tree.ensures c.hold.ensures
