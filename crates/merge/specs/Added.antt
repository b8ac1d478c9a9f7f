-- The records of two pages that become one.
--   added before rs its == rs with its in front, or behind
use Rattle.std.specs.Prelude.{Bool, true, false, List, ◌++◌}
use Rattle.store.specs.declared.Item.{Item}

unfoldable pub added : Bool → List Item → List Item → List Item
added true rs its = its ++ rs
added false rs its = rs ++ its
