-- Stores that differ from the worked example in one word and hold no tree: they keep `Holds` from being weakened.
--   unlinked    == the back link of node 2 is 0 and not 1
--   smudged_node == the free node 4 has a word that is not 0, its last
--   smudged_page == the free page 4 has one
--   UnlinkedBreaks, SmudgedBreaks == none of them holds a tree
use Rattle.std.specs.Prelude.{List, ℕ, set}
use Rattle.store.specs.declared.Format.TheVariants.{Plots}
use Rattle.store.specs.declared.Item.{Item}
use Rattle.represent.specs.Rep.{Holds}
use Rattle.represent.specs.Example.{stored}

abbrev pub unlinked : List ℕ
unlinked = set stored 26 0

abbrev pub smudged_node : List ℕ
smudged_node = set stored 47 1

abbrev pub smudged_page : List ℕ
smudged_page = set stored 67 1

-- "Level-1 nodes are linked both ways in key order"
abbrev pub UnlinkedBreaks : Type 0
UnlinkedBreaks = (S : List Item) → Holds Plots unlinked S → ⊥

-- "Words not in use are zero."
abbrev pub SmudgedBreaks : Type 0
SmudgedBreaks = (S : List Item) → (Holds Plots smudged_node S → ⊥) × (Holds Plots smudged_page S → ⊥)
