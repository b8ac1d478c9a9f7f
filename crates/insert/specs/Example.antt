-- Document 01's sample store with one link broken (`unlinked`): a small store that enter must refuse, though no block on the key's path
-- is damaged. And the sample with a word in its free page (`smudged_page`), which no enter may clear.
--   early           == a record for the stretch of node 1, whose forward neighbour is node 2
--   NeighbourTested == enter finds the damage
--   ClearedBreaks   == words in which an untaken page is cleared are not framed
use Rattle.std.specs.Prelude.{◌≡◌, List, ℕ}
use Rattle.store.specs.declared.Format.TheVariants.{Plots}
use Rattle.store.specs.declared.Item.{Item}
use Rattle.represent.specs.Labelled.{count}
use Rattle.represent.specs.Example.{stored}
use Rattle.represent.specs.Broken.{unlinked, smudged_page}
use Rattle.split.specs.Round.{Place}
use Rattle.insert.specs.Enter.{enter_of}
use Rattle.insert.specs.Frame.{Framed}

abbrev pub early : Item
early = record { key = 1; price = 0; lease = 0; last = 0 }

-- "Enter also looks at the terminal's forward neighbour, if any: another taken level-1 node that links back."
abbrev pub NeighbourTested : Type 0
NeighbourTested = ((enter_of Plots unlinked early).reply.number ≡ 9) × ((enter_of Plots stored early).reply.number ≡ 0)

-- (whatever the path and the node behind it are, and whatever the key's own page is, unless it is that one)
abbrev pub ClearedBreaks : Type 0
ClearedBreaks =
    (path : List Place) (page behind : ℕ) (ns ps : List ℕ) → (4 ≡ page → ⊥) → count 4 ps ≡ 0 → Framed Plots smudged_page stored path page behind ns ps
    → ⊥
