-- What the tree of a set and the book are to know of a store's records, and how a plot's record and a store's item are tied (`plot_of` is
-- the way back).
--   key_of it   == the key of an item
--   item_of r   == a plot's record as a store has it
--   unlawful f == the number that refuses a record outside its limits
--   schema_of f == the schema of the format f
use Rattle.std.specs.Prelude.{ℕ}
use Rattle.plot.specs.declared.Record.{Record}
use Rattle.tree.specs.Book.{Schema, plot_schema}
use Rattle.store.specs.declared.Format.{Format}
use Rattle.store.specs.declared.Format.TheVariants.{Plots}
use Rattle.store.specs.declared.Item.{Item}
use Rattle.store.specs.Format.{width}
use Rattle.page.specs.Page.{lawful_item}

abbrev pub key_of : Item → ℕ
key_of it = it.key

abbrev pub item_of : Record → Item
item_of r = record { key = r.key; price = r.price; lease = r.lease; last = r.last }

unfoldable pub unlawful : Format → ℕ
unlawful Plots = plot_schema.unlawful

abbrev pub schema_of : Format → Schema Item
schema_of f = record { width = width f; key = key_of; lawful = lawful_item f; unlawful = unlawful f }
