-- What a store holds: the parameters that differ from one kind of record to another.
--   width f == the bits of a key
--   words f == the words of a record
-- `Plots` is document 01's format: keys of 32 bits, records of four words.
use Rattle.std.specs.Prelude.{ℕ}
use Rattle.tree.specs.Book.{plot_schema}
use Rattle.store.specs.declared.Format.{Format}
use Rattle.store.specs.declared.Format.TheVariants.{Plots}

unfoldable pub width : Format → ℕ
width Plots = plot_schema.width

unfoldable pub words : Format → ℕ
words Plots = 4
