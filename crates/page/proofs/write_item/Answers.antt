-- The writes keep the length.
use Rattle.std.proofs.Common.{arith}
use lib.ListN.{length-set}
use Rattle.page.proofs.Flat.{plot_words}
use Rattle.page.proofs.write_item.Goals as goal

pub bounds-part-1 : goal.bounds-part-1
bounds-part-1 c = simp length-set (omega (arith, plot_words c.args.f))

pub bounds-part-2 : goal.bounds-part-2
bounds-part-2 c = simp length-set (omega (arith, plot_words c.args.f))

pub bounds-part-3 : goal.bounds-part-3
bounds-part-3 c = simp length-set (omega (arith, plot_words c.args.f))
