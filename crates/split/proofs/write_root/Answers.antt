-- Two entries are set, and the block is settled.
use mathlib.Core.Path.{◌∙◌}
use native.Mathlib.Omega.{arith}
use Rattle.split.proofs.ValueLaws.{entries_room, root_words}
use Rattle.split.proofs.write_root.Goals as goal

pub set_entry-requires : goal.set_entry-requires
set_entry-requires c = omega (arith, entries_room c.args.theta 1 c.requires.0 c.requires.2)

pub set_entry-requires-2 : goal.set_entry-requires-2
set_entry-requires-2 c = omega (arith, entries_room c.args.theta 1 c.requires.0 c.requires.2, c.set_entry.auto.part)

pub returns : goal.returns
returns c =
    let a = c.args in
    c.settle.ensures
    ∙ root_words a.theta a.level a.a a.c a.part.now (entries_room a.theta 1 c.requires.0 c.requires.2) c.set_entry.ensures c.set_entry-2.ensures
