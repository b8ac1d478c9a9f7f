-- Store by store.
use borrow.Author.Rules.{rules}
use native.Mathlib.Omega.{arith}
use lib.ListN.{length-set}
use Rattle.store.specs.SetUp.{marked}
use Rattle.store.proofs.mark.Statement.{statement}
use Rattle.store.proofs.mark.Tie as tie

slice_write_part_2 : tie.Need-bounds-part-1
slice_write_part_2 c = simp length-set (omega arith)

slice_write_part_3 : tie.Need-bounds-part-2
slice_write_part_3 c = simp length-set (omega arith)

slice_write_part_4 : tie.Need-bounds-part-3
slice_write_part_4 c = simp length-set (omega arith)

slice_write_part_5 : tie.Need-bounds-part-4
slice_write_part_5 c = simp length-set (omega arith)

slice_write_part_6 : tie.Need-bounds-part-6
slice_write_part_6 c = simp length-set (omega arith)

slice_write_part_7 : tie.Need-bounds-part-7
slice_write_part_7 c = simp length-set (omega arith)

slice_write_part_8 : tie.Need-bounds-part-17
slice_write_part_8 c = simp length-set (omega arith)

same_length : tie.Need-shape_of-part
same_length c = simp length-set

returns : tie.Need-returns
unfolding marked
returns c = search rules

pub mark_spec : {M : Type 1} → statement M
mark_spec =
    tie.close
    (tie.spec (λ c. search rules) slice_write_part_2 slice_write_part_3 slice_write_part_4 slice_write_part_5 slice_write_part_6
    slice_write_part_7 slice_write_part_8 same_length returns)
