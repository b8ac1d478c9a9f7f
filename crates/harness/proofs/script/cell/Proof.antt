-- A row past the end has no numbers.
use borrow.Author.Rules.{rules}
use Prim.Native.Nat.{◌≤◌}
use native.Mathlib.Omega.{arith}
use lib.ListN.{length}
use Rattle.harness.proofs.ScriptLaws.{cell_in, cell_past}
use Rattle.harness.proofs.script.cell.Statement.{statement}
use Rattle.harness.proofs.script.cell.Tie as tie

returns : tie.Need-returns-then-i-rows
returns c = cell_in _ _ _ c.word.ensures

returns_2 : tie.Need-returns
returns_2 c =
    let a = c.args in
    let h : length a.rows.now ≤ a.i = omega arith in
    cell_past _ _ _ h

pub cell_spec : {M : Type 1} → statement M
cell_spec =
    tie.close
    (tie.spec (λ c. search rules) (λ c. search rules) (λ c κs. search rules) returns returns_2)
