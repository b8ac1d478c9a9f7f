-- Each entry is the same as its twin's.
use mathlib.Core.Path.{refl, ◌∙◌}
use mathlib.Core.Bool.{◌&&◌}
use native.Mathlib.Omega.{arith}
use borrow.Author.Rules.{rules}
use borrow.Author.Tests.{tests}
use Prim.Native.Nat.{ℕ, ◌+◌, ◌*◌}
use lib.Dec.{eqb}
use Rattle.std.proofs.lemmas.Iterator.{YieldsList-from_range}
use Rattle.std.proofs.lemmas.Iterator.Search.{all_from_yields_List}
use Rattle.store.specs.Head.{word}
use Rattle.raw.specs.Twins.{same_pointer}
use Rattle.raw.proofs.Laws.{tests_range}
use Rattle.raw.proofs.TwinLaws.{entries_alike}
use Rattle.raw.proofs.twins.same_entries.Goals as goal

pub returns : goal.returns
returns c =
    let a = c.args in
    let x = a.x.now in
    let y = a.y.now in
    let i = c.node_at-ax.result in
    let k = c.node_at-ay.result in
    let n = c.entries.result in
    let test = λ (j : ℕ). eqb (word x (i + 4 + 2 * j)) (word y (k + 4 + 2 * j))
    && same_pointer x y a.twins.now c.node_word-level.result (word x (i + 5 + 2 * j)) (word y (k + 5 + 2 * j)) in
    all_from_yields_List test _ _ _ c.all.ensures.ran (YieldsList-from_range 0 n n refl (omega arith)) (λ x b q k. search (rules, tests))
    ∙ tests_range test n
    ∙ entries_alike x y a.twins.now a.a a.b c.node_at-ax.ensures.0 c.node_at-ay.ensures.0 c.node_word-level.ensures c.entries.ensures.0
