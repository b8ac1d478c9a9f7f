-- Each node is the same as its twin.
use mathlib.Core.Path.{refl, ap, ◌∙◌}
use native.Mathlib.Omega.{arith}
use borrow.Author.Rules.{rules}
use borrow.Author.Tests.{tests}
use Prim.Native.Nat.{ℕ, ◌+◌}
use Rattle.std.proofs.lemmas.Iterator.{YieldsList-from_range}
use Rattle.std.proofs.lemmas.Iterator.Search.{all_from_yields_List}
use Rattle.lists.specs.Lists.{every}
use Rattle.raw.specs.Twins.{same_node}
use Rattle.raw.proofs.Laws.{tests_range}
use Rattle.raw.proofs.twins.same_nodes.Goals as goal

pub returns : goal.returns
returns c =
    let a = c.args in
    let n = c.word.result in
    let test = λ (k : ℕ). same_node a.x.now a.y.now a.twins.now (k + 1) in
    all_from_yields_List test _ _ _ c.all.ensures.ran (YieldsList-from_range 0 n n refl (omega arith)) (λ x b q k. search (rules, tests))
    ∙ tests_range test n ∙ ap (λ m. every m test) c.word.ensures
