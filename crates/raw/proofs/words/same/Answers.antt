-- Each pair of words is alike.
use mathlib.Core.Path.{refl, ◌∙◌}
use native.Mathlib.Omega.{arith}
use borrow.Author.Rules.{rules}
use borrow.Author.Tests.{tests}
use Prim.Native.Nat.{◌+◌}
use lib.Dec.{eqb}
use Rattle.std.proofs.lemmas.Iterator.{YieldsList-from_range}
use Rattle.std.proofs.lemmas.Iterator.Search.{all_from_yields_List}
use Rattle.store.specs.Head.{word}
use Rattle.raw.specs.Words.{alike}
use Rattle.raw.proofs.Laws.{tests_range}
use Rattle.raw.proofs.words.same.Goals as goal

pub returns : goal.returns
unfolding alike
returns c =
    let a = c.args in
    all_from_yields_List (λ t. eqb (word a.a.now (a.i + t)) (word a.b.now (a.j + t))) _ _ _ c.all.ensures.ran
    (YieldsList-from_range 0 a.n a.n refl (omega arith)) (λ x b q k. search (rules, tests))
    ∙ tests_range _ a.n
