-- Each word from the place on has the value.
use mathlib.Core.Path.{◌∙◌}
use borrow.Author.Rules.{rules}
use borrow.Author.Tests.{tests}
use lib.Dec.{eqb}
use Rattle.std.proofs.lemmas.Iterator.{YieldsList-from_slice}
use Rattle.std.proofs.lemmas.Iterator.Adapters.{YieldsList-from_skip}
use Rattle.std.proofs.lemmas.Iterator.Search.{all_from_yields_List}
use Rattle.raw.proofs.Laws.{all_is}
use Rattle.raw.proofs.words.all_from.Goals as goal

pub returns : goal.returns
returns c =
    let a = c.args in
    all_from_yields_List (λ w. eqb w a.value) _ _ _ c.all.ensures.ran
    (YieldsList-from_skip a.from (YieldsList-from_slice a.words.now (cc)) (cc)) (λ x b q k. search (rules, tests))
    ∙ all_is a.words.now a.from a.value
