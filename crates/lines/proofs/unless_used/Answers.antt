-- What `all` finds of the fields decides.
use Rattle.std.proofs.Common.{◌∙◌, Bool, ap, nat_eq, rules}
use Rattle.std.specs.Bool.{then_some}
use Rattle.std.proofs.lemmas.Iterator.{YieldsList-from_slice}
use Rattle.std.proofs.lemmas.Iterator.Search.{all_from_yields_List}
use borrow.Author.Tests.{tests}
use Rattle.lines.specs.Request.{unused}
use Rattle.lines.proofs.unless_used.Goals as goal

pub returns : goal.returns
unfolding unused
returns c =
    c.then_some.ensures
    ∙ ap (λ (b : Bool). then_some b c.args.request)
    (all_from_yields_List (λ n. nat_eq n 0) _ _ c.all.result c.all.ensures.ran (YieldsList-from_slice c.args.others.now cc) (λ x b q k. search (rules, tests)))
