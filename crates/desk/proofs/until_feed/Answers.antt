-- The bytes before the first 0A are counted.
use Rattle.std.proofs.Common.{rules}
use Rattle.std.proofs.lemmas.Iterator.{YieldsList-from_slice}
use Rattle.std.proofs.lemmas.Iterator.Search.{position_from_yields_List}
use borrow.Author.Tests.{tests}
use Rattle.desk.proofs.ServeLaws.{feed, until_found}
use Rattle.desk.proofs.until_feed.Goals as goal

pub returns : goal.returns
returns c =
    let input = c.args.input.now in
    rw c.unwrap_or.ensures
    (until_found input c.position.result
    (position_from_yields_List feed _ _ c.position.result c.position.ensures.ran (YieldsList-from_slice input cc) (λ x b q k. search (rules, tests))))
