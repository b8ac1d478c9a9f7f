-- What stands from the first byte on that is no blank.
use Rattle.std.proofs.Common.{rules}
use Rattle.std.proofs.lemmas.Iterator.{YieldsList-from_slice}
use Rattle.std.proofs.lemmas.Iterator.Search.{position_from_yields_List}
use borrow.Author.Tests.{tests}
use Rattle.lines.proofs.ReadLaws.{other, trimmed_rest}
use Rattle.lines.proofs.trimmed.Goals as goal

pub returns : goal.returns
returns c =
    let cols = c.args.cols.now in
    let first = position_from_yields_List other _ _ c.position.result c.position.ensures.ran (YieldsList-from_slice cols cc) (λ x b q k. search (rules, tests)) in
    rw c.unwrap_or-blanks.ensures (trimmed_rest cols c.position.result first)
