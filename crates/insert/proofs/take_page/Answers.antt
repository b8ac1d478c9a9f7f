-- An unused block: the count of blocks taken is the one word that changes. The last released one: its name, and the count of released ones.
use Rattle.insert.proofs.StepCode.{page_unused, page_last}
use Rattle.insert.proofs.take_page.Goals as goal

pub returns-then-count-eq0 : goal.returns-then-count-eq0
returns-then-count-eq0 c =
    let a = c.args in
    let k = page_unused a.f a.store.now a.head c.requires.1 c.if-count-eq0.true in
    (k.0, k.1, c.head_of.ensures)

pub returns : goal.returns
returns c =
    let a = c.args in
    page_last a.f a.store.now a.head _ _ c.requires.1 c.page_start.ensures.0 c.word.ensures c.if-count-eq0.false
