-- A null page is not written, and another one whole.
use Rattle.apply.proofs.LoopLaws.{page_back}
use Rattle.apply.proofs.write_page.Goals as goal

pub returns : goal.returns
returns c =
    let a = c.args in (
      λ e. absurd (c.if-p-eq0.false e),
      λ e. page_back a.store.now a.head c.requires.0 a.f a.p _ c.page_words.result _ _ c.page_start-at.ensures.0 c.page_words.ensures.0
          c.copy.ensures,
    )
