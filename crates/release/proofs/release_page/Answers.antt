use Rattle.std.proofs.Common.{arith}
use Rattle.release.proofs.ReleaseLaws.{page_room, page_released}
use Rattle.release.proofs.release_page.Goals as goal

pub release_block-requires : goal.release_block-requires
release_block-requires c = (
  omega (arith, c.page_start-at.ensures.0, c.page_words-size.ensures.0, c.requires.5),
  omega (arith, page_room c.args.f c.args.head.capacity c.requires.2, c.page_words-size.ensures.0),
  omega arith,
)

pub returns : goal.returns
returns c =
    page_released c.args.store.now c.args.head c.requires.0 c.args.f c.args.p _ _ _ _ _ c.requires.2 c.page_start-at.ensures.0
    c.page_words-size.ensures.0 c.release_block.ensures (omega arith) (omega arith)
