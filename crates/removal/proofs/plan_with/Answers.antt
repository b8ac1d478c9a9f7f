-- The words of a page are lent, of those of the largest one.
use Rattle.search.proofs.BlockLaws.{under_page}
use Rattle.removal.proofs.plan_with.Goals as goal

pub page_words-n-requires : goal.page_words-n-requires
page_words-n-requires g c = (under_page c.requires.0.under).1
