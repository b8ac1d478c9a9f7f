-- The page is a part of the words, lent and given back.
use Rattle.std.proofs.Common.{rules}
use Rattle.insert.proofs.PlaceCode.{put_limits, at_inside, at_asks, at_done}
use Rattle.insert.proofs.put_own.Goals as goal

pub page_words-requires : goal.page_words-requires
page_words-requires c = put_limits c.requires.putting

pub overflow_add-end : goal.overflow_add-end
overflow_add-end c = let i = at_inside c.requires.putting c.page_words.ensures.0 in search rules

pub offset_bounds-store-at : goal.offset_bounds-store-at
offset_bounds-store-at c = let i = at_inside c.requires.putting c.page_words.ensures.0 in search rules

pub slice_bounds-put_record-end : goal.slice_bounds-put_record-end
slice_bounds-put_record-end c = at_inside c.requires.putting c.page_words.ensures.0

pub put_record-requires : goal.put_record-requires
put_record-requires c = at_asks c.requires.putting c.page_words.ensures.0

pub returns : goal.returns
returns c = λ h e d q. at_done q c.page_words.ensures.0 _ c.put_record.ensures
