-- The page is a part of the words, lent and given back.
use Prim.Native.Nat.{◌+◌, ◌≤◌}
use lib.ListN.{length}
use Rattle.std.proofs.Common.{rules}
use Rattle.search.proofs.BlockLaws.{under_page}
use Rattle.near.proofs.PageLaws.{record_inside, record_asks, record_out}
use Rattle.near.proofs.take_record.Goals as goal

pub page_start-at-requires : goal.page_start-at-requires
page_start-at-requires c = under_page c.requires.0

pub page_words-requires : goal.page_words-requires
page_words-requires c = (under_page c.requires.0).1

pub slice_bounds-take_out-end : goal.slice_bounds-take_out-end
slice_bounds-take_out-end c =
    let inside : c.page_start-at.result + c.page_words.result ≤ length c.args.store.now =
    record_inside c.requires.0 c.requires.1 c.page_start-at.ensures.0 c.page_words.ensures.0 in
    search rules

pub take_out-requires : goal.take_out-requires
take_out-requires c = record_asks c.requires.0 c.requires.1 c.page_start-at.ensures.0 c.page_words.ensures.0

pub returns : goal.returns
returns c = record_out c.requires.0 c.requires.1 c.page_start-at.ensures.0 c.page_words.ensures.0 c.take_out.ensures
