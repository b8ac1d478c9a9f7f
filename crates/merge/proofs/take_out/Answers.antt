-- The words behind the record are moved down over it, and the page is cut to one record less.
use Rattle.std.proofs.Common.{◌≡◌, ◌+◌, ◌-◌, ◌*◌, ◌≤◌, length, ◌∙◌, arith}
use Rattle.represent.proofs.PageImage.{page_count_lem}
use Rattle.put.proofs.WordLaws.{moved}
use Rattle.merge.proofs.Laws.{ends_out, out_words, out_page}
use Rattle.merge.proofs.take_out.Goals.{After-words_of-w}
use Rattle.merge.proofs.take_out.Goals as goal

-- the words behind the record, and the room for them
behind : (c : After-words_of-w) → let w = c.words_of-w.result in
    let n = c.count_of-n.result in
    let i = c.args.i in
    (1 + w * n ≡ 1 + w * i + w + w * (n - 1 - i)) × (1 + w * n ≤ length c.args.part.now)
behind c =
    let a = c.args in
    let n = c.count_of-n in
    let w = c.words_of-w in
    ends_out a.f a.capacity w.result (length a.part.now) w.ensures.0 c.requires.0 n.result a.i
    (omega (arith, n.ensures.0, c.requires.2)) (omega (arith, n.ensures.0, c.requires.1))

pub copy_within-requires-clause-in_bounds : goal.copy_within-requires-clause-in_bounds
copy_within-requires-clause-in_bounds c = (behind (goal.at.copy_within-requires-clause-in_bounds c).After-words_of-w).1

pub copy_within-requires-clause-dest_in_bounds : goal.copy_within-requires-clause-dest_in_bounds
copy_within-requires-clause-dest_in_bounds c =
    omega (arith, behind (goal.at.copy_within-requires-clause-dest_in_bounds c).After-words_of-w)

pub returns : goal.returns
returns c rs is lawful sorted =
    let a = c.args in
    let n = c.count_of-n in
    let w = c.words_of-w in
    let size : n.result ≡ length rs = n.ensures.0 ∙ page_count_lem a.f a.capacity a.part.now rs is in
    c.cut_page.ensures
    ∙ out_words a.f a.capacity rs a.part.now is a.i n.result w.result c.copy_within.new.self size w.ensures.0
    (omega (arith, n.ensures.0, c.requires.2))
    (c.copy_within.ensures.after ∙ moved a.part.now _ _ _ _ (behind (goal.at.returns c).After-words_of-w).0)
    ∙ out_page a.f a.capacity a.part.now rs a.i is lawful sorted c.requires.2
