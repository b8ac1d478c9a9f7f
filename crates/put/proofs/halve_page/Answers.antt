-- The words of the high records are copied first. Then each page is cut to its own records, which leaves the other one as it was.
use Rattle.std.proofs.Common.{◌≡◌, ◌+◌, ◌-◌, ◌∙◌, arith}
use Rattle.put.proofs.HalveLaws.{copy_fits, counted, halve_words}
use Rattle.put.proofs.halve_page.Goals as goal

pub copy_words-requires : goal.copy_words-requires
copy_words-requires c =
    let a = c.args in
    let w = c.words_of-w in
    let n = c.to_index-n in
    let fits = copy_fits a.f a.capacity a.from a.to a.i w.result n.result a.store.now c.requires w.ensures.0 (n.ensures.0 ∙ c.word.ensures) in
    (omega (arith, fits), omega (arith, fits))

pub returns : goal.returns
returns c rs is =
    let a = c.args in
    let w = c.words_of-w in
    let n = c.to_index-n in
    let size = c.page_words-size in
    let from_size : a.from + size.result - a.from ≡ size.result = omega arith in
    let to_size : a.to + size.result - a.to ≡ size.result = omega arith in
    halve_words a.f a.capacity a.from a.to a.i a.store.now c.requires rs is w.result n.result (a.from + size.result - a.from)
    (a.to + size.result - a.to) c.copy_words.new.store c.cut_page.new.part c.cut_page-2.new.part w.ensures.0
    (n.ensures.0 ∙ c.word.ensures ∙ counted a.f a.capacity a.from a.to a.i a.store.now c.requires rs is) (from_size ∙ size.ensures.0)
    (to_size ∙ size.ensures.0) c.copy_words.ensures c.copy_words.auto.store
    c.cut_page.ensures c.cut_page.auto.part c.cut_page-2.ensures
