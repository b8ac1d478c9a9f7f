-- In front, the words in use are moved up first. The other page's words are copied, in front or behind, and the page is cut to both.
use Rattle.std.proofs.Common.{ℕ, List, ◌≡◌, ◌+◌, ◌-◌, ◌*◌, ◌≤◌, length, ap, ap₂, ◌∙◌, refl, arith}
use Rattle.lists.specs.Lists.{replaced}
use Rattle.represent.specs.Image.{page_image}
use Rattle.represent.proofs.PageImage.{page_count_lem}
use Rattle.put.proofs.WordLaws.{row, lent, moved, placed}
use Rattle.merge.proofs.Laws.{room_both, before_words, behind_words, added_before, added_behind}
use Rattle.merge.proofs.add_page.Goals.{After-words_of-w, then-before, else-before}
use Rattle.merge.proofs.add_page.Goals as goal

room : (c : After-words_of-w) → let w = c.words_of-w.result in
    (1 + w * c.count_of-n.result + w * c.count_of-m.result ≤ length c.args.part.now) × (1 + w * c.count_of-m.result ≤ length c.args.other.now)
room c =
    let a = c.args in
    let r = room_both a.f a.capacity c.words_of-w.result (length a.part.now) c.words_of-w.ensures.0 c.requires.0 c.count_of-n.result
    c.count_of-m.result (omega (arith, c.count_of-n.ensures.0, c.count_of-m.ensures.0, c.requires.2)) in
    (r, omega (arith, r, c.requires.0, c.requires.1))

pub copy_within-requires-clause-in_bounds : goal.copy_within-requires-clause-in_bounds
copy_within-requires-clause-in_bounds c = omega (arith, (room (goal.at.copy_within-requires-clause-in_bounds c).After-words_of-w).0)

pub copy_within-requires-clause-dest_in_bounds : goal.copy_within-requires-clause-dest_in_bounds
copy_within-requires-clause-dest_in_bounds c =
    omega (arith, (room (goal.at.copy_within-requires-clause-dest_in_bounds c).After-words_of-w).0)

pub slice_bounds-copy-end : goal.slice_bounds-copy-end
slice_bounds-copy-end c =
    let r = (room (goal.at.slice_bounds-copy-end c).After-words_of-w).0 in
    elim c.if-before.branch [ then-before w ↦ omega (arith, r, w.at-is) | else-before w ↦ omega (arith, r, w.at-is) ]

pub slice_bounds-copy-end-2 : goal.slice_bounds-copy-end-2
slice_bounds-copy-end-2 c =
    let r = (room (goal.at.slice_bounds-copy-end-2 c).After-words_of-w).1 in
    elim c.if-before.branch [ then-before w ↦ omega (arith, r) | else-before w ↦ omega (arith, r) ]

pub returns : goal.returns
returns c rs its is os =
    let a = c.args in
    let b = c.if-before in
    let w = c.words_of-w in
    let size : ℕ = w.result * c.count_of-m.result in
    let n_is : c.count_of-n.result ≡ length rs = c.count_of-n.ensures.0 ∙ page_count_lem a.f a.capacity a.part.now rs is in
    let m_is : c.count_of-m.result ≡ length its = c.count_of-m.ensures.0 ∙ page_count_lem a.f a.capacity a.other.now its os in
    let k : b.at + size - b.at ≡ size = omega arith in
    let t : List ℕ = lent b.part b.at (b.at + size - b.at) c.copy.new.part in
    c.cut_page.ensures
    ∙ elim b.branch [
      | then-before x ↦
          let written : t ≡ replaced b.at size (row a.other.now 1 size) b.part =
          placed b.part a.other.now c.copy.new.part b.at (b.at + size - b.at) 1 size size k refl
          (grind (arith, c.copy.ensures)) in
          before_words a.f a.capacity rs its a.part.now a.other.now x.copy_within.new.self t c.count_of-n.result c.count_of-m.result w.result is
          os n_is m_is w.ensures.0 (omega (arith, (room (goal.at.returns c).After-words_of-w).0))
          (x.copy_within.ensures.after ∙ moved a.part.now _ _ _ (w.result * c.count_of-n.result) refl)
          (written ∙ ap₂ (λ i u. replaced i size (row a.other.now 1 size) u) x.at-is x.part-is)
          ∙ ap (page_image a.f a.capacity) (added_before a.before rs its x.if-before.true)
      | else-before x ↦
          let written : t ≡ replaced b.at size (row a.other.now 1 size) b.part =
          placed b.part a.other.now c.copy.new.part b.at (b.at + size - b.at) 1 size size k refl
          (grind (arith, c.copy.ensures)) in
          behind_words a.f a.capacity rs its a.part.now a.other.now t c.count_of-n.result c.count_of-m.result w.result is os n_is m_is w.ensures.0
          (written ∙ ap₂ (λ i u. replaced i size (row a.other.now 1 size) u) x.at-is x.part-is)
          ∙ ap (page_image a.f a.capacity) (added_behind a.before rs its x.if-before.false)
    ]
