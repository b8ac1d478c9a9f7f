-- The records with a larger key are moved up by one, and the new one is written in front of them: insertion by key.
use Rattle.std.proofs.Common.{ℕ, ◌≡◌, ◌+◌, ◌-◌, ◌*◌, ◌≤◌, length, sym, ap, ◌∙◌, arith}
use Rattle.lists.proofs.Shifts.{shares}
use Rattle.represent.specs.Image.{page_image}
use Rattle.represent.proofs.PageImage.{page_count_lem}
use Rattle.put.proofs.WordLaws.{end_room}
use Rattle.put.proofs.PutLaws.{room_more, put_words, insert_first}
use Rattle.put.proofs.put_record.Goals.{After-words_of-w}
use Rattle.put.proofs.put_record.Goals as goal

-- the new number is at most the count, and there is room for the words behind it one record on
room : (c : After-words_of-w)
    → let w = c.words_of-w.result in
    let n = c.count_of-n.result in
    let i = c.first_above-i.result in
    (i ≤ n) × (1 + w * n ≡ 1 + w * i + w * (n - i)) × (1 + w * n + w ≤ length c.args.part.now)
room c =
    let a = c.args in
    let n = c.count_of-n in
    let w = c.words_of-w in
    let i : ℕ = c.first_above-i.result in
    let low : i ≤ n.result = omega (arith, c.first_above-i.ensures.1, n.ensures.0) in
    let all : 1 + w.result * n.result ≡ 1 + w.result * i + w.result * (n.result - i) = omega (arith, shares w.result i n.result low) in (
      low,
      all,
      omega (
        arith,
        all,
        room_more a.f a.capacity w.result n.result (length a.part.now) w.ensures.0 c.requires.0 i low (omega (arith, n.ensures.0, c.requires.1)),
      ),
    )

pub move_up-requires : goal.move_up-requires
move_up-requires c = omega (arith, room (goal.at.move_up-requires c).After-words_of-w)

pub write_item-requires : goal.write_item-requires
write_item-requires c =
    let r = room (goal.at.write_item-requires c).After-words_of-w in
    end_room c.move_up.new.part (1 + c.words_of-w.result * c.first_above-i.result) _
    (omega (arith, r, c.move_up.auto.part, c.words_of-w.ensures.0))

pub returns : goal.returns
returns c rs is lawful =
    let a = c.args in
    let n = c.count_of-n in
    let w = c.words_of-w in
    let i : ℕ = c.first_above-i.result in
    let r = room (goal.at.returns c).After-words_of-w in
    let size : n.result ≡ length rs = n.ensures.0 ∙ page_count_lem a.f a.capacity a.part.now rs is in
    put_words a.f a.capacity rs a.item a.part.now c.move_up.new.part c.write_item.new.part w.result n.result i is r.0
    (omega (arith, n.ensures.0, c.requires.1)) size w.ensures.0 c.move_up.ensures c.write_item.ensures
    ∙ ap (page_image a.f a.capacity) (sym (insert_first a.f a.capacity a.part.now rs is lawful a.item _ c.first_above-i.ensures.0))
