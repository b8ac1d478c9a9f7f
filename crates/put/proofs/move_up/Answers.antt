use Rattle.std.proofs.Common.{ℕ, ◌≡◌, ◌+◌, refl, arith, ◌∙◌}
use lib.ListN.{length-take, take-append-drop}
use Rattle.lists.specs.Lists.{replaced}
use Rattle.put.proofs.WordLaws.{row, moved}
use Rattle.put.proofs.move_up.Goals as goal

pub returns : goal.returns
returns c =
    let a = c.args in
    let copied : c.copy_within.new.self ≡ replaced (a.from + a.by) a.n (row a.part.now a.from a.n) a.part.now =
    c.copy_within.ensures.after ∙ moved a.part.now a.from (a.from + a.n) (a.from + a.by) a.n refl in
    grind (arith, length-take {A = ℕ}, take-append-drop {A = ℕ}, copied)
