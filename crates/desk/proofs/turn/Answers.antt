-- A listing is carried on.
use Rattle.std.proofs.Common.{◌≡◌, ◌<◌, ◌^◌, length, rules}
use Rattle.desk.proofs.ServeLaws.{serves_part, part_gets_on}
use Rattle.desk.proofs.turn.Goals as goal

pub returns-in-Some : goal.returns-in-Some
returns-in-Some c =
    let a = c.args in
    let l = c.in-Some.listing in
    let p = c.list_part-p.ensures in
    let same : length c.list_part-p.new.out ≡ length a.out.now = search rules in
    let narrow : l.high < 2 ^ 32 = search rules in (
      serves_part _ _ _ _ _ l _ _ c.in-Some.is p.0 p.1 same p.2,
      part_gets_on a.store.now a.d l _ _ narrow c.in-Some.is p.0 p.1,
    )
