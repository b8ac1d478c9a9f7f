-- By its two cases.
use Rattle.std.proofs.Common.{refl}
use Rattle.insert.proofs.PlaceCode.{place_limits}
use Rattle.insert.proofs.place.Goals as goal

pub page_start-at-requires : goal.page_start-at-requires
page_start-at-requires c = let l = place_limits _ _ _ _ c.requires.0.placing in (l.1, l.2)

pub put_own-requires : goal.put_own-requires
put_own-requires c =
    record {
      head = _;
      end = _;
      way = _;
      putting =
          record { placing = c.requires.0.placing; some = c.if-e-eq0.false; begins = c.page_start-at.ensures.0; capacity_is = refl };
    }

pub returns : goal.returns
returns c =
    let some = c.if-e-eq0.false in
    let at = c.page_start-at.ensures.0 in
    let put = c.put_own.ensures in (
      (put _ _ _ (record { placing = c.requires.0.placing; some = some; begins = at; capacity_is = refl })).0,
      λ d q. (put _ _ d (record { placing = q; some = some; begins = at; capacity_is = refl })).1,
    )
