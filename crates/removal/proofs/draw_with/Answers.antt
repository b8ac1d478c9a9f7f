-- The way down is marked; then the page half and the levels make the plan. The way meets no damage: it was gone before.
use mathlib.Core.Path.{refl, sym, ap, ◌∙◌, subst}
use mathlib.Core.Bool.{false≢true}
use Prim.Native.Nat.{ℕ, ◌<◌}
use native.Mathlib.Omega.{arith}
use lib.ListN.{length, replicate, length-replicate}
use Rattle.search.specs.Way.{Descent}
use Rattle.search.proofs.WayLaws.{answered_err, descent_is, damage_passed}
use Rattle.levels.proofs.PathFacts.{clear_zeros, path_fine, path_needs, noted_tracks, noted_passed}
use Rattle.removal.specs.Removal.{Drawn}
use Rattle.removal.proofs.PlanLaws.{located_way, located_at, drawn_lost, drawn_by}
use Rattle.removal.proofs.draw_with.Goals as goal

pub descend-requires : goal.descend-requires
descend-requires g c = let y = c.requires.0 in (y.under, λ z. located_way y)

pub returns-in_err-down : goal.returns-in_err-down
returns-in_err-down g c =
    absurd (false≢true (sym (answered_err _ _ c.in_err-down.ensures.0).0 ∙ located_way c.requires.0))

pub note_path-requires : goal.note_path-requires
note_path-requires g c =
    let y = c.requires.0 in
    let room : c.args.head.nodes_taken < length (replicate {A = ℕ} g.row.MARKS 0) = omega (arith, c.requires.8, length-replicate {A = ℕ} g.row.MARKS 0) in
    let a = c.args in
    let d = c.in_ok-down.down in
    let e = descent_is _ c.in_ok-down.ensures.0 in
    path_needs a.f a.store.now a.head d.steps d.used (replicate g.row.MARKS 0)
    (path_fine a.f a.store.now a.head a.key y.under (located_way y) (ap (λ (x : Descent). x.steps) e) (ap (λ (x : Descent). x.used) e))
    room

pub plan_page-requires : goal.plan_page-requires
plan_page-requires g c =
    let p = c.requires in
    let y = p.0 in
    let room : c.args.head.nodes_taken < length (replicate {A = ℕ} g.row.MARKS 0) = omega (arith, p.8, length-replicate {A = ℕ} g.row.MARKS 0) in
    let a = c.args in
    let e = descent_is _ c.in_ok-down.ensures.0 in
    let w = located_at y e in (
      y.under,
      y.low,
      omega (arith, ap (λ (x : Descent). x.used) e, c.descend.ensures.1),
      w.0,
      w.1,
      omega (arith, c.note_path.auto.marks, room),
      p.1,
      p.4,
      p.5,
      noted_passed a.f a.store.now a.head a.key (replicate g.row.MARKS 0) y.under (located_way y) (ap (λ (x : Descent). x.steps) e) (clear_zeros g.row.MARKS) room c.note_path.ensures,
    )

pub returns-in_err-p : goal.returns-in_err-p
returns-in_err-p g c =
    let p = c.requires in
    let y = p.0 in
    let room : c.args.head.nodes_taken < length (replicate {A = ℕ} g.row.MARKS 0) = omega (arith, p.8, length-replicate {A = ℕ} g.row.MARKS 0) in
    let a = c.args in
    let m = c.plan_page.new in
    let e = descent_is _ c.in_ok-down.ensures.0 in
    let tracks = noted_tracks a.f a.store.now a.head a.key (replicate g.row.MARKS 0) y.under (located_way y) (ap (λ (x : Descent). x.steps) e) (clear_zeros g.row.MARKS) room c.note_path.ensures in
    let lost = c.in_err-p.ensures.1 _ tracks in
    subst (λ r. Drawn a.f a.store.now a.head a.key r m.items a.numbers.now a.blocks.now m.pages a.gone.now)
    (sym (damage_passed _ c.from_residual-in_err-p.ensures.1 lost.1))
    (drawn_lost a.f a.store.now a.head a.key _ e lost.0, refl)

pub returns : goal.returns
returns g c =
    let p = c.requires in
    let y = p.0 in
    let room : c.args.head.nodes_taken < length (replicate {A = ℕ} g.row.MARKS 0) = omega (arith, p.8, length-replicate {A = ℕ} g.row.MARKS 0) in
    let a = c.args in
    let m = c.plan_page.new in
    let e = descent_is _ c.in_ok-down.ensures.0 in
    let tracks = noted_tracks a.f a.store.now a.head a.key (replicate g.row.MARKS 0) y.under (located_way y) (ap (λ (x : Descent). x.steps) e) (clear_zeros g.row.MARKS) room c.note_path.ensures in
    let made = c.in_ok-p.ensures.1 _ tracks in
    drawn_by a.f a.store.now a.head a.key _ e made c.in_ok-p.ensures.0 c.plan_levels.result c.plan_levels.ensures.0 _ _ _ (c.plan_levels.ensures.1 _ made.tracked)
