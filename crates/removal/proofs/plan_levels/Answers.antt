-- The levels joined, those that stay counted from the top, the roots that do not numbered behind the other released nodes.
use mathlib.Core.Path.{refl, sym, subst}
use native.Mathlib.Omega.{arith}
use lib.Dec.{ltb}
use lib.ListN.{take}
use Rattle.std.specs.Prelude.{IfOk}
use Rattle.search.proofs.BlockLaws.{under_node, under_levels}
use Rattle.search.proofs.WayLaws.{damage_passed}
use Rattle.remove.specs.Remove.{levels_from}
use Rattle.removal.specs.Removal.{DraftFits, LevelsDone}
use Rattle.removal.proofs.PlanLaws.{levels_lost, levels_done, draft_fits}
use Rattle.removal.proofs.plan_levels.Goals as goal

pub node_words-w-requires : goal.node_words-w-requires
node_words-w-requires c = (under_node c.requires.0).0

pub returns-in_err-z : goal.returns-in_err-z
returns-in_err-z c =
    let a = c.args in
    let m = c.join_levels.new in
    let e = damage_passed _ c.from_residual.ensures.1 c.in_err-z.ensures.2 in (
      subst (λ r. IfOk r (DraftFits a.f a.head a.p)) (sym e) tt,
      λ rs y.
          subst
          (λ r. LevelsDone a.store.now a.head (take a.head.levels a.steps)
          (levels_from a.f a.store.now a.head a.key 1 (take a.head.levels a.steps) a.p.bits a.p.page (ltb a.p.bits a.used) rs) r
          m.numbers m.blocks m.gone)
          (sym e) (levels_lost a.store.now a.head (take a.head.levels a.steps) (c.in_err-z.ensures.0 rs y) refl, refl),
    )

pub kept_levels-kept-requires : goal.kept_levels-kept-requires
kept_levels-kept-requires c =
    let p = c.requires in
    let v = c.in_ok-z.ensures.1 in
    (p.0.head, (under_node p.0).0, omega (arith, v.1, c.join_levels.auto.blocks, p.8), v.4)

pub returns : goal.returns
returns c =
    let p = c.requires in
    let a = c.args in
    let v = c.in_ok-z.ensures.1 in
    let k = c.kept_levels-kept.ensures in
    let r = c.release_roots-end.ensures in (
      draft_fits a.f a.head a.p k.1 (k.2 (under_levels p.0).0) v.0 c.min.ensures v.2 r.0,
      λ rs y.
          levels_done a.store.now a.head (take a.head.levels a.steps) (c.in_ok-z.ensures.0 rs y) refl k.0 k.1 r.1 c.min.ensures,
    )
