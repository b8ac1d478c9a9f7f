-- What the page's terminal node decides, or else the plan, on the same words.
use mathlib.Core.Path.{sym, ◌∙◌, subst}
use mathlib.Core.List.{List}
use Prim.Native.Nat.{ℕ}
use Rattle.search.proofs.WayLaws.{answered_ok, answered_err, damage_passed}
use Rattle.removal.specs.Removal.{Located, Executed}
use Rattle.removal.proofs.RemoveLaws.{near_asks, near_done, near_same, near_lost}
use Rattle.removal.proofs.remove_at.Goals as goal

pub take_near-requires : goal.take_near-requires
take_near-requires c = let p = c.requires in near_asks p.0 p.1

pub returns-in_err-take_near : goal.returns-in_err-take_near
returns-in_err-take_near c =
    let p = c.requires in
    let a = c.args in
    let h = answered_err _ _ c.in_err-take_near.ensures.0 in
    subst (λ r. Executed a.f a.store.now a.head a.key r c.take_near.new.store) (sym (damage_passed _ c.from_residual.ensures.1 h.1))
    (near_lost p.0 p.1 c.take_near.ensures.1 h.0)

pub returns-then-branch : goal.returns-then-branch
returns-then-branch c =
    let p = c.requires in
    let h = answered_ok _ c.in_ok-take_near.ensures.0 in
    near_done p.0 p.1 c.take_near.ensures.1 (sym h.1 ∙ c.if-branch.true)

pub remove_far-requires : goal.remove_far-requires
remove_far-requires c =
    let p = c.requires in
    let a = c.args in
    let h = answered_ok _ c.in_ok-take_near.ensures.0 in
    subst (λ (s : List ℕ). Located a.f s a.head a.key a.i) (sym (near_same p.0 p.1 c.take_near.ensures.1 (sym h.1 ∙ c.if-branch.false))) p.0

pub returns : goal.returns
returns c =
    let p = c.requires in
    let a = c.args in
    let h = answered_ok _ c.in_ok-take_near.ensures.0 in
    subst (λ (s : List ℕ). Executed a.f s a.head a.key c.remove_far.result c.remove_far.new.store)
    (near_same p.0 p.1 c.take_near.ensures.1 (sym h.1 ∙ c.if-branch.false)) c.remove_far.ensures
