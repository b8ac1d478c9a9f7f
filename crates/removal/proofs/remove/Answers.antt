-- The tests in order, one law for each way out; then the record is removed by its plan.
use mathlib.Core.Path.{refl, sym, ◌∙◌, subst}
use Rattle.std.specs.Prelude.{Ok}
use Rattle.answers.specs.declared.Refusal.TheVariants.{HeadBroken}
use Rattle.store.proofs.HeadLaws.{head_long}
use Rattle.search.specs.Descent.{descent, end_of}
use Rattle.search.proofs.FindLaws.{find_lost}
use Rattle.search.proofs.WayLaws.{answered_ok, answered_err, damage_passed}
use Rattle.removal.specs.Removal.{Seated}
use Rattle.removal.proofs.RemoveLaws.{remove_3, remove_9, remove_1, remove_refused, remove_done, under, refuses, absent, removes}
use Rattle.removal.proofs.remove.Goals as goal

pub returns-then-not-head_ok : goal.returns-then-not-head_ok
returns-then-not-head_ok c = refuses {e = HeadBroken} refl refl (remove_3 _ _ _ (sym c.head_ok.ensures ∙ c.if-not-head_ok.true))

pub head_of-head-requires : goal.head_of-head-requires
head_of-head-requires c = head_long _ _ (sym c.head_ok.ensures ∙ c.if-not-head_ok.false)

pub returns-in_err-e : goal.returns-in_err-e
returns-in_err-e c =
    let a = c.args in
    let u = under (sym c.head_ok.ensures ∙ c.if-not-head_ok.false) c.head_of-head.ensures in
    let h = answered_err (end_of (descent a.f a.store.now c.head_of-head.result a.key)).ok _ c.in_err-e.ensures.0 in
    refuses (damage_passed _ c.from_residual.ensures.1 h.1) refl (remove_9 u a.key (find_lost _ _ _ _ _ refl h.0))

pub returns-in_err-seat : goal.returns-in_err-seat
returns-in_err-seat c =
    let a = c.args in
    let u = under (sym c.head_ok.ensures ∙ c.if-not-head_ok.false) c.head_of-head.ensures in
    let h = c.in_err-seat.ensures in
    refuses (damage_passed _ c.from_residual-in_err-seat.ensures.1 h.1) refl (remove_9 u a.key h.0)

pub returns-in_default : goal.returns-in_default
returns-in_default c =
    let a = c.args in
    let u = under (sym c.head_ok.ensures ∙ c.if-not-head_ok.false) c.head_of-head.ensures in
    let h = subst (λ o. Seated a.f a.store.now c.head_of-head.result a.key (Ok o)) c.in_default.is c.in_ok-seat.ensures in
    absent refl (remove_1 u a.key h)

pub returns-in_err-remove_at : goal.returns-in_err-remove_at
returns-in_err-remove_at c =
    let a = c.args in
    let u = under (sym c.head_ok.ensures ∙ c.if-not-head_ok.false) c.head_of-head.ensures in
    let h = subst (λ o. Seated a.f a.store.now c.head_of-head.result a.key (Ok o)) c.in-Some.is c.in_ok-seat.ensures in
    let r = answered_err _ _ c.in_err-remove_at.ensures.answer_is in
    refuses (damage_passed _ c.from_residual-in_err-remove_at.ensures.1 r.1) (c.remove_at.ensures.stays r.0) (remove_refused u a.key h.found r.0)

pub returns : goal.returns
returns c =
    let a = c.args in
    let u = under (sym c.head_ok.ensures ∙ c.if-not-head_ok.false) c.head_of-head.ensures in
    let h = subst (λ o. Seated a.f a.store.now c.head_of-head.result a.key (Ok o)) c.in-Some.is c.in_ok-seat.ensures in
    let r = answered_ok _ c.in_ok-remove_at.ensures.answer_is in
    removes (c.remove_at.ensures.done r.0) (remove_done u a.key h.found r.0)
