-- By the terminal node.
use mathlib.Core.Path.{refl, sym, ap, ◌∙◌}
use native.Mathlib.Omega.{arith}
use Rattle.store.proofs.HeadLaws.{width_within}
use Rattle.search.specs.Way.{end_result}
use Rattle.search.proofs.UseLaws.{at_asked, landed, end_is, end_lost}
use Rattle.search.proofs.WayLaws.{answered_err, terminal_is, damage_passed}
use Rattle.search.proofs.end_of.Goals as goal

pub returns-in_err-t : goal.returns-in_err-t
returns-in_err-t c =
    let h = answered_err _ _ (sym c.in_err-t.was ∙ c.terminal_of.ensures) in
    let e = end_lost c.requires c.args.key refl h.0 in
    (damage_passed _ c.from_residual.ensures.1 h.1 ∙ ap end_result e, omega (arith, ap (λ x. x.used) e))

pub own_entry-v-requires : goal.own_entry-v-requires
own_entry-v-requires c = at_asked _ _ _ _ c.requires (terminal_is _ (sym c.in_ok-t.was ∙ c.terminal_of.ensures)) refl

pub overflow_add-result : goal.overflow_add-result
overflow_add-result c =
    let d = landed c.requires c.args.key (terminal_is _ (sym c.in_ok-t.was ∙ c.terminal_of.ensures)) refl c.own_entry-v.ensures in
    omega (arith, d.bits, width_within c.args.f)

pub returns : goal.returns
returns c =
    let t = terminal_is _ (sym c.in_ok-t.was ∙ c.terminal_of.ensures) in
    let d = landed c.requires c.args.key t refl c.own_entry-v.ensures in
    (ap end_result (end_is c.requires c.args.key t refl c.own_entry-v.ensures), omega (arith, d.used, d.bits))
