-- Damage on the way to the terminal node.
use mathlib.Core.Path.{sym, ap, ◌∙◌}
use Rattle.search.specs.Span.{no_span}
use Rattle.search.proofs.SpanLaws.{at_lost}
use Rattle.search.proofs.WayLaws.{answered_err, damage_passed, span_lost}
use Rattle.search.proofs.span_at.Goals as goal

pub returns-in_err-t : goal.returns-in_err-t
unfolding no_span
returns-in_err-t c =
    let h = answered_err _ _ (sym c.in_err-t.was ∙ c.requires.1) in
    damage_passed _ c.from_residual.ensures.1 h.1 ∙ span_lost _ (ap (λ r. r.ok) (at_lost _ _ _ c.args.strict c.args.key _ h.0))
