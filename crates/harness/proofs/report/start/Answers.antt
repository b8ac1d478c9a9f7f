use borrow.Author.Rules.{rules}
use mathlib.Core.Path.{◌≡◌, ap, ◌∙◌}
use lib.ListN.{length, replicate, set}
use Rattle.harness.specs.Tally.{started}
use Rattle.harness.proofs.report.start.Goals as goal

pub returns : goal.returns
unfolding started
returns c =
    let t = c.args.tally.now in
    let none : c.fill.new.self ≡ replicate (length t) 0 = search (rules, c.fill.ensures.after) in
    c.set.ensures ∙ ap (λ l. set l 0 c.args.group) none
