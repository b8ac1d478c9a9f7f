-- The keys before the first that is not below the key.
use mathlib.Core.Path.{◌∙◌}
use borrow.Author.Rules.{rules}
use borrow.Author.Tests.{tests}
use Prim.Native.Nat.{◌≤◌, ◌<◌}
use Rattle.std.proofs.lemmas.Iterator.{first_from_Range}
use Rattle.store.specs.Head.{word}
use Rattle.model.specs.Model.{place_of}
use Rattle.model.proofs.Laws.{rank_found}
use Rattle.model.proofs.rank.Goals as goal

pub returns : goal.returns
returns c =
    let s = c.args.list.now in
    let k = c.args.key in
    let found = first_from_Range _ _ _ c.find.result (λ i. k ≤ word s (place_of i)) (λ i. word s (place_of i) < k) c.find.ensures.ran
    (λ x q h. search (rules, tests)) (λ x q h. search (rules, tests)) in
    c.unwrap_or.ensures ∙ rank_found s k c.find.result c.size-n.ensures found
