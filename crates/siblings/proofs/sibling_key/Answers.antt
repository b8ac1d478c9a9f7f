-- The prefix with its last bit the other way, shifted back.
use mathlib.Core.Path.{ap}
use Prim.Native.Nat.{◌-◌}
use native.Mathlib.Omega.{arith}
use Rattle.store.proofs.HeadLaws.{width_within}
use Rattle.siblings.proofs.LeafLaws.{key_left, key_right}
use Rattle.siblings.proofs.sibling_key.Goals as goal

pub returns-then-p-eq1 : goal.returns-then-p-eq1
returns-then-p-eq1 c =
    let p = c.requires in
    key_left _ _ _ p.0 p.1 (omega (arith, width_within c.args.f)) p.2 _ _ (ap (λ x. x - c.args.m) c.width_of.ensures.0)
    c.prefix-p.ensures c.if-p-eq1.true

pub returns : goal.returns
returns c =
    let p = c.requires in
    key_right _ _ _ p.0 p.1 (omega (arith, width_within c.args.f)) p.2 _ _ (ap (λ x. x - c.args.m) c.width_of.ensures.0)
    c.prefix-p.ensures c.if-p-eq1.false
