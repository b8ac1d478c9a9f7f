-- Half of the records that are open are decided in a turn, by the key in the middle.
use Rattle.std.proofs.Common.{◌≡◌, ℕ, ◌+◌, ◌/◌, ◌<◌, Bool, List, sym, ap, ◌∙◌, arith}
use Rattle.store.specs.declared.Format.{Format}
use Rattle.store.specs.declared.Item.{Item}
use Rattle.page.specs.Page.{count, item_at, key_at, above}
use Rattle.page.proofs.Inside.{record_inside}
use Rattle.page.proofs.Halving.{halving_starts, lower_half, upper_half, halving_ends}
use Rattle.page.proofs.first_above.Goals as goal

-- what the loop sees of record i
seen : (f : Format) (pg : List ℕ) (strict : Bool) (k i : ℕ) {it : Item} {r b : Bool} → it ≡ item_at f pg i → r ≡ above strict k it.key → r ≡ b
    → above strict k (key_at f pg i) ≡ b
seen f pg strict k i e h t = sym (ap (λ (x : Item). above strict k x.key) e) ∙ sym h ∙ t

pub loop-left-init : goal.loop-left-init
loop-left-init c = halving_starts _ _ _ _ c.count_of-left.ensures.0

pub read_one-item-requires : goal.read_one-item-requires
read_one-item-requires c =
    let m : c.loop-left.from + c.loop-left.left / 2 < count c.args.page.now = omega (arith, c.loop-left.invariant.within) in
    (omega (arith, m, c.count_of-left.ensures), record_inside c.requires m)

pub loop-left-preserved-then-is_above : goal.loop-left-preserved-then-is_above
loop-left-preserved-then-is_above c =
    lower_half _ _ _ _ c.requires _ _ _ (omega arith) c.loop-left.invariant
    (seen _ _ _ _ _ c.read_one-item.ensures c.is_above.ensures c.if-is_above.true)

pub loop-left-preserved : goal.loop-left-preserved
loop-left-preserved c =
    upper_half _ _ _ _ c.requires _ _ _ (omega arith) c.loop-left.invariant
    (seen _ _ _ _ _ c.read_one-item.ensures c.is_above.ensures c.if-is_above.false)

pub returns : goal.returns
returns c = (halving_ends _ _ _ _ _ _ (omega arith) c.loop-left.invariant, omega (arith, c.loop-left.invariant.within))
