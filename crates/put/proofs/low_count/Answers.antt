-- The first key with the bit set cuts off the low side of an ascending list.
use Rattle.std.proofs.Common.{sym, ap, ◌∙◌, arith, rules}
use Rattle.lists.specs.Bits.{bit as bit_of}
use Rattle.store.specs.declared.Item.{Item}
use Rattle.put.proofs.PutLaws.{width_small, low_first}
use Rattle.put.proofs.low_count.Goals as goal

pub bit_set-requires : goal.bit_set-requires
bit_set-requires c = omega (arith, width_small c.args.f)

pub returns-then-bit_set : goal.returns-then-bit_set
returns-then-bit_set c = (
  search rules,
  λ C q rs is lawful. low_first _ C _ rs is lawful _ q _ (search rules) c.loop-i.invariant
      (λ l. ap (λ (x : Item). bit_of c.args.bit x.key) (sym c.read_one-item.ensures) ∙ sym c.if-bit_set.ensures),
)

pub returns : goal.returns
returns c = (
  search rules,
  λ C q rs is lawful. low_first _ C _ rs is lawful _ q _ (search rules) (λ j l. c.loop-i.invariant j (omega arith)) (λ l. absurd (omega arith)),
)
