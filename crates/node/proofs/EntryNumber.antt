-- The entry that a key takes is the one that its next H bits, high bit first, spell: the bits after the used ones are the bits of a
-- narrower key, and a field of a number is the same whether it is cut off above or shifted down first.
use Rattle.std.proofs.Common.{◌≡◌, ℕ, ◌+◌, ◌-◌, ◌/◌, ◌%◌, ◌^◌, ◌<◌, ◌≤◌, drop, sym, ap, ◌∙◌, mod-lt, add-sub_of_le, arith, pow_pos}
use lib.Pow.{field}
use Rattle.lists.specs.Bits.{bits, index}
use Rattle.lists.proofs.BitLaws.{index_bits, drop_bits}
use Rattle.node.specs.Node.{entry_number}

-- by the bits that are left: at H = 0 nothing is asked of the used ones
pub entry_left : (W k used H : ℕ) → H ≤ W - used → entry_number W k used H ≡ index H (bits (W - used) k)
unfolding entry_number
entry_left W k used H fits =
    sym
    (index_bits (W - used) H k fits
    ∙ ap (λ n. k % 2 ^ n / 2 ^ (W - used - H)) (sym (add-sub_of_le fits))
    ∙ field k H (W - used - H))

pub entry_index : (W k used H : ℕ) → used + H ≤ W → k < 2 ^ W → entry_number W k used H ≡ index H (drop used (bits W k))
entry_index W k used H p q = entry_left W k used H (omega arith) ∙ ap (index H) (sym (drop_bits W used k (omega arith)))

pub entry_below : (W k used H : ℕ) → entry_number W k used H < 2 ^ H
unfolding entry_number
entry_below W k used H = mod-lt (k / 2 ^ (W - used - H)) (pow_pos H)
