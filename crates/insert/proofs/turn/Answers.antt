-- The page is halved, the path follows, and the key's next bit chooses the half.
use Rattle.std.proofs.Common.{◌≡◌, refl, sym, ap, ◌∙◌, ℕ, suc, ◌-◌, inl, inr}
use native.Mathlib.Omega.{arith}
use Rattle.lists.specs.Bits.{bit}
use Rattle.store.proofs.HeadLaws.{width_within}
use Rattle.insert.proofs.TurnCode.{turn_bit, turn_page, turn_round, turn_done}
use Rattle.insert.proofs.turn.Goals as goal
use Rattle.insert.proofs.turn.Goals.{then-bit_set, else-bit_set}

-- the bit's number
bit_is : (u : ℕ) {x w : ℕ} → x ≡ w → x - 1 - u ≡ w - suc u
bit_is u e = omega (arith, e)

pub overflow_sub-bit-2 : goal.overflow_sub-bit-2
overflow_sub-bit-2 c =
    let q = c.requires in
    omega (arith, c.width_of.ensures.0, turn_bit _ c.args.key _ _ _ q.0 q.2)

pub part_page-p-requires : goal.part_page-p-requires
part_page-p-requires c =
    let q = c.requires in
    (q.0.head_is, turn_page _ _ _ _ _ q.0 q.2 _ (bit_is c.args.course.down.used c.width_of.ensures.0))

pub round-r-requires : goal.round-r-requires
round-r-requires c =
    let q = c.requires in
    let e = c.part_page-p.ensures in
    let r = turn_round _ _ _ _ _ q.0 q.2 _ (bit_is c.args.course.down.used c.width_of.ensures.0) _ _ _ _ e.0 e.1 in
    (r.0, q.1, r.1, r.2)

pub overflow_add-further : goal.overflow_add-further
overflow_add-further c =
    let q = c.requires in
    omega (arith, turn_bit _ c.args.key _ _ _ q.0 q.2, width_within c.args.f)

pub returns : goal.returns
returns c =
    let q = c.requires in
    let b = bit_is c.args.course.down.used c.width_of.ensures.0 in
    let p = c.part_page-p.ensures in
    let e = c.round-r.ensures in
    let chosen = ap (λ i. bit i c.args.key) (sym b) ∙ sym c.bit_set.ensures in (
      e.0,
      turn_done _ _ _ _ _ q.0 q.2 _ b _ _ _ _ p.0 p.1 _ _ _ e.0.head_is e.1 e.2 (elim c.if-bit_set.branch [
        | then-bit_set x ↦ inl (chosen ∙ x.if-bit_set.true, x.page-is)
        | else-bit_set x ↦ inr (chosen ∙ x.if-bit_set.false, x.page-is)
      ]) refl,
    )
