-- By the key's next bit: the half that has it grows, the other stays.
use mathlib.Core.Path.{◌≡◌, sym, ap, ◌∙◌}
use mathlib.Core.Bool.{Bool, true, false}
use mathlib.Core.List.{List}
use Prim.Native.Nat.{ℕ, ◌+◌, ◌-◌, ◌≤◌, ◌<◌}
use native.Mathlib.Omega.{arith}
use Rattle.lists.specs.Bits.{bits, index}
use Rattle.store.specs.Format.{width}
use Rattle.store.proofs.HeadLaws.{width_within}
use Rattle.node.specs.Node.{depth_word, entry_number}
use Rattle.split.specs.Block.{half, grow}
use Rattle.split.proofs.GrowLaws.{half_less, half_growable}
use Rattle.split.proofs.SplitLaws.{entry_at, lower_clear, upper_clear, lower_set, upper_set, reached_width}
use Rattle.split.proofs.split_into.Goals.{After-half_into}
use Rattle.split.proofs.split_into.Goals as goal

-- a bit is left
left : (c : After-half_into) → (1 ≤ depth_word c.args.node.now 0) × (depth_word c.args.node.now 0 ≤ width c.args.f - c.args.used)
    × (c.args.used < width c.args.f)
left c =
    let wide = reached_width _ _ _ _ _ c.requires.6 in
    (omega (arith, c.requires.0, c.requires.7), wide, omega (arith, c.requires.0, c.requires.7, wide))

-- a half takes the bits after the next one
fits : (c : After-half_into) (b : Bool) (vs : List ℕ) → vs ≡ half c.args.theta c.args.node.now b
    → (depth_word vs 0 ≤ width c.args.f - (c.args.used + 1)) × (depth_word vs 0 ≤ 6)
fits c b vs made =
    let less = half_less c.args.theta c.args.node.now (left c).0 c.requires.6.shallow b in
    let e = ap (λ t. depth_word t 0) made in
    (omega (arith, less, e, (left c).1), omega (arith, less, e, c.requires.6.shallow.low, c.requires.1))

-- so it can grow at the entry of the key
at_key : (c : After-half_into) (b : Bool) (vs : List ℕ) → vs ≡ half c.args.theta c.args.node.now b
    → {i : ℕ} → i ≡ entry_number (width c.args.f) c.args.key (c.args.used + 1) (depth_word vs 0)
    → index (depth_word vs 0) (bits (width c.args.f - (c.args.used + 1)) c.args.key) ≡ i
at_key c b vs made e = entry_at (width c.args.f) c.args.key (c.args.used + 1) (depth_word vs 0) (fits c b vs made).0 e

grown : (c : After-half_into) (b : Bool) {vs us : List ℕ} → vs ≡ half c.args.theta c.args.node.now b
    → let k = bits (width c.args.f - (c.args.used + 1)) c.args.key in
    us ≡ grow c.args.theta vs k c.args.a c.args.c
    → us ≡ grow c.args.theta (half c.args.theta c.args.node.now b) k c.args.a c.args.c
grown c b made e =
    e ∙ ap (λ t. grow c.args.theta t (bits (width c.args.f - (c.args.used + 1)) c.args.key) c.args.a c.args.c) made

pub overflow_add-used : goal.overflow_add-used
overflow_add-used c = omega (arith, left (goal.at.overflow_add-used c).After-half_into, width_within c.args.f)

pub entry_number-i-requires : goal.entry_number-i-requires
entry_number-i-requires c =
    let low = fits (goal.at.entry_number-i-requires c).After-half_into false _ c.half_into.ensures in
    (omega (arith, low), omega (arith, low))

pub grow_part-requires : goal.grow_part-requires
grow_part-requires c =
    let g =
    half_growable c.args.theta c.args.node.now (left (goal.at.grow_part-requires c).After-half_into).0 c.requires.6.shallow false
    c.entry_number-i.result c.half_into.ensures (c.half_into.auto.to ∙ c.requires.3) c.entry_number-i.ensures.1 in
    (c.requires.1, g.0, g.1, g.2, g.3, g.4)

pub returns-then-entry_number-eq0 : goal.returns-then-entry_number-eq0
returns-then-entry_number-eq0 c =
    let at = (goal.at.returns-then-entry_number-eq0 c).After-half_into in
    let a = c.args in
    let z = c.if-entry_number-eq0.true in
    let bit = c.entry_number.ensures.0 in
    let made = c.half_into.ensures in
    let new = grown at false made (c.grow_part.ensures _ (at_key at false _ made c.entry_number-i.ensures.0)) in
    let ws = a.node.now in (
      new ∙ sym (lower_clear (width a.f) a.key a.used (left at).2 bit a.theta ws a.a a.c z),
      c.half_into-2.ensures ∙ sym (upper_clear (width a.f) a.key a.used (left at).2 bit a.theta ws a.a a.c z),
    )

pub overflow_add-used-2 : goal.overflow_add-used-2
overflow_add-used-2 c = omega (arith, left (goal.at.overflow_add-used-2 c).After-half_into, width_within c.args.f)

pub entry_number-i-requires-2 : goal.entry_number-i-requires-2
entry_number-i-requires-2 c =
    let high = fits (goal.at.entry_number-i-requires-2 c).After-half_into true _ c.half_into-2.ensures in
    (omega (arith, high), omega (arith, high))

pub grow_part-requires-2 : goal.grow_part-requires-2
grow_part-requires-2 c =
    let g =
    half_growable c.args.theta c.args.node.now (left (goal.at.grow_part-requires-2 c).After-half_into).0 c.requires.6.shallow true
    c.entry_number-i-2.result c.half_into-2.ensures (c.half_into-2.auto.to ∙ c.requires.4) c.entry_number-i-2.ensures.1 in
    (c.requires.1, g.0, g.1, g.2, g.3, g.4)

pub returns : goal.returns
returns c =
    let at = (goal.at.returns c).After-half_into in
    let a = c.args in
    let z = c.if-entry_number-eq0.false in
    let bit = c.entry_number.ensures.0 in
    let made = c.half_into-2.ensures in
    let new = grown at true made (c.grow_part-2.ensures _ (at_key at true _ made c.entry_number-i-2.ensures.0)) in
    let ws = a.node.now in (
      c.half_into.ensures ∙ sym (lower_set (width a.f) a.key a.used (left at).2 bit a.theta ws a.a a.c z),
      new ∙ sym (upper_set (width a.f) a.key a.used (left at).2 bit a.theta ws a.a a.c z),
    )
