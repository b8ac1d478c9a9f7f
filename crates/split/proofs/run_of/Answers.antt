-- A run is 2 to the power of a difference, and aligned runs stand within the entries.
use mathlib.Core.Path.{◌≡◌, refl, ap, ◌∙◌}
use Prim.Native.Nat.{◌-◌, ◌^◌}
use Rattle.split.proofs.GrowLaws.{run_room}
use Rattle.split.proofs.run_of.Goals as goal

pub returns : goal.returns
returns c =
    let a = c.args in
    let size : c.pow2-n.result ≡ 2 ^ (a.depth - a.local) = c.pow2-n.ensures.0 ∙ ap (λ k. 2 ^ k) c.saturating_sub.ensures in
    (size, refl, (run_room a.depth a.local a.i c.pow2-n.result c.requires.1 size).1)
