-- The part after those released before holds the roots, the last one first.
use mathlib.Core.Path.{refl, ap, ◌∙◌}
use mathlib.Core.List.{◌++◌, reverse}
use Prim.Native.Nat.{◌+◌, ◌-◌}
use native.Mathlib.Omega.{arith}
use lib.ListN.{take, drop, length-drop}
use lib.Seq.{length-take-le}
use Rattle.std.proofs.lemmas.Slice.{take-put_mid}
use Rattle.levels.proofs.RootLaws.{roots_are}
use Rattle.levels.proofs.release_roots.Goals as goal

pub returns : goal.returns
returns c =
    let a = c.args in
    let p = c.requires in
    let part =
    length-take-le (a.at + (a.levels - a.kept) - a.at) (drop a.at a.gone.now) (omega (arith, length-drop a.at a.gone.now, p.2)) in (
      refl,
      λ xs y e.
          take-put_mid a.at _ a.gone.now c.reverse.new.self _ (omega (arith, c.reverse.ensures.len, c.copy.auto.part, part)) (omega (arith, p.2))
          ∙ ap (λ ns. take a.at a.gone.now ++ ns)
          (c.reverse.ensures.after ∙ ap reverse c.copy.ensures ∙ roots_are xs a.levels a.numbers.now y p.1 e),
    )
