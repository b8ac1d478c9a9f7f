-- The tests are those of the definition, in its order.
use mathlib.Core.Path.{◌≡◌, refl}
use mathlib.Core.Bool.{Bool, true, false, ◌&&◌}
use lib.Dec.{leb}
use Rattle.plot.specs.Label.{lawful_label, largest_place}
use Rattle.plot.proofs.lawful_label.Goals as goal

nested : (a b c d e : Bool) → ((((a && b) && c) && d) && e) ≡ (a && (b && (c && (d && e))))
nested false b c d e = refl
nested true false c d e = refl
nested true true false d e = refl
nested true true true d e = refl

pub returns : goal.returns
unfolding lawful_label
returns c =
    let l = c.args.label in
    nested (leb 1 l.section) (leb l.section 255) (leb l.row 4095) (leb l.place largest_place) (leb l.letter 15)
