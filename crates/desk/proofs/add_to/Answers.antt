-- The bytes kept so far are the first ones.
use Rattle.std.proofs.Common.{◌≡◌, ◌++◌, ◌+◌, ◌-◌, ◌∙◌, ℕ, List, length, take, drop, arith, ap, refl, rules}
use Rattle.std.proofs.Math.Seq.{drop-drop}
use Rattle.desk.specs.Serving.{line_of}
use Rattle.desk.proofs.ServeLaws.{kept_behind}
use Rattle.desk.proofs.add_to.Goals as goal

pub returns : goal.returns
unfolding line_of
returns c =
    let a = c.args in
    let held = c.min-held.result in
    let n = c.min-n.result in
    let long : length a.d.line ≡ 43 = search rules in
    let rest : drop (held + n - held) (drop held a.d.line) ≡ drop (held + n) a.d.line =
    drop-drop (held + n - held) held a.d.line ∙ ap (λ (i : ℕ). drop i a.d.line) (omega arith) in (
      kept_behind _ a.d.line a.bytes.now _ _ _ long c.min-held.ensures c.min-n.ensures
          (ap (λ (ys : List ℕ). take held a.d.line ++ (ys ++ drop (held + n - held) (drop held a.d.line))) c.copy_from_slice.ensures.after
          ∙ ap (λ (ys : List ℕ). take held a.d.line ++ (take n a.bytes.now ++ ys)) rest),
      refl,
      omega (arith, c.min-n.ensures, c.min-held.ensures),
    )
