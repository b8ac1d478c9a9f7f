-- One word more; at the end nothing is left of what stood there.
use mathlib.Core.Path.{◌≡◌, refl, sym, ap, ap₂, ◌∙◌}
use mathlib.Core.List.{List, [], ◌∷◌, ◌++◌, append-nil}
use Prim.Native.Nat.{ℕ, zero, suc, ◌<◌}
use native.Mathlib.Numerals.{add-one}
use native.Mathlib.Omega.{arith}
use lib.ListN.{length, take, drop, set, get_or}
use Rattle.std.proofs.lemmas.List.{take_all, drop_all}
use Rattle.store.proofs.copy.Goals as goal

more : (ws ps : List ℕ) (i : ℕ) → i < length ws → length ps ≡ length ws
    → set (take i ws ++ drop i ps) i (get_or ws i 0) ≡ take (suc i) ws ++ drop (suc i) ps
more [] ps i h l = absurd (omega arith)
more (w ∷ ws) [] i h l = absurd (omega arith)
more (w ∷ ws) (p ∷ ps) zero h l = refl
more (w ∷ ws) (p ∷ ps) (suc i) h l = ap (λ (xs : List ℕ). w ∷ xs) (more ws ps i (omega arith) (omega arith))

pub loop-i-preserved : goal.loop-i-preserved
loop-i-preserved c =
    let l = c.loop-i in
    let ws = c.args.words.now in
    let ps = c.args.part.now in
    ap (λ (xs : List ℕ). set xs l.i (get_or ws l.i 0)) l.invariant ∙ more ws ps l.i c.loop-i-test.true c.requires
    ∙ ap (λ (k : ℕ). take k ws ++ drop k ps) (sym (add-one l.i))

pub returns : goal.returns
returns c =
    let l = c.loop-i in
    let ws = c.args.words.now in
    let ps = c.args.part.now in
    l.invariant
    ∙ ap₂ (λ (xs ys : List ℕ). xs ++ ys) (take_all l.i ws c.loop-i-test.false) (drop_all l.i ps (omega (arith, c.requires, c.loop-i-test.false)))
    ∙ append-nil ws
