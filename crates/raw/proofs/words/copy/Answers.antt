use mathlib.Core.Path.{◌≡◌}
use Prim.Native.Nat.{◌-◌}
use native.Mathlib.Omega.{arith}
use borrow.Author.Rules.{rules}
use lib.ListN.{replicate}
use Rattle.raw.proofs.Laws.{copied}
use Rattle.raw.proofs.words.copy.Goals as goal

pub returns : goal.returns
returns c =
    let n = c.min-n.result - c.min-known.result in
    let z : c.fill.new.self ≡ replicate n 0 = search (rules, c.fill.ensures.after) in
    copied c.args.from.now c.args.to.now c.args.n (omega arith) (omega arith) c.copy_from_slice.ensures.after z
