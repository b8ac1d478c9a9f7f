-- A turn adds the next record.
use mathlib.Core.Path.{◌≡◌, sym, ap, ap₂, ◌∙◌}
use Prim.Native.Nat.{◌+◌, ◌-◌, ◌<◌}
use native.Mathlib.Omega.{arith}
use borrow.Author.Rules.{rules}
use Rattle.page.specs.Page.{count, item_at}
use Rattle.page.proofs.Inside.{record_term}
use Rattle.totals.specs.Totals.{updated_of, totals_of}
use Rattle.totals.proofs.Laws.{bounded_updated, bounded_room, updated_count}
use Rattle.scan.specs.Walk.{rows}
use Rattle.scan.proofs.WalkLaws.{rows_none, rows_more, totals_more}
use Rattle.scan.proofs.add_rows.Goals as goal

pub loop-i-init : goal.loop-i-init
unfolding totals_of
loop-i-init c =
    let a = c.args in
    let z : a.from - a.from ≡ 0 = omega arith in
    (sym (rw (z, rows_none a.f a.page.now a.from, totals_of)), c.requires.5, omega arith)

pub add-requires : goal.add-requires
add-requires c =
    let l = c.loop-i in
    let p = c.requires in
    let i : l.i < count c.args.page.now = omega (arith, p.2) in
    bounded_room l.t _ _ l.invariant.1 (omega (arith, l.invariant.2, p.6)) (rw c.read_one.ensures (record_term p.0 i)) p.4

pub loop-i-preserved : goal.loop-i-preserved
loop-i-preserved c =
    let l = c.loop-i in
    let a = c.args in
    let it = c.read_one.result in
    let n : l.i + 1 - a.from ≡ l.i - a.from + 1 = omega arith in
    let j : a.from + (l.i - a.from) ≡ l.i = omega arith in (
      c.add.ensures
          ∙ ap₂ (λ t x. updated_of t x a.today) l.invariant.0 (c.read_one.ensures ∙ ap (item_at a.f a.page.now) (sym j))
          ∙ sym (totals_more a.totals (rows a.f a.page.now a.from (l.i - a.from)) _ a.today)
          ∙ ap (λ ws. totals_of a.totals ws a.today)
          (sym (rows_more a.f a.page.now a.from (l.i - a.from)) ∙ ap (rows a.f a.page.now a.from) (sym n)),
      rw c.add.ensures (bounded_updated l.t it a.today l.invariant.1 (search rules)),
      rw c.add.ensures (omega (arith, updated_count l.t it a.today, l.invariant.2)),
    )

pub returns : goal.returns
returns c =
    let l = c.loop-i in
    let a = c.args in
    let e : l.i - a.from ≡ a.to - a.from = omega arith in
    (l.invariant.0 ∙ ap (λ n. totals_of a.totals (rows a.f a.page.now a.from n) a.today) e, l.invariant.1, omega (arith, l.invariant.2, e))
