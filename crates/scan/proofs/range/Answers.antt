-- One law for each way out; the second pass writes what the first one found.
use borrow.Author.Rules.{rules}
use mathlib.Core.Path.{sym, ap, ◌∙◌}
use Prim.Native.Nat.{◌/◌}
use native.Mathlib.Omega.{arith}
use lib.ListN.{length}
use Rattle.store.specs.Format.{words}
use Rattle.store.specs.Head.{head_of}
use Rattle.store.proofs.HeadLaws.{head_long}
use Rattle.search.proofs.WayLaws.{answered_err, damage_passed}
use Rattle.scan.specs.Range.{range_reply}
use Rattle.scan.proofs.FillLaws.{range_head, range_order, range_damaged, range_counted, range_length, range_listed, records_fit}
use Rattle.scan.proofs.Promises.{range_onward}
use Rattle.scan.proofs.range.Goals as goal

pub returns-then-not-head_ok : goal.returns-then-not-head_ok
returns-then-not-head_ok c = range_head _ _ _ _ _ (sym c.head_ok.ensures ∙ c.if-not-head_ok.true)

pub returns-then-high-low : goal.returns-then-high-low
returns-then-high-low c = range_order _ _ _ _ _ (search rules) c.if-high-low.true

pub head_of-head-requires : goal.head_of-head-requires
head_of-head-requires c = head_long _ _ (sym c.head_ok.ensures ∙ c.if-not-head_ok.false)

pub returns-in_err-l : goal.returns-in_err-l
returns-in_err-l c =
    let a = c.args in
    let rule = sym c.head_ok.ensures ∙ c.if-not-head_ok.false in
    let d = answered_err _ _ (sym c.in_err-l.was ∙ (rw (c.head_of-head.ensures, c.words_of.ensures.0) at c.list.ensures)) in
    let k = range_damaged a.f a.store.now a.low a.high a.out.now rule c.if-high-low.false d.0 in
    (ap range_reply (damage_passed _ c.from_residual.ensures.1 d.1) ∙ k.0, k.1)

pub fill-requires : goal.fill-requires
fill-requires c =
    let a = c.args in
    let head = c.head_of-head.ensures in
    let rule = sym c.head_ok.ensures ∙ c.if-not-head_ok.false in
    let e = rw (head, c.words_of.ensures.0) at c.list.ensures in
    let fits = (range_onward a.f a.store.now (head_of a.store.now) a.low a.high (length a.out.now / words a.f) c.if-high-low.false).0 in (
      record { rule = rule; head = head },
      records_fit a.f _ _ (omega (arith, fits, range_counted a.f a.store.now a.low a.high a.out.now rule c.if-high-low.false c.in_ok-l.was e)),
      rw head (range_length a.f a.store.now a.low a.high a.out.now rule c.if-high-low.false c.in_ok-l.was e),
    )

pub returns : goal.returns
returns c =
    let a = c.args in
    let head = c.head_of-head.ensures in
    let rule = sym c.head_ok.ensures ∙ c.if-not-head_ok.false in
    let e = rw (head, c.words_of.ensures.0) at c.list.ensures in
    range_listed a.f a.store.now a.low a.high a.out.now rule c.if-high-low.false c.in_ok-l.was e _ (rw head at c.fill.ensures)
