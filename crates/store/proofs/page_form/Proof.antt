-- The count, and the words behind the next one.
use borrow.Author.Rules.{rules}
use mathlib.Core.Path.{refl, sym, ◌∙◌}
use mathlib.Core.Bool.{true, false}
use Prim.Native.Nat.{◌+◌, ◌≤◌}
use native.Mathlib.Omega.{arith}
use lib.ListN.{length}
use borrow.Author.Tests.{eq-eqb, ne_eqb}
use Rattle.store.specs.Head.{page_start, page_words}
use Rattle.store.proofs.Places.{under_limits, page_inside, page_words_low, zeros_rest, zeros_one}
use Rattle.store.proofs.ChainLaws.{page_form_is}
use Rattle.store.proofs.page_form.Statement.{statement}
use Rattle.store.proofs.page_form.Tie as tie

inside : (c : tie.Start) → let a = c.args in page_start a.f a.head a.p + page_words a.f a.head.capacity ≤ length a.store.now
inside c = page_inside c.requires.0 c.requires.1 c.requires.2

low : (c : tie.Start) → 2 ≤ page_words c.args.f c.args.head.capacity
low c = page_words_low _ _ (under_limits c.requires.0).capacity_low

reads : tie.Need-bounds-store-at
reads c = let b = c.before.before.before in omega (arith, inside b, low b, c.page_start-at.ensures.0)

returns : tie.Need-returns-then-store-at-ne0
returns c =
    let q = c.before.before in
    page_form_is _ _ _ _ _ _ false _ q.requires.0.head q.page_start-at.ensures.0 refl
    (sym (zeros_one _ _ ∙ ne_eqb _ 0 c.if-store-at-ne0.true)) refl

returns_2 : tie.Need-returns
returns_2 c =
    let q = c.before.before.before.before.before in
    let b = q.before.before in
    let n = c.page_words.ensures in
    page_form_is _ _ _ _ _ _ true _ b.requires.0.head q.page_start-at.ensures.0 n.0
    (sym (zeros_one _ _ ∙ eq-eqb _ 0 c.if-store-at-ne0.false))
    (zeros_rest _ _ _ _ _ c.is_zero.ensures (omega (arith, n.0, low b)) (omega (arith, inside b, q.page_start-at.ensures.0, n.0)))

part_is_zero_end : tie.Need-slice_bounds-is_zero-end
part_is_zero_end c =
    let q = c.before.before.before in
    omega (arith, inside q.before.before, q.page_start-at.ensures.0, c.page_words.ensures.0)

sub_is_zero : tie.Need-slice_bounds-is_zero-count
sub_is_zero c = omega (arith, low c.before.before.before.before.before, c.page_words.ensures.0)

part_is_zero_start : tie.Need-slice_bounds-is_zero-start
part_is_zero_start c = omega (arith, low c.before.before.before.before.before, c.page_words.ensures.0)

pub page_form_spec : {M : Type 1} → statement M
page_form_spec =
    tie.close
    (tie.spec (λ c κs. let l = under_limits c.requires.0 in (l.theta, l.capacity)) (λ c. search rules) reads returns (λ c. search rules)
    (λ c κs. (under_limits c.requires.0).capacity) (λ c. search rules) (λ c. search rules) sub_is_zero
    part_is_zero_start part_is_zero_end (λ c κs. search rules) returns_2)
