-- One law for each way out; both ways to the page after the key's own meet where no record of that is left.
use mathlib.Core.Path.{refl, sym, ap, ◌∙◌}
use Prim.Native.Nat.{◌+◌}
use native.Mathlib.Omega.{arith}
use borrow.Author.Rules.{rules}
use Rattle.store.specs.declared.Item.{Item}
use Rattle.store.proofs.HeadLaws.{width_within}
use Rattle.page.proofs.Inside.{record_inside}
use Rattle.search.specs.Way.{span_result}
use Rattle.search.specs.Next.{reach, behind}
use Rattle.search.specs.Span.{no_span, reached_span}
use Rattle.search.proofs.BlockLaws.{under_page}
use Rattle.search.proofs.FindLaws.{sound_rule}
use Rattle.search.proofs.UseLaws.{at_node, at_asked, at_bits}
use Rattle.search.proofs.RowLaws.{page_asked, page_filled, at_null, at_known, at_unsound, at_rows, at_after}
use Rattle.search.proofs.WayLaws.{span_some}
use Rattle.search.proofs.span_from.Goals as goal
use Rattle.search.proofs.span_from.Goals.{then-p-ne0+else-not-page_sound+else-from-to, else-p-ne0}

pub own_entry-v-requires : goal.own_entry-v-requires
own_entry-v-requires c = let p = c.requires in at_asked _ _ _ _ p.0 p.1 refl

pub run_behind-behind-requires : goal.run_behind-behind-requires
run_behind-behind-requires c = let p = c.requires in (p.0, at_node _ _ _ _ p.0 p.1 refl)

pub page_at-page-requires : goal.page_at-page-requires
page_at-page-requires c = under_page c.requires.0

pub overflow_add-t : goal.overflow_add-t
overflow_add-t c =
    let p = c.requires in
    omega (arith, at_bits _ _ _ _ p.0 p.1 refl _ c.own_entry-v.ensures, width_within c.args.f)

pub page_sound-requires : goal.page_sound-requires
page_sound-requires c =
    let p = c.requires in
    let l = page_asked p.0 _ c.page_at-page.ensures _
    (λ q. at_known _ _ _ _ _ _ refl c.own_entry-v.ensures c.if-p-ne0.true c.page_at-page.ensures (p.2 q)) in
    (l.0, at_bits _ _ _ _ p.0 p.1 refl _ c.own_entry-v.ensures, l.1, l.2)

pub returns-then-not-page_sound : goal.returns-then-not-page_sound
unfolding no_span
returns-then-not-page_sound c =
    ap span_result
    (at_unsound _ _ _ c.args.strict _ _ refl c.own_entry-v.ensures c.if-p-ne0.true c.page_at-page.ensures
    (sym c.page_sound.ensures ∙ c.if-not-page_sound.true))

pub first_above-from-requires : goal.first_above-from-requires
first_above-from-requires c =
    page_filled c.requires.0 _ c.page_at-page.ensures (sound_rule _ _ _ _ _ (sym c.page_sound.ensures ∙ c.if-not-page_sound.false))

pub read_one-last-requires : goal.read_one-last-requires
read_one-last-requires c =
    let f = page_filled c.requires.0 _ c.page_at-page.ensures (sound_rule _ _ _ _ _ (sym c.page_sound.ensures ∙ c.if-not-page_sound.false)) in
    (search rules, record_inside f (omega (arith, c.if-from-to.true, c.count_of-to.ensures.0)))

pub returns-then-from-to : goal.returns-then-from-to
returns-then-from-to c =
    let e =
    at_rows _ _ _ c.args.strict _ _ refl c.own_entry-v.ensures c.if-p-ne0.true c.page_at-page.ensures
    (sym c.page_sound.ensures ∙ c.if-not-page_sound.false) c.first_above-from.ensures.0 c.count_of-to.ensures.0 c.if-from-to.true
    (ap (λ (x : Item). x.key) c.read_one-last.ensures) c.run_behind-behind.ensures.0 in
    span_some e c.if-p-ne0.true

pub span_behind-requires : goal.span_behind-requires
unfolding behind
span_behind-requires c =
    let a = c.args in
    let p = c.requires in
    let there = ap (λ i. reached_span a.f a.store.now a.head a.strict a.key a.t.node a.t.used
    (reach a.store.now a.head (a.head.nodes_taken + 1) a.t.node i)) (sym c.run_behind-behind.ensures.0) in (
      p.0,
      p.1,
      omega (arith, c.run_behind-behind.ensures.1),
      elim c.if-p-ne0.branch [
        | then-p-ne0+else-not-page_sound+else-from-to w ↦
            at_after _ _ _ _ _ _ refl c.own_entry-v.ensures w.if-p-ne0.true w.page_at-page.ensures
            (sym w.page_sound.ensures ∙ w.if-not-page_sound.false) w.first_above-from.ensures.0 w.count_of-to.ensures.0
            w.if-from-to.false ∙ there
        | else-p-ne0 w ↦ at_null _ _ _ _ _ _ refl c.own_entry-v.ensures w.if-p-ne0.false ∙ there
      ],
      p.2,
    )
