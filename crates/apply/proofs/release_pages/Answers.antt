-- A page released leaves the sizes and the count of nodes, and counts one page more.
use Rattle.std.proofs.Common.{◌≤◌, ◌≡◌, length, refl, ◌∙◌, arith}
use Rattle.apply.proofs.LoopLaws.{sizes_freed, page_counted, page_leaves, pages_turn, pages_out}
use Rattle.apply.proofs.release_pages.Goals as goal

pub loop-page-init : goal.loop-page-init
loop-page-init c = let p = c.requires in record { sizes = p.0; room = omega (arith, p.5); left = refl; nodes = refl }

pub release_page-requires : goal.release_page-requires
release_page-requires c =
    let v = c.loop-page.invariant in
    let p = c.requires in (
      v.sizes,
      p.1,
      p.2,
      p.3,
      omega (arith, p.4),
      omega (arith, p.6 c.loop-page.page-index c.loop-page-test.true),
      omega (arith, v.room, c.loop-page-test.true),
    )

pub loop-page-preserved : goal.loop-page-preserved
loop-page-preserved c =
    let v = c.loop-page.invariant in
    let a = c.args in
    let s = c.loop-page.store in
    let t = c.release_page.new.store in
    let r = c.release_page.ensures in
    let long : 16 ≤ length s = omega (arith, c.requires.4, c.loop-page.auto.store) in
    let same : length t ≡ length s = c.release_page.auto.store in
    record {
      sizes = sizes_freed s a.head v.sizes a.f t _ (omega (arith, long)) r;
      room = omega (arith, v.room, c.loop-page-test.true, page_counted a.f s t _ (omega (arith, long, same)) r);
      left = pages_turn a.pages.now c.loop-page.page-index a.f s t _ c.loop-page-test.true r v.left;
      nodes = page_leaves a.f s t _ long r ∙ v.nodes;
    }

pub returns : goal.returns
returns c =
    let v = c.loop-page.invariant in
    (pages_out c.args.pages.now c.loop-page.page-index c.args.f c.loop-page.store _ c.loop-page-test.false v.left, v.sizes, v.nodes)
