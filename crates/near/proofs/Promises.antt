-- What is promised of a removal that is decided from its page.
use mathlib.Core.Path.{◌≡◌, refl, sym, ap, ◌∙◌, subst}
use mathlib.Core.Bool.{Bool, true, false, ◌&&◌, ◌||◌, true≢false, false≢true}
use mathlib.Core.List.{List, []}
use Prim.Native.Nat.{ℕ, ◌+◌, ◌≤◌, ◌<◌}
use native.Mathlib.Omega.{arith}
use lib.Dec.{eqb, ltb}
use lib.ListN.{length, take}
use borrow.Author.Tests.{ltb-true, ltb-false}
use Rattle.lists.proofs.Cases.{by_cases}
use Rattle.lists.proofs.Tests.{and_three}
use Rattle.store.specs.declared.Format.{Format}
use Rattle.store.specs.declared.Head.{Head}
use Rattle.store.specs.declared.Item.{Item}
use Rattle.store.specs.Format.{width}
use Rattle.store.specs.Head.{page_at, Under}
use Rattle.search.specs.Way.{Visit}
use Rattle.search.specs.Way.{Descent}
use Rattle.search.specs.Way.{End}
use Rattle.search.specs.Descent.{descent, end_of}
use Rattle.search.specs.Find.{sound_page}
use Rattle.remove.specs.Remove.{Reach, Pages, sibling_key, path_reach, stuck_pages, page_joins}
use Rattle.near.specs.Near.{left_in, entry_beside, beside, root_stays}
use Rattle.near.specs.Promises.{begun, PairSaid, PageSaid, PairApart, PageAlone}
use Rattle.near.proofs.SiblingNear.{Beside}
use Rattle.near.proofs.StayPlan.{some_left, plan_lost}
use Rattle.near.proofs.PageLaws.{count_left}
use Rattle.near.proofs.Told.{beside_far, beside_lost, beside_told, near_beside, near_undecided}
use Rattle.near.proofs.NearLaws.{start, joins_none, joins_lost, joins_full, found_beside, used_within, near_done, end_ok}

-- what is said of the page and its sibling
module _ {f : Format} {s : List ℕ} {h : Head} (k : ℕ) (u : Under f s h) (o : (descent f s h k).ok ≡ true) where
  abbrev path : Descent
  path = descent f s h k

  abbrev end : End
  end = end_of path

  module _ (above : end.before < end.used) (one : 1 ≤ length (left_in f s h k path.page)) where
    abbrev its : List Item
    its = left_in f s h k path.page

    abbrev v : Visit
    v = entry_beside f s h k end

    abbrev reaches : List Reach
    reaches = path_reach (width f) k (take h.levels path.steps)

    besides : Beside f s h k path.used reaches end.node end.before v
    besides = found_beside k u o path.used above (used_within k u o)

    begins : begun f s h k path ≡ record { ok = true; used = path.used; page = path.page; items = its; released = []; reached = reaches }
    begins = some_left path.used path.page its reaches one

    some : 1 ≤ path.used
    some = omega (arith, above)

    abbrev began : Pages
    began = start f s h k path.used path.page its reaches end.node end.before v besides some

    joins : page_joins f s h k path.used (begun f s h k path) ≡ page_joins f s h k path.used began
    joins = ap (page_joins f s h k path.used) begins

    stuck : page_joins f s h k path.used began ≡ stuck_pages began besides.reached → (rs : List Reach)
        × (page_joins f s h k path.used (begun f s h k path) ≡ stuck_pages (begun f s h k path) rs)
    stuck a = (besides.reached, joins ∙ a ∙ ap (λ g. stuck_pages g besides.reached) (sym begins))

    abbrev passes : Bool
    passes = eqb v.pointer 0 || sound_page f h (page_at f s h v.pointer) (sibling_key (width f) k path.used) path.used

    pair_far : ltb path.used (end.before + v.depth) ≡ true → PairSaid f s h k (beside f s h k end (length its))
    pair_far t =
        subst (PairSaid f s h k) (beside_far f s h k end (length its) t)
        (record {
          lost = λ z. absurd (true≢false z);
          apart = λ z.
              stuck (joins_none f s h k path.used path.page its reaches end.node end.before v besides some (ltb-true _ _ t));
        })

    module _ (near : ltb path.used (end.before + v.depth) ≡ false) where
      pair_lost : passes ≡ false → PairSaid f s h k (beside f s h k end (length its))
      pair_lost t =
          subst (PairSaid f s h k) (beside_lost f s h k end (length its) near t)
          (record {
            lost = λ _.
                joins
                ∙ joins_lost f s h k path.used path.page its reaches end.node end.before v besides some (ltb-false _ _ near) t;
            apart = λ z. absurd (false≢true z);
          })

      pair_told : passes ≡ true → PairSaid f s h k (beside f s h k end (length its))
      pair_told t =
          subst (PairSaid f s h k) (beside_told f s h k end (length its) near t)
          (record {
            lost = λ z. absurd (true≢false z);
            apart = λ z.
                stuck
                (joins_full f s h k path.used path.page its reaches end.node end.before v besides some (ltb-false _ _ near) t
                (ltb-true _ _ z));
          })

    pair_is : PairSaid f s h k (beside f s h k end (length its))
    pair_is = by_cases _ pair_far (λ near. by_cases _ (pair_told near) (pair_lost near))

pub pair_apart : PairApart
pair_apart f s h k e u q o above one =
    subst
    (λ x. x.ok ≡ true → x.before < x.used → 1 ≤ length (left_in f s h k x.page) → PairSaid f s h k (beside f s h k x (length (left_in f s h k x.page))))
    (sym q) (pair_is k u) o above one

-- what is said of the removal
pub page_alone : PageAlone
page_alone f s h k e i u low q own key =
    by_cases (ltb 0 left && ltb e.before e.used && root_stays s h)
    (λ t.
    let w = and_three _ _ _ t in
    let one : 1 ≤ left = ltb-true _ _ w.0 in
    let p : PairSaid f s h k (beside f s h k e left) = pair_apart f s h k e u q (ap (λ (x : End). x.ok) q ∙ ok) (ltb-true _ _ w.1) one in
    subst (PageSaid f s h k e.page) (near_beside f s h k e left t)
    (subst (λ x. PageSaid f s h k x (beside f s h k e left)) (sym page_is)
    (record {
      lost = λ z. plan_lost f s h k (descent f s h k) (p.lost z);
      alone = λ z.
          let a = p.apart z in
          near_done k u ok low (omega (arith, own.some, page_is)) (omega (arith, one, many)) (omega (arith, fits, many)) w.2 a.0 a.1;
    })))
    (λ t. subst (PageSaid f s h k e.page) (near_undecided f s h k e left t) (record { lost = λ z. absurd (true≢false z); alone = λ z. absurd (false≢true z) }))
  where
    left : ℕ
    left = length (left_in f s h k e.page)

    ok : (descent f s h k).ok ≡ true
    ok = end_ok f s h k q own.some

    page_is : e.page ≡ (descent f s h k).page
    page_is = ap (λ (x : End). x.page) q

    many : length (left_in f s h k (descent f s h k).page) ≡ left
    many = ap (λ p. length (left_in f s h k p)) (sym page_is)

    fits : left ≤ h.capacity
    fits = let l = count_left u own k key refl in omega (arith, l.0, l.1)
