-- What is promised of such a removal, each as a type; proofs/Promises.antt proves them. The plan is that of remove.
--   begun f s h k d == the stretch of the key's page without the record, before its joins; d is the key's way
--   PairSaid f s h k r  == where r is damage, the plan's joins of pages meet damage; where it is done, their first pair stays apart
--   PageSaid f s h k page r == where r is damage, the plan meets damage; where it is done, the plan writes this page alone
--   PairApart       == so is what is said of the page and its sibling
--   PageAlone       == so is what is said of the removal
use Rattle.std.specs.Prelude.{◌≡◌, true, false, List, ℕ, ◌^◌, ◌≤◌, ◌<◌, length, take}
use Rattle.store.specs.declared.Format.{Format}
use Rattle.store.specs.declared.Head.{Head}
use Rattle.store.specs.Format.{width}
use Rattle.store.specs.Head.{page_at, Under}
use Rattle.page.specs.Page.{key_at}
use Rattle.search.specs.Way.{Descent}
use Rattle.search.specs.Way.{End}
use Rattle.search.specs.Descent.{descent, end_of}
use Rattle.split.specs.Insertion.{put_items}
use Rattle.gather.specs.Gather.{OwnPage}
use Rattle.remove.specs.Remove.{Reach, Pages, path_reach, stuck_pages, no_pages, page_joins, emptied, plan_of, written_by}
use Rattle.near.specs.Near.{Near, left_in, beside, near_of}

abbrev pub begun : Format → List ℕ → Head → ℕ → Descent → Pages
begun f s h k d = emptied d.used d.page (left_in f s h k d.page) (path_reach (width f) k (take h.levels d.steps))

module _ (f : Format) (s : List ℕ) (h : Head) (k : ℕ) where
  pub record PairSaid (r : Near) : Type 0 where
    pub lost : r.ok ≡ false → page_joins f s h k (descent f s h k).used (begun f s h k (descent f s h k)) ≡ no_pages
    pub apart : r.done ≡ true
        → (rs : List Reach)
        × (page_joins f s h k (descent f s h k).used (begun f s h k (descent f s h k)) ≡ stuck_pages (begun f s h k (descent f s h k)) rs)

  pub record PageSaid (page : ℕ) (r : Near) : Type 0 where
    pub lost : r.ok ≡ false → (plan_of f s h k (descent f s h k)).ok ≡ false
    pub alone : r.done ≡ true
        → ((plan_of f s h k (descent f s h k)).ok ≡ true)
        × (put_items f h.capacity s page (left_in f s h k page) ≡ written_by f s h (plan_of f s h k (descent f s h k)))

abbrev pub PairApart : Type 0
PairApart =
    (f : Format) (s : List ℕ) (h : Head) (k : ℕ) (e : End) → Under f s h → e ≡ end_of (descent f s h k) → e.ok ≡ true → e.before < e.used
    → 1 ≤ length (left_in f s h k e.page) → PairSaid f s h k (beside f s h k e (length (left_in f s h k e.page)))

abbrev pub PageAlone : Type 0
PageAlone =
    (f : Format) (s : List ℕ) (h : Head) (k : ℕ) (e : End) (i : ℕ) → Under f s h → k < 2 ^ width f → e ≡ end_of (descent f s h k)
    → OwnPage f s h e.page i → key_at f (page_at f s h e.page) i ≡ k
    → PageSaid f s h k e.page (near_of f s h k e (length (left_in f s h k e.page)))
