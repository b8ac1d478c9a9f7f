-- The pages of a removal as the code has them: only the numbers of the pages joined are kept, one for each join; all else follows from them.
--   quiet g              == without the nodes reached
--   pages_by f s h k g ps == the stretch g after joins with the pages ps, one after another
--   Joinable f s h p     == p is null, or a taken page that keeps the page rule
--   records_in f s h ps   == how many records the pages ps have together
--   Paged f s h k g z r mates marks == the code's joins r, with the pages in mates, make z of the stretch g
--   Mated f s h k g r marks == what the code found beside the stretch g is what the definition's next turn does
use Rattle.std.specs.Prelude.{◌≡◌, true, false, List, [], ◌∷◌, ℕ, suc, ◌+◌, ◌≤◌, ◌<◌, length, take}
use Rattle.store.specs.declared.Format.{Format}
use Rattle.store.specs.declared.Head.{Head}
use Rattle.store.specs.Format.{width}
use Rattle.store.specs.Head.{page_at}
use Rattle.page.specs.Page.{page_rule}
use Rattle.insert.specs.Enter.{own_items}
use Rattle.remove.specs.Remove.{Reach, Pages, on_left, stuck_pages, no_pages, both_pages, page_joins}
use Rattle.siblings.specs.Outcome.{Mate, PageJoins}
use Rattle.siblings.specs.Marks.{Tracks}

abbrev pub quiet : Pages → Pages
quiet g = stuck_pages g []

abbrev pub pages_by : Format → List ℕ → Head → ℕ → Pages → List ℕ → Pages
pages_by f s h k g [] = g
pages_by f s h k g (p ∷ ps) = pages_by f s h k (both_pages g (on_left (width f) k g.used) p (own_items f s h p) []) ps

pub record Joinable (f : Format) (s : List ℕ) (h : Head) (p : ℕ) : Type 0 where
  pub taken : p ≤ h.pages_taken
  pub rule : (p ≡ 0 → ⊥) → page_rule f h.capacity (page_at f s h p) ≡ true

abbrev pub records_in : Format → List ℕ → Head → List ℕ → ℕ
records_in f s h [] = 0
records_in f s h (p ∷ ps) = length (own_items f s h p) + records_in f s h ps

pub record Mated (f : Format) (s : List ℕ) (h : Head) (k : ℕ) (g : Pages) (r : Mate) (marks : List ℕ) : Type 0 where
  pub reaches : List Reach
  pub tracked : r.ok ≡ true → Tracks (width f) k reaches marks
  pub lost : r.ok ≡ false → (n : ℕ) → page_joins f s h k (suc n) g ≡ no_pages
  pub none : r.ok ≡ true → r.found ≡ false → (n : ℕ) → page_joins f s h k (suc n) g ≡ stuck_pages g reaches
  pub count_is : r.ok ≡ true → r.found ≡ true → r.count ≡ length (own_items f s h r.pointer)
  pub full : r.ok ≡ true → r.found ≡ true → h.capacity < length g.items + r.count → (n : ℕ)
      → page_joins f s h k (suc n) g ≡ stuck_pages g reaches
  pub on : r.ok ≡ true → r.found ≡ true → length g.items + r.count ≤ h.capacity → (n : ℕ)
      → page_joins f s h k (suc n) g
      ≡ page_joins f s h k n (both_pages g (on_left (width f) k g.used) r.pointer (own_items f s h r.pointer) reaches)

pub record Paged (f : Format) (s : List ℕ) (h : Head) (k : ℕ) (g z : Pages) (r : PageJoins) (mates marks : List ℕ) : Type 0 where
  pub ok_is : r.ok ≡ z.ok
  pub pages_are : r.ok ≡ true → quiet z ≡ pages_by f s h k (quiet g) (take r.n mates)
  pub tracked : r.ok ≡ true → Tracks (width f) k z.reached marks
