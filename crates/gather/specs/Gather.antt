-- The page of a stretch in hand, as a removal joins it.
--   OwnPage f s h page i     == a taken page that keeps the page rule, with a record number i
--   Holds f C g r items lost == what is in hand is the stretch g: its page's number, the image of its records, the released pages
--   start_of f s h k used page rs == the stretch of the key's page without the key's record, before its joins; the nodes reached are left out
--   joined_by f s h g left p  == the stretch g joined with the page p, on its left or on its right
use Rattle.std.specs.Prelude.{◌≡◌, Bool, true, List, [], ℕ, ◌≤◌, ◌<◌, take}
use Rattle.store.specs.declared.Format.{Format}
use Rattle.store.specs.declared.Head.{Head}
use Rattle.store.specs.Head.{page_at}
use Rattle.page.specs.Page.{count, page_rule}
use Rattle.page.specs.Schema.{key_of}
use Rattle.represent.specs.Image.{page_image}
use Rattle.insert.specs.Enter.{own_items}
use Rattle.joins.specs.Joins.{without}
use Rattle.remove.specs.Remove.{Reach, Pages, both_pages, emptied}
use Rattle.siblings.specs.Pages.{quiet}
use Rattle.gather.specs.declared.Gathered.{Gathered}

pub record OwnPage (f : Format) (s : List ℕ) (h : Head) (page i : ℕ) : Type 0 where
  pub some : 1 ≤ page
  pub taken : page ≤ h.pages_taken
  pub rule : page_rule f h.capacity (page_at f s h page) ≡ true
  pub inside : i < count (page_at f s h page)

pub record Holds (f : Format) (C : ℕ) (g : Pages) (r : Gathered) (items lost : List ℕ) : Type 0 where
  pub page_is : r.page ≡ g.page
  pub items_are : items ≡ page_image f C g.items
  pub lost_are : g.released ≡ take r.lost lost

abbrev pub start_of : Format → List ℕ → Head → ℕ → ℕ → ℕ → List Reach → Pages
start_of f s h k used page rs = quiet (emptied used page (without key_of k (own_items f s h page)) rs)

abbrev pub joined_by : Format → List ℕ → Head → Pages → Bool → ℕ → Pages
joined_by f s h g left p = both_pages g left p (own_items f s h p) []
