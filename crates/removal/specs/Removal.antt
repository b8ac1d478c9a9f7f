-- Remove as the code has it.
--   Located f s h k i    == the record with the key k is found, number i of its page
--   Seated f s h k r     == what the code found of the key is what find finds (SeatIs: a record)
--   PartFits used p      == the numbers of the page part p of a plan are within bounds
--   PagesDone f C k z r items pages marks == the stretch of the key's page after the code's joins is z, damage included (PagesMade: without damage)
--   LevelsDone s h ts z r numbers blocks nodes == the levels after the code's joins are z, without the roots that are released, damage included
--     (LevelsMade: without damage)
--   DraftFits f h p o    == the numbers of a plan, over a page part p, are within the slices
--   Drawn f s h k r items numbers blocks pages nodes == the plan in the slices is that of the key's removal, damage included (Outlined: without damage)
--   Executed f s h k r t == the key's record is removed by its plan, or damage is met and no word changes
use Rattle.std.specs.Prelude.{◌≡◌, Option, Some, None, Result, Ok, Err, true, false, List, ◌++◌, ℕ, ◌+◌, ◌*◌, ◌^◌, ◌≤◌, ◌<◌, ltb, length, get_or, take, ⊤}
use Rattle.answers.specs.declared.Refusal.{Refusal}
use Rattle.answers.specs.declared.Refusal.TheVariants.{DamageMet}
use Rattle.store.specs.declared.Format.{Format}
use Rattle.store.specs.declared.Head.{Head}
use Rattle.store.specs.declared.Item.{Item}
use Rattle.store.specs.Format.{width}
use Rattle.store.specs.Head.{page_at, Under}
use Rattle.page.specs.Page.{count, key_at}
use Rattle.represent.specs.Image.{page_image}
use Rattle.search.specs.declared.Step.{Step}
use Rattle.search.specs.Way.{Record, Nothing, Damaged, answered}
use Rattle.search.specs.Descent.{descent}
use Rattle.search.specs.Find.{find_of}
use Rattle.remove.specs.Remove.{Pages, Levels, no_spot, first_spot, first_used, kept_levels, gone_roots, plan_of, written_by}
use Rattle.siblings.specs.Marks.{Tracks}
use Rattle.apply.specs.declared.Outline.{Outline}
use Rattle.apply.specs.Carried.{LevelIs, Carried}
use Rattle.removal.specs.declared.Seat.{Seat}
use Rattle.removal.specs.declared.PagePart.{PagePart}

pub record Located (f : Format) (s : List ℕ) (h : Head) (k i : ℕ) : Type 0 where
  pub under : Under f s h
  pub low : k < 2 ^ width f
  pub item : Item
  pub found : find_of f s h k ≡ Record item
  pub inside : i < count (page_at f s h (descent f s h k).page)
  pub key_is : key_at f (page_at f s h (descent f s h k).page) i ≡ k

pub record SeatIs (f : Format) (s : List ℕ) (h : Head) (k : ℕ) (r : Seat) : Type 0 where
  pub found : Record r.item ≡ find_of f s h k
  pub inside : r.i < count (page_at f s h (descent f s h k).page)
  pub key_is : key_at f (page_at f s h (descent f s h k).page) r.i ≡ k

abbrev pub Seated : Format → List ℕ → Head → ℕ → Result (Option Seat) Refusal → Type 0
Seated f s h k (Ok (Some r)) = SeatIs f s h k r
Seated f s h k (Ok None) = Nothing ≡ find_of f s h k
Seated f s h k (Err e) = (Damaged ≡ find_of f s h k) × (e ≡ DamageMet)

pub record PartFits (used : ℕ) (p : PagePart) : Type 0 where
  pub bits_in : p.bits ≤ used
  pub pages_in : p.pages ≤ 65

pub record PagesMade (f : Format) (C k : ℕ) (z : Pages) (p : PagePart) (items pages marks : List ℕ) : Type 0 where
  pub ok : z.ok ≡ true
  pub bits_are : z.used ≡ p.bits
  pub page_is : z.page ≡ p.page
  pub items_are : items ≡ page_image f C z.items
  pub pages_are : z.released ≡ take p.pages pages
  pub tracked : Tracks (width f) k z.reached marks

abbrev pub PagesDone : Format → ℕ → ℕ → Pages → Result PagePart Refusal → List ℕ → List ℕ → List ℕ → Type 0
PagesDone f C k z (Ok p) items pages marks = PagesMade f C k z p items pages marks
PagesDone f C k z (Err e) items pages marks = (z.ok ≡ false) × (e ≡ DamageMet)

pub record LevelsMade (s : List ℕ) (h : Head) (ts : List Step) (z : Levels) (o : Outline) (numbers blocks nodes : List ℕ) : Type 0 where
  pub ok : z.ok ≡ true
  pub levels_are : o.levels ≡ length (kept_levels z.spots)
  pub each : (l : ℕ) → l < length (kept_levels z.spots)
      → LevelIs s h.theta o.changed numbers blocks l (get_or (kept_levels z.spots) l no_spot)
  pub linked_is : o.linked ≡ ltb (first_spot z.spots).used (first_used ts)
  pub nodes_are : z.released ++ gone_roots z.spots ≡ take o.nodes nodes

abbrev pub LevelsDone : List ℕ → Head → List Step → Levels → Result Outline Refusal → List ℕ → List ℕ → List ℕ → Type 0
LevelsDone s h ts z (Ok o) numbers blocks nodes = LevelsMade s h ts z o numbers blocks nodes
LevelsDone s h ts z (Err e) numbers blocks nodes = (z.ok ≡ false) × (e ≡ DamageMet)

pub record DraftFits (f : Format) (h : Head) (p : PagePart) (o : Outline) : Type 0 where
  pub page_is : o.page ≡ p.page
  pub pages_is : o.pages ≡ p.pages
  pub some : 1 ≤ o.levels
  pub few : o.levels ≤ h.levels
  pub first : 1 ≤ o.changed
  pub changed_in : o.changed ≤ o.levels
  pub nodes_in : o.nodes ≤ width f * h.levels + h.levels

pub record Outlined (f : Format) (s : List ℕ) (h : Head) (k : ℕ) (o : Outline) (items numbers blocks pages nodes : List ℕ) : Type 0 where
  pub ok : (plan_of f s h k (descent f s h k)).ok ≡ true
  pub carried : Carried f s h o items numbers blocks pages nodes (plan_of f s h k (descent f s h k))
  pub some : 1 ≤ o.levels
  pub few : o.levels ≤ h.levels
  pub first : 1 ≤ o.changed
  pub changed_in : o.changed ≤ o.levels
  pub pages_in : o.pages ≤ 65
  pub nodes_in : o.nodes ≤ width f * h.levels + h.levels

abbrev pub Drawn : Format → List ℕ → Head → ℕ → Result Outline Refusal → List ℕ → List ℕ → List ℕ → List ℕ → List ℕ → Type 0
Drawn f s h k (Ok o) items numbers blocks pages nodes = Outlined f s h k o items numbers blocks pages nodes
Drawn f s h k (Err e) items numbers blocks pages nodes = ((plan_of f s h k (descent f s h k)).ok ≡ false) × (e ≡ DamageMet)

pub record Executed (f : Format) (s : List ℕ) (h : Head) (k : ℕ) (r : Result ⊤ Refusal) (t : List ℕ) : Type 0 where
  pub answer_is : r ≡ answered (plan_of f s h k (descent f s h k)).ok tt
  pub done : (plan_of f s h k (descent f s h k)).ok ≡ true → t ≡ written_by f s h (plan_of f s h k (descent f s h k))
  pub stays : (plan_of f s h k (descent f s h k)).ok ≡ false → t ≡ s
