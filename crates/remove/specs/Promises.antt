-- What is promised of remove, each as a type; proofs/Promises.antt proves them. Where a done remove writes is in Frame.antt, `RemoveWrites`;
-- what holds of entries and removals mixed is in Mixture.antt.
--   RemoveRefusals   == a refused remove replies zeros and leaves every word, on any words
--   RemoveInside     == remove touches no other word, on any words
--   PagesApart       == a page that keeps its rules is reached under one prefix only
--   Removed f s S k  == remove replies as find does, and the store then holds S without the record
--   RemoveSteps      == on a store that holds S
use Rattle.std.specs.Prelude.{◌≡◌, true, List, ℕ, ◌^◌, ◌≤◌, ◌<◌}
use Rattle.store.specs.declared.Format.{Format}
use Rattle.store.specs.declared.Item.{Item}
use Rattle.store.specs.Format.{width}
use Rattle.page.specs.Page.{page_rule, agrees}
use Rattle.page.specs.Schema.{key_of}
use Rattle.search.specs.Find.{no_item}
use Rattle.represent.specs.Rep.{Holds}
use Rattle.readings.specs.Listing.{find_in}
use Rattle.joins.specs.Joins.{without}
use Rattle.remove.specs.Remove.{remove_of, prefix}
use Rattle.remove.specs.Frame.{Kept}

abbrev pub RemoveRefusals : Type 0
RemoveRefusals =
    (f : Format) (s : List ℕ) (k : ℕ) → ((remove_of f s k).reply.number ≡ 0 → ⊥)
    → ((remove_of f s k).reply.item ≡ no_item) × ((remove_of f s k).words ≡ s)

abbrev pub RemoveInside : Type 0
RemoveInside = (f : Format) (s : List ℕ) (k : ℕ) → Kept f s (remove_of f s k).words

-- of a page's two prefixes, i bits of the key k and j bits of the key l, the shorter begins the longer
abbrev pub PagesApart : Type 0
PagesApart =
    (f : Format) (C : ℕ) (pg : List ℕ) (k l i j : ℕ) → i ≤ j → j ≤ width f
    → page_rule f C pg ≡ true → agrees f pg k i ≡ true → agrees f pg l j ≡ true → prefix (width f) k i ≡ prefix (width f) l i

module _ (f : Format) (s : List ℕ) (S : List Item) where
  pub record Removed (k : ℕ) : Type 0 where
    -- "It gives the removed record, or answer 1 if absent": as find does
    pub reply : (remove_of f s k).reply ≡ find_in S k
    -- "A removed record leaves the list of the readings."
    pub holds : Holds f (remove_of f s k).words (without key_of k S)
    pub kept : Kept f s (remove_of f s k).words

  abbrev pub RemoveSteps : Type 0
  RemoveSteps = Holds f s S → (k : ℕ) → k < 2 ^ width f → Removed k
