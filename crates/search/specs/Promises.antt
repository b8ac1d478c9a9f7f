-- What is promised of find and next on any words, each as a type; proofs/Promises.antt proves them.
--   NextAbove      == what next gives is above the given key (not strict: at or above it)
--   FindLawful, NextLawful == what find and next give may be held
--   KeysFit        == the key in a reply of find or next has the format's width
--   FindRefusals   == find and next reply zeros where they give no record
use Rattle.std.specs.Prelude.{◌≡◌, Bool, true, List, ℕ, ◌^◌, ◌<◌}
use Rattle.store.specs.declared.Format.{Format}
use Rattle.store.specs.declared.Head.{Head}
use Rattle.store.specs.declared.Item.{Item}
use Rattle.store.specs.Format.{width}
use Rattle.page.specs.Page.{lawful_item, above}
use Rattle.search.specs.Way.{Sought}
use Rattle.search.specs.Way.{Record}
use Rattle.search.specs.Find.{no_item, checked, find_of, find_reply}
use Rattle.search.specs.Next.{next_of, next_reply}

abbrev pub NextAbove : Type 0
NextAbove =
    (f : Format) (s : List ℕ) (h : Head) (strict : Bool) (k : ℕ) (it : Item) → next_of f s h strict k ≡ Record it
    → above strict k it.key ≡ true

-- "A visited page has 1 to C lawful records"
abbrev pub FindLawful : Type 0
FindLawful = (f : Format) (s : List ℕ) (h : Head) (k : ℕ) (it : Item) → find_of f s h k ≡ Record it → lawful_item f it ≡ true

abbrev pub NextLawful : Type 0
NextLawful =
    (f : Format) (s : List ℕ) (h : Head) (strict : Bool) (k : ℕ) (it : Item) → next_of f s h strict k ≡ Record it → lawful_item f it ≡ true

abbrev pub KeysFit : Type 0
KeysFit = (f : Format) (s : List ℕ) (k : ℕ) → ((find_reply f s k).item.key < 2 ^ width f) × ((next_reply f s k).item.key < 2 ^ width f)

-- (find and next reply `checked f s a`, with what was sought as a)
abbrev pub FindRefusals : Type 0
FindRefusals = (f : Format) (s : List ℕ) (a : Sought) → ((checked f s a).number ≡ 0 → ⊥) → (checked f s a).item ≡ no_item
