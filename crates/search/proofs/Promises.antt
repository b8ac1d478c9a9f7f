-- The promises of specs/Promises.antt: what next gives passes its own test, what is given stands in a page that keeps the page rule, and a
-- refusal is written as zeros.
use mathlib.Core.Path.{◌≡◌, refl}
use mathlib.Core.Bool.{true}
use mathlib.Core.List.{List}
use mathlib.Core.Logic.{inl, inr}
use Prim.Native.Nat.{ℕ, ◌^◌, ◌<◌}
use lib.Pow.{pow_pos}
use Rattle.lists.proofs.Cases.{bool_cases}
use Rattle.store.specs.declared.Format.{Format}
use Rattle.store.specs.declared.Item.{Item}
use Rattle.store.specs.Format.{width}
use Rattle.store.specs.Head.{head_of, head_rule}
use Rattle.page.specs.Page.{lawful_item}
use Rattle.page.proofs.Laws.{lawful_key}
use Rattle.search.specs.Way.{Sought}
use Rattle.search.specs.Way.{Record, Nothing, Damaged}
use Rattle.search.specs.Find.{no_item, sought_reply, checked, find_of, find_reply}
use Rattle.search.specs.Next.{next_of, next_reply}
use Rattle.search.specs.Promises.{NextAbove, FindLawful, NextLawful, KeysFit, FindRefusals}
use Rattle.search.proofs.FindLaws as FindLaws
use Rattle.search.proofs.NextLaws as NextLaws

pub next_above : NextAbove
next_above = NextLaws.next_above

pub find_lawful : FindLawful
find_lawful = FindLaws.find_lawful

pub next_lawful : NextLawful
next_lawful = NextLaws.next_lawful

key_fits : (f : Format) (s : List ℕ) (a : Sought) → ((it : Item) → a ≡ Record it → lawful_item f it ≡ true)
    → (checked f s a).item.key < 2 ^ width f
unfolding checked
key_fits f s a lawful =
    elim (bool_cases (head_rule f s)) [
      | inr r ↦ rw (r, checked) (pow_pos (width f))
      | inl r ↦ rw (r, checked) (fits a lawful)
    ]
  where
    fits : (a : Sought) → ((it : Item) → a ≡ Record it → lawful_item f it ≡ true) → (sought_reply a).item.key < 2 ^ width f
    fits (Record it) lawful = (lawful_key f it (lawful it refl)).1
    fits Nothing lawful = pow_pos (width f)
    fits Damaged lawful = pow_pos (width f)

pub keys_fit : KeysFit
unfolding find_reply next_reply
keys_fit f s k = (
  key_fits f s (find_of f s (head_of s) k) (find_lawful f s (head_of s) k),
  key_fits f s (next_of f s (head_of s) true k) (next_lawful f s (head_of s) true k),
)

found_only : (f : Format) (s : List ℕ) (a : Sought) → head_rule f s ≡ true → ((checked f s a).number ≡ 0 → ⊥) → (checked f s a).item ≡ no_item
unfolding checked
found_only f s (Record it) r n = absurd (n (rw (r, checked)))
found_only f s Nothing r n = rw (r, checked)
found_only f s Damaged r n = rw (r, checked)

pub find_refusals : FindRefusals
unfolding checked
find_refusals f s a n =
    elim (bool_cases (head_rule f s)) [
      | inr r ↦ rw (r, checked)
      | inl r ↦ found_only f s a r n
    ]
