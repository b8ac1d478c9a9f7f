-- A page has the key where find finds it.
use mathlib.Core.Path.{◌≡◌, refl, ap, ◌∙◌}
use mathlib.Core.Bool.{Bool, false}
use Rattle.std.specs.Prelude.{Option, Result, Ok, Err, is_some}
use Rattle.answers.specs.declared.Refusal.{Refusal}
use Rattle.store.specs.declared.Item.{Item}
use Rattle.page.proofs.Inside.{filled}
use Rattle.search.specs.Way.{Sought, Record, Nothing, Damaged, sought_result}
use Rattle.insert.proofs.PlanLaws.{is_found, as_found}
use Rattle.insert.proofs.key_held.Goals as goal

-- a record is returned where one was found
some_of : Result (Option Item) Refusal → Bool
some_of (Ok o) = is_some o
some_of (Err e) = false

some_found : (a : Sought) → some_of (sought_result a) ≡ is_found a
unfolding some_of
some_found (Record it) = refl
some_found Nothing = refl
some_found Damaged = refl

pub find_in-requires : goal.find_in-requires
find_in-requires c = let p = c.requires in filled _ _ _ p.0 p.1

pub returns : goal.returns
unfolding some_of
returns c =
    c.is_some.ensures ∙ ap some_of c.find_in.ensures ∙ some_found _ ∙ as_found _ _ _ _ c.requires.0 refl refl
