-- After a done enter find gives its record: where every test is passed the way found is a right one, the rounds keep it right, and the put
-- ends it.
use mathlib.Core.Path.{◌≡◌, sym, ap, ◌∙◌, subst}
use mathlib.Core.Bool.{true}
use mathlib.Core.List.{List}
use mathlib.Core.Logic.{inl, inr}
use Prim.Native.Nat.{ℕ}
use Rattle.store.specs.declared.Format.{Format}
use Rattle.store.specs.declared.Item.{Item}
use Rattle.store.specs.Head.{head_of, head_rule}
use Rattle.search.specs.Find.{find_reply}
use Rattle.insert.specs.Enter.{rounds_of, start_of, plan_for, entered_words, done}
use Rattle.insert.specs.Promises.{EnterFound}
use Rattle.insert.proofs.Refusals.{Passed, ways, enter_done}
use Rattle.insert.proofs.InsideWay.{rounds_fine}
use Rattle.insert.proofs.InsideEnter.{passed_fine}
use Rattle.insert.proofs.FoundWay.{rounds_right}
use Rattle.insert.proofs.FoundPlace.{Ends, placed_ends}
use Rattle.insert.proofs.FoundFind.{ends_head, ends_found}
use Rattle.insert.proofs.FoundStart.{passed_right}

passed_ends : (f : Format) (s : List ℕ) (it : Item) → Passed f s it → Ends f it (entered_words f s it)
unfolding entered_words
passed_ends f s it p =
    let θ : ℕ = (head_of s).theta in
    let C : ℕ = (head_of s).capacity in
    let d : ℕ = (plan_for f s it).rounds in
    let y = passed_fine f s it p in
    placed_ends f θ C it p.lawful (rounds_of f θ C it.key d (start_of f s it))
    (rounds_fine f θ C it.key d (start_of f s it) y).fine
    (rounds_right f θ C it d (start_of f s it) y (passed_right f s it p))

pub enter_found : EnterFound
unfolding done
enter_found f s it zero_is =
    elim (ways f s it) [
      | inl r ↦ absurd (r.some (sym (ap (λ a. a.reply.number) r.is) ∙ zero_is))
      | inr p ↦
          let y = passed_ends f s it p in
          subst
          (λ a. (head_rule f a.words ≡ true) × (find_reply f a.words it.key ≡ record { number = 0; item = it }))
          (sym (enter_done f s it p))
          (ends_head f it (entered_words f s it) y, ends_found f it (entered_words f s it) y p.lawful)
    ]
