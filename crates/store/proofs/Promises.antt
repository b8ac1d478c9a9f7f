-- The promises of specs/Promises.antt, each from its laws.
use mathlib.Core.Path.{◌≡◌, refl, ◌∙◌}
use mathlib.Core.List.{List, ◌++◌}
use mathlib.Core.Logic.{inl, inr}
use Prim.Native.Nat.{ℕ, ◌-◌, ◌≤◌}
use native.Mathlib.Omega.{arith}
use lib.Dec.{leb}
use lib.ListN.{length, drop, length-append, length-drop, length-replicate}
use lib.Seq.{drop_at}
use borrow.Author.Tests.{leb-true}
use Rattle.lists.proofs.Cases.{bool_cases, by_cases}
use Rattle.store.specs.declared.Format.{Format}
use Rattle.store.specs.Head.{size, lawful_sizes}
use Rattle.store.specs.SetUp.{set_up_words, set_up}
use Rattle.store.specs.Promises.{SetUpRefusals, BeyondStays, LengthStays}
use Rattle.store.proofs.SetUpLaws.{at_least}

pub set_up_refusals : SetUpRefusals
unfolding set_up
set_up_refusals f θ C N P s n =
    elim (bool_cases (lawful_sizes θ C N P)) [
      | inr a ↦ rw (a, set_up) (refl, refl)
      | inl a ↦
          elim (bool_cases (leb (size f θ C N P) (length s))) [
            | inr b ↦ rw (a, b, set_up) (refl, refl)
            | inl b ↦ absurd (n (rw (a, b, set_up)))
          ]
    ]

length_set_up : (f : Format) (θ C N P : ℕ) → 18 ≤ size f θ C N P → length (set_up_words f θ C N P) ≡ size f θ C N P
unfolding set_up_words
length_set_up f θ C N P h = omega (arith, length-replicate {A = ℕ} (size f θ C N P - 18) 0)

-- what holds of a refusal and of a done set-up holds of set-up
set_up_rule :
    (Q : List ℕ → Type 0) (f : Format) (θ C N P : ℕ) (s : List ℕ) →
    Q s →
    (size f θ C N P ≤ length s → length (set_up_words f θ C N P) ≡ size f θ C N P → Q (set_up_words f θ C N P ++ drop (size f θ C N P) s)) →
    Q (set_up f θ C N P s).words
unfolding set_up
set_up_rule Q f θ C N P s refused done =
    by_cases (lawful_sizes θ C N P)
    (λ a.
    by_cases (leb (size f θ C N P) (length s))
    (λ b. rw (a, b, set_up) (done (leb-true _ _ b) (length_set_up f θ C N P (at_least f θ C N P _ refl a))))
    (λ b. rw (a, b, set_up) refused))
    (λ a. rw (a, set_up) refused)

pub beyond_stays : BeyondStays
beyond_stays f θ C N P s =
    set_up_rule (λ t. drop (size f θ C N P) t ≡ drop (size f θ C N P) s) f θ C N P s refl
    (λ room long. drop_at (set_up_words f θ C N P) (drop (size f θ C N P) s) (size f θ C N P) long)

pub length_stays : LengthStays
length_stays f θ C N P s =
    set_up_rule (λ t. length t ≡ length s) f θ C N P s refl
    (λ room long. length-append (set_up_words f θ C N P) (drop (size f θ C N P) s) ∙ omega (arith, long, length-drop (size f θ C N P) s))
