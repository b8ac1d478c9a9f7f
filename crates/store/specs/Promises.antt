-- What is promised of set-up, each as a type; proofs/Promises.antt proves them.
--   SetUpRefusals == a refused set-up replies 0 and leaves every word
--   BeyondStays   == set-up leaves the words beyond the size
--   LengthStays   == set-up leaves the number of words
use Rattle.std.specs.Prelude.{◌≡◌, List, ℕ, length, drop}
use Rattle.store.specs.declared.Format.{Format}
use Rattle.store.specs.Head.{size}
use Rattle.store.specs.SetUp.{set_up}

abbrev pub SetUpRefusals : Type 0
SetUpRefusals =
    (f : Format) (θ C N P : ℕ) (s : List ℕ) → ((set_up f θ C N P s).reply.number ≡ 0 → ⊥)
    → ((set_up f θ C N P s).reply.size ≡ 0) × ((set_up f θ C N P s).words ≡ s)

abbrev pub BeyondStays : Type 0
BeyondStays = (f : Format) (θ C N P : ℕ) (s : List ℕ) → drop (size f θ C N P) (set_up f θ C N P s).words ≡ drop (size f θ C N P) s

abbrev pub LengthStays : Type 0
LengthStays = (f : Format) (θ C N P : ℕ) (s : List ℕ) → length (set_up f θ C N P s).words ≡ length s
