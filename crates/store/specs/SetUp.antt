-- Set-up. Document 01, "The store".
--   set_up_words f θ C N P  == the words of a store just set up
--   marked s θ C N P      == s with the words of such a store that are not 0
--   Reply, reply          == document 01's number and value for an answer of `set_up`
--   set_up f θ C N P s     == what set-up replies and the words after it
--   After                 == a reply, and the words after it
use Rattle.std.specs.Prelude.{Result, Ok, Err, true, false, List, ◌∷◌, ◌++◌, ℕ, ◌-◌, leb, length, drop, set, replicate}
use Rattle.answers.specs.declared.Refusal.{Refusal}
use Rattle.answers.specs.Answers.{number}
use Rattle.store.specs.declared.Format.{Format}
use Rattle.store.specs.Head.{size, lawful_sizes}

-- "Set-up clears the size and takes node 1 as root: level 1, H = 0, one null entry with h = 0; levels = 1."
unfoldable pub set_up_words : Format → ℕ → ℕ → ℕ → ℕ → List ℕ
set_up_words f θ C N P = (θ ∷ C ∷ N ∷ P ∷ 1 ∷ 0 ∷ 1 ∷ 1 ∷ replicate 8 0) ++ (0 ∷ 1 ∷ replicate (size f θ C N P - 18) 0)

unfoldable pub marked : List ℕ → ℕ → ℕ → ℕ → ℕ → List ℕ
marked s θ C N P = set (set (set (set (set (set (set (set s 0 θ) 1 C) 2 N) 3 P) 4 1) 6 1) 7 1) 17 1

pub record Reply : Type 0 where
  pub number : ℕ
  pub size : ℕ

abbrev pub reply : Result ℕ Refusal → Reply
reply (Ok n) = record { number = 0; size = n }
reply (Err e) = record { number = number e; size = 0 }

pub record After : Type 0 where
  pub reply : Reply
  pub words : List ℕ

-- "set-up θ, C, N or P outside limits: 4", "set-up slice shorter than the size: 5", "Set-up tests 4, 5"; "words beyond the size set up are
-- never touched".
unfoldable pub set_up : Format → ℕ → ℕ → ℕ → ℕ → List ℕ → After
set_up f θ C N P s =
    elim (lawful_sizes θ C N P) [
      | false ↦ record { reply = record { number = 4; size = 0 }; words = s }
      | true ↦
          elim (leb (size f θ C N P) (length s)) [
            | false ↦ record { reply = record { number = 5; size = 0 }; words = s }
            | true ↦
                record {
                  reply = record { number = 0; size = size f θ C N P };
                  words = set_up_words f θ C N P ++ drop (size f θ C N P) s;
                }
          ]
    ]
