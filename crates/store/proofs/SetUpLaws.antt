-- What set-up writes: zeros, and then the few words that are not.
use mathlib.Core.Path.{◌≡◌, ap, ◌∙◌}
use mathlib.Core.Bool.{true, false}
use mathlib.Core.List.{List, ◌∷◌, ◌++◌}
use Prim.Native.Nat.{ℕ, ◌+◌, ◌-◌, ◌*◌, ◌^◌, ◌≤◌, ◌<◌}
use native.Mathlib.Omega.{arith}
use lib.ListN.{length, take, drop, replicate, replicate-append-replicate, length-replicate, length-append}
use lib.Pow.{pow_pos}
use lib.Seq.{length-take-le}
use borrow.Author.Tests.{le-leb, lt-leb}
use Rattle.std.specs.Prelude.{Ok, Err}
use Rattle.answers.specs.declared.Refusal.TheVariants.{SizesOutside, TooShort}
use Rattle.store.specs.declared.Format.{Format}
use Rattle.store.specs.Head.{node_words, size, lawful_sizes}
use Rattle.store.specs.SetUp.{set_up_words, marked, reply, set_up}
use Rattle.store.proofs.HeadLaws.{Limits, sizes_limits}
use Rattle.store.proofs.Sizes.{times_le}

-- a store has a head and, in its first node block, six words or more
pub size_low : (f : Format) (θ C N P : ℕ) → Limits θ C N P → 22 ≤ size f θ C N P
unfolding size node_words
size_low f θ C N P l =
    omega (arith, times_le 1 (4 + 2 * 1) N (4 + 2 * 2 ^ θ) l.nodes_low (omega (arith, pow_pos θ)))

pub at_least : (f : Format) (θ C N P n : ℕ) → n ≡ size f θ C N P → lawful_sizes θ C N P ≡ true → 18 ≤ n
at_least f θ C N P n e l = omega (arith, size_low f θ C N P (sizes_limits θ C N P l))

marked_zeros : (m θ C N P : ℕ) (s : List ℕ)
    → marked (replicate (18 + m) 0 ++ s) θ C N P ≡ ((θ ∷ C ∷ N ∷ P ∷ 1 ∷ 0 ∷ 1 ∷ 1 ∷ replicate 8 0) ++ (0 ∷ 1 ∷ replicate m 0)) ++ s
unfolding marked
marked_zeros m θ C N P s = rw (← (replicate-append-replicate {A = ℕ} 18 m 0))

pub marked_is : (f : Format) (θ C N P n : ℕ) (s z t : List ℕ) → n ≡ size f θ C N P → 18 ≤ n → z ≡ replicate n 0
    → t ≡ marked (z ++ s) θ C N P → t ≡ set_up_words f θ C N P ++ s
unfolding set_up_words
marked_is f θ C N P n s z t e h i j =
    let m : n ≡ 18 + (n - 18) = omega arith in
    j ∙ ap (λ (l : List ℕ). marked (l ++ s) θ C N P) (i ∙ ap (λ (k : ℕ). replicate k 0) m) ∙ marked_zeros (n - 18) θ C N P s ∙ rw e

-- the three ways of set-up
pub outside : (f : Format) (θ C N P : ℕ) (s : List ℕ) → lawful_sizes θ C N P ≡ false
    → (reply (Err SizesOutside) ≡ (set_up f θ C N P s).reply) × (s ≡ (set_up f θ C N P s).words)
unfolding set_up
outside f θ C N P s e = (rw (e, set_up), rw (e, set_up))

pub short : (f : Format) (θ C N P : ℕ) (s : List ℕ) → lawful_sizes θ C N P ≡ true → length s < size f θ C N P
    → (reply (Err TooShort) ≡ (set_up f θ C N P s).reply) × (s ≡ (set_up f θ C N P s).words)
unfolding set_up
short f θ C N P s e h = let l = lt-leb (size f θ C N P) (length s) h in (rw (e, l, set_up), rw (e, l, set_up))

pub done : (f : Format) (θ C N P n : ℕ) (s t : List ℕ) → lawful_sizes θ C N P ≡ true → n ≡ size f θ C N P
    → n ≤ length s → t ≡ set_up_words f θ C N P ++ drop n s
    → (reply (Ok n) ≡ (set_up f θ C N P s).reply) × (t ≡ (set_up f θ C N P s).words)
unfolding set_up
done f θ C N P n s t e i h u =
    let l = le-leb (size f θ C N P) (length s) (rw i at h) in (rw (e, l, i, set_up), rw (e, l, set_up) (u ∙ rw i))

-- the part cleared, and then marked
pub cleared : (n : ℕ) (s t : List ℕ) → n ≤ length s → t ≡ replicate (length (take n s)) 0 → t ≡ replicate n 0
cleared n s t h e = e ∙ ap (λ (k : ℕ). replicate k 0) (length-take-le n s h)

pub long_enough : (n : ℕ) (s t : List ℕ) → 18 ≤ n → t ≡ replicate n 0 → 18 ≤ length (t ++ drop n s)
long_enough n s t h e = rw e (omega (arith, length-append (replicate n 0) (drop n s), length-replicate {A = ℕ} n 0))
