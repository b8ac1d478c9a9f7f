-- The levels that stay, from the top down, and the roots that do not.
use mathlib.Core.Path.{◌≡◌, refl, sym, ap, ap₂, ◌∙◌, subst}
use mathlib.Core.List.{List, [], ◌∷◌, ◌++◌, map, reverse, reverse_aux}
use Prim.Native.Nat.{ℕ, zero, suc, ◌+◌, ◌-◌, ◌*◌, ◌≤◌, ◌<◌, min}
use native.Mathlib.Decide.{ℕ_discrete}
use native.Mathlib.Omega.{arith}
use lib.ListN.{length, get_or, take, drop, length-drop}
use lib.Seq.{take-suc, take_all, length-take-le, get_or-take, get_or-drop}
use borrow.Author.Tests.{eq-eqb, ne_eqb}
use Rattle.store.specs.declared.Head.{Head}
use Rattle.store.specs.Head.{word, head_of, node_words, node_start, node_at}
use Rattle.store.proofs.Places.{part_word}
use Rattle.node.specs.Node.{depth_word}
use Rattle.split.specs.Frame.{node_of}
use Rattle.remove.specs.Remove.{Spot, no_spot, kept_over, kept_upper, kept_levels, backwards, gone_roots}
use Rattle.apply.specs.Carried.{block_in, LevelIs}
use Rattle.apply.proofs.LoopLaws.{node_small}
use Rattle.levels.specs.Levels.{NumbersAre, LevelsAre}

-- the depth word of a level that is carried, and of one that stays
pub depth_carried : (s : List ℕ) (θ changed : ℕ) (numbers blocks : List ℕ) (l : ℕ) (x : Spot) → θ ≤ 6 → 132 * changed ≤ length blocks → l < changed
    → LevelIs s θ changed numbers blocks l x → word blocks (132 * l) ≡ depth_word x.block 0
unfolding block_in node_words
depth_carried s θ changed numbers blocks l x small long low y =
    let z : 132 * l + 0 ≡ 132 * l = omega arith in
    sym (ap (λ ws. word ws 0) (y.carried low)
    ∙ part_word blocks (132 * l) (node_words θ) 0 (omega (arith, node_small θ small)) (omega arith) ∙ ap (word blocks) z)

pub depth_stays : (s : List ℕ) (h : Head) (changed : ℕ) (numbers blocks : List ℕ) (l : ℕ) (x : Spot) → h ≡ head_of s → changed ≤ l
    → node_start h (word numbers l) + node_words h.theta ≤ length s → LevelIs s h.theta changed numbers blocks l x
    → word s (node_start h (word numbers l)) ≡ depth_word x.block 0
unfolding node_at node_words
depth_stays s h changed numbers blocks l x e high fits y =
    let n : ℕ = word numbers l in
    let at : ℕ = node_start h n in
    let z : at + 0 ≡ at = omega arith in
    sym (ap (λ ws. word ws 0) (y.stays high ∙ ap (node_of s) y.number ∙ ap (λ i. node_at s i n) (sym e))
    ∙ part_word s at (node_words h.theta) 0 fits (omega arith) ∙ ap (word s) z)

-- one level more at the top
over_gone : (x : Spot) → depth_word x.block 0 ≡ 0 → kept_over x [] ≡ []
unfolding kept_over
over_gone x e = rw (eq-eqb (depth_word x.block 0) 0 e, kept_over)

over_stays : (x : Spot) → (depth_word x.block 0 ≡ 0 → ⊥) → kept_over x [] ≡ x ∷ []
unfolding kept_over
over_stays x e = rw (ne_eqb (depth_word x.block 0) 0 e, kept_over)

upper_gone : (ys : List Spot) (x : Spot) → depth_word x.block 0 ≡ 0 → kept_upper (ys ++ (x ∷ [])) ≡ kept_upper ys
upper_gone [] x e = over_gone x e
upper_gone (y ∷ ys) x e = ap (kept_over y) (upper_gone ys x e)

upper_stays : (ys : List Spot) (x : Spot) → (depth_word x.block 0 ≡ 0 → ⊥) → kept_upper (ys ++ (x ∷ [])) ≡ ys ++ (x ∷ [])
unfolding kept_over
upper_stays [] x e = over_stays x e
upper_stays (y ∷ []) x e = ap (kept_over y) (over_stays x e)
upper_stays (y ∷ z ∷ ys) x e = ap (kept_over y) (upper_stays (z ∷ ys) x e)

kept_gone : (ys : List Spot) (x : Spot) → 1 ≤ length ys → depth_word x.block 0 ≡ 0 → kept_levels (ys ++ (x ∷ [])) ≡ kept_levels ys
kept_gone [] x l e = absurd (omega arith)
kept_gone (y ∷ ys) x l e = ap (λ zs. y ∷ zs) (upper_gone ys x e)

kept_stays : (ys : List Spot) (x : Spot) → 1 ≤ length ys → (depth_word x.block 0 ≡ 0 → ⊥) → kept_levels (ys ++ (x ∷ [])) ≡ ys ++ (x ∷ [])
kept_stays [] x l e = absurd (omega arith)
kept_stays (y ∷ ys) x l e = ap (λ zs. y ∷ zs) (upper_stays ys x e)

-- the loop over the levels: those above n do not stay
module _ (xs : List Spot) (levels n : ℕ) (long : length xs ≡ levels) (in_xs : n ≤ levels) where
  top : 1 < n → take n xs ≡ take (n - 1) xs ++ (get_or xs (n - 1) no_spot ∷ [])
  top some =
      let e : n ≡ suc (n - 1) = omega arith in
      ap (λ i. take i xs) e ∙ take-suc xs (n - 1) no_spot (omega arith)

  some_left : 1 < n → 1 ≤ length (take (n - 1) xs)
  some_left some = omega (arith, length-take-le (n - 1) xs (omega arith))

  pub keeps_turn : 1 < n → depth_word (get_or xs (n - 1) no_spot).block 0 ≡ 0 → length (kept_levels (take n xs)) ≡ length (kept_levels xs)
      → length (kept_levels (take (n - 1) xs)) ≡ length (kept_levels xs)
  keeps_turn some e a =
      sym (ap (λ ys. length (kept_levels ys)) (top some)
      ∙ ap length (kept_gone (take (n - 1) xs) (get_or xs (n - 1) no_spot) (some_left some) e)) ∙ a

  pub keeps_top : 1 < n → (depth_word (get_or xs (n - 1) no_spot).block 0 ≡ 0 → ⊥) → length (kept_levels (take n xs)) ≡ length (kept_levels xs)
      → n ≡ length (kept_levels xs)
  keeps_top some e a =
      sym (ap (λ ys. length (kept_levels ys)) (top some)
      ∙ ap length (kept_stays (take (n - 1) xs) (get_or xs (n - 1) no_spot) (some_left some) e)
      ∙ ap length (sym (top some)) ∙ length-take-le n xs (omega arith)) ∙ a

  pub keeps_last : n ≤ 1 → length (kept_levels (take n xs)) ≡ length (kept_levels xs) → n ≡ length (kept_levels xs)
  keeps_last few a = sym (one xs n few (omega arith)) ∙ a
    where
      one : (ys : List Spot) (i : ℕ) → i ≤ 1 → i ≤ length ys → length (kept_levels (take i ys)) ≡ i
      one ys zero p q = refl
      one [] (suc i) p q = absurd (omega arith)
      one (y ∷ ys) (suc zero) p q = refl
      one (y ∷ ys) (suc (suc i)) p q = absurd (omega arith)

pub keeps_start : (xs : List Spot) (levels : ℕ) → length xs ≡ levels → length (kept_levels (take levels xs)) ≡ length (kept_levels xs)
keeps_start xs levels e = ap (λ ys. length (kept_levels ys)) (take_all levels xs (omega arith))

-- the levels that stay are the lowest ones
over_none : (x : Spot) (xs : List Spot) → kept_over x [] ≡ take (length (kept_over x [])) (x ∷ xs)
over_none x xs =
    elim (ℕ_discrete (depth_word x.block 0) 0) [
      | yes e ↦ rw (over_gone x e) refl
      | no e ↦ rw (over_stays x e) refl
    ]

over_prefix : (x : Spot) (ys xs : List Spot) → ys ≡ take (length ys) xs → kept_over x ys ≡ take (length (kept_over x ys)) (x ∷ xs)
unfolding kept_over
over_prefix x [] xs e = over_none x xs
over_prefix x (y ∷ ys) xs e = ap (λ zs. x ∷ zs) e

upper_prefix : (xs : List Spot) → kept_upper xs ≡ take (length (kept_upper xs)) xs
upper_prefix [] = refl
upper_prefix (x ∷ xs) = over_prefix x (kept_upper xs) xs (upper_prefix xs)

pub kept_prefix : (xs : List Spot) → kept_levels xs ≡ take (length (kept_levels xs)) xs
kept_prefix [] = refl
kept_prefix (x ∷ xs) = ap (λ zs. x ∷ zs) (upper_prefix xs)

-- what is carried of all levels is carried of those that stay, where no more of them change
pub kept_carried : (s : List ℕ) (θ changed changed' : ℕ) (numbers blocks : List ℕ) (levels : ℕ) (xs : List Spot)
    → LevelsAre s θ changed numbers blocks levels xs → length (kept_levels xs) ≤ levels → changed' ≡ min changed (length (kept_levels xs))
    → (l : ℕ) → l < length (kept_levels xs) → LevelIs s θ changed' numbers blocks l (get_or (kept_levels xs) l no_spot)
kept_carried s θ changed changed' numbers blocks levels xs y in_all e l p =
    let same : get_or (kept_levels xs) l no_spot ≡ get_or xs l no_spot =
    ap (λ zs. get_or zs l no_spot) (kept_prefix xs) ∙ get_or-take (length (kept_levels xs)) xs l no_spot p in
    let z = y.each l (omega arith) in
    subst (LevelIs s θ changed' numbers blocks l) (sym same)
    (record { number = z.number; carried = λ q. z.carried (omega (arith, q, e)); stays = λ q. z.stays (omega (arith, q, e, p)) })

pub numbers_of_lem : (s : List ℕ) (θ changed : ℕ) (numbers blocks : List ℕ) (levels : ℕ) (xs : List Spot) → LevelsAre s θ changed numbers blocks levels xs
    → NumbersAre levels numbers xs
numbers_of_lem s θ changed numbers blocks levels xs y = record { long = y.long; each = λ l p. (y.each l p).number }

-- the roots that do not stay, from the top down
backwards_is : (ns ys : List ℕ) → backwards ns ys ≡ reverse_aux ys ns
backwards_is ns [] = refl
backwards_is ns (y ∷ ys) = backwards_is (y ∷ ns) ys

listed : (xs : List Spot) (ns : List ℕ) → length xs ≤ length ns → ((i : ℕ) → i < length xs → (get_or xs i no_spot).number ≡ word ns i)
    → map (λ x. x.number) xs ≡ take (length xs) ns
listed [] ns l a = refl
listed (x ∷ xs) [] l a = absurd (omega (arith, l))
listed (x ∷ xs) (n ∷ ns) l a = ap₂ (λ m ms. m ∷ ms) (a 0 (omega arith)) (listed xs ns (omega (arith, l)) (λ i p. a (suc i) (omega (arith, p))))

pub roots_are : (xs : List Spot) (levels : ℕ) (numbers : List ℕ) {kept : ℕ} → NumbersAre levels numbers xs → levels ≤ length numbers
    → kept ≡ length (kept_levels xs) → reverse (take (levels - kept) (drop kept numbers)) ≡ gone_roots xs
roots_are xs levels numbers {kept} y fits e =
    let long : length (drop kept xs) ≡ levels - kept = length-drop kept xs ∙ ap (λ n. n - kept) y.long in
    let same =
    listed (drop kept xs) (drop kept numbers) (omega (arith, long, length-drop kept numbers, fits))
    (λ i p.
    ap (λ (x : Spot). x.number) (get_or-drop kept xs i no_spot) ∙ y.each (kept + i) (omega (arith, long, p))
    ∙ sym (get_or-drop kept numbers i 0)) in
    ap (λ n. reverse (take n (drop kept numbers))) (sym long) ∙ ap reverse (sym same)
    ∙ sym (backwards_is [] (map (λ (x : Spot). x.number) (drop kept xs)))
    ∙ ap (λ n. backwards [] (map (λ (x : Spot). x.number) (drop n xs))) e
