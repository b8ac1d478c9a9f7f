-- Records that next gives one after another, and what a summary, a range and a range's second pass make of them.
--   Follows f s h strict k its == from the key k on, next gives the records its, one after another
--   key_after k its             == the key of the last record, k where there is none
--   strict_after strict its     == whether next from there on leaves out that key
use mathlib.Core.Path.{◌≡◌, refl, sym, ap, ◌∙◌}
use mathlib.Core.Bool.{Bool, true, false}
use mathlib.Core.List.{List, [], ◌∷◌, ◌++◌, append-nil}
use Prim.Native.Nat.{ℕ, zero, suc, ◌+◌, ◌-◌, ◌≤◌, ◌<◌}
use native.Mathlib.Decide.{ℕ_discrete}
use native.Mathlib.Nat.{zero-add}
use native.Mathlib.Omega.{arith}
use lib.ListN.{length, take}
use Rattle.lists.specs.Lists.{All}
use Rattle.store.specs.declared.Format.{Format}
use Rattle.store.specs.declared.Head.{Head}
use Rattle.store.specs.declared.Item.{Item}
use Rattle.totals.specs.declared.Totals.{Totals}
use Rattle.totals.specs.Totals.{updated_of, totals_of}
use Rattle.search.specs.Way.{Sought}
use Rattle.search.specs.Way.{Record, Nothing, Damaged}
use Rattle.search.specs.Next.{next_of}
use Rattle.scan.specs.Outcome.{Listing}
use Rattle.scan.specs.Outcome.{Summing}
use Rattle.scan.specs.Range.{Ranged, ended, broken, also, range_from, listing_of, firsts}
use Rattle.scan.specs.Summary.{done, sum_from}
use Rattle.scan.proofs.RangeLaws.{lead, lead_true, next_lead, outcome, same_count, outcome_also}
use Rattle.scan.proofs.RangeLaws.{from_damaged, from_nothing, from_passed, from_full, from_last, from_on_lem}
use Rattle.scan.proofs.RangeLaws.{adds_passed, adds_last, adds_on}
use Rattle.scan.proofs.FillLaws.{none_first, firsts_on, firsts_none, firsts_lost}

abbrev pub key_after : ℕ → List Item → ℕ
key_after k [] = k
key_after k (it ∷ its) = key_after it.key its

abbrev pub strict_after : Bool → List Item → Bool
strict_after strict [] = strict
strict_after strict (it ∷ its) = true

pub strict_after_lem : (strict : Bool) (its : List Item) → 1 ≤ length its → strict_after strict its ≡ true
strict_after_lem strict [] l = absurd (omega arith)
strict_after_lem strict (it ∷ its) l = refl

strict_on : (its : List Item) → strict_after true its ≡ true
strict_on [] = refl
strict_on (it ∷ its) = refl

after_upto : (k n : ℕ) (its : List Item) → All (λ it. it.key ≤ n) its → k ≤ n → key_after k its ≤ n
after_upto k n [] a l = l
after_upto k n (it ∷ its) a l = after_upto it.key n its a.1 a.0

-- records up to n whose last key is not below n
reaches : (n k : ℕ) (its : List Item) → All (λ it. it.key ≤ n) its → 1 ≤ length its → n ≤ key_after k its
    → key_after k its ≡ n
reaches n k [] a m e = absurd (omega arith)
reaches n k (it ∷ []) a m e = omega (arith, a.0)
reaches n k (it ∷ x ∷ its) a m e = reaches n it.key (x ∷ its) a.1 (omega arith) e

module _ (f : Format) (s : List ℕ) (h : Head) where
  abbrev pub Follows : Bool → ℕ → List Item → Type 0
  Follows strict k [] = Unit {0}
  Follows strict k (it ∷ its) = (next_of f s h strict k ≡ Record it) × Follows true it.key its

  -- a chain begins with a chain
  pub chain_front : (strict : Bool) (k : ℕ) (xs ys : List Item) → Follows strict k (xs ++ ys) → Follows strict k xs
  chain_front strict k [] ys c = tt
  chain_front strict k (x ∷ xs) ys c = (c.0, chain_front true x.key xs ys c.1)

  -- each key is above the one before, so they are few
  pub chain_few : (strict : Bool) (k : ℕ) (its : List Item) → Follows strict k its → k + length its ≤ key_after k its + lead strict
  chain_few strict k [] c = omega arith
  chain_few strict k (it ∷ its) c =
      omega (arith, next_lead f s h strict k it c.0, lead_true, chain_few true it.key its c.1)

  pub chain_few_on : (k : ℕ) (its : List Item) → Follows true k its → k + length its ≤ key_after k its
  chain_few_on k its c = omega (arith, lead_true, chain_few true k its c)

  -- and the last is the largest
  pub chain_below : (strict : Bool) (k n : ℕ) (its : List Item) → Follows strict k its → key_after k its < n → All (λ it. it.key < n) its
  chain_below strict k n [] c l = tt
  chain_below strict k n (it ∷ its) c l = (omega (arith, chain_few_on it.key its c.1), chain_below true it.key n its c.1 l)

  -- so turns enough for every key up to n are enough for a chain up to n, and for what follows it
  pub chain_fits : (strict : Bool) (k n fuel : ℕ) (its : List Item) → Follows strict k its → All (λ it. it.key ≤ n) its → k ≤ n
      → n + 1 + lead strict ≤ k + fuel → length its < fuel
  chain_fits strict k n fuel its c a l e = omega (arith, chain_few strict k its c, after_upto k n its a l)

  pub chain_left : (strict : Bool) (k n fuel : ℕ) (its : List Item) → Follows strict k its → length its ≤ fuel
      → n + 1 + lead strict ≤ k + fuel → n + 1 + lead true ≤ key_after k its + (fuel - length its)
  chain_left strict k n fuel its c l e = omega (arith, lead_true, chain_few strict k its c)

  -- every record before one of the chain is below it
  pub chain_before : (strict : Bool) (k : ℕ) (xs : List Item) (y : Item) (ys : List Item) → Follows strict k (xs ++ (y ∷ ys))
      → All (λ it. it.key < y.key) xs
  chain_before strict k [] y ys c = tt
  chain_before strict k (x ∷ xs) y ys c = (first x xs c.1, chain_before true x.key xs y ys c.1)
    where
      first : (x : Item) (xs : List Item) → Follows true x.key (xs ++ (y ∷ ys)) → x.key < y.key
      first x [] d = omega (arith, lead_true, next_lead f s h true x.key y d.0)
      first x (z ∷ zs) d = omega (arith, lead_true, next_lead f s h true x.key z d.0, first z zs d.1)

  -- a record with the key high is the last one that is not above high
  none_on : (n : ℕ) (its : List Item) → Follows true n its → All (λ it. it.key ≤ n) its → its ≡ []
  none_on n [] c b = refl
  none_on n (it ∷ its) c b = absurd (omega (arith, lead_true, b.0, next_lead f s h true n it c.0))

  -- a summary over a chain
  module _ (high today : ℕ) where
    abbrev Sum : ℕ → Bool → ℕ → Totals → Summing
    Sum = sum_from f s h high today

    -- records below high: the walk goes on behind them
    pub sum_over : (strict : Bool) (k fuel : ℕ) (t : Totals) (its : List Item) → Follows strict k its → All (λ it. it.key < high) its
        → length its ≤ fuel → Sum fuel strict k t ≡ Sum (fuel - length its) (strict_after strict its) (key_after k its) (totals_of t its today)
    unfolding totals_of
    sum_over strict k fuel t [] c b l =
        let e : fuel ≡ fuel - 0 = omega arith in
        ap (λ (n : ℕ). Sum n strict k t) e
    sum_over strict k fuel t (it ∷ its) c b l =
        let e : fuel - 1 - length its ≡ fuel - suc (length its) = omega arith in
        adds_on f s h high today fuel strict k t (omega arith) it c.0 b.0
        ∙ sum_over true it.key (fuel - 1) (updated_of t it today) its c.1 b.1 (omega arith)
        ∙ rw (e, strict_on its)

    pub sum_pass : (strict : Bool) (k fuel : ℕ) (t : Totals) (its : List Item) → Follows strict k its → 1 ≤ length its
        → All (λ it. it.key < high) its → length its ≤ fuel
        → Sum fuel strict k t ≡ Sum (fuel - length its) true (key_after k its) (totals_of t its today)
    sum_pass strict k fuel t its c n b l =
        sum_over strict k fuel t its c b l
        ∙ ap (λ (x : Bool). Sum (fuel - length its) x (key_after k its) (totals_of t its today)) (strict_after_lem strict its n)

    -- a record with the key high ends it
    pub sum_last : (strict : Bool) (k fuel : ℕ) (t : Totals) (its : List Item) → Follows strict k its → 1 ≤ length its
        → key_after k its ≡ high → length its ≤ fuel → Sum fuel strict k t ≡ done (totals_of t its today)
    unfolding totals_of
    sum_last strict k fuel t [] c n e l = absurd (omega arith)
    sum_last strict k fuel t (it ∷ []) c n e l = adds_last f s h high today fuel strict k t (omega arith) it c.0 e
    sum_last strict k fuel t (it ∷ x ∷ its) c n e l =
        let d = chain_few_on it.key (x ∷ its) c.1 in
        adds_on f s h high today fuel strict k t (omega arith) it c.0 (omega arith)
        ∙ sum_last true it.key (fuel - 1) (updated_of t it today) (x ∷ its) c.1 (omega arith) e (omega arith)

    -- and so does one above it
    pub sum_past : (strict : Bool) (k fuel : ℕ) (t : Totals) (its : List Item) (y : Item) (ys : List Item)
        → Follows strict k (its ++ (y ∷ ys)) → All (λ it. it.key ≤ high) its → high < y.key → length its < fuel
        → Sum fuel strict k t ≡ done (totals_of t its today)
    unfolding totals_of
    sum_past strict k fuel t [] y ys c b p l = adds_passed f s h high today fuel strict k t (omega arith) y c.0 p
    sum_past strict k fuel t (it ∷ its) y ys c b p l =
        elim (ℕ_discrete it.key high) [
          | yes e ↦
              let none = none_on it.key its (chain_front true it.key its (y ∷ ys) c.1) (rw e b.1) in
              adds_last f s h high today fuel strict k t (omega arith) it c.0 e ∙ rw none
          | no e ↦
              adds_on f s h high today fuel strict k t (omega arith) it c.0 (omega (arith, b.0))
              ∙ sum_past true it.key (fuel - 1) (updated_of t it today) its y ys c.1 b.1 p (omega arith)
        ]

    -- a chain that reaches high or passes it: its records up to high are all
    pub sum_stop : (strict : Bool) (k fuel : ℕ) (t : Totals) (xs ys : List Item) → Follows strict k (xs ++ ys) → 1 ≤ length xs + length ys
        → high ≤ key_after k (xs ++ ys) → All (λ it. it.key ≤ high) xs → All (λ it. high < it.key) ys → length xs < fuel
        → Sum fuel strict k t ≡ done (totals_of t xs today)
    sum_stop strict k fuel t xs [] c n e a b l =
        let d = chain_front strict k xs [] c in
        sum_last strict k fuel t xs d (omega arith) (reaches high k xs a (omega arith) (rw (append-nil xs) at e)) (omega arith)
    sum_stop strict k fuel t xs (y ∷ ys) c n e a b l = sum_past strict k fuel t xs y ys c a b.0 l

  -- a range over a chain, after c records
  module _ (high : ℕ) where
    abbrev Out : ℕ → ℕ → Bool → ℕ → ℕ → Listing
    Out c fuel strict k room = outcome c (range_from f s h high fuel strict k room)

    abbrev ends : ℕ → ℕ → Listing
    ends c more = record { ok = true; count = c; more = more }

    -- one turn
    module _ (c fuel : ℕ) (strict : Bool) (k room : ℕ) (left : 1 ≤ fuel) where
      out_suc : (r : Ranged) → range_from f s h high (suc (fuel - 1)) strict k room ≡ r → Out c fuel strict k room ≡ outcome c r
      out_suc r e =
          let z : fuel ≡ suc (fuel - 1) = omega arith in
          ap (λ (n : ℕ). Out c n strict k room) z ∙ ap (outcome c) e

      pub out_damaged : next_of f s h strict k ≡ Damaged → Out c fuel strict k room ≡ listing_of false c
      unfolding outcome listing_of
      out_damaged e = out_suc broken (from_damaged f s h high (fuel - 1) strict k room e)

      pub out_nothing : next_of f s h strict k ≡ Nothing → Out c fuel strict k room ≡ listing_of true c
      unfolding outcome listing_of
      out_nothing e = out_suc ended (from_nothing f s h high (fuel - 1) strict k room e) ∙ same_count 0 (omega arith)

      module _ (it : Item) (e : next_of f s h strict k ≡ Record it) where
        out_passed : high < it.key → Out c fuel strict k room ≡ ends c 0
        unfolding outcome
        out_passed p = out_suc ended (from_passed f s h high (fuel - 1) strict k room it e p) ∙ same_count 0 (omega arith)

        out_full : it.key ≤ high → room ≡ 0 → Out c fuel strict k room ≡ ends c it.key
        unfolding outcome
        out_full p z = out_suc _ (from_full f s h high (fuel - 1) strict k room it e p z) ∙ same_count it.key (omega arith)

        out_last : 1 ≤ room → it.key ≡ high → Out c fuel strict k room ≡ ends (c + 1) 0
        unfolding outcome
        out_last r p = out_suc _ (from_last f s h high (fuel - 1) strict k room it e (λ z. omega arith) p) ∙ same_count 0 (omega arith)

        out_on : 1 ≤ room → it.key < high → Out c fuel strict k room ≡ Out (c + 1) (fuel - 1) true it.key (room - 1)
        out_on r p =
            let x = range_from f s h high (fuel - 1) true it.key (room - 1) in
            out_suc (also it x) (from_on_lem f s h high (fuel - 1) strict k room it e (λ z. omega arith) p) ∙ outcome_also c it x

    -- records below high, with room for them: the walk goes on behind them
    pub range_over : (strict : Bool) (k c fuel room : ℕ) (its : List Item) → Follows strict k its → All (λ it. it.key < high) its
        → length its ≤ fuel → length its ≤ room
        → Out c fuel strict k room
        ≡ Out (c + length its) (fuel - length its) (strict_after strict its) (key_after k its) (room - length its)
    range_over strict k c fuel room [] w b l r =
        let x : c + 0 ≡ c = omega arith in
        let y : fuel - 0 ≡ fuel = omega arith in
        let z : room - 0 ≡ room = omega arith in
        rw (x, y, z)
    range_over strict k c fuel room (it ∷ its) w b l r =
        let x : c + 1 + length its ≡ c + suc (length its) = omega arith in
        let y : fuel - 1 - length its ≡ fuel - suc (length its) = omega arith in
        let z : room - 1 - length its ≡ room - suc (length its) = omega arith in
        out_on c fuel strict k room (omega arith) it w.0 (omega arith) b.0
        ∙ range_over true it.key (c + 1) (fuel - 1) (room - 1) its w.1 b.1 (omega arith) (omega arith)
        ∙ rw (x, y, z, strict_on its)

    pub range_pass : (strict : Bool) (k c fuel room : ℕ) (its : List Item) → Follows strict k its → 1 ≤ length its
        → All (λ it. it.key < high) its → length its ≤ fuel → length its ≤ room
        → Out c fuel strict k room ≡ Out (c + length its) (fuel - length its) true (key_after k its) (room - length its)
    range_pass strict k c fuel room its w n b l r =
        range_over strict k c fuel room its w b l r
        ∙ ap (λ (x : Bool). Out (c + length its) (fuel - length its) x (key_after k its) (room - length its)) (strict_after_lem strict its n)

    -- a record with the key high ends it
    pub range_last : (strict : Bool) (k c fuel room : ℕ) (its : List Item) → Follows strict k its → 1 ≤ length its
        → key_after k its ≡ high → length its ≤ fuel → length its ≤ room → Out c fuel strict k room ≡ ends (c + length its) 0
    range_last strict k c fuel room [] w n e l r = absurd (omega arith)
    range_last strict k c fuel room (it ∷ []) w n e l r = out_last c fuel strict k room (omega arith) it w.0 (omega arith) e
    range_last strict k c fuel room (it ∷ x ∷ its) w n e l r =
        let d = chain_few_on it.key (x ∷ its) w.1 in
        out_on c fuel strict k room (omega arith) it w.0 (omega arith) (omega arith)
        ∙ range_last true it.key (c + 1) (fuel - 1) (room - 1) (x ∷ its) w.1 (omega arith) e (omega arith) (omega arith)
        ∙ same_count 0 (omega arith)

    -- and so does one above it
    pub range_past : (strict : Bool) (k c fuel room : ℕ) (its : List Item) (y : Item) (ys : List Item)
        → Follows strict k (its ++ (y ∷ ys)) → All (λ it. it.key ≤ high) its → high < y.key → length its < fuel → length its ≤ room
        → Out c fuel strict k room ≡ ends (c + length its) 0
    range_past strict k c fuel room [] y ys w b p l r =
        out_passed c fuel strict k room (omega arith) y w.0 p ∙ same_count 0 (omega arith)
    range_past strict k c fuel room (it ∷ its) y ys w b p l r =
        elim (ℕ_discrete it.key high) [
          | yes e ↦
              let none = none_on it.key its (chain_front true it.key its (y ∷ ys) w.1) (rw e b.1) in
              out_last c fuel strict k room (omega arith) it w.0 (omega arith) e ∙ same_count 0 (omega (arith, ap length none))
          | no e ↦
              out_on c fuel strict k room (omega arith) it w.0 (omega arith) (omega (arith, b.0))
              ∙ range_past true it.key (c + 1) (fuel - 1) (room - 1) its y ys w.1 b.1 p (omega arith) (omega arith)
              ∙ same_count 0 (omega arith)
        ]

    -- a chain that reaches high or passes it: its records up to high are all
    pub range_stop : (strict : Bool) (k c fuel room : ℕ) (xs ys : List Item) → Follows strict k (xs ++ ys) → 1 ≤ length xs + length ys
        → high ≤ key_after k (xs ++ ys) → All (λ it. it.key ≤ high) xs → All (λ it. high < it.key) ys → length xs < fuel
        → length xs ≤ room → Out c fuel strict k room ≡ ends (c + length xs) 0
    range_stop strict k c fuel room xs [] w n e a b l r =
        range_last strict k c fuel room xs (chain_front strict k xs [] w) (omega arith)
        (reaches high k xs a (omega arith) (rw (append-nil xs) at e)) (omega arith) r
    range_stop strict k c fuel room xs (y ∷ ys) w n e a b l r = range_past strict k c fuel room xs y ys w a b.0 l r

    -- the first record for which there is no room is named
    pub range_full : (strict : Bool) (k c fuel room : ℕ) (its : List Item) (y : Item) (ys : List Item)
        → Follows strict k (its ++ (y ∷ ys)) → length its ≡ room → y.key ≤ high → length its < fuel
        → Out c fuel strict k room ≡ ends (c + room) y.key
    range_full strict k c fuel room [] y ys w r p l =
        out_full c fuel strict k room (omega arith) y w.0 p (sym r) ∙ same_count y.key (omega arith)
    range_full strict k c fuel room (it ∷ its) y ys w r p l =
        let b = (chain_before strict k (it ∷ its) y ys w).0 in
        out_on c fuel strict k room (omega arith) it w.0 (omega arith) (omega arith)
        ∙ range_full true it.key (c + 1) (fuel - 1) (room - 1) its y ys w.1 (omega arith) p (omega arith)
        ∙ same_count y.key (omega arith)

  -- the first records of a walk
  pub firsts_over : (strict : Bool) (k m : ℕ) (its : List Item) → Follows strict k its
      → firsts f s h strict k (length its + m) ≡ its ++ firsts f s h (strict_after strict its) (key_after k its) m
  firsts_over strict k m [] c = ap (firsts f s h strict k) (zero-add m)
  firsts_over strict k m (it ∷ its) c =
      let e : suc (length its) + m ≡ suc (length its + m) = omega arith in
      ap (firsts f s h strict k) e ∙ firsts_on f s h strict k (length its + m) it c.0
      ∙ ap (λ (l : List Item). it ∷ l) (firsts_over true it.key m its c.1)
      ∙ rw (strict_on its)

  pub firsts_chain : (strict : Bool) (k m : ℕ) (its : List Item) → Follows strict k its → 1 ≤ length its
      → firsts f s h strict k (length its + m) ≡ its ++ firsts f s h true (key_after k its) m
  firsts_chain strict k m its c n =
      firsts_over strict k m its c ∙ ap (λ (x : Bool). its ++ firsts f s h x (key_after k its) m) (strict_after_lem strict its n)

  pub firsts_part : (strict : Bool) (k n : ℕ) (its : List Item) → Follows strict k its → n ≤ length its
      → firsts f s h strict k n ≡ take n its
  firsts_part strict k zero its c l = none_first f s h strict k
  firsts_part strict k (suc n) [] c l = absurd (omega arith)
  firsts_part strict k (suc n) (it ∷ its) c l =
      firsts_on f s h strict k n it c.0 ∙ ap (λ (x : List Item). it ∷ x) (firsts_part true it.key n its c.1 (omega arith))

  -- as many as were asked for: there is a first one
  some_first : (strict : Bool) (k n : ℕ) (a : Sought) → next_of f s h strict k ≡ a → length (firsts f s h strict k (suc n)) ≡ suc n
      → (it : Item) × (next_of f s h strict k ≡ Record it)
  some_first strict k n Damaged e l = absurd (omega (arith, ap length (firsts_lost f s h strict k n e)))
  some_first strict k n Nothing e l = absurd (omega (arith, ap length (firsts_none f s h strict k n e)))
  some_first strict k n (Record it) e l = (it, e)

  pub firsts_full : (strict : Bool) (k n : ℕ) → length (firsts f s h strict k (suc n)) ≡ suc n
      → (it : Item) × (next_of f s h strict k ≡ Record it)
  firsts_full strict k n l = some_first strict k n (next_of f s h strict k) refl l
