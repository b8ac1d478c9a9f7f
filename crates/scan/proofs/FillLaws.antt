-- What the second pass of a range writes: words of pages, copied to the end of those before. And the ways out of range.
use mathlib.Core.Path.{◌≡◌, refl, sym, ap, ◌∙◌}
use mathlib.Core.Bool.{Bool, true, false, false≢true}
use mathlib.Core.Logic.{inl, inr}
use mathlib.Core.List.{List, [], ◌∷◌, ◌++◌, append_assoc, append-nil}
use Prim.Native.Nat.{ℕ, zero, suc, ◌+◌, ◌-◌, ◌*◌, ◌/◌, ◌≤◌, ◌<◌}
use native.Mathlib.Decide.{dec_lt, ℕ_discrete}
use native.Mathlib.Omega.{arith}
use Rattle.std.specs.Prelude.{Result, Ok}
use Rattle.answers.specs.declared.Refusal.{Refusal}
use lib.ListN.{length, take, drop, length-append, length-take, length-drop}
use lib.Seq.{take_at, drop_at, take-length, drop-length, drop-drop}
use native.Mathlib.Nat.{mul_comm, le-div_iff_mul-le}
use borrow.Author.Tests.{lt-ltb, le-ltb}
use Rattle.lists.specs.Lists.{part}
use Rattle.lists.proofs.Cases.{bool_cases}
use Rattle.lists.proofs.Parts.{part_in_lem, length_over}
use Rattle.store.specs.Head.{head_of, head_rule}
use Rattle.store.specs.declared.Format.{Format}
use Rattle.store.specs.declared.Head.{Head}
use Rattle.store.specs.declared.Item.{Item}
use Rattle.store.specs.Format.{words}
use Rattle.search.specs.Way.{Sought}
use Rattle.search.specs.Way.{Record, Nothing, Damaged}
use Rattle.search.specs.Next.{next_of}
use Rattle.search.proofs.WayLaws.{answered_ok}
use Rattle.scan.specs.Outcome.{listing_result}
use Rattle.page.specs.Page.{flat}
use Rattle.page.proofs.Flat.{plot_words, length_flat}
use Rattle.scan.specs.Range.{Ranged, also, range_from, ranged, listing, firsts, range_refused, range_reply, listed, range_of}
use Rattle.scan.proofs.RangeLaws.{from_damaged, from_nothing, from_passed, from_full, from_last, from_on_lem}

-- the first records of a walk, one by one
module _ (f : Format) (s : List ℕ) (h : Head) where
  pub none_first : (strict : Bool) (k : ℕ) → firsts f s h strict k 0 ≡ []
  unfolding firsts
  none_first strict k = refl

  pub firsts_on : (strict : Bool) (k n : ℕ) (it : Item) → next_of f s h strict k ≡ Record it
      → firsts f s h strict k (suc n) ≡ it ∷ firsts f s h true it.key n
  unfolding firsts
  firsts_on strict k n it e = rw (e, firsts)

  pub firsts_none : (strict : Bool) (k n : ℕ) → next_of f s h strict k ≡ Nothing → firsts f s h strict k (suc n) ≡ []
  unfolding firsts
  firsts_none strict k n e = rw (e, firsts)

  pub firsts_lost : (strict : Bool) (k n : ℕ) → next_of f s h strict k ≡ Damaged → firsts f s h strict k (suc n) ≡ []
  unfolding firsts
  firsts_lost strict k n e = rw (e, firsts)

pub part_room : (w at : ℕ) (out : List ℕ) → at + w ≤ length out → w ≤ length (take (length out - at) (drop at out))
part_room w at out h = simp (length-take, length-drop) (omega arith)

pub length_filled : (f : Format) (its : List Item) (m : ℕ) (out t : List ℕ) → length its ≡ m → words f * m ≤ length out
    → t ≡ flat f its ++ drop (words f * m) out → length t ≡ length out
length_filled f its m out t e h q =
    length_over (words f * m) (flat f its) t out (length_flat f its ∙ ap (λ n. words f * n) e) h q

-- elements X written at the end of those that stand before
pub append_at : (at : ℕ) (pre X out first last : List ℕ) → out ≡ pre ++ drop at first → length pre ≡ at
    → last ≡ X ++ drop (length X) (take (length out - at) (drop at out))
    → take at out ++ (last ++ drop (length out - at) (drop at out)) ≡ (pre ++ X) ++ drop (at + length X) first
append_at at pre X out first last o n e =
    let B = drop at first in
    let front : take at out ≡ pre = ap (take at) o ∙ take_at pre B at n in
    let back : drop at out ≡ B = ap (drop at) o ∙ drop_at pre B at n in
    let rest : length out - at ≡ length B = omega (arith, ap length o, length-append pre B) in
    let whole : take (length out - at) (drop at out) ≡ B = rw (back, rest) (take-length B) in
    let none : drop (length out - at) (drop at out) ≡ [] = rw (back, rest) (drop-length B) in
    rw (front, none, e, whole, ← drop-drop (length X) at first) (simp (append-nil, append_assoc))

-- words of a page, from number a on, copied over the front of d
pub copied_part : (pg d ys : List ℕ) (a n : ℕ) → a + n ≤ length pg → ys ≡ take (a + n - a) (drop a pg)
    → ys ++ drop (n - 0) d ≡ part pg a n ++ drop n d
copied_part pg d ys a n l e =
    let z : n - 0 ≡ n = omega arith in
    let m : a + n - a ≡ n = omega arith in
    rw (e, m, z, part_in_lem pg a n l) refl

-- a range's records are the first ones of its walk
module _ (f : Format) (s : List ℕ) (h : Head) (high : ℕ) where
  abbrev Same : ℕ → Bool → ℕ → ℕ → Type 0
  Same fuel strict k room =
      (range_from f s h high fuel strict k room).ok ≡ true
      → firsts f s h strict k (length (range_from f s h high fuel strict k room).items) ≡ (range_from f s h high fuel strict k room).items

  same_on : (fuel : ℕ) (strict : Bool) (k room : ℕ) (it : Item) → next_of f s h strict k ≡ Record it
      → Same fuel true it.key (room - 1) → Same (suc fuel) strict k room
  unfolding also
  same_on fuel strict k room it e ih =
      elim (dec_lt high it.key) [
        | yes p ↦ rw (from_passed f s h high fuel strict k room it e p) (λ o. none_first f s h strict k)
        | no p ↦
            elim (ℕ_discrete room 0) [
              | yes q ↦ rw (from_full f s h high fuel strict k room it e (omega arith) q) (λ o. none_first f s h strict k)
              | no q ↦
                  elim (ℕ_discrete it.key high) [
                    | yes r ↦ rw (from_last f s h high fuel strict k room it e q r)
                        (λ o. firsts_on f s h strict k 0 it e ∙ ap (λ (l : List Item). it ∷ l) (none_first f s h true it.key))
                    | no r ↦ rw (from_on_lem f s h high fuel strict k room it e q (omega arith))
                        (λ o. firsts_on f s h strict k (length (range_from f s h high fuel true it.key (room - 1)).items) it e
                        ∙ ap (λ (l : List Item). it ∷ l) (ih o))
                  ]
            ]
      ]

  same_step : (fuel : ℕ) (strict : Bool) (k room : ℕ) (a : Sought) → next_of f s h strict k ≡ a
      → ((it : Item) → Same fuel true it.key (room - 1)) → Same (suc fuel) strict k room
  same_step fuel strict k room Damaged e ih = rw (from_damaged f s h high fuel strict k room e) (λ o. absurd (false≢true o))
  same_step fuel strict k room Nothing e ih = rw (from_nothing f s h high fuel strict k room e) (λ o. none_first f s h strict k)
  same_step fuel strict k room (Record it) e ih = same_on fuel strict k room it e (ih it)

  pub range_firsts : (fuel : ℕ) (strict : Bool) (k room : ℕ) → Same fuel strict k room
  unfolding range_from
  range_firsts zero strict k room o = none_first f s h strict k
  range_firsts (suc fuel) strict k room o =
      same_step fuel strict k room (next_of f s h strict k) refl (λ it. range_firsts fuel true it.key (room - 1)) o

-- the outcome without the records
pub listing_ok : (r : Ranged) → (listing r).ok ≡ r.ok
unfolding listing
listing_ok r =
    elim (bool_cases r.ok) [
      | inl e ↦ rw (e, listing)
      | inr e ↦ rw (e, listing)
    ]

pub listing_count : (r : Ranged) → r.ok ≡ true → ((listing r).count ≡ length r.items) × ((listing r).more ≡ r.more)
unfolding listing
listing_count r e = (rw (e, listing), rw (e, listing))

-- the ways out of range
module _ (f : Format) (s : List ℕ) (low high : ℕ) (out : List ℕ) where
  pub range_head : head_rule f s ≡ false → (range_refused 3 ≡ (range_of f s low high out).reply) × (out ≡ (range_of f s low high out).words)
  unfolding range_of
  range_head r = (rw (r, range_of), rw (r, range_of))

  pub range_order : head_rule f s ≡ true → high < low
      → (range_refused 7 ≡ (range_of f s low high out).reply) × (out ≡ (range_of f s low high out).words)
  unfolding range_of
  range_order r o = (rw (r, lt-ltb high low o, range_of), rw (r, lt-ltb high low o, range_of))

  abbrev R : Ranged
  R = ranged f s (head_of s) low high (length out / words f)

  range_given : head_rule f s ≡ true → low ≤ high → range_of f s low high out ≡ listed f out R
  unfolding range_of
  range_given r o = rw (r, le-ltb high low o, range_of)

  pub range_damaged : head_rule f s ≡ true → low ≤ high → (listing R).ok ≡ false
      → (range_refused 9 ≡ (range_of f s low high out).reply) × (out ≡ (range_of f s low high out).words)
  unfolding listed
  range_damaged r o d =
      let k : R.ok ≡ false = sym (listing_ok R) ∙ d in
      rw (range_given r o) (rw (k, listed), rw (k, listed))

  -- the outcome that was found
  module _ (r : head_rule f s ≡ true) (o : low ≤ high) {l : Rattle.scan.specs.declared.Listing.Listing}
      {x : Result Rattle.scan.specs.declared.Listing.Listing Refusal} (is : x ≡ Ok l) (e : x ≡ listing_result (listing R)) where
    found : ((listing R).ok ≡ true) × (l ≡ record { count = (listing R).count; more = (listing R).more })
    found = answered_ok (listing R).ok (sym is ∙ e)

    sound : R.ok ≡ true
    sound = sym (listing_ok R) ∙ found.0

    pub range_counted : l.count ≡ length R.items
    range_counted = ap (λ x. x.count) found.1 ∙ (listing_count R sound).0

    range_walk : firsts f s (head_of s) false low l.count ≡ R.items
    unfolding ranged
    range_walk = rw range_counted (range_firsts f s (head_of s) high (high + 1 - low + 1) false low (length out / words f) sound)

    pub range_length : length (firsts f s (head_of s) false low l.count) ≡ l.count
    range_length = ap length range_walk ∙ sym range_counted

    pub range_listed : (t : List ℕ) → t ≡ flat f (firsts f s (head_of s) false low l.count) ++ drop (words f * l.count) out
        → (range_reply (Ok l) ≡ (range_of f s low high out).reply) × (t ≡ (range_of f s low high out).words)
    unfolding listed
    range_listed t w =
        let m : l.more ≡ R.more = ap (λ x. x.more) found.1 ∙ (listing_count R sound).1 in
        rw (range_given r o) (
          rw (sound, m, range_counted, listed),
          w ∙ rw (range_walk, range_counted, sound, listed),
        )

-- as many records as fit
pub records_fit : (f : Format) (L n : ℕ) → n ≤ L / words f → words f * n ≤ L
records_fit f L n h =
    let w : 0 < words f = omega (arith, plot_words f) in
    rw (mul_comm (words f) n) ((le-div_iff_mul-le w).0 h)
