-- Range and summary follow from next: on an ascending list each next is the record behind the one before, so the records read are those of
-- the list from low to high, and as keys rise by one at least, the turns are enough.
--   up_to high its     == the records with keys to high
--   cut_at n its       == a range of the records its with room for n
--   Follows its       == next of each of the records is the one behind it
--   Turns high fuel its == so many turns read the records up to high
--   NextIs f s h S    == next gives the first record of S above the key
--   Start low high S rest == the records rest are those of S from low on: a range or a summary up to high reads them
use mathlib.Core.Path.{◌≡◌, refl, sym, ap, ◌∙◌, subst}
use mathlib.Core.Bool.{Bool, true, false, ◌&&◌}
use mathlib.Core.List.{List, [], ◌∷◌, ◌++◌, append_assoc}
use mathlib.Core.Logic.{inl, inr}
use Prim.Native.Nat.{ℕ, zero, suc, ◌+◌, ◌-◌, ◌/◌, ◌^◌, ◌≤◌, ◌<◌}
use native.Mathlib.Decide.{dec_le, dec_lt, ℕ_discrete}
use native.Mathlib.Omega.{arith}
use lib.Dec.{leb, ltb, eqb}
use lib.ListN.{length, take, drop}
use lib.Seq.{take-nil, drop-nil}
use borrow.Author.Tests.{eqb-false, ltb-false, le-ltb, le-leb, lt-leb}
use Rattle.lists.specs.Lists.{All, filter}
use Rattle.lists.specs.Keyed.{Sorted, Lacks, Bounded}
use Rattle.lists.proofs.Cases.{bool_cases}
use Rattle.lists.proofs.ListLaws.{filter_true, filter_false, all_filter, all_map, pairwise_filter}
use Rattle.plot.specs.Plot.{lawful_day}
use Rattle.store.specs.declared.Format.{Format}
use Rattle.store.specs.declared.Head.{Head}
use Rattle.store.specs.declared.Item.{Item}
use Rattle.store.specs.Format.{width, words}
use Rattle.store.specs.Head.{head_of, head_rule}
use Rattle.page.specs.Page.{above}
use Rattle.totals.specs.declared.Totals.{Totals}
use Rattle.totals.specs.Totals.{no_totals, updated_of, totals_of}
use Rattle.search.specs.Find.{sought_reply}
use Rattle.search.specs.Next.{next_of}
use Rattle.scan.specs.Range.{Ranged, ended, also, range_from, ranged, listed, range_of}
use Rattle.scan.specs.Summary.{done, sum_from, summed, summing_reply, summary_of}
use Rattle.scan.proofs.RangeLaws.{from_nothing, from_passed, from_full, from_last, from_on_lem, adds_nothing, adds_passed, adds_last, adds_on}
use Rattle.page.specs.Schema.{key_of}
use Rattle.readings.specs.Listing.{first_where, first_of, within, first_key, find_in, next_in, ranged_in, range_in, summary_in}
use Rattle.readings.specs.Promises.{Sound}
use Rattle.lists.proofs.AppendLaws.{filter_none, filter_same, append_all, pairwise_right, pairwise_before}
use Rattle.readings.proofs.EarliestLaws.{totals_read}
use Rattle.readings.proofs.FirstLaws.{first_true, first_false, first_all, skip_below, first_beyond}

pub within_sorted : (low high : ℕ) (S : List Item) → Sorted key_of S → Sorted key_of (within low high S)
unfolding within
within_sorted low high S = pairwise_filter (λ x y. x.key < y.key) (λ it. leb low it.key && leb it.key high) S

pub within_all : (P : Item → Type 0) (low high : ℕ) (S : List Item) → All P S → All P (within low high S)
unfolding within
within_all P low high S = all_filter (λ it. leb low it.key && leb it.key high) P S

module _ (high : ℕ) where
  abbrev up_to : List Item → List Item
  up_to = filter (λ it. leb it.key high)

  up_to_in : (it : Item) (its : List Item) → it.key ≤ high → up_to (it ∷ its) ≡ it ∷ up_to its
  up_to_in it its p = filter_true (λ x. leb x.key high) it its (le-leb it.key high p)

  up_to_out : (it : Item) (its : List Item) → high < it.key → up_to (it ∷ its) ≡ up_to its
  up_to_out it its p = filter_false (λ x. leb x.key high) it its (lt-leb it.key high p)

  up_to_above : (k : ℕ) (its : List Item) → high ≤ k → All (λ it. k < it.key) its → up_to its ≡ []
  up_to_above k its p a =
      filter_none (λ x. leb x.key high) its
      (all_map (λ it. k < it.key) (λ it. leb it.key high ≡ false) its (λ it q. lt-leb it.key high (omega arith)) a)

abbrev cut_at : ℕ → List Item → Ranged
cut_at n its = record { ok = true; items = take n its; more = first_key (drop n its) }

cut_nil : (n : ℕ) → cut_at n [] ≡ ended
unfolding first_key
cut_nil n = rw (take-nil {A = Item} n, drop-nil {A = Item} n, first_key)

cut_full : (n : ℕ) (it : Item) (its : List Item) → n ≡ 0 → record { ok = true; items = []; more = it.key } ≡ cut_at n (it ∷ its)
unfolding first_key
cut_full zero it its e = refl
cut_full (suc n) it its e = absurd (omega arith)

cut_also : (n : ℕ) (it : Item) (its : List Item) → (n ≡ 0 → ⊥) → also it (cut_at (n - 1) its) ≡ cut_at n (it ∷ its)
unfolding also
cut_also zero it its q = absurd (q refl)
cut_also (suc n) it its q = let e : suc n - 1 ≡ n = omega arith in ap (λ m. also it (cut_at m its)) e

also_ended : (it : Item) → record { ok = true; items = it ∷ []; more = 0 } ≡ also it ended
unfolding also
also_ended it = refl

module _ (f : Format) (s : List ℕ) (h : Head) where
  abbrev Follows : List Item → Type 0
  Follows [] = Unit {0}
  Follows (it ∷ its) = (next_of f s h true it.key ≡ first_of its) × Follows its

  module _ (high : ℕ) where
    abbrev Turns : ℕ → List Item → Type 0
    Turns fuel its = (1 ≤ fuel) × All (λ it. high < it.key + fuel) its

    turns_on : (fuel n : ℕ) (it : Item) (its : List Item) → fuel ≤ n + 1 → Turns fuel (it ∷ its) → All (λ x. it.key < x.key) its
        → it.key < high
        → Turns n its
    turns_on fuel n it its e t a p =
        (omega (arith, t.1.0), all_map (λ x. it.key < x.key) (λ x. high < x.key + n) its (λ x q. omega (arith, t.1.0)) a)

    range_walk : (fuel : ℕ) (strict : Bool) (k room : ℕ) (its : List Item) → next_of f s h strict k ≡ first_of its → Follows its
        → Sorted key_of its
        → Turns fuel its → range_from f s h high fuel strict k room ≡ cut_at room (up_to high its)
    range_walk zero strict k room its n g o t = absurd (omega (arith, t.0))
    range_walk (suc fuel) strict k room [] n g o t = from_nothing f s h high fuel strict k room n ∙ sym (cut_nil room)
    range_walk (suc fuel) strict k room (it ∷ its) n g o t =
        elim (dec_lt high it.key) [
          | yes p ↦
              from_passed f s h high fuel strict k room it n p
              ∙ sym (ap (cut_at room) (up_to_out high it its p ∙ up_to_above high it.key its (omega arith) o.0) ∙ cut_nil room)
          | no p ↦
              rw (up_to_in high it its (omega arith))
              (elim (ℕ_discrete room 0) [
                | yes q ↦ from_full f s h high fuel strict k room it n (omega arith) q ∙ cut_full room it (up_to high its) q
                | no q ↦
                    elim (ℕ_discrete it.key high) [
                      | yes r ↦
                          from_last f s h high fuel strict k room it n q r
                          ∙ also_ended it
                          ∙ ap (also it)
                          (sym (ap (cut_at (room - 1)) (up_to_above high it.key its (omega arith) o.0) ∙ cut_nil (room - 1)))
                          ∙ cut_also room it (up_to high its) q
                      | no r ↦
                          let u : Turns fuel its = turns_on (suc fuel) fuel it its (omega arith) t o.0 (omega arith) in
                          from_on_lem f s h high fuel strict k room it n q (omega arith)
                          ∙ ap (also it) (range_walk fuel true it.key (room - 1) its g.0 g.1 o.1 u)
                          ∙ cut_also room it (up_to high its) q
                    ]
              ])
        ]

    sum_walk : (today fuel : ℕ) (strict : Bool) (k : ℕ) (t : Totals) (its : List Item) → next_of f s h strict k ≡ first_of its → Follows its
        → Sorted key_of its → Turns fuel its → sum_from f s h high today fuel strict k t ≡ done (totals_of t (up_to high its) today)
    unfolding totals_of
    sum_walk today fuel strict k t [] n g o l = adds_nothing f s h high today fuel strict k t l.0 n
    sum_walk today fuel strict k t (it ∷ its) n g o l =
        elim (dec_lt high it.key) [
          | yes p ↦
              adds_passed f s h high today fuel strict k t l.0 it n p
              ∙ sym (ap (λ x. done (totals_of t x today)) (up_to_out high it its p ∙ up_to_above high it.key its (omega arith) o.0))
          | no p ↦
              rw (up_to_in high it its (omega arith))
              (elim (ℕ_discrete it.key high) [
                | yes r ↦
                    adds_last f s h high today fuel strict k t l.0 it n r
                    ∙ sym (ap (λ x. done (totals_of (updated_of t it today) x today)) (up_to_above high it.key its (omega arith) o.0))
                | no r ↦
                    adds_on f s h high today fuel strict k t l.0 it n (omega arith)
                    ∙ sum_walk today (fuel - 1) true it.key (updated_of t it today) its g.0 g.1 o.1
                    (turns_on fuel (fuel - 1) it its (omega arith) l o.0 (omega arith))
              ])
        ]

-- an ascending list has the records below a key first
from_key : (low : ℕ) (S : List Item) → Sorted key_of S
    → (front : List Item) × (rest : List Item) × (S ≡ front ++ rest) × All (λ x. x.key < low) front × All (λ x. low ≤ x.key) rest
from_key low [] s = ([], [], refl, tt, tt)
from_key low (x ∷ xs) s =
    elim (dec_le low x.key) [
      | yes p ↦ ([], x ∷ xs, refl, tt, (p, all_map (λ y. x.key < y.key) (λ y. low ≤ y.key) xs (λ y q. omega arith) s.0))
      | no p ↦
          let r = from_key low xs s.1 in
          (x ∷ r.0, r.1, ap (λ (l : List Item). x ∷ l) r.2, (omega arith, r.3), r.4)
    ]

within_rest : (low high : ℕ) (front rest : List Item) → All (λ x. x.key < low) front → All (λ x. low ≤ x.key) rest
    → within low high (front ++ rest) ≡ up_to high rest
unfolding within
within_rest low high [] rest a b =
    filter_same (λ x. leb low x.key && leb x.key high) (λ x. leb x.key high) rest
    (all_map (λ x. low ≤ x.key) (λ x. (leb low x.key && leb x.key high) ≡ leb x.key high) rest
    (λ x p. rw (le-leb low x.key p)) b)
within_rest low high (x ∷ front) rest a b =
    filter_false (λ y. leb low y.key && leb y.key high) x (front ++ rest) (rw (lt-leb low x.key a.0))
    ∙ within_rest low high front rest a.1 b

module _ (f : Format) (s : List ℕ) (h : Head) (low high : ℕ) where
  record Start (S rest : List Item) : Type 0 where
    next : next_of f s h false low ≡ first_of rest
    follows : Follows f s h rest
    ascends : Sorted key_of rest
    turns : Turns f s h high (high + 1 - low + 1) rest
    records : within low high S ≡ up_to high rest

module _ (f : Format) (s : List ℕ) (h : Head) (S : List Item) where
  abbrev pub NextIs : Type 0
  NextIs = (strict : Bool) (k : ℕ) → k < 2 ^ width f → next_of f s h strict k ≡ first_where (λ it. above strict k it.key) S

  module _ (next_is : NextIs) (sorted : Sorted key_of S) (bounded : Bounded key_of (2 ^ width f) S) where
    next_after : (front : List Item) (it : Item) (its : List Item) → S ≡ front ++ (it ∷ its) → next_of f s h true it.key ≡ first_of its
    unfolding above
    next_after front it its e =
        let ascends : Sorted key_of (front ++ (it ∷ its)) = subst (Sorted key_of) e sorted in
        let bounds : Bounded key_of (2 ^ width f) (front ++ (it ∷ its)) = subst (Bounded key_of (2 ^ width f)) e bounded in
        let test : Item → Bool = λ x. above true it.key x.key in
        next_is true it.key (append_all (λ x. x.key < 2 ^ width f) front (it ∷ its) bounds).1.0
        ∙ ap (first_where test) e
        ∙ skip_below true it.key front (it ∷ its) (pairwise_before (λ x y. x.key < y.key) front it its ascends)
        ∙ first_false test it its (le-ltb it.key it.key (omega arith))
        ∙ first_beyond true it.key its (pairwise_right (λ x y. x.key < y.key) front (it ∷ its) ascends).0

    follows_on : (front its : List Item) → S ≡ front ++ its → Follows f s h its
    follows_on front [] e = tt
    follows_on front (it ∷ its) e =
        (next_after front it its e, follows_on (front ++ (it ∷ [])) its (e ∙ sym (append_assoc front (it ∷ []) its)))

    module _ (low high : ℕ) where
      start_at : low ≤ high → high < 2 ^ width f → (front rest : List Item) → S ≡ front ++ rest → All (λ x. x.key < low) front
          → All (λ x. low ≤ x.key) rest → Start f s h low high S rest
      unfolding above
      start_at p q front rest e a b =
          let test : Item → Bool = λ x. above false low x.key in
          record {
            next =
                next_is false low (omega arith)
                ∙ ap (first_where test) e
                ∙ skip_below false low front rest a
                ∙ first_all test rest (all_map (λ x. low ≤ x.key) (λ x. test x ≡ true) rest (λ x l. le-leb low x.key l) b);
            follows = follows_on front rest e;
            ascends = pairwise_right (λ x y. x.key < y.key) front rest (subst (Sorted key_of) e sorted);
            turns = (omega arith, all_map (λ x. low ≤ x.key) (λ x. high < x.key + (high + 1 - low + 1)) rest (λ x l. omega arith) b);
            records = ap (within low high) e ∙ within_rest low high front rest a b;
          }

      start : low ≤ high → high < 2 ^ width f → (rest : List Item) × Start f s h low high S rest
      start p q = let r = from_key low S sorted in (r.1, start_at p q r.0 r.1 r.2 r.3 r.4)

    pub ranged_is : (low high room : ℕ) → low ≤ high → high < 2 ^ width f → ranged f s h low high room ≡ ranged_in S low high room
    unfolding ranged ranged_in
    ranged_is low high room p q =
        let r = start low high p q in
        range_walk f s h high (high + 1 - low + 1) false low room r.0 r.1.next r.1.follows r.1.ascends r.1.turns
        ∙ ap (cut_at room) (sym r.1.records)

    summed_is : (low high today : ℕ) → low ≤ high → high < 2 ^ width f
        → summed f s h low high today ≡ done (totals_of no_totals (within low high S) today)
    unfolding summed
    summed_is low high today p q =
        let r = start low high p q in
        sum_walk f s h high today (high + 1 - low + 1) false low no_totals r.0 r.1.next r.1.follows r.1.ascends r.1.turns
        ∙ ap (λ (x : List Item). done (totals_of no_totals x today)) (sym r.1.records)

-- the replies, of a store that keeps the head rule
module _ (f : Format) (s : List ℕ) (S : List Item) where
  module _ (next_is : NextIs f s (head_of s) S) (sorted : Sorted key_of S) (bounded : Bounded key_of (2 ^ width f) S) where
    pub range_is : head_rule f s ≡ true → (low high : ℕ) (out : List ℕ) → high < 2 ^ width f
        → range_of f s low high out ≡ range_in f S low high out
    unfolding range_of range_in
    range_is rule low high out q =
        elim (bool_cases (ltb high low)) [
          | inl e ↦ rw (rule, e, range_of, range_in)
          | inr e ↦ rw (rule, e, range_of, range_in)
              (ap (listed f out)
              (ranged_is f s (head_of s) S next_is sorted bounded low high (length out / words f) (ltb-false high low e) q))
        ]

    pub summary_is : head_rule f s ≡ true → Lacks key_of 0 S → (low high today : ℕ) → high < 2 ^ width f
        → summary_of f s low high today ≡ summary_in S low high today
    unfolding summary_of summary_in
    summary_is rule nonzero low high today q =
        elim (bool_cases (ltb high low)) [
          | inl e ↦ rw (rule, e, summary_of, summary_in)
          | inr e ↦
              elim (bool_cases (lawful_day today)) [
                | inl d ↦ rw (rule, e, d, summary_of, summary_in)
                    (ap summing_reply (summed_is f s (head_of s) S next_is sorted bounded low high today (ltb-false high low e) q)
                    ∙ totals_read (within low high S) today (within_sorted low high S sorted)
                    (within_all (λ it. it.key ≡ 0 → ⊥) low high S nonzero))
                | inr d ↦ rw (rule, e, d, summary_of, summary_in)
              ]
        ]

-- no reply read off a list is that of a broken head or of damage
sound_at : (n : ℕ) → eqb n 3 ≡ false → eqb n 9 ≡ false → Sound n
sound_at n p q = record { head = eqb-false n 3 p; blocks = eqb-false n 9 q }

first_sound : (test : Item → Bool) (its : List Item) → Sound (sought_reply (first_where test its)).number
unfolding first_where
first_sound test [] = sound_at 1 refl refl
first_sound test (it ∷ its) =
    elim (bool_cases (test it)) [
      | inl e ↦ rw (first_true test it its e) (sound_at 0 refl refl)
      | inr e ↦ rw (first_false test it its e) (first_sound test its)
    ]

pub find_sound : (S : List Item) (k : ℕ) → Sound (find_in S k).number
unfolding find_in
find_sound S k = first_sound _ S

pub next_sound : (S : List Item) (k : ℕ) → Sound (next_in S k).number
unfolding next_in
next_sound S k = first_sound _ S

pub range_sound : (f : Format) (S : List Item) (low high : ℕ) (out : List ℕ) → Sound (range_in f S low high out).reply.number
unfolding range_in ranged_in listed
range_sound f S low high out =
    elim (bool_cases (ltb high low)) [
      | inl e ↦ rw (e, range_in) (sound_at 7 refl refl)
      | inr e ↦ rw (e, range_in) (sound_at 0 refl refl)
    ]

pub summary_sound : (S : List Item) (low high today : ℕ) → Sound (summary_in S low high today).number
unfolding summary_in
summary_sound S low high today =
    elim (bool_cases (ltb high low)) [
      | inl e ↦ rw (e, summary_in) (sound_at 7 refl refl)
      | inr e ↦
          elim (bool_cases (lawful_day today)) [
            | inl d ↦ rw (e, d, summary_in) (sound_at 0 refl refl)
            | inr d ↦ rw (e, d, summary_in) (sound_at 6 refl refl)
          ]
    ]
