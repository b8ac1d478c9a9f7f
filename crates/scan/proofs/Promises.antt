-- The promises of specs/Promises.antt: each turn's record is above the one before, and every refusal is written as zeros.
--   Runs f s h high strict k room r == r is a range from the key k on: its records ascend and fit, and it names no key above high
--   Kept strict k t                 == P holds of the largest key passed, where a walk stands at the key k, and of the totals t
use mathlib.Core.Path.{◌≡◌, refl, sym, subst}
use mathlib.Core.Bool.{Bool, true, false}
use mathlib.Core.List.{List, [], ◌++◌}
use Prim.Native.Nat.{ℕ, zero, suc, ◌+◌, ◌-◌, ◌*◌, ◌/◌, ◌≤◌, ◌<◌}
use native.Mathlib.Decide.{dec_lt, ℕ_discrete}
use native.Mathlib.Omega.{arith}
use lib.Dec.{ltb, eqb}
use lib.ListN.{length, drop}
use lib.Seq.{drop_at}
use borrow.Author.Tests.{ltb-false}
use Rattle.lists.specs.Lists.{All}
use Rattle.lists.specs.Keyed.{Sorted}
use Rattle.lists.proofs.Cases.{by_cases}
use Rattle.lists.proofs.ListLaws.{all_map}
use Rattle.plot.specs.Plot.{lawful_day}
use Rattle.store.specs.declared.Format.{Format}
use Rattle.store.specs.declared.Head.{Head}
use Rattle.store.specs.declared.Item.{Item}
use Rattle.store.specs.Format.{words}
use Rattle.store.specs.Head.{head_of, head_rule}
use Rattle.page.specs.Page.{flat}
use Rattle.page.proofs.Flat.{length_flat}
use Rattle.page.proofs.Laws.{lawful_key}
use Rattle.totals.specs.declared.Totals.{Totals}
use Rattle.totals.specs.Totals.{no_totals, earlier, updated_of}
use Rattle.totals.proofs.Laws.{updated_taken, updated_kept, updated_count}
use Rattle.search.specs.Way.{Sought}
use Rattle.search.specs.Way.{Record, Nothing, Damaged}
use Rattle.search.specs.Next.{next_of}
use Rattle.search.proofs.NextLaws.{next_lawful}
use Rattle.scan.specs.Range.{Ranged, ended, broken, also, range_from, ranged, range_refused, After, listed, range_of}
use Rattle.scan.specs.Summary.{SummaryReply, damage, sum_from, summed, summary_refused, summary_of}
use Rattle.scan.specs.Promises.{RangeAscends, RangeMore, RangeOnward, RangeInside, SummaryKey, SummaryCount}
use Rattle.scan.specs.Promises.{RangeRefusals, SummaryRefusals}
use Rattle.scan.proofs.RangeLaws.{lead, lead_false, lead_true, next_lead}
use Rattle.scan.proofs.RangeLaws.{from_damaged, from_nothing, from_passed, from_full, from_last, from_on_lem}
use Rattle.scan.proofs.FillLaws.{length_filled, records_fit}

-- no record has key 0
next_positive : (f : Format) (s : List ℕ) (h : Head) (strict : Bool) (k : ℕ) (it : Item) → next_of f s h strict k ≡ Record it → 1 ≤ it.key
next_positive f s h strict k it e = (lawful_key f it (next_lawful f s h strict k it e)).0

sub_lead : (k : ℕ) → k ≡ k - lead true
sub_lead k = omega (arith, lead_true)

module _ (f : Format) (s : List ℕ) (h : Head) (high : ℕ) where
  abbrev From : Bool → ℕ → Item → Type 0
  From strict k it = (k + 1 ≤ it.key + lead strict) × (it.key ≤ high) × (1 ≤ it.key)

  record Runs (strict : Bool) (k room : ℕ) (r : Ranged) : Type 0 where
    sorted : Sorted (λ (it : Item). it.key) r.items
    from : All (From strict k) r.items
    more : r.more ≤ high
    fits : length r.items ≤ room
    few : k - lead strict ≤ high → k - lead strict + length r.items ≤ high
    behind : (r.more ≡ 0 → ⊥) → (k - lead strict + length r.items < r.more) × (length r.items ≡ room)

  -- no record, and no key not written or one behind no room
  runs_none : (strict : Bool) (k room : ℕ) (r : Ranged) → r.items ≡ [] → r.more ≤ high
      → ((r.more ≡ 0 → ⊥) → (k - lead strict < r.more) × (room ≡ 0)) → Runs strict k room r
  runs_none strict k room r e l b =
      record {
        sorted = rw e tt;
        from = rw e tt;
        more = l;
        fits = rw e (omega arith);
        few = λ n. rw e (omega arith);
        behind = λ n. let c = b n in rw e (omega arith, omega arith);
      }

  -- a record in front
  runs_more : (strict : Bool) (k room : ℕ) (it : Item) (r : Ranged) → From strict k it → (room ≡ 0 → ⊥)
      → Runs true it.key (room - 1) r → Runs strict k room (also it r)
  unfolding also
  runs_more strict k room it r l n a =
      record {
        sorted = (
          all_map (From true it.key) (λ x. it.key < x.key) r.items (λ x g. omega (arith, lead_true, g.0)) a.from,
          a.sorted,
        );
        from = (
          l,
          all_map (From true it.key) (From strict k) r.items (λ x g. (omega (arith, lead_true, l.0, g.0), g.1, g.2)) a.from,
        );
        more = a.more;
        fits = omega (arith, a.fits);
        few = λ m. let c = a.few (omega (arith, lead_true, l.1)) in omega (arith, lead_true, l.0, l.2);
        behind = λ m. let c = a.behind m in (omega (arith, lead_true, l.0, l.2, c.0), omega (arith, c.1));
      }

  record_on : (fuel : ℕ) (strict : Bool) (k room : ℕ) (it : Item) → next_of f s h strict k ≡ Record it
      → Runs true it.key (room - 1) (range_from f s h high fuel true it.key (room - 1))
      → Runs strict k room (range_from f s h high (suc fuel) strict k room)
  unfolding also
  record_on fuel strict k room it e ih =
      let l = next_lead f s h strict k it e in
      let o = next_positive f s h strict k it e in
      elim (dec_lt high it.key) [
        | yes p ↦ rw (from_passed f s h high fuel strict k room it e p) (runs_none strict k room ended refl (omega arith) (λ n. absurd (n refl)))
        | no p ↦
            elim (ℕ_discrete room 0) [
              | yes q ↦
                  rw (from_full f s h high fuel strict k room it e (omega arith) q)
                  (runs_none strict k room _ refl (omega arith) (λ n. (omega arith, q)))
              | no q ↦
                  elim (ℕ_discrete it.key high) [
                    | yes r ↦
                        rw (from_last f s h high fuel strict k room it e q r)
                        (runs_more strict k room it ended (l, omega arith, o) q
                        (runs_none true it.key (room - 1) ended refl (omega arith) (λ n. absurd (n refl))))
                    | no r ↦
                        rw (from_on_lem f s h high fuel strict k room it e q (omega arith))
                        (runs_more strict k room it (range_from f s h high fuel true it.key (room - 1)) (l, omega arith, o) q ih)
                  ]
            ]
      ]

  step_on : (fuel : ℕ) (strict : Bool) (k room : ℕ) (a : Sought) → next_of f s h strict k ≡ a
      → ((it : Item) → Runs true it.key (room - 1) (range_from f s h high fuel true it.key (room - 1)))
      → Runs strict k room (range_from f s h high (suc fuel) strict k room)
  step_on fuel strict k room Damaged e ih =
      rw (from_damaged f s h high fuel strict k room e) (runs_none strict k room broken refl (omega arith) (λ n. absurd (n refl)))
  step_on fuel strict k room Nothing e ih =
      rw (from_nothing f s h high fuel strict k room e) (runs_none strict k room ended refl (omega arith) (λ n. absurd (n refl)))
  step_on fuel strict k room (Record it) e ih = record_on fuel strict k room it e (ih it)

  runs : (fuel : ℕ) (strict : Bool) (k room : ℕ) → Runs strict k room (range_from f s h high fuel strict k room)
  unfolding range_from
  runs zero strict k room = runs_none strict k room ended refl (omega arith) (λ n. absurd (n refl))
  runs (suc fuel) strict k room = step_on fuel strict k room (next_of f s h strict k) refl (λ it. runs fuel true it.key (room - 1))

  range_runs : (low room : ℕ) → Runs false low room (ranged f s h low high room)
  unfolding ranged
  range_runs low room = runs (high + 1 - low + 1) false low room

pub range_ascends : RangeAscends
range_ascends f s h low high room =
    let a = range_runs f s h high low room in
    let its = (ranged f s h low high room).items in
    let within : Item → Type 0 = λ it. (low ≤ it.key) × (it.key ≤ high) in
    (a.sorted, all_map (From f s h high false low) within its (λ x g. (omega (arith, lead_false, g.0), g.1)) a.from)

pub range_onward : RangeOnward
range_onward f s h low high room l =
    let a = range_runs f s h high low room in
    (a.fits, rw lead_false at (a.few (omega (arith, lead_false))), λ n. rw lead_false at (a.behind n))

-- what holds of a refusal and of each walk holds of range's reply and words
pub range_rule :
    (P : After → Type 0) (f : Format) (s : List ℕ) (low high : ℕ) (out : List ℕ) →
    ((n : ℕ) → (n ≡ 0 → ⊥) → P (record { reply = range_refused n; words = out })) →
    (let r = ranged f s (head_of s) low high (length out / words f) in
    low ≤ high
    → r.ok ≡ true
    → P (record {
      reply = record { number = 0; count = length r.items; more = r.more };
      words = flat f r.items ++ drop (words f * length r.items) out;
    })) →
    P (range_of f s low high out)
unfolding range_of listed
range_rule P f s low high out refused walked =
    by_cases (head_rule f s)
    (λ r.
    by_cases (ltb high low)
    (λ o. rw (r, o, range_of) (refused 7 (λ z. omega arith)))
    (λ o.
    by_cases (ranged f s (head_of s) low high (length out / words f)).ok
    (λ k. rw (r, o, k, range_of, listed) (walked (ltb-false high low o) k))
    (λ k. rw (r, o, k, range_of, listed) (refused 9 (λ z. omega arith)))))
    (λ r. rw (r, range_of) (refused 3 (λ z. omega arith)))

pub range_more : RangeMore
range_more f s low high out =
    range_rule (λ a. a.reply.more ≤ high) f s low high out (λ n z. omega arith)
    (λ l k. (range_runs f s (head_of s) high low (length out / words f)).more)

pub range_inside : RangeInside
range_inside f s low high out =
    let its : List Item = (ranged f s (head_of s) low high (length out / words f)).items in
    let room = records_fit f (length out) (length its) (range_runs f s (head_of s) high low (length out / words f)).fits in
    range_rule
    (λ a. (length a.words ≡ length out) × (drop (words f * a.reply.count) a.words ≡ drop (words f * a.reply.count) out)) f s low
    high out (λ n z. (refl, refl)) (λ l k. (
      length_filled f its (length its) out _ refl room refl,
      drop_at (flat f its) (drop (words f * length its) out) (words f * length its) (length_flat f its),
    ))

pub range_refusals : RangeRefusals
range_refusals f s low high out =
    range_rule (λ a. (a.reply.number ≡ 0 → ⊥) → (a.reply ≡ range_refused a.reply.number) × (a.words ≡ out)) f s low high out
    (λ n i z. (refl, refl)) (λ l k z. absurd (z refl))

-- what each record of the walk keeps holds of the totals at the end: P of the largest key passed and the totals so far, R of the totals
module _ (f : Format) (s : List ℕ) (h : Head) (high today : ℕ) (P : ℕ → Totals → Type 0) (R : Totals → Type 0) (none : R no_totals)
    (stop : (m : ℕ) (t : Totals) → P m t → R t)
    (keep : (m : ℕ) (t : Totals) (it : Item) → P m t → m < it.key → it.key ≤ high → P it.key (updated_of t it today)) where
  abbrev Kept : Bool → ℕ → Totals → Type 0
  Kept strict k t = P (k - lead strict) t

  kept_on : (fuel : ℕ) (strict : Bool) (k : ℕ) (t : Totals) (a : Sought) → next_of f s h strict k ≡ a → Kept strict k t
      → ((it : Item) (u : Totals) → P it.key u → R (sum_from f s h high today fuel true it.key u).totals)
      → R (sum_from f s h high today (suc fuel) strict k t).totals
  unfolding sum_from damage
  kept_on fuel strict k t Damaged e p ih = rw (e, sum_from) none
  kept_on fuel strict k t Nothing e p ih = rw (e, sum_from) (stop _ t p)
  kept_on fuel strict k t (Record it) e p ih =
      by_cases (ltb high it.key)
      (λ q. rw (e, q, sum_from) (stop _ t p))
      (λ q.
      let l = next_lead f s h strict k it e in
      let o = next_positive f s h strict k it e in
      let u = keep (k - lead strict) t it p (omega arith) (ltb-false high it.key q) in
      by_cases (eqb it.key high)
      (λ z. rw (e, q, z, sum_from) (stop it.key (updated_of t it today) u))
      (λ z. rw (e, q, z, sum_from) (ih it (updated_of t it today) u)))

  kept : (fuel : ℕ) (strict : Bool) (k : ℕ) (t : Totals) → Kept strict k t → R (sum_from f s h high today fuel strict k t).totals
  unfolding sum_from
  kept zero strict k t p = stop _ t p
  kept (suc fuel) strict k t p =
      kept_on fuel strict k t (next_of f s h strict k) refl p
      (λ it u q. kept fuel true it.key u (subst (λ n. P n u) (sub_lead it.key) q))

  summed_kept : (low : ℕ) → P (low - 1) no_totals → R (summed f s h low high today).totals
  unfolding summed
  summed_kept low p = kept (high + 1 - low + 1) false low no_totals (subst (λ n. P (low - n) no_totals) (sym lead_false) p)

-- a summary's key is 0 or that of a record of the walk
key_low : (f : Format) (s : List ℕ) (h : Head) (low high today : ℕ) → (summed f s h low high today).totals.key ≤ high
unfolding no_totals
key_low f s h low high today =
    let P : ℕ → Totals → Type 0 = λ m t. t.key ≤ high in
    let keep : (m : ℕ) (t : Totals) (it : Item) → t.key ≤ high → m < it.key → it.key ≤ high → (updated_of t it today).key ≤ high =
    λ m t it p l n. by_cases (earlier t it) (λ e. rw (updated_taken t it today e) n) (λ e. rw (updated_kept t it today e) p) in
    summed_kept f s h high today P (P 0) (omega arith) (λ m t p. p) keep low (omega arith)

-- it has counted at most so many records as there are keys from 1 to the last one
count_low : (f : Format) (s : List ℕ) (h : Head) (low high today : ℕ) → (summed f s h low high today).totals.count ≤ high
unfolding no_totals
count_low f s h low high today =
    let P : ℕ → Totals → Type 0 = λ m t. (t.count ≤ m) × (t.count ≤ high) in
    let keep : (m : ℕ) (t : Totals) (it : Item) → P m t → m < it.key → it.key ≤ high → P it.key (updated_of t it today) =
    λ m t it p l n. let e = updated_count t it today in (omega (arith, p.0), omega (arith, p.0)) in
    summed_kept f s h high today P (λ t. t.count ≤ high) (omega arith) (λ m t p. p.1) keep low (omega arith, omega arith)

-- what holds of a refusal and of the totals of each walk holds of summary's reply
summary_rule :
    (P : SummaryReply → Type 0) (f : Format) (s : List ℕ) (low high today : ℕ) → ((n : ℕ) → P (summary_refused n)) →
    (let t = (summed f s (head_of s) low high today).totals in
    P (record { number = 0; count = t.count; total = t.total; key = t.key })) →
    P (summary_of f s low high today)
unfolding summary_of
summary_rule P f s low high today refused walked =
    by_cases (head_rule f s)
    (λ r.
    by_cases (ltb high low)
    (λ o. rw (r, o, summary_of) (refused 7))
    (λ o.
    by_cases (lawful_day today)
    (λ d.
    by_cases (summed f s (head_of s) low high today).ok
    (λ k. rw (r, o, d, k, summary_of) walked)
    (λ k. rw (r, o, d, k, summary_of) (refused 9)))
    (λ d. rw (r, o, d, summary_of) (refused 6))))
    (λ r. rw (r, summary_of) (refused 3))

pub summary_key : SummaryKey
summary_key f s low high today =
    summary_rule (λ a. a.key ≤ high) f s low high today (λ n. omega arith) (key_low f s (head_of s) low high today)

pub summary_count : SummaryCount
summary_count f s low high today =
    summary_rule (λ a. a.count ≤ high) f s low high today (λ n. omega arith) (count_low f s (head_of s) low high today)

pub summary_refusals : SummaryRefusals
summary_refusals f s low high today =
    summary_rule (λ a. (a.number ≡ 0 → ⊥) → (a.count ≡ 0) × (a.total ≡ 0) × (a.key ≡ 0)) f s low high today
    (λ n z. (refl, refl, refl)) (λ z. absurd (z refl))
