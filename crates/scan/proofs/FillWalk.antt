-- A range's second pass, a span at a time: the records written so far are the first ones of the walk.
--   Filling f s h low n start out at left w == of the n records from low on all but `left` stand in the output, which was start and has
--                         `at` words of them in front; the walk w stands at the next one
--   Turned f s h low n start out at left w == the same after all records of w's span, or as many as were left, were written
use mathlib.Core.Path.{◌≡◌, refl, sym, ap, ◌∙◌}
use mathlib.Core.Bool.{Bool, true, false, true≢false}
use mathlib.Core.List.{List, [], ◌∷◌, ◌++◌, append_assoc}
use Prim.Native.Nat.{ℕ, zero, suc, ◌+◌, ◌-◌, ◌*◌, ◌^◌, ◌≤◌, ◌<◌, min}
use native.Mathlib.Decide.{dec_le}
use native.Mathlib.Nat.{mul-le-mul_left}
use native.Mathlib.Omega.{arith}
use lib.ListN.{length, get_or, take, drop, length-append}
use lib.Seq.{get_or-drop}
use Rattle.lists.specs.Lists.{part}
use Rattle.lists.proofs.Parts.{part_in_lem, part_out}
use Rattle.std.specs.Prelude.{None, Ok, Err}
use Rattle.answers.specs.declared.Refusal.{Refusal}
use Rattle.store.specs.declared.Format.{Format}
use Rattle.store.specs.declared.Head.{Head}
use Rattle.store.specs.declared.Item.{Item}
use Rattle.store.specs.Format.{words}
use Rattle.store.specs.Head.{page_at, page_start, page_words, Under}
use Rattle.store.proofs.Places.{under_limits}
use Rattle.page.specs.Page.{flat}
use Rattle.page.proofs.Laws.{rule_facts}
use Rattle.search.specs.Way.{Span, span_result}
use Rattle.search.specs.Span.{span_of, Rows}
use Rattle.search.proofs.BlockLaws.{under_levels}
use Rattle.search.proofs.WayLaws.{answered_err, span_none}
use Rattle.scan.specs.Walk.{last_key, Standing, rows}
use Rattle.scan.specs.Range.{firsts}
use Rattle.scan.proofs.FillLaws.{part_room, length_filled}
use Rattle.scan.proofs.ChainLaws.{Follows, key_after, firsts_chain, firsts_part}
use Rattle.scan.proofs.WalkLaws.{rows_of, length_rows, rows_take, fill_rows, rows_lie}
use Rattle.scan.proofs.WalkLaws.{span_full, span_follows, span_last, span_length}
use Rattle.scan.proofs.StandLaws.{Walking, walk_rows, standing}

-- elements below a bound: also those of a part
take_below : (M n : ℕ) (xs : List ℕ) → 0 < M → ((j : ℕ) → get_or xs j 0 < M) → (j : ℕ) → get_or (take n xs) j 0 < M
take_below M zero xs p b j = p
take_below M (suc n) [] p b j = p
take_below M (suc n) (x ∷ xs) p b zero = b 0
take_below M (suc n) (x ∷ xs) p b (suc j) = take_below M n xs p (λ i. b (suc i)) j

part_below : (M : ℕ) (xs : List ℕ) (a n : ℕ) → 0 < M → ((j : ℕ) → get_or xs j 0 < M) → (j : ℕ) → get_or (part xs a n) j 0 < M
part_below M xs a n p b j =
    elim (dec_le (a + n) (length xs)) [
      | yes l ↦ rw (part_in_lem xs a n l) (take_below M n (drop a xs) p (λ i. rw (get_or-drop a xs i 0) (b (a + i))) j)
      | no l ↦ rw (part_out xs a n (omega arith)) p
    ]

pub page_below : (f : Format) (s : List ℕ) (h : Head) (p : ℕ) → ((j : ℕ) → get_or s j 0 < 2 ^ 32) → (j : ℕ)
    → get_or (page_at f s h p) j 0 < 2 ^ 32
unfolding page_at
page_below f s h p b = part_below (2 ^ 32) s (page_start f h p) (page_words f h.capacity) (omega arith) b

-- some records asked for and found: the span is sound and has records
module _ {f : Format} {s : List ℕ} {h : Head} (u : Under f s h) (strict : Bool) (k n : ℕ) (some : 1 ≤ n)
    (full : length (firsts f s h strict k n) ≡ n) where
  pub found_some : ((span_of f s h strict k).ok ≡ true) × ((span_of f s h strict k).page ≡ 0 → ⊥)
  found_some =
      let z : n ≡ suc (n - 1) = omega arith in
      let l = under_levels u in
      span_full f s h strict k l.0 l.1 (span_of f s h strict k) refl (n - 1) (rw z at full)

pub record Filling (f : Format) (s : List ℕ) (h : Head) (low n : ℕ) (start out : List ℕ) (at left : ℕ) (w : Span) : Type 0 where
  pub under : Under f s h
  pub room : words f * n ≤ length start
  pub its : List Item
  pub strict : Bool
  pub key : ℕ
  pub walk : w ≡ span_of f s h strict key
  pub counted : length its + left ≡ n
  pub some : 1 ≤ left
  pub place : at ≡ words f * length its
  pub written : out ≡ flat f its ++ drop (words f * length its) start
  pub rest : its ++ firsts f s h strict key left ≡ firsts f s h false low n
  pub full : length (firsts f s h strict key left) ≡ left

pub record Turned (f : Format) (s : List ℕ) (h : Head) (low n : ℕ) (start out : List ℕ) (at left : ℕ) (w : Span) : Type 0 where
  pub under : Under f s h
  pub stands : Standing f s h w
  pub same_length : length out ≡ length start
  pub ends : left ≡ 0 → out ≡ flat f (firsts f s h false low n) ++ drop (words f * n) start
  pub goes : (left ≡ 0 → ⊥) → (span_of f s h true (last_key f s h w)).ok ≡ true
  pub again : {v : Span} → (left ≡ 0 → ⊥) → v ≡ span_of f s h true (last_key f s h w) → Filling f s h low n start out at left v

-- no record is written yet
nothing_yet : (f : Format) (out : List ℕ) → out ≡ flat f [] ++ drop (words f * 0) out
unfolding flat
nothing_yet f out =
    let z : words f * 0 ≡ 0 = omega arith in
    rw z refl

pub fill_none : (f : Format) (s : List ℕ) (h : Head) (low n : ℕ) (out : List ℕ) → n ≡ 0
    → out ≡ flat f (firsts f s h false low n) ++ drop (words f * n) out
unfolding firsts
fill_none f s h low n out z = rw z (nothing_yet f out)

pub fill_begins : {f : Format} {s : List ℕ} {h : Head} {low n : ℕ} {start : List ℕ} {w : Span} → Under f s h
    → words f * n ≤ length start → length (firsts f s h false low n) ≡ n → 1 ≤ n → w ≡ span_of f s h false low
    → Filling f s h low n start start 0 n w
fill_begins {f} {s} {h} {low} {n} {start} {w} u room full some e =
    record {
      under = u;
      room = room;
      its = [];
      strict = false;
      key = low;
      walk = e;
      counted = omega arith;
      some = some;
      place = omega arith;
      written = nothing_yet f start;
      rest = refl;
      full = full;
    }

module _ {f : Format} {s : List ℕ} {h : Head} {low n : ℕ} {start out : List ℕ} {at left : ℕ} {w : Span}
    (x : Filling f s h low n start out at left w) where
  -- the walk's span: its page, its records, its last key
  abbrev block : List ℕ
  block = page_at f s h w.page

  abbrev whole : List Item
  whole = rows_of f s h w

  abbrev end : ℕ
  end = last_key f s h w

  levels : (1 ≤ h.levels) × (h.levels ≤ 32)
  levels = under_levels x.under

  found : (w.ok ≡ true) × (w.page ≡ 0 → ⊥)
  found = rw x.walk (found_some x.under x.strict x.key left x.some x.full)

  -- so it is neither past the last record nor at damage
  pub fill_not_none : Ok None ≡ span_result w → ⊥
  fill_not_none q = found.1 (span_none w q).1

  pub fill_not_lost : {e : Refusal} → Err e ≡ span_result w → ⊥
  fill_not_lost q = true≢false (sym found.0 ∙ (answered_err w.ok _ q).0)

  walking : Walking f s h w
  walking = record { strict = x.strict; key = x.key; span = x.walk }

  pub fill_held : Rows f s h w
  fill_held = walk_rows x.under walking found.1

  -- its records follow one another, up to its last key
  follows : Follows f s h x.strict x.key whole
  follows =
      span_follows f s h x.strict x.key levels.0 levels.1 w x.walk found.0 found.1

  last : key_after x.key whole ≡ end
  last =
      span_last f s h x.strict x.key levels.0 levels.1 w x.walk found.0 found.1

  sized : (length whole ≡ w.to - w.from) × (1 ≤ length whole)
  sized =
      span_length f s h x.strict x.key levels.0 levels.1 w x.walk found.0 found.1

  fits : (m : ℕ) → length x.its + m ≤ n → words f * (length x.its + m) ≤ length start
  fits m l = omega (arith, x.room, mul-le-mul_left {m = length x.its + m} {n = n} (words f) l)

  pub fill_length : length out ≡ length start
  fill_length =
      let l : length x.its + 0 ≤ n = omega (arith, x.counted) in
      length_filled f x.its (length x.its) start out refl (omega (arith, fits 0 l)) x.written

  -- m records of it are written: all, or as many as are left
  module _ {m : ℕ} (size : m ≡ min left (w.to - w.from)) where
    pub fill_room : (1 ≤ m) × (m ≤ left) × (at + words f * m ≤ length out)
    fill_room =
        let l : length x.its + m ≤ n = omega (arith, x.counted, size) in (
          omega (arith, fill_held.some, x.some, size),
          omega (arith, size),
          omega (arith, fits m l, x.place, fill_length),
        )

    -- the m records, in the page
    abbrev more : List Item
    more = rows f block w.from m

    size_more : length more ≡ m
    size_more = length_rows f block w.from m

    -- they are all that are left
    all_left : left - m ≡ 0 → firsts f s h x.strict x.key left ≡ more
    all_left z =
        let e : left ≡ m = omega (arith, size) in
        let l : left ≤ w.to - w.from = omega (arith, size) in
        firsts_part f s h x.strict x.key left whole follows (omega (arith, l, sized.0))
        ∙ rows_take f block w.from (w.to - w.from) left l
        ∙ ap (rows f block w.from) e

    -- or the whole span, and the walk goes on behind it
    module _ (z : left - m ≡ 0 → ⊥) where
      rest_left : firsts f s h x.strict x.key left ≡ more ++ firsts f s h true end (left - m)
      rest_left =
          let d : w.to - w.from ≡ m = omega (arith, size, z) in
          let e : left ≡ length whole + (left - m) = omega (arith, size, z, sized.0) in
          ap (firsts f s h x.strict x.key) e
          ∙ firsts_chain f s h x.strict x.key (left - m) whole follows sized.1
          ∙ ap (λ (k : ℕ). whole ++ firsts f s h true k (left - m)) last
          ∙ ap (λ (i : ℕ). rows f block w.from i ++ firsts f s h true end (left - m)) d

      rest_full : length (firsts f s h true end (left - m)) ≡ left - m
      rest_full =
          omega (
            arith,
            ap length rest_left,
            length-append more (firsts f s h true end (left - m)),
            size_more,
            x.full,
          )

      fill_goes : (span_of f s h true end).ok ≡ true
      fill_goes = (found_some x.under true end (left - m) (omega (arith, z)) rest_full).0

    module _ {pg : List ℕ} (page : pg ≡ block) where
      pub fill_asks : (w.from + m < 2 ^ 32) × (words f * (w.from + m) < length pg)
          × (words f * m ≤ length (take (length out - at) (drop at out)))
      fill_asks =
          let r = fill_room in
          let held = fill_held in
          let few = (rule_facts f h.capacity block held.rule).fits in
          let l : w.from + m ≤ w.to = omega (arith, size, held.some) in
          let e : w.from + m - 1 + 1 ≡ w.from + m = omega (arith, r.0) in (
            omega (arith, l, held.within, few, (under_limits x.under).capacity),
            rw e at (rows_lie x.under held page (w.from + m - 1) (omega (arith, r.0, l))).1,
            part_room (words f * m) at out r.2,
          )

      -- the output with them, after they were copied behind those written before
      module _ (below : (j : ℕ) → get_or s j 0 < 2 ^ 32) {last : List ℕ}
          (copied : last ≡ part pg (1 + words f * w.from) (words f * m)
          ++ drop (words f * m) (take (length out - at) (drop at out))) where
        abbrev new : List ℕ
        new = take at out ++ (last ++ drop (length out - at) (drop at out))

        wrote : new ≡ flat f (x.its ++ more) ++ drop (words f * (length x.its + m)) start
        wrote =
            fill_rows f x.its block out start last w.from m (length x.its) at
            (page_below f s h w.page below) (rw page at fill_asks.1) x.written refl x.place (rw page at copied)

        counts : length (x.its ++ more) ≡ length x.its + m
        counts = length-append x.its more ∙ ap (λ (i : ℕ). length x.its + i) size_more

        new_length : length new ≡ length start
        new_length =
            length_filled f (x.its ++ more) (length x.its + m) start new counts (fits m (omega (arith, x.counted, fill_room.1))) wrote

        ends : left - m ≡ 0 → new ≡ flat f (firsts f s h false low n) ++ drop (words f * n) start
        ends z =
            let e : length x.its + m ≡ n = omega (arith, x.counted, fill_room.1) in
            wrote
            ∙ ap (λ (i : ℕ). flat f (x.its ++ more) ++ drop (words f * i) start) e
            ∙ ap (λ (l : List Item). flat f l ++ drop (words f * n) start)
            (ap (λ (l : List Item). x.its ++ l) (sym (all_left z)) ∙ x.rest)

        again : {v : Span} → (left - m ≡ 0 → ⊥) → v ≡ span_of f s h true end
            → Filling f s h low n start new (at + words f * m) (left - m) v
        again z e =
            record {
              under = x.under;
              room = x.room;
              its = x.its ++ more;
              strict = true;
              key = end;
              walk = e;
              counted = omega (arith, counts, x.counted, fill_room.1);
              some = omega (arith, z);
              place = rw counts (omega (arith, x.place));
              written = rw counts wrote;
              rest =
                  append_assoc x.its more (firsts f s h true end (left - m))
                  ∙ ap (λ (l : List Item). x.its ++ l) (sym (rest_left z)) ∙ x.rest;
              full = rest_full z;
            }

        -- with the words of a record as the code has them
        pub fill_turns : {k : ℕ} → k ≡ words f → Turned f s h low n start new (at + k * m) (left - m) w
        fill_turns e =
            rw e
            record {
              under = x.under;
              stands = standing x.under walking found.1;
              same_length = new_length;
              ends = ends;
              goes = fill_goes;
              again = again;
            }
