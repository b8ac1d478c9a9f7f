-- Where a walk by next stands: w is the walk from its key, above it or at or above it.
--   Held P x        == P holds of the span that a function returned as x
--   Walking f s h w == that
--   Fuelled .. w    == the same, with turns enough for every key up to high
--   Summed .. w t, Listed .. w n == the totals t, or n records, are those before the walk w, and what is left from it on makes the whole
use mathlib.Core.Path.{◌≡◌, refl, sym, ap, ◌∙◌, subst}
use mathlib.Core.Bool.{Bool, true, false, true≢false}
use mathlib.Core.List.{List}
use Prim.Native.Nat.{ℕ, ◌+◌, ◌-◌, ◌^◌, ◌≤◌, ◌<◌}
use native.Mathlib.Omega.{arith}
use lib.ListN.{length}
use Rattle.lists.specs.Lists.{All}
use Rattle.std.specs.Prelude.{Option, Some, None, Result, Ok, Err}
use Rattle.answers.specs.declared.Refusal.{Refusal}
use Rattle.answers.specs.declared.Refusal.TheVariants.{DamageMet}
use Rattle.store.specs.declared.Format.{Format}
use Rattle.store.specs.declared.Head.{Head}
use Rattle.store.specs.declared.Item.{Item}
use Rattle.store.specs.Head.{page_at, Under}
use Rattle.store.proofs.Places.{under_limits}
use Rattle.page.specs.Page.{count, key_at, Filled}
use Rattle.page.proofs.Inside.{page_lent, filled}
use Rattle.page.proofs.Laws.{rule_facts}
use Rattle.search.specs.Way.{Terminal}
use Rattle.search.specs.Way.{Span, sound_span, span_result}
use Rattle.search.specs.Descent.{terminal}
use Rattle.search.specs.Span.{span_of, GoesBehind, Rows}
use Rattle.search.proofs.BlockLaws.{under_levels}
use Rattle.search.proofs.SpanLaws.{span_named, span_whole, span_behind}
use Rattle.search.proofs.RowLaws.{behind_small}
use Rattle.search.proofs.WayLaws.{span_is, span_none}
use Rattle.totals.specs.declared.Totals.{Totals}
use Rattle.totals.specs.Totals.{no_totals, totals_of, Bounded}
use Rattle.totals.proofs.Laws.{bounded_none}
use Rattle.scan.specs.Outcome.{listing_result, totals_result}
use Rattle.scan.specs.Walk.{last_key, terminal_of, Behind, Standing, rows}
use Rattle.scan.specs.Range.{range_from, ranged, listing, listing_of}
use Rattle.scan.specs.Summary.{done, damage, sum_from, summed, summing_of}
use Rattle.scan.proofs.RangeLaws.{lead, lead_true, lead_false, outcome, outcome_start, same_count}
use Rattle.scan.proofs.ChainLaws.{Follows, key_after, chain_front, chain_few, chain_fits, chain_left}
use Rattle.scan.proofs.WalkLaws.{length_rows, ends_upto, ends_cut, rows_of, stop_of, up_to}
use Rattle.scan.proofs.WalkLaws.{span_held, span_follows, span_last, span_ends}
use Rattle.scan.proofs.WalkLaws.{sum_goes, sum_stops, sum_end, range_goes, range_stops, range_fills, range_end}

-- the span that a function returned
abbrev pub Held : (Span → Type 0) → Result (Option Rattle.search.specs.declared.Span.Span) Refusal → Type 0
Held P x = (w : Span) × (x ≡ span_result w) × P w

module _ {P : Span → Type 0} {x : Result (Option Rattle.search.specs.declared.Span.Span) Refusal} (h : Held P x) where
  pub held_some : {r : Rattle.search.specs.declared.Span.Span} → x ≡ Ok (Some r) → P (sound_span r) × (r.page ≡ 0 → ⊥)
  held_some e =
      let k = span_is h.0 (sym e ∙ h.1) in
      (subst P (sym k.0) h.2, λ z. k.1 (sym (ap (λ r. r.page) k.0) ∙ z))

  pub held_none : x ≡ Ok None → (w : Span) × (w.ok ≡ true) × (w.page ≡ 0) × P w
  held_none e = let k = span_none h.0 (sym e ∙ h.1) in (h.0, k.0, k.1, h.2)

pub record Walking (f : Format) (s : List ℕ) (h : Head) (w : Span) : Type 0 where
  pub strict : Bool
  pub key : ℕ
  pub span : w ≡ span_of f s h strict key

-- the page of a span with records, which the code has as pg
pub rows_filled : {f : Format} {s : List ℕ} {h : Head} {r : Span} {pg : List ℕ} → Rows f s h r → pg ≡ page_at f s h r.page → Filled f pg
rows_filled {f} {s} {h} {r} w e = rw e (filled f h.capacity (page_at f s h r.page) w.rule (page_lent f s h r.page))

-- a terminal node by its numbers
terminal_is : {t : Terminal} {b : Bool} {n m : ℕ} → b ≡ t.ok → n ≡ t.node → m ≡ t.used → record { ok = b; node = n; used = m } ≡ t
terminal_is d e g = rw (d, e, g)

module _ {f : Format} {s : List ℕ} {h : Head} (u : Under f s h) {w : Span} (a : Walking f s h w) (some : w.page ≡ 0 → ⊥) where
  whole : (w.ok ≡ true) × ((terminal f s h a.key).ok ≡ true)
  whole =
      let o = span_whole f s h a.strict a.key (λ z. some (ap (λ r. r.page) a.span ∙ z)) in
      (ap (λ r. r.ok) a.span ∙ o.0, o.1)

  pub walk_ok : w.ok ≡ true
  walk_ok = whole.0

  pub walk_rows : Rows f s h w
  walk_rows =
      let l = under_levels u in
      span_held f s h a.strict a.key l.0 l.1 w a.span walk_ok some

  -- the terminal node that it names is that of its key, and the key that of its last record
  names : (w.node ≡ (terminal f s h a.key).node) × (w.used ≡ (terminal f s h a.key).used) × (w.last ≡ last_key f s h w)
  names = span_named f s h a.strict a.key a.span some

  named : terminal_of w ≡ terminal f s h a.key
  named = terminal_is (sym whole.1) names.0 names.1

  goes_behind : (w.behind ≡ 0 → ⊥) → Behind f s h w
  goes_behind z =
      let l = under_levels u in
      let g = span_behind f s h a.strict a.key l.0 l.1 a.span some z in
      record {
        terminal = named ∙ sym g.0;
        goes = subst (λ t. GoesBehind f s h true (last_key f s h w) t w.behind) (sym named) g.1;
        small = behind_small u a.strict a.key a.span;
      }

  pub standing : Standing f s h w
  standing = record { rows = walk_rows; last = names.2; behind = goes_behind }

  -- what is asked where its page, which the code has as pg, is searched
  module _ {pg : List ℕ} (e : pg ≡ page_at f s h w.page) where
    pub page_filled : Filled f pg
    page_filled = rows_filled walk_rows e

    pub end_asked : Filled f pg × (w.from < w.to) × (w.to ≤ count pg) × (w.to < 2 ^ 32)
    end_asked =
        let k = rule_facts f h.capacity (page_at f s h w.page) walk_rows.rule in
        (page_filled, walk_rows.some, rw e walk_rows.within, omega (arith, walk_rows.within, k.fits, (under_limits u).capacity))

  pub rows_some : 1 ≤ length (rows_of f s h w)
  rows_some =
      omega (arith, length_rows f (page_at f s h w.page) w.from (w.to - w.from), walk_rows.some)

  -- its records up to top
  module _ (top : ℕ) where
    abbrev taken : List Item
    taken = up_to f s h w top

    pub taken_follows : Follows f s h a.strict a.key taken
    taken_follows =
        let l = under_levels u in
        let c = span_follows f s h a.strict a.key l.0 l.1 w a.span walk_ok some in
        let e = span_ends f s h a.strict a.key l.0 l.1 w a.span walk_ok some top in
        chain_front f s h a.strict a.key taken _ (rw (ends_cut e) at c)

    pub taken_upto : All (λ it. it.key ≤ top) taken
    taken_upto =
        let l = under_levels u in
        ends_upto (span_ends f s h a.strict a.key l.0 l.1 w a.span walk_ok some top)

    pub taken_length : length taken ≡ stop_of f s h w top - w.from
    taken_length = length_rows f (page_at f s h w.page) w.from _

    -- all of them, where the last key is below top
    pub taken_all : last_key f s h w < top → taken ≡ rows_of f s h w
    taken_all q =
        let l = under_levels u in
        let e = span_ends f s h a.strict a.key l.0 l.1 w a.span walk_ok some top in
        ap (λ (x : ℕ). rows f (page_at f s h w.page) w.from (x - w.from)) (e.all (omega arith))

    pub taken_count : last_key f s h w < top → stop_of f s h w top - w.from ≡ length (rows_of f s h w)
    taken_count q = sym taken_length ∙ ap length (taken_all q)

-- a walk with turns enough for every key up to high
module _ (f : Format) (s : List ℕ) (h : Head) (low high : ℕ) where
  pub record Fuelled (w : Span) : Type 0 where
    pub at : Walking f s h w
    pub fuel : ℕ
    pub left : high + 1 + lead at.strict ≤ at.key + fuel
    pub upto : at.key ≤ high

  fuelled : (strict : Bool) (k fuel : ℕ) → high + 1 + lead strict ≤ k + fuel → k ≤ high → Fuelled (span_of f s h strict k)
  fuelled strict k fuel l o =
      record { at = record { strict = strict; key = k; span = refl }; fuel = fuel; left = l; upto = o }

  module _ (u : Under f s h) {w : Span} (g : Fuelled w) (some : w.page ≡ 0 → ⊥) where
    abbrev strict : Bool
    strict = g.at.strict

    abbrev passed : List Item
    passed = rows_of f s h w

    abbrev last : ℕ
    last = last_key f s h w

    -- turns enough for every key up to high are more than the records up to high
    turns : (fuel : ℕ) → high + 1 + lead strict ≤ g.at.key + fuel → length (up_to f s h w high) < fuel
    turns fuel =
        chain_fits f s h strict g.at.key high fuel (up_to f s h w high) (taken_follows u g.at some high)
        (taken_upto u g.at some high) g.upto

    short : length (up_to f s h w high) < g.fuel
    short = turns g.fuel g.left

    few : length (up_to f s h w high) < high + 1 + lead strict - g.at.key
    few = let o = g.upto in turns (high + 1 + lead strict - g.at.key) (omega arith)

    module _ (q : last < high) where
      enough : length passed < g.fuel
      enough = rw (taken_all u g.at some high q) at short

      follows : Follows f s h strict g.at.key passed
      follows =
          let l = under_levels u in
          span_follows f s h strict g.at.key l.0 l.1 w g.at.span (walk_ok u g.at some) some

      ends : key_after g.at.key passed ≡ last
      ends =
          let l = under_levels u in
          span_last f s h strict g.at.key l.0 l.1 w g.at.span (walk_ok u g.at some) some

      on : high + 1 + lead true ≤ last + (g.fuel - length passed)
      on =
          rw (← ends)
          (chain_left f s h strict g.at.key high g.fuel passed follows (omega (arith, enough)) g.left)

  -- a summary
  pub record Summed (today : ℕ) (w : Span) (t : Totals) : Type 0 where
    pub ahead : Fuelled w
    pub bounded : Bounded t
    pub counted : t.count + low + lead ahead.at.strict ≤ ahead.at.key + 1
    pub sums : sum_from f s h high today ahead.fuel ahead.at.strict ahead.at.key t ≡ summed f s h low high today

  pub sum_first : (today : ℕ) → low ≤ high → {w : Span} {t : Totals} → w ≡ span_of f s h false low → t ≡ no_totals → Summed today w t
  unfolding fuelled summed no_totals
  sum_first today o p q =
      rw (p, q)
      record {
        ahead = fuelled false low (high + 1 - low + 1) (omega (arith, lead_false)) o;
        bounded = bounded_none;
        counted = omega (arith, lead_false);
        sums = refl;
      }

  module _ (u : Under f s h) (today : ℕ) {w : Span} {t : Totals} (a : Summed today w t) where
    abbrev b : Fuelled w
    b = a.ahead

    sum_done : (w.ok ≡ true → w.page ≡ 0) → summing_of w.ok t ≡ summed f s h low high today
    sum_done z =
        let l = under_levels u in
        sym (sum_end f s h b.at.strict b.at.key l.0 l.1 w b.at.span z high today b.fuel t (omega (arith, b.left, b.upto)))
        ∙ a.sums

    pub sum_ended : w.ok ≡ true → w.page ≡ 0 → Ok t ≡ totals_result (summed f s h low high today)
    unfolding summing_of
    sum_ended o z = ap totals_result (ap (λ b. summing_of b t) (sym o) ∙ sum_done (λ y. z))

    pub sum_lost : w.ok ≡ false → Err DamageMet ≡ totals_result (summed f s h low high today)
    unfolding summing_of damage
    sum_lost o = ap totals_result (ap (λ b. summing_of b t) (sym o) ∙ sum_done (λ y. absurd (true≢false (sym y ∙ o))))

    module _ (some : w.page ≡ 0 → ⊥) where
      pub sum_room : high < 2 ^ 32 → t.count + (stop_of f s h w high - w.from) ≤ 2 ^ 32
      sum_room o = omega (arith, few u b some, taken_length u b.at some high, a.counted, b.upto)

      pub sum_over : high ≤ last_key f s h w → done (totals_of t (up_to f s h w high) today) ≡ summed f s h low high today
      sum_over q =
          let l = under_levels u in
          sym (sum_stops f s h b.at.strict b.at.key l.0 l.1 w b.at.span (walk_ok u b.at some) some high today
          b.fuel t q (short u b some))
          ∙ a.sums

      pub sum_next : last_key f s h w < high → {v : Span} {x : Totals} → v ≡ span_of f s h true (last_key f s h w)
          → x ≡ totals_of t (up_to f s h w high) today → Bounded x → x.count ≡ t.count + (stop_of f s h w high - w.from)
          → Summed today v x
      unfolding fuelled
      sum_next q p e c n =
          let l = under_levels u in
          let d = chain_few f s h b.at.strict b.at.key (rows_of f s h w) (follows u b some q) in
          rw p
          record {
            ahead = fuelled true (last_key f s h w) (b.fuel - length (rows_of f s h w)) (on u b some q) (omega arith);
            bounded = c;
            counted = omega (arith, n, taken_count u b.at some high q, a.counted, d, ends u b some q, lead_true);
            sums =
                rw (e, taken_all u b.at some high q)
                (sym (sum_goes f s h b.at.strict b.at.key l.0 l.1 w b.at.span (walk_ok u b.at some) some high
                today b.fuel t q (omega (arith, enough u b some q)))
                ∙ a.sums);
          }

  -- a range with room for so many records
  pub record Listed (room : ℕ) (w : Span) (n : ℕ) : Type 0 where
    pub ahead : Fuelled w
    pub within : n ≤ room
    pub lists : outcome n (range_from f s h high ahead.fuel ahead.at.strict ahead.at.key (room - n))
        ≡ listing (ranged f s h low high room)

  pub list_first : (room : ℕ) → low ≤ high → {w : Span} → w ≡ span_of f s h false low → Listed room w 0
  unfolding fuelled
  list_first room o p =
      let z : room - 0 ≡ room = omega arith in
      rw p
      record {
        ahead = fuelled false low (high + 1 - low + 1) (omega (arith, lead_false)) o;
        within = omega arith;
        lists = rw z (outcome_start f s h high low room);
      }

  module _ (u : Under f s h) (room : ℕ) {w : Span} {n : ℕ} (a : Listed room w n) where
    abbrev c : Fuelled w
    c = a.ahead

    list_done : (w.ok ≡ true → w.page ≡ 0) → listing_of w.ok n ≡ listing (ranged f s h low high room)
    list_done z =
        let l = under_levels u in
        sym (range_end f s h c.at.strict c.at.key l.0 l.1 w c.at.span z high n c.fuel (room - n) (omega (arith, c.left, c.upto)))
        ∙ a.lists

    pub list_ended : w.ok ≡ true → w.page ≡ 0
        → Ok (record { count = n; more = 0 }) ≡ listing_result (listing (ranged f s h low high room))
    unfolding listing_of
    list_ended o z = ap listing_result (ap (λ b. listing_of b n) (sym o) ∙ list_done (λ y. z))

    pub list_lost : w.ok ≡ false → Err DamageMet ≡ listing_result (listing (ranged f s h low high room))
    unfolding listing_of
    list_lost o = ap listing_result (ap (λ b. listing_of b n) (sym o) ∙ list_done (λ y. absurd (true≢false (sym y ∙ o))))

    module _ (some : w.page ≡ 0 → ⊥) where
      -- no room for all of the span: the first key not written
      pub list_full : room - n < stop_of f s h w high - w.from
          → record { ok = true; count = room; more = key_at f (page_at f s h w.page) (w.from + (room - n)) }
          ≡ listing (ranged f s h low high room)
      list_full q =
          let l = under_levels u in
          let e = taken_length u c.at some high in
          let z : n + (room - n) ≡ room = omega (arith, a.within) in
          same_count _ (sym z)
          ∙ sym (range_fills f s h c.at.strict c.at.key l.0 l.1 w c.at.span (walk_ok u c.at some) some high n
          c.fuel (room - n) (omega arith) (omega (arith, short u c some)))
          ∙ a.lists

      pub list_over : high ≤ last_key f s h w → stop_of f s h w high - w.from ≤ room - n
          → record { ok = true; count = n + (stop_of f s h w high - w.from); more = 0 } ≡ listing (ranged f s h low high room)
      list_over q r =
          let l = under_levels u in
          let e = taken_length u c.at some high in
          same_count 0 (ap (λ m. n + m) (sym e))
          ∙ sym (range_stops f s h c.at.strict c.at.key l.0 l.1 w c.at.span (walk_ok u c.at some) some high n
          c.fuel (room - n) q (short u c some) (omega arith))
          ∙ a.lists

      pub list_next : last_key f s h w < high → stop_of f s h w high - w.from ≤ room - n
          → {v : Span} → v ≡ span_of f s h true (last_key f s h w)
          → Listed room v (n + (stop_of f s h w high - w.from))
      unfolding fuelled
      list_next q r p =
          let l = under_levels u in
          let e = taken_length u c.at some high in
          let y = taken_count u c.at some high q in
          let z : room - (n + length (rows_of f s h w)) ≡ room - n - length (rows_of f s h w) = omega arith in
          rw p
          record {
            ahead = fuelled true (last_key f s h w) (c.fuel - length (rows_of f s h w)) (on u c some q) (omega arith);
            within = omega (arith, a.within);
            lists =
                rw (y, z)
                (sym (range_goes f s h c.at.strict c.at.key l.0 l.1 w c.at.span (walk_ok u c.at some) some high n
                c.fuel (room - n) q (omega (arith, enough u c some q)) (omega arith))
                ∙ a.lists);
          }
