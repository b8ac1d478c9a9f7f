-- From spans to chains: the records of a span follow one another, and where those up to a key end.
--   Ends f pg from to high e == of the records from number `from` up to `to`, those before number e are the ones that are not above high
--   rows_of f s h r        == the records of a span
--   stop_of, up_to f s h r top == where those of them end that are not above top, and these
use mathlib.Core.Path.{◌≡◌, refl, sym, ap, ◌∙◌, subst}
use mathlib.Core.Bool.{Bool, true, false, false≢true}
use mathlib.Core.List.{List, [], ◌∷◌, ◌++◌}
use Prim.Native.Nat.{ℕ, zero, suc, ◌+◌, ◌-◌, ◌*◌, ◌^◌, ◌≤◌, ◌<◌, max}
use native.Mathlib.Decide.{dec_le, dec_lt}
use native.Mathlib.Nat.{add-zero, mod-eq_of_lt}
use native.Mathlib.Omega.{arith}
use lib.ListN.{length, get_or, take, drop}
use lib.Seq.{take-add, take_at, drop-drop, drop-cons}
use borrow.Author.Tests.{le-leb, lt-leb, ltb-true, ltb-false}
use Rattle.lists.specs.Lists.{All, tab, part}
use Rattle.lists.proofs.Cases.{by_cases}
use Rattle.lists.proofs.Parts.{part_in_lem}
use Rattle.lists.proofs.Tests.{length_tab, tab_ext, tab_append, all_tab}
use Rattle.store.specs.declared.Format.{Format}
use Rattle.store.specs.declared.Format.TheVariants.{Plots}
use Rattle.store.specs.declared.Head.{Head}
use Rattle.store.specs.declared.Item.{Item}
use Rattle.store.specs.Format.{words}
use Rattle.store.specs.Head.{page_at, Under}
use Rattle.store.proofs.Places.{under_limits}
use Rattle.page.specs.Page.{count, item_at, key_at, item_words, flat, page_rule, above, first_above}
use Rattle.page.proofs.Flat.{length_flat, flat_append}
use Rattle.page.proofs.Inside.{page_lent, filled, record_inside}
use Rattle.page.proofs.Laws.{rises, rule_facts, first_facts}
use Rattle.totals.specs.declared.Totals.{Totals}
use Rattle.totals.specs.Totals.{updated_of, totals_of}
use Rattle.search.specs.Way.{Span}
use Rattle.search.specs.Way.{Sought}
use Rattle.search.specs.Way.{Record, Nothing, Damaged}
use Rattle.search.specs.Next.{next_of}
use Rattle.search.specs.Span.{span_of, sought_of, Rows}
use Rattle.search.proofs.SpanLaws.{sought_not, sought_none, sought_first, GoesOn, next_span, span_rows}
use Rattle.scan.specs.Walk.{last_key, end_of, rows}
use Rattle.scan.specs.Range.{range_from, listing_of, firsts}
use Rattle.scan.specs.Summary.{done, sum_from, summing_of}
use Rattle.scan.proofs.RangeLaws.{outcome, adds_nothing, adds_damaged}
use Rattle.scan.proofs.FillLaws.{append_at}
use Rattle.scan.proofs.ChainLaws.{Follows, key_after, chain_below, sum_pass, sum_stop, range_pass, range_stop, range_full}
use Rattle.scan.proofs.ChainLaws.{out_damaged, out_nothing, firsts_full}

-- the words of one record
next_word : (pg : List ℕ) (a b : ℕ) → b ≡ suc a → a < length pg → drop a pg ≡ get_or pg a 0 ∷ drop b pg
next_word pg a b e l = drop-cons pg a 0 l ∙ ap (λ (x : ℕ). get_or pg a 0 ∷ drop x pg) (sym e)

four_words : (pg : List ℕ) (a b c d : ℕ) → b ≡ suc a → c ≡ suc b → d ≡ suc c → d < length pg
    → take 4 (drop a pg) ≡ get_or pg a 0 ∷ get_or pg b 0 ∷ get_or pg c 0 ∷ get_or pg d 0 ∷ []
four_words pg a b c d p q r l =
    ap (take 4)
    (next_word pg a b p (omega arith)
    ∙ ap (λ (x : List ℕ). get_or pg a 0 ∷ x)
    (next_word pg b c q (omega arith)
    ∙ ap (λ (x : List ℕ). get_or pg b 0 ∷ x)
    (next_word pg c d r (omega arith) ∙ ap (λ (x : List ℕ). get_or pg c 0 ∷ x) (drop-cons pg d 0 l))))

item_taken : (f : Format) (pg : List ℕ) (i : ℕ) → ((j : ℕ) → get_or pg j 0 < 2 ^ 32) → words f * (i + 1) < length pg
    → take (words f) (drop (1 + words f * i) pg) ≡ item_words f (item_at f pg i)
unfolding item_words item_at words
item_taken Plots pg i b l =
    let e : 1 + 4 * i ≡ 4 * i + 1 = omega arith in
    ap (λ (x : ℕ). take 4 (drop x pg)) e
    ∙ four_words pg (4 * i + 1) (4 * i + 2) (4 * i + 3) (4 * i + 4) (omega arith) (omega arith) (omega arith) (omega arith)
    ∙ ap (λ (x : ℕ). x ∷ get_or pg (4 * i + 2) 0 ∷ get_or pg (4 * i + 3) 0 ∷ get_or pg (4 * i + 4) 0 ∷ []) (sym (mod-eq_of_lt (b (4 * i + 1))))

-- records of a page
module _ (f : Format) (pg : List ℕ) where
  pub rows_none : (i : ℕ) → rows f pg i 0 ≡ []
  unfolding rows tab
  rows_none i = refl

  pub rows_next : (i n : ℕ) → rows f pg i (suc n) ≡ item_at f pg i ∷ rows f pg (i + 1) n
  unfolding rows tab
  rows_next i n =
      let on : (j : ℕ) → i + suc j ≡ i + 1 + j = λ j. omega arith in
      ap (λ (j : ℕ). item_at f pg j ∷ tab n (λ j. item_at f pg (i + suc j))) (add-zero i)
      ∙ ap (λ (l : List Item). item_at f pg i ∷ l) (tab_ext n _ _ (λ j q. ap (item_at f pg) (on j)))

  pub length_rows : (i n : ℕ) → length (rows f pg i n) ≡ n
  unfolding rows
  length_rows i n = length_tab n _

  pub rows_split : (i m n : ℕ) → rows f pg i (m + n) ≡ rows f pg i m ++ rows f pg (i + m) n
  unfolding rows
  rows_split i m n =
      let on : (j : ℕ) → i + (m + j) ≡ i + m + j = λ j. omega arith in
      tab_append m n (λ j. item_at f pg (i + j))
      ∙ ap (λ (l : List Item). tab m (λ j. item_at f pg (i + j)) ++ l) (tab_ext n _ _ (λ j q. ap (item_at f pg) (on j)))

  -- cut at a number between
  pub rows_cut : (i e j : ℕ) → i ≤ e → e ≤ j → rows f pg i (j - i) ≡ rows f pg i (e - i) ++ rows f pg e (j - e)
  rows_cut i e j p q =
      let a : j - i ≡ e - i + (j - e) = omega arith in
      let b : i + (e - i) ≡ e = omega arith in
      ap (rows f pg i) a ∙ rows_split i (e - i) (j - e) ∙ ap (λ (x : ℕ). rows f pg i (e - i) ++ rows f pg x (j - e)) b

  pub rows_take : (i m n : ℕ) → n ≤ m → take n (rows f pg i m) ≡ rows f pg i n
  rows_take i m n l =
      let e : m ≡ n + (m - n) = omega arith in
      ap (λ (x : ℕ). take n (rows f pg i x)) e ∙ ap (take n) (rows_split i n (m - n))
      ∙ take_at (rows f pg i n) (rows f pg (i + n) (m - n)) n (length_rows i n)

  pub all_rows : (P : Item → Type 0) (i n : ℕ) → ((j : ℕ) → i ≤ j → j < i + n → P (item_at f pg j)) → All P (rows f pg i n)
  unfolding rows
  all_rows P i n a = all_tab P n (λ j. item_at f pg (i + j)) (λ j q. a (i + j) (omega arith) (omega arith))

  -- one record more
  pub rows_more : (i n : ℕ) → rows f pg i (n + 1) ≡ rows f pg i n ++ (item_at f pg (i + n) ∷ [])
  rows_more i n =
      rows_split i n 1 ∙ ap (λ l. rows f pg i n ++ l) (rows_next (i + n) 0 ∙ ap (λ l. item_at f pg (i + n) ∷ l) (rows_none (i + n + 1)))

  pub rows_after : (k i n : ℕ) → 1 ≤ n → key_after k (rows f pg i n) ≡ key_at f pg (i + n - 1)
  rows_after k i zero l = absurd (omega arith)
  rows_after k i (suc zero) l =
      let e : i ≡ i + 1 - 1 = omega arith in
      ap (key_after k) (rows_next i 0) ∙ ap (key_after (key_at f pg i)) (rows_none (i + 1)) ∙ ap (key_at f pg) e
  rows_after k i (suc (suc n)) l =
      let e : i + 1 + suc n - 1 ≡ i + suc (suc n) - 1 = omega arith in
      ap (key_after k) (rows_next i (suc n)) ∙ rows_after (key_at f pg i) (i + 1) (suc n) (omega arith) ∙ ap (key_at f pg) e

  -- their words are a part of the page
  flat_taken : (i n : ℕ) → ((j : ℕ) → get_or pg j 0 < 2 ^ 32) → words f * (i + n) < length pg
      → flat f (rows f pg i n) ≡ take (words f * n) (drop (1 + words f * i) pg)
  unfolding flat
  flat_taken i zero b l =
      let z : words f * 0 ≡ 0 = omega arith in
      rw (rows_none i, z)
  flat_taken i (suc n) b l =
      let w : ℕ = words f in
      let a : w * suc n ≡ w + w * n = omega arith in
      let e : 1 + w * (i + 1) ≡ 1 + w * i + w = omega arith in
      ap (flat f) (rows_next i n)
      ∙ ap (λ (l : List ℕ). item_words f (item_at f pg i) ++ l)
      (flat_taken (i + 1) n b (omega arith) ∙ ap (λ (x : ℕ). take (w * n) (drop x pg)) e ∙ ap (take (w * n)) (sym (drop-drop w (1 + w * i) pg)))
      ∙ ap (λ (l : List ℕ). l ++ take (w * n) (drop w (drop (1 + w * i) pg))) (sym (item_taken f pg i b (omega arith)))
      ∙ sym (take-add w (w * n) (drop (1 + w * i) pg))
      ∙ ap (λ (x : ℕ). take x (drop (1 + w * i) pg)) (sym a)

  pub flat_rows : (i n : ℕ) → ((j : ℕ) → get_or pg j 0 < 2 ^ 32) → words f * (i + n) < length pg
      → flat f (rows f pg i n) ≡ part pg (1 + words f * i) (words f * n)
  flat_rows i n b l = flat_taken i n b l ∙ sym (part_in_lem pg (1 + words f * i) (words f * n) (omega arith))

-- records of a page copied to the end of those written before
pub fill_rows :
    (f : Format) (its : List Item) (pg out start last : List ℕ) (i n c at : ℕ) → ((j : ℕ) → get_or pg j 0 < 2 ^ 32) →
    words f * (i + n) < length pg →
    out ≡ flat f its ++ drop (words f * c) start →
    length its ≡ c →
    at ≡ words f * c →
    last ≡ part pg (1 + words f * i) (words f * n) ++ drop (words f * n) (take (length out - at) (drop at out)) →
    take at out ++ (last ++ drop (length out - at) (drop at out)) ≡ flat f (its ++ rows f pg i n) ++ drop (words f * (c + n)) start
fill_rows f its pg out start last i n c at b l o m a e =
    let new = flat f (rows f pg i n) in
    let size : length new ≡ words f * n = length_flat f (rows f pg i n) ∙ ap (λ (x : ℕ). words f * x) (length_rows f pg i n) in
    let next : at + length new ≡ words f * (c + n) = omega arith in
    append_at at (flat f its) new out start last (o ∙ rw (← a)) (length_flat f its ∙ rw m (sym a))
    (e ∙ rw (← flat_rows f pg i n b l, size))
    ∙ rw (flat_append f its (rows f pg i n), ← next)

-- where the records up to high end
pub record Ends (f : Format) (pg : List ℕ) (from to high e : ℕ) : Type 0 where
  pub low : from ≤ e
  pub within : e ≤ to
  pub upto : (i : ℕ) → from ≤ i → i < e → key_at f pg i ≤ high
  pub past : (i : ℕ) → e ≤ i → i < to → high < key_at f pg i
  pub all : key_at f pg (to - 1) ≤ high → e ≡ to

module _ (f : Format) (pg : List ℕ) (from to high : ℕ) where
  pub end_all : key_at f pg (to - 1) ≤ high → end_of f pg from to high ≡ to
  unfolding end_of
  end_all h = rw (le-leb (key_at f pg (to - 1)) high h, end_of)

  pub end_part : high < key_at f pg (to - 1) → end_of f pg from to high ≡ max from (first_above f pg true high)
  unfolding end_of
  end_part h = rw (lt-leb (key_at f pg (to - 1)) high h, end_of)

  -- what the first record above high says
  low_before : (i : ℕ) → i < first_above f pg true high → key_at f pg i ≤ high
  unfolding above
  low_before i q = ltb-false high (key_at f pg i) ((first_facts f pg true high).before i q)

  high_at : first_above f pg true high < count pg → high < key_at f pg (first_above f pg true high)
  unfolding above
  high_at q = ltb-true high (key_at f pg (first_above f pg true high)) ((first_facts f pg true high).found q)

  -- it stands before the end where the last key is above high
  pub end_short : from < to → high < key_at f pg (to - 1) → first_above f pg true high < to
  end_short some h =
      let a : ℕ = first_above f pg true high in
      elim (dec_lt a to) [ yes l ↦ l | no l ↦ absurd (omega (arith, low_before (to - 1) (omega arith))) ]

module _ (f : Format) (C : ℕ) (pg : List ℕ) (from to high : ℕ) (rule : page_rule f C pg ≡ true) (some : from < to)
    (within : to ≤ count pg) where
  ends_all : key_at f pg (to - 1) ≤ high → Ends f pg from to high to
  ends_all h =
      record {
        low = omega arith;
        within = omega arith;
        upto = λ i p q. omega (arith, rises f pg (count pg) (rule_facts f C pg rule).order i (to - 1) (omega arith) (omega arith));
        past = λ i p q. absurd (omega arith);
        all = λ z. refl;
      }

  ends_part : high < key_at f pg (to - 1) → Ends f pg from to high (max from (first_above f pg true high))
  ends_part h =
      let a : ℕ = first_above f pg true high in
      let l : a < to = end_short f pg from to high some h in
      let g = high_at f pg from to high (omega arith) in
      record {
        low = omega arith;
        within = omega arith;
        upto = λ i p q. low_before f pg from to high i (omega arith);
        past = λ i p q. omega (arith, g, rises f pg (count pg) (rule_facts f C pg rule).order a i (omega arith) (omega arith));
        all = λ z. absurd (omega arith);
      }

  pub end_splits : Ends f pg from to high (end_of f pg from to high)
  end_splits =
      elim (dec_le (key_at f pg (to - 1)) high) [
        | yes h ↦ rw (end_all f pg from to high h) (ends_all h)
        | no h ↦ rw (end_part f pg from to high (omega arith)) (ends_part (omega arith))
      ]

-- as lists of records
module _ {f : Format} {pg : List ℕ} {from to high e : ℕ} (a : Ends f pg from to high e) where
  pub ends_upto : All (λ it. it.key ≤ high) (rows f pg from (e - from))
  ends_upto = all_rows f pg (λ it. it.key ≤ high) from (e - from) (λ j p q. a.upto j p (omega (arith, a.low)))

  pub ends_past : All (λ it. high < it.key) (rows f pg e (to - e))
  ends_past = all_rows f pg (λ it. high < it.key) e (to - e) (λ j p q. a.past j p (omega (arith, a.within)))

  pub ends_cut : rows f pg from (to - from) ≡ rows f pg from (e - from) ++ rows f pg e (to - e)
  ends_cut = rows_cut f pg from e to a.low a.within

-- records that next gives, and none
abbrev is_record_lem : Sought → Bool
is_record_lem Damaged = false
is_record_lem Nothing = false
is_record_lem (Record it) = true

module _ (f : Format) (s : List ℕ) (h : Head) where
  -- the records of a span
  abbrev pub rows_of : Span → List Item
  rows_of r = rows f (page_at f s h r.page) r.from (r.to - r.from)

  -- where those up to the key top end, and which they are
  abbrev pub stop_of : Span → ℕ → ℕ
  stop_of r top = end_of f (page_at f s h r.page) r.from r.to top

  abbrev pub up_to : Span → ℕ → List Item
  up_to r top = rows f (page_at f s h r.page) r.from (stop_of r top - r.from)

  abbrev beyond : Span → ℕ → List Item
  beyond r top = rows f (page_at f s h r.page) (stop_of r top) (r.to - stop_of r top)

  rows_follow :
      (pg : List ℕ) (n i : ℕ) (strict : Bool) (k : ℕ) → (1 ≤ n → next_of f s h strict k ≡ Record (item_at f pg i)) →
      ((j : ℕ) → i ≤ j → j + 1 < i + n → next_of f s h true (key_at f pg j) ≡ Record (item_at f pg (j + 1))) →
      Follows f s h strict k (rows f pg i n)
  rows_follow pg zero i strict k first on = subst (Follows f s h strict k) (sym (rows_none f pg i)) tt
  rows_follow pg (suc n) i strict k first on =
      subst (Follows f s h strict k) (sym (rows_next f pg i n)) (
        first (omega arith),
        rows_follow pg n (i + 1) true (key_at f pg i) (λ q. on i (omega arith) (omega arith)) (λ j p q. on j (omega arith) (omega arith)),
      )

  -- the span r from the key k on
  module _ (strict : Bool) (k : ℕ) (low : 1 ≤ h.levels) (high : h.levels ≤ 32) (r : Span) (is : r ≡ span_of f s h strict k) where
    next_is : next_of f s h strict k ≡ sought_of f s h r
    next_is = next_span f s h strict k low high ∙ ap (sought_of f s h) (sym is)

    pub span_lost : r.ok ≡ false → next_of f s h strict k ≡ Damaged
    span_lost o = next_is ∙ sym (sought_not f s h r o)

    pub span_none : r.ok ≡ true → r.page ≡ 0 → next_of f s h strict k ≡ Nothing
    span_none o z = next_is ∙ sym (sought_none f s h r o z)

    -- where next gives a record, the span has some
    pub span_some : (it : Item) → next_of f s h strict k ≡ Record it → (r.ok ≡ true) × (r.page ≡ 0 → ⊥)
    span_some it e =
        by_cases r.ok
        (λ o. (o, λ z. false≢true (ap is_record_lem (sym (span_none o z) ∙ e))))
        (λ o. absurd (false≢true (ap is_record_lem (sym (span_lost o) ∙ e))))

    pub span_full : (n : ℕ) → length (firsts f s h strict k (suc n)) ≡ suc n → (r.ok ≡ true) × (r.page ≡ 0 → ⊥)
    span_full n l = let a = firsts_full f s h strict k n l in span_some a.0 a.1

    module _ (o : r.ok ≡ true) (some : r.page ≡ 0 → ⊥) where
      sound : Rows f s h r × GoesOn f s h r
      sound =
          subst (λ (x : Span). x.ok ≡ true → (x.page ≡ 0 → ⊥) → Rows f s h x × GoesOn f s h x) (sym is)
          (span_rows f s h strict k low high) o some

      pub span_held : Rows f s h r
      span_held = sound.0

      pub span_first : next_of f s h strict k ≡ Record (item_at f (page_at f s h r.page) r.from)
      span_first = next_is ∙ sym (sought_first f s h r o some refl refl)

      -- its records follow one another
      pub span_follows : Follows f s h strict k (rows_of r)
      span_follows =
          rows_follow (page_at f s h r.page) (r.to - r.from) r.from strict k (λ q. span_first)
          (λ j p q. sound.1 j p (omega (arith, span_held.some)))

      pub span_last : key_after k (rows_of r) ≡ last_key f s h r
      span_last =
          let l = span_held.some in
          let e : r.from + (r.to - r.from) - 1 ≡ r.to - 1 = omega arith in
          rows_after f (page_at f s h r.page) k r.from (r.to - r.from) (omega arith) ∙ ap (key_at f (page_at f s h r.page)) e

      pub span_length : (length (rows_of r) ≡ r.to - r.from) × (1 ≤ length (rows_of r))
      span_length =
          let e = length_rows f (page_at f s h r.page) r.from (r.to - r.from) in
          (e, omega (arith, e, span_held.some))

      -- a summary and a range, after c records, over the span: where its last key is below top they go on behind it
      module _ (top : ℕ) where
        pub span_ends : Ends f (page_at f s h r.page) r.from r.to top (stop_of r top)
        span_ends =
            end_splits f h.capacity (page_at f s h r.page) r.from r.to top span_held.rule span_held.some
            span_held.within

        all_below : last_key f s h r < top → All (λ it. it.key < top) (rows_of r)
        all_below l = chain_below f s h strict k top (rows_of r) span_follows (omega (arith, span_last))

        cut_follows : Follows f s h strict k (up_to r top ++ beyond r top)
        cut_follows = subst (Follows f s h strict k) (ends_cut span_ends) span_follows

        reaches_top : top ≤ last_key f s h r → top ≤ key_after k (up_to r top ++ beyond r top)
        reaches_top l = subst (λ (x : List Item). top ≤ key_after k x) (ends_cut span_ends) (omega (arith, span_last))

        some_cut : 1 ≤ length (up_to r top) + length (beyond r top)
        some_cut =
            let pg = page_at f s h r.page in
            omega (
              arith,
              length_rows f pg r.from (stop_of r top - r.from),
              length_rows f pg (stop_of r top) (r.to - stop_of r top),
              span_held.some,
              span_ends.low,
              span_ends.within,
            )

        pub sum_goes : (today fuel : ℕ) (t : Totals) → last_key f s h r < top → length (rows_of r) ≤ fuel
            → sum_from f s h top today fuel strict k t
            ≡ sum_from f s h top today (fuel - length (rows_of r)) true (last_key f s h r) (totals_of t (rows_of r) today)
        sum_goes today fuel t l e =
            sum_pass f s h top today strict k fuel t (rows_of r) span_follows span_length.1 (all_below l) e
            ∙ ap (λ (x : ℕ). sum_from f s h top today (fuel - length (rows_of r)) true x (totals_of t (rows_of r) today)) span_last

        pub sum_stops : (today fuel : ℕ) (t : Totals) → top ≤ last_key f s h r → length (up_to r top) < fuel
            → sum_from f s h top today fuel strict k t ≡ done (totals_of t (up_to r top) today)
        sum_stops today fuel t l e =
            sum_stop f s h top today strict k fuel t (up_to r top) (beyond r top) cut_follows some_cut (reaches_top l) (ends_upto span_ends)
            (ends_past span_ends) e

        pub range_goes : (c fuel room : ℕ) → last_key f s h r < top → length (rows_of r) ≤ fuel → length (rows_of r) ≤ room
            → outcome c (range_from f s h top fuel strict k room)
            ≡ outcome (c + length (rows_of r))
            (range_from f s h top (fuel - length (rows_of r)) true (last_key f s h r) (room - length (rows_of r)))
        range_goes c fuel room l e q =
            range_pass f s h top strict k c fuel room (rows_of r) span_follows span_length.1 (all_below l) e q
            ∙ ap (λ (x : ℕ). outcome (c + length (rows_of r))
            (range_from f s h top (fuel - length (rows_of r)) true x (room - length (rows_of r)))) span_last

        pub range_stops : (c fuel room : ℕ) → top ≤ last_key f s h r → length (up_to r top) < fuel → length (up_to r top) ≤ room
            → outcome c (range_from f s h top fuel strict k room) ≡ record { ok = true; count = c + length (up_to r top); more = 0 }
        range_stops c fuel room l e q =
            range_stop f s h top strict k c fuel room (up_to r top) (beyond r top) cut_follows some_cut (reaches_top l) (ends_upto span_ends)
            (ends_past span_ends) e q

        -- no room for all of them that are up to top
        pub range_fills : (c fuel room : ℕ) → room < length (up_to r top) → room < fuel
            → outcome c (range_from f s h top fuel strict k room)
            ≡ record { ok = true; count = c + room; more = key_at f (page_at f s h r.page) (r.from + room) }
        range_fills c fuel room l e =
            let pg = page_at f s h r.page in
            let n = length_rows f pg r.from (stop_of r top - r.from) in
            let d : r.from + room < stop_of r top = omega arith in
            let w = span_ends.within in
            let cut : rows_of r
            ≡ rows f pg r.from room
            ++ (item_at f pg (r.from + room) ∷ rows f pg (r.from + room + 1) (r.to - r.from - room - 1)) =
            (let z : r.to - r.from ≡ room + suc (r.to - r.from - room - 1) = omega arith in
            ap (rows f pg r.from) z ∙ rows_split f pg r.from room (suc (r.to - r.from - room - 1))
            ∙ ap (λ (x : List Item). rows f pg r.from room ++ x) (rows_next f pg (r.from + room) (r.to - r.from - room - 1))) in
            range_full f s h top strict k c fuel room (rows f pg r.from room) (item_at f pg (r.from + room))
            (rows f pg (r.from + room + 1) (r.to - r.from - room - 1)) (subst (Follows f s h strict k) cut span_follows)
            (length_rows f pg r.from room) (span_ends.upto (r.from + room) (omega arith) d)
            (omega (arith, length_rows f pg r.from room))

    -- a span without records ends a walk
    module _ (none : r.ok ≡ true → r.page ≡ 0) where
      pub sum_end : (top today fuel : ℕ) (t : Totals) → 1 ≤ fuel → sum_from f s h top today fuel strict k t ≡ summing_of r.ok t
      unfolding summing_of
      sum_end top today fuel t l =
          by_cases r.ok
          (λ o. adds_nothing f s h top today fuel strict k t l (span_none o (none o)) ∙ ap (λ (b : Bool). summing_of b t) (sym o))
          (λ o. adds_damaged f s h top today fuel strict k t l (span_lost o) ∙ ap (λ (b : Bool). summing_of b t) (sym o))

      pub range_end : (top c fuel room : ℕ) → 1 ≤ fuel → outcome c (range_from f s h top fuel strict k room) ≡ listing_of r.ok c
      range_end top c fuel room l =
          by_cases r.ok
          (λ o. out_nothing f s h top c fuel strict k room l (span_none o (none o)) ∙ ap (λ (b : Bool). listing_of b c) (sym o))
          (λ o. out_damaged f s h top c fuel strict k room l (span_lost o) ∙ ap (λ (b : Bool). listing_of b c) (sym o))

-- totals with one record more
pub totals_more : (t : Totals) (its : List Item) (it : Item) (today : ℕ)
    → totals_of t (its ++ (it ∷ [])) today ≡ updated_of (totals_of t its today) it today
unfolding totals_of
totals_more t [] it today = refl
totals_more t (x ∷ its) it today = totals_more (updated_of t x today) its it today

-- the records of a span lie in its page, which the code has as pg
pub rows_lie : {f : Format} {s : List ℕ} {h : Head} {r : Span} → Under f s h → Rows f s h r → {pg : List ℕ} → pg ≡ page_at f s h r.page
    → (i : ℕ) → i < r.to → (i < 2 ^ 32) × (words f * (i + 1) < length pg)
rows_lie {f} {s} {h} {r} u w {pg} e i l =
    let k = rule_facts f h.capacity (page_at f s h r.page) w.rule in
    let q = filled f h.capacity (page_at f s h r.page) w.rule (page_lent f s h r.page) in
    (omega (arith, w.within, k.fits, (under_limits u).capacity), rw e (record_inside q (omega (arith, w.within))))
