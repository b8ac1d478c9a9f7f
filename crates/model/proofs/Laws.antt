-- Words as records, keys counted from the front, records moved, sheets, and the replies: one law for each step and way out.
use mathlib.Core.Path.{◌≡◌, refl, sym, ap, ap₂, ◌∙◌}
use mathlib.Core.Bool.{Bool, true, false, not, ◌&&◌, ◌||◌}
use mathlib.Core.List.{List}
use Prim.Native.Nat.{ℕ, zero, suc, ◌+◌, ◌-◌, ◌*◌, ◌/◌, ◌^◌, ◌≤◌, ◌<◌, min}
use native.Mathlib.Omega.{arith}
use lib.Dec.{eqb, ltb, leb}
use lib.ListN.{set}
use borrow.Author.Tests.{eq-eqb, ne_eqb, lt-ltb, le-ltb, le-leb, lt-leb, ltb-true, leb-true}
use Rattle.std.specs.Prelude.{Option, Some, None, unwrap_or}
use Rattle.std.specs.Option.{MatchOption}
use Rattle.lists.proofs.Tests.{same_test}
use Rattle.plot.specs.declared.Record.{Record}
use Rattle.plot.specs.Plot.{is_word, lawful_day, lawful_term, lawful}
use Rattle.plot.specs.Money.{days_left, amount}
use Rattle.plot.proofs.Laws.{amount_quotient}
use Rattle.store.specs.Head.{word}
use Rattle.raw.specs.Words.{alike}
use Rattle.raw.proofs.Steps.{steps_turn, steps_out, first_arm, second_arm}
use Rattle.harness.specs.declared.calls.Kind.{Kind}
use Rattle.harness.specs.declared.calls.Kind.TheVariants.{Find, Next, Range}
use Rattle.harness.specs.declared.calls.Reply.{Reply}
use Rattle.harness.specs.Calls.{refused, given, held_reply}
use Rattle.model.specs.declared.Sheet.{Sheet}
use Rattle.model.specs.Model.{place_of, record_at, with_record, leading, rank_of, rank_after, moved_up, moved_down, inserted, removed}
use Rattle.model.specs.Model.{holds_key, found_in, next_in, between_of, range_in, ahead_of, added_to, no_sheet, sheet_from, summary_in}
use Rattle.model.specs.Model.{listed_in}

-- a record, word by word
module _ (s : List ℕ) (i : ℕ) {p : ℕ} (at : p ≡ place_of i) where
  pub record_read : {a b c d : ℕ} → a ≡ word s p → b ≡ word s (p + 1) → c ≡ word s (p + 2) → d ≡ word s (p + 3)
      → record { key = a; price = b; lease = c; last = d } ≡ record_at s i
  unfolding record_at
  record_read ea eb ec ed = rw (ea, eb, ec, ed, at)

  pub record_put : (r : Record) {t u v w : List ℕ} → t ≡ set s p r.key → u ≡ set t (p + 1) r.price
      → v ≡ set u (p + 2) r.lease → w ≡ set v (p + 3) r.last → w ≡ with_record s i r
  unfolding with_record
  record_put r et eu ev ew =
      ew ∙ ap (λ l. set l (p + 3) r.last) (ev ∙ ap (λ l. set l (p + 2) r.lease) (eu ∙ ap (λ l. set l (p + 1) r.price) et))
      ∙ ap (λ q. set (set (set (set s q r.key) (q + 1) r.price) (q + 2) r.lease) (q + 3) r.last) at

-- numbers that pass a test, counted from 0 on
leading_all : (n : ℕ) (t : ℕ → Bool) → ((k : ℕ) → k < n → t k ≡ true) → n ≡ leading n t
unfolding leading
leading_all zero t h = refl
leading_all (suc n) t h =
    let m : ℕ = leading n (λ i. t (1 + i)) in
    let e : suc n ≡ 1 + m = omega (arith, leading_all n (λ i. t (1 + i)) (λ k q. h (1 + k) (omega arith))) in
    e ∙ first_arm (t 0) (1 + m) 0 (h 0 (omega arith))

leading_stop : (n : ℕ) (t : ℕ → Bool) (i : ℕ) → i < n → ((k : ℕ) → k < i → t k ≡ true) → t i ≡ false → i ≡ leading n t
unfolding leading
leading_stop zero t i l h e = absurd (omega arith)
leading_stop (suc n) t zero l h e = second_arm (t 0) (1 + leading n (λ i. t (1 + i))) 0 e
leading_stop (suc n) t (suc i) l h e =
    let m : ℕ = leading n (λ j. t (1 + j)) in
    let q : 1 + i ≡ suc i = omega arith in
    let r = leading_stop n (λ j. t (1 + j)) i (omega arith) (λ k w. h (1 + k) (omega arith)) (ap t q ∙ e) in
    let f : suc i ≡ 1 + m = omega (arith, r) in
    f ∙ first_arm (t 0) (1 + m) 0 (h 0 (omega arith))

module _ (s : List ℕ) (k : ℕ) where
  -- the key at a place is below k
  abbrev pub below : ℕ → Bool
  below i = ltb (word s (place_of i)) k

  -- the first key that is not below k, if any
  pub rank_found : (r : Option ℕ) {n : ℕ} → n ≡ word s 0
      → MatchOption r ((i : ℕ) → 0 ≤ i → i < n → word s (place_of i) < k)
      (λ i. (0 ≤ i) × (i < n) × (k ≤ word s (place_of i)) × ((j : ℕ) → 0 ≤ j → j < i → word s (place_of j) < k))
      → unwrap_or r n ≡ rank_of s k
  unfolding rank_of
  rank_found None e h =
      e ∙ leading_all (word s 0) below (λ i l. lt-ltb (word s (place_of i)) k (h i (omega arith) (omega (arith, e))))
  rank_found (Some i) e h =
      leading_stop (word s 0) below i (omega (arith, e, h.1)) (λ j l. lt-ltb (word s (place_of j)) k (h.3 j (omega arith) l))
      (le-ltb (word s (place_of i)) k h.2)

-- how many keys are at most a key
module _ (s : List ℕ) (k : ℕ) {r : ℕ} where
  pub after_all_lem : k ≡ 2 ^ 32 - 1 → r ≡ word s 0 → r ≡ rank_after s k
  unfolding rank_after
  after_all_lem e er = er ∙ first_arm (eqb k (2 ^ 32 - 1)) _ _ (eq-eqb k (2 ^ 32 - 1) e)

  pub after_rank : (k ≡ 2 ^ 32 - 1 → ⊥) → r ≡ rank_of s (k + 1) → r ≡ rank_after s k
  unfolding rank_after
  after_rank e er = er ∙ second_arm (eqb k (2 ^ 32 - 1)) _ _ (ne_eqb k (2 ^ 32 - 1) e)

-- records moved up by one: a turn and the end
module _ (s₀ s : List ℕ) (at m i : ℕ) (h : moved_up s at (i - at) ≡ moved_up s₀ at (m - at)) where
  pub up_more : {t : List ℕ} {r : Record} → at < i → r ≡ record_at s (i - 1) → t ≡ with_record s (i - 1 + 1) r
      → moved_up t at (i - 1 - at) ≡ moved_up s₀ at (m - at)
  unfolding moved_up
  up_more l er et =
      let n : i - at ≡ suc (i - 1 - at) = omega arith in
      let p : i - 1 + 1 ≡ at + (i - 1 - at) + 1 = omega arith in
      let q : i - 1 ≡ at + (i - 1 - at) = omega arith in
      ap (λ x. moved_up x at (i - 1 - at)) (et ∙ ap₂ (with_record s) p (er ∙ ap (record_at s) q))
      ∙ ap (moved_up s at) (sym n) ∙ h

  pub up_done : {n : ℕ} → i ≤ at → m ≡ n → s ≡ moved_up s₀ at (n - at)
  unfolding moved_up
  up_done l e = let z : 0 ≡ i - at = omega arith in ap (moved_up s at) z ∙ h ∙ ap (λ x. moved_up s₀ at (x - at)) e

-- records moved down by one
module _ (s₀ s : List ℕ) (at i n : ℕ) (h : moved_down s i (n - i) ≡ moved_down s₀ at (n - at)) where
  pub down_more : {t : List ℕ} {r : Record} → i < n → r ≡ record_at s (i + 1) → t ≡ with_record s i r
      → moved_down t (i + 1) (n - (i + 1)) ≡ moved_down s₀ at (n - at)
  unfolding moved_down
  down_more l er et = steps_turn _ s i n h l (et ∙ ap (with_record s i) er)

  pub down_done : {m : ℕ} → n ≤ i → n ≡ m → s ≡ moved_down s₀ at (m - at)
  unfolding moved_down
  down_done l e = steps_out _ s i n h l ∙ ap (λ x. moved_down s₀ at (x - at)) e

-- a record put in order, and one taken out
module _ (s : List ℕ) (r : Record) {n : ℕ} (en : n ≡ word s 0) where
  pub insert_done : {i : ℕ} {t u v : List ℕ} → i ≡ rank_of s r.key → n < 2 ^ 32 - 1 → t ≡ moved_up s i (word s 0 - i)
      → u ≡ with_record t i r → v ≡ set u 0 (n + 1) → v ≡ inserted s r
  unfolding inserted
  insert_done ei l et eu ev =
      ev ∙ ap₂ (λ x y. set x 0 (y + 1)) (eu ∙ ap₂ (λ x y. with_record x y r) (et ∙ ap (λ y. moved_up s y (word s 0 - y)) ei) ei) en
      ∙ first_arm (ltb (word s 0) (2 ^ 32 - 1)) _ _ (lt-ltb (word s 0) (2 ^ 32 - 1) (omega (arith, en)))

  pub insert_full : 2 ^ 32 - 1 ≤ n → s ≡ inserted s r
  unfolding inserted
  insert_full l = second_arm (ltb (word s 0) (2 ^ 32 - 1)) _ _ (le-ltb (word s 0) (2 ^ 32 - 1) (omega (arith, en)))

module _ (s : List ℕ) (k : ℕ) {n : ℕ} (en : n ≡ word s 0) where
  pub remove_done : {i : ℕ} {t u : List ℕ} → i ≡ rank_of s k → 0 < n → t ≡ moved_down s i (word s 0 - i) → u ≡ set t 0 (n - 1)
      → u ≡ removed s k
  unfolding removed
  remove_done ei l et eu =
      eu ∙ ap₂ (λ x y. set x 0 (y - 1)) (et ∙ ap (λ y. moved_down s y (word s 0 - y)) ei) en
      ∙ first_arm (ltb 0 (word s 0)) _ _ (lt-ltb 0 (word s 0) (omega (arith, en)))

  pub remove_none : n ≤ 0 → s ≡ removed s k
  unfolding removed
  remove_none l = second_arm (ltb 0 (word s 0)) _ _ (le-ltb 0 (word s 0) (omega (arith, en)))

-- a key that is held
module _ (s : List ℕ) (k : ℕ) where
  pub holds_not : k ≡ 0 → not (eqb k 0) ≡ holds_key s k
  unfolding holds_key
  holds_not e = let z = eq-eqb k 0 e in ap not z ∙ sym (ap (λ x. not x && eqb (record_at s (rank_of s k)).key k) z)

  pub holds_if : {i : ℕ} {r : Record} → (k ≡ 0 → ⊥) → i ≡ rank_of s k → r ≡ record_at s i → eqb r.key k ≡ holds_key s k
  unfolding holds_key
  holds_if e ei er =
      ap (λ x. eqb x.key k) (er ∙ ap (record_at s) ei)
      ∙ sym (ap (λ x. not x && eqb (record_at s (rank_of s k)).key k) (ne_eqb k 0 e))

-- below n + 1 is at most n
same_bound : (a n : ℕ) → ltb a (n + 1) ≡ leb a n
same_bound a n =
    same_test (ltb a (n + 1)) (leb a n) (λ e. le-leb a n (omega (arith, ltb-true a (n + 1) e)))
    (λ e. lt-ltb a (n + 1) (omega (arith, leb-true a n e)))

-- a record's limits, by the function's tests
module _ (r : Record) (k : r.key < 2 ^ 32) (p : r.price < 2 ^ 32) where
  words : lawful r ≡ (not (eqb r.key 0) && lawful_term r.lease r.last)
  unfolding lawful is_word
  words =
      ap₂ (λ x y. x && (not (eqb r.key 0) && (y && lawful_term r.lease r.last))) (lt-ltb r.key (2 ^ 32) k)
      (lt-ltb r.price (2 ^ 32) p)

  pub lawful_keyless : r.key ≡ 0 → false ≡ lawful r
  lawful_keyless e = sym (words ∙ ap (λ x. not x && lawful_term r.lease r.last) (eq-eqb r.key 0 e))

  module _ (e : r.key ≡ 0 → ⊥) where
    keyed : lawful_term r.lease r.last ≡ lawful r
    keyed = sym (words ∙ ap (λ x. not x && lawful_term r.lease r.last) (ne_eqb r.key 0 e))

    pub lawful_perpetual : r.lease ≡ 0 → eqb r.last 0 ≡ lawful r
    unfolding lawful_term
    lawful_perpetual l = first_arm (eqb r.lease 0) _ _ (eq-eqb r.lease 0 l) ∙ keyed

    module _ (l : r.lease ≡ 0 → ⊥) where
      leased : (ltb r.lease 36526 && ltb r.last 100000) ≡ lawful r
      unfolding lawful_term lawful_day
      leased =
          ap₂ ◌&&◌ (same_bound r.lease 36525) (same_bound r.last 99999)
          ∙ second_arm (eqb r.lease 0) _ _ (ne_eqb r.lease 0 l) ∙ keyed

      pub lawful_leased : r.lease < 36526 → ltb r.last 100000 ≡ lawful r
      lawful_leased q = sym (ap (λ x. x && ltb r.last 100000) (lt-ltb r.lease 36526 q)) ∙ leased

      pub lawful_long : 36526 ≤ r.lease → ltb r.lease 36526 ≡ lawful r
      lawful_long q =
          let e = le-ltb r.lease 36526 q in e ∙ sym (ap (λ x. x && ltb r.last 100000) e) ∙ leased

-- a balance
pub balance_quotient : (price lease last today : ℕ) {d n w : ℕ} → d ≡ lease → n ≡ days_left lease last today → w ≡ price * n
    → w / d ≡ amount price lease last today
balance_quotient price lease last today ed en ew = rw (ew, en, ed) (sym (amount_quotient price lease last today))

-- a sheet with one record more
module _ (sh : Sheet) (r : Record) (today : ℕ) {n b sum : ℕ} {a : Bool} (en : n ≡ min (sh.count + 1) (2 ^ 64 - 1))
    (eb : b ≡ amount r.price r.lease r.last today) (es : sum ≡ min (sh.total + b) (2 ^ 64 - 1)) (ea : a ≡ ahead_of sh r) where
  abbrev total : sum ≡ min (sh.total + amount r.price r.lease r.last today) (2 ^ 64 - 1)
  total = es ∙ ap (λ x. min (sh.total + x) (2 ^ 64 - 1)) eb

  abbrev earlier : Bool → Bool
  earlier x = ltb 0 r.lease && (eqb sh.key 0 || x)

  -- the sheet with its first record's last day, price and key
  abbrev sheet_of : ℕ → ℕ → ℕ → ℕ → ℕ → Sheet
  sheet_of last price key count sum = record { count = count; total = sum; last = last; price = price; key = key }

  pub added_first : earlier a ≡ true → sheet_of r.last r.price r.key n sum ≡ added_to sh r today
  unfolding added_to
  added_first e =
      ap₂ (sheet_of r.last r.price r.key) en total
      ∙ first_arm (earlier (ahead_of sh r)) _ _ (ap earlier (sym ea) ∙ e)

  pub added_later : earlier a ≡ false → sheet_of sh.last sh.price sh.key n sum ≡ added_to sh r today
  unfolding added_to
  added_later e =
      ap₂ (sheet_of sh.last sh.price sh.key) en total
      ∙ second_arm (earlier (ahead_of sh r)) _ _ (ap earlier (sym ea) ∙ e)

-- a sheet with the records from place i to place n
module _ (s : List ℕ) (today : ℕ) (sh : Sheet) (i₀ i n : ℕ)
    (h : sheet_from s today sh i (n - i) ≡ sheet_from s today no_sheet i₀ (n - i₀)) where
  pub sheet_more : {sh' : Sheet} {r : Record} → i < n → r ≡ record_at s i → sh' ≡ added_to sh r today
      → sheet_from s today sh' (i + 1) (n - (i + 1)) ≡ sheet_from s today no_sheet i₀ (n - i₀)
  unfolding sheet_from
  sheet_more l er es = steps_turn _ sh i n h l (es ∙ ap (λ x. added_to sh x today) er)

  pub sheet_done : (low high : ℕ) → n ≤ i → i₀ ≡ rank_of s low → n ≡ rank_after s high
      → sh ≡ sheet_from s today no_sheet (rank_of s low) (between_of s low high)
  unfolding sheet_from between_of
  sheet_done low high l e f = steps_out _ sh i n h l ∙ ap₂ (λ x y. sheet_from s today no_sheet x (y - x)) e f

-- the replies of find and next
module _ (s : List ℕ) (k : ℕ) {a : Reply} where
  pub find_held : {b : Bool} {i : ℕ} {r : Record} → b ≡ holds_key s k → b ≡ true → i ≡ rank_of s k → r ≡ record_at s i → a ≡ held_reply r
      → a ≡ found_in s k
  unfolding found_in
  find_held eb e ei er ea = ea ∙ ap held_reply (er ∙ ap (record_at s) ei) ∙ first_arm (holds_key s k) _ _ (sym eb ∙ e)

  pub find_none : {b : Bool} → b ≡ holds_key s k → b ≡ false → a ≡ refused 1 → a ≡ found_in s k
  unfolding found_in
  find_none eb e ea = ea ∙ second_arm (holds_key s k) _ _ (sym eb ∙ e)

  module _ {i n : ℕ} (ei : i ≡ rank_after s k) (en : n ≡ word s 0) where
    pub next_held : {r : Record} → i < n → r ≡ record_at s i → a ≡ held_reply r → a ≡ next_in s k
    unfolding next_in
    next_held l er ea =
        ea ∙ ap held_reply (er ∙ ap (record_at s) ei)
        ∙ first_arm (ltb (rank_after s k) (word s 0)) _ _ (lt-ltb (rank_after s k) (word s 0) (omega (arith, ei, en)))

    pub next_none : n ≤ i → a ≡ refused 1 → a ≡ next_in s k
    unfolding next_in
    next_none l ea =
        ea ∙ second_arm (ltb (rank_after s k) (word s 0)) _ _ (le-ltb (rank_after s k) (word s 0) (omega (arith, ei, en)))

-- the replies of range and summary
module _ (s : List ℕ) (low high : ℕ) {a : Reply} where
  module _ (room : ℕ) where
    pub range_refused_lem : high < low → a ≡ refused 7 → a ≡ range_in s low high room
    unfolding range_in
    range_refused_lem l ea = ea ∙ first_arm (ltb high low) _ _ (lt-ltb high low l)

    module _ {n : ℕ} (l : low ≤ high) (en : n ≡ between_of s low high) where
      pub range_whole : n ≤ room / 4 → a ≡ given n 0 0 0 → a ≡ range_in s low high room
      unfolding range_in
      range_whole q ea =
          ea ∙ ap (λ x. given x 0 0 0) en
          ∙ first_arm (leb (between_of s low high) (room / 4)) _ _ (le-leb (between_of s low high) (room / 4) (omega (arith, en)))
          ∙ second_arm (ltb high low) _ _ (le-ltb high low l)

      pub range_part : {i j : ℕ} {r : Record} → room / 4 < n → i ≡ rank_of s low → j ≡ min (i + room / 4) (2 ^ 32 - 1) → r ≡ record_at s j
          → a ≡ given (room / 4) r.key 0 0 → a ≡ range_in s low high room
      unfolding range_in
      range_part q ei ej er ea =
          ea
          ∙ ap (λ x. given (room / 4) x.key 0 0)
          (er ∙ ap (record_at s) (ej ∙ ap (λ x. min (x + room / 4) (2 ^ 32 - 1)) ei))
          ∙ second_arm (leb (between_of s low high) (room / 4)) _ _ (lt-leb (between_of s low high) (room / 4) (omega (arith, en)))
          ∙ second_arm (ltb high low) _ _ (le-ltb high low l)

  module _ (today : ℕ) where
    pub summary_refused_lem : high < low → a ≡ refused 7 → a ≡ summary_in s low high today
    unfolding summary_in
    summary_refused_lem l ea = ea ∙ first_arm (ltb high low) _ _ (lt-ltb high low l)

    module _ (l : low ≤ high) where
      pub summary_late : 99999 < today → a ≡ refused 6 → a ≡ summary_in s low high today
      unfolding summary_in
      summary_late q ea =
          ea ∙ first_arm (ltb 99999 today) _ _ (lt-ltb 99999 today q) ∙ second_arm (ltb high low) _ _ (le-ltb high low l)

      pub summary_given : {sh : Sheet} {k : ℕ} → today ≤ 99999 → sh ≡ sheet_from s today no_sheet (rank_of s low) (between_of s low high)
          → k ≡ sh.key → a ≡ given sh.count sh.total k 0 → a ≡ summary_in s low high today
      unfolding summary_in
      summary_given {sh} q es ek ea =
          ea ∙ ap (λ x. given sh.count sh.total x 0) ek ∙ ap (λ x. given x.count x.total x.key 0) es
          ∙ second_arm (ltb 99999 today) _ _ (le-ltb 99999 today q) ∙ second_arm (ltb high low) _ _ (le-ltb high low l)

-- a kind that is none of those named
pub other_reading : {A : Type 0} (k : Kind) (f n r : A) {s : A} → (k ≡ Find → ⊥) → (k ≡ Next → ⊥) → (k ≡ Range → ⊥)
    → s ≡ elim k [ Find ↦ f | Next ↦ n | Range ↦ r | _ ↦ s ]
other_reading Find f n r a b c = absurd (a refl)
other_reading Next f n r a b c = absurd (b refl)
other_reading Range f n r a b c = absurd (c refl)
other_reading _ f n r a b c = refl

-- records that are the list's
pub listed_is : (s : List ℕ) (low : ℕ) (out : List ℕ) (n : ℕ) {b : Bool} {i p m : ℕ}
    → b ≡ alike out 0 s p (4 * m) → i ≡ rank_of s low → p ≡ place_of i → m ≡ n → b ≡ listed_in s low out n
unfolding listed_in
listed_is s low out n eb ei ep em = eb ∙ ap₂ (λ x y. alike out 0 s x (4 * y)) (ep ∙ ap place_of ei) em
