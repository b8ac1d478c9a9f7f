-- Next by spans: the first record of a span is next's, and within it next goes from record to record.
--   GoesOn f s h r == next goes from each record of the span r to the one after it
use mathlib.Core.Path.{◌≡◌, refl, sym, ap, ◌∙◌, subst}
use mathlib.Core.Bool.{Bool, true, false, false≢true}
use mathlib.Core.List.{List}
use Prim.Native.Nat.{ℕ, ◌+◌, ◌-◌, ◌/◌, ◌^◌, ◌≤◌, ◌<◌}
use native.Mathlib.Decide.{dec_lt}
use native.Mathlib.Omega.{arith}
use lib.ListN.{get_or}
use borrow.Author.Tests.{eqb-true, lt-ltb, le-ltb, eq-eqb, ne_eqb}
use Rattle.lists.proofs.Cases.{by_cases}
use Rattle.lists.proofs.Tests.{and_true, and_three}
use Rattle.store.specs.declared.Format.{Format}
use Rattle.store.specs.declared.Head.{Head}
use Rattle.store.specs.declared.Item.{Item}
use Rattle.store.specs.Format.{width}
use Rattle.store.specs.Head.{page_at}
use Rattle.page.specs.Page.{count, item_at, key_at, page_rule, agrees, above, first_above}
use Rattle.page.proofs.Laws.{rule_facts, agrees_facts, facts_agrees}
use Rattle.search.specs.Way.{Visit}
use Rattle.search.specs.Way.{Terminal}
use Rattle.search.specs.Way.{Span}
use Rattle.search.specs.Way.{Record, Nothing, Damaged}
use Rattle.search.specs.Way.{Reached}
use Rattle.search.specs.Way.{Page, Past, Broken}
use Rattle.search.specs.Descent.{no_step, descent, terminal, own_visit}
use Rattle.search.specs.Find.{sound_page}
use Rattle.search.specs.Next.{run_behind, reach, visit_after, visited, behind, after_own, next_of}
use Rattle.search.specs.Span.{no_span, comes_back, rows_from, first_row, reached_rows, reached_span, own_span, span_at, span_of, sought_of}
use Rattle.search.specs.Span.{GoesBehind, Rows}
use Rattle.search.proofs.FindLaws.{sound_rule, Led}
use Rattle.search.proofs.NextLaws.{visit_broken, visit_below, visit_gives, Some, reach_some}
use Rattle.search.proofs.FromLaws.{from_lost, from_null, from_unsound, from_found, from_after}
use Rattle.search.proofs.TerminalLaws.{terminal_ok, terminal_ended, terminal_sound, terminal_same, node_same, behind_same}
use Rattle.search.proofs.WithinLaws.{first_after, same_end, next_within}

-- the first record of a span
module _ (f : Format) (s : List ℕ) (h : Head) (r : Span) where
  pub sought_not : r.ok ≡ false → Damaged ≡ sought_of f s h r
  unfolding sought_of
  sought_not o = sym (rw (o, sought_of))

  module _ (o : r.ok ≡ true) where
    pub sought_none : r.page ≡ 0 → Nothing ≡ sought_of f s h r
    unfolding sought_of
    sought_none z = sym (rw (o, eq-eqb _ _ z, sought_of))

    pub sought_first : (r.page ≡ 0 → ⊥) → {pg : List ℕ} {it : Item} → pg ≡ page_at f s h r.page → it ≡ item_at f pg r.from
        → Record it ≡ sought_of f s h r
    unfolding sought_of
    sought_first z e ei = ap Record (rw e at ei) ∙ sym (rw (o, ne_eqb _ _ z, sought_of))

-- a page reached after the key's own: all its records, or the first one
module _ (f : Format) (s : List ℕ) (h : Head) (k n u p : ℕ) where
  abbrev first_key_lem : ℕ
  first_key_lem = key_at f (page_at f s h p) 0

  abbrev back : Visit
  back = own_visit f s h first_key_lem n u

  pub rows_all : comes_back f s h k n u p ≡ true → reached_rows f s h k n u p ≡ rows_from f s h n u back 0
  unfolding reached_rows
  rows_all b = rw (b, reached_rows)

  pub rows_one : comes_back f s h k n u p ≡ false → reached_rows f s h k n u p ≡ first_row n u p first_key_lem
  unfolding reached_rows
  rows_one b = rw (b, reached_rows)

  -- the first key agrees with k in the used bits, its entry leads to the page, and the page's other keys agree with it
  back_facts : comes_back f s h k n u p ≡ true
      → (first_key_lem / 2 ^ (width f - u) ≡ k / 2 ^ (width f - u)) × (back.pointer ≡ p)
      × (agrees f (page_at f s h p) first_key_lem (u + back.depth) ≡ true)
  unfolding comes_back
  back_facts b = let c = and_three _ _ _ b in (eqb-true _ _ c.0, eqb-true _ _ c.1, c.2)

  -- they stand in the page that was reached
  pub rows_page : (reached_rows f s h k n u p).page ≡ p
  unfolding reached_rows rows_from first_row own_visit
  rows_page =
      by_cases (comes_back f s h k n u p) (λ b. rw (b, reached_rows) (back_facts b).1) (λ b. rw (b, reached_rows))

  rows_first : (p ≡ 0 → ⊥) → sought_of f s h (reached_rows f s h k n u p) ≡ Record (item_at f (page_at f s h p) 0)
  unfolding rows_from first_row
  rows_first some =
      by_cases (comes_back f s h k n u p)
      (λ b.
      let e = (back_facts b).1 in
      ap (sought_of f s h) (rows_all b) ∙ sym (sought_first f s h _ refl (λ z. some (sym e ∙ z)) (ap (page_at f s h) (sym e)) refl))
      (λ b. ap (sought_of f s h) (rows_one b) ∙ sym (sought_first f s h _ refl some refl refl))

module _ (f : Format) (s : List ℕ) (h : Head) (strict : Bool) (k : ℕ) where
  -- a page reached after the key's own
  module _ (n u p : ℕ) where
    pub reached_gives : page_rule f h.capacity (page_at f s h p) ≡ true → above strict k (key_at f (page_at f s h p) 0) ≡ true
        → reached_span f s h strict k n u (Page p) ≡ reached_rows f s h k n u p
    unfolding reached_span
    reached_gives t a = rw (t, a, reached_span)

    pub reached_below : page_rule f h.capacity (page_at f s h p) ≡ true → above strict k (key_at f (page_at f s h p) 0) ≡ false
        → reached_span f s h strict k n u (Page p) ≡ no_span false
    unfolding reached_span
    reached_below t a = rw (t, a, reached_span)

    pub reached_broken : page_rule f h.capacity (page_at f s h p) ≡ false → reached_span f s h strict k n u (Page p) ≡ no_span false
    unfolding reached_span
    reached_broken t = rw (t, reached_span)

    reached_page : (p ≡ 0 → ⊥) → sought_of f s h (reached_span f s h strict k n u (Page p)) ≡ visit_after f s h strict k p
    unfolding no_span
    reached_page some =
        by_cases (page_rule f h.capacity (page_at f s h p))
        (λ t.
        by_cases (above strict k (key_at f (page_at f s h p) 0))
        (λ a.
        ap (sought_of f s h) (reached_gives t a) ∙ rows_first f s h k n u p some
        ∙ visit_gives f s h strict k p refl t refl a)
        (λ a. ap (sought_of f s h) (reached_below t a) ∙ sym (sought_not f s h _ refl) ∙ visit_below f s h strict k p refl t refl a))
        (λ t. ap (sought_of f s h) (reached_broken t) ∙ sym (sought_not f s h _ refl) ∙ visit_broken f s h strict k p refl t)

  pub reached_past : (n u : ℕ) → reached_span f s h strict k n u Past ≡ no_span true
  unfolding reached_span
  reached_past n u = refl

  pub reached_lost : (n u : ℕ) → reached_span f s h strict k n u Broken ≡ no_span false
  unfolding reached_span
  reached_lost n u = refl

  reached_sought : (n u : ℕ) (a : Reached) → Some s h a → sought_of f s h (reached_span f s h strict k n u a) ≡ visited f s h strict k a
  unfolding visited no_span
  reached_sought n u (Page p) some = reached_page n u p some
  reached_sought n u Past some = ap (sought_of f s h) (reached_past n u) ∙ sym (sought_none f s h _ refl refl)
  reached_sought n u Broken some = ap (sought_of f s h) (reached_lost n u) ∙ sym (sought_not f s h _ refl)

  behind_some : (n d i : ℕ) → Some s h (behind s h n d i)
  unfolding behind
  behind_some n d i = reach_some s h _ _ _

  -- from the key's entry v in its terminal node n, reached after u bits
  module _ (n u : ℕ) (v : Visit) where
    abbrev after : Span
    after = reached_span f s h strict k n u (behind s h n v.depth v.entry)

    pub own_null : v.pointer ≡ 0 → own_span f s h strict k n u v ≡ after
    unfolding own_span
    own_null z = rw (eq-eqb v.pointer 0 z, own_span)

    module _ (z : v.pointer ≡ 0 → ⊥) where
      abbrev own_page : List ℕ
      own_page = page_at f s h v.pointer

      pub own_unsound : sound_page f h own_page k (u + v.depth) ≡ false → own_span f s h strict k n u v ≡ no_span false
      unfolding own_span
      own_unsound p = rw (ne_eqb v.pointer 0 z, p, own_span)

      module _ (p : sound_page f h own_page k (u + v.depth) ≡ true) where
        pub own_rows : first_above f own_page strict k < count own_page
            → own_span f s h strict k n u v ≡ rows_from f s h n u v (first_above f own_page strict k)
        unfolding own_span
        own_rows l = rw (ne_eqb v.pointer 0 z, p, lt-ltb _ _ l, own_span)

        pub own_after : count own_page ≤ first_above f own_page strict k → own_span f s h strict k n u v ≡ after
        unfolding own_span
        own_after l = rw (ne_eqb v.pointer 0 z, p, le-ltb _ _ l, own_span)

  pub at_lost : (t : Terminal) → t.ok ≡ false → span_at f s h strict k t ≡ no_span false
  unfolding span_at
  at_lost t o = rw (o, span_at)

  pub at_terminal : (t : Terminal) → t.ok ≡ true
      → span_at f s h strict k t ≡ own_span f s h strict k t.node t.used (own_visit f s h k t.node t.used)
  unfolding span_at
  at_terminal t o = rw (o, span_at)

  -- the first record of a span is next's
  module _ (low : 1 ≤ h.levels) (high : h.levels ≤ 32) where
    abbrev end : Terminal
    end = terminal f s h k

    abbrev own : Visit
    own = own_visit f s h k end.node end.used

    next_after : (o : (terminal f s h k).ok ≡ true)
        → after_own f s h strict k (get_or (descent f s h k).steps 0 no_step) ≡ sought_of f s h (after end.node end.used own)
    unfolding after_own
    next_after o =
        rw (terminal_ended f s h k low high o).step
        (sym (reached_sought end.node end.used _ (behind_some end.node own.depth own.entry)))

    next_own : (o : (terminal f s h k).ok ≡ true)
        → next_of f s h strict k ≡ sought_of f s h (own_span f s h strict k end.node end.used own)
    unfolding no_span rows_from
    next_own o =
        let e = terminal_ended f s h k low high o in
        let d = descent f s h k in
        let ok : d.ok ≡ true = terminal_ok f s h k low ∙ o in
        elim (dec_lt 0 own.pointer) [
          | no q ↦
              let z : own.pointer ≡ 0 = omega arith in
              sym (from_null f s h strict k d refl ok (e.page ∙ z)) ∙ next_after o
              ∙ ap (sought_of f s h) (sym (own_null end.node end.used own z))
          | yes q ↦
              let z : own.pointer ≡ 0 → ⊥ = λ y. omega arith in
              let led : Led f s h k d (page_at f s h own.pointer) =
              record { way = refl; ok = ok; some = λ q. z (sym e.page ∙ q); page = ap (page_at f s h) (sym e.page) } in
              by_cases (sound_page f h (page_at f s h own.pointer) k (end.used + own.depth))
              (λ p.
              elim (dec_lt (first_above f (page_at f s h own.pointer) strict k) (count (page_at f s h own.pointer))) [
                | yes l ↦
                    sym (from_found strict led (rw e.used p) refl refl refl l)
                    ∙ sought_first f s h _ refl z refl refl
                    ∙ ap (sought_of f s h) (sym (own_rows end.node end.used own z p l))
                | no l ↦
                    sym (from_after strict led (rw e.used p) refl refl (omega arith))
                    ∙ next_after o
                    ∙ ap (sought_of f s h) (sym (own_after end.node end.used own z p (omega arith)))
              ])
              (λ p.
              sym (from_unsound strict led (rw e.used p)) ∙ sought_not f s h _ refl
              ∙ ap (sought_of f s h) (sym (own_unsound end.node end.used own z p)))
        ]

    pub next_span : next_of f s h strict k ≡ sought_of f s h (span_of f s h strict k)
    unfolding no_span
    next_span =
        by_cases (terminal f s h k).ok
        (λ o. next_own o ∙ ap (sought_of f s h) (sym (at_terminal end o)))
        (λ o.
        sym (from_lost f s h strict k (descent f s h k) refl (terminal_ok f s h k low ∙ o)) ∙ sought_not f s h _ refl
        ∙ ap (sought_of f s h) (sym (at_lost end o)))

-- a span with records: next goes from each to the one after it
abbrev pub GoesOn : Format → List ℕ → Head → Span → Type 0
GoesOn f s h r =
    (i : ℕ) → r.from ≤ i → i + 1 < r.to
    → next_of f s h true (key_at f (page_at f s h r.page) i) ≡ Record (item_at f (page_at f s h r.page) (i + 1))

-- P holds of the rows from number i on of the page to which the key x leads, whose terminal node is t
abbrev OfRows : Format → List ℕ → Head → (Span → Type 0) → ℕ → ℕ → Terminal → Type 0
OfRows f s h P x i t =
    let v = own_visit f s h x t.node t.used in
    let pg = page_at f s h v.pointer in
    t.ok ≡ true → sound_page f h pg x (t.used + v.depth) ≡ true → i < count pg → P (rows_from f s h t.node t.used v i)

-- what holds of each kind of span holds of every one: of none, of a first row that stands alone, and of the rows of a page to which a key x
-- leads whose terminal node is that of k
module _ (f : Format) (s : List ℕ) (h : Head) (strict : Bool) (k : ℕ) (P : Span → Type 0) (none : (b : Bool) → P (no_span b))
    (alone :
    (p : ℕ) → page_rule f h.capacity (page_at f s h p) ≡ true
    → let t = terminal f s h k in t.ok ≡ true → P (first_row t.node t.used p (key_at f (page_at f s h p) 0)))
    (rows : (x i : ℕ) → terminal f s h x ≡ terminal f s h k → OfRows f s h P x i (terminal f s h x)) where
  abbrev there : Terminal
  there = terminal f s h k

  abbrev entry : Visit
  entry = own_visit f s h k there.node there.used

  abbrev leaf : List ℕ
  leaf = page_at f s h entry.pointer

  reached_rows_lem : there.ok ≡ true → (p : ℕ) → page_rule f h.capacity (page_at f s h p) ≡ true
      → P (reached_rows f s h k there.node there.used p)
  unfolding sound_page
  reached_rows_lem o p t =
      let n : ℕ = there.node in
      let u : ℕ = there.used in
      by_cases (comes_back f s h k n u p)
      (λ b.
      let x : ℕ = key_at f (page_at f s h p) 0 in
      let c = back_facts f s h k n u p b in
      let e = terminal_same f s h k x o c.0 in
      subst P (sym (rows_all f s h k n u p b))
      (subst (OfRows f s h P x 0) e (rows x 0 e) o (rw (c.1, t, c.2)) (rw c.1 (rule_facts f h.capacity (page_at f s h p) t).some)))
      (λ b. subst P (sym (rows_one f s h k n u p b)) (alone p t o))

  page_kind : there.ok ≡ true → (p : ℕ) → P (reached_span f s h strict k there.node there.used (Page p))
  page_kind o p =
      by_cases (page_rule f h.capacity (page_at f s h p))
      (λ t.
      by_cases (above strict k (key_at f (page_at f s h p) 0))
      (λ a. subst P (sym (reached_gives f s h strict k _ _ p t a)) (reached_rows_lem o p t))
      (λ a. subst P (sym (reached_below f s h strict k _ _ p t a)) (none false)))
      (λ t. subst P (sym (reached_broken f s h strict k _ _ p t)) (none false))

  reached_kind : there.ok ≡ true → (a : Reached) → P (reached_span f s h strict k there.node there.used a)
  reached_kind o (Page p) = page_kind o p
  reached_kind o Past = subst P (sym (reached_past f s h strict k _ _)) (none true)
  reached_kind o Broken = subst P (sym (reached_lost f s h strict k _ _)) (none false)

  own_kind : there.ok ≡ true → P (own_span f s h strict k there.node there.used entry)
  own_kind o =
      let n : ℕ = there.node in
      let u : ℕ = there.used in
      elim (dec_lt 0 entry.pointer) [
        | no q ↦ subst P (sym (own_null f s h strict k n u entry (omega arith))) (reached_kind o _)
        | yes q ↦
            let z : entry.pointer ≡ 0 → ⊥ = λ y. omega arith in
            by_cases (sound_page f h leaf k (u + entry.depth))
            (λ p.
            elim (dec_lt (first_above f leaf strict k) (count leaf)) [
              | yes l ↦ subst P (sym (own_rows f s h strict k n u entry z p l)) (rows k _ refl o p l)
              | no l ↦ subst P (sym (own_after f s h strict k n u entry z p (omega arith))) (reached_kind o _)
            ])
            (λ p. subst P (sym (own_unsound f s h strict k n u entry z p)) (none false))
      ]

  pub span_kind : P (span_of f s h strict k)
  span_kind =
      by_cases there.ok
      (λ o. subst P (sym (at_terminal f s h strict k there o)) (own_kind o))
      (λ o. subst P (sym (at_lost f s h strict k there o)) (none false))

module _ (f : Format) (s : List ℕ) (h : Head) (strict : Bool) (k : ℕ) where
  abbrev Sound : Span → Type 0
  Sound r = r.ok ≡ true → (r.page ≡ 0 → ⊥) → Rows f s h r × GoesOn f s h r

  none_sound : (b : Bool) → Sound (no_span b)
  unfolding no_span
  none_sound b o q = absurd (q refl)

  pub span_rows : 1 ≤ h.levels → h.levels ≤ 32 → Sound (span_of f s h strict k)
  unfolding first_row rows_from
  span_rows low high =
      span_kind f s h strict k Sound none_sound
      (λ p t o y q. (
        record { rule = t; some = omega arith; within = (rule_facts f h.capacity (page_at f s h p) t).some },
        λ i m l. absurd (omega arith),
      ))
      (λ x i e o p l y z.
      (record { rule = sound_rule f h _ x _ p; some = l; within = omega arith }, λ j m n. next_within f s h x j low high o z p n))

  -- a span with records has the terminal node of its key, and names the key of its last record
  abbrev Named : Span → Type 0
  Named r =
      (r.page ≡ 0 → ⊥)
      → (r.node ≡ (terminal f s h k).node) × (r.used ≡ (terminal f s h k).used)
      × (r.last ≡ key_at f (page_at f s h r.page) (r.to - 1))

  none_named : (b : Bool) → Named (no_span b)
  unfolding no_span
  none_named b q = absurd (q refl)

  pub span_named : {r : Span} → r ≡ span_of f s h strict k → Named r
  unfolding first_row rows_from
  span_named e =
      subst Named (sym e)
      (span_kind f s h strict k Named none_named (λ p r o y. (refl, refl, refl))
      (λ x i d o p l y. (ap (λ t. t.node) d, ap (λ t. t.used) d, refl)))

  -- a span with records met no damage, and its terminal node is sound
  abbrev Whole : Span → Type 0
  Whole r = (r.page ≡ 0 → ⊥) → (r.ok ≡ true) × ((terminal f s h k).ok ≡ true)

  none_whole : (b : Bool) → Whole (no_span b)
  unfolding no_span
  none_whole b q = absurd (q refl)

  pub span_whole : Whole (span_of f s h strict k)
  unfolding first_row rows_from
  span_whole = span_kind f s h strict k Whole none_whole (λ p r o y. (refl, o)) (λ x i d o p l y. (refl, sym (ap (λ t. t.ok) d) ∙ o))

  -- a span that met no damage has a sound terminal node
  pub terminal_whole : (span_of f s h strict k).ok ≡ true → (terminal f s h k).ok ≡ true
  unfolding no_span
  terminal_whole o =
      by_cases (terminal f s h k).ok
      (λ t. t)
      (λ t. absurd (false≢true (ap (λ r. r.ok) (sym (at_lost f s h strict k (terminal f s h k) t)) ∙ o)))

-- after the last record of the own page of k next goes on behind its run
module _ (f : Format) (s : List ℕ) (h : Head) where
  own_goes : (k : ℕ) → 1 ≤ h.levels → h.levels ≤ 32
      → let t = terminal f s h k in
      let v = own_visit f s h k t.node t.used in
      let pg = page_at f s h v.pointer in
      let k₂ = key_at f pg (count pg - 1) in
      t.ok ≡ true → (v.pointer ≡ 0 → ⊥) → sound_page f h pg k (t.used + v.depth) ≡ true
      → (terminal f s h k₂ ≡ t) × GoesBehind f s h true k₂ t (run_behind s h t.node v.depth v.entry)
  unfolding sound_page behind
  own_goes k low high o some p =
      let t = terminal f s h k in
      let v = own_visit f s h k t.node t.used in
      let pg = page_at f s h v.pointer in
      let u : ℕ = t.used + v.depth in
      let rules = and_true (page_rule f h.capacity pg) (agrees f pg k u) p in
      let near = agrees_facts f pg k u rules.1 in
      let many = (rule_facts f h.capacity pg rules.0).some in
      let l : count pg - 1 < count pg = omega (arith, many) in
      let k₂ : ℕ = key_at f pg (count pg - 1) in
      let a = near (count pg - 1) l in
      let v₂ = own_visit f s h k₂ t.node t.used in
      let sound = terminal_sound f s h k o in
      let same = node_same f s h k k₂ 1 _ _ sound a in
      let p₂ : sound_page f h (page_at f s h v₂.pointer) k₂ (t.used + v₂.depth) ≡ true =
      rw (same.0, same.1, rules.0) (facts_agrees f pg k₂ u (λ j q. near j q ∙ sym a)) in
      let last : count (page_at f s h v₂.pointer) ≤ first_above f (page_at f s h v₂.pointer) true k₂ =
      rw same.1 (omega (arith, first_after f h.capacity pg (count pg - 1) rules.0 l)) in (
        same_end f s h k low high o k₂ a,
        at_terminal f s h true k₂ t o ∙ own_after f s h true k₂ t.node t.used v₂ (λ z. some (sym same.1 ∙ z)) p₂ last
            ∙ ap (λ i. reached_span f s h true k₂ t.node t.used (reach s h (h.nodes_taken + 1) t.node i))
            (behind_same f s h k k₂ 1 _ _ sound a),
      )

-- a span that knows the run behind its page: next from its last record goes on there
module _ (f : Format) (s : List ℕ) (h : Head) (strict : Bool) (k : ℕ) where
  abbrev Behind : Span → Type 0
  Behind r =
      let k₂ = key_at f (page_at f s h r.page) (r.to - 1) in
      (r.page ≡ 0 → ⊥) → (r.behind ≡ 0 → ⊥)
      → (terminal f s h k₂ ≡ terminal f s h k) × GoesBehind f s h true k₂ (terminal f s h k) r.behind

  none_behind : (b : Bool) → Behind (no_span b)
  unfolding no_span
  none_behind b z = absurd (z refl)

  pub span_behind : 1 ≤ h.levels → h.levels ≤ 32 → {r : Span} → r ≡ span_of f s h strict k → Behind r
  unfolding first_row rows_from
  span_behind low high e =
      subst Behind (sym e)
      (span_kind f s h strict k Behind none_behind (λ p r o z q. absurd (q refl))
      (λ x i d o p l z q.
      let t = terminal f s h x in
      let r = rows_from f s h t.node t.used (own_visit f s h x t.node t.used) i in
      let k₂ = key_at f (page_at f s h r.page) (r.to - 1) in
      subst (λ t. (terminal f s h k₂ ≡ t) × GoesBehind f s h true k₂ t r.behind) d (own_goes f s h x low high o z p)))
