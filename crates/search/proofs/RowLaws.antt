-- Spans as the code has them: its tests, one by one, and what a sound answer says of the blocks behind it.
--   Low r == the span r begins within the capacity; Small r == the run behind it has a small number
use mathlib.Core.Path.{◌≡◌, refl, sym, ap, ap₂, ◌∙◌, subst}
use mathlib.Core.Bool.{Bool, true, false, false≢true}
use mathlib.Core.List.{List}
use Prim.Native.Nat.{ℕ, ◌+◌, ◌-◌, ◌*◌, ◌/◌, ◌^◌, ◌≤◌, ◌<◌}
use native.Mathlib.Omega.{arith}
use lib.Dec.{eqb}
use lib.ListN.{length}
use lib.Pow.{pow_mono}
use borrow.Author.Tests.{eq-eqb, ne_eqb}
use Rattle.lists.proofs.Cases.{by_cases}
use Rattle.store.specs.declared.Format.{Format}
use Rattle.store.specs.declared.Head.{Head}
use Rattle.store.specs.declared.Item.{Item}
use Rattle.store.specs.Format.{width, words}
use Rattle.store.specs.Head.{largest_capacity, node_start, page_at, Under}
use Rattle.store.proofs.Places.{under_limits}
use Rattle.node.specs.Node.{depth_word, entry_depth, entry_number}
use Rattle.node.proofs.EntryNumber.{entry_below}
use Rattle.page.specs.Page.{count, item_at, key_at, Lent, Filled, page_rule, agrees, above, first_above}
use Rattle.page.proofs.Laws.{rule_facts}
use Rattle.page.proofs.Inside.{page_lent, filled, record_inside}
use Rattle.search.specs.Way.{Visit}
use Rattle.search.specs.Way.{Terminal}
use Rattle.search.specs.Way.{Span}
use Rattle.search.specs.Way.{Reached}
use Rattle.search.specs.Way.{Page, Broken}
use Rattle.search.specs.Descent.{entry_visit, terminal, own_visit}
use Rattle.search.specs.Find.{sound_page}
use Rattle.search.specs.Next.{run_after, run_behind, behind}
use Rattle.search.specs.Span.{no_span, comes_back, rows_from, first_row, reached_rows, reached_span, own_span, span_at, span_of, Rows}
use Rattle.search.proofs.FindLaws.{sound_rule}
use Rattle.search.proofs.BlockLaws.{under_levels, under_node}
use Rattle.search.proofs.UseLaws.{at_asked}
use Rattle.search.proofs.SpanLaws.{rows_all, rows_one, reached_gives, reached_below, reached_broken, reached_lost}
use Rattle.search.proofs.SpanLaws.{own_null, own_unsound, own_rows, own_after, at_terminal, span_kind, span_rows}

-- a span by its numbers
span_same : (m u : ℕ) {p p' i i' n n' k k' b b' : ℕ} → p ≡ p' → i ≡ i' → n ≡ n' → k ≡ k' → b ≡ b'
    → ◌≡◌ {A = Span} (record { ok = true; page = p; from = i; to = n; last = k; node = m; used = u; behind = b })
    (record { ok = true; page = p'; from = i'; to = n'; last = k'; node = m; used = u; behind = b' })
span_same m u c d e j g = rw (c, d, e, j, g)

-- no span is sound that met damage
none_not : {r : Span} → r ≡ no_span false → r.ok ≡ true → ⊥
unfolding no_span
none_not e o = false≢true (sym (ap (λ r. r.ok) e) ∙ o)

-- what is asked of a page that is lent, pg
module _ {f : Format} {s : List ℕ} {h : Head} (u : Under f s h) (p : ℕ) {pg : List ℕ} (e : pg ≡ page_at f s h p) where
  pub page_asked : (b : Bool) → (b ≡ false → page_rule f h.capacity pg ≡ true)
      → (h.capacity ≤ largest_capacity) × Lent f h.capacity pg × (b ≡ false → page_rule f h.capacity pg ≡ true)
  page_asked b t = ((under_limits u).capacity, rw e (page_lent f s h p), t)

  pub page_filled : page_rule f h.capacity pg ≡ true → Filled f pg
  page_filled t = filled f h.capacity pg t (rw e (page_lent f s h p))

-- a page pg that was reached after the key's own
module _ (f : Format) (s : List ℕ) (h : Head) (strict : Bool) (k n u : ℕ) {p : ℕ} {a : Reached} {pg : List ℕ}
    (ea : a ≡ Page p) (e : pg ≡ page_at f s h p) where
  abbrev there : Span
  there = reached_span f s h strict k n u a

  pub page_broken : page_rule f h.capacity pg ≡ false → no_span false ≡ there
  page_broken t = sym (ap (reached_span f s h strict k n u) ea ∙ reached_broken f s h strict k n u p (rw e at t))

  pub page_known : there.ok ≡ true → page_rule f h.capacity pg ≡ true
  page_known o = by_cases (page_rule f h.capacity pg) (λ t. t) (λ t. absurd (none_not (sym (page_broken t)) o))

  module _ (t : page_rule f h.capacity pg ≡ true) {it : Item} (ei : it ≡ item_at f pg 0) where
    first_key_lem : {b : Bool} → above strict k it.key ≡ b → above strict k (key_at f (page_at f s h p) 0) ≡ b
    first_key_lem q = sym (ap (λ x. above strict k x.key) (rw e at ei)) ∙ q

    pub page_below : above strict k it.key ≡ false → no_span false ≡ there
    page_below q = sym (ap (reached_span f s h strict k n u) ea ∙ reached_below f s h strict k n u p (rw e at t) (first_key_lem q))

    pub page_gives : above strict k it.key ≡ true → reached_rows f s h k n u p ≡ there
    page_gives q = sym (ap (reached_span f s h strict k n u) ea ∙ reached_gives f s h strict k n u p (rw e at t) (first_key_lem q))

-- those of its records that follow; first is what the code has of its first key, v of that key's entry
module _ (f : Format) (s : List ℕ) (h : Head) (k n u p : ℕ) {pg : List ℕ} (e : pg ≡ page_at f s h p) {first : ℕ} (ef : first ≡ key_at f pg 0) where
  is_first : first ≡ key_at f (page_at f s h p) 0
  is_first = rw e at ef

  pub rows_other : (first / 2 ^ (width f - u) ≡ k / 2 ^ (width f - u) → ⊥) → first_row n u p first ≡ reached_rows f s h k n u p
  unfolding comes_back
  rows_other q = ap (first_row n u p) is_first ∙ sym (rows_one f s h k n u p (rw (ne_eqb _ _ (rw is_first at q))))

  module _ (q : first / 2 ^ (width f - u) ≡ k / 2 ^ (width f - u)) {v : Visit} (ev : v ≡ own_visit f s h first n u) where
    same_bits : eqb (key_at f (page_at f s h p) 0 / 2 ^ (width f - u)) (k / 2 ^ (width f - u)) ≡ true
    same_bits = eq-eqb _ _ (rw is_first at q)

    entry_is : v ≡ own_visit f s h (key_at f (page_at f s h p) 0) n u
    entry_is = ev ∙ ap (λ x. own_visit f s h x n u) is_first

    pub rows_elsewhere : (v.pointer ≡ p → ⊥) → first_row n u p first ≡ reached_rows f s h k n u p
    unfolding comes_back
    rows_elsewhere z = ap (first_row n u p) is_first ∙ sym (rows_one f s h k n u p (rw (same_bits, ne_eqb _ _ (rw entry_is at z))))

    module _ (z : v.pointer ≡ p) where
      comes_back_lem : eqb (own_visit f s h (key_at f (page_at f s h p) 0) n u).pointer p ≡ true
      comes_back_lem = eq-eqb _ _ (rw entry_is at z)

      pub rows_alone : agrees f pg first (u + v.depth) ≡ false → first_row n u p first ≡ reached_rows f s h k n u p
      unfolding comes_back
      rows_alone g =
          ap (first_row n u p) is_first ∙ sym (rows_one f s h k n u p (rw (same_bits, comes_back_lem, rw (e, entry_is, is_first) at g)))

      pub rows_whole : agrees f pg first (u + v.depth) ≡ true → {c l b : ℕ} → c ≡ count pg → l ≡ key_at f pg (c - 1)
          → b ≡ run_behind s h n v.depth v.entry
          → ◌≡◌ {A = Span} (record { ok = true; page = p; from = 0; to = c; last = l; node = n; used = u; behind = b })
          (reached_rows f s h k n u p)
      unfolding comes_back rows_from
      rows_whole g ec el eb =
          let d : p ≡ (own_visit f s h (key_at f (page_at f s h p) 0) n u).pointer = sym (rw entry_is at z) in
          let same : pg ≡ page_at f s h (own_visit f s h (key_at f (page_at f s h p) 0) n u).pointer = e ∙ ap (page_at f s h) d in
          span_same n u d refl (ec ∙ ap count same) (el ∙ ap₂ (λ x y. key_at f x (y - 1)) same (ec ∙ ap count same))
          (eb ∙ ap (λ x. run_behind s h n x.depth x.entry) entry_is)
          ∙ sym (rows_all f s h k n u p (rw (same_bits, comes_back_lem, rw (e, entry_is, is_first) at g)))

-- a sound span behind an entry: the way on met no damage
pub reached_whole : (f : Format) (s : List ℕ) (h : Head) (strict : Bool) (k n u : ℕ) (a : Reached)
    → (reached_span f s h strict k n u a).ok ≡ true → a ≡ Broken → ⊥
reached_whole f s h strict k n u a o e = none_not (ap (reached_span f s h strict k n u) e ∙ reached_lost f s h strict k n u) o

-- from a terminal node t and the key's entry v in it
module _ (f : Format) (s : List ℕ) (h : Head) (strict : Bool) (k : ℕ) (t : Terminal) (o : t.ok ≡ true) {v : Visit}
    (ev : v ≡ own_visit f s h k t.node t.used) where
  abbrev whole : Span
  whole = span_at f s h strict k t

  abbrev onwards : Span
  onwards = reached_span f s h strict k t.node t.used (behind s h t.node v.depth v.entry)

  at_own : whole ≡ own_span f s h strict k t.node t.used v
  at_own = at_terminal f s h strict k t o ∙ ap (own_span f s h strict k t.node t.used) (sym ev)

  pub at_null : v.pointer ≡ 0 → whole ≡ onwards
  at_null z = at_own ∙ own_null f s h strict k t.node t.used v z

  -- its page pg, which is not null
  module _ (z : v.pointer ≡ 0 → ⊥) {pg : List ℕ} (e : pg ≡ page_at f s h v.pointer) where
    unsound : sound_page f h pg k (t.used + v.depth) ≡ false → whole ≡ no_span false
    unsound p = at_own ∙ own_unsound f s h strict k t.node t.used v z (rw e at p)

    -- the page of a sound span keeps the rule
    pub at_known : whole.ok ≡ true → page_rule f h.capacity pg ≡ true
    at_known q =
        by_cases (sound_page f h pg k (t.used + v.depth))
        (sound_rule f h pg k (t.used + v.depth))
        (λ p. absurd (none_not (unsound p) q))

    pub at_unsound : sound_page f h pg k (t.used + v.depth) ≡ false → no_span false ≡ whole
    at_unsound p = sym (unsound p)

    -- the page is sound; i is what the code has of the first record above the key, n of the count
    module _ (p : sound_page f h pg k (t.used + v.depth) ≡ true) {i n : ℕ} (ei : i ≡ first_above f pg strict k) (en : n ≡ count pg) where
      begins : i ≡ first_above f (page_at f s h v.pointer) strict k
      begins = rw e at ei

      ends : n ≡ count (page_at f s h v.pointer)
      ends = rw e at en

      pub at_rows : i < n → {x b : ℕ} → x ≡ key_at f pg (n - 1) → b ≡ run_behind s h t.node v.depth v.entry
          → ◌≡◌ {A = Span} (record { ok = true; page = v.pointer; from = i; to = n; last = x; node = t.node; used = t.used; behind = b })
          whole
      unfolding rows_from
      at_rows l ex eb =
          span_same t.node t.used refl begins ends (ex ∙ ap₂ (λ x y. key_at f x (y - 1)) e ends) eb
          ∙ sym (at_own ∙ own_rows f s h strict k t.node t.used v z (rw e at p) (omega (arith, begins, ends)))

      pub at_after : n ≤ i → whole ≡ onwards
      at_after l = at_own ∙ own_after f s h strict k t.node t.used v z (rw e at p) (omega (arith, begins, ends))

-- the first record of a span lies in its page
module _ {f : Format} {s : List ℕ} {h : Head} (u : Under f s h) (strict : Bool) (k : ℕ) where
  abbrev Low : Span → Type 0
  Low r = r.from ≤ h.capacity

  none_low : (b : Bool) → Low (no_span b)
  unfolding no_span
  none_low b = omega arith

  span_low : Low (span_of f s h strict k)
  unfolding first_row rows_from
  span_low =
      span_kind f s h strict k Low none_low (λ p t o. omega arith)
      (λ x i e o p l. omega (arith, l, (rule_facts f h.capacity _ (sound_rule f h _ x _ p)).fits))

  -- and the run behind it begins within the entries of a node
  run_small : (x : ℕ) → (terminal f s h x).ok ≡ true
      → let t = terminal f s h x in
      let v = own_visit f s h x t.node t.used in
      run_behind s h t.node v.depth v.entry < 2 ^ 40
  unfolding own_visit entry_visit run_after
  run_small x o =
      let t = terminal f s h x in
      let H = depth_word s (node_start h t.node) in
      let i = entry_number (width f) x t.used H in
      let d = entry_depth s (node_start h t.node) i in
      let low : H ≤ 6 = omega (arith, (at_asked f s h x u refl o).2, (under_node u).0) in
      omega (arith, entry_below (width f) x t.used H, pow_mono {i = H} {j = 6} low, pow_mono {i = H - d} {j = 6} (omega arith))

  abbrev Small : Span → Type 0
  Small r = r.behind < 2 ^ 40

  none_small : (b : Bool) → Small (no_span b)
  unfolding no_span
  none_small b = omega arith

  pub behind_small : {r : Span} → r ≡ span_of f s h strict k → r.behind < 2 ^ 40
  unfolding first_row rows_from
  behind_small e =
      subst Small (sym e) (span_kind f s h strict k Small none_small (λ p t o. omega arith) (λ x i d o p l. run_small x o))

  row_inside : {r : Span} → r ≡ span_of f s h strict k → r.ok ≡ true → (r.page ≡ 0 → ⊥)
      → words f * (r.from + 1) < length (page_at f s h r.page)
  row_inside {r} e o z =
      let w = subst (λ x. x.ok ≡ true → (x.page ≡ 0 → ⊥) → Rows f s h x) (sym e)
      (λ p q. (span_rows f s h strict k (under_levels u).0 (under_levels u).1 p q).0) o z in
      record_inside (filled f h.capacity (page_at f s h r.page) w.rule (page_lent f s h r.page))
      (omega (arith, w.some, w.within))

  pub row_asked : {r : Span} → r ≡ span_of f s h strict k
      → Under f s h × (r.from < 2 ^ 32)
      × (r.ok ≡ true → (r.page ≡ 0 → ⊥) → words f * (r.from + 1) < length (page_at f s h r.page))
  row_asked e =
      (u, omega (arith, ap (λ x. x.from) e, span_low, (under_limits u).capacity), row_inside e)
