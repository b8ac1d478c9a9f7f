-- Next by spans: where next's record stands, and the records after it that next gives in turn without another descent.
--   no_span ok          == no record; ok: no damage was met
--   comes_back f s h k n u p == the first key of page p, which is reached from the terminal node n of the key k, leads back to it from n,
--     and so do the page's other keys
--   rows_from f s h n u v i == the records from number i on of the page to which the entry v of the terminal node n leads
--   first_row n u p k   == the first record of page p, whose key is k, reached from the terminal node n
--   reached_rows f s h k n u p == the records of page p that follow one another, p being reached from the terminal node n of the key k
--   reached_span f s h strict k n u a == the records of the page that was reached after the sought key's own
--   own_span f s h strict k n u v == the records that follow the key k, whose entry in its terminal node n is v
--   span_at f s h strict k t == the records that follow the key k, whose terminal node is t
--   span_of f s h strict k == the same from the root
--   sought_of f s h r      == the first record of a span
--   GoesBehind f s h strict k t i == above the key k, whose terminal node is t, next gives the records of the page that follows from entry
--     i on
--   Rows f s h r          == the span r has records, in a page that keeps the page rule
use Rattle.std.specs.Prelude.{◌≡◌, Bool, true, false, ◌&&◌, List, ℕ, ◌+◌, ◌-◌, ◌/◌, ◌^◌, ◌≤◌, ◌<◌, ltb, eqb}
use Rattle.store.specs.declared.Format.{Format}
use Rattle.store.specs.declared.Head.{Head}
use Rattle.store.specs.Format.{width}
use Rattle.store.specs.Head.{page_at}
use Rattle.page.specs.Page.{count, item_at, key_at, page_rule, agrees, above, first_above}
use Rattle.search.specs.Way.{Visit}
use Rattle.search.specs.Way.{Terminal}
use Rattle.search.specs.Way.{Span}
use Rattle.search.specs.Way.{Sought}
use Rattle.search.specs.Way.{Record, Nothing, Damaged}
use Rattle.search.specs.Way.{Reached}
use Rattle.search.specs.Way.{Page, Past, Broken}
use Rattle.search.specs.Descent.{terminal, own_visit}
use Rattle.search.specs.Find.{sound_page}
use Rattle.search.specs.Next.{run_behind, reach, behind}

unfoldable pub no_span : Bool → Span
no_span ok = record { ok = ok; page = 0; from = 0; to = 0; last = 0; node = 0; used = 0; behind = 0 }

-- Next from the page's first key begins anew at the root. If the key agrees with k in the u bits used before the terminal node n, and its own
-- entry there leads to this page, it comes back here.
unfoldable pub comes_back : Format → List ℕ → Head → ℕ → ℕ → ℕ → ℕ → Bool
comes_back f s h k n u p =
    eqb (key_at f (page_at f s h p) 0 / 2 ^ (width f - u)) (k / 2 ^ (width f - u))
    && eqb (own_visit f s h (key_at f (page_at f s h p) 0) n u).pointer p
    && agrees f (page_at f s h p) (key_at f (page_at f s h p) 0) (u + (own_visit f s h (key_at f (page_at f s h p) 0) n u).depth)

-- After the last one next goes on with the run behind the entry.
unfoldable pub rows_from : Format → List ℕ → Head → ℕ → ℕ → Visit → ℕ → Span
rows_from f s h n u v i =
    let pg = page_at f s h v.pointer in
    record {
      ok = true;
      page = v.pointer;
      from = i;
      to = count pg;
      last = key_at f pg (count pg - 1);
      node = n;
      used = u;
      behind = run_behind s h n v.depth v.entry;
    }

unfoldable pub first_row : ℕ → ℕ → ℕ → ℕ → Span
first_row n u p k = record { ok = true; page = p; from = 0; to = 1; last = k; node = n; used = u; behind = 0 }

-- Where its keys come back all records follow, else the first one stands alone.
unfoldable pub reached_rows : Format → List ℕ → Head → ℕ → ℕ → ℕ → ℕ → Span
reached_rows f s h k n u p =
    let first = key_at f (page_at f s h p) 0 in
    elim (comes_back f s h k n u p) [ true ↦ rows_from f s h n u (own_visit f s h first n u) 0 | false ↦ first_row n u p first ]

-- Of the page's keys, which ascend, the first speaks for all.
unfoldable pub reached_span : Format → List ℕ → Head → Bool → ℕ → ℕ → ℕ → Reached → Span
reached_span f s h strict k n u (Page p) =
    elim (page_rule f h.capacity (page_at f s h p) && above strict k (key_at f (page_at f s h p) 0)) [
      | true ↦ reached_rows f s h k n u p
      | false ↦ no_span false
    ]
reached_span f s h strict k n u Past = no_span true
reached_span f s h strict k n u Broken = no_span false

-- In the key's own page the records above it follow one another; else the page after it is reached. v is the key's entry, u the bits used
-- before the node n.
unfoldable pub own_span : Format → List ℕ → Head → Bool → ℕ → ℕ → ℕ → Visit → Span
own_span f s h strict k n u v =
    elim (eqb v.pointer 0) [
      | true ↦ reached_span f s h strict k n u (behind s h n v.depth v.entry)
      | false ↦
          elim (sound_page f h (page_at f s h v.pointer) k (u + v.depth)) [
            | false ↦ no_span false
            | true ↦
                elim (ltb (first_above f (page_at f s h v.pointer) strict k) (count (page_at f s h v.pointer))) [
                  | true ↦ rows_from f s h n u v (first_above f (page_at f s h v.pointer) strict k)
                  | false ↦ reached_span f s h strict k n u (behind s h n v.depth v.entry)
                ]
          ]
    ]

unfoldable pub span_at : Format → List ℕ → Head → Bool → ℕ → Terminal → Span
span_at f s h strict k t =
    elim t.ok [
      | false ↦ no_span false
      | true ↦ own_span f s h strict k t.node t.used (own_visit f s h k t.node t.used)
    ]

abbrev pub span_of : Format → List ℕ → Head → Bool → ℕ → Span
span_of f s h strict k = span_at f s h strict k (terminal f s h k)

abbrev pub GoesBehind : Format → List ℕ → Head → Bool → ℕ → Terminal → ℕ → Type 0
GoesBehind f s h strict k t i =
    span_at f s h strict k t ≡ reached_span f s h strict k t.node t.used (reach s h (h.nodes_taken + 1) t.node i)

unfoldable pub sought_of : Format → List ℕ → Head → Span → Sought
sought_of f s h r =
    elim r.ok [
      | false ↦ Damaged
      | true ↦ elim (eqb r.page 0) [ true ↦ Nothing | false ↦ Record (item_at f (page_at f s h r.page) r.from) ]
    ]

pub record Rows (f : Format) (s : List ℕ) (h : Head) (r : Span) : Type 0 where
  pub rule : page_rule f h.capacity (page_at f s h r.page) ≡ true
  pub some : r.from < r.to
  pub within : r.to ≤ count (page_at f s h r.page)
