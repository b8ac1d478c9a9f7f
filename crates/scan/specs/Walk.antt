-- A walk by next, a span of records at a time. Document 01, "Reading": range is "the first key at or above low, reached by a descent with
-- low, then next repeated, each time from the root".
--   last_key f s h r       == the key of the last record of a span
--   terminal_of r          == the terminal node that a span names
--   Behind f s h r        == next from the last record of the span r goes on with the run behind its page, in the same terminal node
--   Standing f s h r      == the walk stands at the records of r, which names the key of the last one; where the run behind their page is
--     known, next from there goes on with it
--   end_of f pg from to high == where those of the records from number `from` up to `to` end that are not above high
--   rows f pg i n         == n records of a page, from number i on
use Rattle.std.specs.Prelude.{◌≡◌, true, false, List, ℕ, ◌+◌, ◌-◌, ◌^◌, ◌<◌, max, leb}
use Rattle.lists.specs.Lists.{tab}
use Rattle.store.specs.declared.Format.{Format}
use Rattle.store.specs.declared.Head.{Head}
use Rattle.store.specs.declared.Item.{Item}
use Rattle.store.specs.Head.{page_at}
use Rattle.page.specs.Page.{item_at, key_at, first_above}
use Rattle.search.specs.Way.{Terminal}
use Rattle.search.specs.Way.{Span}
use Rattle.search.specs.Descent.{terminal}
use Rattle.search.specs.Span.{GoesBehind, Rows}

abbrev pub last_key : Format → List ℕ → Head → Span → ℕ
last_key f s h r = key_at f (page_at f s h r.page) (r.to - 1)

abbrev pub terminal_of : Span → Terminal
terminal_of r = record { ok = true; node = r.node; used = r.used }

pub record Behind (f : Format) (s : List ℕ) (h : Head) (r : Span) : Type 0 where
  pub terminal : terminal_of r ≡ terminal f s h (last_key f s h r)
  pub goes : GoesBehind f s h true (last_key f s h r) (terminal_of r) r.behind
  pub small : r.behind < 2 ^ 40

pub record Standing (f : Format) (s : List ℕ) (h : Head) (r : Span) : Type 0 where
  pub rows : Rows f s h r
  pub last : r.last ≡ last_key f s h r
  pub behind : (r.behind ≡ 0 → ⊥) → Behind f s h r

unfoldable pub end_of : Format → List ℕ → ℕ → ℕ → ℕ → ℕ
end_of f pg from to high = elim (leb (key_at f pg (to - 1)) high) [ true ↦ to | false ↦ max from (first_above f pg true high) ]

unfoldable pub rows : Format → List ℕ → ℕ → ℕ → List Item
rows f pg i n = tab n (λ j. item_at f pg (i + j))
