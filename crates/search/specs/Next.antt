-- Next. Document 01, "Reading": "Next gives the smallest key above the given one, passing null entries and forward links, or none."
-- With strict false: at or above, which is how a range begins.
--   first_pointer s b H n i == the first pointer that is not null, from entry i on, in the node block at b of depth H; 0 if none; at most
--     n runs
--   pointer_from s h n i        == the same in node n
--   run_after H h i             == where the run after that of entry i starts, in a node of depth H, if entry i has the local depth h
--   run_behind s h n d i        == the same in node n, for the local depth d
--   visit_after f s h strict k p == what page p gives, read after the sought key's own: its first record
--   linked h s m n             == node m, reached by a forward link, is a level-1 node that links back to n
--   hop s h n i left           == what node n leads to from entry i on, with so many links left: an end, or the next node
--   reach s h turns n i        == the page that follows entry i of node n, or none, or damage met on the way
--   visited f s h strict k a   == what next gives there
--   behind s h n d i           == the page that follows the run of entry i, of local depth d, in node n
--   next_of f s h strict k      == next in a store that keeps the head rule
--   next_reply f s k            == what next is to reply
--   onward h s n left          == the node after n, with so many links left, or an end
--   after_own f s h strict k t  == the answer after the run of the terminal step t
--   from_descent f s h strict k d == the answer at the end of the descent d
use Rattle.std.specs.Prelude.{Bool, true, false, ◌&&◌, List, ℕ, zero, suc, ◌+◌, ◌-◌, ◌%◌, ◌^◌, ltb, eqb, get_or}
use Rattle.lists.specs.Lists.{every}
use Rattle.store.specs.declared.Format.{Format}
use Rattle.store.specs.declared.Head.{Head}
use Rattle.store.specs.Head.{head_of, node_start, page_at}
use Rattle.node.specs.Node.{depth_word, back_word, forward_word, entry_depth, entry_pointer, node_rule}
use Rattle.page.specs.Page.{count, item_at, key_at, page_rule, above, first_above}
use Rattle.search.specs.Way.{Descent}
use Rattle.search.specs.declared.Step.{Step}
use Rattle.search.specs.Way.{Sought}
use Rattle.search.specs.Way.{Record, Nothing, Damaged}
use Rattle.search.specs.Way.{Reached}
use Rattle.search.specs.Way.{Page, Past, Broken}
use Rattle.search.specs.Way.{Hop}
use Rattle.search.specs.Way.{Ends, On}
use Rattle.search.specs.Descent.{no_step, descent}
use Rattle.search.specs.Find.{Reply, sound_page, checked}

unfoldable pub first_pointer : List ℕ → ℕ → ℕ → ℕ → ℕ → ℕ
first_pointer s b H zero i = 0
first_pointer s b H (suc n) i =
    elim (ltb i (2 ^ H)) [
      | false ↦ 0
      | true ↦
          elim (eqb (entry_pointer s b i) 0) [
            | false ↦ entry_pointer s b i
            | true ↦ first_pointer s b H n (i + 2 ^ (H - entry_depth s b i))
          ]
    ]

unfoldable pub run_after : ℕ → ℕ → ℕ → ℕ
run_after H h i = i - i % 2 ^ (H - h) + 2 ^ (H - h)

abbrev pub run_behind : List ℕ → Head → ℕ → ℕ → ℕ → ℕ
run_behind s h n d i = run_after (depth_word s (node_start h n)) d i

-- "every page read after the sought key's own has only keys above the given one (for low: at or above it)"
unfoldable pub visit_after : Format → List ℕ → Head → Bool → ℕ → ℕ → Sought
visit_after f s h strict k p =
    elim (page_rule f h.capacity (page_at f s h p) && every (count (page_at f s h p)) (λ i. above strict k (key_at f (page_at f s h p) i))) [
      | true ↦ Record (item_at f (page_at f s h p) 0)
      | false ↦ Damaged
    ]

-- "a node reached by a forward link links back to the one before"
unfoldable pub linked : Head → List ℕ → ℕ → ℕ → Bool
linked h s m n = node_rule h s (node_start h m) 1 && eqb (back_word s (node_start h m)) n

-- "at most nodes-taken links are followed, and a further one is damage"
unfoldable pub onward : Head → List ℕ → ℕ → ℕ → Hop
onward h s n left =
    elim (eqb (forward_word s (node_start h n)) 0) [
      | true ↦ Ends Past
      | false ↦
          elim (eqb left 0) [
            | true ↦ Ends Broken
            | false ↦
                elim (linked h s (forward_word s (node_start h n)) n) [ true ↦ On (forward_word s (node_start h n)) | false ↦ Ends Broken ]
          ]
    ]

-- the first pointer of node n that is not null, from entry i on
abbrev pub pointer_from : List ℕ → Head → ℕ → ℕ → ℕ
pointer_from s h n i = first_pointer s (node_start h n) (depth_word s (node_start h n)) 64 i

unfoldable pub hop : List ℕ → Head → ℕ → ℕ → ℕ → Hop
hop s h n i left =
    elim (eqb (pointer_from s h n i) 0) [ false ↦ Ends (Page (pointer_from s h n i)) | true ↦ onward h s n left ]

unfoldable pub reach : List ℕ → Head → ℕ → ℕ → ℕ → Reached
reach s h zero n i = Broken
reach s h (suc left) n i =
    elim (hop s h n i left) [
      | Ends a ↦ a
      | On m ↦ reach s h left m 0
    ]

unfoldable pub visited : Format → List ℕ → Head → Bool → ℕ → Reached → Sought
visited f s h strict k (Page p) = visit_after f s h strict k p
visited f s h strict k Past = Nothing
visited f s h strict k Broken = Damaged

unfoldable pub behind : List ℕ → Head → ℕ → ℕ → ℕ → Reached
behind s h n d i = reach s h (h.nodes_taken + 1) n (run_behind s h n d i)

-- "passing null entries and forward links"; the terminal node is that of the first step
unfoldable pub after_own : Format → List ℕ → Head → Bool → ℕ → Step → Sought
after_own f s h strict k t = visited f s h strict k (behind s h t.node t.depth t.entry)

unfoldable pub from_descent : Format → List ℕ → Head → Bool → ℕ → Descent → Sought
from_descent f s h strict k d =
    elim d.ok [
      | false ↦ Damaged
      | true ↦
          elim (eqb d.page 0) [
            | true ↦ after_own f s h strict k (get_or d.steps 0 no_step)
            | false ↦
                elim (sound_page f h (page_at f s h d.page) k d.used) [
                  | false ↦ Damaged
                  | true ↦
                      elim (ltb (first_above f (page_at f s h d.page) strict k) (count (page_at f s h d.page))) [
                        | true ↦ Record (item_at f (page_at f s h d.page) (first_above f (page_at f s h d.page) strict k))
                        | false ↦ after_own f s h strict k (get_or d.steps 0 no_step)
                      ]
                ]
          ]
    ]

unfoldable pub next_of : Format → List ℕ → Head → Bool → ℕ → Sought
next_of f s h strict k = from_descent f s h strict k (descent f s h k)

unfoldable pub next_reply : Format → List ℕ → ℕ → Reply
next_reply f s k = checked f s (next_of f s (head_of s) true k)
