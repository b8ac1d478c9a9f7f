-- A removal that the key's page and the stretch beside it decide. Document 02, M-106. e is the end of the key's way, in the store as found.
--   left_in f s h k p       == the records of page p without the key's
--   entry_beside f s h k e  == the entry of the page's sibling, in the page's terminal node
--   beside f s h k e left  == what that entry says of the page, with so many records left: damage, or whether the pair stays apart
--   root_stays s h          == the root is not released: there is one level, or the root has several entries
--   near_of f s h k e left  == what is said of the removal: damage, or that it is done by the page alone, or neither: it is not decided here
--   Near                    == damage, where ok is false, and whether the removal is done; near_result == what the code returns for it
--   near_words f s h k e    == the words after it: with the page alone written, or as they were
use Rattle.std.specs.Prelude.{Result, Bool, true, false, ◌&&◌, ◌||◌, not, List, ℕ, ◌+◌, eqb, ltb, length}
use Rattle.answers.specs.declared.Refusal.{Refusal}
use Rattle.store.specs.declared.Format.{Format}
use Rattle.store.specs.declared.Head.{Head}
use Rattle.store.specs.declared.Item.{Item}
use Rattle.store.specs.Format.{width}
use Rattle.store.specs.Head.{node_start, page_at}
use Rattle.node.specs.Node.{depth_word}
use Rattle.page.specs.Schema.{key_of}
use Rattle.search.specs.Way.{Visit, End, answered}
use Rattle.search.specs.Descent.{step_of}
use Rattle.search.specs.Find.{sound_page}
use Rattle.split.specs.Insertion.{put_items}
use Rattle.insert.specs.Enter.{own_items}
use Rattle.joins.specs.Joins.{without}
use Rattle.remove.specs.Remove.{sibling_key}

pub record Near : Type 0 where
  pub ok : Bool
  pub done : Bool

abbrev pub near_result : Near → Result Bool Refusal
near_result r = answered r.ok r.done

abbrev pub left_in : Format → List ℕ → Head → ℕ → ℕ → List Item
left_in f s h k p = without key_of k (own_items f s h p)

-- "by a descent with its prefix and zeros after"
abbrev pub entry_beside : Format → List ℕ → Head → ℕ → End → Visit
entry_beside f s h k e = step_of f s h (sibling_key (width f) k e.used) 1 e.node e.before

-- "That ends at the sibling, or at the first entry with a longer prefix, whose block is not visited: that pair stays apart." A sibling's page is null,
-- or keeps the page rules and agrees with its prefix. "Sibling stretches then join wherever, by what the pair holds, document 01's tree of the remaining
-- records has them joined": just if they have at most C records together.
unfoldable pub beside : Format → List ℕ → Head → ℕ → End → ℕ → Near
beside f s h k e left =
    let p : ℕ = (entry_beside f s h k e).pointer in
    elim (ltb e.used (e.before + (entry_beside f s h k e).depth)) [
      | true ↦ record { ok = true; done = true }
      | false ↦
          elim (eqb p 0 || sound_page f h (page_at f s h p) (sibling_key (width f) k e.used) e.used) [
            | true ↦ record { ok = true; done = ltb h.capacity (left + length (own_items f s h p)) }
            | false ↦ record { ok = false; done = false }
          ]
    ]

-- "Last, from the top down, each root above level 1 with one entry is released."
unfoldable pub root_stays : List ℕ → Head → Bool
root_stays s h = eqb h.levels 1 || not (eqb (depth_word s (node_start h h.root)) 0)

-- "An emptied page is released." A page whose prefix is no longer than its node's has its sibling in another node. Neither is decided here, nor is
-- a root that is to be released.
unfoldable pub near_of : Format → List ℕ → Head → ℕ → End → ℕ → Near
near_of f s h k e left =
    elim (ltb 0 left && ltb e.before e.used && root_stays s h) [
      | true ↦ beside f s h k e left
      | false ↦ record { ok = true; done = false }
    ]

unfoldable pub near_words : Format → List ℕ → Head → ℕ → End → List ℕ
near_words f s h k e =
    elim (near_of f s h k e (length (left_in f s h k e.page))).done [
      | true ↦ put_items f h.capacity s e.page (left_in f s h k e.page)
      | false ↦ s
    ]
