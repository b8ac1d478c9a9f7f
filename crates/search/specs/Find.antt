-- Find. Document 01, "Reading": "Find gives the record or none."
--   sound_page f h pg k used == the sought key's own page keeps the page rule and agrees with the key in the used bits
--   in_page f pg k           == the record with the key k in a page, or none
--   find_of f s h k          == find in a store that keeps the head rule
--   Reply, reply            == document 01's number and values for an answer of find, next or remove
--   find_reply f s k         == what find is to reply
--   no_item                  == zeros: the item of a reply that has none
--   sought_reply, checked f s a == the reply for what was sought; the same behind the head rule
use Rattle.std.specs.Prelude.{Option, Some, None, Result, Ok, Err, Bool, true, false, ◌&&◌, List, ℕ, ltb, eqb}
use Rattle.answers.specs.declared.Refusal.{Refusal}
use Rattle.answers.specs.Answers.{number}
use Rattle.store.specs.declared.Format.{Format}
use Rattle.store.specs.declared.Head.{Head}
use Rattle.store.specs.declared.Item.{Item}
use Rattle.store.specs.Head.{head_of, head_rule, page_at}
use Rattle.page.specs.Page.{count, item_at, key_at, page_rule, agrees, first_above}
use Rattle.search.specs.Way.{Sought}
use Rattle.search.specs.Way.{Record, Nothing, Damaged}
use Rattle.search.specs.Descent.{descent}

unfoldable pub sound_page : Format → Head → List ℕ → ℕ → ℕ → Bool
sound_page f h pg k used = page_rule f h.capacity pg && agrees f pg k used

unfoldable pub in_page : Format → List ℕ → ℕ → Sought
in_page f pg k =
    elim (ltb (first_above f pg false k) (count pg) && eqb (key_at f pg (first_above f pg false k)) k) [
      | true ↦ Record (item_at f pg (first_above f pg false k))
      | false ↦ Nothing
    ]

unfoldable pub find_of : Format → List ℕ → Head → ℕ → Sought
find_of f s h k =
    elim (descent f s h k).ok [
      | false ↦ Damaged
      | true ↦
          elim (eqb (descent f s h k).page 0) [
            | true ↦ Nothing
            | false ↦
                elim (sound_page f h (page_at f s h (descent f s h k).page) k (descent f s h k).used) [
                  | false ↦ Damaged
                  | true ↦ in_page f (page_at f s h (descent f s h k).page) k
                ]
          ]
    ]

pub record Reply : Type 0 where
  pub number : ℕ
  pub item : Item

abbrev pub no_item : Item
no_item = record { key = 0; price = 0; lease = 0; last = 0 }

-- "Answer 1 is "none", 0 is done"; zeros returned
abbrev pub reply : Result (Option Item) Refusal → Reply
reply (Ok (Some it)) = record { number = 0; item = it }
reply (Ok None) = record { number = 1; item = no_item }
reply (Err e) = record { number = number e; item = no_item }

abbrev pub sought_reply : Sought → Reply
sought_reply (Record it) = record { number = 0; item = it }
sought_reply Nothing = record { number = 1; item = no_item }
sought_reply Damaged = record { number = 9; item = no_item }

unfoldable pub checked : Format → List ℕ → Sought → Reply
checked f s a = elim (head_rule f s) [ true ↦ sought_reply a | false ↦ record { number = 3; item = no_item } ]

unfoldable pub find_reply : Format → List ℕ → ℕ → Reply
find_reply f s k = checked f s (find_of f s (head_of s) k)
