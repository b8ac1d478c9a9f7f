-- A page block with the records rs gives them back one by one, so it keeps the page rule. Each record's words stand after those of the
-- records before it, and a lawful key is one word.
use mathlib.Core.Path.{◌≡◌, sym, ap, ◌∙◌}
use mathlib.Core.Bool.{Bool, true}
use mathlib.Core.List.{List, [], ◌∷◌, ◌++◌, append_assoc}
use Prim.Native.Nat.{ℕ, zero, suc, ◌+◌, ◌-◌, ◌*◌, ◌/◌, ◌^◌, ◌≤◌, ◌<◌}
use native.Mathlib.Nat.{mod-eq_of_lt}
use native.Mathlib.Omega.{arith}
use lib.ListN.{length, get_or, replicate, length-append}
use Rattle.lists.specs.Lists.{All, every}
use Rattle.lists.specs.Keyed.{Sorted}
use Rattle.lists.proofs.AppendLaws.{all_at, pairwise_at}
use Rattle.lists.proofs.Parts.{get_d_past}
use Rattle.lists.proofs.Tests.{every_of}
use Rattle.store.specs.declared.Format.{Format}
use Rattle.store.specs.declared.Format.TheVariants.{Plots}
use Rattle.store.specs.declared.Item.{Item}
use Rattle.store.specs.Format.{width, words}
use Rattle.store.specs.Head.{word}
use Rattle.page.specs.Page.{count, item_at, key_at, lawful_item, page_rule, agrees, above, item_words, flat, Filled}
use Rattle.page.proofs.Laws.{lawful_key, Ordered, facts_ordered, facts_rule, facts_agrees}
use Rattle.search.specs.Find.{no_item}
use Rattle.page.proofs.Flat.{length_flat}
use Rattle.represent.specs.Image.{page_image}
use Rattle.page.specs.Schema.{key_of}
use Rattle.represent.proofs.ImageLaws.{get_d_zeros}

-- one record's words, before the others
item_first : (f : Format) (n : ℕ) (it : Item) (ws : List ℕ) → lawful_item f it ≡ true → item_at f (n ∷ (item_words f it ++ ws)) 0 ≡ it
unfolding item_at item_words width
item_first Plots n it ws e =
    ap (λ k. record { key = k; price = it.price; lease = it.lease; last = it.last }) (mod-eq_of_lt (lawful_key Plots it e).1)

item_after : (f : Format) (n : ℕ) (it : Item) (ws : List ℕ) (i : ℕ) → item_at f (n ∷ (item_words f it ++ ws)) (suc i) ≡ item_at f (n ∷ ws) i
unfolding item_at item_words
item_after Plots n it ws i = rw (on 1 (omega arith), on 2 (omega arith), on 3 (omega arith), on 4 (omega arith))
  where
    on : (x : ℕ) → 1 ≤ x → word (n ∷ (item_words Plots it ++ ws)) (4 * suc i + x) ≡ word (n ∷ ws) (4 * i + x)
    on x h =
        get_d_past (n ∷ item_words Plots it) ws 0 (4 * i + (x - 1)) {i = 4 * suc i + x} (omega arith)
        ∙ sym (get_d_past (n ∷ []) ws 0 (4 * i + (x - 1)) {i = 4 * i + x} (omega arith))

item_flat : (f : Format) (n : ℕ) (rs : List Item) (ws : List ℕ) (i : ℕ) → All (λ it. lawful_item f it ≡ true) rs → i < length rs
    → item_at f (n ∷ (flat f rs ++ ws)) i ≡ get_or rs i no_item
unfolding flat
item_flat f n [] ws i a h = absurd (omega arith)
item_flat f n (it ∷ its) ws zero a h =
    ap (λ l. item_at f (n ∷ l) 0) (append_assoc (item_words f it) (flat f its) ws) ∙ item_first f n it (flat f its ++ ws) a.0
item_flat f n (it ∷ its) ws (suc i) a h =
    ap (λ l. item_at f (n ∷ l) (suc i)) (append_assoc (item_words f it) (flat f its) ws) ∙ item_after f n it (flat f its ++ ws) i
    ∙ item_flat f n its ws i a.1 (omega arith)

module _ (f : Format) (C : ℕ) (pg : List ℕ) (rs : List Item) (is : pg ≡ page_image f C rs) where
  pub page_count_lem : count pg ≡ length rs
  unfolding page_image
  page_count_lem = ap (λ ws. word ws 0) is

  pub page_blank : (j : ℕ) → word pg (1 + words f * length rs + j) ≡ 0
  unfolding page_image
  page_blank j =
      ap (λ ws. word ws (1 + words f * length rs + j)) is
      ∙ get_d_past (length rs ∷ flat f rs) (replicate (words f * (C - length rs)) 0) 0 j
      {i = 1 + words f * length rs + j} (omega (arith, length_flat f rs))
      ∙ get_d_zeros (words f * (C - length rs)) j

  -- the records lie in the block
  pub page_inside : words f * count pg < length pg
  unfolding page_image
  page_inside =
      rw page_count_lem (omega (arith, ap length is, length-append (flat f rs) (replicate (words f * (C - length rs)) 0), length_flat f rs))

  module _ (lawful : All (λ it. lawful_item f it ≡ true) rs) where
    pub page_item : (i : ℕ) → i < length rs → item_at f pg i ≡ get_or rs i no_item
    unfolding page_image
    page_item i h =
        ap (λ ws. item_at f ws i) is ∙ item_flat f (length rs) rs (replicate (words f * (C - length rs)) 0) i lawful h

    pub page_head : (it : Item) (its : List Item) → rs ≡ it ∷ its → item_at f pg 0 ≡ it
    page_head it its e = page_item 0 (omega (arith, ap length e)) ∙ ap (λ l. get_or l 0 no_item) e

    pub page_key : (i : ℕ) → i < length rs → key_at f pg i ≡ (get_or rs i no_item).key
    page_key i h = ap key_of (page_item i h)

    -- what holds of every record holds at every number
    page_each : (P : Item → Type 0) → All P rs → (i : ℕ) → i < count pg → P (item_at f pg i)
    page_each P a i h =
        let l : i < length rs = omega (arith, page_count_lem) in
        rw (page_item i l) (all_at P no_item rs i a l)

    page_order : Sorted key_of rs → Ordered f pg (count pg)
    page_order sorted =
        record {
          lawful = page_each (λ it. lawful_item f it ≡ true) lawful;
          ascends = λ i j h l.
              let l' : j < length rs = omega (arith, page_count_lem) in
              rw (page_key i (omega arith), page_key j l') (pairwise_at (λ x y. key_of x < key_of y) no_item rs i j sorted h l');
        }

    pub page_filled : Sorted key_of rs → Filled f pg
    page_filled sorted = record { inside = page_inside; order = facts_ordered f pg (count pg) (page_order sorted) }

    pub page_passes : 1 ≤ length rs → length rs ≤ C → Sorted key_of rs → page_rule f C pg ≡ true
    page_passes some fits sorted =
        facts_rule f C pg
        (record {
          some = omega (arith, page_count_lem);
          fits = omega (arith, page_count_lem);
          order = page_order sorted;
          blank = λ j h. rw page_count_lem (page_blank j);
        })

    pub page_agrees : (k used : ℕ) → All (λ it. it.key / 2 ^ (width f - used) ≡ k / 2 ^ (width f - used)) rs → agrees f pg k used ≡ true
    page_agrees k used a = facts_agrees f pg k used (page_each (λ it. it.key / 2 ^ (width f - used) ≡ k / 2 ^ (width f - used)) a)

    pub page_all_above : (strict : Bool) (k : ℕ) → All (λ it. above strict k it.key ≡ true) rs
        → every (count pg) (λ i. above strict k (key_at f pg i)) ≡ true
    page_all_above strict k a = every_of (count pg) _ (page_each (λ it. above strict k it.key ≡ true) a)
