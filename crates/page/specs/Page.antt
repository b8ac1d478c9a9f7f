-- A page and the rule that a visited one keeps. Document 01, "The store" and "Reading". pg is the page block's own words.
--   count pg              == how many records the page says that it has
--   item_at f pg i         == record number i, counted from 0
--   key_at f pg i          == its key
--   item_words f it        == the words of a record, as they stand in a page
--   flat f its            == the words of records, one after another
--   plot_of it             == the plot record of an item
--   lawful_item f it       == the record may be held
--   in_turn f k it         == the record may be held, and its key is above the key k
--   ordered f pg n        == the first n records are lawful and their keys ascend
--   page_rule f C pg       == a visited page, with the capacity C
--   Lent f C pg           == pg is a page block, lent whole, or no word of one that the store has not
--   Filled f pg           == the records that pg says it has lie within its words, lawful and ascending
--   agrees f pg k used    == all keys agree with the key k in its first `used` bits
--   above strict k x      == the key x is above k, or, if not strict, at or above it
--   first_above f pg strict k == the number of the first record with such a key, or the count where there is none
--   first_from f pg strict k n i == the first such record of n from number i on
use Rattle.std.specs.Prelude.{◌≡◌, Bool, true, false, ◌&&◌, List, [], ◌∷◌, ◌++◌, ◌⊎◌, ℕ, zero, suc, ◌+◌, ◌-◌, ◌*◌, ◌/◌, ◌%◌, ◌^◌, ◌<◌, leb, ltb, eqb, length}
use Rattle.lists.specs.Lists.{every}
use Rattle.plot.specs.declared.Record.{Record}
use Rattle.tree.specs.Book.{plot_schema}
use Rattle.store.specs.declared.Format.{Format}
use Rattle.store.specs.declared.Format.TheVariants.{Plots}
use Rattle.store.specs.declared.Item.{Item}
use Rattle.store.specs.Format.{width, words}
use Rattle.store.specs.Head.{word, zeros, page_words}

abbrev pub count : List ℕ → ℕ
count pg = word pg 0

-- "P page blocks, each: count, then C records"; "A record is four 32-bit unsigned words: key, price in pence, lease days, last day."
unfoldable pub item_at : Format → List ℕ → ℕ → Item
item_at Plots pg i =
    record {
      key = word pg (4 * i + 1);
      price = word pg (4 * i + 2);
      lease = word pg (4 * i + 3);
      last = word pg (4 * i + 4);
    }

abbrev pub key_at : Format → List ℕ → ℕ → ℕ
key_at f pg i = (item_at f pg i).key

-- (a plot's key is one word)
unfoldable pub item_words : Format → Item → List ℕ
item_words Plots it = it.key % 2 ^ 32 ∷ it.price ∷ it.lease ∷ it.last ∷ []

unfoldable pub flat : Format → List Item → List ℕ
flat f [] = []
flat f (it ∷ its) = item_words f it ++ flat f its

abbrev pub plot_of : Item → Record
plot_of it = record { key = it.key; price = it.price; lease = it.lease; last = it.last }

unfoldable pub lawful_item : Format → Item → Bool
lawful_item Plots it = plot_schema.lawful (plot_of it)

unfoldable pub in_turn : Format → ℕ → Item → Bool
in_turn f k it = lawful_item f it && ltb k it.key

unfoldable pub ordered : Format → List ℕ → ℕ → Bool
ordered f pg n = every n (λ i. lawful_item f (item_at f pg i)) && every (n - 1) (λ i. ltb (key_at f pg i) (key_at f pg (i + 1)))

-- "A visited page has 1 to C lawful records, ascending, and zeros after."
unfoldable pub page_rule : Format → ℕ → List ℕ → Bool
page_rule f C pg =
    leb 1 (count pg) && leb (count pg) C && ordered f pg (count pg) && zeros pg (1 + words f * count pg) (words f * (C - count pg))

abbrev pub Lent : Format → ℕ → List ℕ → Type 0
Lent f C pg = (length pg ≡ 0) ⊎ (length pg ≡ page_words f C)

pub record Filled (f : Format) (pg : List ℕ) : Type 0 where
  pub inside : words f * count pg < length pg
  pub order : ordered f pg (count pg) ≡ true

-- "all keys agree with the sought key in the used bits"
unfoldable pub agrees : Format → List ℕ → ℕ → ℕ → Bool
agrees f pg k used = every (count pg) (λ i. eqb (key_at f pg i / 2 ^ (width f - used)) (k / 2 ^ (width f - used)))

unfoldable pub above : Bool → ℕ → ℕ → Bool
above true k x = ltb k x
above false k x = leb k x

-- the first such record of n from number i on
unfoldable pub first_from : Format → List ℕ → Bool → ℕ → ℕ → ℕ → ℕ
first_from f pg strict k zero i = i
first_from f pg strict k (suc n) i = elim (above strict k (key_at f pg i)) [ true ↦ i | false ↦ first_from f pg strict k n (i + 1) ]

unfoldable pub first_above : Format → List ℕ → Bool → ℕ → ℕ
first_above f pg strict k = first_from f pg strict k (count pg) 0
