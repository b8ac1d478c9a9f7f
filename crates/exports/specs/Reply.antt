-- The reply words of an exported operation: the values of its answer at the front of a lent slice. On a refusal the values are zeros.
--   filled vs out   == out with the values vs at its front, as far as they fit; its other words stay
--   size_values r    == of set-up: the size
--   enter_values r   == of enter: the key, the levels, the nodes and the pages in use
--   record_values r  == of remove, find and next: the key, the price, the lease days, the last day
--   range_values r   == of range: the count, the first key not written
--   summary_values r == of summary: the count, the total balance, the key of the earliest last day
--   balance_values r == of balance: the balance
--   key_values r     == of a label's key, or of a conversion: the key
--   label_values r   == of a key's label: the section, the row, the place, the letter
use Rattle.std.specs.Prelude.{List, [], ◌∷◌, ℕ}
use Rattle.plot.specs.Money.{}
use Rattle.plot.specs.Label.{KeyReply, LabelReply}
use Rattle.tree.specs.Book.{}
use Rattle.store.specs.SetUp.{}
use Rattle.search.specs.Find.{}
use Rattle.scan.specs.Range.{RangeReply}
use Rattle.scan.specs.Summary.{SummaryReply}

-- A short slice is written as far as it goes, and a longer one keeps its other words.
unfoldable pub filled : List ℕ → List ℕ → List ℕ
filled [] out = out
filled (v ∷ vs) [] = []
filled (v ∷ vs) (w ∷ ws) = v ∷ filled vs ws

-- "Set-up gives the size."
unfoldable pub size_values : Rattle.store.specs.SetUp.Reply → List ℕ
size_values r = r.size ∷ []

-- "Enter gives key, levels, nodes taken, pages taken." M-106: "replies count blocks in use"
unfoldable pub enter_values : Rattle.tree.specs.Book.Reply → List ℕ
enter_values r = r.key ∷ r.levels ∷ r.nodes ∷ r.pages ∷ []

-- "Find and next give the record." M-106: remove "gives the removed record"
unfoldable pub record_values : Rattle.search.specs.Find.Reply → List ℕ
record_values r = r.item.key ∷ r.item.price ∷ r.item.lease ∷ r.item.last ∷ []

-- "gives the count and the range's first key not written, or 0"
unfoldable pub range_values : RangeReply → List ℕ
range_values r = r.count ∷ r.more ∷ []

-- "Summary gives count, total .., earliest key."
unfoldable pub summary_values : SummaryReply → List ℕ
summary_values r = r.count ∷ r.total ∷ r.key ∷ []

unfoldable pub balance_values : Rattle.plot.specs.Money.Reply → List ℕ
balance_values r = r.value ∷ []

unfoldable pub key_values : KeyReply → List ℕ
key_values r = r.key ∷ []

unfoldable pub label_values : LabelReply → List ℕ
label_values r = r.section ∷ r.row ∷ r.place ∷ r.letter ∷ []
