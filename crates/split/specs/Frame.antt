-- What an insertion writes into a store's words: whole blocks, and words of the head.
--   node_of s n       == the words of node block n, where the store's own head places it
--   page_of f s p     == the words of page block p, likewise
--   put_node s n ws   == s with node block n replaced by the words ws
--   put_page f s p ws == s with page block p replaced by the words ws
--   put_head s root levels == s with these two words of the head
use Rattle.std.specs.Prelude.{List, ℕ, set}
use Rattle.lists.specs.Lists.{replaced}
use Rattle.store.specs.declared.Format.{Format}
use Rattle.store.specs.Head.{head_of, node_words, node_start, page_words, page_start, page_at, node_at}

abbrev pub node_of : List ℕ → ℕ → List ℕ
node_of s n = node_at s (head_of s) n

abbrev pub page_of : Format → List ℕ → ℕ → List ℕ
page_of f s p = page_at f s (head_of s) p

unfoldable pub put_node : List ℕ → ℕ → List ℕ → List ℕ
put_node s n ws = replaced (node_start (head_of s) n) (node_words (head_of s).theta) ws s

unfoldable pub put_page : Format → List ℕ → ℕ → List ℕ → List ℕ
put_page f s p ws = replaced (page_start f (head_of s) p) (page_words f (head_of s).capacity) ws s

-- words 6 and 7: "root number, levels"
unfoldable pub put_head : List ℕ → ℕ → ℕ → List ℕ
put_head s root levels = set (set s 6 root) 7 levels
