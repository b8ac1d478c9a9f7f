-- How remove releases a block. Document 02, M-106.
--   release_node s n, release_page f s p == s after block n, or p, is released
use Rattle.std.specs.Prelude.{List, ℕ, suc, set}
use Rattle.store.specs.declared.Format.{Format}
use Rattle.store.specs.Head.{head_of, released_of}
use Rattle.store.specs.Released.{released_node, released_page}
use Rattle.split.specs.Frame.{put_node, put_page}

-- "Head words 8 and 9 (counting from 0) name the last released node and page; words 10 and 11 count the released nodes and pages."
unfoldable pub release_node : List ℕ → ℕ → List ℕ
release_node s n = set (set (put_node s n (released_node (head_of s).theta (released_of s).node)) 8 n) 10 (suc (released_of s).nodes)

unfoldable pub release_page : Format → List ℕ → ℕ → List ℕ
release_page f s p =
    set (set (put_page f s p (released_page f (head_of s).capacity (released_of s).page)) 9 p) 11 (suc (released_of s).pages)
