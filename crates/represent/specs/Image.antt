-- The words of a block in use.
--   entry_words es   == entries, two words each
--   node_image θ level back forward v == a node block whose entries stand for the trie v
--   page_image f C rs == a page block with the records rs
--   NodeIs θ ws level v == the node block ws has this level and the entries of v; of its links nothing is said
use Rattle.std.specs.Prelude.{◌≡◌, List, [], ◌∷◌, ◌++◌, ℕ, ◌-◌, ◌*◌, ◌^◌, ◌≤◌, length, replicate}
use Rattle.tree.specs.Trie.{Trie, height}
use Rattle.tree.specs.Node.{Entry, flatten}
use Rattle.store.specs.declared.Format.{Format}
use Rattle.store.specs.declared.Item.{Item}
use Rattle.store.specs.Format.{words}
use Rattle.node.specs.Node.{back_word, forward_word}
use Rattle.page.specs.Page.{flat}

abbrev pub entry_words : List (Entry ℕ) → List ℕ
entry_words [] = []
entry_words (e ∷ es) = e.0 ∷ e.1 ∷ entry_words es

-- "each node with its level, its largest h as H, its runs in key order, each with its h and pointing to its stretch's block"; "Words not in
-- use are zero."
unfoldable pub node_image : ℕ → ℕ → ℕ → ℕ → Trie ℕ → List ℕ
node_image θ level back forward v =
    height v ∷ level ∷ back ∷ forward ∷ (entry_words (flatten (height v) v 0) ++ replicate (2 * (2 ^ θ - 2 ^ height v)) 0)

-- "each page with its records": "count, then C records in ascending key order"
unfoldable pub page_image : Format → ℕ → List Item → List ℕ
page_image f C rs = length rs ∷ (flat f rs ++ replicate (words f * (C - length rs)) 0)

pub record NodeIs (θ : ℕ) (ws : List ℕ) (level : ℕ) (v : Trie ℕ) : Type 0 where
  pub low : height v ≤ θ
  pub image : ws ≡ node_image θ level (back_word ws 0) (forward_word ws 0) v
