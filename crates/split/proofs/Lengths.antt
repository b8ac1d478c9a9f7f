-- The words of a block's image fill the block: its entries or records, and zeros for those that are not in use.
use mathlib.Core.Path.{◌≡◌}
use mathlib.Core.List.{List}
use Prim.Native.Nat.{ℕ, ◌-◌, ◌*◌, ◌^◌, ◌≤◌}
use native.Mathlib.Omega.{arith}
use lib.ListN.{length, replicate, length-append, length-replicate}
use lib.Pow.{pow_mono}
use Rattle.lists.proofs.Shifts.{shares}
use Rattle.tree.specs.Trie.{Trie, height}
use Rattle.tree.specs.Node.{Entry, flatten}
use Rattle.tree.proofs.Flatten.{length_flatten}
use Rattle.store.specs.declared.Format.{Format}
use Rattle.store.specs.declared.Item.{Item}
use Rattle.store.specs.Format.{words}
use Rattle.store.specs.Head.{node_words, page_words}
use Rattle.page.specs.Page.{flat}
use Rattle.page.proofs.Flat.{length_flat}
use Rattle.represent.specs.Image.{entry_words, node_image, page_image}
use Rattle.represent.proofs.ImageLaws.{length_entry_words}

pub length_node_image : (θ level back forward : ℕ) (v : Trie ℕ) → height v ≤ θ → length (node_image θ level back forward v) ≡ node_words θ
unfolding node_image node_words
length_node_image θ level back forward v h =
    let es : List (Entry ℕ) = flatten (height v) v 0 in
    omega (
      arith,
      length-append (entry_words es) (replicate (2 * (2 ^ θ - 2 ^ height v)) 0),
      length_entry_words es,
      length_flatten (height v) v 0,
      length-replicate {A = ℕ} (2 * (2 ^ θ - 2 ^ height v)) 0,
      pow_mono {i = height v} {j = θ} h,
    )

pub length_page_image : (f : Format) (C : ℕ) (rs : List Item) → length rs ≤ C → length (page_image f C rs) ≡ page_words f C
unfolding page_image page_words
length_page_image f C rs h =
    omega (
      arith,
      length-append (flat f rs) (replicate (words f * (C - length rs)) 0),
      length_flat f rs,
      length-replicate {A = ℕ} (words f * (C - length rs)) 0,
      shares (words f) (length rs) C h,
    )
