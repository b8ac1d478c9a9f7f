-- What every represented store has: its labels are numbers of blocks in use, and each block in use is read as the tries say.
use mathlib.Core.Path.{◌≡◌}
use mathlib.Core.List.{List}
use Prim.Native.Nat.{ℕ, ◌+◌, ◌≤◌}
use native.Mathlib.Omega.{arith}
use Rattle.tree.specs.Trie.{Trie}
use Rattle.store.specs.declared.Format.{Format}
use Rattle.store.specs.Head.{head_of, node_start, node_at}
use Rattle.store.specs.Released.{released_nodes}
use Rattle.node.specs.Node.{back_word, forward_word}
use Rattle.represent.specs.Labelled.{occs, count}
use Rattle.represent.specs.Image.{NodeIs}
use Rattle.represent.specs.Rep.{Stretch, Rep}
use Rattle.represent.proofs.LabelLaws.{label_low, label_high}
use Rattle.represent.proofs.ImageLaws.{Shown, node_shown, node_back, node_forward}

-- a node of a represented store, in place
module _ (f : Format) (s : List ℕ) (b0 : Trie Stretch) (bs : List (Trie ℕ)) (r : Rep f s b0 bs) (n level : ℕ) (v : Trie ℕ)
    (o : 1 ≤ occs n bs) (is : NodeIs (head_of s).theta (node_at s (head_of s) n) level v) where
  low : 1 ≤ n
  low = label_low bs n r.directory.positive o

  high : n ≤ (head_of s).node_blocks
  high = omega (arith, label_high (head_of s).nodes_taken (λ x. occs x bs + count x (released_nodes s)) n r.directory.one_for_one.none (omega arith), r.nodes_fit)

  pub rep_shown : Shown s (node_start (head_of s) n) (head_of s).theta level v
  rep_shown = node_shown f s (head_of s) n level v low high r.sized.long is

  pub rep_back : back_word s (node_start (head_of s) n) ≡ back_word (node_at s (head_of s) n) 0
  rep_back = node_back f s (head_of s) n level v low high r.sized.long is

  pub rep_forward : forward_word s (node_start (head_of s) n) ≡ forward_word (node_at s (head_of s) n) 0
  rep_forward = node_forward f s (head_of s) n level v low high r.sized.long is
