-- What is promised of a node block's words, each as a type; proofs/Promises.antt proves them.
--   NodeIsTrie    == the entries of a node that keeps the rule are a trie's, of the node's depth
--   EntryByBits   == the entry number by shift and mask is the number of the key's next bits
use Rattle.std.specs.Prelude.{◌≡◌, ℕ, ◌+◌, ◌^◌, ◌<◌, ◌≤◌, true, List, drop}
use Rattle.lists.specs.Bits.{bits, index}
use Rattle.lists.specs.Lists.{tab}
use Rattle.tree.specs.Trie.{Trie, height}
use Rattle.tree.specs.Node.{flatten}
use Rattle.store.specs.declared.Head.{Head}
use Rattle.node.specs.Node.{depth_word, entry_of, node_rule, entry_number}

abbrev pub NodeIsTrie : Type 0
NodeIsTrie =
    (h : Head) (s : List ℕ) (b level : ℕ) → node_rule h s b level ≡ true
    → (t : Trie ℕ) × (height t ≡ depth_word s b) × (flatten (depth_word s b) t 0 ≡ tab (2 ^ depth_word s b) (entry_of s b))

abbrev pub EntryByBits : Type 0
EntryByBits = (W k used H : ℕ) → used + H ≤ W → k < 2 ^ W → entry_number W k used H ≡ index H (drop used (bits W k))
