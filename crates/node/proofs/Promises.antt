-- The promises of specs/Promises.antt, each from its laws.
use Rattle.node.specs.Promises.{NodeIsTrie, EntryByBits}
use Rattle.node.proofs.RunWalk.{good_is_trie}
use Rattle.node.proofs.EntryNumber.{entry_index}
use Rattle.node.proofs.NodeLaws.{node_facts}

pub node_is_trie : NodeIsTrie
node_is_trie h s b level e = good_is_trie _ _ _ _ (node_facts h s b level e).runs

pub entry_by_bits : EntryByBits
entry_by_bits = entry_index
