-- A node block and the rule that a visited one keeps. Document 01, "Descent and splits" and "Reading".
-- b is the first word of the node's block.
--   depth_word, level_word, back_word, forward_word s b == the four words before the entries
--   entry_depth, entry_pointer s b i == the two words of entry i: local depth h and pointer
--   entry_of s b i      == both
--   run_rule H e        == the entries e fall into aligned runs, each as long as its local depth says
--   good_runs H low high e == that, the largest local depth is H, and the pointers are from low to high
--   link_rule, pointer_low, pointer_high == what the level says of links and pointers
--   node_rule h s b level == a visited node at this level
--   entry_number W k used H == the entry that a key takes, after the used bits
--   same_entry x y      == two entries are equal
use Rattle.std.specs.Prelude.{ℕ, ◌+◌, ◌-◌, ◌*◌, ◌/◌, ◌%◌, ◌^◌, Bool, true, false, ◌&&◌, List, ◌==◌, nat_le}
use Rattle.lists.specs.Lists.{every, greatest}
use Rattle.tree.specs.Node.{Entry}
use Rattle.store.specs.declared.Head.{Head}
use Rattle.store.specs.Head.{word, zeros}

abbrev pub depth_word : List ℕ → ℕ → ℕ
depth_word s b = word s b

abbrev pub level_word : List ℕ → ℕ → ℕ
level_word s b = word s (b + 1)

abbrev pub back_word : List ℕ → ℕ → ℕ
back_word s b = word s (b + 2)

abbrev pub forward_word : List ℕ → ℕ → ℕ
forward_word s b = word s (b + 3)

abbrev pub entry_depth : List ℕ → ℕ → ℕ → ℕ
entry_depth s b i = word s (b + 4 + 2 * i)

abbrev pub entry_pointer : List ℕ → ℕ → ℕ → ℕ
entry_pointer s b i = word s (b + 5 + 2 * i)

abbrev pub entry_of : List ℕ → ℕ → ℕ → Entry ℕ
entry_of s b i = (entry_depth s b i, entry_pointer s b i)

abbrev pub same_entry : Entry ℕ → Entry ℕ → Bool
same_entry x y = x.0 == y.0 && x.1 == y.1

-- "A local depth h covers an aligned run of 2^(H−h) equal entries"
unfoldable pub run_rule : ℕ → (ℕ → Entry ℕ) → Bool
run_rule H e =
    every (2 ^ H) (λ i. nat_le (e i).0 H && every (2 ^ (H - (e i).0)) (λ j. same_entry (e (i - i % 2 ^ (H - (e i).0) + j)) (e i)))

-- "the largest h equals H"
unfoldable pub good_runs : ℕ → ℕ → ℕ → (ℕ → Entry ℕ) → Bool
good_runs H low high e =
    run_rule H e && greatest (2 ^ H) (λ i. (e i).0) == H && every (2 ^ H) (λ i. nat_le low (e i).1 && nat_le (e i).1 high)

-- "Level-1 nodes are linked both ways in key order; others have links 0."
unfoldable pub link_rule : Head → ℕ → ℕ → ℕ → Bool
link_rule h level back forward =
    elim (level == 1) [
      | true ↦ nat_le back h.nodes_taken && nat_le forward h.nodes_taken
      | false ↦ (back == 0) && forward == 0
    ]

-- "Level-1 entries point to pages or null, higher ones to nodes one level down", "to taken blocks"
unfoldable pub pointer_low : ℕ → ℕ
pointer_low level = elim (level == 1) [ true ↦ 0 | false ↦ 1 ]

unfoldable pub pointer_high : Head → ℕ → ℕ
pointer_high h level = elim (level == 1) [ true ↦ h.pages_taken | false ↦ h.nodes_taken ]

-- "A visited node must keep every rule above at its level, with pointers and links to taken blocks or, where lawful, 0"
unfoldable pub node_rule : Head → List ℕ → ℕ → ℕ → Bool
node_rule h s b level =
    nat_le (depth_word s b) h.theta && level_word s b == level && link_rule h level (back_word s b) (forward_word s b)
    && good_runs (depth_word s b) (pointer_low level) (pointer_high h level) (entry_of s b)
    && zeros s (b + 4 + 2 * 2 ^ depth_word s b) (2 * (2 ^ h.theta - 2 ^ depth_word s b))

-- "At a node the next H bits of the key, high bit first, number the entry."
unfoldable pub entry_number : ℕ → ℕ → ℕ → ℕ → ℕ
entry_number W k used H = k / 2 ^ (W - used - H) % 2 ^ H
