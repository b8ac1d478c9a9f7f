-- A store with one rule broken, and what is tried on it.
--   call_with kind a b c d == a call
--   call_on key j    == the call j at a key: find, next, range, summary, enter
--   numbered_reply n got == what is expected where only the number is: a refusal has zeros, other values are not judged
--   answered_in p c n == a call, the number of its answer compared
--   answers_from rows i p j n == n calls of a row at its key, from call j on
--   broken s rows i == the word of a row written
--   broken_row sound rows p i == the same; with a key the calls are made, and the store is sound again
--   broken_from sound rows p i n == n rows, from row i on
--   entries_put s at depth pointer j n == n entries of a node written, from entry j on
--   node_put s n depth pointer == a node whose entries are all alike, each a run of its own
--   path_put s n k   == k nodes above node n, each pointing to the one below
--   levels_put s     == six nodes taken, the sixth the root, six levels
--   deep_put s depth == a path of six nodes; the last has that depth, and all its entries are null
use Rattle.std.specs.Prelude.{true, false, List, [], ◌∷◌, ℕ, ◌+◌, ◌-◌, ◌*◌, ◌%◌, ◌^◌, eqb, set, get_or}
use Rattle.store.specs.Head.{word}
use Rattle.raw.specs.Words.{written}
use Rattle.raw.specs.Steps.{steps}
use Rattle.raw.specs.Blocks.{node_block, block_kind, block}
use Rattle.harness.specs.declared.calls.Kind.{Kind}
use Rattle.harness.specs.declared.calls.Kind.TheVariants.{SetUp, Enter, Find, Next, Range, Summary}
use Rattle.harness.specs.declared.calls.Call.{Call}
use Rattle.harness.specs.declared.calls.Reply.{Reply}
use Rattle.harness.specs.Calls.{refused, given, marked, ran_of, outcome}
use Rattle.harness.specs.Tally.{judged_outcome}
use Rattle.harness.specs.Script.{Played, both, cell_of}

abbrev pub call_with : Kind → ℕ → ℕ → ℕ → ℕ → Call
call_with kind a b c d = record { kind = kind; a = a; b = b; c = c; d = d }

unfoldable pub call_on : ℕ → ℕ → Call
call_on key j =
    get_or
    (call_with Find key 0 0 0 ∷ call_with Next key 0 0 0 ∷ call_with Range key (2 ^ 32 - 1) 64 0 ∷ call_with Summary key (2 ^ 32 - 1) 40 0 ∷ []) j
    (call_with Enter key 100 10 50)

unfoldable pub numbered_reply : ℕ → Reply → Reply
numbered_reply n got = elim (eqb n 0) [ true ↦ given got.a got.b got.c got.d | false ↦ refused n ]

unfoldable pub answered_in : Played → Call → ℕ → Played
answered_in p c n =
    let o = outcome c p.store (marked 64) in
    both (ran_of c p.store (marked 64)).store (judged_outcome p.tally (numbered_reply n o.reply) o)

unfoldable pub answers_from : List (List ℕ) → ℕ → Played → ℕ → ℕ → Played
answers_from rows i = steps (λ p j. answered_in p (call_on (cell_of rows i 4) j) (cell_of rows i (5 + j)))

unfoldable pub broken : List ℕ → List (List ℕ) → ℕ → List ℕ
broken s rows i = set s (block s (block_kind (cell_of rows i 0)) (cell_of rows i 1) + cell_of rows i 2) (cell_of rows i 3)

unfoldable pub broken_row : List ℕ → List (List ℕ) → Played → ℕ → Played
broken_row sound rows p i =
    let b = both (broken p.store rows i) p.tally in
    let q = answers_from rows i b 0 5 in
    elim (eqb (cell_of rows i 4) 0) [ true ↦ b | false ↦ both (written (word sound) q.store 184) q.tally ]

unfoldable pub broken_from : List ℕ → List (List ℕ) → Played → ℕ → ℕ → Played
broken_from sound rows = steps (broken_row sound rows)

unfoldable pub entries_put : List ℕ → ℕ → ℕ → ℕ → ℕ → ℕ → List ℕ
entries_put s at depth pointer = steps (λ s j. set (set s (at + 4 + 2 * j) depth) (at + 5 + 2 * j) pointer) s

unfoldable pub node_put : List ℕ → ℕ → ℕ → ℕ → List ℕ
node_put s n depth pointer =
    let at = node_block s n in
    entries_put (set (set s at depth) (at + 1) n) at depth pointer 0 (2 ^ (depth % 7))

unfoldable pub path_put : List ℕ → ℕ → ℕ → List ℕ
path_put = steps (λ s n. node_put s (n + 1) 6 n)

unfoldable pub levels_put : List ℕ → List ℕ
levels_put s = set (set (set s 4 6) 6 6) 7 6

unfoldable pub deep_put : List ℕ → ℕ → List ℕ
deep_put s depth = levels_put (node_put (path_put (ran_of (call_with SetUp 6 1 6 1) s (0 ∷ [])).store 1 5) 1 depth 0)
