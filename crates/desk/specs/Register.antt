-- A register written out and read again. M-101: "Fed to a fresh program they are all accepted and give the same tree apart from block
-- numbers."
--   dump s             == the bytes that kind 6 prints of the store s
--   acceptances z S its == the replies to the lines of the records its, where the store of the sizes z holds the records S
--   Restored           == a program that is fed with the dump of a store that holds a set accepts every line, and its store then holds the
--                         tree of the same set, of the same sizes
--   printed input      == what kind 6 prints after the input
--   Ended input        == the input is empty or ends with byte 0A
--   PrintedNext        == the line of kind 6 after such an input prints just that
--   WrittenOut         == of a register m that an input has left, that is its lines; a program that is fed with them accepts every line, and
--                         its register is then m (with `StandsAfter` its words hold the same tree, of the same sizes)
use Rattle.std.specs.Prelude.{◌≡◌, List, [], ◌∷◌, ◌++◌, ◌⊎◌, ℕ, length, replicate}
use Rattle.tree.specs.Book.{Sizes, levels_of, nodes_of, pages_of}
use Rattle.lines.specs.declared.Request.TheVariants.{Dump}
use Rattle.lines.specs.declared.Reply.TheVariants.{SetUpDone, Entered}
use Rattle.lines.specs.Request.{request_line}
use Rattle.lines.specs.Reply.{line_feed, reply_line}
use Rattle.store.specs.declared.Format.TheVariants.{Plots}
use Rattle.store.specs.declared.Item.{Item}
use Rattle.store.specs.Head.{size}
use Rattle.page.specs.Schema.{schema_of}
use Rattle.represent.specs.Rep.{Holds}
use Rattle.insert.specs.Promises.{sizes_in}
use Rattle.index.specs.Model.{Model}
use Rattle.desk.specs.Transcript.{answered, outcome_bytes, served, store_words, transcript}
use Rattle.desk.specs.Clerk.{holding, dump_lines, reckoned, register_after}

abbrev pub dump : List ℕ → List ℕ
dump s = outcome_bytes s (answered s Dump).outcome

unfoldable pub acceptances : Sizes → List Item → List Item → List ℕ
acceptances z S [] = []
acceptances z S (it ∷ its) =
    let T : List Item = S ++ it ∷ [] in
    let F = schema_of Plots in
    reply_line (Entered it.key (levels_of F z T) (nodes_of F z T) (pages_of F z T)) ++ acceptances z T its

abbrev pub Restored : Type 0
Restored =
    (s : List ℕ) (S : List Item) → Holds Plots s S → length s ≡ store_words
    → let z = sizes_in s in
    let a = served (replicate store_words 0) [] (dump s) in
    (a.bytes ≡ reply_line (SetUpDone (size Plots z.theta z.capacity z.node_blocks z.page_blocks)) ++ acceptances z [] S)
    × Holds Plots a.words S
    × (sizes_in a.words ≡ z)

-- what kind 6 prints after the input
unfoldable pub printed : List ℕ → List ℕ
printed input = (reckoned (register_after input) Dump).bytes

-- no line is unfinished
abbrev pub Ended : List ℕ → Type 0
Ended input = (input ≡ []) ⊎ ((bs : List ℕ) × (input ≡ bs ++ line_feed ∷ []))

abbrev pub PrintedNext : Type 0
PrintedNext =
    (input : List ℕ) → Ended input → transcript (input ++ request_line Dump ++ line_feed ∷ []) ≡ transcript input ++ printed input

-- no store is spoken of: all are accepted, line by line, and the register at the end has the same sizes and the same records, so the same
-- tree
abbrev pub WrittenOut : Type 0
WrittenOut =
    (input : List ℕ) (m : Model) → register_after input ≡ holding m
    → let z = m.sizes in
    (printed input ≡ dump_lines m)
    × (transcript (printed input)
    ≡ reply_line (SetUpDone (size Plots z.theta z.capacity z.node_blocks z.page_blocks)) ++ acceptances z [] m.held)
    × (register_after (printed input) ≡ holding m)
