-- A register written out and read again, on the clerk's side: each line is a request, the set-up is done, and every record is accepted,
-- because its key is above those before it and the tree of the first records is no larger than that of all. The words after it follow:
-- they are those of the register.
--   gives bytes r     == these bytes replied, and then the register r
--   after r line input == what is replied to the input, and the register after it
--   behind bytes a    == bytes in front of a
--   onward rest a     == what a gives, and then the input rest on its register
--   Onward rest input == the input rest is answered on the register that the input leaves
--   kept z S          == the register of the sizes z that holds S
--   joins z it T      == the book's answer where the record it is accepted, and the book is T then
--   done z            == the reply to a set-up of the sizes z that is done
--   Accepted m        == the lines of the register m are all accepted, and end in the register m
use mathlib.Core.Path.{◌≡◌, refl, sym, ap, ◌∙◌, subst}
use mathlib.Core.Bool.{true}
use mathlib.Core.List.{List, [], ◌∷◌, ◌++◌, append_assoc, append-nil}
use mathlib.Core.List.Sublistᴰ
use mathlib.Core.Logic.{inl, inr}
use Prim.Native.Nat.{ℕ, ◌^◌, ◌≤◌, ◌<◌}
use native.Mathlib.Omega.{arith}
use lib.Dec.{eqb}
use lib.ListN.{length, replicate}
use borrow.Author.Tests.{ne_eqb, le-leb}
use Rattle.lists.specs.Lists.{All}
use Rattle.lists.specs.Keyed.{Sorted, insert}
use Rattle.lists.proofs.Cases.{by_cases}
use Rattle.lists.proofs.ListLaws.{all_map}
use Rattle.lists.proofs.AppendLaws.{pairwise_before}
use Rattle.lists.proofs.KeyedLaws.{insert_ge, lacks_contains}
use Rattle.plot.proofs.Promises.{lawful_record}
use Rattle.tree.specs.Book.{Schema, Sizes, levels_of, nodes_of, pages_of, fits, entered}
use Rattle.tree.proofs.BookLaws.{fits_sublist, accepted_by, entered_yes}
use Rattle.store.specs.declared.Format.TheVariants.{Plots}
use Rattle.store.specs.declared.Item.{Item}
use Rattle.store.specs.Head.{head_of, lawful_sizes, size}
use Rattle.store.proofs.HeadLaws.{sizes_limits}
use Rattle.page.specs.Page.{plot_of, lawful_item}
use Rattle.page.specs.Schema.{key_of, schema_of}
use Rattle.represent.specs.Rep.{Holds}
use Rattle.represent.proofs.HeadPasses.{counts_are_the_trees}
use Rattle.insert.specs.Promises.{sizes_in}
use Rattle.index.specs.Model.{Model, sizes_of, fresh, enter_in}
use Rattle.lines.specs.declared.Request.{Request}
use Rattle.lines.specs.declared.Request.TheVariants.{SetUp, Enter, Dump}
use Rattle.lines.specs.declared.Reply.TheVariants.{SetUpDone, Entered, SetUpLine}
use Rattle.lines.specs.Request.{fields_of, request_line, parsed}
use Rattle.lines.specs.Reply.{line_feed, reply_line}
use Rattle.lines.proofs.Promises.{format_then_parse, dump_parses}
use Rattle.lines.proofs.RequestLaws.{line_printed}
use Rattle.desk.specs.Replies.{told, set_up_told, enter_told, listed_told, listed_lines}
use Rattle.desk.specs.Transcript.{answered, ending, served, store_words, transcript}
use Rattle.desk.specs.Clerk.{Register, unset, holding, Reckoned, set_up_reply, after_set_up, dump_lines, reckoned, reckoned_line, reckonings, reckoning}
use Rattle.desk.specs.Clerk.{registers, register_after, Stands}
use Rattle.desk.specs.Register.{dump, acceptances, Restored, printed, Ended, PrintedNext, WrittenOut}
use Rattle.desk.proofs.Clerk.{dump_lines_lem, clerk, stands_after}

abbrev gives : List ℕ → Register → Reckoned
gives bytes r = record { bytes = bytes; register = r }

abbrev after : Register → List ℕ → List ℕ → Reckoned
after r line input = gives (reckonings r line input) (registers r line input)

abbrev behind : List ℕ → Reckoned → Reckoned
behind bytes a = gives (bytes ++ a.bytes) a.register

abbrev onward : List ℕ → Reckoned → Reckoned
onward rest a = behind a.bytes (after a.register [] rest)

-- the bytes of a line are gathered up to its byte 0A, and the request is answered
after_through : (r : Register) (line bs rest : List ℕ) → All (λ b. line_feed < b) bs → after r line (bs ++ rest) ≡ after r (line ++ bs) rest
unfolding reckonings registers
after_through r line [] rest p = ap (λ (l : List ℕ). after r l rest) (sym (append-nil line))
after_through r line (b ∷ bs) rest p =
    rw (ne_eqb b line_feed (λ e. omega (arith, p.0)), reckonings, registers)
    (after_through r (line ++ b ∷ []) bs rest p.1 ∙ ap (λ (l : List ℕ). after r l rest) (append_assoc line (b ∷ []) bs))

after_feed : (r : Register) (line rest : List ℕ) → after r line (line_feed ∷ rest) ≡ onward rest (reckoned_line r (parsed line))
unfolding reckonings registers
after_feed r line rest = refl

after_request : (r : Register) (line rest : List ℕ) (q : Request) → All (λ n. n < 2 ^ 32) (fields_of q)
    → line ≡ request_line q ++ line_feed ∷ [] → after r [] (line ++ rest) ≡ onward rest (reckoned r q)
after_request r line rest q f e =
    ap (λ (bs : List ℕ). after r [] (bs ++ rest)) e
    ∙ ap (after r []) (append_assoc (request_line q) (line_feed ∷ []) rest)
    ∙ after_through r [] (request_line q) (line_feed ∷ rest) (line_printed q)
    ∙ after_feed r (request_line q) rest ∙ ap (λ p. onward rest (reckoned_line r p)) (format_then_parse q f)

-- after whole lines the rest is answered on the register that they leave
lines_first : (r : Register) (line bs rest : List ℕ)
    → reckonings r line ((bs ++ line_feed ∷ []) ++ rest)
    ≡ reckonings r line (bs ++ line_feed ∷ []) ++ reckonings (registers r line (bs ++ line_feed ∷ [])) [] rest
unfolding reckonings registers ending
lines_first r line [] rest =
    let a = reckoned_line r (parsed line) in
    ap (λ (bs : List ℕ). bs ++ reckonings a.register [] rest) (sym (append-nil a.bytes))
lines_first r line (b ∷ bs) rest =
    let a = reckoned_line r (parsed line) in
    by_cases (eqb b line_feed)
    (λ e.
    rw (e, reckonings, registers)
    (ap (λ (l : List ℕ). a.bytes ++ l) (lines_first a.register [] bs rest)
    ∙ sym (append_assoc a.bytes (reckonings a.register [] (bs ++ line_feed ∷ [])) _)))
    (λ e. rw (e, reckonings, registers) (lines_first r (line ++ b ∷ []) bs rest))

abbrev Onward : List ℕ → List ℕ → Type 0
Onward rest input = reckoning (input ++ rest) ≡ reckoning input ++ reckonings (register_after input) [] rest

ended_first : (input rest : List ℕ) → Ended input → Onward rest input
unfolding reckonings reckoning registers register_after ending
ended_first input rest (inl e) = subst (Onward rest) (sym e) refl
ended_first input rest (inr e) = subst (Onward rest) (sym e.1) (lines_first unset [] e.0 rest)

pub printed_next : PrintedNext
unfolding printed reckonings ending
printed_next input e =
    let line : List ℕ = request_line Dump ++ line_feed ∷ [] in
    let r = register_after input in
    let small : 0 < 2 ^ 32 = omega arith in
    let one = after_request r line [] Dump (small, (small, (small, (small, tt)))) refl in
    ap transcript (append_assoc input (request_line Dump) (line_feed ∷ []))
    ∙ clerk (input ++ line) ∙ ended_first input line e
    ∙ ap (λ (bs : List ℕ). reckoning input ++ reckonings r [] bs) (sym (append-nil line))
    ∙ ap (λ (a : Reckoned). reckoning input ++ a.bytes) one
    ∙ ap (λ (bs : List ℕ). reckoning input ++ bs) (append-nil (reckoned r Dump).bytes)
    ∙ ap (λ (bs : List ℕ). bs ++ (reckoned r Dump).bytes) (sym (clerk input))

-- a lawful record is four 32-bit numbers
item_words_lem : (it : Item) → lawful_item Plots it ≡ true
    → All (λ n. n < 2 ^ 32) (fields_of (Enter it.key it.price it.lease it.last))
unfolding lawful_item
item_words_lem it e =
    let l = (lawful_record (plot_of it)).0 e in
    elim l.3 [
      | inl t ↦ (l.0, (l.2, (omega (arith, t.0), (omega (arith, t.1), tt))))
      | inr t ↦ (l.0, (l.2, (omega (arith, t.1), (omega (arith, t.2), tt))))
    ]

-- a record above all others comes last
insert_last : (S : List Item) (it : Item) → All (λ x. x.key < it.key) S → insert key_of it S ≡ S ++ it ∷ []
unfolding insert
insert_last [] it a = refl
insert_last (x ∷ xs) it a =
    insert_ge key_of it x xs (omega (arith, a.0)) ∙ ap (λ (l : List Item). x ∷ l) (insert_last xs it a.1)

below : (S its : List Item) (it : Item) → Sorted key_of (S ++ it ∷ its) → All (λ x. x.key < it.key) S
below S its it = pairwise_before (λ x y. x.key < y.key) S it its

abbrev F : Schema Item
F = schema_of Plots

module _ (z : Sizes) where
  abbrev kept : List Item → Register
  kept S = holding (record { sizes = z; held = S })

  abbrev joins : Item → List Item → Rattle.tree.specs.Book.Entered Item
  joins it T =
      record {
        reply = record { number = 0; key = it.key; levels = levels_of F z T; nodes = nodes_of F z T; pages = pages_of F z T };
        held = T;
      }

  -- the next record of an ascending list whose tree fits
  module _ (S its : List Item) (it : Item) (law : lawful_item Plots it ≡ true) (sorted : Sorted key_of (S ++ it ∷ its))
      (fit : fits F z (S ++ it ∷ its) ≡ true) where
    abbrev T : List Item
    T = S ++ it ∷ []

    last : insert key_of it S ≡ T
    last = insert_last S it (below S its it sorted)

    joins_book : entered F z S it ≡ joins it T
    joins_book =
        let new =
        lacks_contains key_of it.key S
        (all_map (λ x. x.key < it.key) (λ x. x.key ≡ it.key → ⊥) S (λ x h e. omega arith) (below S its it sorted)) in
        let room : fits F z T ≡ true =
        fits_sublist F z T (S ++ it ∷ its) (Sublistᴰ.append (Sublistᴰ.refl S) (Sublistᴰ.cons-cons refl (Sublistᴰ.nil-sublist its))) fit in
        entered_yes F z S it (accepted_by F z S it (record { lawful = law; new = new; fitting = ap (fits F z) last ∙ room }))
        ∙ ap (joins it) last

    abbrev line : List ℕ
    line = reply_line (Entered it.key (levels_of F z T) (nodes_of F z T) (pages_of F z T))

    enters : reckoned (kept S) (Enter it.key it.price it.lease it.last) ≡ gives line (kept T)
    unfolding reckoned enter_in enter_told told
    enters = ap (λ (x : Rattle.tree.specs.Book.Entered Item). gives (reply_line (enter_told x.reply)) (kept x.held)) joins_book

    enters_first : (rest : List ℕ)
        → after (kept S) [] (reply_line (listed_told true it) ++ rest) ≡ behind line (after (kept T) [] rest)
    enters_first rest =
        after_request (kept S) _ rest (Enter it.key it.price it.lease it.last) (item_words_lem it law)
        (dump_parses it.key it.price it.lease it.last).1
        ∙ ap (onward rest) enters

  entries : (S its : List Item) → All (λ x. lawful_item Plots x ≡ true) its → Sorted key_of (S ++ its) → fits F z (S ++ its) ≡ true
      → after (kept S) [] (listed_lines true its) ≡ gives (acceptances z S its) (kept (S ++ its))
  unfolding reckonings registers ending listed_lines acceptances
  entries S [] law sorted fit = ap (λ (U : List Item). gives [] (kept U)) (sym (append-nil S))
  entries S (it ∷ its) law sorted fit =
      let all : (S ++ it ∷ []) ++ its ≡ S ++ it ∷ its = append_assoc S (it ∷ []) its in
      let i = entries (S ++ it ∷ []) its law.1 (subst (Sorted key_of) (sym all) sorted) (ap (fits F z) all ∙ fit) in
      enters_first S its it law.0 sorted fit (listed_lines true its)
      ∙ ap (behind (line S its it law.0 sorted fit)) i
      ∙ ap (λ (U : List Item). gives (acceptances z S (it ∷ its)) (kept U)) all

-- the tree of a store that holds it fits
tree_fits : (s : List ℕ) (S : List Item) → Holds Plots s S → fits F (sizes_in s) S ≡ true
unfolding fits
tree_fits s S h =
    let c = counts_are_the_trees Plots s S h in
    rw (le-leb (nodes_of F (sizes_in s) S) (head_of s).node_blocks (omega (arith, c.1, h.rep.nodes_fit)))
    (le-leb (pages_of F (sizes_in s) S) (head_of s).page_blocks (omega (arith, c.2, h.rep.pages_fit)))

abbrev done : Sizes → List ℕ
done z = reply_line (SetUpDone (size Plots z.theta z.capacity z.node_blocks z.page_blocks))

-- a set-up of lawful sizes that has room
module _ (θ C N P : ℕ) (law : lawful_sizes θ C N P ≡ true) (room : size Plots θ C N P ≤ store_words) where
  set_up_fields : All (λ n. n < 2 ^ 32) (fields_of (SetUp θ C N P))
  set_up_fields =
      let l = sizes_limits θ C N P law in
      (omega (arith, l.theta), (omega (arith, l.capacity), (omega (arith, l.nodes), (omega (arith, l.pages), tt))))

  sets_up : reckoned unset (SetUp θ C N P) ≡ gives (done (sizes_of θ C N P)) (holding (fresh θ C N P))
  unfolding reckoned set_up_reply after_set_up set_up_told told
  sets_up = rw (law, le-leb (size Plots θ C N P) store_words room, reckoned, reckoned_line, set_up_reply, after_set_up)

  sets_up_first : (rest : List ℕ)
      → after unset [] (reply_line (SetUpLine θ C N P) ++ rest) ≡ behind (done (sizes_of θ C N P)) (after (holding (fresh θ C N P)) [] rest)
  sets_up_first rest =
      after_request unset _ rest (SetUp θ C N P) set_up_fields (dump_parses θ C N P).0 ∙ ap (onward rest) sets_up

-- the lines of a register that a store holds
abbrev Accepted : Model → Type 0
Accepted m = after unset [] (dump_lines m) ≡ gives (done m.sizes ++ acceptances m.sizes [] m.held) (holding m)

held_accepted : (s : List ℕ) (S : List Item) → Holds Plots s S → length s ≡ store_words → Accepted (record { sizes = sizes_in s; held = S })
unfolding dump_lines
held_accepted s S h long =
    let z = sizes_in s in
    let room : size Plots z.theta z.capacity z.node_blocks z.page_blocks ≤ store_words = omega (arith, h.rep.sized.long) in
    sets_up_first z.theta z.capacity z.node_blocks z.page_blocks h.rep.sized.sizes room (listed_lines true S)
    ∙ ap (behind (done z)) (entries z [] S h.lawful h.sorted (tree_fits s S h))

all_accepted : (s : List ℕ) (m : Model) → Stands s (holding m) → Accepted m
all_accepted s m h = subst (λ (z : Sizes). Accepted (record { sizes = z; held = m.held })) h.0 (held_accepted s m.held h.1 h.2)

-- a program that is fed with them
fed : (bytes : List ℕ) (m : Model) → bytes ≡ dump_lines m → gives (transcript bytes) (register_after bytes) ≡ after unset [] (dump_lines m)
unfolding reckoning register_after
fed bytes m e = ap (λ (x : List ℕ). gives x (register_after bytes)) (clerk bytes) ∙ ap (after unset []) e

pub restored : Restored
unfolding answered transcript
restored s S h long =
    let m : Model = record { sizes = sizes_in s; held = S } in
    let a = fed (dump s) m (dump_lines_lem s m (refl, h, long)) ∙ all_accepted s m (refl, h, long) in
    let t = (served (replicate store_words 0) [] (dump s)).words in
    let k : Stands t (holding m) = subst (Stands t) (ap (λ (x : Reckoned). x.register) a) (stands_after (dump s)) in
    (ap (λ (x : Reckoned). x.bytes) a, k.1, k.0)

pub written_out_lem : WrittenOut
unfolding printed reckoned
written_out_lem input m e =
    let p : printed input ≡ dump_lines m = ap (λ r. (reckoned r Dump).bytes) e in
    let s = (served (replicate store_words 0) [] input).words in
    let a = fed (printed input) m p ∙ all_accepted s m (subst (Stands s) e (stands_after input)) in
    (p, ap (λ (x : Reckoned). x.bytes) a, ap (λ (x : Reckoned). x.register) a)
