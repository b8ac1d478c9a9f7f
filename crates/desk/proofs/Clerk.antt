-- The transcript is the clerk's: the store is all zero until a set-up is done, and from then on it holds the register.
--   Same s r q == the request q is answered on s as the clerk answers it, and leaves words that are those of the clerk's register
use mathlib.Core.Path.{◌≡◌, refl, sym, ap, ap₂, ◌∙◌, subst}
use mathlib.Core.Bool.{true, false}
use mathlib.Core.List.{List, [], ◌∷◌, ◌++◌}
use Prim.Native.Nat.{ℕ, ◌^◌, ◌<◌}
use native.Mathlib.Decide.{dec_le}
use native.Mathlib.Omega.{arith}
use lib.Dec.{leb, eqb}
use lib.ListN.{length, replicate, length-replicate}
use borrow.Author.Tests.{leb-true, le-ltb, lt-ltb, ne_eqb}
use Rattle.std.specs.Prelude.{Option, Some, None}
use Rattle.lists.specs.Lists.{All}
use Rattle.lists.proofs.Cases.{by_cases}
use Rattle.tree.specs.Book.{Reply, Sizes, refused}
use Rattle.lines.specs.declared.Request.{Request}
use Rattle.lines.specs.declared.Request.TheVariants.{SetUp, Enter, Find, Next, Range, Summary, Dump, Remove}
use Rattle.lines.specs.declared.Kind.TheVariants as kinds
use Rattle.lines.specs.declared.Reply.TheVariants.{SetUpLine}
use Rattle.lines.specs.Request.{fields_of, parsed}
use Rattle.lines.specs.Reply.{line_feed, reply_line}
use Rattle.lines.proofs.Promises.{fields_fit}
use Rattle.store.specs.declared.Format.TheVariants.{Plots}
use Rattle.store.specs.declared.Item.{Item}
use Rattle.store.specs.Format.{width}
use Rattle.store.specs.Head.{head_of, head_rule, lawful_sizes, size}
use Rattle.store.specs.SetUp.{set_up}
use Rattle.store.specs.Tests.{failing}
use Rattle.search.specs.Way.{Sought}
use Rattle.search.specs.Find.{no_item, find_reply, checked}
use Rattle.search.specs.Next.{next_reply}
use Rattle.scan.specs.Summary.{summary_refused, summary_of}
use Rattle.scan.specs.Range.{range_refused, range_of}
use Rattle.insert.specs.Enter.{enter_tests, unchanged, enter_of}
use Rattle.remove.specs.Remove.{remove_of}
use Rattle.index.specs.Calls.{Answer, counts}
use Rattle.index.specs.Model.{Model, enter_in, remove_in}
use Rattle.index.proofs.CallLaws.{Holding, set_up_holding, enter_step, remove_step}
use Rattle.readings.proofs.Promises.{find_reads, next_reads, summary_reads}
use Rattle.desk.specs.Replies.{told, set_up_told, enter_told, found_told, summary_told, listed_lines}
use Rattle.desk.specs.Listing.{part_of}
use Rattle.desk.specs.Transcript.{answered, answered_line, opened, largest_key, dumped, outcome_bytes, served, store_words, transcript}
use Rattle.desk.specs.Clerk.{Register, unset, holding, set_up_reply, after_set_up, range_lines, dump_lines, reckoned, reckoned_line, reckonings}
use Rattle.desk.specs.Clerk.{reckoning, registers, register_after, Stands, Clerk, StandsAfter}
use Rattle.desk.proofs.ListingLaws.{first_refused, dump_refused}
use Rattle.desk.proofs.OneListing.{listed_whole, refused_whole, dump_whole}

-- a store that holds a register is one that the laws of calls speak of
stands_holding : (s : List ℕ) (m : Model) → Stands s (holding m) → Holding Plots store_words m s
stands_holding s m h = record { sizes = h.0; holds = h.1; long = h.2 }

holding_stands : (s : List ℕ) (m : Model) → Holding Plots store_words m s → Stands s (holding m)
holding_stands s m h = (h.sizes, h.holds, h.long)

stands_long : (s : List ℕ) (r : Register) → Stands s r → length s ≡ store_words
stands_long s unset e = ap length e ∙ length-replicate {A = ℕ} store_words 0
stands_long s (holding m) h = h.2

abbrev Same : List ℕ → Register → Request → Type 0
Same s r q =
    (outcome_bytes (answered s q).words (answered s q).outcome ≡ (reckoned r q).bytes) × Stands (answered s q).words (reckoned r q).register

-- set-up
set_up_same : (θ C N P : ℕ) (s : List ℕ) (r : Register) → Stands s r
    → ((set_up Plots θ C N P s).reply ≡ set_up_reply θ C N P) × Stands (set_up Plots θ C N P s).words (after_set_up θ C N P r)
unfolding set_up set_up_reply after_set_up
set_up_same θ C N P s r t =
    let n = stands_long s r t in
    by_cases (lawful_sizes θ C N P)
    (λ a.
    let e : leb (size Plots θ C N P) (length s) ≡ leb (size Plots θ C N P) store_words = ap (leb (size Plots θ C N P)) n in
    by_cases (leb (size Plots θ C N P) store_words)
    (λ b.
    let h = set_up_holding Plots θ C N P s a (leb-true (size Plots θ C N P) (length s) (e ∙ b)) in (
      rw (a, e ∙ b, b, set_up, set_up_reply),
      rw (a, b, set_up_reply, after_set_up) (h.sizes, h.holds, h.long ∙ n),
    ))
    (λ b. (rw (a, e ∙ b, b, set_up, set_up_reply), rw (a, e ∙ b, b, set_up, set_up_reply, after_set_up) t)))
    (λ a. (rw (a, set_up, set_up_reply), rw (a, set_up, set_up_reply, after_set_up) t))

-- a store that nobody has set up
zeros_broken : head_rule Plots (replicate store_words 0) ≡ false
unfolding head_rule lawful_sizes head_of
zeros_broken = refl

module _ (s : List ℕ) (e : head_rule Plots s ≡ false) where
  first_fails : (it : Item) → failing (enter_tests Plots s it) ≡ 3
  unfolding failing
  first_fails it = rw (e, failing)

  enter_broken : (it : Item) → enter_of Plots s it ≡ record { reply = refused 3; words = s }
  unfolding enter_of
  enter_broken it =
      rw (ne_eqb (failing (enter_tests Plots s it)) 0 (λ z. omega (arith, first_fails it)), enter_of) (ap (unchanged s) (first_fails it))

  sought_broken : (a : Sought) → checked Plots s a ≡ record { number = 3; item = no_item }
  unfolding checked
  sought_broken a = rw (e, checked)

  remove_broken : (k : ℕ) → remove_of Plots s k ≡ record { reply = record { number = 3; item = no_item }; words = s }
  unfolding remove_of
  remove_broken k = rw (e, remove_of)

  summary_broken : (low high today : ℕ) → summary_of Plots s low high today ≡ summary_refused 3
  unfolding summary_of
  summary_broken low high today = rw (e, summary_of)

  part_broken : (low high : ℕ) → (part_of s low high).reply ≡ range_refused 3
  unfolding part_of range_of
  part_broken low high = rw (e, range_of)

abbrev zeros : List ℕ
zeros = replicate store_words 0

unset_same : (q : Request) → Same zeros unset q
unfolding answered outcome_bytes reckoned told enter_told found_told summary_told find_reply next_reply
unset_same (SetUp θ C N P) = let a = set_up_same θ C N P zeros unset refl in (ap (λ r. reply_line (set_up_told r)) a.0, a.1)
unset_same (Enter k p l d) =
    let a = enter_broken zeros zeros_broken (record { key = k; price = p; lease = l; last = d }) in
    (ap (λ r. reply_line (enter_told r.reply)) a, ap (λ r. r.words) a)
unset_same (Find k) = (ap (λ r. reply_line (found_told kinds.Find r)) (sought_broken zeros zeros_broken _), refl)
unset_same (Next k) = (ap (λ r. reply_line (found_told kinds.Next r)) (sought_broken zeros zeros_broken _), refl)
unset_same (Range low high) =
    (ap (outcome_bytes zeros) (sym (first_refused zeros low high 3 (λ z. omega arith) (part_broken zeros zeros_broken low high))), refl)
unset_same (Summary low high today) = (ap (λ r. reply_line (summary_told r)) (summary_broken zeros zeros_broken low high today), refl)
unset_same Dump =
    (ap (outcome_bytes zeros) (sym (dump_refused zeros 3 (λ z. omega arith) (part_broken zeros zeros_broken 1 largest_key))), refl)
unset_same (Remove k) =
    let a = remove_broken zeros zeros_broken k in (ap (λ r. reply_line (found_told kinds.Remove r.reply)) a, ap (λ r. r.words) a)

-- a store that holds the register
abbrev counts_in : Answer → Reply
counts_in (counts a) = a
counts_in (Rattle.index.specs.Calls.size a) = refused 0
counts_in (Rattle.index.specs.Calls.one a) = refused 0
counts_in (Rattle.index.specs.Calls.several a) = refused 0
counts_in (Rattle.index.specs.Calls.totals a) = refused 0

abbrev found_in : Answer → Rattle.search.specs.Find.Reply
found_in (Rattle.index.specs.Calls.one a) = a
found_in (counts a) = record { number = 0; item = no_item }
found_in (Rattle.index.specs.Calls.size a) = record { number = 0; item = no_item }
found_in (Rattle.index.specs.Calls.several a) = record { number = 0; item = no_item }
found_in (Rattle.index.specs.Calls.totals a) = record { number = 0; item = no_item }

range_lines_lem : (s : List ℕ) (m : Model) (low high : ℕ) → Stands s (holding m) → high < 2 ^ 32
    → outcome_bytes s (opened s low high) ≡ range_lines m.held low high
unfolding range_lines
range_lines_lem s m low high h q =
    elim (dec_le low high) [
      | yes p ↦ rw (le-ltb high low p, range_lines) (listed_whole s m.held h.1 high q low p)
      | no p ↦ rw (lt-ltb high low (omega arith), range_lines) (refused_whole s m.held h.1 high q low (omega arith))
    ]

pub dump_lines_lem : (s : List ℕ) (m : Model) → Stands s (holding m) → outcome_bytes s (dumped s) ≡ dump_lines m
unfolding dump_lines
dump_lines_lem s m h =
    dump_whole s m.held h.1
    ∙ ap
    (λ (z : Sizes). reply_line (SetUpLine z.theta z.capacity z.node_blocks z.page_blocks) ++ listed_lines true m.held)
    h.0

holding_same : (s : List ℕ) (m : Model) → Stands s (holding m) → (q : Request) → All (λ n. n < 2 ^ 32) (fields_of q) → Same s (holding m) q
unfolding answered outcome_bytes reckoned width enter_in remove_in
holding_same s m h (SetUp θ C N P) f =
    let a = set_up_same θ C N P s (holding m) h in (ap (λ r. reply_line (set_up_told r)) a.0, a.1)
holding_same s m h (Enter k p l d) f =
    let a = enter_step Plots store_words (record { key = k; price = p; lease = l; last = d }) m s (stands_holding s m h) in
    (ap (λ r. reply_line (enter_told (counts_in r))) a.0, holding_stands _ _ a.1)
holding_same s m h (Find k) f = (ap (λ r. reply_line (found_told kinds.Find r)) (find_reads Plots s m.held h.1 k f.0), h)
holding_same s m h (Next k) f = (ap (λ r. reply_line (found_told kinds.Next r)) (next_reads Plots s m.held h.1 k f.0), h)
holding_same s m h (Range low high) f = (range_lines_lem s m low high h f.1.0, h)
holding_same s m h (Summary low high today) f =
    (ap (λ r. reply_line (summary_told r)) (summary_reads Plots s m.held h.1 low high today f.1.0), h)
holding_same s m h Dump f = (dump_lines_lem s m h, h)
holding_same s m h (Remove k) f =
    let a = remove_step Plots store_words k m s f.0 (stands_holding s m h) in
    (ap (λ r. reply_line (found_told kinds.Remove (found_in r))) a.0, holding_stands _ _ a.1)

same : (s : List ℕ) (r : Register) → Stands s r → (q : Request) → All (λ n. n < 2 ^ 32) (fields_of q) → Same s r q
same s unset t q f = subst (λ z. Same z unset q) (sym t) (unset_same q)
same s (holding m) t q f = holding_same s m t q f

line_same : (s : List ℕ) (r : Register) → Stands s r → (line : List ℕ) (q : Option Request) → parsed line ≡ q
    → (outcome_bytes (answered_line s q).words (answered_line s q).outcome ≡ (reckoned_line r q).bytes)
    × Stands (answered_line s q).words (reckoned_line r q).register
unfolding outcome_bytes
line_same s r t line (Some q) e = same s r t q (fields_fit line q e)
line_same s r t line None e = (refl, t)

served_same : (s : List ℕ) (r : Register) (line input : List ℕ) → Stands s r
    → ((served s line input).bytes ≡ reckonings r line input) × Stands (served s line input).words (registers r line input)
unfolding served reckonings registers
served_same s r line [] t = (refl, t)
served_same s r line (b ∷ bs) t =
    by_cases (eqb b line_feed)
    (λ e.
    let a = line_same s r t line (parsed line) refl in
    let i = served_same (answered_line s (parsed line)).words (reckoned_line r (parsed line)).register [] bs a.1 in
    rw (e, served, reckonings, registers) (ap₂ (λ (x y : List ℕ). x ++ y) a.0 i.0, i.1))
    (λ e. rw (e, served, reckonings, registers) (served_same s r (line ++ b ∷ []) bs t))

pub clerk : Clerk
unfolding transcript reckoning
clerk input = (served_same zeros unset [] input refl).0

pub stands_after : StandsAfter
unfolding register_after
stands_after input = (served_same zeros unset [] input refl).1
