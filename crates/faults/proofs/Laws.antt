-- Calls at a key, a row tried, and loops that follow a recursion: one law for each step and way out.
use mathlib.Core.Path.{◌≡◌, refl, sym, ap, ap₂, ◌∙◌}
use mathlib.Core.List.{List, [], ◌∷◌}
use Prim.Native.Nat.{ℕ, zero, suc, ◌+◌, ◌-◌, ◌*◌, ◌%◌, ◌^◌, ◌≤◌, ◌<◌}
use lib.ListN.{length, set}
use borrow.Author.Tests.{eq-eqb, ne_eqb}
use Rattle.store.specs.Head.{word}
use Rattle.raw.specs.Words.{written}
use Rattle.raw.proofs.Steps.{steps_first, steps_turn, steps_out}
use Rattle.raw.specs.Blocks.{node_block, block_kind, block}
use Rattle.raw.specs.declared.blocks.Block.{Block}
use Rattle.harness.specs.declared.calls.Kind.TheVariants.{SetUp, Enter}
use Rattle.harness.specs.declared.calls.Call.{Call}
use Rattle.harness.specs.declared.calls.Reply.{Reply}
use Rattle.harness.specs.declared.calls.Outcome.{Outcome}
use Rattle.harness.specs.Calls.{refused, given, marked, ran_of, outcome}
use Rattle.harness.specs.Tally.{judged_outcome}
use Rattle.harness.specs.Script.{Played, both, cell_of}
use Rattle.harness.proofs.ScriptLaws.{whole}
use Rattle.faults.specs.Faults.{call_with, call_on, numbered_reply, answered_in, answers_from, broken, broken_row, broken_from}
use Rattle.faults.specs.Faults.{entries_put, node_put, path_put, levels_put, deep_put}

-- the call past the fourth enters a record
pub call_enter : (key j : ℕ) {r : Call} → (j ≡ 0 → ⊥) → (j ≡ 1 → ⊥) → (j ≡ 2 → ⊥) → (j ≡ 3 → ⊥)
    → r ≡ call_with Enter key 100 10 50 → r ≡ call_on key j
unfolding call_on
call_enter key zero a b c d e = absurd (a refl)
call_enter key (suc zero) a b c d e = absurd (b refl)
call_enter key (suc (suc zero)) a b c d e = absurd (c refl)
call_enter key (suc (suc (suc zero))) a b c d e = absurd (d refl)
call_enter key (suc (suc (suc (suc j)))) a b c d e = e

-- what is expected where only the number is
pub number_done : (n : ℕ) (got : Reply) {r : Reply} → n ≡ 0 → r ≡ given got.a got.b got.c got.d → r ≡ numbered_reply n got
unfolding numbered_reply
number_done n got e er = rw (eq-eqb n 0 e, numbered_reply) er

pub number_refused : (n : ℕ) (got : Reply) {r : Reply} → (n ≡ 0 → ⊥) → r ≡ refused n → r ≡ numbered_reply n got
unfolding numbered_reply
number_refused n got e er = rw (ne_eqb n 0 e, numbered_reply) er

-- a call made, the number of its answer compared
pub answered : (s t : List ℕ) (c : Call) (n : ℕ) {o : Outcome} {x : Reply} {u v : List ℕ}
    → (o ≡ outcome c s (marked 64)) × (u ≡ (ran_of c s (marked 64)).store)
    → x ≡ numbered_reply n o.reply → v ≡ judged_outcome t x o
    → let q = answered_in (both s t) c n in (u ≡ q.store) × (v ≡ q.tally)
unfolding answered_in
answered s t c n {o} w ex ev =
    (w.1, ev ∙ ap (λ x. judged_outcome t x o) ex ∙ ap (λ o. judged_outcome t (numbered_reply n o.reply) o) w.0)

-- the calls of a row
module _ (rows : List (List ℕ)) (i : ℕ) (s t : List ℕ) (j : ℕ) {q : Played}
    (h : answers_from rows i (both s t) j (5 - j) ≡ q) where
  pub answers_turn : {k n : ℕ} {c : Call} {u v : List ℕ} → j < 5
      → k ≡ cell_of rows i 4 → c ≡ call_on k j → n ≡ cell_of rows i (5 + j)
      → (u ≡ (answered_in (both s t) c n).store) × (v ≡ (answered_in (both s t) c n).tally)
      → answers_from rows i (both u v) (j + 1) (5 - (j + 1)) ≡ q
  unfolding answers_from
  answers_turn l ek ec en w =
      steps_turn _ (both s t) j 5 h l
      (ap₂ both w.0 w.1 ∙ ap₂ (answered_in (both s t)) (ec ∙ ap (λ k. call_on k j) ek) en)

  pub answers_out : 5 ≤ j → (s ≡ q.store) × (t ≡ q.tally)
  unfolding answers_from
  answers_out l = whole (steps_out _ (both s t) j 5 h l)

-- the word of a row written
pub broken_is : (s : List ℕ) (rows : List (List ℕ)) (i : ℕ) {c n b o y x : ℕ} (k : Block) {t : List ℕ}
    → c ≡ cell_of rows i 0 → k ≡ block_kind c → n ≡ cell_of rows i 1 → b ≡ block s k n → o ≡ cell_of rows i 2 → y ≡ o → x ≡ cell_of rows i 3
    → t ≡ set s (b + y) x → t ≡ broken s rows i
unfolding broken
broken_is s rows i k ec ek en eb eo ey ex et =
    et ∙ ap₂ (set s) (ap₂ ◌+◌ (eb ∙ ap₂ (block s) (ek ∙ ap block_kind ec) en) (ey ∙ eo)) ex

-- a row with a key, and one without
module _ (sound s t : List ℕ) (rows : List (List ℕ)) (i : ℕ) {k : ℕ} {b : List ℕ}
    (eb : b ≡ broken s rows i) (ek : k ≡ cell_of rows i 4) where
  pub row_tried : {u v w : List ℕ} → (k ≡ 0 → ⊥)
      → (let q = answers_from rows i (both b t) 0 5 in (u ≡ q.store) × (v ≡ q.tally))
      → w ≡ written (word sound) u 184
      → let q = broken_row sound rows (both s t) i in (w ≡ q.store) × (v ≡ q.tally)
  unfolding broken_row
  row_tried d e ew =
      let f = ap (λ b. answers_from rows i (both b t) 0 5) eb in
      rw (ne_eqb (cell_of rows i 4) 0 (λ z. d (ek ∙ z)), broken_row)
      (ew ∙ ap (λ u. written (word sound) u 184) (e.0 ∙ ap (λ q. q.store) f), e.1 ∙ ap (λ q. q.tally) f)

  pub row_more : k ≡ 0 → let q = broken_row sound rows (both s t) i in (b ≡ q.store) × (t ≡ q.tally)
  unfolding broken_row
  row_more e = rw (eq-eqb (cell_of rows i 4) 0 (sym ek ∙ e), broken_row) (eb, refl)

-- the rows of a table
pub rows_first : (sound : List ℕ) (rows : List (List ℕ)) (p : Played)
    → broken_from sound rows p 0 (length rows - 0) ≡ broken_from sound rows p 0 (length rows)
unfolding broken_from
rows_first sound rows p = steps_first _ p (length rows)

module _ (sound : List ℕ) (rows : List (List ℕ)) (s t : List ℕ) (i : ℕ) {q : Played}
    (h : broken_from sound rows (both s t) i (length rows - i) ≡ q) where
  pub rows_turn : {u v : List ℕ} → i < length rows
      → (u ≡ (broken_row sound rows (both s t) i).store) × (v ≡ (broken_row sound rows (both s t) i).tally)
      → broken_from sound rows (both u v) (i + 1) (length rows - (i + 1)) ≡ q
  unfolding broken_from
  rows_turn l w = steps_turn _ (both s t) i (length rows) h l (ap₂ both w.0 w.1)

  pub rows_out : length rows ≤ i → (s ≡ q.store) × (t ≡ q.tally)
  unfolding broken_from
  rows_out l = whole (steps_out _ (both s t) i (length rows) h l)

-- the entries of a node
pub entries_first : (s : List ℕ) (at depth pointer n : ℕ) → entries_put s at depth pointer 0 (n - 0) ≡ entries_put s at depth pointer 0 n
unfolding entries_put
entries_first s at depth pointer n = steps_first _ s n

module _ (s : List ℕ) (at depth pointer j n : ℕ) {q : List ℕ} (h : entries_put s at depth pointer j (n - j) ≡ q) where
  pub entries_turn : {t u : List ℕ} → j < n → t ≡ set s (at + 4 + 2 * j) depth → u ≡ set t (at + 5 + 2 * j) pointer
      → entries_put u at depth pointer (j + 1) (n - (j + 1)) ≡ q
  unfolding entries_put
  entries_turn l et eu = steps_turn _ s j n h l (eu ∙ ap (λ t. set t (at + 5 + 2 * j) pointer) et)

  pub entries_out : n ≤ j → s ≡ q
  unfolding entries_put
  entries_out l = steps_out _ s j n h l

-- a node, from its head and its entries
pub node_put_lem : (s : List ℕ) (n depth pointer : ℕ) {at k : ℕ} {t u v : List ℕ}
    → at ≡ node_block s n → k ≡ 2 ^ (depth % 7) → t ≡ set s at depth → u ≡ set t (at + 1) n → v ≡ entries_put u at depth pointer 0 k
    → v ≡ node_put s n depth pointer
unfolding node_put
node_put_lem s n depth pointer {at} {k} ea ek et eu ev =
    ev ∙ ap (λ u. entries_put u at depth pointer 0 k) (eu ∙ ap (λ t. set t (at + 1) n) et)
    ∙ ap₂ (λ at k. entries_put (set (set s at depth) (at + 1) n) at depth pointer 0 k) ea ek

-- the nodes of a path
module _ (s : List ℕ) (n : ℕ) {q : List ℕ} (h : path_put s n (6 - n) ≡ q) where
  pub path_turn : {t : List ℕ} → n < 6 → t ≡ node_put s (n + 1) 6 n → path_put t (n + 1) (6 - (n + 1)) ≡ q
  unfolding path_put
  path_turn l e = steps_turn _ s n 6 h l e

  pub path_out : 6 ≤ n → s ≡ q
  unfolding path_put
  path_out l = steps_out _ s n 6 h l

-- the words of the head, and the whole path
pub levels_put_lem : (s : List ℕ) {t u v : List ℕ} → t ≡ set s 4 6 → u ≡ set t 6 6 → v ≡ set u 7 6 → v ≡ levels_put s
unfolding levels_put
levels_put_lem s et eu ev = ev ∙ ap (λ u. set u 7 6) (eu ∙ ap (λ t. set t 6 6) et)

pub deep_put_lem : (s : List ℕ) (depth : ℕ) {c : Call} {t u v w : List ℕ} → c ≡ call_with SetUp 6 1 6 1 → t ≡ (ran_of c s (0 ∷ [])).store
    → u ≡ path_put t 1 5 → v ≡ node_put u 1 depth 0 → w ≡ levels_put v → w ≡ deep_put s depth
unfolding deep_put
deep_put_lem s depth ec et eu ev ew =
    let e = et ∙ ap (λ c. (ran_of c s (0 ∷ [])).store) ec in
    ew ∙ ap levels_put (ev ∙ ap (λ u. node_put u 1 depth 0) (eu ∙ ap (λ t. path_put t 1 5) e))
