-- Lines of records, one after another.
use mathlib.Core.Path.{◌≡◌, refl, sym, ap, ◌∙◌}
use mathlib.Core.Bool.{Bool, true, false, false≢true}
use mathlib.Core.List.{List, [], ◌∷◌, ◌++◌, append_assoc, append-nil}
use Prim.Native.Nat.{ℕ, ◌+◌, ◌-◌, ◌*◌, ◌≤◌}
use native.Mathlib.Omega.{arith}
use native.Mathlib.Numerals.{add-one}
use lib.ListN.{length, take, drop, length-append, length-take, length-drop}
use lib.Dec.{leb, eqb}
use borrow.Author.Tests.{le-leb, leb-true}
use Rattle.lists.proofs.Cases.{by_cases}
use Rattle.lists.specs.Lists.{tab}
use Rattle.lists.proofs.Tests.{length_tab, tab_last}
use Rattle.lines.specs.declared.Reply.{Reply}
use Rattle.lines.specs.declared.Reply.TheVariants.{Listed, RangeEnd, EnterLine, WrongLine}
use Rattle.lines.specs.Reply.{After, reply_line, line_size, written}
use Rattle.lines.proofs.Promises.{reply_fits}
use Rattle.lines.proofs.ReplyLaws.{size_most}
use Rattle.store.specs.declared.Item.{Item}
use Rattle.scan.proofs.FillLaws.{append_at}
use Rattle.desk.specs.declared.Desk.{Desk}
use Rattle.desk.specs.Replies.{listed_told, listed_lines}
use Rattle.desk.specs.Listing.{item_from, items_of, last_line}
use Rattle.desk.specs.Serving.{finished}

-- the line of a record, by the kind of the listing
pub told_register : (dump : Bool) (it : Item) → dump ≡ true → EnterLine it.key it.price it.lease it.last ≡ listed_told dump it
told_register true it e = refl
told_register false it e = absurd (false≢true e)

pub told_range : (dump : Bool) (it : Item) → dump ≡ false → Listed it.key it.price it.lease it.last ≡ listed_told dump it
told_range true it e = absurd (false≢true (sym e))
told_range false it e = refl

-- a line of a listing has a byte, and 45 at most
told_some : (dump : Bool) (it : Item) → 1 ≤ line_size (listed_told dump it)
told_some false it = omega arith
told_some true it = omega arith

pub lines_bounds : (dump : Bool) (its : List Item)
    → (length its ≤ length (listed_lines dump its)) × (length (listed_lines dump its) ≤ 45 * length its)
unfolding listed_lines
lines_bounds dump [] = (omega arith, omega arith)
lines_bounds dump (it ∷ its) =
    let r = listed_told dump it in
    let n = length-append (reply_line r) (listed_lines dump its) in
    let ih = lines_bounds dump its in
    (omega (arith, n, reply_fits r, told_some dump it, ih.0), omega (arith, n, reply_fits r, size_most r, ih.1))

pub lines_append : (dump : Bool) (xs ys : List Item) → listed_lines dump (xs ++ ys) ≡ listed_lines dump xs ++ listed_lines dump ys
unfolding listed_lines
lines_append dump [] ys = refl
lines_append dump (x ∷ xs) ys =
    ap (λ l. reply_line (listed_told dump x) ++ l) (lines_append dump xs ys)
    ∙ sym (append_assoc (reply_line (listed_told dump x)) (listed_lines dump xs) (listed_lines dump ys))

pub written_long : (r : Reply) (out : List ℕ) → 45 ≤ length out
    → written r out ≡ record { count = line_size r; bytes = reply_line r ++ drop (line_size r) out }
unfolding written
written_long r out h = rw (le-leb (line_size r) (length out) (omega (arith, size_most r)), written)

part_length : (at : ℕ) (out : List ℕ) → length (take (length out - at) (drop at out)) ≡ length out - at
part_length at out = simp (length-take, length-drop) (omega arith)

items_last : (i : ℕ) (ws : List ℕ) → items_of (i + 1) ws ≡ items_of i ws ++ item_from ws (4 * i) ∷ []
unfolding items_of
items_last i ws = rw (add-one i) (tab_last i (λ j. item_from ws (4 * j)))

pub length_items : (i : ℕ) (ws : List ℕ) → length (items_of i ws) ≡ i
unfolding items_of
length_items i ws = length_tab i (λ j. item_from ws (4 * j))

-- lines of i records have 45 bytes each at most
pub items_most : (dump : Bool) (i : ℕ) (ws : List ℕ) → length (listed_lines dump (items_of i ws)) ≤ 45 * i
items_most dump i ws = omega (arith, (lines_bounds dump (items_of i ws)).1, length_items i ws)

-- what one line leaves in the output, and what bytes behind others leave
pub put_line : (X out bs : List ℕ) (n : ℕ) (r : Reply) → X ≡ reply_line r → 45 ≤ length out → n ≡ (written r out).count
    → bs ≡ (written r out).bytes → (n ≡ length X) × (bs ≡ X ++ drop n out)
put_line X out bs n r x h c b =
    let w = written_long r out h in
    let m : n ≡ line_size r = c ∙ ap (λ (a : After). a.count) w in
    (m ∙ sym (ap length x ∙ reply_fits r), b ∙ ap (λ (a : After). a.bytes) w ∙ rw (x, m))

pub put_behind : (X L Y out o last : List ℕ) (put end : ℕ) → X ≡ L ++ Y → put ≡ length L → o ≡ L ++ drop put out → end ≡ length Y
    → last ≡ Y ++ drop end (take (length o - put) (drop put o))
    → (put + end ≡ length X) × (take put o ++ (last ++ drop (length o - put) (drop put o)) ≡ X ++ drop (put + end) out)
put_behind X L Y out o last put end x p e n b = (
  omega (arith, ap length x, length-append L Y),
  append_at put L Y o out last e (sym p) (b ∙ rw n) ∙ rw (x, n),
)

-- the line of one record more, at the end of those written
pub lines_more : (dump : Bool) (ws : List ℕ) (i at n : ℕ) (out first last : List ℕ) (r : Reply)
    → r ≡ listed_told dump (item_from ws (4 * i)) → at ≡ length (listed_lines dump (items_of i ws)) → at + 45 ≤ length out
    → out ≡ listed_lines dump (items_of i ws) ++ drop at first
    → n ≡ (written r (take (length out - at) (drop at out))).count → last ≡ (written r (take (length out - at) (drop at out))).bytes
    → (at + n ≡ length (listed_lines dump (items_of (i + 1) ws)))
    × (take at out ++ (last ++ drop (length out - at) (drop at out)) ≡ listed_lines dump (items_of (i + 1) ws) ++ drop (at + n) first)
unfolding listed_lines
lines_more dump ws i at n out first last r told a room o c e =
    let line : reply_line r ≡ reply_line (listed_told dump (item_from ws (4 * i))) =
    ap reply_line told in
    let all : listed_lines dump (items_of (i + 1) ws) ≡ listed_lines dump (items_of i ws) ++ reply_line r =
    rw (items_last i ws, lines_append dump (items_of i ws) (item_from ws (4 * i) ∷ []), append-nil, line) in
    let y = put_line (reply_line r) (take (length out - at) (drop at out)) last n r refl (omega (arith, part_length at out)) c e in
    put_behind _ (listed_lines dump (items_of i ws)) (reply_line r) first out last at n all a o y.0 y.1

pub lines_start : (dump : Bool) (ws out : List ℕ)
    → (0 ≡ length (listed_lines dump (items_of 0 ws))) × (out ≡ listed_lines dump (items_of 0 ws) ++ drop 0 out)
unfolding listed_lines items_of tab
lines_start dump ws out = (refl, refl)

pub written_within : (r : Reply) (out : List ℕ) → (written r out).count ≤ length out
unfolding written
written_within r out =
    by_cases (leb (line_size r) (length out))
    (λ e. rw (e, written) (leb-true (line_size r) (length out) e))
    (λ e. rw (e, written) (omega arith))

pub written_small : {n : ℕ} (r : Reply) (out : List ℕ) → n ≡ (written r out).count → n ≤ 45
unfolding written
written_small r out c =
    by_cases (leb (line_size r) (length out))
    (λ e. omega (arith, rw (e, written) at c, size_most r))
    (λ e. omega (arith, rw (e, written) at c))

-- the line after the records of a listing
pub last_line_lem : (dump : Bool) (count : ℕ) (out bs : List ℕ) (n : ℕ) → 45 ≤ length out → n ≡ (written (RangeEnd count) out).count
    → bs ≡ (written (RangeEnd count) out).bytes → dump ≡ false
    → (n ≡ length (last_line dump count)) × (n ≤ 45) × (bs ≡ last_line dump count ++ drop n out)
unfolding last_line
last_line_lem true count out bs n h c b e = absurd (false≢true (sym e))
last_line_lem false count out bs n h c b e =
    let y = put_line (reply_line (RangeEnd count)) out bs n (RangeEnd count) refl h c b in
    (y.0, omega (arith, y.0, reply_fits (RangeEnd count)), y.1)

pub last_none : (dump : Bool) (count : ℕ) (out : List ℕ) → dump ≡ true
    → (0 ≡ length (last_line dump count)) × (0 ≤ 45) × (out ≡ last_line dump count ++ drop 0 out)
unfolding last_line
last_none true count out e = (refl, omega arith, refl)
last_none false count out e = absurd (false≢true e)

pub finished_within : {n : ℕ} (d : Desk) (out : List ℕ) → n ≡ (finished d out).count → n ≤ length out
unfolding finished
finished_within {n} d out c =
    by_cases (eqb d.held 0)
    (λ e. omega (arith, rw (e, finished) at c))
    (λ e. omega (arith, rw (e, finished) at c, written_within WrongLine out))
