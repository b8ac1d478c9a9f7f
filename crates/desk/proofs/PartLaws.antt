-- One part of a listing: the words that range wrote are its records, and the lines are theirs.
use mathlib.Core.Path.{◌≡◌, refl, sym, ap, ◌∙◌}
use mathlib.Core.Bool.{Bool}
use mathlib.Core.List.{List, [], ◌∷◌, ◌++◌, append-nil}
use Prim.Native.Nat.{ℕ, suc, ◌+◌, ◌*◌, ◌/◌, ◌^◌, ◌≤◌, ◌<◌}
use native.Mathlib.Nat.{mod-eq_of_lt}
use native.Mathlib.Decide.{ℕ_discrete}
use native.Mathlib.Omega.{arith}
use lib.ListN.{length, get_or, replicate, length-append}
use borrow.Author.Tests.{eq-eqb, ne_eqb}
use Rattle.std.specs.Prelude.{Some, None}
use Rattle.lists.specs.Lists.{All, tab}
use Rattle.lists.proofs.ListLaws.{all_map}
use Rattle.lists.proofs.Tests.{tab_ext}
use Rattle.lines.specs.declared.Reply.TheVariants.{Refused}
use Rattle.lines.specs.Request.{kind_number}
use Rattle.lines.specs.Reply.{reply_line}
use Rattle.store.specs.declared.Format.TheVariants.{Plots}
use Rattle.store.specs.declared.Item.{Item}
use Rattle.store.specs.Format.{words}
use Rattle.store.specs.Head.{head_of}
use Rattle.page.specs.Page.{item_words, flat}
use Rattle.scan.specs.Range.{RangeReply, After, ranged}
use Rattle.scan.proofs.Promises.{range_rule, range_ascends}
use Rattle.desk.specs.declared.Listing.{Listing}
use Rattle.desk.specs.Replies.{listed_lines}
use Rattle.desk.specs.Listing.{part_records, part_of, part_items, item_from, items_of, kind_listed, last_line, part_end}
use Rattle.desk.specs.Listing.{part_lines, listing_after}
use Rattle.desk.proofs.ListingLaws.{part_room, part_facts, piece_facts, after_last, after_more}
use Rattle.desk.proofs.LineLaws.{lines_bounds}

-- the words of records, read as records

past_four : (a b c d n m : ℕ) (ws : List ℕ) → m ≡ suc (suc (suc (suc n))) → get_or (a ∷ b ∷ c ∷ d ∷ ws) m 0 ≡ get_or ws n 0
past_four a b c d n m ws e = rw e

item_past : (a b c d : ℕ) (ws : List ℕ) (i : ℕ) → item_from (a ∷ b ∷ c ∷ d ∷ ws) (4 * suc i) ≡ item_from ws (4 * i)
item_past a b c d ws i =
    rw (past_four a b c d (4 * i) (4 * suc i) ws (omega arith), past_four a b c d (4 * i + 1) (4 * suc i + 1) ws (omega arith))
    (rw (past_four a b c d (4 * i + 2) (4 * suc i + 2) ws (omega arith), past_four a b c d (4 * i + 3) (4 * suc i + 3) ws (omega arith)))

pub items_flat : (its : List Item) (rest : List ℕ) → All (λ it. it.key < 2 ^ 32) its → items_of (length its) (flat Plots its ++ rest) ≡ its
unfolding items_of tab flat item_words
items_flat [] rest l = refl
items_flat (it ∷ its) rest l =
    let ws = flat Plots its ++ rest in
    rw (mod-eq_of_lt l.0)
    (ap (λ (r : List Item). it ∷ r)
    (tab_ext (length its) _ (λ i. item_from ws (4 * i)) (λ i h. item_past it.key it.price it.lease it.last ws i)
    ∙ items_flat its rest l.1))

-- what a part that is not refused has written
pub part_done : (s : List ℕ) (low high : ℕ) → high < 2 ^ 32 → (part_of s low high).reply.number ≡ 0
    → ((part_of s low high).reply.count ≡ length (part_items s low high))
    × (items_of (part_of s low high).reply.count (part_of s low high).words ≡ part_items s low high)
unfolding part_of part_items
part_done s low high narrow =
    let room = length {A = ℕ} (replicate (4 * part_records) 0) / words Plots in
    let its = (ranged Plots s (head_of s) low high room).items in
    let keys : All (λ (it : Item). it.key < 2 ^ 32) its =
    all_map (λ (it : Item). (low ≤ it.key) × (it.key ≤ high)) (λ it. it.key < 2 ^ 32) its (λ it g. omega (arith, g.1))
    (range_ascends Plots s (head_of s) low high room).1 in
    let same = ap (λ (n : ℕ). (ranged Plots s (head_of s) low high n).items) part_room in
    range_rule
    (λ (a : After). a.reply.number ≡ 0 → (a.reply.count ≡ length (ranged Plots s (head_of s) low high part_records).items)
    × (items_of a.reply.count a.words ≡ (ranged Plots s (head_of s) low high part_records).items))
    Plots s low high (replicate (4 * part_records) 0) (λ n i z. absurd (i z))
    (λ l k z. (ap length same, items_flat its _ keys ∙ same))

pub end_last : (dump : Bool) (more count : ℕ) → more ≡ 0 → part_end dump more count ≡ last_line dump count
unfolding part_end
end_last dump more count e = rw (eq-eqb more 0 e, part_end)

pub end_none : (dump : Bool) (more count : ℕ) → (more ≡ 0 → ⊥) → part_end dump more count ≡ []
unfolding part_end
end_none dump more count e = rw (ne_eqb more 0 e, part_end)

module _ (s : List ℕ) (l : Listing) where
  abbrev q : RangeReply
  q = (part_of s l.at l.high).reply

  lines_refused : (q.number ≡ 0 → ⊥) → part_lines s l ≡ reply_line (Refused (kind_number (kind_listed l.dump)) q.number)
  unfolding part_lines
  lines_refused n = rw (ne_eqb q.number 0 n, part_lines)

  pub lines_done : q.number ≡ 0
      → part_lines s l ≡ listed_lines l.dump (part_items s l.at l.high) ++ part_end l.dump q.more l.count
  unfolding part_lines
  lines_done z = rw (eq-eqb q.number 0 z, part_lines)

  -- a part that is not the last has a line at least
  pub lines_some : l.high < 2 ^ 32 → (q.more ≡ 0 → ⊥) → 1 ≤ length (part_lines s l)
  lines_some narrow m =
      let f = part_facts s l.at l.high in
      let its = part_items s l.at l.high in
      elim (ℕ_discrete q.number 0) [
        | no n ↦ absurd (m (f.none n).1)
        | yes z ↦
            omega (
              arith,
              ap length (lines_done z) ∙ length-append (listed_lines l.dump its) (part_end l.dump q.more l.count),
              (lines_bounds l.dump its).0,
              (part_done s l.at l.high narrow z).0,
              f.full m,
            )
      ]

  -- the call replied p and left the words ws
  module _ (p : RangeReply) (ws : List ℕ) (e : p ≡ q) (w : ws ≡ (part_of s l.at l.high).words) (narrow : l.high < 2 ^ 32) where
    pub refused_lines : (asked : ℕ) → asked ≡ kind_number (kind_listed l.dump) → (p.number ≡ 0 → ⊥)
        → part_lines s l ≡ reply_line (Refused asked p.number)
    refused_lines asked k n =
        lines_refused (λ z. n (ap (λ (r : RangeReply). r.number) e ∙ z))
        ∙ ap (λ (r : RangeReply). reply_line (Refused (kind_number (kind_listed l.dump)) r.number)) (sym e)
        ∙ ap (λ (i : ℕ). reply_line (Refused i p.number)) (sym k)

    pub refused_after : (p.number ≡ 0 → ⊥) → listing_after s l ≡ None
    refused_after n =
        let f = piece_facts s l.at l.high e in
        after_last s l (sym (ap (λ (r : RangeReply). r.more) e) ∙ (f.none n).1)

    items_are : p.number ≡ 0 → items_of p.count ws ≡ part_items s l.at l.high
    items_are z =
        ap (λ (r : RangeReply). items_of r.count ws) e ∙ ap (items_of q.count) w
        ∙ (part_done s l.at l.high narrow (sym (ap (λ (r : RangeReply). r.number) e) ∙ z)).1

    done_lines : p.number ≡ 0 → part_lines s l ≡ listed_lines l.dump (items_of p.count ws) ++ part_end l.dump p.more l.count
    done_lines z =
        lines_done (sym (ap (λ (r : RangeReply). r.number) e) ∙ z)
        ∙ ap (λ (its : List Item). listed_lines l.dump its ++ part_end l.dump q.more l.count) (sym (items_are z))
        ∙ ap (λ (r : RangeReply). listed_lines l.dump (items_of p.count ws) ++ part_end l.dump r.more l.count) (sym e)

    pub more_lines : p.number ≡ 0 → (p.more ≡ 0 → ⊥) → part_lines s l ≡ listed_lines l.dump (items_of p.count ws)
    more_lines z n = done_lines z ∙ rw (end_none l.dump p.more l.count n) (append-nil _)

    pub more_after : (p.more ≡ 0 → ⊥)
        → listing_after s l ≡ Some (record { dump = l.dump; at = p.more; high = l.high; count = l.count })
    more_after n =
        after_more s l (λ z. n (ap (λ (r : RangeReply). r.more) e ∙ z))
        ∙ ap (λ (r : RangeReply). Some (record { dump = l.dump; at = r.more; high = l.high; count = l.count })) (sym e)

    pub last_lines : p.number ≡ 0 → p.more ≡ 0
        → part_lines s l ≡ listed_lines l.dump (items_of p.count ws) ++ last_line l.dump l.count
    last_lines z n = done_lines z ∙ rw (end_last l.dump p.more l.count n)

    pub last_after : p.more ≡ 0 → listing_after s l ≡ None
    last_after n = after_last s l (sym (ap (λ (r : RangeReply). r.more) e) ∙ n)
