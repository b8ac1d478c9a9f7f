-- A range in parts on a store that holds a set: the next part begins with the first record not listed, so the parts are the list.
use mathlib.Core.Path.{◌≡◌, refl, sym, ap, ◌∙◌, subst}
use mathlib.Core.Bool.{Bool, true, false, ◌&&◌}
use mathlib.Core.List.{List, [], ◌∷◌, ◌++◌, append_assoc, append-nil}
use Prim.Native.Nat.{ℕ, zero, suc, ◌+◌, ◌*◌, ◌^◌, ◌≤◌, ◌<◌}
use native.Mathlib.Omega.{arith}
use lib.Dec.{leb}
use lib.ListN.{length, take, drop, replicate, length-append, length-take, length-drop}
use lib.ListN.{take-append-drop}
use lib.Seq.{take_all}
use borrow.Author.Tests.{le-leb, lt-leb, leb-true, le-ltb, lt-ltb}
use Rattle.std.specs.Prelude.{Option, Some, None, Ok}
use Rattle.lists.specs.Lists.{All}
use Rattle.lists.specs.Keyed.{Sorted}
use Rattle.lists.proofs.Cases.{by_cases}
use Rattle.lists.proofs.ListLaws.{length_filter, all_map, all_filter_to, filter_true, filter_false}
use Rattle.lists.proofs.AppendLaws.{filter_every, filter_same}
use Rattle.lists.proofs.Tests.{and_true}
use Rattle.store.specs.declared.Format.TheVariants.{Plots}
use Rattle.store.specs.declared.Item.{Item}
use Rattle.store.specs.Format.{width}
use Rattle.store.specs.Head.{head_of}
use Rattle.page.specs.Page.{lawful_item}
use Rattle.page.specs.Schema.{key_of}
use Rattle.page.proofs.Laws.{lawful_key}
use Rattle.represent.specs.Rep.{Holds}
use Rattle.scan.specs.Range.{RangeReply, range_refused, Ranged, After, ranged, listed}
use Rattle.readings.specs.Listing.{first_key, within, ranged_in, range_in}
use Rattle.readings.proofs.ListingLaws.{within_all}
use Rattle.readings.proofs.Promises.{range_reads, ranged_reads}
use Rattle.lines.specs.declared.Kind.TheVariants as kinds
use Rattle.lines.specs.declared.Reply.TheVariants.{RangeEnd, Refused, SetUpLine}
use Rattle.lines.specs.Request.{kind_number}
use Rattle.lines.specs.Reply.{reply_line}
use Rattle.desk.specs.declared.Listing.{Listing}
use Rattle.desk.specs.Replies.{listed_lines}
use Rattle.desk.specs.Listing.{part_records, part_of, part_items, counted, surveyed, last_line, part_lines, carried}
use Rattle.desk.specs.Transcript.{listing, opened, largest_key, dumped, outcome_bytes}
use Rattle.desk.specs.Clerk.{OneListing}
use Rattle.desk.proofs.ListingLaws.{part_room, survey_done, survey_turn, rest_done, rest_more}
use Rattle.desk.proofs.ListingLaws.{opened_parts, dumped_register, first_refused, after_last, after_more}
use Rattle.desk.proofs.ListingLaws.{none_carried, carried_turn}
use Rattle.desk.proofs.LineLaws.{lines_append}
use Rattle.desk.proofs.PartLaws.{end_last, end_none, lines_done}

-- the rest of a list within bounds begins at its first key

module _ {A : Type 0} (P : A → Type 0) where
  all_drop : (n : ℕ) (xs : List A) → All P xs → All P (drop n xs)
  all_drop zero xs a = a
  all_drop (suc n) [] a = a
  all_drop (suc n) (x ∷ xs) a = all_drop n xs a.1

  first_of : (n : ℕ) (xs ys : List A) (y : A) → All P xs → drop n xs ≡ y ∷ ys → P y
  first_of n xs ys y a e = (subst (All P) e (all_drop n xs a)).0

module _ (high : ℕ) where
  in_range : (low : ℕ) (it : Item) → low ≤ it.key → it.key ≤ high → (leb low it.key && leb it.key high) ≡ true
  in_range low it a b = rw (le-leb low it.key a, le-leb it.key high b)

  below_range : (low : ℕ) (it : Item) → it.key < low → (leb low it.key && leb it.key high) ≡ false
  below_range low it a = rw (lt-leb low it.key a)

  -- the records behind y are in range from y's key on if they are from low on
  same_behind : (low : ℕ) (y : Item) (ys : List Item) → low ≤ y.key → All (λ x. y.key < x.key) ys
      → within y.key high ys ≡ within low high ys
  unfolding within
  same_behind low y ys l a =
      filter_same _ _ ys
      (all_map (λ x. y.key < x.key) (λ x. (leb y.key x.key && leb x.key high) ≡ (leb low x.key && leb x.key high)) ys
      (λ x h. rw (le-leb y.key x.key (omega arith), le-leb low x.key (omega arith))) a)

  skip_first : (low : ℕ) (y : Item) (ys r : List Item) → y.key < low → within low high ys ≡ r → within low high (y ∷ ys) ≡ r
  unfolding within
  skip_first low y ys r l e = filter_false _ y ys (below_range low y l) ∙ e

  abbrev Rest : ℕ → List Item → Item → List Item → Type 0
  Rest low S x xs = (m : ℕ) → drop m (within low high S) ≡ x ∷ xs → within x.key high S ≡ x ∷ xs

  -- the first record is in range: it begins the rest, or lies before it
  rest_in : (low n : ℕ) (y x : Item) (ys xs : List Item) → low ≤ y.key → y.key ≤ high → All (λ z. y.key < z.key) ys
      → drop n (y ∷ within low high ys) ≡ x ∷ xs → Rest low ys x xs → within x.key high (y ∷ ys) ≡ x ∷ xs
  unfolding within
  rest_in low zero y x ys xs a b o e ih =
      let same : y ≡ x = cc in
      ap (λ (z : Item). within z.key high (y ∷ ys)) (sym same)
      ∙ filter_true _ y ys (in_range y.key y (omega arith) b) ∙ ap (λ (l : List Item). y ∷ l) (same_behind low y ys a o) ∙ e
  rest_in low (suc m) y x ys xs a b o e ih =
      let l = first_of (λ z. y.key < z.key) m (within low high ys) xs x (within_all (λ z. y.key < z.key) low high ys o) e in
      skip_first x.key y ys (x ∷ xs) l (ih m e)

  pub rest_within : (low : ℕ) (S xs : List Item) (x : Item) → Sorted key_of S → Rest low S x xs
  unfolding within
  rest_within low [] xs x o zero e = absurd (let z : ◌≡◌ {A = ℕ} 0 1 = cc in omega arith)
  rest_within low [] xs x o (suc n) e = absurd (let z : ◌≡◌ {A = ℕ} 0 1 = cc in omega arith)
  rest_within low (y ∷ ys) xs x o n e =
      by_cases (leb low y.key && leb y.key high)
      (λ t.
      let a = and_true (leb low y.key) (leb y.key high) t in
      rest_in low n y x ys xs (leb-true low y.key a.0) (leb-true y.key high a.1) o.0
      (ap (drop n) (sym (filter_true _ y ys t)) ∙ e) (rest_within low ys xs x o.1))
      (λ t.
      let same : within low high (y ∷ ys) ≡ within low high ys = filter_false _ y ys t in
      let e2 : drop n (within low high ys) ≡ x ∷ xs = ap (drop n) (sym same) ∙ e in
      let l = first_of (λ z. y.key < z.key) n (within low high ys) xs x (within_all (λ z. y.key < z.key) low high ys o.0) e2 in
      skip_first x.key y ys (x ∷ xs) l (rest_within low ys xs x o.1 n e2))

-- one part

module _ (s : List ℕ) (S : List Item) (h : Holds Plots s S) (high : ℕ) (q : high < 2 ^ 32) where
  abbrev W : ℕ → List Item
  W low = within low high S

  within_width : high < 2 ^ width Plots
  unfolding width
  within_width = q

  pub items_are : (low : ℕ) → low ≤ high → part_items s low high ≡ take part_records (W low)
  unfolding part_items ranged_in
  items_are low p = ap (λ (r : Ranged). r.items) (ranged_reads Plots s S h low high part_records p within_width)

  pub reply_is : (low : ℕ) → low ≤ high
      → (part_of s low high).reply
      ≡ record { number = 0; count = length (take part_records (W low)); more = first_key (drop part_records (W low)) }
  unfolding part_of range_in ranged_in listed
  reply_is low p =
      ap (λ (a : After). a.reply) (range_reads Plots s S h low high (replicate (4 * part_records) 0) within_width)
      ∙ rw (le-ltb high low p, range_in, part_room)

  pub refused_is : (low : ℕ) → high < low → (part_of s low high).reply ≡ range_refused 7
  unfolding part_of range_in
  refused_is low p =
      ap (λ (a : After). a.reply) (range_reads Plots s S h low high (replicate (4 * part_records) 0) within_width)
      ∙ rw (lt-ltb high low p, range_in)

  -- the next part
  record Behind (x : Item) (xs : List Item) : Type 0 where
    above : x.key ≡ 0 → ⊥
    below : x.key ≤ high
    rest : W x.key ≡ x ∷ xs

  all_below : (low : ℕ) → All (λ it. it.key ≤ high) (W low)
  unfolding within
  all_below low =
      all_filter_to (λ it. leb low it.key && leb it.key high) (λ it. lawful_item Plots it ≡ true) (λ it. it.key ≤ high) S
      (λ it t l. leb-true it.key high (and_true (leb low it.key) (leb it.key high) t).1) h.lawful

  behind : (low : ℕ) (x : Item) (xs : List Item) → drop part_records (W low) ≡ x ∷ xs → Behind x xs
  behind low x xs e =
      let above : Item → Type 0 = λ it. it.key ≡ 0 → ⊥ in
      let all = all_map (λ it. lawful_item Plots it ≡ true) above S (λ it l z. omega (arith, (lawful_key Plots it l).0)) h.lawful in
      record {
        above = first_of above part_records (W low) xs x (within_all above low high S all) e;
        below = first_of (λ it. it.key ≤ high) part_records (W low) xs x (all_below low) e;
        rest = rest_within high low S xs x h.sorted part_records e;
      }

  -- a list is its first records and the rest
  parts : (xs rest : List Item) → drop part_records xs ≡ rest → xs ≡ take part_records xs ++ rest
  parts xs rest e = sym (take-append-drop part_records xs) ∙ ap (λ (ys : List Item). take part_records xs ++ ys) e

  length_parts : (xs rest : List Item) → drop part_records xs ≡ rest → length xs ≡ length (take part_records xs) + length rest
  length_parts xs rest e = ap length (parts xs rest e) ∙ length-append (take part_records xs) rest

  shorter : (xs rest : List Item) (x : Item) → drop part_records xs ≡ x ∷ rest → length (take part_records xs) ≡ part_records
  shorter xs rest x e = let n = length-drop part_records xs in let m = ap length e in simp length-take (omega arith)

  -- the survey counts the list
  abbrev Counts : ℕ → Type 0
  Counts low = surveyed s low high ≡ Ok (length (W low))

  counts_by : (low : ℕ) → low ≤ high → (rest : List Item) → drop part_records (W low) ≡ rest
      → ((k : ℕ) → length (W k) < length (W low) → k ≤ high → Counts k) → Counts low
  unfolding first_key
  counts_by low p [] e ih =
      let r = reply_is low p in
      let more = ap (λ (a : RangeReply). a.more) r ∙ ap first_key e in
      survey_turn s high low ∙ rest_done s high _ _ more ∙ survey_done _ _ (ap (λ (a : RangeReply). a.number) r)
      ∙ ap (λ (n : ℕ). Ok n) (ap (λ (a : RangeReply). a.count) r ∙ omega (arith, length_parts (W low) [] e))
  counts_by low p (x ∷ xs) e ih =
      let r = reply_is low p in
      let b = behind low x xs e in
      let more = ap (λ (a : RangeReply). a.more) r ∙ ap first_key e in
      let n = length_parts (W low) (x ∷ xs) e in
      let m = shorter (W low) xs x e in
      let w = ap length b.rest in
      survey_turn s high low ∙ rest_more s high _ _ (λ z. b.above (sym more ∙ z))
      ∙ ap (λ (k : ℕ). counted (part_of s low high).reply.count (surveyed s k high)) more
      ∙ ap (counted (part_of s low high).reply.count) (ih x.key (omega arith) b.below)
      ∙ ap (λ (i : ℕ). Ok i)
      (ap (λ (c : ℕ). c + length (W x.key)) (ap (λ (a : RangeReply). a.count) r) ∙ omega arith)

  counts_list : (n low : ℕ) → length (W low) < n → low ≤ high → Counts low
  counts_list zero low l p = absurd (omega arith)
  counts_list (suc n) low l p = counts_by low p (drop part_records (W low)) refl (λ k m o. counts_list n k (omega arith) o)

  -- the parts list it
  module _ (dump : Bool) (count : ℕ) where
    abbrev at : ℕ → Listing
    at low = record { dump = dump; at = low; high = high; count = count }

    abbrev lines : List Item → List ℕ
    lines = listed_lines dump

    abbrev end : List ℕ
    end = last_line dump count

    abbrev Lists : ℕ → Type 0
    Lists low = carried s (Some (at low)) ≡ lines (W low) ++ end

    lists_by : (low : ℕ) → low ≤ high → (rest : List Item) → drop part_records (W low) ≡ rest
        → ((k : ℕ) → length (W k) < length (W low) → k ≤ high → Lists k) → Lists low
    unfolding first_key
    lists_by low p [] e ih =
        let r = reply_is low p in
        let more = ap (λ (a : RangeReply). a.more) r ∙ ap first_key e in
        carried_turn s (at low)
        ∙ ap (λ (l : Option Listing). part_lines s (at low) ++ carried s l) (after_last s (at low) more)
        ∙ ap (λ (bs : List ℕ). part_lines s (at low) ++ bs) (none_carried s None refl) ∙ append-nil _
        ∙ lines_done s (at low) (ap (λ (a : RangeReply). a.number) r)
        ∙ ap (λ (bs : List ℕ). lines (part_items s low high) ++ bs) (end_last dump _ count more)
        ∙ ap (λ (its : List Item). lines its ++ end) (items_are low p ∙ sym (append-nil _) ∙ sym (parts (W low) [] e))
    lists_by low p (x ∷ xs) e ih =
        let r = reply_is low p in
        let b = behind low x xs e in
        let more = ap (λ (a : RangeReply). a.more) r ∙ ap first_key e in
        let n = length_parts (W low) (x ∷ xs) e in
        let m = shorter (W low) xs x e in
        let w = ap length b.rest in
        carried_turn s (at low)
        ∙ ap (λ (l : Option Listing). part_lines s (at low) ++ carried s l) (after_more s (at low) (λ z. b.above (sym more ∙ z)))
        ∙ ap (λ (k : ℕ). part_lines s (at low) ++ carried s (Some (at k))) more
        ∙ ap (λ (bs : List ℕ). part_lines s (at low) ++ bs) (ih x.key (omega arith) b.below)
        ∙ ap (λ (bs : List ℕ). bs ++ (lines (W x.key) ++ end))
        (lines_done s (at low) (ap (λ (a : RangeReply). a.number) r)
        ∙ ap (λ (bs : List ℕ). lines (part_items s low high) ++ bs) (end_none dump _ count (λ z. b.above (sym more ∙ z))) ∙ append-nil _
        ∙ ap lines (items_are low p))
        ∙ ap (λ (its : List Item). lines (take part_records (W low)) ++ (lines its ++ end)) b.rest
        ∙ sym (append_assoc (lines (take part_records (W low))) (lines (x ∷ xs)) end)
        ∙ ap (λ (bs : List ℕ). bs ++ end)
        (sym (lines_append dump (take part_records (W low)) (x ∷ xs)) ∙ ap lines (sym (parts (W low) (x ∷ xs) e)))

    lists_list : (n low : ℕ) → length (W low) < n → low ≤ high → Lists low
    lists_list zero low l p = absurd (omega arith)
    lists_list (suc n) low l p = lists_by low p (drop part_records (W low)) refl (λ k m o. lists_list n k (omega arith) o)

  -- so a listing is whole
  pub counted_whole : (low : ℕ) → low ≤ high → Ok (length (W low)) ≡ surveyed s low high
  counted_whole low p = sym (counts_list (suc (length (W low))) low (omega arith) p)

  pub carried_whole : (dump : Bool) (low : ℕ) → low ≤ high
      → carried s (Some (listing dump low high (length (W low)))) ≡ listed_lines dump (W low) ++ last_line dump (length (W low))
  carried_whole dump low p =
      lists_list dump (length (W low)) (suc (length (W low))) low (omega arith) p

  pub listed_whole : (low : ℕ) → low ≤ high
      → outcome_bytes s (opened s low high) ≡ listed_lines false (W low) ++ reply_line (RangeEnd (length (W low)))
  unfolding outcome_bytes last_line
  listed_whole low p =
      let c = counted_whole low p in
      ap (outcome_bytes s) (sym (opened_parts s low high _ _ c refl)) ∙ carried_whole false low p

  pub refused_whole : (low : ℕ) → high < low → outcome_bytes s (opened s low high) ≡ reply_line (Refused (kind_number kinds.Range) 7)
  unfolding outcome_bytes
  refused_whole low p = ap (outcome_bytes s) (sym (first_refused s low high 7 (λ z. omega arith) (refused_is low p)))

within_length : (low high : ℕ) (S : List Item) → length (within low high S) ≤ length S
unfolding within
within_length low high S = length_filter (λ it. leb low it.key && leb it.key high) S

-- and it is the listing of one call with room for all
pub one_listing : OneListing
unfolding ranged_in width
one_listing s S h low high room p q l =
    let W = within low high S in
    let r = ranged_reads Plots s S h low high room p q in
    let all : take room W ≡ W = take_all room W (omega (arith, within_length low high S)) in
    let its : (ranged Plots s (head_of s) low high room).items ≡ W = ap (λ (x : Ranged). x.items) r ∙ all in
    listed_whole s S h high q low p ∙ ap (λ (xs : List Item). listed_lines false xs ++ reply_line (RangeEnd (length xs))) (sym its)

-- every lawful key is from 1 to the largest
within_whole : (S : List Item) → All (λ it. lawful_item Plots it ≡ true) S → within 1 largest_key S ≡ S
unfolding within width
within_whole S l =
    filter_every _ S
    (all_map (λ it. lawful_item Plots it ≡ true) (λ it. (leb 1 it.key && leb it.key largest_key) ≡ true) S
    (λ it e. let k = lawful_key Plots it e in in_range largest_key 1 it k.0 (omega (arith, k.1))) l)

-- the register is written out whole
pub dump_whole : (s : List ℕ) (S : List Item) → Holds Plots s S
    → let h = head_of s in
    outcome_bytes s (dumped s)
    ≡ reply_line (SetUpLine h.theta h.capacity h.node_blocks h.page_blocks) ++ listed_lines true S
unfolding outcome_bytes last_line head_of
dump_whole s S h =
    let q : largest_key < 2 ^ 32 = omega arith in
    let p : 1 ≤ largest_key = omega arith in
    let c = counted_whole s S h largest_key q 1 p in
    let z = head_of s in
    let first = reply_line (SetUpLine z.theta z.capacity z.node_blocks z.page_blocks) in
    ap (outcome_bytes s) (sym (dumped_register s _ _ c refl refl refl refl refl))
    ∙ ap (λ (bs : List ℕ). first ++ bs)
    (carried_whole s S h largest_key q true 1 p ∙ append-nil _ ∙ ap (listed_lines true) (within_whole S h.lawful))
