-- The promises about a store that holds a set, from the laws of represented stores.
use mathlib.Core.Path.{◌≡◌, refl, sym, ap, ◌∙◌, subst}
use mathlib.Core.Bool.{true, false, ◌&&◌}
use mathlib.Core.List.{List, [], ◌∷◌}
use Prim.Native.Nat.{ℕ, ◌^◌, ◌<◌}
use native.Mathlib.Omega.{arith}
use lib.Dec.{ltb, eqb}
use lib.Pow.{pow_pos}
use borrow.Author.Tests.{ne_eqb, le-ltb, ltb-true, eqb-false}
use Rattle.lists.specs.Lists.{All}
use Rattle.lists.specs.Keyed.{Bounded}
use Rattle.lists.proofs.Cases.{by_cases}
use Rattle.lists.proofs.Tests.{and_true}
use Rattle.lists.proofs.ListLaws.{all_map}
use Rattle.tree.specs.Trie.{Trie}
use Rattle.store.specs.declared.Format.{Format}
use Rattle.store.specs.declared.Item.{Item}
use Rattle.store.specs.Format.{width}
use Rattle.store.specs.Head.{head_of, page_at}
use Rattle.page.specs.Page.{count, key_at, above, first_above, lawful_item}
use Rattle.page.proofs.Laws.{lawful_key}
use Rattle.totals.specs.Promises.{EarliestOf}
use Rattle.totals.proofs.Promises.{earliest_key_lem}
use Rattle.search.specs.Way.{Sought}
use Rattle.search.specs.Way.{Record, Nothing, Damaged}
use Rattle.search.specs.Descent.{descent}
use Rattle.search.specs.Find.{sound_page, in_page, sought_reply, checked, find_of, find_reply}
use Rattle.search.specs.Next.{next_of, next_reply}
use Rattle.page.specs.Schema.{key_of}
use Rattle.represent.specs.Rep.{Rep, Holds}
use Rattle.readings.specs.Listing.{first_where, find_in, next_in, within, summary_in}
use Rattle.readings.specs.Clauses.{Clauses}
use Rattle.readings.specs.Broken.{SampleKeeps}
use Rattle.readings.specs.Promises.{Sound, FindReads, NextReads, RangeReads, RangedReads, SummaryReads, FindZero, NextZero}
use Rattle.readings.specs.Promises.{LedTo, OwnBitsLead, Summarised, SummaryOutright, NoDamage, ClausesHold}
use Rattle.readings.proofs.FirstLaws.{first_none, first_beyond, all_mem, found_own}
use Rattle.readings.proofs.Records.{records, records_are}
use Rattle.readings.proofs.ListingLaws.{NextIs, ranged_is, range_is, summary_is, within_sorted, within_all}
use Rattle.readings.proofs.EarliestLaws.{earliest_read}
use Rattle.readings.proofs.ListingLaws.{find_sound, next_sound, range_sound, summary_sound}
use Rattle.represent.proofs.Passes.{pages_pass}
use Rattle.represent.proofs.HeadPasses.{head_passes}
use Rattle.readings.proofs.Readings.{find_is, next_is}
use Rattle.readings.proofs.ClauseLaws.{rep_clauses}
use Rattle.represent.proofs.Promises.{descent_visits}
use Rattle.represent.proofs.Example.{example_holds}
use Rattle.represent.proofs.Keyed.{lawful_bounded}

-- where find finds a record, the descent ends at a page that has it
module _ (f : Format) (s : List ℕ) (it : Item) where
  abbrev page : ℕ
  page = (descent f s (head_of s) it.key).page

  abbrev words : List ℕ
  words = page_at f s (head_of s) page

  abbrev is_record : Sought → ℕ
  is_record (Record x) = 0
  is_record Nothing = 1
  is_record Damaged = 1

  abbrev item_or : Sought → Item
  item_or (Record x) = x
  item_or Nothing = it
  item_or Damaged = it

  led_to : find_of f s (head_of s) it.key ≡ Record it → LedTo f s it
  unfolding find_of in_page
  led_to e =
      by_cases (descent f s (head_of s) it.key).ok
      (λ a.
      by_cases (eqb page 0)
      (λ b. absurd (omega (arith, other (rw (a, b, find_of) at e))))
      (λ b.
      by_cases (sound_page f (head_of s) words it.key (descent f s (head_of s) it.key).used)
      (λ c.
      by_cases (ltb (first_above f words false it.key) (count words) && eqb (key_at f words (first_above f words false it.key)) it.key)
      (λ d.
      record {
        sound = a;
        some = omega (arith, eqb-false page 0 b);
        place = first_above f words false it.key;
        inside = ltb-true _ _ (and_true _ _ d).0;
        there = ap item_or (rw (a, b, c, d, find_of, in_page) at e);
      })
      (λ d. absurd (omega (arith, other (rw (a, b, c, d, find_of, in_page) at e)))))
      (λ c. absurd (omega (arith, other (rw (a, b, c, find_of) at e))))))
      (λ a. absurd (omega (arith, other (rw (a, find_of) at e))))
    where
      other : {a : Sought} → a ≡ Record it → is_record a ≡ 0
      other q = ap is_record q

module _ (f : Format) (s : List ℕ) (S : List Item) where
  bounded : Holds f s S → Bounded key_of (2 ^ width f) S
  bounded h = lawful_bounded f S h.lawful

  pub list_is : (h : Holds f s S) → records h.b0 ≡ S
  list_is h = records_are (head_of s).capacity (width f) h.b0 S h.tree h.sorted (bounded h)

  replies : (a : Sought) → Holds f s S → checked f s a ≡ sought_reply a
  unfolding checked
  replies a h = rw (head_passes f s S h, checked)

  pub find_holds : (h : Holds f s S) (k : ℕ) → k < 2 ^ width f → find_of f s (head_of s) k ≡ first_where (λ it. eqb it.key k) S
  find_holds h k low = go h.bs h.rep ∙ ap (first_where (λ it. eqb it.key k)) (list_is h)
    where
      go : (bs : List (Trie ℕ)) → Rep f s h.b0 bs → find_of f s (head_of s) k ≡ first_where (λ it. eqb it.key k) (records h.b0)
      go [] r = absurd r.directory.links
      go (b ∷ bs) r = find_is f s h.b0 b bs r k low

  next_holds : Holds f s S → NextIs f s (head_of s) S
  next_holds h strict k low = go h.bs h.rep ∙ ap (first_where (λ it. above strict k it.key)) (list_is h)
    where
      go : (bs : List (Trie ℕ)) → Rep f s h.b0 bs
          → next_of f s (head_of s) strict k ≡ first_where (λ it. above strict k it.key) (records h.b0)
      go [] r = absurd r.directory.links
      go (b ∷ bs) r = next_is f s h.b0 b bs r k low strict

  pub find_reads : FindReads f s S
  unfolding find_reply find_in
  find_reads h k low = replies _ h ∙ ap sought_reply (find_holds h k low)

  pub next_reads : NextReads f s S
  unfolding next_reply next_in
  next_reads h k low = replies _ h ∙ ap sought_reply (next_holds h true k low)

  pub range_reads : RangeReads f s S
  range_reads h low high out q = range_is f s S (next_holds h) h.sorted (bounded h) (head_passes f s S h) low high out q

  pub ranged_reads : RangedReads f s S
  ranged_reads h low high room p q = ranged_is f s (head_of s) S (next_holds h) h.sorted (bounded h) low high room p q

  no_zero : Holds f s S → All (λ it. it.key ≡ 0 → ⊥) S
  no_zero h =
      all_map (λ it. lawful_item f it ≡ true) (λ it. it.key ≡ 0 → ⊥) S (λ it l e. omega (arith, (lawful_key f it l).0)) h.lawful

  pub summary_reads : SummaryReads f s S
  summary_reads h low high today q =
      summary_is f s S (next_holds h) h.sorted (bounded h) (head_passes f s S h) (no_zero h) low high today q

  pub summary_outright : SummaryOutright f s S
  unfolding summary_in
  summary_outright h low high today l q d =
      let its : List Item = within low high S in
      let sorted = within_sorted low high S h.sorted in
      let e = earliest_key_lem its today sorted (within_all (λ it. it.key ≡ 0 → ⊥) low high S (no_zero h)) in
      subst (Summarised its today) (sym (summary_reads h low high today q))
      (rw (le-ltb high low l, d, summary_in)
      (record { number = refl; count = refl; total = refl; key = subst (EarliestOf its) (earliest_read its _ sorted e) e }))

  pub find_zero : FindZero f s S
  unfolding find_in
  find_zero h =
      find_reads h 0 (pow_pos (width f))
      ∙ ap sought_reply
      (first_none (λ it. eqb it.key 0) S
      (all_map (λ it. lawful_item f it ≡ true) (λ it. eqb it.key 0 ≡ false) S
      (λ it l. ne_eqb it.key 0 (λ e. omega (arith, (lawful_key f it l).0))) h.lawful))

  pub next_zero : NextZero f s S
  unfolding next_in
  next_zero h =
      next_reads h 0 (pow_pos (width f))
      ∙ ap sought_reply
      (first_beyond true 0 S (all_map (λ it. lawful_item f it ≡ true) (λ it. 0 < it.key) S (λ it l. (lawful_key f it l).0) h.lawful))

  pub own_bits_lead : OwnBitsLead f s S
  own_bits_lead h it m = led_to f s it (find_holds h it.key (all_mem _ m (bounded h)) ∙ found_own it S h.sorted m)

  pub no_damage : NoDamage f s S
  no_damage h =
      record {
        find = λ k p. subst (λ a. Sound a.number) (sym (find_reads h k p)) (find_sound S k);
        next = λ k p. subst (λ a. Sound a.number) (sym (next_reads h k p)) (next_sound S k);
        range = λ low high out q. subst (λ a. Sound a.reply.number) (sym (range_reads h low high out q)) (range_sound f S low high out);
        summary = λ low high today q.
            subst (λ a. Sound a.number) (sym (summary_reads h low high today q)) (summary_sound S low high today);
      }

  pub clauses_hold : ClausesHold f s S
  clauses_hold h = go h.bs h.rep
    where
      go : (bs : List (Trie ℕ)) → Rep f s h.b0 bs → Clauses f s
      go [] r = absurd r.directory.links
      go (b ∷ bs) r =
          rep_clauses f s h.b0 b bs r (pages_pass f s h.b0 (b ∷ bs) r)
          (λ k low. ap (λ d. d.steps) (descent_visits f s h.b0 (b ∷ bs) k r low))

-- the sample store holds its three records
pub sample_keeps : SampleKeeps
sample_keeps = clauses_hold _ _ _ example_holds
