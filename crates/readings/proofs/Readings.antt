-- The readings of a store that holds S are those of the list S. The descent ends at the stretch of the key. Its page, if it has one, gives
-- its records back; the page reached after it is that of the first later stretch with records.
use mathlib.Core.Path.{◌≡◌, refl, sym, ap, ap₂, ◌∙◌}
use mathlib.Core.Bool.{Bool, true, false}
use mathlib.Core.Logic.{inl, inr}
use mathlib.Core.List.{List, [], ◌∷◌, ◌++◌, map}
use Prim.Native.Nat.{ℕ, zero, suc, ◌-◌, ◌/◌, ◌^◌, ◌≤◌, ◌<◌}
use native.Mathlib.Omega.{arith}
use native.Mathlib.Nat.{div-eq_of_lt}
use lib.Dec.{eqb, ltb}
use lib.ListN.{length, get_or, replicate}
use borrow.Author.Tests.{eq-eqb, ne_eqb}
use Rattle.lists.specs.Bits.{bits}
use Rattle.lists.specs.Lists.{All}
use Rattle.lists.proofs.ListLaws.{all_map}
use Rattle.tree.specs.Trie.{Trie, Key, leaf_at, depth, height}
use Rattle.store.specs.declared.Format.{Format}
use Rattle.store.specs.declared.Head.{Head}
use Rattle.store.specs.declared.Item.{Item}
use Rattle.store.specs.Format.{width}
use Rattle.store.specs.Head.{head_of, page_at}
use Rattle.page.specs.Page.{count, item_at, above, first_above}
use Rattle.search.specs.Way.{Sought}
use Rattle.search.specs.Way.{Record, Nothing, Damaged}
use Rattle.search.specs.Descent.{no_step, descent}
use Rattle.search.specs.Find.{sound_page, in_page, find_of}
use Rattle.search.specs.Next.{visit_after, visited, after_own, from_descent, next_of}
use Rattle.represent.specs.Labelled.{after}
use Rattle.represent.specs.Rep.{Stretch, numbers, Lawful, Rep}
use Rattle.readings.specs.Listing.{first_where, first_of}
use Rattle.represent.specs.Promises.{path_steps}
use Rattle.lists.proofs.AppendLaws.{append_all}
use Rattle.represent.proofs.LabelLaws.{each_at, leaf_at_relabel, after_relabel, each_after}
use Rattle.readings.proofs.FirstLaws.{or_else, above_true}
use Rattle.readings.proofs.Records.{records_of, records, keyed_after, find_own, next_own, next_right}
use Rattle.represent.proofs.PageImage.{page_head, page_passes, page_agrees, page_all_above}
use Rattle.represent.proofs.Passes.{nodes_pass}
use Rattle.represent.proofs.DescentVisits.{descent_is}
use Rattle.readings.proofs.Runs.{first_page}
use Rattle.readings.proofs.Along.{page_or_past, after_descent}
use Rattle.represent.proofs.Keyed.{height_keyed, keyed_own}
use Rattle.readings.proofs.PageFirst.{first_cases, page_first, page_none, page_find}

-- a page that a stretch has
module _ (f : Format) (s : List ℕ) (h : Head) (k : ℕ) where
  -- the first page after, of the stretches xs whose keys are above
  visit_is : (strict : Bool) (p : ℕ) (it : Item) (its : List Item) → Lawful f s h (p, it ∷ its) → All (λ x. k < x.key) (it ∷ its)
      → visit_after f s h strict k p ≡ Record it
  unfolding visit_after
  visit_is strict p it its l a =
      let is = l.page.1 in
      rw (
        page_passes f h.capacity (page_at f s h p) (it ∷ its) is l.lawful (omega arith) l.fits l.sorted,
        page_all_above f h.capacity (page_at f s h p) (it ∷ its) is l.lawful strict k
            (all_map (λ x. k < x.key) (λ x. above strict k x.key ≡ true) (it ∷ its) (λ x q. above_true strict k x.key q) a),
        visit_after,
      )
      (ap Record (page_head f h.capacity (page_at f s h p) (it ∷ its) is l.lawful it its refl))

  -- the key's own page p, after the used bits
  abbrev pub found : ℕ → ℕ → Sought
  found p used =
      elim (eqb p 0) [
        | true ↦ Nothing
        | false ↦ elim (sound_page f h (page_at f s h p) k used) [ false ↦ Damaged | true ↦ in_page f (page_at f s h p) k ]
      ]

  abbrev followed : Bool → ℕ → ℕ → Sought → Sought
  followed strict p used a =
      elim (eqb p 0) [
        | true ↦ a
        | false ↦
            elim (sound_page f h (page_at f s h p) k used) [
              | false ↦ Damaged
              | true ↦
                  elim (ltb (first_above f (page_at f s h p) strict k) (count (page_at f s h p))) [
                    | true ↦ Record (item_at f (page_at f s h p) (first_above f (page_at f s h p) strict k))
                    | false ↦ a
                  ]
            ]
      ]

  abbrev pub Agree : ℕ → List Item → Type 0
  Agree used rs = All (λ it. it.key / 2 ^ (width f - used) ≡ k / 2 ^ (width f - used)) rs

  pub sound : (p used : ℕ) (it : Item) (its : List Item) → Lawful f s h (p, it ∷ its) → Agree used (it ∷ its)
      → sound_page f h (page_at f s h p) k used ≡ true
  unfolding sound_page
  sound p used it its l a =
      let is = l.page.1 in
      rw (
        page_passes f h.capacity (page_at f s h p) (it ∷ its) is l.lawful (omega arith) l.fits l.sorted,
        page_agrees f h.capacity (page_at f s h p) (it ∷ its) is l.lawful k used a,
      )

  pub found_is : (x : Stretch) (used : ℕ) → Lawful f s h x → Agree used x.1 → found x.0 used ≡ first_where (λ it. eqb it.key k) x.1
  unfolding first_where
  found_is (p, []) used l a = rw (eq-eqb p 0 l.page, found)
  found_is (p, it ∷ its) used l a =
      rw (ne_eqb p 0 (λ e. omega (arith, l.page.0)), sound p used it its l a, found)
      (page_find f h.capacity (page_at f s h p) (it ∷ its) l.page.1 l.lawful k l.sorted)

  followed_is : (strict : Bool) (x : Stretch) (used : ℕ) (a : Sought) → Lawful f s h x → Agree used x.1
      → followed strict x.0 used a ≡ or_else (first_where (λ it. above strict k it.key) x.1) a
  unfolding first_where
  followed_is strict (p, []) used a l g = rw (eq-eqb p 0 l.page, followed)
  followed_is strict (p, it ∷ its) used a l g =
      rw (ne_eqb p 0 (λ e. omega (arith, l.page.0)), sound p used it its l g, followed)
      (elim (first_cases (λ x. above strict k x.key) (it ∷ its)) [
        | inl e ↦ rw (page_none f h.capacity (page_at f s h p) (it ∷ its) l.page.1 l.lawful strict k e, e)
        | inr e ↦
            let w = page_first f h.capacity (page_at f s h p) (it ∷ its) l.page.1 l.lawful strict k e.0 e.1 in
            rw (w.0, w.1, e.1)
      ])

-- the first later page
visited_is : (f : Format) (s : List ℕ) (strict : Bool) (k : ℕ) (xs : List Stretch) → All (Lawful f s (head_of s)) xs
    → All (λ it. k < it.key) (records_of xs)
    → visited f s (head_of s) strict k (page_or_past (first_page (map (λ x. x.0) xs))) ≡ first_of (records_of xs)
unfolding visited
visited_is f s strict k [] l a = refl
visited_is f s strict k ((p, []) ∷ xs) l a =
    ap (λ n. visited f s (head_of s) strict k (page_or_past (first_page (n ∷ map (λ x. x.0) xs)))) l.0.page
    ∙ visited_is f s strict k xs l.1 a
visited_is f s strict k ((zero, it ∷ its) ∷ xs) l a = absurd (omega (arith, l.0.page.0))
visited_is f s strict k ((suc p, it ∷ its) ∷ xs) l a =
    visit_is f s (head_of s) k strict (suc p) it its l.0 (append_all (λ x. k < x.key) (it ∷ its) (records_of xs) a).0

module _ (f : Format) (s : List ℕ) (b0 : Trie Stretch) (b : Trie ℕ) (bs : List (Trie ℕ)) (r : Rep f s b0 (b ∷ bs)) (k : ℕ)
    (low : k < 2 ^ width f) where
  abbrev key : Key
  key = bits (width f) k

  deep : height b0 ≤ width f
  deep = height_keyed (width f) 0 b0 r.pages.keyed

  own : Lawful f s (head_of s) (leaf_at b0 key)
  own = each_at (Lawful f s (head_of s)) b0 key r.pages.each

  agree : Agree f s (head_of s) k (depth b0 key) (leaf_at b0 key).1
  agree = keyed_own (width f) 0 k b0 r.pages.keyed (div-eq_of_lt low)

  visits : descent f s (head_of s) k
      ≡ record {
        ok = true;
        page = leaf_at (numbers b0) key;
        used = depth b0 key;
        steps = path_steps (width f) k (numbers b0) (b ∷ bs) ++ replicate (32 - length (b ∷ bs)) no_step;
      }
  visits = descent_is f s b0 (b ∷ bs) r k low (nodes_pass f s b0 (b ∷ bs) r) deep

  page_is : (descent f s (head_of s) k).page ≡ (leaf_at b0 key).0
  page_is = ap (λ d. d.page) visits ∙ leaf_at_relabel (λ x. x.0) b0 key

  pub find_is : find_of f s (head_of s) k ≡ first_where (λ it. eqb it.key k) (records b0)
  unfolding find_of
  find_is =
      rw (ap (λ d. d.ok) visits, find_of)
      (ap₂ (found f s (head_of s) k) page_is (ap (λ d. d.used) visits) ∙ found_is f s (head_of s) k (leaf_at b0 key) (depth b0 key) own agree)
      ∙ sym (find_own (width f) k b0 r.pages.keyed low)

  later : (strict : Bool)
      → after_own f s (head_of s) strict k (get_or (descent f s (head_of s) k).steps 0 no_step) ≡ first_of (records_of (after b0 key))
  later strict =
      after_descent f s b0 b bs r (nodes_pass f s b0 (b ∷ bs) r) deep k low strict
      ∙ ap (λ ns. visited f s (head_of s) strict k (page_or_past (first_page ns))) (after_relabel (λ x. x.0) b0 key)
      ∙ visited_is f s strict k (after b0 key) (each_after (Lawful f s (head_of s)) b0 key r.pages.each)
      (keyed_after (width f) 0 k b0 r.pages.keyed (div-eq_of_lt low))

  pub next_is : (strict : Bool) → next_of f s (head_of s) strict k ≡ first_where (λ it. above strict k it.key) (records b0)
  unfolding next_of from_descent
  next_is strict =
      rw (ap (λ d. d.ok) visits, next_of, from_descent)
      (ap₂
      (λ p u.
      followed f s (head_of s) k strict p u (after_own f s (head_of s) strict k (get_or (descent f s (head_of s) k).steps 0 no_step)))
      page_is (ap (λ d. d.used) visits))
      ∙ ap (followed f s (head_of s) k strict (leaf_at b0 key).0 (depth b0 key)) (later strict)
      ∙ followed_is f s (head_of s) k strict (leaf_at b0 key) (depth b0 key) (first_of (records_of (after b0 key))) own agree
      ∙ joined
    where
      joined : or_else (first_where (λ it. above strict k it.key) (leaf_at b0 key).1) (first_of (records_of (after b0 key)))
          ≡ first_where (λ it. above strict k it.key) (records b0)
      joined =
          elim (first_cases (λ it. above strict k it.key) (leaf_at b0 key).1) [
            | inl e ↦ rw e (sym (next_right (width f) k b0 r.pages.keyed low strict e))
            | inr e ↦ rw e.1 (sym (next_own (width f) k b0 r.pages.keyed low strict e.0 e.1))
          ]
