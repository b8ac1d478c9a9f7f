-- What the page operations of an insertion do to the pages. A graft at a key changes the leaf there and nothing else, so all that is to be
-- shown is the new leaves' own laws, their place among the keys, and the count of their page numbers.
use mathlib.Core.Path.{◌≡◌, refl, sym, ap, ◌∙◌, subst}
use mathlib.Core.Bool.{Bool, true, false}
use mathlib.Core.Logic.{inl, inr}
use mathlib.Core.List.{List, [], ◌∷◌, ◌++◌}
use Prim.Native.Nat.{ℕ, zero, suc, ◌+◌, ◌-◌, ◌*◌, ◌/◌, ◌^◌, ◌≤◌, ◌<◌}
use native.Mathlib.Nat.{sub-zero, suc-sub-suc, div-eq_of_lt}
use native.Mathlib.Omega.{arith}
use lib.ListN.{length}
use Rattle.lists.specs.Bits.{bit, bits}
use Rattle.lists.specs.Lists.{all}
use Rattle.lists.specs.Keyed.{Prefix}
use Rattle.lists.proofs.Cases.{bool_cases}
use Rattle.lists.proofs.ListLaws.{length_filter, filter_all, filter_some}
use Rattle.lists.proofs.BitLaws.{bit_false, bit_true}
use Rattle.tree.specs.Trie.{Trie, leaf, fork, Key, leaf_at, depth, graft, pair}
use Rattle.tree.specs.Build.{same, side}
use Rattle.tree.proofs.BuildLaws.{length_sides, sorted_side, all_side, prefix_low, prefix_high}
use Rattle.store.specs.declared.Format.{Format}
use Rattle.store.specs.declared.Head.{Head}
use Rattle.store.specs.declared.Item.{Item}
use Rattle.store.specs.Format.{width}
use Rattle.store.specs.declared.Released.{Released}
use Rattle.store.specs.Head.{head_of, released_of, page_words, page_at}
use Rattle.store.specs.Released.{up_from, released_pages, pages_to_come, next_page, page_taken}
use Rattle.page.specs.Page.{lawful_item}
use Rattle.represent.specs.Labelled.{Each, ind, occ, count, OneForOne}
use Rattle.represent.specs.Image.{page_image}
use Rattle.page.specs.Schema.{key_of}
use Rattle.represent.specs.Rep.{Stretch, numbers, PageIs, Lawful, Keyed, Pages, Sized}
use Rattle.represent.proofs.LabelLaws.{label_high, ind_eq, ind_self, ind_other, occ_graft, occ_at, each_at, leaf_at_relabel}
use Rattle.represent.proofs.LabelLaws.{relabel_graft, each_map, each_graft}
use Rattle.split.specs.Insertion.{stretch_at, left_at, prefix_at, next_bit, half_at, replaced_at, Fit, put_items}
use Rattle.split.specs.Insertion.{SameSizes}
use Rattle.split.specs.Frame.{page_of}
use Rattle.split.proofs.Lengths.{length_page_image}
use Rattle.split.proofs.Frame.{sized_long, put_page_head, put_page_sized, put_page_same, put_page_other, put_page_released}
use Rattle.split.proofs.Frame.{page_taken_sizes, page_taken_sized, page_taken_pages}
use Rattle.split.proofs.SupplyLaws.{up_from_low, one_wide, one_narrow}
use Rattle.split.proofs.PageSupply.{PageSupply, pages_same, released_same, supply_same, page_took}
use Rattle.represent.proofs.Chain.{count_append}
use Rattle.represent.proofs.Counting.{listed_low}
use Rattle.represent.proofs.Keyed.{keyed_own}

count_graft : (p : ℕ) (t : Trie Stretch) (k : Key) (c : Trie Stretch)
    → occ p (numbers (graft t k c)) + ind p (leaf_at t k).0 ≡ occ p (numbers t) + occ p (numbers c)
count_graft p t k c =
    rw (relabel_graft (λ (x : Stretch). x.0) t k c, ← leaf_at_relabel (λ (x : Stretch). x.0) t k) (occ_graft p (numbers t) k (numbers c))

-- another trie at the place of a key
keyed_graft : (w : ℕ) (t : Trie Stretch) (key : ℕ) (c : Trie Stretch) → Keyed w (key / 2 ^ w) t
    → Keyed (w - depth t (bits w key)) (key / 2 ^ (w - depth t (bits w key))) c → Keyed w (key / 2 ^ w) (graft t (bits w key) c)
keyed_graft w (leaf x) key c p q = rw sub-zero at q
keyed_graft zero (fork l r) key c p q = absurd p
keyed_graft (suc w) (fork l r) key c p q =
    elim (bool_cases (bit w key)) [
      | inl e ↦
          rw e (
            p.0,
            subst (λ (q : ℕ). Keyed w q (graft r (bits w key) c)) (bit_true w key e)
                (keyed_graft w r key c (subst (λ (q : ℕ). Keyed w q r) (sym (bit_true w key e)) p.1) (rw (e, suc-sub-suc) at q)),
          )
      | inr e ↦
          rw e (
            subst (λ (q : ℕ). Keyed w q (graft l (bits w key) c)) (bit_false w key e)
                (keyed_graft w l key c (subst (λ (q : ℕ). Keyed w q l) (sym (bit_false w key e)) p.0) (rw (e, suc-sub-suc) at q)),
            p.1,
          )
    ]

-- other words
module _ (f : Format) (s : List ℕ) (h : Head) (s' : List ℕ) (h' : Head) where
  -- a page block that stays
  page_frame : (x : Stretch) → h'.capacity ≡ h.capacity → (1 ≤ x.0 → page_at f s' h' x.0 ≡ page_at f s h x.0)
      → PageIs f s h x → PageIs f s' h' x
  page_frame (p, []) c e is = is
  page_frame (p, r ∷ rs) c e is = (is.0, e is.0 ∙ is.1 ∙ ap (λ (C : ℕ). page_image f C (r ∷ rs)) (sym c))

  lawful_frame : (x : Stretch) → h'.capacity ≡ h.capacity → (1 ≤ x.0 → page_at f s' h' x.0 ≡ page_at f s h x.0)
      → Lawful f s h x → Lawful f s' h' x
  lawful_frame x c e l = record { page = page_frame x c e l.page; fits = rw c l.fits; lawful = l.lawful; sorted = l.sorted }

number_used : (f : Format) (s : List ℕ) (h : Head) (b0 : Trie Stretch) → Pages f s h b0 → (p : ℕ) → 1 ≤ occ p (numbers b0)
    → p ≤ h.pages_taken
number_used f s h b0 pg p o =
    label_high h.pages_taken (λ p. occ p (numbers b0) + count p (released_pages f s)) p pg.one_for_one.none (omega arith)

pub pages_frame : (f : Format) (s s' : List ℕ) (h h' : Head) (b0 : Trie Stretch) → h'.capacity ≡ h.capacity
    → h'.pages_taken ≡ h.pages_taken → released_pages f s' ≡ released_pages f s
    → ((p : ℕ) → 1 ≤ p → p ≤ h.pages_taken → page_at f s' h' p ≡ page_at f s h p) → Pages f s h b0 → Pages f s' h' b0
pages_frame f s s' h h' b0 c e r kept pg =
    record {
      each =
          each_map (λ x. x.0) (Lawful f s h) (Lawful f s' h') b0
          (λ x o. lawful_frame f s h s' h' x c (λ p. kept x.0 p (number_used f s h b0 pg x.0 o)))
          pg.each;
      keyed = pg.keyed;
      one_for_one = rw (e, r) pg.one_for_one;
      spare_positive = rw r pg.spare_positive;
    }

-- a list that loses nothing to a side
pub side_whole : {R : Type 0} (key : R → ℕ) (b : Bool) (w : ℕ) (rs : List R) → length (side key b w rs) ≡ length rs → side key b w rs ≡ rs
side_whole key b w rs e =
    elim (bool_cases (all (λ r. same b (bit w (key r))) rs)) [
      | inl a ↦ filter_all (λ r. same b (bit w (key r))) rs a
      | inr a ↦ absurd (omega (arith, filter_some (λ r. same b (bit w (key r))) rs a))
    ]

module _ (f : Format) (s : List ℕ) (h : Head) where
  page_new : (p : ℕ) (rs : List Item) → 1 ≤ length rs → 1 ≤ p → page_at f s h p ≡ page_image f h.capacity rs → PageIs f s h (p, rs)
  page_new p [] some low e = absurd (omega arith)
  page_new p (r ∷ rs) some low e = (low, e)

  -- a page that is written
  lawful_page : (C p w q : ℕ) (rs : List Item) → h.capacity ≡ C → Fit f C w q rs → 1 ≤ p → page_at f s h p ≡ page_image f C rs
      → Lawful f s h (p, rs)
  lawful_page C p w q rs c fit low e =
      record {
        page = page_new p rs fit.some low (e ∙ ap (λ (C : ℕ). page_image f C rs) (sym c));
        fits = rw c fit.fits;
        lawful = fit.lawful;
        sorted = fit.sorted;
      }

  lawful_none : Lawful f s h (0, [])
  lawful_none = record { page = refl; fits = omega arith; lawful = tt; sorted = tt }

  number_low : (x : Stretch) → PageIs f s h x → 1 ≤ length x.1 → 1 ≤ x.0
  number_low (p, []) is some = absurd (omega arith)
  number_low (p, r ∷ rs) is some = is.0

module _ (f : Format) (s : List ℕ) (h : Head) (b0 : Trie Stretch) (key : ℕ) (pg : Pages f s h b0) (inside : key < 2 ^ width f) where
  keyed : Keyed (width f) (key / 2 ^ width f) b0
  keyed = subst (λ (q : ℕ). Keyed (width f) q b0) (sym (div-eq_of_lt inside)) pg.keyed

  -- "its own bits lead to each held record"
  pub prefix_at_lem : Prefix key_of (left_at f b0 key) (prefix_at f b0 key) (stretch_at f b0 key).1
  prefix_at_lem = keyed_own (width f) 0 key b0 pg.keyed (div-eq_of_lt inside)

  pub lawful_at : Lawful f s h (stretch_at f b0 key)
  lawful_at = each_at (Lawful f s h) b0 (bits (width f) key) pg.each

  pub number_high : (stretch_at f b0 key).0 ≤ h.pages_taken
  number_high =
      let k : Key = bits (width f) key in
      number_used f s h b0 pg (stretch_at f b0 key).0
      (subst (λ (n : ℕ). 1 ≤ occ n (numbers b0)) (leaf_at_relabel (λ (x : Stretch). x.0) b0 k) (occ_at (numbers b0) k))

  half_small : (b : Bool) → length (half_at b f b0 key) ≤ length (stretch_at f b0 key).1
  half_small b = length_filter (λ r. same b (bit (next_bit f b0 key) (key_of r))) (stretch_at f b0 key).1

  pub half_fits : (b : Bool) → length (half_at b f b0 key) ≤ h.capacity
  half_fits b = omega (arith, half_small b, lawful_at.fits)

  pub own_low : (b : Bool) → 1 ≤ length (half_at b f b0 key) → 1 ≤ (stretch_at f b0 key).0
  own_low b some = number_low f s h (stretch_at f b0 key) lawful_at.page (omega (arith, half_small b))

  half_fit : (b : Bool) (w q : ℕ) → 1 ≤ length (half_at b f b0 key) → Prefix key_of w q (half_at b f b0 key)
      → Fit f h.capacity w q (half_at b f b0 key)
  half_fit b w q some prefix =
      let rs : List Item = (stretch_at f b0 key).1 in
      record {
        some = some;
        fits = half_fits b;
        lawful = all_side key_of (λ it. lawful_item f it ≡ true) b (next_bit f b0 key) rs lawful_at.lawful;
        sorted = sorted_side key_of b (next_bit f b0 key) rs lawful_at.sorted;
        prefix = prefix;
      }

  -- the halves' prefixes
  module _ (deep : depth b0 (bits (width f) key) < width f) where
    one_more : suc (next_bit f b0 key) ≡ left_at f b0 key
    one_more = omega arith

    whole : Prefix key_of (suc (next_bit f b0 key)) (key / 2 ^ suc (next_bit f b0 key)) (stretch_at f b0 key).1
    whole = subst (λ (w : ℕ). Prefix key_of w (key / 2 ^ w) (stretch_at f b0 key).1) (sym one_more) prefix_at_lem

    low_prefix : Prefix key_of (next_bit f b0 key) (2 * (key / 2 ^ suc (next_bit f b0 key))) (half_at false f b0 key)
    low_prefix = prefix_low key_of (next_bit f b0 key) (key / 2 ^ suc (next_bit f b0 key)) (stretch_at f b0 key).1 whole

    high_prefix : Prefix key_of (next_bit f b0 key) (2 * (key / 2 ^ suc (next_bit f b0 key)) + 1) (half_at true f b0 key)
    high_prefix = prefix_high key_of (next_bit f b0 key) (key / 2 ^ suc (next_bit f b0 key)) (stretch_at f b0 key).1 whole

    halves_keyed : (x y : Stretch) → x.1 ≡ half_at false f b0 key → y.1 ≡ half_at true f b0 key
        → Keyed (left_at f b0 key) (prefix_at f b0 key) (pair x y)
    halves_keyed x y a b =
        let w : ℕ = next_bit f b0 key in
        let q : ℕ = key / 2 ^ suc w in
        subst (λ (v : ℕ). Keyed v (key / 2 ^ v) (pair x y)) one_more
        (subst (Prefix key_of w (2 * q)) (sym a) low_prefix, subst (Prefix key_of w (2 * q + 1)) (sym b) high_prefix)

  -- the page numbers with the stretches c at the key: none more, or the next one more
  module _ (c : Trie Stretch) (s' : List ℕ) (h' : Head) where
    same_count : h'.pages_taken ≡ h.pages_taken → released_pages f s' ≡ released_pages f s
        → ((p : ℕ) → 1 ≤ p → occ p (numbers c) ≡ ind p (stretch_at f b0 key).0)
        → OneForOne h'.pages_taken (λ p. occ p (numbers (replaced_at f b0 key c)) + count p (released_pages f s'))
    same_count t r e =
        record {
          once = λ p low high.
              omega (arith, count_graft p b0 (bits (width f) key) c, e p low, ap (count p) r, pg.one_for_one.once p low (omega arith));
          none = λ p l.
              omega (arith, count_graft p b0 (bits (width f) key) c, e p (omega arith), ap (count p) r, pg.one_for_one.none p (omega arith));
        }

    next_count : (m cap : ℕ) → h.pages_taken ≤ cap → h'.pages_taken ≤ cap
        → released_pages f s ++ up_from (cap - h.pages_taken) h.pages_taken
        ≡ m ∷ (released_pages f s' ++ up_from (cap - h'.pages_taken) h'.pages_taken)
        → ((p : ℕ) → 1 ≤ p → occ p (numbers c) ≡ ind p (stretch_at f b0 key).0 + ind p m)
        → OneForOne h'.pages_taken (λ p. occ p (numbers (replaced_at f b0 key c)) + count p (released_pages f s'))
    next_count m cap fits fits' come e =
        let wide = one_wide (λ p. occ p (numbers b0)) (released_pages f s) h.pages_taken cap fits pg.one_for_one in
        one_narrow (λ p. occ p (numbers (replaced_at f b0 key c))) (released_pages f s') h'.pages_taken cap fits'
        (record {
          once = λ p low high.
              omega (arith, count_graft p b0 (bits (width f) key) c, e p low, ap (count p) come, wide.once p low high);
          none = λ p l.
              omega (arith, count_graft p b0 (bits (width f) key) c, e p (omega arith), ap (count p) come, wide.none p l);
        })

  -- new words, in which the other pages are as they were
  module _ (s' : List ℕ) (h' : Head) (capacity : h'.capacity ≡ h.capacity)
      (kept : (p : ℕ) → 1 ≤ p → 1 ≤ occ p (numbers b0) → (p ≡ (stretch_at f b0 key).0 → ⊥) → page_at f s' h' p ≡ page_at f s h p) where
    beside : (x : Stretch) → ind x.0 (stretch_at f b0 key).0 < occ x.0 (numbers b0) → 1 ≤ x.0
        → page_at f s' h' x.0 ≡ page_at f s h x.0
    beside x o low =
        let l : x.0 ≤ h.pages_taken = number_used f s h b0 pg x.0 (omega arith) in
        kept x.0 low (omega arith) (λ e. omega (arith, ind_eq x.0 (stretch_at f b0 key).0 e, pg.one_for_one.once x.0 low l))

    pages_graft : (c : Trie Stretch) → Each (Lawful f s' h') c → Keyed (left_at f b0 key) (prefix_at f b0 key) c
        → count 0 (released_pages f s') ≡ 0
        → OneForOne h'.pages_taken (λ p. occ p (numbers (replaced_at f b0 key c)) + count p (released_pages f s'))
        → Pages f s' h' (replaced_at f b0 key c)
    pages_graft c each place free counted =
        let k : Key = bits (width f) key in
        record {
          each =
              each_graft (λ x. x.0) (Lawful f s h) (Lawful f s' h') b0 k c (λ x o. lawful_frame f s h s' h' x capacity (beside x o))
              pg.each each;
          keyed =
              subst (λ (q : ℕ). Keyed (width f) q (graft b0 k c)) (div-eq_of_lt inside)
              (keyed_graft (width f) b0 key c keyed place);
          one_for_one = counted;
          spare_positive = free;
        }

    -- the next page: it is taken, and no stretch has it
    module _ (m : ℕ) (fits : h.pages_taken ≤ h.page_blocks) (fits' : h'.pages_taken ≤ h.page_blocks)
        (come : released_pages f s ++ up_from (h.page_blocks - h.pages_taken) h.pages_taken
        ≡ m ∷ (released_pages f s' ++ up_from (h.page_blocks - h'.pages_taken) h'.pages_taken)) where
      zero_left : count 0 (released_pages f s') ≡ 0
      zero_left =
          omega (
            arith,
            ap (count 0) come,
            count_append 0 (released_pages f s) (up_from (h.page_blocks - h.pages_taken) h.pages_taken),
            count_append 0 (released_pages f s') (up_from (h.page_blocks - h'.pages_taken) h'.pages_taken),
            pg.spare_positive,
            up_from_low (h.page_blocks - h.pages_taken) h.pages_taken 0 (omega arith),
          )

    -- The place takes the records rs, in its own page, or where it has none in the next page.
    put_any : (rs : List Item) → 1 ≤ (stretch_at f b0 key).0 → Fit f h.capacity (left_at f b0 key) (prefix_at f b0 key) rs
        → h'.pages_taken ≡ h.pages_taken → released_pages f s' ≡ released_pages f s
        → page_at f s' h' (stretch_at f b0 key).0 ≡ page_image f h.capacity rs
        → Pages f s' h' (replaced_at f b0 key (leaf ((stretch_at f b0 key).0, rs)))
    put_any rs low fit filled same e =
        let n : ℕ = (stretch_at f b0 key).0 in
        pages_graft (leaf (n, rs))
        (lawful_page f s' h' h.capacity n (left_at f b0 key) (prefix_at f b0 key) rs capacity fit low e)
        fit.prefix (ap (count 0) same ∙ pg.spare_positive) (same_count (leaf (n, rs)) s' h' filled same (λ p q. refl))

    take_any : (rs : List Item) (m : ℕ) → (stretch_at f b0 key).0 ≡ 0 → Fit f h.capacity (left_at f b0 key) (prefix_at f b0 key) rs
        → h.pages_taken ≤ h.page_blocks → h'.pages_taken ≤ h.page_blocks
        → released_pages f s ++ up_from (h.page_blocks - h.pages_taken) h.pages_taken
        ≡ m ∷ (released_pages f s' ++ up_from (h.page_blocks - h'.pages_taken) h'.pages_taken)
        → 1 ≤ m → page_at f s' h' m ≡ page_image f h.capacity rs
        → Pages f s' h' (replaced_at f b0 key (leaf (m, rs)))
    take_any rs m null fit fits fits' come low e =
        pages_graft (leaf (m, rs))
        (lawful_page f s' h' h.capacity m (left_at f b0 key) (prefix_at f b0 key) rs capacity fit low e)
        fit.prefix (zero_left m fits fits' come)
        (next_count (leaf (m, rs)) s' h' m h.page_blocks fits fits' come
        (λ p q. omega (arith, ind_other p (stretch_at f b0 key).0 (λ i. omega arith))))

    -- neither half is empty: the lower keeps the page, and the upper takes the next one
    both_any : (m : ℕ) → depth b0 (bits (width f) key) < width f → 1 ≤ (stretch_at f b0 key).0
        → 1 ≤ length (half_at false f b0 key) → 1 ≤ length (half_at true f b0 key)
        → h.pages_taken ≤ h.page_blocks → h'.pages_taken ≤ h.page_blocks
        → released_pages f s ++ up_from (h.page_blocks - h.pages_taken) h.pages_taken
        ≡ m ∷ (released_pages f s' ++ up_from (h.page_blocks - h'.pages_taken) h'.pages_taken)
        → 1 ≤ m
        → page_at f s' h' (stretch_at f b0 key).0 ≡ page_image f h.capacity (half_at false f b0 key)
        → page_at f s' h' m ≡ page_image f h.capacity (half_at true f b0 key)
        → Pages f s' h' (replaced_at f b0 key (pair ((stretch_at f b0 key).0, half_at false f b0 key) (m, half_at true f b0 key)))
    both_any m deep low some₀ some₁ fits fits' come low₁ e₀ e₁ =
        let w : ℕ = next_bit f b0 key in
        let q : ℕ = key / 2 ^ suc w in
        let x : Stretch = ((stretch_at f b0 key).0, half_at false f b0 key) in
        let y : Stretch = (m, half_at true f b0 key) in
        let lower = half_fit false w (2 * q) some₀ (low_prefix deep) in
        let upper = half_fit true w (2 * q + 1) some₁ (high_prefix deep) in
        pages_graft (pair x y) (
          lawful_page f s' h' h.capacity x.0 w (2 * q) x.1 capacity lower low e₀,
          lawful_page f s' h' h.capacity y.0 w (2 * q + 1) y.1 capacity upper low₁ e₁,
        )
        (halves_keyed deep x y refl refl) (zero_left m fits fits' come)
        (next_count (pair x y) s' h' m h.page_blocks fits fits' come (λ p q. refl))

  -- one half is empty, and the other keeps the page
  pub pages_upper : depth b0 (bits (width f) key) < width f → half_at false f b0 key ≡ []
      → Pages f s h (replaced_at f b0 key (pair (0, []) (stretch_at f b0 key)))
  pages_upper deep e =
      let x : Stretch = stretch_at f b0 key in
      let w : ℕ = next_bit f b0 key in
      let all : half_at true f b0 key ≡ x.1 = side_whole key_of true w x.1 (omega (arith, length_sides key_of w x.1, ap length e)) in
      pages_graft s h refl (λ p a b c. refl) (pair (0, []) x) (lawful_none f s h, lawful_at)
      (halves_keyed deep (0, []) x (sym e) (sym all)) pg.spare_positive
      (same_count (pair (0, []) x) s h refl refl (λ p low. omega (arith, ind_other p 0 (λ i. omega arith))))

  pub pages_lower : depth b0 (bits (width f) key) < width f → half_at true f b0 key ≡ []
      → Pages f s h (replaced_at f b0 key (pair (stretch_at f b0 key) (0, [])))
  pages_lower deep e =
      let x : Stretch = stretch_at f b0 key in
      let w : ℕ = next_bit f b0 key in
      let all : half_at false f b0 key ≡ x.1 = side_whole key_of false w x.1 (omega (arith, length_sides key_of w x.1, ap length e)) in
      pages_graft s h refl (λ p a b c. refl) (pair x (0, [])) (lawful_at, lawful_none f s h)
      (halves_keyed deep x (0, []) (sym all) (sym e)) pg.spare_positive
      (same_count (pair x (0, [])) s h refl refl (λ p low. omega (arith, ind_other p 0 (λ i. omega arith))))

abbrev pub PagesOf : Format → List ℕ → Trie Stretch → Type 0
PagesOf f s b0 = Pages f s (head_of s) b0

module _ (f : Format) (C : ℕ) (s : List ℕ) (p : ℕ) (rs : List Item) (ok : Sized f s) (low : 1 ≤ p) (high : p ≤ (head_of s).page_blocks)
    (full : (head_of s).capacity ≡ C) (fits : length rs ≤ C) where
  pub put_head_lem : head_of (put_items f C s p rs) ≡ head_of s
  put_head_lem = put_page_head f s p (page_image f C rs) (omega (arith, sized_long f s ok))

  pub put_length : length (page_image f C rs) ≡ page_words f (head_of s).capacity
  put_length = length_page_image f C rs fits ∙ ap (page_words f) (sym full)

  pub put_sized : Sized f (put_items f C s p rs)
  put_sized = put_page_sized f s p (page_image f C rs) ok low high put_length

  pub put_same : page_of f (put_items f C s p rs) p ≡ page_image f C rs
  put_same = put_page_same f s p (page_image f C rs) ok low high put_length

  pub put_other : (x : ℕ) → 1 ≤ x → (x ≡ p → ⊥) → page_of f (put_items f C s p rs) x ≡ page_of f s x
  put_other = put_page_other f s p (page_image f C rs) ok low high put_length

  pub put_released : released_of (put_items f C s p rs) ≡ released_of s
  put_released = put_page_released f s p (page_image f C rs) ok low high put_length

  -- a page that may not be taken: those that may are the same, and in order
  module _ (y : PageSupply f s) (off : count p (pages_to_come f s) ≡ 0) where
    beside_p : (x : ℕ) → 1 ≤ x → x ≤ (head_of s).page_blocks → 1 ≤ count x (pages_to_come f s) → page_of f (put_items f C s p rs) x ≡ page_of f s x
    beside_p x l h o = put_other x l (λ e. omega (arith, off, subst (λ z. 1 ≤ count z (pages_to_come f s)) e o))

    same_sizes : SameSizes (head_of s) (head_of (put_items f C s p rs))
    same_sizes =
        record {
          theta = ap (λ (h : Head). h.theta) put_head_lem;
          capacity = ap (λ (h : Head). h.capacity) put_head_lem;
          nodes = ap (λ (h : Head). h.node_blocks) put_head_lem;
          pages = ap (λ (h : Head). h.page_blocks) put_head_lem;
        }

    pub put_come : pages_to_come f (put_items f C s p rs) ≡ pages_to_come f s
    put_come =
        pages_same f s (put_items f C s p rs) ok put_sized same_sizes (ap (λ (h : Head). h.pages_taken) put_head_lem)
        (ap (λ (r : Released). r.pages) put_released) (ap (λ (r : Released). r.page) put_released) beside_p y

    pub put_chain : released_pages f (put_items f C s p rs) ≡ released_pages f s
    put_chain =
        released_same f s (put_items f C s p rs) ok put_sized same_sizes (ap (λ (h : Head). h.pages_taken) put_head_lem)
        (ap (λ (r : Released). r.pages) put_released) (ap (λ (r : Released). r.page) put_released) beside_p y

    pub put_supply : PageSupply f (put_items f C s p rs)
    put_supply =
        supply_same f s (put_items f C s p rs) ok put_sized same_sizes (ap (λ (h : Head). h.pages_taken) put_head_lem)
        (ap (λ (r : Released). r.pages) put_released) (ap (λ (r : Released). r.page) put_released) beside_p y

-- a page written after one was taken
module _ (f : Format) (C : ℕ) (s : List ℕ) (p : ℕ) (rs : List Item) (ok : Sized f s) (low : 1 ≤ p) (high : p ≤ (head_of s).page_blocks)
    (full : (head_of s).capacity ≡ C) (fits : length rs ≤ C) where
  abbrev s₀ : List ℕ
  s₀ = page_taken f s

  sizes₀ : SameSizes (head_of s) (head_of s₀)
  sizes₀ = page_taken_sizes f s

  ok₀ : Sized f s₀
  ok₀ = page_taken_sized f s ok

  high₀ : p ≤ (head_of s₀).page_blocks
  high₀ = omega (arith, sizes₀.pages)

  full₀ : (head_of s₀).capacity ≡ C
  full₀ = sizes₀.capacity ∙ full

  abbrev t : List ℕ
  t = put_items f C s₀ p rs

  head₀ : head_of t ≡ head_of s₀
  head₀ = put_head_lem f C s₀ p rs ok₀ low high₀ full₀ fits

  pub take_sized : Sized f t
  take_sized = put_sized f C s₀ p rs ok₀ low high₀ full₀ fits

  pub take_sizes : SameSizes (head_of s) (head_of t)
  take_sizes =
      record {
        theta = ap (λ (h : Head). h.theta) head₀ ∙ sizes₀.theta;
        capacity = ap (λ (h : Head). h.capacity) head₀ ∙ sizes₀.capacity;
        nodes = ap (λ (h : Head). h.node_blocks) head₀ ∙ sizes₀.nodes;
        pages = ap (λ (h : Head). h.page_blocks) head₀ ∙ sizes₀.pages;
      }

  pub take_same : page_of f t p ≡ page_image f C rs
  take_same = put_same f C s₀ p rs ok₀ low high₀ full₀ fits

  pub take_other : (x : ℕ) → 1 ≤ x → (x ≡ p → ⊥) → page_of f t x ≡ page_of f s x
  take_other x q ne = put_other f C s₀ p rs ok₀ low high₀ full₀ fits x q ne ∙ page_taken_pages f s x

  -- a page that may not be taken after the next one
  module _ (y : PageSupply f s) (more : 1 ≤ length (pages_to_come f s)) (off : count p (pages_to_come f s₀) ≡ 0) where
    pub take_come : pages_to_come f s ≡ next_page s ∷ pages_to_come f t
    take_come =
        let k = page_took f s ok y more in
        k.0 ∙ ap (λ ns. next_page s ∷ ns) (sym (put_come f C s₀ p rs ok₀ low high₀ full₀ fits k.1 off))

    pub take_supply : PageSupply f t
    take_supply = put_supply f C s₀ p rs ok₀ low high₀ full₀ fits (page_took f s ok y more).1 off

-- of the page numbers that may be taken none labels a stretch, and each is one of a page block
module _ (f : Format) (s : List ℕ) (b0 : Trie Stretch) (pg : PagesOf f s b0) (fits : (head_of s).pages_taken ≤ (head_of s).page_blocks) where
  pub come_once : OneForOne (head_of s).page_blocks (λ p. occ p (numbers b0) + count p (pages_to_come f s))
  unfolding pages_to_come
  come_once =
      one_wide (λ p. occ p (numbers b0)) (released_pages f s) (head_of s).pages_taken (head_of s).page_blocks fits pg.one_for_one

  pub come_zero : count 0 (pages_to_come f s) ≡ 0
  unfolding pages_to_come
  come_zero =
      omega (
        arith,
        count_append 0 (released_pages f s) (up_from ((head_of s).page_blocks - (head_of s).pages_taken) (head_of s).pages_taken),
        pg.spare_positive,
        up_from_low ((head_of s).page_blocks - (head_of s).pages_taken) (head_of s).pages_taken 0 (omega arith),
      )

  -- a page of a stretch may not be taken
  pub page_off : (p : ℕ) → 1 ≤ p → 1 ≤ occ p (numbers b0) → count p (pages_to_come f s) ≡ 0
  page_off p low o =
      let h : p ≤ (head_of s).pages_taken = number_used f s (head_of s) b0 pg p o in
      omega (arith, come_once.once p low (omega arith))

  -- the first of those that may
  module _ (m : ℕ) (ns : List ℕ) (e : pages_to_come f s ≡ m ∷ ns) where
    one_m : 1 ≤ count m (pages_to_come f s)
    one_m = omega (arith, ap (count m) e, ind_self m)

    pub next_low : 1 ≤ m
    next_low = listed_low (pages_to_come f s) m come_zero one_m

    pub next_high : m ≤ (head_of s).page_blocks
    next_high = label_high (head_of s).page_blocks (λ p. occ p (numbers b0) + count p (pages_to_come f s)) m come_once.none (omega (arith, one_m))

    pub next_gone : count m ns ≡ 0
    next_gone = omega (arith, ap (count m) e, ind_self m, come_once.once m next_low next_high)

    pub next_new : occ m (numbers b0) ≡ 0
    next_new = omega (arith, one_m, come_once.once m next_low next_high)

module _ (f : Format) (s : List ℕ) (b0 : Trie Stretch) (key : ℕ) (ok : Sized f s) (pg : PagesOf f s b0) (inside : key < 2 ^ width f)
    (y : PageSupply f s) where
  own_label : 1 ≤ occ (stretch_at f b0 key).0 (numbers b0)
  own_label =
      let k : Key = bits (width f) key in
      subst (λ (n : ℕ). 1 ≤ occ n (numbers b0)) (leaf_at_relabel (λ (x : Stretch). x.0) b0 k) (occ_at (numbers b0) k)

  pub own_off : 1 ≤ (stretch_at f b0 key).0 → count (stretch_at f b0 key).0 (pages_to_come f s) ≡ 0
  own_off low = page_off f s b0 pg y.fits (stretch_at f b0 key).0 low own_label

  pub pages_put : (rs : List Item) → 1 ≤ (stretch_at f b0 key).0
      → Fit f (head_of s).capacity (left_at f b0 key) (prefix_at f b0 key) rs
      → PagesOf f (put_items f (head_of s).capacity s (stretch_at f b0 key).0 rs) (replaced_at f b0 key (leaf ((stretch_at f b0 key).0, rs)))
  pages_put rs low fit =
      let n : ℕ = (stretch_at f b0 key).0 in
      let C : ℕ = (head_of s).capacity in
      let s' : List ℕ = put_items f C s n rs in
      let high : n ≤ (head_of s).page_blocks = omega (arith, number_high f s (head_of s) b0 key pg inside, y.fits) in
      let head : head_of s' ≡ head_of s = put_head_lem f C s n rs ok low high refl fit.fits in
      put_any f s (head_of s) b0 key pg inside s' (head_of s') (ap (λ (h : Head). h.capacity) head)
      (λ p a b c. put_other f C s n rs ok low high refl fit.fits p a c) rs low fit (ap (λ (h : Head). h.pages_taken) head)
      (put_chain f C s n rs ok low high refl fit.fits y (own_off low))
      (put_same f C s n rs ok low high refl fit.fits)

  -- the next page is taken
  module _ (more : 1 ≤ length (pages_to_come f s)) where
    abbrev m : ℕ
    m = next_page s

    took : (pages_to_come f s ≡ m ∷ pages_to_come f (page_taken f s)) × PageSupply f (page_taken f s)
    took = page_took f s ok y more

    pub m_low : 1 ≤ m
    m_low = next_low f s b0 pg y.fits m _ took.0

    pub m_high : m ≤ (head_of s).page_blocks
    m_high = next_high f s b0 pg y.fits m _ took.0

    pub m_gone : count m (pages_to_come f (page_taken f s)) ≡ 0
    m_gone = next_gone f s b0 pg y.fits m _ took.0

    not_m : (p : ℕ) → 1 ≤ occ p (numbers b0) → p ≡ m → ⊥
    not_m p o e = omega (arith, next_new f s b0 pg y.fits m _ took.0, subst (λ z. 1 ≤ occ z (numbers b0)) e o)

    pub own_gone : 1 ≤ (stretch_at f b0 key).0 → count (stretch_at f b0 key).0 (pages_to_come f (page_taken f s)) ≡ 0
    own_gone low = omega (arith, ap (count (stretch_at f b0 key).0) took.0, own_off low)

    -- the sizes after it
    split_come : (s' : List ℕ) → (head_of s').page_blocks ≡ (head_of s).page_blocks → pages_to_come f s ≡ m ∷ pages_to_come f s'
        → released_pages f s ++ up_from ((head_of s).page_blocks - (head_of s).pages_taken) (head_of s).pages_taken
        ≡ m ∷ (released_pages f s' ++ up_from ((head_of s).page_blocks - (head_of s').pages_taken) (head_of s').pages_taken)
    unfolding pages_to_come
    split_come s' e q = q ∙ ap (λ n. m ∷ (released_pages f s' ++ up_from (n - (head_of s').pages_taken) (head_of s').pages_taken)) e

    pub pages_take : (rs : List Item) → (stretch_at f b0 key).0 ≡ 0
        → Fit f (head_of s).capacity (left_at f b0 key) (prefix_at f b0 key) rs
        → PagesOf f (put_items f (head_of s).capacity (page_taken f s) m rs) (replaced_at f b0 key (leaf (m, rs)))
    pages_take rs null fit =
        let C : ℕ = (head_of s).capacity in
        let s' : List ℕ = put_items f C (page_taken f s) m rs in
        let sizes = take_sizes f C s m rs ok m_low m_high refl fit.fits in
        take_any f s (head_of s) b0 key pg inside s' (head_of s') sizes.capacity
        (λ p a b c. take_other f C s m rs ok m_low m_high refl fit.fits p a (not_m p b)) rs m null fit y.fits
        (omega (arith, (take_supply f C s m rs ok m_low m_high refl fit.fits y more m_gone).fits, sizes.pages))
        (split_come s' sizes.pages (take_come f C s m rs ok m_low m_high refl fit.fits y more m_gone)) m_low
        (take_same f C s m rs ok m_low m_high refl fit.fits)

    module _ (some₀ : 1 ≤ length (half_at false f b0 key)) where
      abbrev n : ℕ
      n = (stretch_at f b0 key).0

      abbrev C : ℕ
      C = (head_of s).capacity

      abbrev z : List Item
      z = half_at false f b0 key

      abbrev o : List Item
      o = half_at true f b0 key

      abbrev s₁ : List ℕ
      s₁ = put_items f C (page_taken f s) n z

      abbrev s₂ : List ℕ
      s₂ = put_items f C s₁ m o

      n_low : 1 ≤ n
      n_low = own_low f s (head_of s) b0 key pg inside false some₀

      n_high : n ≤ (head_of s).page_blocks
      n_high = omega (arith, number_high f s (head_of s) b0 key pg inside, y.fits)

      fits : length z ≤ C
      fits = half_fits f s (head_of s) b0 key pg inside false

      fits₁ : length o ≤ C
      fits₁ = half_fits f s (head_of s) b0 key pg inside true

      sizes₁ : SameSizes (head_of s) (head_of s₁)
      sizes₁ = take_sizes f C s n z ok n_low n_high refl fits

      ok₁ : Sized f s₁
      ok₁ = take_sized f C s n z ok n_low n_high refl fits

      high₁ : m ≤ (head_of s₁).page_blocks
      high₁ = omega (arith, sizes₁.pages, m_high)

      head₂ : head_of s₂ ≡ head_of s₁
      head₂ = put_head_lem f C s₁ m o ok₁ m_low high₁ sizes₁.capacity fits₁

      come₁ : pages_to_come f s ≡ m ∷ pages_to_come f s₁
      come₁ = take_come f C s n z ok n_low n_high refl fits y more (own_gone n_low)

      supply₁ : PageSupply f s₁
      supply₁ = take_supply f C s n z ok n_low n_high refl fits y more (own_gone n_low)

      off₁ : count m (pages_to_come f s₁) ≡ 0
      off₁ = next_gone f s b0 pg y.fits m _ come₁

      pub both_supply : PageSupply f s₂
      both_supply = put_supply f C s₁ m o ok₁ m_low high₁ sizes₁.capacity fits₁ supply₁ off₁

      come₂ : pages_to_come f s ≡ m ∷ pages_to_come f s₂
      come₂ = come₁ ∙ ap (λ ns. m ∷ ns) (sym (put_come f C s₁ m o ok₁ m_low high₁ sizes₁.capacity fits₁ supply₁ off₁))

      pages₂ : (head_of s₂).page_blocks ≡ (head_of s).page_blocks
      pages₂ = ap (λ (h : Head). h.page_blocks) head₂ ∙ sizes₁.pages

      pub pages_both : depth b0 (bits (width f) key) < width f → 1 ≤ length o
          → PagesOf f s₂ (replaced_at f b0 key (pair (n, z) (m, o)))
      pages_both deep some₁ =
          both_any f s (head_of s) b0 key pg inside s₂ (head_of s₂) (ap (λ (h : Head). h.capacity) head₂ ∙ sizes₁.capacity)
          (λ p a b c.
          put_other f C s₁ m o ok₁ m_low high₁ sizes₁.capacity fits₁ p a (not_m p b) ∙ take_other f C s n z ok n_low n_high refl fits p a c)
          m deep n_low some₀ some₁ y.fits (omega (arith, both_supply.fits, pages₂)) (split_come s₂ pages₂ come₂) m_low
          (put_other f C s₁ m o ok₁ m_low high₁ sizes₁.capacity fits₁ n n_low (not_m n own_label)
          ∙ take_same f C s n z ok n_low n_high refl fits)
          (put_same f C s₁ m o ok₁ m_low high₁ sizes₁.capacity fits₁)
