-- On a store that stands for a tree the chains of released blocks pass enter's test: each block has its form, none stands twice, and each
-- names the next one.
use mathlib.Core.Path.{◌≡◌, refl, sym, ap, ◌∙◌}
use mathlib.Core.Bool.{Bool, true, false}
use mathlib.Core.List.{List, [], ◌∷◌}
use Prim.Native.Nat.{ℕ, zero, suc, ◌+◌, ◌-◌, ◌≤◌, ◌<◌}
use native.Mathlib.Decide.{ℕ_discrete, dec_le}
use native.Mathlib.Omega.{arith}
use borrow.Author.Tests.{eq-eqb, ne_eqb}
use Rattle.lists.proofs.Tests.{every_of}
use Rattle.tree.specs.Trie.{Trie}
use Rattle.store.specs.declared.Format.{Format}
use Rattle.store.specs.declared.Head.{Head}
use Rattle.store.specs.Head.{word, zeros, head_of, released_of, node_words, page_words, node_start, page_start, node_at, page_at}
use Rattle.store.specs.Released.{released_node, released_page, node_form, page_form, node_next, page_next, chain_of, after_all, member, link_ok, chain_ok}
use Rattle.store.specs.Released.{nodes_ok, pages_ok, released_nodes, released_pages}
use Rattle.store.proofs.HeadLaws.{Named, named_of, sizes_limits}
use Rattle.store.proofs.Places.{part_word, node_end, nodes_end_lem, page_end, node_words_low, page_words_low}
use Rattle.represent.specs.Labelled.{count}
use Rattle.represent.specs.Rep.{Stretch, Rep, Sized}
use Rattle.represent.proofs.LabelLaws.{ind_eq, ind_self, ind_other}
use Rattle.represent.proofs.ImageLaws.{get_d_zeros}
use Rattle.represent.proofs.Counting.{released_node_lem, released_page_lem}
use Rattle.split.specs.Frame.{node_of, page_of}
use Rattle.split.proofs.SupplyLaws.{after_front, all_counted}
use Rattle.lists.specs.Lists.{All}

not_member : (x : ℕ) (ns : List ℕ) → count x ns ≡ 0 → member x ns ≡ false
unfolding member
not_member x [] z = refl
not_member x (n ∷ ns) z =
    elim (ℕ_discrete x n) [
      | yes e ↦ absurd (omega (arith, ind_eq x n e))
      | no e ↦ rw (ne_eqb x n e, not_member x ns (omega arith))
    ]

all_at : (A : ℕ → Type 0) (ns : List ℕ) (x : ℕ) → All A ns → 1 ≤ count x ns → ((y : ℕ) → x ≡ y → A y → A x) → A x
all_at A [] x a o move = absurd (omega arith)
all_at A (n ∷ ns) x a o move =
    elim (ℕ_discrete x n) [
      | yes e ↦ move n e a.0
      | no e ↦ all_at A ns x a.1 (one x n ns e o) move
    ]
  where
    one : (x n : ℕ) (ns : List ℕ) → (x ≡ n → ⊥) → 1 ≤ count x (n ∷ ns) → 1 ≤ count x ns
    one x n ns e o = omega (arith, ind_other x n e)

module _ (form : ℕ → Bool) (next : ℕ → ℕ) (taken : ℕ) where
  name_is : (n name : ℕ) → after_all next n name ≡ 0 → ((x : ℕ) → 1 ≤ count x (chain_of next n name) → (form x ≡ true) × (1 ≤ x) × (x ≤ taken))
      → Named name n taken
  unfolding chain_of after_all
  name_is zero name z h = record { within = omega (arith, z); some = λ l. absurd (omega arith); none = λ e. z }
  name_is (suc n) name z h =
      let i = h name (omega (arith, ind_self name)) in
      record { within = i.2; some = λ l. i.1; none = λ e. absurd (omega arith) }

  pub chain_passes : (n many name : ℕ) (seen : List ℕ) → after_all next many name ≡ 0
      → ((x : ℕ) → 1 ≤ count x (chain_of next many name) → (form x ≡ true) × (1 ≤ x) × (x ≤ taken))
      → ((x : ℕ) → count x seen + count x (chain_of next many name) ≤ 1)
      → chain_ok form next taken n many name seen ≡ true
  unfolding chain_ok link_ok chain_of
  chain_passes zero many name seen z h once = refl
  chain_passes (suc n) zero name seen z h once = refl
  chain_passes (suc n) (suc many) name seen z h once =
      let z₁ : after_all next many (next name) ≡ 0 = sym (after_front next many name) ∙ z in
      rw (
        (h name (omega (arith, ind_self name))).0,
        not_member name seen (omega (arith, once name, ind_self name)),
        named_of (next name) many taken (name_is many (next name) z₁ (λ x o. h x (omega arith))),
        chain_passes n many (next name) (name ∷ seen) z₁ (λ x o. h x (omega arith)) (λ x. omega (arith, once x)),
      )

-- the words of a released block
node_zero : (θ m j : ℕ) → (j ≡ 2 → ⊥) → word (released_node θ m) j ≡ 0
unfolding released_node
node_zero θ m zero h = refl
node_zero θ m (suc zero) h = refl
node_zero θ m (suc (suc zero)) h = absurd (h refl)
node_zero θ m (suc (suc (suc j))) h = get_d_zeros (node_words θ - 3) j

page_zero : (f : Format) (C m j : ℕ) → (j ≡ 1 → ⊥) → word (released_page f C m) j ≡ 0
unfolding released_page
page_zero f C m zero h = refl
page_zero f C m (suc zero) h = absurd (h refl)
page_zero f C m (suc (suc j)) h = get_d_zeros (page_words f C - 2) j

module _ (f : Format) (s : List ℕ) (ok : Sized f s) where
  abbrev h : Head
  h = head_of s

  -- a word of a block
  pub node_at_lem : (x j : ℕ) → 1 ≤ x → x ≤ h.node_blocks → j < node_words h.theta → word s (node_start h x + j) ≡ word (node_of s x) j
  unfolding node_at
  node_at_lem x j low high l =
      sym (part_word s (node_start h x) (node_words h.theta) j (omega (arith, node_end h x low high, nodes_end_lem h f, ok.long)) l)

  pub page_at_lem : (x j : ℕ) → 1 ≤ x → x ≤ h.page_blocks → j < page_words f h.capacity → word s (page_start f h x + j) ≡ word (page_of f s x) j
  unfolding page_at
  page_at_lem x j low high l =
      sym (part_word s (page_start f h x) (page_words f h.capacity) j (omega (arith, page_end h f x low high, ok.long)) l)

  pub node_formed : (x m : ℕ) → 1 ≤ x → x ≤ h.node_blocks → node_of s x ≡ released_node h.theta m → node_form s x ≡ true
  unfolding node_form zeros
  node_formed x m low high e = rw (every_of 2 _ (λ j l. eq-eqb _ 0 (at j (omega (arith, wide)) (λ q. omega arith))), every_of (node_words h.theta - 3) _ (λ j l. eq-eqb _ 0 (at_3 j l)))
    where
      wide : 6 ≤ node_words h.theta
      wide = node_words_low h.theta

      at : (j : ℕ) → j < node_words h.theta → (j ≡ 2 → ⊥) → word s (node_start h x + j) ≡ 0
      at j l ne = node_at_lem x j low high l ∙ ap (λ ws. word ws j) e ∙ node_zero h.theta m j ne

      at_3 : (j : ℕ) → j < node_words h.theta - 3 → word s (node_start h x + 3 + j) ≡ 0
      at_3 j l =
          let q : node_start h x + 3 + j ≡ node_start h x + (3 + j) = omega arith in
          ap (word s) q ∙ at (3 + j) (omega arith) (λ i. omega arith)

  pub page_formed : (x m : ℕ) → 1 ≤ x → x ≤ h.page_blocks → page_of f s x ≡ released_page f h.capacity m → page_form f s x ≡ true
  unfolding page_form zeros
  page_formed x m low high e = rw (every_of 1 _ (λ j l. eq-eqb _ 0 (at j (omega (arith, wide)) (λ q. omega arith))), every_of (page_words f h.capacity - 2) _ (λ j l. eq-eqb _ 0 (at_2 j l)))
    where
      wide : 2 ≤ page_words f h.capacity
      wide = page_words_low f h.capacity (sizes_limits _ _ _ _ ok.sizes).capacity_low

      at : (j : ℕ) → j < page_words f h.capacity → (j ≡ 1 → ⊥) → word s (page_start f h x + j) ≡ 0
      at j l ne = page_at_lem x j low high l ∙ ap (λ ws. word ws j) e ∙ page_zero f h.capacity m j ne

      at_2 : (j : ℕ) → j < page_words f h.capacity - 2 → word s (page_start f h x + 2 + j) ≡ 0
      at_2 j l =
          let q : page_start f h x + 2 + j ≡ page_start f h x + (2 + j) = omega arith in
          ap (word s) q ∙ at (2 + j) (omega arith) (λ i. omega arith)

module _ (f : Format) (s : List ℕ) (b0 : Trie Stretch) (bs : List (Trie ℕ)) (r : Rep f s b0 bs) where
  nodes_form : All (λ y. node_form s y ≡ true) (chain_of (node_next s) (released_of s).nodes (released_of s).node)
  unfolding released_nodes
  nodes_form =
      all_counted (λ y. node_of s y ≡ released_node (head_of s).theta (node_next s y)) (λ y. node_form s y ≡ true)
      (chain_of (node_next s) (released_of s).nodes (released_of s).node)
      (λ y o e.
      let i = released_node_lem f s b0 bs r y o in
      node_formed f s r.sized y (node_next s y) i.0 (omega (arith, i.1, r.nodes_fit)) e)
      r.released_nodes.each

  nodes_once : (x : ℕ) → 0 + count x (chain_of (node_next s) (released_of s).nodes (released_of s).node) ≤ 1
  unfolding released_nodes
  nodes_once x =
      elim (dec_le 1 (count x (chain_of (node_next s) (released_of s).nodes (released_of s).node))) [
        | yes o ↦ let i = released_node_lem f s b0 bs r x o in omega (arith, r.directory.one_for_one.once x i.0 i.1)
        | no o ↦ omega arith
      ]

  pub rep_nodes_ok : (n : ℕ) → nodes_ok s n ≡ true
  unfolding nodes_ok released_nodes
  rep_nodes_ok n =
      chain_passes (node_form s) (node_next s) (head_of s).nodes_taken n (released_of s).nodes (released_of s).node [] r.released_nodes.ends
      (λ x o.
      let i = released_node_lem f s b0 bs r x o in (
        all_at (λ y. node_form s y ≡ true) (chain_of (node_next s) (released_of s).nodes (released_of s).node) x nodes_form o
            (λ y e a. ap (node_form s) e ∙ a),
        i.0,
        i.1,
      ))
      nodes_once

  pages_form : All (λ y. page_form f s y ≡ true) (chain_of (page_next f s) (released_of s).pages (released_of s).page)
  unfolding released_pages
  pages_form =
      all_counted (λ y. page_of f s y ≡ released_page f (head_of s).capacity (page_next f s y)) (λ y. page_form f s y ≡ true)
      (chain_of (page_next f s) (released_of s).pages (released_of s).page)
      (λ y o e.
      let i = released_page_lem f s b0 bs r y o in
      page_formed f s r.sized y (page_next f s y) i.0 (omega (arith, i.1, r.pages_fit)) e)
      r.released_pages.each

  pages_once : (x : ℕ) → 0 + count x (chain_of (page_next f s) (released_of s).pages (released_of s).page) ≤ 1
  unfolding released_pages
  pages_once x =
      elim (dec_le 1 (count x (chain_of (page_next f s) (released_of s).pages (released_of s).page))) [
        | yes o ↦ let i = released_page_lem f s b0 bs r x o in omega (arith, r.pages.one_for_one.once x i.0 i.1)
        | no o ↦ omega arith
      ]

  pub rep_pages_ok : (n : ℕ) → pages_ok f s n ≡ true
  unfolding pages_ok released_pages
  rep_pages_ok n =
      chain_passes (page_form f s) (page_next f s) (head_of s).pages_taken n (released_of s).pages (released_of s).page [] r.released_pages.ends
      (λ x o.
      let i = released_page_lem f s b0 bs r x o in (
        all_at (λ y. page_form f s y ≡ true) (chain_of (page_next f s) (released_of s).pages (released_of s).page) x pages_form o
            (λ y e a. ap (page_form f s) e ∙ a),
        i.0,
        i.1,
      ))
      pages_once
