-- A trie whose labels are numbers from 1 to m, none twice, has at most m leaves: each leaf is counted once in the sum of how often each of
-- 1, .., m occurs. Where each of them occurs once, there are m leaves: so the counts in the head are those of the tree.
--   up_to m g == g 1 + g 2 + .. + g m
use mathlib.Core.Path.{◌≡◌, refl, sym, ap, ap₂, ◌∙◌, subst}
use mathlib.Core.List.{List, [], ◌∷◌, map}
use Prim.Native.Nat.{ℕ, zero, suc, ◌+◌, ◌-◌, ◌≤◌, ◌<◌}
use native.Mathlib.Omega.{arith}
use native.Mathlib.Decide.{ℕ_discrete, dec_le}
use lib.ListN.{length, length-append}
use Rattle.tree.specs.Trie.{Trie, leaf, fork, shape, leaves, labels}
use Rattle.tree.specs.Tower.{all_leaves}
use Rattle.tree.specs.Build.{pages}
use Rattle.store.specs.declared.Format.{Format}
use Rattle.store.specs.declared.Head.{Head}
use Rattle.store.specs.Head.{head_of, released_of, nodes_in_use, pages_in_use}
use Rattle.store.specs.Released.{chain_of, node_next, page_next, released_nodes, released_pages}
use Rattle.represent.specs.Labelled.{Each, ind, occ, occs, count}
use Rattle.represent.specs.Rep.{Stretch, numbers, contents, Lawful, Rep}
use Rattle.represent.proofs.LabelLaws.{label_low, label_high, ind_eq, ind_self, ind_other, each_of}
use Rattle.represent.proofs.Links.{rep_once}

abbrev pub up_to : ℕ → (ℕ → ℕ) → ℕ
up_to zero g = 0
up_to (suc m) g = up_to m g + g (suc m)

pub up_to_add : (m : ℕ) (g h : ℕ → ℕ) → up_to m (λ x. g x + h x) ≡ up_to m g + up_to m h
up_to_add zero g h = omega arith
up_to_add (suc m) g h = omega (arith, up_to_add m g h)

up_to_within : (m : ℕ) (g : ℕ → ℕ) → ((x : ℕ) → g x ≤ 1) → up_to m g ≤ m
up_to_within zero g h = omega arith
up_to_within (suc m) g h = omega (arith, up_to_within m g h, h (suc m))

up_to_none : (m n : ℕ) → m < n → up_to m (λ x. ind x n) ≡ 0
up_to_none zero n h = refl
up_to_none (suc m) n h = omega (arith, up_to_none m n (omega arith), ind_other (suc m) n (λ e. omega arith))

pub up_to_one : (m n : ℕ) → 1 ≤ n → n ≤ m → up_to m (λ x. ind x n) ≡ 1
up_to_one zero n low high = absurd (omega arith)
up_to_one (suc m) n low high =
    elim (ℕ_discrete (suc m) n) [
      | yes e ↦ omega (arith, up_to_none m n (omega arith), ind_eq (suc m) n e)
      | no e ↦ omega (arith, up_to_one m n low (omega arith), ind_other (suc m) n e)
    ]

pub up_to_ones : (m : ℕ) (g : ℕ → ℕ) → ((x : ℕ) → 1 ≤ x → x ≤ m → g x ≡ 1) → up_to m g ≡ m
up_to_ones zero g h = refl
up_to_ones (suc m) g h = omega (arith, up_to_ones m g (λ x low high. h x low (omega arith)), h (suc m) (omega arith) (omega arith))

pub up_to_zero : (m : ℕ) (g : ℕ → ℕ) → ((x : ℕ) → 1 ≤ x → g x ≡ 0) → up_to m g ≡ 0
up_to_zero zero g h = refl
up_to_zero (suc m) g h = omega (arith, up_to_zero m g h, h (suc m) (omega arith))

leaves_shape : {A : Type 0} (t : Trie A) → leaves (shape t) ≡ leaves t
leaves_shape (leaf x) = refl
leaves_shape (fork l r) = ap₂ ◌+◌ (leaves_shape l) (leaves_shape r)

module _ (m : ℕ) where
  counted : (t : Trie ℕ) → Each (λ n. (1 ≤ n) × (n ≤ m)) t → up_to m (λ x. occ x t) ≡ leaves t
  counted (leaf n) h = up_to_one m n h.0 h.1
  counted (fork l r) h = up_to_add m (λ x. occ x l) (λ x. occ x r) ∙ ap₂ ◌+◌ (counted l h.0) (counted r h.1)

  pub levels_counted : (bs : List (Trie ℕ)) → ((n : ℕ) → 1 ≤ occs n bs → (1 ≤ n) × (n ≤ m)) → up_to m (λ x. occs x bs) ≡ all_leaves (map shape bs)
  levels_counted [] h = up_to_zero m (λ x. 0) (λ x low. refl)
  levels_counted (b ∷ bs) h =
      up_to_add m (λ x. occ x b) (λ x. occs x bs)
      ∙ ap₂ ◌+◌ (counted b (each_of _ b (λ n o. h n (omega arith))) ∙ sym (leaves_shape b)) (levels_counted bs (λ n o. h n (omega arith)))

  pub pages_counted : (f : Format) (s : List ℕ) (h : Head) (t : Trie Stretch) → Each (Lawful f s h) t → Each (λ n. n ≤ m) (numbers t)
      → up_to m (λ x. occ x (numbers t)) ≡ pages (contents t)
  pages_counted f s h (leaf (p, [])) l high = up_to_zero m (λ x. ind x p) (λ x low. ind_other x p (λ e. omega (arith, l.page)))
  pages_counted f s h (leaf (p, r ∷ rs)) l high = up_to_one m p l.page.0 high
  pages_counted f s h (fork a b) l high =
      up_to_add m (λ x. occ x (numbers a)) (λ x. occ x (numbers b))
      ∙ ap₂ ◌+◌ (pages_counted f s h a l.0 high.0) (pages_counted f s h b l.1 high.1)

  leaves_within : (t : Trie ℕ) → Each (λ n. (1 ≤ n) × (n ≤ m)) t → ((x : ℕ) → occ x t ≤ 1) → leaves t ≤ m
  leaves_within t h once = omega (arith, sym (counted t h), up_to_within m (λ x. occ x t) once)

pub length_labels : {A : Type 0} (t : Trie A) → length (labels t) ≡ leaves t
length_labels (leaf x) = refl
length_labels (fork l r) = omega (arith, length-append (labels l) (labels r), length_labels l, length_labels r)

-- a level has no more nodes than are taken
pub rep_leaves : (f : Format) (s : List ℕ) (b0 : Trie Stretch) (b : Trie ℕ) (bs : List (Trie ℕ)) → Rep f s b0 (b ∷ bs)
    → leaves b ≤ (head_of s).nodes_taken
rep_leaves f s b0 b bs r =
    leaves_within (head_of s).nodes_taken b
    (each_of _ b (λ n o. (
      label_low (b ∷ bs) n r.directory.positive (omega arith),
      label_high (head_of s).nodes_taken (λ x. occs x (b ∷ bs) + count x (released_nodes s)) n r.directory.one_for_one.none (omega arith),
    )))
    (λ x. omega (arith, rep_once f s b0 (b ∷ bs) r x))

-- numbers of a list
listed : (m : ℕ) (ns : List ℕ) → ((x : ℕ) → 1 ≤ count x ns → (1 ≤ x) × (x ≤ m)) → up_to m (λ x. count x ns) ≡ length ns
listed m [] h = up_to_zero m (λ x. 0) (λ x low. refl)
listed m (n ∷ ns) h =
    let i = h n (omega (arith, ind_self n)) in
    omega (arith, up_to_add m (λ x. ind x n) (λ x. count x ns), up_to_one m n i.0 i.1, listed m ns (λ x o. h x (omega arith)))

pub length_chain : (next : ℕ → ℕ) (n name : ℕ) → length (chain_of next n name) ≡ n
unfolding chain_of
length_chain next zero name = refl
length_chain next (suc n) name = ap suc (length_chain next n (next name))

-- a number of a list in which 0 does not stand
pub listed_low : (ns : List ℕ) (x : ℕ) → count 0 ns ≡ 0 → 1 ≤ count x ns → 1 ≤ x
listed_low ns x z o =
    elim (dec_le 1 x) [
      | yes p ↦ p
      | no p ↦ let e : x ≡ 0 = omega arith in absurd (omega (arith, z, subst (λ y. 1 ≤ count y ns) e o))
    ]

module _ (f : Format) (s : List ℕ) (b0 : Trie Stretch) (bs : List (Trie ℕ)) (r : Rep f s b0 bs) where
  abbrev ns : List ℕ
  ns = released_nodes s

  abbrev ps : List ℕ
  ps = released_pages f s

  many_nodes : length ns ≡ (released_of s).nodes
  unfolding released_nodes
  many_nodes = length_chain (node_next s) (released_of s).nodes (released_of s).node

  many_pages : length ps ≡ (released_of s).pages
  unfolding released_pages
  many_pages = length_chain (page_next f s) (released_of s).pages (released_of s).page

  -- a released block has a taken number
  pub released_node_lem : (x : ℕ) → 1 ≤ count x ns → (1 ≤ x) × (x ≤ (head_of s).nodes_taken)
  released_node_lem x o = (
    listed_low ns x r.directory.spare_positive o,
    label_high (head_of s).nodes_taken (λ x. occs x bs + count x ns) x r.directory.one_for_one.none (omega arith),
  )

  pub released_page_lem : (x : ℕ) → 1 ≤ count x ps → (1 ≤ x) × (x ≤ (head_of s).pages_taken)
  released_page_lem x o = (
    listed_low ps x r.pages.spare_positive o,
    label_high (head_of s).pages_taken (λ x. occ x (numbers b0) + count x ps) x r.pages.one_for_one.none (omega arith),
  )

  -- the taken blocks are the tree's and the released ones
  pub all_nodes : (head_of s).nodes_taken ≡ all_leaves (map shape bs) + (released_of s).nodes
  all_nodes =
      sym (up_to_ones (head_of s).nodes_taken (λ x. occs x bs + count x ns) r.directory.one_for_one.once)
      ∙ up_to_add (head_of s).nodes_taken (λ x. occs x bs) (λ x. count x ns)
      ∙ ap₂ ◌+◌
      (levels_counted (head_of s).nodes_taken bs (λ n o. (
        label_low bs n r.directory.positive o,
        label_high (head_of s).nodes_taken (λ x. occs x bs + count x ns) n r.directory.one_for_one.none (omega arith),
      )))
      (listed (head_of s).nodes_taken ns released_node_lem ∙ many_nodes)

  pub all_pages : (head_of s).pages_taken ≡ pages (contents b0) + (released_of s).pages
  all_pages =
      sym (up_to_ones (head_of s).pages_taken (λ p. occ p (numbers b0) + count p ps) r.pages.one_for_one.once)
      ∙ up_to_add (head_of s).pages_taken (λ p. occ p (numbers b0)) (λ p. count p ps)
      ∙ ap₂ ◌+◌
      (pages_counted (head_of s).pages_taken f s (head_of s) b0 r.pages.each
      (each_of _ (numbers b0)
      (λ p o. label_high (head_of s).pages_taken (λ x. occ x (numbers b0) + count x ps) p r.pages.one_for_one.none (omega arith))))
      (listed (head_of s).pages_taken ps released_page_lem ∙ many_pages)

  pub rep_nodes : nodes_in_use s ≡ all_leaves (map shape bs)
  rep_nodes = omega (arith, all_nodes)

  pub rep_pages : pages_in_use s ≡ pages (contents b0)
  rep_pages = omega (arith, all_pages)
