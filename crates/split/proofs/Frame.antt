-- What a write into a store's words leaves as it was. The blocks lie behind the head and beside one another, so a write of a block, or of
-- words of the head, changes no other block. Each write keeps all words but some in a row (`Elsewhere`), and the sizes in the head come
-- before those.
use mathlib.Core.Path.{◌≡◌, refl, sym, ap, ◌∙◌, subst}
use mathlib.Core.Logic.{◌⊎◌, inl, inr}
use mathlib.Core.List.{List, ◌++◌}
use Prim.Native.Nat.{ℕ, suc, ◌+◌, ◌-◌, ◌*◌, ◌≤◌, ◌<◌}
use native.Mathlib.Decide.{ℕ_discrete}
use native.Mathlib.Omega.{arith}
use lib.Dec.{eqb}
use lib.ListN.{length, take, drop, set, length-set, length-take, get_or-append}
use lib.Seq.{get_or-take, get_or-set_same, get_or-set_other}
use borrow.Author.Tests.{eq-eqb, ne_eqb}
use Rattle.lists.specs.Lists.{replaced}
use Rattle.lists.proofs.Parts.{part_replaced}
use Rattle.lists.proofs.Elsewhere.{Elsewhere, elsewhere_replaced, elsewhere_set, part_beside, drop_beside}
use Rattle.lists.proofs.Tests.{every_ext}
use Rattle.store.specs.declared.Format.{Format}
use Rattle.store.specs.declared.Head.{Head}
use Rattle.store.specs.Released.{node_next, page_next, next_node, node_taken, next_page, page_taken}
use Rattle.store.proofs.HeadLaws.{sizes_limits}
use Rattle.store.specs.Head.{word, zeros, head_of, released_of, node_words, page_words, node_start, page_start, page_at, node_at}
use Rattle.represent.specs.Rep.{size_of, Sized}
use Rattle.split.specs.Frame.{node_of, page_of, put_node, put_page, put_head}
use Rattle.split.specs.Insertion.{SameSizes}
use Rattle.store.proofs.Places.{part_word, node_words_low, page_words_low}
use Rattle.store.proofs.Places.{node_start_lem, node_end, nodes_apart, nodes_end_lem, page_start_lem, page_end, pages_apart}

-- all that a store's layout goes by are its sizes
pub node_layout : (s : List ℕ) (h h' : Head) (n : ℕ) → SameSizes h h' → node_at s h' n ≡ node_at s h n
unfolding node_at node_start
node_layout s h h' n k = rw k.theta

pub page_layout : (f : Format) (s : List ℕ) (h h' : Head) (p : ℕ) → SameSizes h h' → page_at f s h' p ≡ page_at f s h p
unfolding page_at page_start
page_layout f s h h' p k = rw (k.theta, k.capacity, k.nodes)

-- a write behind the head leaves the head, wherever it ends
head_before : (a n : ℕ) (ys s : List ℕ) → 8 ≤ a → 8 ≤ length s → head_of (replaced a n ys s) ≡ head_of s
unfolding head_of replaced
head_before a n ys s p q =
    rw (
      at 0 (omega arith),
      at 1 (omega arith),
      at 2 (omega arith),
      at 3 (omega arith),
      at 4 (omega arith),
      at 5 (omega arith),
      at 6 (omega arith),
      at 7 (omega arith),
    )
  where
    at : (j : ℕ) → j < 8 → word (take a s ++ (ys ++ drop (a + n) s)) j ≡ word s j
    at j h = get_or-append (take a s) (ys ++ drop (a + n) s) 0 j (omega (arith, length-take a s)) ∙ get_or-take a s j 0 (omega arith)

pub put_node_head : (s : List ℕ) (n : ℕ) (ws : List ℕ) → 8 ≤ length s → head_of (put_node s n ws) ≡ head_of s
unfolding put_node
put_node_head s n ws = head_before (node_start (head_of s) n) (node_words (head_of s).theta) ws s (omega (arith, node_start_lem (head_of s) n))

pub put_page_head : (f : Format) (s : List ℕ) (p : ℕ) (ws : List ℕ) → 8 ≤ length s → head_of (put_page f s p ws) ≡ head_of s
unfolding put_page
put_page_head f s p ws =
    head_before (page_start f (head_of s) p) (page_words f (head_of s).capacity) ws s (omega (arith, page_start_lem (head_of s) f p))

pub sized_long : (f : Format) (s : List ℕ) → Sized f s → 16 ≤ length s
sized_long f s ok = omega (arith, nodes_end_lem (head_of s) f, ok.long)

-- a write of n words from number a on, behind the sizes
module _ {a n : ℕ} {s t : List ℕ} (e : Elsewhere 0 a n s t) where
  pub sizes_kept : 4 ≤ a → SameSizes (head_of s) (head_of t)
  unfolding head_of
  sizes_kept h =
      record {
        theta = e.below 0 (omega arith);
        capacity = e.below 1 (omega arith);
        nodes = e.below 2 (omega arith);
        pages = e.below 3 (omega arith);
      }

  spare_kept : (a + n ≤ 12) ⊎ (16 ≤ a) → zeros t 12 4 ≡ zeros s 12 4
  unfolding zeros
  spare_kept d = every_ext 4 (λ j. eqb (word t (12 + j)) 0) (λ j. eqb (word s (12 + j)) 0) (λ j l. ap (λ (w : ℕ). eqb w 0) (at j l d))
    where
      at : (j : ℕ) → j < 4 → (a + n ≤ 12) ⊎ (16 ≤ a) → word t (12 + j) ≡ word s (12 + j)
      at j l (inl b) = e.above (12 + j) (omega arith)
      at j l (inr b) = e.below (12 + j) (omega arith)

  released_kept : (a + n ≤ 8) ⊎ (12 ≤ a) → released_of t ≡ released_of s
  unfolding released_of
  released_kept d = rw (at 8 (omega arith) (omega arith) d, at 9 (omega arith) (omega arith) d, at 10 (omega arith) (omega arith) d, at 11 (omega arith) (omega arith) d)
    where
      at : (j : ℕ) → 8 ≤ j → j < 12 → (a + n ≤ 8) ⊎ (12 ≤ a) → word t j ≡ word s j
      at j l h (inl b) = e.above j (omega arith)
      at j l h (inr b) = e.below j (omega arith)

  pub node_kept : 4 ≤ a → (x : ℕ)
      → (node_start (head_of s) x + node_words (head_of s).theta ≤ a) ⊎ (a + n ≤ node_start (head_of s) x) → node_of t x ≡ node_of s x
  unfolding node_at
  node_kept h x d =
      node_layout t (head_of s) (head_of t) x (sizes_kept h) ∙ part_beside 0 e (node_start (head_of s) x) (node_words (head_of s).theta) d

  pub page_kept : 4 ≤ a → (f : Format) (p : ℕ)
      → (page_start f (head_of s) p + page_words f (head_of s).capacity ≤ a) ⊎ (a + n ≤ page_start f (head_of s) p) → page_of f t p ≡ page_of f s p
  unfolding page_at
  page_kept h f p d =
      page_layout f t (head_of s) (head_of t) p (sizes_kept h)
      ∙ part_beside 0 e (page_start f (head_of s) p) (page_words f (head_of s).capacity) d

  sized_kept : 4 ≤ a → (a + n ≤ 12) ⊎ (16 ≤ a) → (f : Format) → Sized f s → Sized f t
  sized_kept h d f ok =
      let k = sizes_kept h in
      record {
        sizes = rw (k.theta, k.capacity, k.nodes, k.pages) ok.sizes;
        spare = spare_kept d ∙ ok.spare;
        long = rw (k.theta, k.capacity, k.nodes, k.pages, e.long) ok.long;
      }

module _ (f : Format) (s : List ℕ) (n : ℕ) (ws : List ℕ) (ok : Sized f s) (low : 1 ≤ n) (high : n ≤ (head_of s).node_blocks)
    (same : length ws ≡ node_words (head_of s).theta) where
  node_fits : node_start (head_of s) n + node_words (head_of s).theta ≤ length s
  node_fits = omega (arith, node_end (head_of s) n low high, nodes_end_lem (head_of s) f, ok.long)

  node_write : Elsewhere 0 (node_start (head_of s) n) (node_words (head_of s).theta) s (put_node s n ws)
  unfolding put_node
  node_write = elsewhere_replaced 0 (node_start (head_of s) n) (node_words (head_of s).theta) ws s node_fits same

  behind : 16 ≤ node_start (head_of s) n
  behind = node_start_lem (head_of s) n

  pub put_node_sized : Sized f (put_node s n ws)
  put_node_sized = sized_kept node_write (omega (arith, behind)) (inr behind) f ok

  pub put_node_released : released_of (put_node s n ws) ≡ released_of s
  put_node_released = released_kept node_write (inr (omega (arith, behind)))

  pub put_node_same : node_of (put_node s n ws) n ≡ ws
  unfolding node_at put_node
  put_node_same =
      ap (λ (h : Head). node_at (put_node s n ws) h n) (put_node_head s n ws (omega (arith, sized_long f s ok)))
      ∙ part_replaced (node_start (head_of s) n) (node_words (head_of s).theta) ws s node_fits same

  pub put_node_other : (x : ℕ) → 1 ≤ x → (x ≡ n → ⊥) → node_of (put_node s n ws) x ≡ node_of s x
  put_node_other x p ne = node_kept node_write (omega (arith, behind)) x (nodes_apart (head_of s) x n p low ne)

  -- all words behind the node blocks
  pub put_node_drop : (m : ℕ) → 16 + (head_of s).node_blocks * node_words (head_of s).theta ≤ m → drop m (put_node s n ws) ≡ drop m s
  put_node_drop m h = drop_beside 0 node_write m (omega (arith, node_end (head_of s) n low high))

module _ (f : Format) (s : List ℕ) (p : ℕ) (ws : List ℕ) (ok : Sized f s) (low : 1 ≤ p) (high : p ≤ (head_of s).page_blocks)
    (same : length ws ≡ page_words f (head_of s).capacity) where
  page_fits : page_start f (head_of s) p + page_words f (head_of s).capacity ≤ length s
  page_fits = omega (arith, page_end (head_of s) f p low high, ok.long)

  page_write : Elsewhere 0 (page_start f (head_of s) p) (page_words f (head_of s).capacity) s (put_page f s p ws)
  unfolding put_page
  page_write = elsewhere_replaced 0 (page_start f (head_of s) p) (page_words f (head_of s).capacity) ws s page_fits same

  behind_nodes : 16 + (head_of s).node_blocks * node_words (head_of s).theta ≤ page_start f (head_of s) p
  behind_nodes = page_start_lem (head_of s) f p

  pub put_page_sized : Sized f (put_page f s p ws)
  put_page_sized = sized_kept page_write (omega (arith, behind_nodes)) (inr (omega (arith, behind_nodes))) f ok

  pub put_page_released : released_of (put_page f s p ws) ≡ released_of s
  put_page_released = released_kept page_write (inr (omega (arith, behind_nodes)))

  pub put_page_same : page_of f (put_page f s p ws) p ≡ ws
  unfolding page_at put_page
  put_page_same =
      ap (λ (h : Head). page_at f (put_page f s p ws) h p) (put_page_head f s p ws (omega (arith, sized_long f s ok)))
      ∙ part_replaced (page_start f (head_of s) p) (page_words f (head_of s).capacity) ws s page_fits same

  pub put_page_other : (x : ℕ) → 1 ≤ x → (x ≡ p → ⊥) → page_of f (put_page f s p ws) x ≡ page_of f s x
  put_page_other x q ne = page_kept page_write (omega (arith, behind_nodes)) f x (pages_apart (head_of s) f x p q low ne)

  pub put_page_nodes : (x : ℕ) → 1 ≤ x → x ≤ (head_of s).node_blocks → node_of (put_page f s p ws) x ≡ node_of s x
  put_page_nodes x q l = node_kept page_write (omega (arith, behind_nodes)) x (inl (omega (arith, node_end (head_of s) x q l, behind_nodes)))

  pub put_page_beyond : drop (size_of f s) (put_page f s p ws) ≡ drop (size_of f s) s
  put_page_beyond = drop_beside 0 page_write (size_of f s) (page_end (head_of s) f p low high)

-- words of the head
untouched : (a n : ℕ) (s : List ℕ) → Elsewhere 0 a n s s
untouched a n s = record { long = refl; below = λ j h. refl; above = λ j h. refl }

module _ (s : List ℕ) (root levels : ℕ) where
  head_write : Elsewhere 0 6 2 s (put_head s root levels)
  unfolding put_head
  head_write =
      elsewhere_set 0 6 2 7 levels s (set s 6 root) (omega arith) (omega arith)
      (elsewhere_set 0 6 2 6 root s s (omega arith) (omega arith) (untouched 6 2 s))

  pub put_head_sizes : SameSizes (head_of s) (head_of (put_head s root levels))
  put_head_sizes = sizes_kept head_write (omega arith)

  pub put_head_taken : (head_of (put_head s root levels)).nodes_taken ≡ (head_of s).nodes_taken
  unfolding head_of
  put_head_taken = head_write.below 4 (omega arith)

  pub put_head_pages_taken : (head_of (put_head s root levels)).pages_taken ≡ (head_of s).pages_taken
  unfolding head_of
  put_head_pages_taken = head_write.below 5 (omega arith)

  pub put_head_released : released_of (put_head s root levels) ≡ released_of s
  put_head_released = released_kept head_write (inl (omega arith))

  pub put_head_root : 8 ≤ length s → (head_of (put_head s root levels)).root ≡ root
  unfolding head_of put_head
  put_head_root h = get_or-set_other (set s 6 root) 7 6 levels 0 (λ e. omega arith) ∙ get_or-set_same s 6 root 0 (omega arith)

  pub put_head_levels : 8 ≤ length s → (head_of (put_head s root levels)).levels ≡ levels
  unfolding head_of put_head
  put_head_levels h = get_or-set_same (set s 6 root) 7 levels 0 (omega (arith, length-set s 6 root))

  pub put_head_sized : (f : Format) → Sized f s → Sized f (put_head s root levels)
  put_head_sized = sized_kept head_write (omega arith) (inl (omega arith))

  pub put_head_nodes : (x : ℕ) → node_of (put_head s root levels) x ≡ node_of s x
  put_head_nodes x = node_kept head_write (omega arith) x (inr (omega (arith, node_start_lem (head_of s) x)))

  pub put_head_drop : (m : ℕ) → 8 ≤ m → drop m (put_head s root levels) ≡ drop m s
  put_head_drop m h = drop_beside 0 head_write m (omega arith)

-- a node block taken: no node is released, or one is
module _ (s : List ℕ) where
  abbrev none_left : List ℕ
  none_left = set s 4 (suc (head_of s).nodes_taken)

  abbrev some_left : List ℕ
  some_left = set (set s 8 (node_next s (released_of s).node)) 10 ((released_of s).nodes - 1)

  pub taken_none : (released_of s).nodes ≡ 0 → (node_taken s ≡ none_left) × (next_node s ≡ suc (head_of s).nodes_taken)
  unfolding node_taken next_node
  taken_none z = (rw (eq-eqb (released_of s).nodes 0 z, node_taken), rw (eq-eqb (released_of s).nodes 0 z, next_node))

  pub taken_some : ((released_of s).nodes ≡ 0 → ⊥) → (node_taken s ≡ some_left) × (next_node s ≡ (released_of s).node)
  unfolding node_taken next_node
  taken_some z = (rw (ne_eqb (released_of s).nodes 0 z, node_taken), rw (ne_eqb (released_of s).nodes 0 z, next_node))

  node_take_write : Elsewhere 0 4 7 s (node_taken s)
  node_take_write =
      elim (ℕ_discrete (released_of s).nodes 0) [
        | yes z ↦ subst (Elsewhere 0 4 7 s) (sym (taken_none z).0)
            (elsewhere_set 0 4 7 4 _ s s (omega arith) (omega arith) (untouched 4 7 s))
        | no z ↦ subst (Elsewhere 0 4 7 s) (sym (taken_some z).0)
            (elsewhere_set 0 4 7 10 _ s (set s 8 (node_next s (released_of s).node)) (omega arith) (omega arith)
            (elsewhere_set 0 4 7 8 _ s s (omega arith) (omega arith) (untouched 4 7 s)))
      ]

  -- a word that it does not write
  node_take_word : (j : ℕ) → (j ≡ 4 → ⊥) → (j ≡ 8 → ⊥) → (j ≡ 10 → ⊥) → word (node_taken s) j ≡ word s j
  node_take_word j a b c =
      elim (ℕ_discrete (released_of s).nodes 0) [
        | yes z ↦ ap (λ t. word t j) (taken_none z).0 ∙ get_or-set_other s 4 j _ 0 a
        | no z ↦
            ap (λ t. word t j) (taken_some z).0 ∙ get_or-set_other (set s 8 (node_next s (released_of s).node)) 10 j _ 0 c
            ∙ get_or-set_other s 8 j _ 0 b
      ]

  pub node_taken_sizes : SameSizes (head_of s) (head_of (node_taken s))
  node_taken_sizes = sizes_kept node_take_write (omega arith)

  pub node_taken_pages_taken : (head_of (node_taken s)).pages_taken ≡ (head_of s).pages_taken
  unfolding head_of
  node_taken_pages_taken = node_take_word 5 (λ e. omega arith) (λ e. omega arith) (λ e. omega arith)

  pub node_taken_root : (head_of (node_taken s)).root ≡ (head_of s).root
  unfolding head_of
  node_taken_root = node_take_word 6 (λ e. omega arith) (λ e. omega arith) (λ e. omega arith)

  pub node_taken_levels : (head_of (node_taken s)).levels ≡ (head_of s).levels
  unfolding head_of
  node_taken_levels = node_take_word 7 (λ e. omega arith) (λ e. omega arith) (λ e. omega arith)

  pub node_taken_page : (released_of (node_taken s)).page ≡ (released_of s).page
  unfolding released_of
  node_taken_page = node_take_word 9 (λ e. omega arith) (λ e. omega arith) (λ e. omega arith)

  pub node_taken_pages : (released_of (node_taken s)).pages ≡ (released_of s).pages
  unfolding released_of
  node_taken_pages = node_take_word 11 (λ e. omega arith) (λ e. omega arith) (λ e. omega arith)

  pub node_taken_sized : (f : Format) → Sized f s → Sized f (node_taken s)
  node_taken_sized = sized_kept node_take_write (omega arith) (inl (omega arith))

  pub node_taken_nodes : (x : ℕ) → node_of (node_taken s) x ≡ node_of s x
  node_taken_nodes x = node_kept node_take_write (omega arith) x (inr (omega (arith, node_start_lem (head_of s) x)))

  pub node_taken_drop : (m : ℕ) → 16 ≤ m → drop m (node_taken s) ≡ drop m s
  node_taken_drop m h = drop_beside 0 node_take_write m (omega arith)

  -- the counts after it
  module _ (long : 16 ≤ length s) where
    pub none_counts : (released_of s).nodes ≡ 0
        → ((head_of (node_taken s)).nodes_taken ≡ suc (head_of s).nodes_taken) × (released_of (node_taken s) ≡ released_of s)
    unfolding head_of
    none_counts z = (
      ap (λ t. word t 4) (taken_none z).0 ∙ get_or-set_same s 4 _ 0 (omega arith),
      ap released_of (taken_none z).0 ∙ released_kept (elsewhere_set 0 4 1 4 _ s s (omega arith) (omega arith) (untouched 4 1 s)) (inl (omega arith)),
    )

    pub some_counts : ((released_of s).nodes ≡ 0 → ⊥)
        → ((head_of (node_taken s)).nodes_taken ≡ (head_of s).nodes_taken) × ((released_of (node_taken s)).nodes ≡ (released_of s).nodes - 1)
        × ((released_of (node_taken s)).node ≡ node_next s (released_of s).node)
    unfolding head_of released_of
    some_counts z = (
      ap (λ t. word t 4) (taken_some z).0 ∙ get_or-set_other (set s 8 _) 10 4 _ 0 (λ e. omega arith) ∙ get_or-set_other s 8 4 _ 0 (λ e. omega arith),
      ap (λ t. word t 10) (taken_some z).0 ∙ get_or-set_same (set s 8 _) 10 _ 0 (omega (arith, length-set s 8 (node_next s (released_of s).node))),
      ap (λ t. word t 8) (taken_some z).0 ∙ get_or-set_other (set s 8 _) 10 8 _ 0 (λ e. omega arith) ∙ get_or-set_same s 8 _ 0 (omega arith),
    )

-- a page block taken
module _ (f : Format) (s : List ℕ) where
  abbrev no_page_left : List ℕ
  no_page_left = set s 5 (suc (head_of s).pages_taken)

  abbrev page_left : List ℕ
  page_left = set (set s 9 (page_next f s (released_of s).page)) 11 ((released_of s).pages - 1)

  pub page_none : (released_of s).pages ≡ 0 → (page_taken f s ≡ no_page_left) × (next_page s ≡ suc (head_of s).pages_taken)
  unfolding page_taken next_page
  page_none z = (rw (eq-eqb (released_of s).pages 0 z, page_taken), rw (eq-eqb (released_of s).pages 0 z, next_page))

  pub page_some : ((released_of s).pages ≡ 0 → ⊥) → (page_taken f s ≡ page_left) × (next_page s ≡ (released_of s).page)
  unfolding page_taken next_page
  page_some z = (rw (ne_eqb (released_of s).pages 0 z, page_taken), rw (ne_eqb (released_of s).pages 0 z, next_page))

  page_take_write : Elsewhere 0 5 7 s (page_taken f s)
  page_take_write =
      elim (ℕ_discrete (released_of s).pages 0) [
        | yes z ↦ subst (Elsewhere 0 5 7 s) (sym (page_none z).0)
            (elsewhere_set 0 5 7 5 _ s s (omega arith) (omega arith) (untouched 5 7 s))
        | no z ↦ subst (Elsewhere 0 5 7 s) (sym (page_some z).0)
            (elsewhere_set 0 5 7 11 _ s (set s 9 (page_next f s (released_of s).page)) (omega arith) (omega arith)
            (elsewhere_set 0 5 7 9 _ s s (omega arith) (omega arith) (untouched 5 7 s)))
      ]

  page_take_word : (j : ℕ) → (j ≡ 5 → ⊥) → (j ≡ 9 → ⊥) → (j ≡ 11 → ⊥) → word (page_taken f s) j ≡ word s j
  page_take_word j a b c =
      elim (ℕ_discrete (released_of s).pages 0) [
        | yes z ↦ ap (λ t. word t j) (page_none z).0 ∙ get_or-set_other s 5 j _ 0 a
        | no z ↦
            ap (λ t. word t j) (page_some z).0 ∙ get_or-set_other (set s 9 (page_next f s (released_of s).page)) 11 j _ 0 c
            ∙ get_or-set_other s 9 j _ 0 b
      ]

  pub page_taken_sizes : SameSizes (head_of s) (head_of (page_taken f s))
  page_taken_sizes = sizes_kept page_take_write (omega arith)

  pub page_taken_taken : (head_of (page_taken f s)).nodes_taken ≡ (head_of s).nodes_taken
  unfolding head_of
  page_taken_taken = page_take_word 4 (λ e. omega arith) (λ e. omega arith) (λ e. omega arith)

  pub page_taken_root : (head_of (page_taken f s)).root ≡ (head_of s).root
  unfolding head_of
  page_taken_root = page_take_word 6 (λ e. omega arith) (λ e. omega arith) (λ e. omega arith)

  pub page_taken_levels : (head_of (page_taken f s)).levels ≡ (head_of s).levels
  unfolding head_of
  page_taken_levels = page_take_word 7 (λ e. omega arith) (λ e. omega arith) (λ e. omega arith)

  pub page_taken_node : (released_of (page_taken f s)).node ≡ (released_of s).node
  unfolding released_of
  page_taken_node = page_take_word 8 (λ e. omega arith) (λ e. omega arith) (λ e. omega arith)

  pub page_taken_many : (released_of (page_taken f s)).nodes ≡ (released_of s).nodes
  unfolding released_of
  page_taken_many = page_take_word 10 (λ e. omega arith) (λ e. omega arith) (λ e. omega arith)

  pub page_taken_sized : Sized f s → Sized f (page_taken f s)
  page_taken_sized = sized_kept page_take_write (omega arith) (inl (omega arith)) f

  pub page_taken_nodes : (x : ℕ) → node_of (page_taken f s) x ≡ node_of s x
  page_taken_nodes x = node_kept page_take_write (omega arith) x (inr (omega (arith, node_start_lem (head_of s) x)))

  pub page_taken_pages : (p : ℕ) → page_of f (page_taken f s) p ≡ page_of f s p
  page_taken_pages p = page_kept page_take_write (omega arith) f p (inr (omega (arith, page_start_lem (head_of s) f p)))

  pub page_taken_beyond : drop (size_of f s) (page_taken f s) ≡ drop (size_of f s) s
  page_taken_beyond = drop_beside 0 page_take_write (size_of f s) (omega (arith, nodes_end_lem (head_of s) f))

  module _ (long : 16 ≤ length s) where
    pub no_page_counts : (released_of s).pages ≡ 0
        → ((head_of (page_taken f s)).pages_taken ≡ suc (head_of s).pages_taken) × (released_of (page_taken f s) ≡ released_of s)
    unfolding head_of
    no_page_counts z = (
      ap (λ t. word t 5) (page_none z).0 ∙ get_or-set_same s 5 _ 0 (omega arith),
      ap released_of (page_none z).0 ∙ released_kept (elsewhere_set 0 5 1 5 _ s s (omega arith) (omega arith) (untouched 5 1 s)) (inl (omega arith)),
    )

    pub page_counts : ((released_of s).pages ≡ 0 → ⊥)
        → ((head_of (page_taken f s)).pages_taken ≡ (head_of s).pages_taken) × ((released_of (page_taken f s)).pages ≡ (released_of s).pages - 1)
        × ((released_of (page_taken f s)).page ≡ page_next f s (released_of s).page)
    unfolding head_of released_of
    page_counts z = (
      ap (λ t. word t 5) (page_some z).0 ∙ get_or-set_other (set s 9 _) 11 5 _ 0 (λ e. omega arith) ∙ get_or-set_other s 9 5 _ 0 (λ e. omega arith),
      ap (λ t. word t 11) (page_some z).0 ∙ get_or-set_same (set s 9 _) 11 _ 0 (omega (arith, length-set s 9 (page_next f s (released_of s).page))),
      ap (λ t. word t 9) (page_some z).0 ∙ get_or-set_other (set s 9 _) 11 9 _ 0 (λ e. omega arith) ∙ get_or-set_same s 9 _ 0 (omega arith),
    )

-- the next one of a block, read in it
module _ (f : Format) (s : List ℕ) (ok : Sized f s) where
  pub next_node_lem : (x : ℕ) → 1 ≤ x → x ≤ (head_of s).node_blocks → node_next s x ≡ word (node_of s x) 2
  unfolding node_at
  next_node_lem x low high =
      sym
      (part_word s (node_start (head_of s) x) (node_words (head_of s).theta) 2
      (omega (arith, node_end (head_of s) x low high, nodes_end_lem (head_of s) f, ok.long)) (omega (arith, node_words_low (head_of s).theta)))

  pub next_page_lem : (p : ℕ) → 1 ≤ p → p ≤ (head_of s).page_blocks → page_next f s p ≡ word (page_of f s p) 1
  unfolding page_at
  next_page_lem p low high =
      sym
      (part_word s (page_start f (head_of s) p) (page_words f (head_of s).capacity) 1 (omega (arith, page_end (head_of s) f p low high, ok.long))
      (omega (arith, page_words_low f (head_of s).capacity (sizes_limits _ _ _ _ ok.sizes).capacity_low)))
