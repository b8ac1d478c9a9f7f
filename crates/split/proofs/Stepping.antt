-- The steps of an insertion keep a represented store. What is written into pages leaves the node blocks, and what is written into nodes
-- leaves the pages; so the two sides of a represented store are shown one after the other: the pages after the page step, the directory
-- after the round.
--   NodesKept f s s'   == s' is s with other pages, in which nothing of the nodes has changed
--   PageStep f s s' b0 == and its pages are those of b0
use mathlib.Core.Path.{◌≡◌, refl, sym, ap, ap₂, ◌∙◌, subst}
use mathlib.Core.Bool.{false, true}
use mathlib.Core.List.{List, [], ◌∷◌, ◌++◌}
use Prim.Native.Nat.{ℕ, ◌+◌, ◌-◌, ◌^◌, ◌≤◌, ◌<◌}
use native.Mathlib.Omega.{arith}
use lib.ListN.{length, drop, replicate}
use Rattle.lists.specs.Bits.{bits}
use Rattle.tree.specs.Trie.{Trie, leaf, Key, depth, graft, pair}
use Rattle.tree.specs.Carry.{locals, bump_cost}
use Rattle.tree.proofs.TrieLaws.{graft_leaf_at}
use Rattle.store.specs.declared.Format.{Format}
use Rattle.store.specs.declared.Item.{Item}
use Rattle.store.specs.declared.Released.{Released}
use Rattle.store.specs.Format.{width}
use Rattle.store.specs.Head.{head_of, released_of, nodes_left, pages_left, node_words, page_words}
use Rattle.store.specs.Released.{released_node, node_next, page_next, up_from, released_nodes, released_pages, nodes_to_come, pages_to_come}
use Rattle.store.specs.Released.{next_page, page_taken}
use Rattle.store.proofs.HeadLaws.{sizes_limits}
use Rattle.represent.specs.Labelled.{occs, count}
use Rattle.represent.specs.Image.{page_image}
use Rattle.represent.specs.Rep.{Stretch, numbers, Directory, Pages, Rep, Sized}
use Rattle.split.specs.Supply.{Supplied}
use Rattle.split.specs.Round.{NodeOps, StoreOps, Rounded, path_of, round, carried}
use Rattle.split.specs.Frame.{node_of, page_of}
use Rattle.split.specs.Insertion.{SameSizes, Ok, word_store, stretch_at, left_at, prefix_at, half_at, replaced_at, Fit, put_items}
use Rattle.split.specs.Insertion.{Stepped, Turned, Roomy, UpperKeeps, LowerKeeps, BothKeep, PutKeeps, TakeKeeps}
use Rattle.represent.proofs.LabelLaws.{label_low, label_high, leaf_at_relabel, relabel_graft}
use Rattle.represent.proofs.Chain.{count_append}
use Rattle.represent.proofs.Counting.{released_node_lem, released_page_lem}
use Rattle.split.proofs.Level.{moved_links, nodes_frame, links_frame}
use Rattle.split.proofs.SupplyLaws.{up_from_low, length_come, one_wide, one_narrow}
use Rattle.split.proofs.Frame.{put_page_nodes, put_page_beyond, page_taken_sizes, page_taken_sized, page_taken_beyond, page_taken_root}
use Rattle.split.proofs.Frame.{page_taken_levels, page_taken_taken, page_taken_node, page_taken_many, page_taken_nodes}
use Rattle.split.proofs.WordStore.{others_sizes, others_pages_taken, others_page, others_many, others_pages, others_beyond}
use Rattle.split.proofs.WordStore.{free_same, ok_same, store_laws}
use Rattle.split.proofs.PageSupply.{PageSupply, released_same, supply_same}
use Rattle.split.proofs.PageLaws.{number_high, half_fits, own_low, own_off, put_head_lem, put_length, put_sized, put_released, put_supply}
use Rattle.split.proofs.PageLaws.{take_supply, m_low, m_high, m_gone, pages_frame, pages_upper, pages_lower, pages_both, both_supply}
use Rattle.split.proofs.PageLaws.{pages_put, pages_take}
use Rattle.split.proofs.RoundLaws.{round_carries, aim_keeps}
use Rattle.split.proofs.Kept.{Kept, same_head_lem, same_then, size_same, kept_none, kept_then}

-- a directory goes by the node blocks in use alone
directory_frame : (θ : ℕ) (node node' : ℕ → List ℕ) (root root' levels levels' cap cap' : ℕ) (ns ns' : List ℕ) (u : Trie ℕ)
    (bs : List (Trie ℕ)) → root' ≡ root → levels' ≡ levels → cap' ≡ cap → ns' ≡ ns
    → ((n : ℕ) → 1 ≤ n → n ≤ cap → node' n ≡ node n)
    → Directory θ node root levels cap (λ n. count n ns) u bs → Directory θ node' root' levels' cap' (λ n. count n ns') u bs
directory_frame θ node node' root root' levels levels' cap cap' ns ns' u [] r l c q e d = absurd d.links
directory_frame θ node node' root root' levels levels' cap cap' ns ns' u (b ∷ bs) r l c q e d =
    record {
      nodes = nodes_frame θ node node' root root' levels levels' 0 u (b ∷ bs) r l same d.nodes;
      links = links_frame θ node node' b bs (λ n o. moved_links θ node node' n (same n o)) d.links;
      one_for_one = rw (c, q) d.one_for_one;
      positive = d.positive;
      spare_positive = rw q d.spare_positive;
      levels_are = d.levels_are;
    }
  where
    same : (n : ℕ) → 1 ≤ occs n (b ∷ bs) → node' n ≡ node n
    same n o =
        e n (label_low (b ∷ bs) n d.positive o)
        (label_high cap (λ x. occs x (b ∷ bs) + count x ns) n d.one_for_one.none (omega arith))

-- with the unused blocks among the spare ones, or without
module _ (θ : ℕ) (node : ℕ → List ℕ) (root levels taken cap : ℕ) (ns : List ℕ) (u : Trie ℕ) (bs : List (Trie ℕ)) (fits : taken ≤ cap) where
  abbrev ms : List ℕ
  ms = up_from (cap - taken) taken

  directory_wide : Directory θ node root levels taken (λ n. count n ns) u bs
      → Directory θ node root levels cap (λ n. count n (ns ++ ms)) u bs
  directory_wide d =
      record {
        nodes = d.nodes;
        links = d.links;
        one_for_one = one_wide (λ n. occs n bs) ns taken cap fits d.one_for_one;
        positive = d.positive;
        spare_positive = omega (arith, count_append 0 ns ms, d.spare_positive, up_from_low (cap - taken) taken 0 (omega arith));
        levels_are = d.levels_are;
      }

  directory_narrow : Directory θ node root levels cap (λ n. count n (ns ++ ms)) u bs
      → Directory θ node root levels taken (λ n. count n ns) u bs
  directory_narrow d =
      record {
        nodes = d.nodes;
        links = d.links;
        one_for_one = one_narrow (λ n. occs n bs) ns taken cap fits d.one_for_one;
        positive = d.positive;
        spare_positive = omega (arith, count_append 0 ns ms, d.spare_positive);
        levels_are = d.levels_are;
      }

-- the blocks of a represented store that may be taken
module _ (f : Format) (s : List ℕ) (b0 : Trie Stretch) (bs : List (Trie ℕ)) (r : Rep f s b0 bs) where
  pub rep_ok : Ok f (head_of s).theta s
  unfolding released_nodes
  rep_ok =
      record {
        theta = refl;
        sized = r.sized;
        supplied = record {
          fits = r.nodes_fit;
          inside = λ x o. let i = released_node_lem f s b0 bs r x o in (i.0, omega (arith, i.1, r.nodes_fit));
          chained = r.released_nodes;
          unused = r.free_nodes;
        };
      }

  pub rep_supply : PageSupply f s
  unfolding released_pages
  rep_supply =
      record {
        fits = r.pages_fit;
        inside = λ x o. let i = released_page_lem f s b0 bs r x o in (i.0, omega (arith, i.1, r.pages_fit));
        chained = r.released_pages;
        unused = r.free_pages;
      }

  -- how many they are
  pub rep_nodes_left : length (nodes_to_come s) ≡ nodes_left s
  unfolding nodes_to_come released_nodes
  rep_nodes_left = length_come (node_next s) (released_of s).nodes (released_of s).node (head_of s).nodes_taken (head_of s).node_blocks

  pub rep_pages_left : length (pages_to_come f s) ≡ pages_left s
  unfolding pages_to_come released_pages
  rep_pages_left = length_come (page_next f s) (released_of s).pages (released_of s).page (head_of s).pages_taken (head_of s).page_blocks

record NodesKept (f : Format) (s s' : List ℕ) : Type 0 where
  whole : Kept f s s'
  root_same : (head_of s').root ≡ (head_of s).root
  levels_same : (head_of s').levels ≡ (head_of s).levels
  taken_same : (head_of s').nodes_taken ≡ (head_of s).nodes_taken
  name_same : (released_of s').node ≡ (released_of s).node
  many_same : (released_of s').nodes ≡ (released_of s).nodes
  nodes_same : (n : ℕ) → 1 ≤ n → n ≤ (head_of s).node_blocks → node_of s' n ≡ node_of s n

record PageStep (f : Format) (s s' : List ℕ) (b0 : Trie Stretch) : Type 0 where
  kept : NodesKept f s s'
  pages : Pages f s' (head_of s') b0
  supply : PageSupply f s'

module _ (f : Format) (s : List ℕ) (b0 b0' : Trie Stretch) (bs : List (Trie ℕ)) (r : Rep f s b0 bs) (s₁ : List ℕ)
    (p : PageStep f s s₁ b0') where
  abbrev θ : ℕ
  θ = (head_of s).theta

  step_ok : Ok f θ s₁
  step_ok =
      ok_same f θ s s₁ (rep_ok f s b0 bs r) p.kept.whole.sized p.kept.whole.sizes_same p.kept.taken_same p.kept.many_same
      p.kept.name_same (λ x low high o. p.kept.nodes_same x low high)

  step_come : nodes_to_come s₁ ≡ nodes_to_come s
  step_come =
      free_same f θ s s₁ (rep_ok f s b0 bs r) p.kept.whole.sized p.kept.whole.sizes_same p.kept.taken_same
      p.kept.many_same p.kept.name_same (λ x low high o. p.kept.nodes_same x low high)

  whole_directory : Directory θ (node_of s) (head_of s).root (head_of s).levels (head_of s).node_blocks (λ n. count n (nodes_to_come s))
      (numbers b0) bs
  unfolding nodes_to_come
  whole_directory =
      directory_wide θ (node_of s) (head_of s).root (head_of s).levels (head_of s).nodes_taken (head_of s).node_blocks (released_nodes s)
      (numbers b0) bs r.nodes_fit r.directory

  step_directory : Directory θ (node_of s₁) (head_of s₁).root (head_of s₁).levels (head_of s₁).node_blocks (λ n. count n (nodes_to_come s₁))
      (numbers b0) bs
  step_directory =
      directory_frame θ (node_of s) (node_of s₁) _ _ _ _ _ _ (nodes_to_come s) (nodes_to_come s₁) (numbers b0) bs p.kept.root_same
      p.kept.levels_same p.kept.whole.sizes_same.nodes step_come p.kept.nodes_same whole_directory

  -- the page step, then a change of nodes
  module _ (s₂ : List ℕ) (more : ℕ) (bs' : List (Trie ℕ)) (w : Rounded θ (word_store f θ) s₁ s₂ more (numbers b0') bs') where
    sizes_now : SameSizes (head_of s₁) (head_of s₂)
    sizes_now = others_sizes s₁ s₂ w.changed.others_same

    filled_now : (head_of s₂).pages_taken ≡ (head_of s₁).pages_taken
    filled_now = others_pages_taken s₁ s₂ w.changed.others_same

    page_now : (x : ℕ) → page_of f s₂ x ≡ page_of f s₁ x
    page_now x = others_pages f s₁ s₂ x w.changed.others_same

    supply_now : PageSupply f s₂
    supply_now =
        supply_same f s₁ s₂ p.kept.whole.sized w.changed.ok.sized sizes_now filled_now
        (others_many s₁ s₂ w.changed.others_same) (others_page s₁ s₂ w.changed.others_same) (λ x low high o. page_now x) p.supply

    chain_now : released_pages f s₂ ≡ released_pages f s₁
    chain_now =
        released_same f s₁ s₂ p.kept.whole.sized w.changed.ok.sized sizes_now filled_now
        (others_many s₁ s₂ w.changed.others_same) (others_page s₁ s₂ w.changed.others_same) (λ x low high o. page_now x) p.supply

    directory_now : Directory θ (node_of s₂) (head_of s₂).root (head_of s₂).levels (head_of s₂).nodes_taken (λ n. count n (released_nodes s₂))
        (numbers b0') bs'
    unfolding nodes_to_come
    directory_now =
        directory_narrow θ (node_of s₂) (head_of s₂).root (head_of s₂).levels (head_of s₂).nodes_taken (head_of s₂).node_blocks
        (released_nodes s₂) (numbers b0') bs' w.changed.ok.supplied.fits w.directory

    abbrev NodesNow : ℕ → Type 0
    NodesNow t =
        Directory t (node_of s₂) (head_of s₂).root (head_of s₂).levels (head_of s₂).nodes_taken (λ n. count n (released_nodes s₂))
        (numbers b0') bs'
        × Supplied (node_of s₂) (released_node t) (replicate (node_words t) 0) (node_next s₂) (released_of s₂).nodes (released_of s₂).node
        (head_of s₂).nodes_taken (head_of s₂).node_blocks

    nodes_now : NodesNow (head_of s₂).theta
    nodes_now = subst NodesNow (sym w.changed.ok.theta) (directory_now, w.changed.ok.supplied)

    now : Rep f s₂ b0' bs'
    now =
        record {
          sized = w.changed.ok.sized;
          nodes_fit = nodes_now.1.fits;
          pages_fit = supply_now.fits;
          directory = nodes_now.0;
          pages =
              pages_frame f s₁ s₂ (head_of s₁) (head_of s₂) b0' sizes_now.capacity filled_now chain_now (λ x low high. page_now x)
              p.pages;
          released_nodes = nodes_now.1.chained;
          released_pages = supply_now.chained;
          free_nodes = nodes_now.1.unused;
          free_pages = supply_now.unused;
        }

    stepped : Stepped f s s₂ b0' bs'
    stepped =
        record {
          rep = now;
          sizes_same = same_then (head_of s) (head_of s₁) (head_of s₂) p.kept.whole.sizes_same sizes_now;
          beyond =
              ap (λ n. drop n s₂) (sym (size_same f s₁ s₂ sizes_now ∙ size_same f s s₁ p.kept.whole.sizes_same))
              ∙ others_beyond f s₁ s₂ w.changed.others_same
              ∙ ap (λ n. drop n s₁) (size_same f s s₁ p.kept.whole.sizes_same)
              ∙ p.kept.whole.beyond;
        }

-- page writes
module _ (f : Format) where
  nodes_none : (s : List ℕ) → Sized f s → NodesKept f s s
  nodes_none s ok =
      record {
        whole = kept_none f s ok;
        root_same = refl;
        levels_same = refl;
        taken_same = refl;
        name_same = refl;
        many_same = refl;
        nodes_same = λ n low high. refl;
      }

  nodes_then : (s t v : List ℕ) → NodesKept f s t → NodesKept f t v → NodesKept f s v
  nodes_then s t v a b =
      record {
        whole = kept_then f s t v a.whole b.whole;
        root_same = b.root_same ∙ a.root_same;
        levels_same = b.levels_same ∙ a.levels_same;
        taken_same = b.taken_same ∙ a.taken_same;
        name_same = b.name_same ∙ a.name_same;
        many_same = b.many_same ∙ a.many_same;
        nodes_same = λ n low high. b.nodes_same n low (omega (arith, a.whole.sizes_same.nodes)) ∙ a.nodes_same n low high;
      }

  filled_kept : (s : List ℕ) → Sized f s → NodesKept f s (page_taken f s)
  filled_kept s ok =
      record {
        whole = record { sized = page_taken_sized f s ok; sizes_same = page_taken_sizes f s; beyond = page_taken_beyond f s };
        root_same = page_taken_root f s;
        levels_same = page_taken_levels f s;
        taken_same = page_taken_taken f s;
        name_same = page_taken_node f s;
        many_same = page_taken_many f s;
        nodes_same = λ n low high. page_taken_nodes f s n;
      }

  module _ (C : ℕ) (s : List ℕ) (p : ℕ) (rs : List Item) (ok : Sized f s) (low : 1 ≤ p) (high : p ≤ (head_of s).page_blocks)
      (full : (head_of s).capacity ≡ C) (fits : length rs ≤ C) where
    items_kept : NodesKept f s (put_items f C s p rs)
    items_kept =
        let e : head_of (put_items f C s p rs) ≡ head_of s = put_head_lem f C s p rs ok low high full fits in
        let l : length (page_image f C rs) ≡ page_words f (head_of s).capacity = put_length f C s p rs ok low high full fits in
        record {
          whole = record {
            sized = put_sized f C s p rs ok low high full fits;
            sizes_same = same_head_lem (head_of s) (head_of (put_items f C s p rs)) e;
            beyond = put_page_beyond f s p (page_image f C rs) ok low high l;
          };
          root_same = ap (λ h. h.root) e;
          levels_same = ap (λ h. h.levels) e;
          taken_same = ap (λ h. h.nodes_taken) e;
          name_same = ap (λ (r : Released). r.node) (put_released f C s p rs ok low high full fits);
          many_same = ap (λ (r : Released). r.nodes) (put_released f C s p rs ok low high full fits);
          nodes_same = put_page_nodes f s p (page_image f C rs) ok low high l;
        }

  taken_kept : (C : ℕ) (s : List ℕ) (p : ℕ) (rs : List Item) → Sized f s → 1 ≤ p → p ≤ (head_of s).page_blocks
      → (head_of s).capacity ≡ C → length rs ≤ C → NodesKept f s (put_items f C (page_taken f s) p rs)
  taken_kept C s p rs ok low high full fits =
      let k : NodesKept f s (page_taken f s) = filled_kept s ok in
      let sizes = k.whole.sizes_same in
      nodes_then s (page_taken f s) (put_items f C (page_taken f s) p rs) k
      (items_kept C (page_taken f s) p rs k.whole.sized low (omega (arith, sizes.pages)) (sizes.capacity ∙ full) fits)

numbers_graft : (b0 : Trie Stretch) (k : Key) (c : Trie Stretch) → numbers (graft b0 k c) ≡ graft (numbers b0) k (numbers c)
numbers_graft b0 k c = relabel_graft (λ x. x.0) b0 k c

module _ (f : Format) (s : List ℕ) (b0 : Trie Stretch) (bs : List (Trie ℕ)) (r : Rep f s b0 bs) (key : ℕ) (narrow : key < 2 ^ width f) where
  abbrev C : ℕ
  C = (head_of s).capacity

  abbrev k : Key
  k = bits (width f) key

  abbrev n : ℕ
  n = (stretch_at f b0 key).0

  abbrev m : ℕ
  m = next_page s

  abbrev sized : Sized f s
  sized = r.sized

  n_high : n ≤ (head_of s).page_blocks
  n_high = omega (arith, number_high f s (head_of s) b0 key r.pages narrow, r.pages_fit)

  supply : PageSupply f s
  supply = rep_supply f s b0 bs r

  -- no page written; one written anew; the next one taken; one written anew and the next one taken
  none_step : (c : Trie Stretch) → Pages f s (head_of s) (replaced_at f b0 key c) → PageStep f s s (replaced_at f b0 key c)
  none_step c pg = record { kept = nodes_none f s sized; pages = pg; supply = supply }

  put_step : (rs : List Item) → 1 ≤ n → Fit f C (left_at f b0 key) (prefix_at f b0 key) rs
      → PageStep f s (put_items f C s n rs) (replaced_at f b0 key (leaf (n, rs)))
  put_step rs low fit =
      record {
        kept = items_kept f C s n rs sized low n_high refl fit.fits;
        pages = pages_put f s b0 key sized r.pages narrow supply rs low fit;
        supply = put_supply f C s n rs sized low n_high refl fit.fits supply (own_off f s b0 key sized r.pages narrow supply low);
      }

  module _ (room : 1 ≤ pages_left s) where
    more : 1 ≤ length (pages_to_come f s)
    more = omega (arith, rep_pages_left f s b0 bs r)

    low_m : 1 ≤ m
    low_m = m_low f s b0 key sized r.pages narrow supply more

    high_m : m ≤ (head_of s).page_blocks
    high_m = m_high f s b0 key sized r.pages narrow supply more

    gone_m : count m (pages_to_come f (page_taken f s)) ≡ 0
    gone_m = m_gone f s b0 key sized r.pages narrow supply more

    take_step : (rs : List Item) → n ≡ 0 → Fit f C (left_at f b0 key) (prefix_at f b0 key) rs
        → PageStep f s (put_items f C (page_taken f s) m rs) (replaced_at f b0 key (leaf (m, rs)))
    take_step rs null fit =
        record {
          kept = taken_kept f C s m rs sized low_m high_m refl fit.fits;
          pages = pages_take f s b0 key sized r.pages narrow supply more rs null fit;
          supply = take_supply f C s m rs sized low_m high_m refl fit.fits supply more gone_m;
        }

    both_step : depth b0 k < width f → 1 ≤ length (half_at false f b0 key) → 1 ≤ length (half_at true f b0 key)
        → PageStep f s (put_items f C (put_items f C (page_taken f s) n (half_at false f b0 key)) m (half_at true f b0 key))
        (replaced_at f b0 key (pair (n, half_at false f b0 key) (m, half_at true f b0 key)))
    both_step deep some₀ some₁ =
        record {
          kept = nodes_then f s s₁ (put_items f C s₁ m o) kept₁ (items_kept f C s₁ m o kept₁.whole.sized low_m
              (omega (arith, kept₁.whole.sizes_same.pages, high_m)) kept₁.whole.sizes_same.capacity fits₁);
          pages = pages_both f s b0 key sized r.pages narrow supply more some₀ deep some₁;
          supply = both_supply f s b0 key sized r.pages narrow supply more some₀;
        }
      where
        z : List Item
        z = half_at false f b0 key

        o : List Item
        o = half_at true f b0 key

        s₁ : List ℕ
        s₁ = put_items f C (page_taken f s) n z

        low : 1 ≤ n
        low = own_low f s (head_of s) b0 key r.pages narrow false some₀

        fits₁ : length o ≤ C
        fits₁ = half_fits f s (head_of s) b0 key r.pages narrow true

        kept₁ : NodesKept f s s₁
        kept₁ = taken_kept f C s n z sized low n_high refl (half_fits f s (head_of s) b0 key r.pages narrow false)

rounded_same : (θ : ℕ) (O : StoreOps) {s s' : O.S} {more : ℕ} {u u' : Trie ℕ} {bs bs' : List (Trie ℕ)} → u ≡ u' → bs ≡ bs'
    → Rounded θ O s s' more u bs → Rounded θ O s s' more u' bs'
rounded_same θ O {s} {s'} {more} {u} {u'} {bs} {bs'} e e' w =
    subst (λ t. Rounded θ O s s' more t bs') e (subst (λ t. Rounded θ O s s' more u t) e' w)

-- a change of nodes after the page step, at the place of the key
module _ (f : Format) (I : NodeOps) (s : List ℕ) (b0 : Trie Stretch) (bs : List (Trie ℕ)) (key : ℕ) (y : Roomy f I s b0 bs key) where
  abbrev place : Key
  place = bits (width f) key

  halved : (x z : Stretch) (s₁ : List ℕ) → PageStep f s s₁ (replaced_at f b0 key (pair x z))
      → Turned f I s b0 bs key
      (round I (word_store f (head_of s).theta) (head_of s).theta place s₁ (path_of (numbers b0) bs place) x.0 z.0)
      (pair x z)
  halved x z s₁ p =
      let come = step_come f s b0 _ bs y.rep s₁ p in
      let e = ap (λ t. carried (head_of s).theta t (numbers b0) bs place) come in
      let w =
      round_carries (head_of s).theta I (word_store f (head_of s).theta) y.laws (store_laws f (head_of s).theta)
      (sizes_limits _ _ _ _ y.rep.sized.sizes).theta_low s₁ (numbers b0) bs place x.0 z.0
      (step_ok f s b0 _ bs y.rep s₁ p) (step_directory f s b0 _ bs y.rep s₁ p)
      (omega (arith, y.room, ap length come, rep_nodes_left f s b0 bs y.rep)) in
      let g = sym (numbers_graft b0 place (pair x z)) in
      record {
        stepped =
            stepped f s b0 (replaced_at f b0 key (pair x z)) bs y.rep s₁ p _ (bump_cost (head_of s).theta (locals (numbers b0) bs place)) _
            (rounded_same (head_of s).theta (word_store f (head_of s).theta) g e w.0);
        way = w.1 ∙ ap₂ (λ u cs. path_of u cs place) g e;
      }

module _ (f : Format) (I : NodeOps) (s : List ℕ) (b0 : Trie Stretch) (bs : List (Trie ℕ)) (key : ℕ) where
  pub upper_keeps : UpperKeeps f I s b0 bs key
  upper_keeps y e =
      halved f I s b0 bs key y (0, []) (stretch_at f b0 key) s
      (none_step f s b0 bs y.rep key y.narrow (pair (0, []) (stretch_at f b0 key))
      (pages_upper f s (head_of s) b0 key y.rep.pages y.narrow y.deep e))

  pub lower_keeps : LowerKeeps f I s b0 bs key
  lower_keeps y e =
      halved f I s b0 bs key y (stretch_at f b0 key) (0, []) s
      (none_step f s b0 bs y.rep key y.narrow (pair (stretch_at f b0 key) (0, []))
      (pages_lower f s (head_of s) b0 key y.rep.pages y.narrow y.deep e))

  pub both_keep : BothKeep f I s b0 bs key
  both_keep y room some₀ some₁ =
      halved f I s b0 bs key y ((stretch_at f b0 key).0, half_at false f b0 key) (next_page s, half_at true f b0 key) _
      (both_step f s b0 bs y.rep key y.narrow room y.deep some₀ some₁)

pub put_keeps : (f : Format) (s : List ℕ) (b0 : Trie Stretch) (bs : List (Trie ℕ)) (key : ℕ) → PutKeeps f s b0 bs key
put_keeps f s b0 bs key rs r narrow low fit =
    let p = put_step f s b0 bs r key narrow rs low fit in
    let k : Key = bits (width f) key in
    let same : numbers b0 ≡ numbers (replaced_at f b0 key (leaf ((stretch_at f b0 key).0, rs))) =
    sym (numbers_graft b0 k (leaf ((stretch_at f b0 key).0, rs))
    ∙ ap (λ n. graft (numbers b0) k (leaf n)) (sym (leaf_at_relabel (λ x. x.0) b0 k)) ∙ graft_leaf_at (numbers b0) k) in
    stepped f s b0 _ bs r _ p _ 0 bs
    (rounded_same (head_of s).theta (word_store f (head_of s).theta) same refl
    (record {
      directory = step_directory f s b0 _ bs r _ p;
      changed = record { ok = step_ok f s b0 _ bs r _ p; now = refl; cap_same = refl; others_same = refl; fresh = λ x l h o. refl };
    }))

pub take_keeps : (f : Format) (I : NodeOps) (s : List ℕ) (b0 : Trie Stretch) (b : Trie ℕ) (bs : List (Trie ℕ)) (key : ℕ)
    → TakeKeeps f I s b0 b bs key
take_keeps f I s b0 b bs key rs laws r narrow null room fit =
    let p = take_step f s b0 (b ∷ bs) r key narrow room rs null fit in
    let k : Key = bits (width f) key in
    stepped f s b0 _ (b ∷ bs) r _ p _ 0 (b ∷ bs)
    (rounded_same (head_of s).theta (word_store f (head_of s).theta) (sym (numbers_graft b0 k (leaf (next_page s, rs)))) refl
    (aim_keeps (head_of s).theta I (word_store f (head_of s).theta) laws (store_laws f (head_of s).theta) _ (numbers b0) b bs k
    (next_page s) (step_ok f s b0 _ (b ∷ bs) r _ p) (step_directory f s b0 _ (b ∷ bs) r _ p)))
