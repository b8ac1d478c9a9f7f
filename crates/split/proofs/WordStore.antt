-- A store's words as a store of nodes: what a round of an insertion needs to know of a node block put, of a root named and of a node block
-- taken. All else, the pages among it, is in `others`, which none of them changes.
use mathlib.Core.Path.{◌≡◌, sym, ap, ◌∙◌, subst}
use mathlib.Core.List.{List, ◌∷◌}
use Prim.Native.Nat.{ℕ, suc, ◌-◌, ◌*◌, ◌≤◌, ◌<◌}
use native.Mathlib.Decide.{ℕ_discrete}
use native.Mathlib.Omega.{arith}
use lib.ListN.{length, drop, replicate}
use lib.Seq.{drop-drop}
use Rattle.lists.specs.Lists.{part}
use Rattle.lists.proofs.Parts.{part_drop}
use Rattle.tree.specs.Trie.{Trie}
use Rattle.store.specs.declared.Format.{Format}
use Rattle.store.specs.declared.Head.{Head}
use Rattle.store.specs.declared.Released.{Released}
use Rattle.store.specs.Head.{word, head_of, released_of, node_words, page_words, size, page_start, page_at}
use Rattle.store.specs.Released.{released_node, node_next, released_nodes, nodes_to_come, next_node, node_taken}
use Rattle.node.specs.Node.{back_word, forward_word}
use Rattle.represent.specs.Labelled.{count}
use Rattle.represent.specs.Image.{NodeIs}
use Rattle.split.specs.Supply.{to_come, Supplied}
use Rattle.split.specs.Round.{StoreLaws, Taken}
use Rattle.split.specs.Insertion.{SameSizes, Others, nodes_end, others, Ok, word_store}
use Rattle.represent.specs.Rep.{size_of, Sized}
use Rattle.split.specs.Frame.{node_of, page_of, put_node, put_head}
use Rattle.split.proofs.SupplyLaws.{length_come, come_same, supplied_same, come_released, supplied_released, come_unused, supplied_unused}
use Rattle.split.proofs.Frame.{sized_long, put_node_head, put_node_sized, put_node_released, put_node_same, put_node_other, put_node_drop}
use Rattle.split.proofs.Frame.{put_head_sizes, put_head_pages_taken, put_head_root, put_head_levels, put_head_taken, put_head_released}
use Rattle.split.proofs.Frame.{put_head_sized, put_head_nodes, put_head_drop, next_node_lem, taken_none, taken_some, none_counts, some_counts}
use Rattle.split.proofs.Frame.{node_taken_sizes, node_taken_pages_taken, node_taken_root, node_taken_levels, node_taken_page}
use Rattle.split.proofs.Frame.{node_taken_pages, node_taken_sized, node_taken_nodes, node_taken_drop}
use Rattle.split.proofs.Lengths.{length_node_image}

-- others that stay
pub others_sizes : (s t : List ℕ) → others t ≡ others s → SameSizes (head_of s) (head_of t)
others_sizes s t e =
    record {
      theta = ap (λ (o : Others). o.theta) e;
      capacity = ap (λ (o : Others). o.capacity) e;
      nodes = ap (λ (o : Others). o.node_blocks) e;
      pages = ap (λ (o : Others). o.page_blocks) e;
    }

pub others_pages_taken : (s t : List ℕ) → others t ≡ others s → (head_of t).pages_taken ≡ (head_of s).pages_taken
others_pages_taken s t e = ap (λ (o : Others). o.pages_taken) e

pub others_page : (s t : List ℕ) → others t ≡ others s → (released_of t).page ≡ (released_of s).page
others_page s t e = ap (λ (o : Others). o.page) e

pub others_many : (s t : List ℕ) → others t ≡ others s → (released_of t).pages ≡ (released_of s).pages
others_many s t e = ap (λ (o : Others). o.pages) e

module _ (f : Format) where
  -- page block p is among the words behind the nodes, and so is what lies beyond the size
  page_in : Others → ℕ → List ℕ
  page_in o p = part o.behind ((p - 1) * page_words f o.capacity) (page_words f o.capacity)

  page_in_lem : (s : List ℕ) (p : ℕ) → page_in (others s) p ≡ page_of f s p
  unfolding page_in page_at page_start page_words
  page_in_lem s p =
      part_drop s (nodes_end (head_of s)) ((p - 1) * page_words f (head_of s).capacity) (page_words f (head_of s).capacity) (omega arith)

  pub others_pages : (s t : List ℕ) (p : ℕ) → others t ≡ others s → page_of f t p ≡ page_of f s p
  others_pages s t p e = sym (page_in_lem t p) ∙ ap (λ (o : Others). page_in o p) e ∙ page_in_lem s p

  beyond_in : Others → List ℕ
  beyond_in o = drop (o.page_blocks * page_words f o.capacity) o.behind

  beyond_in_lem : (s : List ℕ) → beyond_in (others s) ≡ drop (size_of f s) s
  unfolding beyond_in size
  beyond_in_lem s = drop-drop ((head_of s).page_blocks * page_words f (head_of s).capacity) (nodes_end (head_of s)) s

  pub others_beyond : (s t : List ℕ) → others t ≡ others s → drop (size_of f t) t ≡ drop (size_of f s) s
  others_beyond s t e = sym (beyond_in_lem t) ∙ ap beyond_in e ∙ beyond_in_lem s

module _ (f : Format) (θ : ℕ) where
  -- a node block put
  fills : (s ws : List ℕ) (level : ℕ) (v : Trie ℕ) → Ok f θ s → NodeIs θ ws level v → length ws ≡ node_words (head_of s).theta
  fills s ws level v ok is =
      ap length is.image ∙ length_node_image θ level (back_word ws 0) (forward_word ws 0) v is.low ∙ ap node_words (sym ok.theta)

  module _ (s : List ℕ) (n : ℕ) (ws : List ℕ) where
    pub put_head_lem : Ok f θ s → head_of (put_node s n ws) ≡ head_of s
    put_head_lem ok = put_node_head s n ws (omega (arith, sized_long f s ok.sized))

    pub put_root : Ok f θ s → (head_of (put_node s n ws)).root ≡ (head_of s).root
    put_root ok = ap (λ (h : Head). h.root) (put_head_lem ok)

    pub put_levels : Ok f θ s → (head_of (put_node s n ws)).levels ≡ (head_of s).levels
    put_levels ok = ap (λ (h : Head). h.levels) (put_head_lem ok)

    pub put_taken : Ok f θ s → (head_of (put_node s n ws)).nodes_taken ≡ (head_of s).nodes_taken
    put_taken ok = ap (λ (h : Head). h.nodes_taken) (put_head_lem ok)

    pub put_cap : Ok f θ s → (head_of (put_node s n ws)).node_blocks ≡ (head_of s).node_blocks
    put_cap ok = ap (λ (h : Head). h.node_blocks) (put_head_lem ok)

    module _ (level : ℕ) (v : Trie ℕ) where
      pub put_same : Ok f θ s → 1 ≤ n → n ≤ (head_of s).node_blocks → NodeIs θ ws level v → node_of (put_node s n ws) n ≡ ws
      put_same ok low high is = put_node_same f s n ws ok.sized low high (fills s ws level v ok is)

      pub put_other : (x : ℕ) → Ok f θ s → 1 ≤ n → n ≤ (head_of s).node_blocks → NodeIs θ ws level v → 1 ≤ x → x ≤ (head_of s).node_blocks
          → (x ≡ n → ⊥)
          → node_of (put_node s n ws) x ≡ node_of s x
      put_other x ok low high is p q ne = put_node_other f s n ws ok.sized low high (fills s ws level v ok is) x p ne

      pub put_others : Ok f θ s → 1 ≤ n → n ≤ (head_of s).node_blocks → NodeIs θ ws level v → others (put_node s n ws) ≡ others s
      put_others ok low high is =
          rw (
            put_head_lem ok,
            put_node_released f s n ws ok.sized low high (fills s ws level v ok is),
            put_node_drop f s n ws ok.sized low high (fills s ws level v ok is) (nodes_end (head_of s)) (omega arith),
          )

  -- Words t in which the head's sizes and what it says of node blocks are those of s, and so are the node blocks that may be taken: these
  -- are the same, and in order.
  module _ (s t : List ℕ) (ok : Ok f θ s) (sized : Sized f t) (sizes : SameSizes (head_of s) (head_of t))
      (taken : (head_of t).nodes_taken ≡ (head_of s).nodes_taken) (many : (released_of t).nodes ≡ (released_of s).nodes)
      (name : (released_of t).node ≡ (released_of s).node)
      (same : (x : ℕ) → 1 ≤ x → x ≤ (head_of s).node_blocks → 1 ≤ count x (nodes_to_come s) → node_of t x ≡ node_of s x) where
    both : (x : ℕ) → 1 ≤ x → x ≤ (head_of s).node_blocks
        → 1 ≤ count x (to_come (node_next s) (released_of s).nodes (released_of s).node (head_of s).nodes_taken (head_of s).node_blocks)
        → (node_of t x ≡ node_of s x) × (node_next t x ≡ node_next s x)
    unfolding nodes_to_come released_nodes
    both x low high o =
        let e = same x low high o in (
          e,
          next_node_lem f t sized x low (omega (arith, sizes.nodes)) ∙ ap (λ (ws : List ℕ). word ws 2) e
              ∙ sym (next_node_lem f s ok.sized x low high),
        )

    pub free_same : nodes_to_come t ≡ nodes_to_come s
    unfolding nodes_to_come released_nodes
    free_same =
        rw (taken, many, name, sizes.nodes)
        (come_same (node_of s) (node_of t) (node_next s) (node_next t) both ok.supplied)

    pub ok_same : Ok f θ t
    ok_same =
        record {
          theta = sizes.theta ∙ ok.theta;
          sized = sized;
          supplied = rw (taken, many, name, sizes.nodes)
              (supplied_same (node_of s) (node_of t) (node_next s) (node_next t) both ok.supplied);
        }

  -- what two heads that are equal share
  same_head_lem : (h h' : Head) → h' ≡ h → SameSizes h h'
  same_head_lem h h' e =
      record {
        theta = ap (λ (x : Head). x.theta) e;
        capacity = ap (λ (x : Head). x.capacity) e;
        nodes = ap (λ (x : Head). x.node_blocks) e;
        pages = ap (λ (x : Head). x.page_blocks) e;
      }

  -- a block that may not be taken, written
  module _ (s : List ℕ) (n : ℕ) (ws : List ℕ) (level : ℕ) (v : Trie ℕ) (ok : Ok f θ s) (low : 1 ≤ n) (high : n ≤ (head_of s).node_blocks)
      (off : count n (nodes_to_come s) ≡ 0) (is : NodeIs θ ws level v) where
    abbrev t : List ℕ
    t = put_node s n ws

    released : released_of t ≡ released_of s
    released = put_node_released f s n ws ok.sized low high (fills s ws level v ok is)

    untouched : (x : ℕ) → 1 ≤ x → x ≤ (head_of s).node_blocks → 1 ≤ count x (nodes_to_come s) → node_of t x ≡ node_of s x
    untouched x p q o = put_other s n ws level v x ok low high is p q (λ e. omega (arith, subst (λ y. 1 ≤ count y (nodes_to_come s)) e o))

    put_free : nodes_to_come t ≡ nodes_to_come s
    put_free =
        free_same s t ok (put_node_sized f s n ws ok.sized low high (fills s ws level v ok is))
        (same_head_lem (head_of s) (head_of t) (put_head_lem s n ws ok)) (put_taken s n ws ok) (ap (λ (r : Released). r.nodes) released)
        (ap (λ (r : Released). r.node) released) untouched

    put_ok : Ok f θ t
    put_ok =
        ok_same s t ok (put_node_sized f s n ws ok.sized low high (fills s ws level v ok is))
        (same_head_lem (head_of s) (head_of t) (put_head_lem s n ws ok)) (put_taken s n ws ok) (ap (λ (r : Released). r.nodes) released)
        (ap (λ (r : Released). r.node) released) untouched

  -- the root and the levels named
  module _ (s : List ℕ) (root levels : ℕ) (ok : Ok f θ s) where
    abbrev h : List ℕ
    h = put_head s root levels

    head_same : (x : ℕ) → 1 ≤ x → x ≤ (head_of s).node_blocks → 1 ≤ count x (nodes_to_come s) → node_of h x ≡ node_of s x
    head_same x p q o = put_head_nodes s root levels x

    head_free : nodes_to_come h ≡ nodes_to_come s
    head_free =
        free_same s h ok (put_head_sized s root levels f ok.sized) (put_head_sizes s root levels) (put_head_taken s root levels)
        (ap (λ (r : Released). r.nodes) (put_head_released s root levels)) (ap (λ (r : Released). r.node) (put_head_released s root levels))
        head_same

    head_ok : Ok f θ h
    head_ok =
        ok_same s h ok (put_head_sized s root levels f ok.sized) (put_head_sizes s root levels) (put_head_taken s root levels)
        (ap (λ (r : Released). r.nodes) (put_head_released s root levels)) (ap (λ (r : Released). r.node) (put_head_released s root levels))
        head_same

    long : 8 ≤ length s
    long = omega (arith, sized_long f s ok.sized)

  -- the next one taken
  module _ (s : List ℕ) (ok : Ok f θ s) (more : 1 ≤ length (nodes_to_come s)) where
    abbrev u : List ℕ
    u = node_taken s

    abbrev many : ℕ
    many = (released_of s).nodes

    abbrev name : ℕ
    name = (released_of s).node

    abbrev taken : ℕ
    taken = (head_of s).nodes_taken

    abbrev cap : ℕ
    cap = (head_of s).node_blocks

    sized_u : Sized f u
    sized_u = node_taken_sized s f ok.sized

    long_u : 16 ≤ length s
    long_u = sized_long f s ok.sized

    -- the blocks are as they were
    both_u : (x : ℕ) → 1 ≤ x → x ≤ cap → (node_of u x ≡ node_of s x) × (node_next u x ≡ node_next s x)
    both_u x low high =
        let e = node_taken_nodes s x in (
          e,
          next_node_lem f u sized_u x low (omega (arith, (node_taken_sizes s).nodes)) ∙ ap (λ (ws : List ℕ). word ws 2) e
              ∙ sym (next_node_lem f s ok.sized x low high),
        )

    abbrev Took : Type 0
    Took =
        (nodes_to_come s ≡ next_node s ∷ nodes_to_come u)
        × Supplied (node_of u) (released_node θ) (replicate (node_words θ) 0) (node_next u) (released_of u).nodes (released_of u).node
        (head_of u).nodes_taken (head_of u).node_blocks

    took_unused : many ≡ 0 → Took
    unfolding nodes_to_come released_nodes
    took_unused z =
        let c = none_counts s long_u z in
        let many_u : (released_of u).nodes ≡ 0 = ap (λ (r : Released). r.nodes) c.1 ∙ z in
        let name_u : (released_of u).node ≡ name = ap (λ (r : Released). r.node) c.1 in
        let room : taken < cap = omega (arith, length_come (node_next s) many name taken cap, z) in
        let y : Supplied (node_of s) (released_node θ) (replicate (node_words θ) 0) (node_next s) 0 name (suc taken) cap =
        supplied_unused name taken cap room
        (subst (λ m. Supplied (node_of s) (released_node θ) (replicate (node_words θ) 0) (node_next s) m name taken cap) z ok.supplied) in (
          ap (λ m. to_come (node_next s) m name taken cap) z ∙ come_unused (node_next s) name taken cap room
              ∙ rw (many_u, name_u, c.0, (node_taken_sizes s).nodes, (taken_none s z).1)
              (ap (λ ns. suc taken ∷ ns) (sym (come_same (node_of s) (node_of u) (node_next s) (node_next u) (λ x p q o. both_u x p q) y))),
          rw (many_u, name_u, c.0, (node_taken_sizes s).nodes)
              (supplied_same (node_of s) (node_of u) (node_next s) (node_next u) (λ x p q o. both_u x p q) y),
        )

    took_released : (many ≡ 0 → ⊥) → Took
    unfolding nodes_to_come released_nodes
    took_released z =
        let c = some_counts s long_u z in
        let e : many ≡ suc (many - 1) = omega arith in
        let y : Supplied (node_of s) (released_node θ) (replicate (node_words θ) 0) (node_next s) (many - 1) (node_next s name) taken cap =
        supplied_released (many - 1) name taken cap
        (subst (λ m. Supplied (node_of s) (released_node θ) (replicate (node_words θ) 0) (node_next s) m name taken cap) e ok.supplied) in (
          ap (λ m. to_come (node_next s) m name taken cap) e ∙ come_released (node_next s) (many - 1) name taken cap
              ∙ rw (c.1, c.2, c.0, (node_taken_sizes s).nodes, (taken_some s z).1)
              (ap (λ ns. name ∷ ns) (sym (come_same (node_of s) (node_of u) (node_next s) (node_next u) (λ x p q o. both_u x p q) y))),
          rw (c.1, c.2, c.0, (node_taken_sizes s).nodes)
              (supplied_same (node_of s) (node_of u) (node_next s) (node_next u) (λ x p q o. both_u x p q) y),
        )

    took : Took
    took = elim (ℕ_discrete many 0) [ yes z ↦ took_unused z | no z ↦ took_released z ]

    take_taken : Taken (word_store f θ) s u
    take_taken =
        let k = node_taken_sizes s in
        record {
          ok = record { theta = k.theta ∙ ok.theta; sized = sized_u; supplied = took.1 };
          first_is = took.0;
          root_same = node_taken_root s;
          levels_same = node_taken_levels s;
          nodes_same = λ x p q. node_taken_nodes s x;
          cap_same = k.nodes;
          others_same =
              rw (
                k.theta,
                k.capacity,
                k.nodes,
                k.pages,
                node_taken_pages_taken s,
                node_taken_page s,
                node_taken_pages s,
                node_taken_drop s (nodes_end (head_of s)) (omega arith),
              );
        }

pub head_others : (s : List ℕ) (root levels : ℕ) → others (put_head s root levels) ≡ others s
head_others s root levels =
    let k = put_head_sizes s root levels in
    rw (
      k.theta,
      k.capacity,
      k.nodes,
      k.pages,
      put_head_pages_taken s root levels,
      put_head_released s root levels,
      put_head_drop s root levels (nodes_end (head_of s)) (omega arith),
    )

pub store_laws : (f : Format) (θ : ℕ) → StoreLaws θ (word_store f θ)
store_laws f θ =
    record {
      put_is = λ s n ws level v ok low high off zero is.
          record {
            ok = put_ok f θ s n ws level v ok low high off is;
            here = put_same f θ s n ws level v ok low high is;
            elsewhere = λ x p q ne. put_other f θ s n ws level v x ok low high is p q ne;
            root_same = put_root f θ s n ws ok;
            levels_same = put_levels f θ s n ws ok;
            free_same = put_free f θ s n ws level v ok low high off is;
            cap_same = put_cap f θ s n ws ok;
            others_same = put_others f θ s n ws level v ok low high is;
          };
      head_is = λ s root levels ok.
          record {
            ok = head_ok f θ s root levels ok;
            root_is = put_head_root s root levels (long f θ s root levels ok);
            levels_is = put_head_levels s root levels (long f θ s root levels ok);
            free_same = head_free f θ s root levels ok;
            nodes_same = λ x p q. put_head_nodes s root levels x;
            cap_same = (put_head_sizes s root levels).nodes;
            others_same = head_others s root levels;
          };
      take_is = λ s ok more. take_taken f θ s ok more;
    }
