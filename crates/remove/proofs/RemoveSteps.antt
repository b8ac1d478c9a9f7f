-- On a store that holds a list, remove is the list's step.
use mathlib.Core.Path.{◌≡◌, refl, sym, ap, ◌∙◌, subst}
use mathlib.Core.Bool.{Bool, true, false, false≢true}
use mathlib.Core.List.{List, [], ◌∷◌, ◌++◌}
use mathlib.Core.Logic.{inl, inr}
use Prim.Native.Nat.{ℕ, zero, suc, ◌+◌, ◌^◌, ◌≤◌, ◌<◌}
use native.Mathlib.Decide.{dec_le, ℕ_discrete}
use native.Mathlib.Omega.{arith}
use lib.Dec.{ltb, eqb}
use lib.ListN.{length, replicate}
use Rattle.lists.specs.Bits.{bits}
use Rattle.lists.specs.Lists.{All}
use Rattle.lists.specs.Keyed.{Sorted, Bounded, contains}
use Rattle.lists.proofs.Cases.{bool_cases}
use Rattle.lists.proofs.KeyedLaws.{bounded_prefix}
use Rattle.tree.specs.Trie.{Trie, leaf, fork, Key, leaf_at, depth}
use Rattle.tree.specs.Build.{build}
use Rattle.store.specs.declared.Format.{Format}
use Rattle.store.specs.declared.Head.{Head}
use Rattle.store.specs.declared.Item.{Item}
use Rattle.store.specs.Format.{width}
use Rattle.store.specs.Head.{head_of, node_at, node_words, page_words}
use Rattle.store.proofs.HeadLaws.{sizes_limits}
use Rattle.page.specs.Page.{lawful_item}
use Rattle.page.specs.Schema.{key_of}
use Rattle.search.specs.Way.{Sought}
use Rattle.search.specs.Way.{Record, Nothing, Damaged}
use Rattle.search.specs.Find.{sought_reply, find_of}
use Rattle.search.specs.Descent.{descent}
use Rattle.represent.specs.Labelled.{Each, occ, occs, count}
use Rattle.represent.specs.Image.{page_image}
use Rattle.represent.specs.Rep.{Stretch, numbers, contents, Keyed, PageIs, Lawful, Directory, Rep, Holds}
use Rattle.represent.proofs.LabelLaws.{each_at, each_map, depth_relabel, ind_self, ind_eq}
use Rattle.represent.proofs.Keyed.{lawful_bounded}
use Rattle.represent.proofs.Passes.{taken}
use Rattle.represent.proofs.Counting.{released_node_lem, released_page_lem}
use Rattle.represent.proofs.HeadPasses.{head_passes}
use Rattle.split.specs.Frame.{node_of, page_of}
use Rattle.readings.specs.Listing.{first_where, find_in}
use Rattle.readings.proofs.Records.{find_own}
use Rattle.readings.proofs.Promises.{list_is, find_holds}
use Rattle.joins.specs.Joins.{without, removed, sub, set_at}
use Rattle.joins.proofs.ListLaws.{sorted_without, all_without}
use Rattle.joins.proofs.PageJoins.{build_without}
use Rattle.joins.proofs.Promises.{absent_stays}
use Rattle.store.specs.Released.{released_nodes, released_pages}
use Rattle.remove.specs.Remove.{Pages, Spot, kept_upper, kept_levels, backwards, gone_roots, first_used, first_spot, Plan, plan_of}
use Rattle.remove.specs.Remove.{written_by, carried_out, found_of, remove_of}
use Rattle.remove.specs.Promises.{Removed, RemoveSteps}
use Rattle.remove.proofs.Parts.{collapsed, set_collapsed, set_relabel, occ_sub}
use Rattle.remove.proofs.JoinLaws.{freed}
use Rattle.remove.specs.Frame.{Kept, Framed}
use Rattle.remove.proofs.Framed.{kept_self}
use Rattle.remove.proofs.Built.{Good, built}
use Rattle.remove.proofs.LevelsPhase.{Standing}
use Rattle.remove.proofs.Trims.{count_backwards, upper_levels}
use Rattle.remove.proofs.Plans.{g, z, page_ended, levels_ended, plan, plan_of_lem}
use Rattle.remove.proofs.Outcome.{in_of, first_spot_lem, spots_writable, forward_fits, new_directory, free_same, gone_apart, chain_apart}
use Rattle.remove.specs.Frame.{NodeWritten, PageWritten, HeadWritten}
use Rattle.remove.specs.Doable.{Doable}
use Rattle.remove.proofs.Releases.{sized_kept, NodeChain, PageChain}
use Rattle.remove.proofs.Writes.{t₆, written_framed, root_written, levels_written, page_written, node_chain, page_chain}

-- another stretch at the key
leaf_at_set : {A : Type 0} (d : ℕ) (t : Trie A) (k : Key) (c : A) → d ≤ depth t k → leaf_at (set_at d t k (leaf c)) k ≡ c
leaf_at_set zero t k c h = refl
leaf_at_set (suc d) (leaf x) k c h = refl
leaf_at_set (suc d) (fork l r) [] c h = leaf_at_set d l [] c (omega arith)
leaf_at_set (suc d) (fork l r) (false ∷ k) c h = leaf_at_set d l k c (omega arith)
leaf_at_set (suc d) (fork l r) (true ∷ k) c h = leaf_at_set d r k c (omega arith)

abbrev Apart : ℕ → Trie Stretch → Key → Stretch → Type 0
Apart d t k x = occ x.0 (sub d (numbers t) k) < occ x.0 (numbers t)

each_set : (P Q : Stretch → Type 0) (d : ℕ) (t : Trie Stretch) (k : Key) (c : Stretch) → Each P t → d ≤ depth t k
    → ((x : Stretch) → Apart d t k x → P x → Q x) → Q c
    → Each Q (set_at d t k (leaf c))
each_set P Q zero t k c a h g q = q
each_set P Q (suc d) (leaf x) k c a h g q = q
each_set P Q (suc d) (fork l r) [] c a h g q = (
  each_set P Q d l [] c a.0 (omega arith) (λ x o. g x (omega (arith, o))) q,
  each_map (λ x. x.0) P Q r (λ x o. g x (omega (arith, o, occ_sub x.0 d (numbers l) []))) a.1,
)
each_set P Q (suc d) (fork l r) (false ∷ k) c a h g q = (
  each_set P Q d l k c a.0 (omega arith) (λ x o. g x (omega (arith, o))) q,
  each_map (λ x. x.0) P Q r (λ x o. g x (omega (arith, o, occ_sub x.0 d (numbers l) k))) a.1,
)
each_set P Q (suc d) (fork l r) (true ∷ k) c a h g q = (
  each_map (λ x. x.0) P Q l (λ x o. g x (omega (arith, o, occ_sub x.0 d (numbers r) k))) a.0,
  each_set P Q d r k c a.1 (omega arith) (λ x o. g x (omega (arith, o))) q,
)

module _ (f : Format) (s : List ℕ) (S : List Item) (b0 : Trie Stretch) (b : Trie ℕ) (cs : List (Trie ℕ)) (r : Rep f s b0 (b ∷ cs))
    (tree : contents b0 ≡ build key_of (head_of s).capacity (width f) S) (sorted : Sorted key_of S)
    (lawful : All (λ it. lawful_item f it ≡ true) S)
    (k : ℕ) (low : k < 2 ^ width f) (page : 1 ≤ (leaf_at b0 (bits (width f) k)).0) where
  abbrev h : Head
  h = head_of s

  abbrev key : Key
  key = bits (width f) k

  abbrev C : ℕ
  C = h.capacity

  abbrev all : List (Trie ℕ)
  all = b ∷ cs

  abbrev ns : List ℕ
  ns = released_nodes s

  abbrev ps : List ℕ
  ps = released_pages f s

  abbrev p : Plan
  p = plan f s b0 all r k low page

  abbrev G : Pages
  G = g f s b0 all r k low page

  abbrev E : Rattle.remove.proofs.PagePhase.Ended f s b0 all r k low G
  E = page_ended f s b0 all r k low page

  abbrev S' : List Item
  S' = without key_of k S

  abbrev c : Stretch
  c = (G.page, G.items)

  abbrev b0' : Trie Stretch
  b0' = set_at G.used b0 key (leaf c)

  abbrev u : Trie ℕ
  u = numbers b0

  abbrev w : Trie ℕ
  w = collapsed G.used G.page u key

  C_low : 1 ≤ C
  C_low = (sizes_limits _ _ _ _ r.sized.sizes).capacity_low

  bounded : Bounded key_of (2 ^ width f) S
  bounded = lawful_bounded f S lawful

  deep : G.used ≤ depth b0 key
  deep = omega (arith, E.within, depth_relabel (λ (x : Stretch). x.1) b0 key)

  deep_u : G.used ≤ depth u key
  deep_u = omega (arith, deep, depth_relabel (λ (x : Stretch). x.0) b0 key)

  numbers_is : numbers b0' ≡ w
  numbers_is = set_relabel (λ (x : Stretch). x.0) G.used b0 key (leaf c) ∙ set_collapsed G.used G.page u key

  pub tree' : contents b0' ≡ build key_of C (width f) S'
  tree' =
      set_relabel (λ (x : Stretch). x.1) G.used b0 key (leaf c) ∙ sym E.is
      ∙ ap (λ (t : Trie (List Item)). removed key_of C k t key) tree
      ∙ sym (build_without key_of C (width f) 0 k S sorted (bounded_prefix key_of (width f) S bounded))

  sorted' : Sorted key_of S'
  sorted' = sorted_without key_of k S sorted

  lawful' : All (λ it. lawful_item f it ≡ true) S'
  lawful' = all_without key_of (λ it. lawful_item f it ≡ true) k S lawful

  good : Keyed (width f) 0 b0' × Each (Good f C) b0'
  good =
      built f C C_low (width f) 0 S' sorted' lawful' (bounded_prefix key_of (width f) S' (lawful_bounded f S' lawful')) b0' tree'

  own_good : Good f C c
  own_good = subst (Good f C) (leaf_at_set G.used b0 key c deep) (each_at (Good f C) b0' key good.1)

  -- the numbers of pages
  page_once : (n : ℕ) → 1 ≤ n → occ n u + count n ps ≤ 1
  page_once n a =
      elim (dec_le n h.pages_taken) [
        | yes q ↦ omega (arith, r.pages.one_for_one.once n a q)
        | no q ↦ omega (arith, r.pages.one_for_one.none n (omega arith))
      ]

  page_total : (n : ℕ) → 1 ≤ n → occ n u ≡ occ n w + count n G.released
  page_total n a = omega (arith, freed n G.used G.page u key deep_u, E.parts n a)

  page_in_lem : (n : ℕ) → 1 ≤ n → 1 ≤ occ n u → n ≤ h.pages_taken
  page_in_lem n a o =
      elim (dec_le n h.pages_taken) [
        | yes q ↦ q
        | no q ↦ absurd (omega (arith, o, r.pages.one_for_one.none n (omega arith)))
      ]

  released_in : (n : ℕ) → 1 ≤ count n G.released → (1 ≤ n) × (n ≤ h.pages_taken)
  released_in n o =
      let a : 1 ≤ n =
      elim (dec_le 1 n) [
        | yes q ↦ q
        | no q ↦ let e : n ≡ 0 = omega arith in absurd (omega (arith, o, E.sound, ap (λ (i : ℕ). count i G.released) e))
      ] in
      (a, page_in_lem n a (omega (arith, page_total n a, o)))

  own_in : 1 ≤ G.page → G.page ≤ h.pages_taken
  own_in a =
      page_in_lem G.page a
      (omega (arith, E.parts G.page a, ind_self G.page, occ_sub G.page G.used u key))

  own_apart : 1 ≤ G.page → (count G.page G.released ≡ 0) × (count G.page ps ≡ 0)
  own_apart a =
      let i = E.parts G.page a in
      let o = occ_sub G.page G.used u key in
      let n = page_once G.page a in
      (omega (arith, i, o, n, ind_self G.page), omega (arith, i, o, n, ind_self G.page))

  -- what the plan asks
  module _ (x : Spot) (xs : List Spot) (spots : (z f s b0 all r k low page).spots ≡ x ∷ xs) where
    abbrev freed_nodes : List ℕ
    freed_nodes = (z f s b0 all r k low page).released

    st : Standing f s b0 all r k low 0 u w all (x ∷ xs)
    st = subst (Standing f s b0 all r k low 0 u w all) spots (levels_ended f s b0 all r k low page).standing

    parts : (n : ℕ) → occs n all ≡ occs n (Rattle.remove.proofs.LevelsPhase.new_levels key all (x ∷ xs)) + count n freed_nodes
    parts n =
        (levels_ended f s b0 all r k low page).parts n
        ∙ ap (λ (ys : List Spot). occs n (Rattle.remove.proofs.LevelsPhase.new_levels key all ys) + count n freed_nodes) spots

    spots_are : p.spots ≡ x ∷ kept_upper xs
    spots_are = ap kept_levels spots

    nodes_are : p.nodes ≡ freed_nodes ++ gone_roots (x ∷ xs)
    nodes_are = ap (λ (ys : List Spot). freed_nodes ++ gone_roots ys) spots

    linked_is : p.linked ≡ ltb x.used (depth b key)
    unfolding first_used
    linked_is = ap (λ (ys : List Spot). ltb (first_spot ys).used (depth b key)) spots
        ∙ ap (λ (y : Spot). ltb y.used (depth b key)) (first_spot_lem x xs)

    abbrev gone : List ℕ
    gone = freed_nodes ++ gone_roots (x ∷ xs)

    D : Doable f s p
    D =
        record {
          room = r.sized.long;
          capacity = C_low;
          own = elim (ℕ_discrete G.page 0) [
            | yes e ↦ inl e
            | no e ↦
                let a : 1 ≤ G.page = omega (arith, e) in
                inr (a, omega (arith, own_in a, r.pages_fit), own_good.fits)
          ];
          spots = subst (λ (ys : List Spot). Rattle.remove.specs.Doable.Writable s ys) (sym spots_are)
              (spots_writable f s b0 b cs r k low G.used G.page x xs freed_nodes st parts);
          link = λ e.
              omega (
                arith,
                ap (λ (ys : List Spot). Rattle.node.specs.Node.forward_word (first_spot ys).block 0) spots_are,
                ap (λ (y : Spot). Rattle.node.specs.Node.forward_word y.block 0) (first_spot_lem x (kept_upper xs)),
                forward_fits f s b0 b cs r k low G.used G.page x xs freed_nodes st parts,
                r.nodes_fit,
              );
          pages = in_of h.page_blocks G.released (λ n o. let i = released_in n o in (i.0, omega (arith, i.1, r.pages_fit)));
          nodes = subst (Rattle.remove.specs.Doable.In h.node_blocks) (sym nodes_are)
              (in_of h.node_blocks gone
              (λ n o.
              let t = Rattle.remove.proofs.Outcome.total f s b0 b cs r k low G.used G.page x xs freed_nodes st parts n in
              let i = taken f s b0 all r n (omega (arith, t, o)) in
              (i.0, omega (arith, i.1, r.nodes_fit))));
        }

    abbrev t : List ℕ
    t = t₆ f s p

    framed : Framed f s t (NodeWritten p) (PageWritten p) HeadWritten
    framed = written_framed f s p D

    K : Kept f s t
    K = framed.kept

    -- pages
    page_same : (n : ℕ) → 1 ≤ n → occ n (sub G.used u key) < occ n u → page_of f t n ≡ page_of f s n
    page_same n a o =
        let i = E.parts n a in
        let one = page_once n a in
        framed.page n a (omega (arith, page_in_lem n a (omega (arith, o)), r.pages_fit))
        (λ q. elim q [ inl e ↦ omega (arith, i, one, o, ind_eq n G.page e) | inr e ↦ omega (arith, i, one, o, e) ])

    lawful_of : (x : Stretch) → Good f C x → PageIs f t (head_of t) x → Lawful f t (head_of t) x
    lawful_of x w q =
        record { page = q; fits = omega (arith, w.fits, K.within.sizes_same.capacity); lawful = w.lawful; sorted = w.sorted }

    old_lawful : (x : Stretch) → Apart G.used b0 key x → Lawful f s h x → Lawful f t (head_of t) x
    old_lawful (n, []) o l =
        record { page = l.page; fits = omega (arith, l.fits, K.within.sizes_same.capacity); lawful = l.lawful; sorted = l.sorted }
    old_lawful (n, it ∷ its) o l =
        record {
          page = (
            l.page.0,
            page_same n l.page.0 o ∙ l.page.1
                ∙ ap (λ i. page_image f i (it ∷ its)) (sym K.within.sizes_same.capacity),
          );
          fits = omega (arith, l.fits, K.within.sizes_same.capacity);
          lawful = l.lawful;
          sorted = l.sorted;
        }

    own_page : (its : List Item) → its ≡ G.items → PageIs f t (head_of t) (G.page, its)
    own_page [] e = E.null (ap length (sym e))
    own_page (it ∷ its) e =
        let a : 1 ≤ G.page = E.some (omega (arith, ap length e)) in (
          a,
          page_written f s p D a (own_apart a).0 ∙ ap (page_image f C) (sym e)
              ∙ ap (λ i. page_image f i (it ∷ its)) (sym K.within.sizes_same.capacity),
        )

    new_each : Each (Lawful f t (head_of t)) b0'
    new_each =
        each_set (Lawful f s h) (Lawful f t (head_of t)) G.used b0 key c r.pages.each deep old_lawful
        (lawful_of c own_good (own_page G.items refl))

    pages_chain : PageChain f t (backwards ps p.pages)
    unfolding released_pages
    pages_chain =
        page_chain f s p D r.sized ps
        (in_of h.page_blocks ps (λ n o. let i = released_page_lem f s b0 all r n o in (i.0, omega (arith, i.1, r.pages_fit))))
        (λ n.
        elim (dec_le 1 n) [
          | yes a ↦ omega (arith, page_total n a, page_once n a)
          | no a ↦
              let e : n ≡ 0 = omega arith in
              omega (arith, E.sound, r.pages.spare_positive, ap (λ (i : ℕ). count i G.released) e, ap (λ (i : ℕ). count i ps) e)
        ])
        (elim (dec_le 1 G.page) [
          | yes a ↦ (own_apart a).1
          | no a ↦
              let e : G.page ≡ 0 = omega arith in
              ap (λ (i : ℕ). count i ps) e ∙ r.pages.spare_positive
        ])
        (refl, r.released_pages)

    pages_now : released_pages f t ≡ backwards ps G.released
    unfolding released_pages
    pages_now = pages_chain.0

    page_sum : (n : ℕ) → 1 ≤ n → occ n (numbers b0') + count n (released_pages f t) ≡ occ n u + count n ps
    page_sum n a =
        omega (arith, ap (occ n) numbers_is, page_total n a, ap (count n) pages_now, count_backwards n ps G.released)

    new_pages : Rattle.represent.specs.Rep.Pages f t (head_of t) b0'
    new_pages =
        record {
          each = new_each;
          keyed = good.0;
          one_for_one = record {
            once = λ n a e. page_sum n a ∙ r.pages.one_for_one.once n a (omega (arith, e, K.filled));
            none = λ n a. page_sum n (omega arith) ∙ r.pages.one_for_one.none n (omega (arith, a, K.filled));
          };
          spare_positive = ap (count 0) pages_now ∙ count_backwards 0 ps G.released ∙ omega (arith, r.pages.spare_positive, E.sound);
        }

    free_page : (n : ℕ) → h.pages_taken < n → n ≤ h.page_blocks → page_of f t n ≡ page_of f s n
    free_page n a e =
        framed.page n (omega arith) e
        (λ q.
        elim q [
          | inl i ↦ omega (arith, a, i, own_in (omega (arith, a, i)))
          | inr i ↦ omega (arith, a, (released_in n i).1)
        ])

    abbrev bs' : List (Trie ℕ)
    bs' = collapsed x.used x.number b key ∷ upper_levels f s b0 all r k low cs xs

    nodes_chain : NodeChain t (backwards ns p.nodes)
    unfolding released_nodes
    nodes_chain =
        node_chain f s p D r.sized ns
        (in_of h.node_blocks ns (λ n o. let i = released_node_lem f s b0 all r n o in (i.0, omega (arith, i.1, r.nodes_fit))))
        (λ n.
        omega (
          arith,
          ap (count n) nodes_are,
          gone_apart f s b0 b cs r k low G.used G.page x xs freed_nodes st parts p spots_are nodes_are linked_is D n,
        ))
        (chain_apart f s b0 b cs r k low G.used G.page x xs freed_nodes st parts p spots_are nodes_are linked_is D)
        (refl, r.released_nodes)

    nodes_now : released_nodes t ≡ backwards ns gone
    unfolding released_nodes
    nodes_now = nodes_chain.0 ∙ ap (backwards ns) nodes_are

    directory : Directory (head_of t).theta (node_at t (head_of t)) (head_of t).root (head_of t).levels (head_of t).nodes_taken
        (λ n. count n (released_nodes t)) (numbers b0') bs'
    directory =
        at K.within.sizes_same.theta (root_written f s p D) (levels_written f s p D) K.taken numbers_is nodes_now
        (new_directory f s b0 b cs r k low G.used G.page x xs freed_nodes st parts p spots_are nodes_are linked_is D)
      where
        at : {θ θ' root root' levels levels' taken taken' : ℕ} {v v' : Trie ℕ} {ms ms' : List ℕ} → θ' ≡ θ → root' ≡ root → levels' ≡ levels
            → taken' ≡ taken → v' ≡ v → ms' ≡ ms → Directory θ (node_of t) root levels taken (λ n. count n ms) v bs'
            → Directory θ' (node_of t) root' levels' taken' (λ n. count n ms') v' bs'
        at e₁ e₂ e₃ e₄ e₅ e₆ d = rw (e₁, e₂, e₃, e₄, e₅, e₆) d

    pub new_rep : Rep f t b0' bs'
    new_rep =
        record {
          sized = sized_kept f s t K r.sized;
          nodes_fit = omega (arith, K.taken, K.within.sizes_same.nodes, r.nodes_fit);
          pages_fit = omega (arith, K.filled, K.within.sizes_same.pages, r.pages_fit);
          directory = directory;
          pages = new_pages;
          free_nodes = λ n a e.
              free_same f s b0 b cs r k low G.used G.page x xs freed_nodes st parts p spots_are nodes_are linked_is D n
              (omega (arith, a, K.taken))
              (omega (arith, e, K.within.sizes_same.nodes))
              ∙ r.free_nodes n (omega (arith, a, K.taken)) (omega (arith, e, K.within.sizes_same.nodes))
              ∙ ap (λ i. replicate (node_words i) 0) (sym K.within.sizes_same.theta);
          free_pages = λ n a e.
              free_page n (omega (arith, a, K.filled)) (omega (arith, e, K.within.sizes_same.pages))
              ∙ r.free_pages n (omega (arith, a, K.filled)) (omega (arith, e, K.within.sizes_same.pages))
              ∙ ap (λ i. replicate (page_words f i) 0) (sym K.within.sizes_same.capacity);
          released_nodes = nodes_chain.1;
          released_pages = pages_chain.1;
        }

    pub new_holds : Holds f t S'
    new_holds =
        record {
          b0 = b0';
          bs = bs';
          rep = new_rep;
          tree = tree' ∙ ap (λ i. build key_of i (width f) S') (sym K.within.sizes_same.capacity);
          sorted = sorted';
          lawful = lawful';
        }

    pub new_kept : Kept f s t
    new_kept = K

-- the records that a search finds
is_record_lem : Sought → Bool
is_record_lem (Record it) = true
is_record_lem Nothing = false
is_record_lem Damaged = false

some_there : (test : Item → Bool) (xs : List Item) (it : Item) → first_where test xs ≡ Record it → 1 ≤ length xs
unfolding first_where is_record_lem
some_there test [] it e = absurd (false≢true (ap is_record_lem e))
some_there test (x ∷ xs) it e = omega arith

none_there : (k : ℕ) (xs : List Item) → first_where (λ it. eqb it.key k) xs ≡ Nothing → contains key_of k xs ≡ false
unfolding first_where contains is_record_lem
none_there k [] e = refl
none_there k (x ∷ xs) e =
    elim (bool_cases (eqb x.key k)) [
      | inl a ↦ absurd (false≢true (sym (ap is_record_lem (rw (a, first_where) at e))))
      | inr a ↦ rw a (none_there k xs (rw (a, first_where) at e))
    ]

is_damaged : Sought → Bool
is_damaged Damaged = true
is_damaged Nothing = false
is_damaged (Record it) = false

never_damaged : (test : Item → Bool) (xs : List Item) → first_where test xs ≡ Damaged → ⊥
unfolding first_where is_damaged
never_damaged test [] e = false≢true (ap is_damaged e)
never_damaged test (x ∷ xs) e =
    elim (bool_cases (test x)) [
      | inl a ↦ false≢true (ap is_damaged (rw (a, first_where) at e))
      | inr a ↦ never_damaged test xs (rw (a, first_where) at e)
    ]

record Step (f : Format) (s : List ℕ) (S : List Item) (k : ℕ) (q : Plan) : Type 0 where
  fine : q.ok ≡ true
  holds : Holds f (written_by f s (head_of s) q) (without key_of k S)
  kept : Kept f s (written_by f s (head_of s) q)

held_step : (f : Format) (s : List ℕ) (S : List Item) (b0 : Trie Stretch) (bs : List (Trie ℕ)) (r : Rep f s b0 bs)
    → contents b0 ≡ build key_of (head_of s).capacity (width f) S → Sorted key_of S → All (λ it. lawful_item f it ≡ true) S → (k : ℕ)
    → k < 2 ^ width f
    → 1 ≤ (leaf_at b0 (bits (width f) k)).0 → Step f s S k (plan_of f s (head_of s) k (descent f s (head_of s) k))
held_step f s S b0 [] r tree sorted lawful k low page = absurd r.directory.links
held_step f s S b0 (b ∷ cs) r tree sorted lawful k low page =
    subst (Step f s S k) (sym (plan_of_lem f s b0 (b ∷ cs) r k low page)) (go (z f s b0 (b ∷ cs) r k low page).spots refl)
  where
    go : (ys : List Spot) → (z f s b0 (b ∷ cs) r k low page).spots ≡ ys → Step f s S k (plan f s b0 (b ∷ cs) r k low page)
    go [] e =
        absurd (subst
        (Standing f s b0 (b ∷ cs) r k low 0 (numbers b0)
        (collapsed (g f s b0 (b ∷ cs) r k low page).used (g f s b0 (b ∷ cs) r k low page).page (numbers b0) (bits (width f) k)) (b ∷ cs)) e
        (levels_ended f s b0 (b ∷ cs) r k low page).standing)
    go (x ∷ xs) e =
        record {
          fine = refl;
          holds = new_holds f s S b0 b cs r tree sorted lawful k low page x xs e;
          kept = new_kept f s S b0 b cs r tree sorted lawful k low page x xs e;
        }

module _ (f : Format) (s : List ℕ) (S : List Item) (H : Holds f s S) (k : ℕ) (low : k < 2 ^ width f) where
  abbrev hd : Head
  hd = head_of s

  found_is : find_of f s hd k ≡ first_where (λ it. eqb it.key k) S
  found_is = find_holds f s S H k low

  found_page : (it : Item) → find_of f s hd k ≡ Record it → 1 ≤ (leaf_at H.b0 (bits (width f) k)).0
  found_page it e =
      let own : Stretch = leaf_at H.b0 (bits (width f) k) in
      let some : 1 ≤ length own.1 =
      some_there (λ it. eqb it.key k) own.1 it
      (sym (sym e ∙ found_is ∙ ap (first_where (λ it. eqb it.key k)) (sym (list_is f s S H))
      ∙ find_own (width f) k H.b0 H.rep.pages.keyed low)) in
      Rattle.remove.proofs.PagePhase.page_some f s hd own
      (each_at (Lawful f s hd) H.b0 (bits (width f) k) H.rep.pages.each) some

  removal_is : remove_of f s k ≡ found_of f s hd k (find_of f s hd k)
  unfolding remove_of
  removal_is = rw (head_passes f s S H, remove_of)

  done_is : (it : Item) (q : Plan) → q.ok ≡ true
      → carried_out f s hd it q ≡ record { reply = record { number = 0; item = it }; words = written_by f s hd q }
  unfolding carried_out
  done_is it q e = arm q.ok e
    where
      done : Rattle.remove.specs.Remove.After
      done = record { reply = record { number = 0; item = it }; words = written_by f s hd q }

      out : Bool → Rattle.remove.specs.Remove.After
      out b = elim b [ false ↦ Rattle.remove.specs.Remove.same s 9 | true ↦ done ]

      arm : (b : Bool) → b ≡ true → out b ≡ done
      arm true z = refl
      arm false z = absurd (false≢true z)

  step : (a : Sought) → find_of f s hd k ≡ a → Removed f s S k
  unfolding found_of find_in
  step Damaged e = absurd (never_damaged (λ it. eqb it.key k) S (sym found_is ∙ e))
  step Nothing e =
      let is : remove_of f s k ≡ Rattle.remove.specs.Remove.same s 1 = removal_is ∙ ap (found_of f s hd k) e in
      let absent : without key_of k S ≡ S = absent_stays key_of k S (none_there k S (sym found_is ∙ e)) in
      record {
        reply = ap (λ a. a.reply) is ∙ ap sought_reply (sym e ∙ found_is);
        holds = subst (λ (t : List ℕ). Holds f t (without key_of k S)) (sym (ap (λ a. a.words) is)) (subst (Holds f s) (sym absent) H);
        kept = subst (Kept f s) (sym (ap (λ a. a.words) is)) (kept_self f s);
      }
  step (Record it) e =
      let q : Plan = plan_of f s hd k (descent f s hd k) in
      let z : Step f s S k q = held_step f s S H.b0 H.bs H.rep H.tree H.sorted H.lawful k low (found_page it e) in
      let is : remove_of f s k ≡ record { reply = record { number = 0; item = it }; words = written_by f s hd q } =
      removal_is ∙ ap (found_of f s hd k) e ∙ done_is it q z.fine in
      record {
        reply = ap (λ a. a.reply) is ∙ ap sought_reply (sym e ∙ found_is);
        holds = subst (λ (t : List ℕ). Holds f t (without key_of k S)) (sym (ap (λ a. a.words) is)) z.holds;
        kept = subst (Kept f s) (sym (ap (λ a. a.words) is)) z.kept;
      }

pub remove_steps : (f : Format) (s : List ℕ) (S : List Item) → RemoveSteps f s S
remove_steps f s S H k low = step f s S H k low (find_of f s (head_of s) k) refl
