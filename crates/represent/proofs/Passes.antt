-- Every node and every page of a represented store keeps its rule. A node's entries are those of a trie, so its runs are good; its pointers
-- and links are labels, which are numbers of blocks in use.
use mathlib.Core.Path.{◌≡◌, refl, sym, subst}
use mathlib.Core.Bool.{true}
use mathlib.Core.List.{List, [], ◌∷◌}
use Prim.Native.Nat.{ℕ, suc, ◌+◌, ◌-◌, ◌/◌, ◌^◌, ◌≤◌}
use native.Mathlib.Nat.{div-eq_of_lt}
use native.Mathlib.Omega.{arith}
use borrow.Author.Tests.{eq-eqb, le-leb}
use Rattle.lists.specs.Bits.{bits}
use Rattle.lists.specs.Keyed.{Prefix}
use Rattle.tree.specs.Trie.{Trie, height, labels, leaf_at, depth}
use Rattle.tree.proofs.Flatten.{entry}
use Rattle.store.specs.declared.Format.{Format}
use Rattle.store.specs.declared.Head.{Head}
use Rattle.store.specs.Format.{width}
use Rattle.store.specs.Head.{head_of, node_start, page_at, node_at}
use Rattle.store.specs.Released.{released_nodes, released_pages}
use Rattle.node.specs.Node.{back_word, forward_word, entry_of, link_rule, pointer_low, pointer_high, node_rule}
use Rattle.node.proofs.RunWalk.{Points, trie_is_good}
use Rattle.node.proofs.NodeLaws.{link_1, link_above, low_1, low_above, high_1, high_above, facts_node}
use Rattle.page.specs.Page.{page_rule, agrees}
use Rattle.represent.specs.Labelled.{Each, occ, occs, count, Over}
use Rattle.represent.specs.Image.{NodeIs}
use Rattle.page.specs.Schema.{key_of}
use Rattle.represent.specs.Rep.{Stretch, numbers, Nodes, back_of, forward_of, Unlinked, Lawful, Rep}
use Rattle.represent.specs.Promises.{RulesAbove, NodesPass, PagesPass, AgreesPasses}
use Rattle.represent.proofs.LabelLaws.{label_low, label_high, each_map, each_at, each_labels, labels_each, each_of, each_label}
use Rattle.represent.proofs.LabelLaws.{leaf_at_relabel, over_in, over_parts}
use Rattle.represent.proofs.Chain.{linked_all}
use Rattle.represent.proofs.ImageLaws.{entry_label, Shown}
use Rattle.represent.proofs.RepLaws.{rep_shown, rep_back, rep_forward}
use Rattle.represent.proofs.PageImage.{page_passes, page_agrees}
use Rattle.represent.proofs.Keyed.{keyed_own}

-- pages
module _ (f : Format) (s : List ℕ) (h : Head) where
  pub page_rule_lem : (x : Stretch) → Lawful f s h x → (x.0 ≡ 0 → ⊥) → page_rule f h.capacity (page_at f s h x.0) ≡ true
  page_rule_lem (p, []) l n = absurd (n l.page)
  page_rule_lem (p, r ∷ rs) l n =
      page_passes f h.capacity (page_at f s h p) (r ∷ rs) l.page.1 l.lawful (omega arith) l.fits l.sorted

  pub page_agreed : (x : Stretch) (k used : ℕ) → Lawful f s h x → (x.0 ≡ 0 → ⊥)
      → Prefix key_of (width f - used) (k / 2 ^ (width f - used)) x.1
      → agrees f (page_at f s h x.0) k used ≡ true
  page_agreed (p, []) k used l n a = absurd (n l.page)
  page_agreed (p, r ∷ rs) k used l n a = page_agrees f h.capacity (page_at f s h p) (r ∷ rs) l.page.1 l.lawful k used a

pub pages_pass : PagesPass
pages_pass f s b0 bs r = each_map (λ x. x.0) (Lawful f s (head_of s)) _ b0 (λ x o. page_rule_lem f s (head_of s) x) r.pages.each

pub agrees_passes : AgreesPasses
agrees_passes f s b0 bs k r low =
    rw (leaf_at_relabel (λ x. x.0) b0 (bits (width f) k))
    (λ n. page_agreed f s (head_of s) (leaf_at b0 (bits (width f) k)) k (depth b0 (bits (width f) k))
    (each_at (Lawful f s (head_of s)) b0 (bits (width f) k) r.pages.each) n
    (keyed_own (width f) 0 k b0 r.pages.keyed (div-eq_of_lt low)))

-- a trie over another: P of each leaf and what stands there, whose labels are labels of the whole
pub over_each : (P : ℕ → Trie ℕ → Type 0) (Q : ℕ → Type 0) (b u : Trie ℕ)
    → ((n : ℕ) (v : Trie ℕ) → 1 ≤ occ n b → ((x : ℕ) → occ x v ≤ occ x u) → P n v → Q n) → Over P b u → Each Q b
over_each P Q b u g h =
    each_of Q b (λ n o.
    let w = over_in (λ n v. P n v × ((x : ℕ) → occ x v ≤ occ x u)) b u n o (over_parts P b u h) in
    g n w.0 o w.1.1 w.1.0)

pub node_passes : (h : Head) (s : List ℕ) (at level : ℕ) (v : Trie ℕ) → Shown s at h.theta level v
    → ((x : ℕ) → 1 ≤ occ x v → (pointer_low level ≤ x) × (x ≤ pointer_high h level))
    → link_rule h level (back_word s at) (forward_word s at) ≡ true
    → node_rule h s at level ≡ true
node_passes h s at level v w points links =
    facts_node h s at level
    (record {
      depth = omega (arith, w.depth, w.low);
      level_is = w.level_is;
      links = links;
      runs = rw w.depth
          (trie_is_good (height v) (pointer_low level) (pointer_high h level) (entry_of s at) v refl w.entry
          (λ j l.
          subst (Points (pointer_low level) (pointer_high h level)) (sym (w.entry j l))
          (points _ (entry_label (height v) v j (omega arith) l))));
      rest = rw w.depth w.blank;
    })

module _ (f : Format) (s : List ℕ) (b0 : Trie Stretch) (all : List (Trie ℕ)) (r : Rep f s b0 all) where
  abbrev h : Head
  h = head_of s

  abbrev node : ℕ → List ℕ
  node = node_at s h

  -- a label of the levels is the number of a taken node
  pub taken : (n : ℕ) → 1 ≤ occs n all → (1 ≤ n) × (n ≤ h.nodes_taken)
  taken n o = (label_low all n r.directory.positive o, label_high h.nodes_taken (λ x. occs x all + count x (released_nodes s)) n r.directory.one_for_one.none (omega arith))

  rule_at : (n level : ℕ) (v : Trie ℕ) → 1 ≤ occs n all → NodeIs h.theta (node n) level v
      → ((x : ℕ) → 1 ≤ occ x v → (pointer_low level ≤ x) × (x ≤ pointer_high h level))
      → link_rule h level (back_of node n) (forward_of node n) ≡ true → node_rule h s (node_start h n) level ≡ true
  rule_at n level v o is points links =
      node_passes h s (node_start h n) level v (rep_shown f s b0 all r n level v o is) points
      (rw (rep_back f s b0 all r n level v o is, rep_forward f s b0 all r n level v o is) links)

  -- above level 1: u is the level below
  upper : (k : ℕ) (u : Trie ℕ) (bs : List (Trie ℕ)) → ((x : ℕ) → occ x u + occs x bs ≤ occs x all)
      → ((n : ℕ) → 1 ≤ occs n bs → Unlinked node n) → Nodes h.theta node h.root h.levels (suc k) u bs → RulesAbove h s (suc k) bs
  upper k u [] i w p = tt
  upper k u (b ∷ bs) i w p = (
    over_each (λ n v. NodeIs h.theta (node n) (suc (suc k)) v) _ b u
        (λ n v o j is.
        rule_at n (suc (suc k)) v (omega (arith, i n)) is
        (λ x q.
        let t = taken x (omega (arith, i x, j x)) in (
          omega (arith, low_above (suc (suc k)) (λ e. omega arith), t.0),
          omega (arith, high_above h (suc (suc k)) (λ e. omega arith), t.1),
        ))
        (let l = w n (omega arith) in
        sym (link_above h (suc (suc k)) _ _ true true (λ e. omega arith) (sym (eq-eqb _ 0 l.no_back))
        (sym (eq-eqb _ 0 l.no_forward)))))
        p.0,
    upper (suc k) b bs (λ x. omega (arith, i x)) (λ n o. w n (omega arith)) p.1,
  )

module _ (f : Format) (s : List ℕ) (b0 : Trie Stretch) (b : Trie ℕ) (bs : List (Trie ℕ)) (r : Rep f s b0 (b ∷ bs)) where
  abbrev LinksTaken : ℕ → Type 0
  LinksTaken n =
      (back_of (node_at s (head_of s)) n ≤ (head_of s).nodes_taken) × (forward_of (node_at s (head_of s)) n ≤ (head_of s).nodes_taken)

  links_taken : Each LinksTaken b
  links_taken =
      let below : Each (λ n. n ≤ (head_of s).nodes_taken) b = each_of _ b (λ n o. (taken f s b0 (b ∷ bs) r n (omega arith)).1) in
      labels_each LinksTaken b
      (linked_all _ _ (λ n. n ≤ (head_of s).nodes_taken) 0 (labels b) (omega arith) (omega arith)
      (each_labels (λ n. n ≤ (head_of s).nodes_taken) b below) r.directory.links.0)

  lowest : Each (λ n. node_rule (head_of s) s (node_start (head_of s) n) 1 ≡ true) b
  lowest =
      over_each (λ n v. NodeIs (head_of s).theta (node_at s (head_of s) n) 1 v) _ b (numbers b0)
      (λ n v o j is.
      rule_at f s b0 (b ∷ bs) r n 1 v (omega arith) is
      (λ x q.
      let t = label_high (head_of s).pages_taken (λ p. occ p (numbers b0) + count p (released_pages f s)) x r.pages.one_for_one.none (omega (arith, j x)) in
      (omega (arith, low_1 1 refl), omega (arith, high_1 (head_of s) 1 refl, t)))
      (let l = each_label LinksTaken b n links_taken o in
      sym (link_1 (head_of s) 1 _ _ true true refl (sym (le-leb _ (head_of s).nodes_taken l.0))
      (sym (le-leb _ (head_of s).nodes_taken l.1)))))
      r.directory.nodes.0

pub nodes_pass : NodesPass
nodes_pass f s b0 [] r = tt
nodes_pass f s b0 (b ∷ bs) r =
    (lowest f s b0 b bs r, upper f s b0 (b ∷ bs) r 0 b bs (λ x. omega arith) r.directory.links.1 r.directory.nodes.1)
