-- The report's clauses of a represented store. Every node in use is a label of some level and stands over a trie of the level below, so its
-- entries are that trie's and its pointers are labels of that level, where no label but null occurs twice. The nodes that a key passes are
-- the labels at the key; the terminal nodes are the labels of level 1, left to right, and a key leads to each.
use mathlib.Core.Path.{◌≡◌, refl, sym, ap, ◌∙◌, subst}
use mathlib.Core.Bool.{true}
use mathlib.Core.Logic.{◌⊎◌, inl, inr}
use mathlib.Core.List.{List, [], ◌∷◌, ◌++◌, Memᴰ}
use Prim.Native.Nat.{ℕ, zero, suc, ◌+◌, ◌-◌, ◌*◌, ◌%◌, ◌^◌, ◌≤◌, ◌<◌}
use native.Mathlib.Omega.{arith}
use native.Mathlib.Decide.{ℕ_discrete, dec_le}
use native.Mathlib.Nat.{sub-le}
use lib.ListN.{length, get_or, replicate}
use Rattle.lists.specs.Bits.{bit, bits, index}
use Rattle.lists.proofs.Cases.{bool_cases}
use Rattle.lists.proofs.Powers.{run_lt}
use Rattle.lists.proofs.BitLaws.{index_lt, index_own}
use Rattle.tree.specs.Trie.{Trie, leaf, fork, Key, height, labels, leaf_at, rest}
use Rattle.tree.specs.Node.{flatten, RunRule}
use Rattle.tree.proofs.TrieLaws.{depth_le_height}
use Rattle.tree.proofs.NodePromises.{at_key, obeys}
use Rattle.store.specs.declared.Format.{Format}
use Rattle.store.specs.Format.{width}
use Rattle.store.specs.Head.{head_of, zeros, page_at, node_at}
use Rattle.store.specs.Released.{released_nodes, released_pages}
use Rattle.node.specs.Node.{depth_word, level_word, entry_depth, entry_pointer, entry_of}
use Rattle.page.specs.Page.{page_rule}
use Rattle.search.specs.Descent.{no_step, descent}
use Rattle.represent.specs.Labelled.{Each, occ, occs, count as counted, Over, under, before, after}
use Rattle.represent.specs.Image.{NodeIs}
use Rattle.represent.specs.Rep.{Stretch, numbers, Rep}
use Rattle.represent.specs.Promises.{path_steps}
use Rattle.readings.specs.Clauses.{start, PointsDown, run_of, Entry, NotBefore, passed, terminal}
use Rattle.readings.specs.Clauses.{NodeInUse, Balanced, Terminal, InKeyOrder, Clauses}
use Rattle.represent.proofs.LabelLaws.{label_low, label_high, ind_other, occ_at, labels_at, over_at, leaf_at_under, over_in, over_parts}
use Rattle.represent.proofs.LabelLaws.{each_labels, each_of, each_label, each_relabel}
use Rattle.represent.proofs.ImageLaws.{entry_label, Shown}
use Rattle.represent.proofs.RepLaws.{rep_shown}
use Rattle.represent.proofs.Links.{rep_once, rep_linked}
use Rattle.represent.proofs.HeadPasses.{top_level}
use Rattle.represent.proofs.DescentVisits.{height_over, height_relabel}
use Rattle.represent.proofs.Keyed.{height_keyed}
use Rattle.readings.proofs.Once.{key_to, one_run}
use Rattle.readings.proofs.Levels.{level_of, level_part, level_in, level_over, level_last, step_node}

-- entry i of an array that a trie gives
module _ (e : ℕ → ℕ × ℕ) (v : Trie ℕ) (is : (j : ℕ) → j < 2 ^ height v → e j ≡ get_or (flatten (height v) v 0) j (0, 0))
    (i : ℕ) (l : i < 2 ^ height v) where
  abbrev run : ℕ
  run = 2 ^ (height v - (e i).0)

  entry_in : 1 ≤ occ (e i).1 v
  entry_in = subst (λ x. 1 ≤ occ x.1 v) (sym (is i l)) (entry_label (height v) v i (omega arith) l)

  entry_run : ((e i).0 ≤ height v) × ((j : ℕ) → j < run → e (i - i % run + j) ≡ e i)
  unfolding RunRule
  entry_run =
      let r = rw (← is i l) at (obeys (height v) v (0, 0) (omega arith) i l) in
      (r.0, λ j q. is _ (run_lt (height v) (height v - (e i).0) i j (sub-le (height v) (e i).0) l q) ∙ r.1 j q)

  entry_alone : (j : ℕ) → j < 2 ^ height v → occ (e i).1 v ≤ 1 → (e j).1 ≡ (e i).1 → (i - i % run ≤ j) × (j < i - i % run + run)
  entry_alone j q o p =
      rw (is i l)
      (one_run (height v) v (omega arith) i j l q (rw (is i l) at o) (rw (is i l, is j q) at p))

-- lists of labels
mem_left : {A : Type 0} (x : A) (xs ys : List A) → Memᴰ x xs → Memᴰ x (xs ++ ys)
mem_left x [] ys x'' = elim x'' [ ]
mem_left x (y ∷ xs) ys (Memᴰ.head e) = Memᴰ.head e
mem_left x (y ∷ xs) ys (Memᴰ.tail m) = Memᴰ.tail (mem_left x xs ys m)

mem_right : {A : Type 0} (x : A) (xs ys : List A) → Memᴰ x ys → Memᴰ x (xs ++ ys)
mem_right x [] ys m = m
mem_right x (y ∷ xs) ys m = Memᴰ.tail (mem_right x xs ys m)

occ_mem : (t : Trie ℕ) (n : ℕ) → 1 ≤ occ n t → Memᴰ n (labels t)
occ_mem (leaf m) n o =
    elim (ℕ_discrete n m) [
      | yes e ↦ Memᴰ.head e
      | no e ↦ absurd (omega (arith, ind_other n m e))
    ]
occ_mem (fork l r) n o =
    elim (dec_le 1 (occ n l)) [
      | yes p ↦ mem_left n (labels l) (labels r) (occ_mem l n p)
      | no p ↦ mem_right n (labels l) (labels r) (occ_mem r n (omega arith))
    ]

leaf_mem : (t : Trie ℕ) (k : Key) → Memᴰ (leaf_at t k) (labels t)
leaf_mem t k = occ_mem t (leaf_at t k) (occ_at t k)

-- a larger key has its leaf at the smaller one's, or after it
later : (t : Trie ℕ) (w k k' : ℕ) → index w (bits w k) ≤ index w (bits w k')
    → Memᴰ (leaf_at t (bits w k')) (leaf_at t (bits w k) ∷ after t (bits w k))
later (leaf x) w k k' h = Memᴰ.head refl
later (fork l r) zero k k' h = Memᴰ.head refl
later (fork l r) (suc w) k k' h =
    elim (bool_cases (bit w k)) [
      | inl e ↦
          elim (bool_cases (bit w k')) [
            | inl e' ↦ rw (e, e') (later r w k k' (omega (arith, rw (e, e') at h)))
            | inr e' ↦ absurd (omega (arith, rw (e, e') at h, index_lt w (bits w k')))
          ]
      | inr e ↦
          elim (bool_cases (bit w k')) [
            | inl e' ↦
                rw (e, e') (Memᴰ.tail (mem_right (leaf_at r (bits w k')) (after l (bits w k)) (labels r) (leaf_mem r (bits w k'))))
            | inr e' ↦
                rw (e, e')
                (mem_left (leaf_at l (bits w k')) (leaf_at l (bits w k) ∷ after l (bits w k)) (labels r)
                (later l w k k' (omega (arith, rw (e, e') at h))))
          ]
    ]

module _ (f : Format) (s : List ℕ) (b0 : Trie Stretch) (b : Trie ℕ) (bs : List (Trie ℕ)) (r : Rep f s b0 (b ∷ bs))
    (pass : Each (λ x. (x.0 ≡ 0 → ⊥) → page_rule f (head_of s).capacity (page_at f s (head_of s) x.0) ≡ true) b0)
    (visits : (k : ℕ) → k < 2 ^ width f
    → (descent f s (head_of s) k).steps ≡ path_steps (width f) k (numbers b0) (b ∷ bs) ++ replicate (32 - length (b ∷ bs)) no_step) where
  abbrev node : ℕ → List ℕ
  node n = node_at s (head_of s) n

  abbrev level : ℕ → Trie ℕ
  level = level_of (numbers b0) (b ∷ bs)

  abbrev Shows : ℕ → ℕ → Trie ℕ → Type 0
  Shows l n v = NodeIs (head_of s).theta (node n) (suc l) v

  label : (n : ℕ) → NodeInUse s n → 1 ≤ occs n (b ∷ bs)
  label n t = omega (arith, r.directory.one_for_one.once n t.taken.positive t.taken.within, t.kept)

  taken : (n : ℕ) → 1 ≤ occs n (b ∷ bs) → NodeInUse s n
  taken n o =
      let low = label_low (b ∷ bs) n r.directory.positive o in
      let high = label_high (head_of s).nodes_taken (λ x. occs x (b ∷ bs) + counted x (released_nodes s)) n r.directory.one_for_one.none
      (omega arith) in
      record {
        taken = record { positive = low; within = high };
        kept = omega (arith, r.directory.one_for_one.once n low high);
      }

  count : (head_of s).levels ≡ length (b ∷ bs)
  count = omega (
    arith,
    top_level (head_of s).theta node (head_of s).root (head_of s).levels 0 (numbers b0) (b ∷ bs) r.directory.nodes,
  )

  -- no label but null occurs twice in a level
  once : (l x : ℕ) → l ≤ length bs → 1 ≤ x → occ x (level l) ≤ 1
  once zero x q p =
      elim (dec_le x (head_of s).pages_taken) [
        | yes h ↦ omega (arith, r.pages.one_for_one.once x p h)
        | no h ↦ omega (arith, r.pages.one_for_one.none x (omega arith))
      ]
  once (suc l) x q p = omega (arith, level_part (numbers b0) (b ∷ bs) l x (omega arith), rep_once f s b0 (b ∷ bs) r x)

  -- the labels of level l + 1 are nodes over tries of level l
  module _ (l : ℕ) (q : l < length (b ∷ bs)) where
    over : Over (Shows l) (level (suc l)) (level l)
    over =
        level_over (head_of s).theta node (head_of s).root (head_of s).levels 0 (numbers b0) (b ∷ bs) l l r.directory.nodes q
        (omega arith)

    node_label : (n : ℕ) → 1 ≤ occ n (level (suc l)) → 1 ≤ occs n (b ∷ bs)
    node_label n o = omega (arith, level_part (numbers b0) (b ∷ bs) l n q)

    shown : (n : ℕ) → 1 ≤ occ n (level (suc l)) → (v : Trie ℕ) → Shows l n v → Shown s (start s n) (head_of s).theta (suc l) v
    shown n o v is = rep_shown f s b0 (b ∷ bs) r n (suc l) v (node_label n o) is

    stands : (n : ℕ) → 1 ≤ occ n (level (suc l))
        → (v : Trie ℕ) × Shown s (start s n) (head_of s).theta (suc l) v × ((x : ℕ) → occ x v ≤ occ x (level l))
    stands n o =
        let w = over_in _ (level (suc l)) (level l) n o (over_parts (Shows l) (level (suc l)) (level l) over) in
        (w.0, shown n o w.0 w.1.0, w.1.1)

    level_is : (n : ℕ) → 1 ≤ occ n (level (suc l)) → level_word s (start s n) ≡ suc l
    level_is n o = (stands n o).1.level_is

  -- the level of a node in use
  module _ (n : ℕ) (t : NodeInUse s n) where
    own : (l : ℕ) × (l < length (b ∷ bs)) × (1 ≤ occ n (level (suc l)))
    own = level_in (numbers b0) (b ∷ bs) n (label n t)

    at : (v : Trie ℕ) × Shown s (start s n) (head_of s).theta (suc own.0) v × ((x : ℕ) → occ x v ≤ occ x (level own.0))
    at = stands own.0 own.1 n own.2

    own_is : level_word s (start s n) ≡ suc own.0
    own_is = at.1.level_is

  -- an entry of a node of level l + 1 points to a label of level l
  points : (n i l : ℕ) → l < length (b ∷ bs) → level_word s (start s n) ≡ suc l → 1 ≤ occ (entry_pointer s (start s n) i) (level l)
      → PointsDown s n i
  points n i zero q e o =
      inl (
        e,
        label_high (head_of s).pages_taken (λ p. occ p (numbers b0) + counted p (released_pages f s)) (entry_pointer s (start s n) i)
            r.pages.one_for_one.none (omega arith),
      )
  points n i (suc l) q e o =
      let m = entry_pointer s (start s n) i in
      let q' : l < length (b ∷ bs) = omega arith in
      inr (taken m (node_label l q' m o), ap suc (level_is l q' m o) ∙ sym e)

  module _ (n i : ℕ) (t : NodeInUse s n) (l : i < 2 ^ depth_word s (start s n)) where
    small : i < 2 ^ height (at n t).0
    small = subst (λ H. i < 2 ^ H) (at n t).1.depth l

    below : 1 ≤ occ (entry_pointer s (start s n) i) (level (own n t).0)
    below =
        let p = entry_in (entry_of s (start s n)) (at n t).0 (at n t).1.entry i small in
        omega (arith, (at n t).2 (entry_pointer s (start s n) i))

    down : PointsDown s n i
    down = points n i (own n t).0 (own n t).1 (own_is n t) below

    runs : (entry_depth s (start s n) i ≤ depth_word s (start s n))
        × ((j : ℕ) → j < run_of s n i → entry_of s (start s n) (i - i % run_of s n i + j) ≡ entry_of s (start s n) i)
    runs =
        subst
        (λ H. (entry_depth s (start s n) i ≤ H)
        × ((j : ℕ) → j < 2 ^ (H - entry_depth s (start s n) i)
        → entry_of s (start s n) (i - i % 2 ^ (H - entry_depth s (start s n) i) + j) ≡ entry_of s (start s n) i))
        (sym (at n t).1.depth) (entry_run (entry_of s (start s n)) (at n t).0 (at n t).1.entry i small)

    alone : (j : ℕ) → j < 2 ^ depth_word s (start s n)
        → (entry_pointer s (start s n) i ≡ 0 → ⊥) → entry_pointer s (start s n) j ≡ entry_pointer s (start s n) i
        → (i - i % run_of s n i ≤ j) × (j < i - i % run_of s n i + run_of s n i)
    alone j q z e =
        let x : ℕ = entry_pointer s (start s n) i in
        let single : occ x (at n t).0 ≤ 1 = omega (arith, (at n t).2 x, once (own n t).0 x (omega (arith, (own n t).1)) (omega arith)) in
        subst
        (λ H. (i - i % 2 ^ (H - entry_depth s (start s n) i) ≤ j)
        × (j < i - i % 2 ^ (H - entry_depth s (start s n) i) + 2 ^ (H - entry_depth s (start s n) i)))
        (sym (at n t).1.depth)
        (entry_alone (entry_of s (start s n)) (at n t).0 (at n t).1.entry i small j
        (subst (λ H. j < 2 ^ H) (at n t).1.depth q) single e)

    page : level_word s (start s n) ≡ 1
        → (entry_pointer s (start s n) i ≡ 0)
        ⊎ ((1 ≤ entry_pointer s (start s n) i) × (entry_pointer s (start s n) i ≤ (head_of s).pages_taken)
        × (page_rule f (head_of s).capacity (page_at f s (head_of s) (entry_pointer s (start s n) i)) ≡ true))
    page one =
        elim (ℕ_discrete (entry_pointer s (start s n) i) 0) [
          | yes e ↦ inl e
          | no e ↦
              let first : (own n t).0 ≡ 0 = omega (arith, own_is n t) in
              let o : 1 ≤ occ (entry_pointer s (start s n) i) (numbers b0) =
              subst (λ l. 1 ≤ occ (entry_pointer s (start s n) i) (level l)) first below in
              let w = each_label _ (numbers b0) (entry_pointer s (start s n) i) (each_relabel (λ x. x.0) _ b0 pass) o in
              inr (
                omega arith,
                label_high (head_of s).pages_taken (λ p. occ p (numbers b0) + counted p (released_pages f s)) (entry_pointer s (start s n) i)
                    r.pages.one_for_one.none (omega arith),
                subst (λ p. page_rule f (head_of s).capacity (page_at f s (head_of s) p) ≡ true) w.1 (w.2 (λ q. e (sym w.1 ∙ q))),
              )
        ]

  -- the nodes that a key passes are those at the key
  module _ (k : ℕ) (narrow : k < 2 ^ width f) where
    abbrev key : Key
    key = bits (width f) k

    passes : (l : ℕ) → l < length (b ∷ bs) → passed f s k l ≡ leaf_at (level (suc l)) key
    passes l q = ap (λ ts. (get_or ts l no_step).node) (visits k narrow) ∙ step_node (width f) k (numbers b0) (b ∷ bs) _ l q

    -- the key's entry of the node above points to the node below
    link : (l : ℕ) → suc l < length (b ∷ bs) → Entry s (leaf_at (level (suc (suc l))) key) (leaf_at (level (suc l)) key)
    link l q =
        let c : Trie ℕ = level (suc (suc l)) in
        let v : Trie ℕ = under c (level (suc l)) key in
        let w = shown (suc l) q (leaf_at c key) (occ_at c key) v (over_at (Shows (suc l)) c (level (suc l)) key (over (suc l) q)) in
        let i : ℕ = index (height v) (rest c key) in
        let p : i < 2 ^ height v = index_lt (height v) (rest c key) in (
          i,
          subst (λ H. i < 2 ^ H) (sym w.depth) p,
          ap (λ x. x.1) (w.entry i p ∙ at_key (height v) v (rest c key) (0, 0) (depth_le_height v (rest c key)))
              ∙ leaf_at_under (Shows (suc l)) c (level (suc l)) key (over (suc l) q),
        )

    balance : Balanced f s k
    balance =
        record {
          root = λ l e.
              passes l (omega (arith, count))
              ∙ ap (λ t. leaf_at t key)
              (level_last (head_of s).theta node (head_of s).root (head_of s).levels 0 (numbers b0) (b ∷ bs) (suc l) r.directory.nodes
              (omega (arith, count)));
          nodes = λ l q.
              let q' : l < length (b ∷ bs) = omega (arith, count) in
              let o = occ_at (level (suc l)) key in
              subst (λ n. NodeInUse s n × (level_word s (start s n) ≡ suc l)) (sym (passes l q'))
              (taken _ (node_label l q' _ o), level_is l q' _ o);
          down = λ l q.
              subst (λ n. Entry s n (passed f s k l)) (sym (passes (suc l) (omega (arith, count))))
              (subst (Entry s (leaf_at (level (suc (suc l))) key)) (sym (passes l (omega (arith, count)))) (link l (omega (arith, count))));
        }

    own_terminal : terminal f s k ≡ leaf_at b key
    own_terminal = passes 0 (omega arith)

  low : height b ≤ width f
  low =
      omega (
        arith,
        height_over (Shows 0) b (numbers b0) r.directory.nodes.0,
        height_relabel (λ (x : Stretch). x.0) b0,
        height_keyed (width f) 0 b0 r.pages.keyed,
      )

  terminal_at : (n : ℕ) → 1 ≤ occ n b → Terminal f s n
  terminal_at n o =
      let z = key_to b (width f) n low o in
      record {
        taken = taken n (node_label 0 (omega arith) n o);
        level = level_is 0 (omega arith) n o;
        key = z.0;
        narrow = z.1;
        reached = cc (own_terminal z.0 z.1, z.2);
      }

  key_order : InKeyOrder f s (labels b)
  key_order =
      record {
        terminals = each_labels (Terminal f s) b (each_of (Terminal f s) b terminal_at);
        complete = λ n t one.
            let first : (own n t).0 ≡ 0 = omega (arith, own_is n t) in
            occ_mem b n (subst (λ l. 1 ≤ occ n (level (suc l))) first (own n t).2);
        linked = rep_linked f s b0 b bs r;
        ordered = λ k k' le lt.
            subst (λ n. NotBefore n (terminal f s k') (labels b)) (sym (own_terminal k (omega arith)))
            (subst (λ m. NotBefore (leaf_at b (bits (width f) k)) m (labels b)) (sym (own_terminal k' lt)) (
              before b (bits (width f) k),
              after b (bits (width f) k),
              labels_at b (bits (width f) k),
              later b (width f) k k' (omega (arith, index_own (width f) k (omega arith), index_own (width f) k' lt)),
            ));
      }

  pub rep_clauses : Clauses f s
  rep_clauses =
      record {
        balanced = balance;
        one = (labels b, key_order);
        two = λ n t. (
          omega (arith, (at n t).1.depth, (at n t).1.low),
          subst (λ H. zeros s (start s n + 4 + 2 * 2 ^ H) (2 * (2 ^ (head_of s).theta - 2 ^ H)) ≡ true) (sym (at n t).1.depth)
              (at n t).1.blank,
        );
        three = λ n i t l. (down n i t l, (runs n i t l).0);
        four = λ n i j t l q. (runs n i t l).1 j q;
        only = λ n i j t l q z e. (omega (arith, (alone n i t l j q z e).0), omega (arith, (alone n i t l j q z e).1));
        five = λ n i t one l. page n i t l one;
      }
