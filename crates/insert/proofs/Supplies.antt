-- The blocks that an enter is to take, on any words: what they are after the chain test, after one is taken, and after other blocks are
-- written.
--   Next s n ns == n is the next node block, and the blocks ns come after it
use mathlib.Core.Path.{◌≡◌, sym, ap, ◌∙◌, subst}
use mathlib.Core.List.{List, [], ◌∷◌}
use Prim.Native.Nat.{ℕ, zero, suc, ◌-◌, ◌≤◌}
use native.Mathlib.Decide.{ℕ_discrete}
use native.Mathlib.Omega.{arith}
use lib.ListN.{length, take}
use Rattle.store.specs.declared.Format.{Format}
use Rattle.store.specs.declared.Head.{Head}
use Rattle.store.specs.declared.Released.{Released}
use Rattle.store.specs.Head.{word, head_of, released_of, node_words}
use Rattle.store.specs.Released.{node_next, next_node, node_taken}
use Rattle.represent.specs.Labelled.{count}
use Rattle.represent.specs.Rep.{Sized}
use Rattle.represent.proofs.LabelLaws.{ind_eq, ind_self, ind_other}
use Rattle.split.specs.Frame.{node_of, put_node}
use Rattle.split.specs.Insertion.{SameSizes}
use Rattle.split.proofs.Frame.{sized_long, next_node_lem, taken_none, taken_some, none_counts, some_counts, node_taken_sizes, node_taken_sized}
use Rattle.split.proofs.Frame.{node_taken_nodes, put_node_head, put_node_sized, put_node_released, put_node_other}
use Rattle.insert.specs.Fine.{Named, Coming, Supply}

pub coming_named : (next : ℕ → ℕ) (taken cap many name : ℕ) (ns : List ℕ) → Coming next taken cap many name ns → Named name many taken
coming_named next taken cap many name [] c = c
coming_named next taken cap zero name (n ∷ ns) c =
    record { within = omega (arith, c.2); some = λ l. absurd (omega arith); none = λ e. c.2 }
coming_named next taken cap (suc many) name (n ∷ ns) c =
    record { within = omega (arith, c.0, c.2); some = λ l. omega (arith, c.0, c.1); none = λ e. absurd (omega arith) }

-- each is a block's number
pub coming_inside : (next : ℕ → ℕ) (taken cap many name : ℕ) (ns : List ℕ) → taken ≤ cap → Coming next taken cap many name ns
    → (x : ℕ) → 1 ≤ count x ns → (1 ≤ x) × (x ≤ cap)
coming_inside next taken cap many name [] fits c x o = absurd (omega arith)
coming_inside next taken cap zero name (n ∷ ns) fits c x o =
    elim (ℕ_discrete x n) [
      | yes e ↦ (omega (arith, c.0), omega (arith, c.1))
      | no e ↦ coming_inside next n cap zero name ns c.1 c.3 x (omega (arith, ind_other x n e))
    ]
coming_inside next taken cap (suc many) name (n ∷ ns) fits c x o =
    elim (ℕ_discrete x n) [
      | yes e ↦ (omega (arith, c.1), omega (arith, c.2))
      | no e ↦ coming_inside next taken cap many (next name) ns fits c.3 x (omega (arith, ind_other x n e))
    ]

-- by another way to the next one that agrees on them
pub coming_same : (next next' : ℕ → ℕ) (taken cap many name : ℕ) (ns : List ℕ) → ((x : ℕ) → 1 ≤ count x ns → next' x ≡ next x)
    → Coming next taken cap many name ns → Coming next' taken cap many name ns
coming_same next next' taken cap many name [] e c = c
coming_same next next' taken cap zero name (n ∷ ns) e c =
    (c.0, c.1, c.2, coming_same next next' n cap zero name ns (λ x o. e x (omega arith)) c.3)
coming_same next next' taken cap (suc many) name (n ∷ ns) e c =
    let q : next' name ≡ next name = ap next' (sym c.0) ∙ e n (omega (arith, ind_self n)) ∙ ap next c.0 in (
      c.0,
      c.1,
      c.2,
      subst (λ m. Coming next' taken cap many m ns) (sym q)
          (coming_same next next' taken cap many (next name) ns (λ x o. e x (omega arith)) c.3),
    )

pub take_count : (x n : ℕ) (ns : List ℕ) → 1 ≤ count x (take n ns) → 1 ≤ count x ns
take_count x zero ns o = absurd (omega arith)
take_count x (suc n) [] o = absurd (omega arith)
take_count x (suc n) (m ∷ ns) o =
    elim (ℕ_discrete x m) [
      | yes e ↦ omega (arith, ind_eq x m e)
      | no e ↦ omega (arith, ind_other x m e, take_count x n ns (omega (arith, ind_other x m e)))
    ]

-- what is left of them when the first one is taken
module _ (f : Format) where
  -- words in which the head's counts of nodes are the same, and so are the blocks to come
  pub supply_same : (s t : List ℕ) (ns : List ℕ) → Sized f s → Sized f t → SameSizes (head_of s) (head_of t)
      → (head_of t).nodes_taken ≡ (head_of s).nodes_taken → (released_of t).nodes ≡ (released_of s).nodes → (released_of t).node ≡ (released_of s).node
      → ((x : ℕ) → 1 ≤ x → x ≤ (head_of s).node_blocks → 1 ≤ count x ns → node_of t x ≡ node_of s x) → Supply s ns → Supply t ns
  supply_same s t ns ok ok' sizes taken many name same y =
      record {
        fits = omega (arith, taken, sizes.nodes, y.fits);
        below = omega (arith, taken, many, y.below);
        coming = rw (taken, many, name, sizes.nodes)
            (coming_same (node_next s) (node_next t) _ _ _ _ ns
            (λ x o.
            let i = coming_inside (node_next s) _ _ _ _ ns y.fits y.coming x o in
            next_node_lem f t ok' x i.0 (omega (arith, i.1, sizes.nodes)) ∙ ap (λ ws. word ws 2) (same x i.0 i.1 o)
            ∙ sym (next_node_lem f s ok x i.0 i.1))
            y.coming);
        once = y.once;
      }

  pub supply_low : (s : List ℕ) (ns : List ℕ) → Sized f s → Supply s ns → (x : ℕ) → 1 ≤ count x ns → 1 ≤ x
  supply_low s ns ok y x o = (coming_inside (node_next s) _ _ _ _ ns y.fits y.coming x o).0

  pub supply_null : (s : List ℕ) (ns : List ℕ) → Sized f s → Supply s ns → count 0 ns ≡ 0
  supply_null s ns ok y =
      elim (ℕ_discrete (count 0 ns) 0) [
        | yes e ↦ e
        | no e ↦ absurd (omega (arith, supply_low s ns ok y 0 (omega arith)))
      ]

  -- a block that is not one of them, written
  pub supply_put : (s : List ℕ) (n : ℕ) (ws ns : List ℕ) → Sized f s → 1 ≤ n → n ≤ (head_of s).node_blocks
      → length ws ≡ node_words (head_of s).theta → count n ns ≡ 0 → Supply s ns → Supply (put_node s n ws) ns
  supply_put s n ws ns ok low high same off y =
      let e = put_node_head s n ws (omega (arith, sized_long f s ok)) in
      let r = put_node_released f s n ws ok low high same in
      supply_same s (put_node s n ws) ns ok (put_node_sized f s n ws ok low high same)
      (record {
        theta = ap (λ (h : Head). h.theta) e;
        capacity = ap (λ (h : Head). h.capacity) e;
        nodes = ap (λ (h : Head). h.node_blocks) e;
        pages = ap (λ (h : Head). h.page_blocks) e;
      })
      (ap (λ (h : Head). h.nodes_taken) e) (ap (λ (x : Released). x.nodes) r) (ap (λ (x : Released). x.node) r)
      (λ x l h o. put_node_other f s n ws ok low high same x l (λ q. omega (arith, off, subst (λ z. 1 ≤ count z ns) q o))) y

  pub record Next (s : List ℕ) (n : ℕ) (ns : List ℕ) : Type 0 where
    pub is : next_node s ≡ n
    pub low : 1 ≤ n
    pub high : n ≤ (head_of s).node_blocks
    pub now : n ≤ (head_of (node_taken s)).nodes_taken
    pub more : (head_of s).nodes_taken ≤ (head_of (node_taken s)).nodes_taken
    pub left : Supply (node_taken s) ns
    pub gone : count n ns ≡ 0

  module _ (s : List ℕ) (n : ℕ) (ns : List ℕ) (ok : Sized f s) (y : Supply s (n ∷ ns)) where
    abbrev u : List ℕ
    u = node_taken s

    abbrev taken : ℕ
    taken = (head_of s).nodes_taken

    abbrev cap : ℕ
    cap = (head_of s).node_blocks

    abbrev many : ℕ
    many = (released_of s).nodes

    abbrev name : ℕ
    name = (released_of s).node

    long : 16 ≤ length s
    long = sized_long f s ok

    gone_n : count n ns ≡ 0
    gone_n = omega (arith, y.once n, ind_self n)

    inside : (x : ℕ) → 1 ≤ count x (n ∷ ns) → (1 ≤ x) × (x ≤ cap)
    inside = coming_inside (node_next s) taken cap many name (n ∷ ns) y.fits y.coming

    next_u : (x : ℕ) → 1 ≤ count x ns → node_next u x ≡ node_next s x
    next_u x o =
        let i = inside x (omega arith) in
        next_node_lem f u (node_taken_sized s f ok) x i.0 (omega (arith, i.1, (node_taken_sizes s).nodes))
        ∙ ap (λ ws. word ws 2) (node_taken_nodes s x) ∙ sym (next_node_lem f s ok x i.0 i.1)

    next_unused : many ≡ 0 → Next s n ns
    next_unused z =
        let c = subst (λ m. Coming (node_next s) taken cap m name (n ∷ ns)) z y.coming in
        let k = none_counts s long z in
        let taken_u : (head_of u).nodes_taken ≡ n = k.0 ∙ sym c.0 in
        let many_u : (released_of u).nodes ≡ 0 = ap (λ (r : Released). r.nodes) k.1 ∙ z in
        let name_u : (released_of u).node ≡ name = ap (λ (r : Released). r.node) k.1 in
        record {
          is = (taken_none s z).1 ∙ sym c.0;
          low = omega (arith, c.0);
          high = c.1;
          now = omega (arith, taken_u);
          more = omega (arith, k.0);
          left = record {
            fits = omega (arith, taken_u, c.1, (node_taken_sizes s).nodes);
            below = omega (arith, many_u, taken_u, c.0);
            coming = rw (taken_u, many_u, name_u, (node_taken_sizes s).nodes)
                (coming_same (node_next s) (node_next u) n cap 0 name ns next_u c.3);
            once = λ x. omega (arith, y.once x);
          };
          gone = gone_n;
        }

    next_released : (many ≡ 0 → ⊥) → Next s n ns
    next_released z =
        let e : many ≡ suc (many - 1) = omega arith in
        let c = subst (λ m. Coming (node_next s) taken cap m name (n ∷ ns)) e y.coming in
        let k = some_counts s long z in
        record {
          is = (taken_some s z).1 ∙ sym c.0;
          low = c.1;
          high = omega (arith, c.2, y.fits);
          now = omega (arith, c.2, k.0);
          more = omega (arith, k.0);
          left = record {
            fits = omega (arith, k.0, y.fits, (node_taken_sizes s).nodes);
            below = omega (arith, k.0, k.1, y.below);
            coming = rw (k.0, k.1, k.2, (node_taken_sizes s).nodes)
                (coming_same (node_next s) (node_next u) taken cap (many - 1) (node_next s name) ns next_u c.3);
            once = λ x. omega (arith, y.once x);
          };
          gone = gone_n;
        }

    pub supply_next : Next s n ns
    supply_next = elim (ℕ_discrete many 0) [ yes z ↦ next_unused z | no z ↦ next_released z ]
