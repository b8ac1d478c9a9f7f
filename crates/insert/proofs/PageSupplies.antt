-- The page blocks that an enter is to take, on any words, as in Supplies.
--   NextPage f s n ps == n is the next page block, and the blocks ps come after it
use mathlib.Core.Path.{◌≡◌, sym, ap, ◌∙◌, subst}
use mathlib.Core.List.{List, ◌∷◌}
use Prim.Native.Nat.{ℕ, suc, ◌-◌, ◌≤◌}
use native.Mathlib.Decide.{ℕ_discrete}
use native.Mathlib.Omega.{arith}
use lib.ListN.{length}
use Rattle.store.specs.declared.Format.{Format}
use Rattle.store.specs.declared.Head.{Head}
use Rattle.store.specs.declared.Item.{Item}
use Rattle.store.specs.declared.Released.{Released}
use Rattle.store.specs.Head.{word, head_of, released_of}
use Rattle.store.specs.Released.{page_next, next_page, page_taken}
use Rattle.represent.specs.Labelled.{count}
use Rattle.represent.specs.Rep.{Sized}
use Rattle.represent.proofs.LabelLaws.{ind_self}
use Rattle.split.specs.Frame.{page_of, node_of}
use Rattle.split.specs.Insertion.{SameSizes, others, put_items}
use Rattle.split.proofs.Frame.{sized_long, next_page_lem, page_none, page_some, no_page_counts, page_counts, page_taken_sizes, page_taken_sized}
use Rattle.split.proofs.Frame.{page_taken_pages, page_taken_nodes, page_taken_taken, page_taken_node, page_taken_many}
use Rattle.split.proofs.WordStore.{others_sizes, others_pages, others_pages_taken, others_page, others_many}
use Rattle.split.proofs.PageLaws.{put_head_lem, put_sized, put_other, put_released}
use Rattle.insert.specs.Fine.{Coming, Supply, PageSupply}
use Rattle.insert.proofs.Supplies.{coming_inside, coming_same, supply_same}

module _ (f : Format) where
  pub page_inside : (s : List ℕ) (ps : List ℕ) → PageSupply f s ps → (x : ℕ) → 1 ≤ count x ps → (1 ≤ x) × (x ≤ (head_of s).page_blocks)
  page_inside s ps y x o = coming_inside (page_next f s) _ _ _ _ ps y.fits y.coming x o

  -- null is none of them
  pub page_null : (s : List ℕ) (ps : List ℕ) → PageSupply f s ps → count 0 ps ≡ 0
  page_null s ps y =
      elim (ℕ_discrete (count 0 ps) 0) [
        | yes e ↦ e
        | no e ↦ absurd (omega (arith, (page_inside s ps y 0 (omega arith)).0))
      ]

  pub page_same : (s t : List ℕ) (ps : List ℕ) → Sized f s → Sized f t → SameSizes (head_of s) (head_of t)
      → (head_of t).pages_taken ≡ (head_of s).pages_taken → (released_of t).pages ≡ (released_of s).pages → (released_of t).page ≡ (released_of s).page
      → ((x : ℕ) → 1 ≤ x → x ≤ (head_of s).page_blocks → 1 ≤ count x ps → page_of f t x ≡ page_of f s x) → PageSupply f s ps → PageSupply f t ps
  page_same s t ps ok ok' sizes taken many name same y =
      record {
        fits = omega (arith, taken, sizes.pages, y.fits);
        below = omega (arith, taken, many, y.below);
        coming = rw (taken, many, name, sizes.pages)
            (coming_same (page_next f s) (page_next f t) _ _ _ _ ps
            (λ x o.
            let i = page_inside s ps y x o in
            next_page_lem f t ok' x i.0 (omega (arith, i.1, sizes.pages)) ∙ ap (λ ws. word ws 1) (same x i.0 i.1 o)
            ∙ sym (next_page_lem f s ok x i.0 i.1))
            y.coming);
        once = y.once;
      }

  -- where nothing of the pages has changed
  pub page_others : (s t : List ℕ) (ps : List ℕ) → Sized f s → Sized f t → others t ≡ others s → PageSupply f s ps → PageSupply f t ps
  page_others s t ps ok ok' e =
      page_same s t ps ok ok' (others_sizes s t e) (others_pages_taken s t e) (others_many s t e) (others_page s t e)
      (λ x l h o. others_pages f s t x e)

  -- a page that is not one of them, written
  module _ (C : ℕ) (s : List ℕ) (p : ℕ) (rs : List Item) (ok : Sized f s) (low : 1 ≤ p) (high : p ≤ (head_of s).page_blocks)
      (full : (head_of s).capacity ≡ C) (fits : length rs ≤ C) where
    sizes_put : SameSizes (head_of s) (head_of (put_items f C s p rs))
    sizes_put =
        let e = put_head_lem f C s p rs ok low high full fits in
        record {
          theta = ap (λ (h : Head). h.theta) e;
          capacity = ap (λ (h : Head). h.capacity) e;
          nodes = ap (λ (h : Head). h.node_blocks) e;
          pages = ap (λ (h : Head). h.page_blocks) e;
        }

    pub page_put : (ps : List ℕ) → count p ps ≡ 0 → PageSupply f s ps → PageSupply f (put_items f C s p rs) ps
    page_put ps off =
        let r = put_released f C s p rs ok low high full fits in
        page_same s (put_items f C s p rs) ps ok (put_sized f C s p rs ok low high full fits) sizes_put
        (ap (λ (h : Head). h.pages_taken) (put_head_lem f C s p rs ok low high full fits)) (ap (λ (x : Released). x.pages) r)
        (ap (λ (x : Released). x.page) r)
        (λ x l h o. put_other f C s p rs ok low high full fits x l (λ q. omega (arith, off, subst (λ z. 1 ≤ count z ps) q o)))

    -- the node blocks to come are the same
    pub put_nodes : (ns : List ℕ) → ((x : ℕ) → 1 ≤ x → x ≤ (head_of s).node_blocks → node_of (put_items f C s p rs) x ≡ node_of s x)
        → Supply s ns → Supply (put_items f C s p rs) ns
    put_nodes ns same =
        let r = put_released f C s p rs ok low high full fits in
        supply_same f s (put_items f C s p rs) ns ok (put_sized f C s p rs ok low high full fits) sizes_put
        (ap (λ (h : Head). h.nodes_taken) (put_head_lem f C s p rs ok low high full fits)) (ap (λ (x : Released). x.nodes) r)
        (ap (λ (x : Released). x.node) r) (λ x l h o. same x l h)

  pub take_nodes : (s : List ℕ) (ns : List ℕ) → Sized f s → Supply s ns → Supply (page_taken f s) ns
  take_nodes s ns ok =
      supply_same f s (page_taken f s) ns ok (page_taken_sized f s ok) (page_taken_sizes f s) (page_taken_taken f s) (page_taken_many f s)
      (page_taken_node f s) (λ x l h o. page_taken_nodes f s x)

  pub record NextPage (s : List ℕ) (n : ℕ) (ps : List ℕ) : Type 0 where
    pub is : next_page s ≡ n
    pub low : 1 ≤ n
    pub high : n ≤ (head_of s).page_blocks
    pub now : n ≤ (head_of (page_taken f s)).pages_taken
    pub more : (head_of s).pages_taken ≤ (head_of (page_taken f s)).pages_taken
    pub left : PageSupply f (page_taken f s) ps
    pub gone : count n ps ≡ 0

  module _ (s : List ℕ) (n : ℕ) (ps : List ℕ) (ok : Sized f s) (y : PageSupply f s (n ∷ ps)) where
    abbrev u : List ℕ
    u = page_taken f s

    abbrev taken : ℕ
    taken = (head_of s).pages_taken

    abbrev cap : ℕ
    cap = (head_of s).page_blocks

    abbrev many : ℕ
    many = (released_of s).pages

    abbrev name : ℕ
    name = (released_of s).page

    long : 16 ≤ length s
    long = sized_long f s ok

    gone_n : count n ps ≡ 0
    gone_n = omega (arith, y.once n, ind_self n)

    next_u : (x : ℕ) → 1 ≤ count x ps → page_next f u x ≡ page_next f s x
    next_u x o =
        let i = page_inside s (n ∷ ps) y x (omega arith) in
        next_page_lem f u (page_taken_sized f s ok) x i.0 (omega (arith, i.1, (page_taken_sizes f s).pages))
        ∙ ap (λ ws. word ws 1) (page_taken_pages f s x) ∙ sym (next_page_lem f s ok x i.0 i.1)

    next_unused : many ≡ 0 → NextPage s n ps
    next_unused z =
        let c = subst (λ m. Coming (page_next f s) taken cap m name (n ∷ ps)) z y.coming in
        let k = no_page_counts f s long z in
        let taken_u : (head_of u).pages_taken ≡ n = k.0 ∙ sym c.0 in
        let many_u : (released_of u).pages ≡ 0 = ap (λ (r : Released). r.pages) k.1 ∙ z in
        let name_u : (released_of u).page ≡ name = ap (λ (r : Released). r.page) k.1 in
        record {
          is = (page_none f s z).1 ∙ sym c.0;
          low = omega (arith, c.0);
          high = c.1;
          now = omega (arith, taken_u);
          more = omega (arith, k.0);
          left = record {
            fits = omega (arith, taken_u, c.1, (page_taken_sizes f s).pages);
            below = omega (arith, many_u);
            coming = rw (taken_u, many_u, name_u, (page_taken_sizes f s).pages)
                (coming_same (page_next f s) (page_next f u) n cap 0 name ps next_u c.3);
            once = λ x. omega (arith, y.once x);
          };
          gone = gone_n;
        }

    next_released : (many ≡ 0 → ⊥) → NextPage s n ps
    next_released z =
        let e : many ≡ suc (many - 1) = omega arith in
        let c = subst (λ m. Coming (page_next f s) taken cap m name (n ∷ ps)) e y.coming in
        let k = page_counts f s long z in
        record {
          is = (page_some f s z).1 ∙ sym c.0;
          low = c.1;
          high = omega (arith, c.2, y.fits);
          now = omega (arith, c.2, k.0);
          more = omega (arith, k.0);
          left = record {
            fits = omega (arith, k.0, y.fits, (page_taken_sizes f s).pages);
            below = omega (arith, k.0, k.1, y.below);
            coming = rw (k.0, k.1, k.2, (page_taken_sizes f s).pages)
                (coming_same (page_next f s) (page_next f u) taken cap (many - 1) (page_next f s name) ps next_u c.3);
            once = λ x. omega (arith, y.once x);
          };
          gone = gone_n;
        }

    pub page_next_lem : NextPage s n ps
    page_next_lem = elim (ℕ_discrete many 0) [ yes z ↦ next_unused z | no z ↦ next_released z ]
