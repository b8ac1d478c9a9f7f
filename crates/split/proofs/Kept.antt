-- Writes that stay inside a store's blocks: its sizes and the words beyond them are as they were.
--   Kept f s t == t is s after such writes
use mathlib.Core.Path.{◌≡◌, refl, sym, ap, ◌∙◌}
use mathlib.Core.List.{List}
use Prim.Native.Nat.{ℕ}
use lib.ListN.{drop}
use Rattle.store.specs.declared.Format.{Format}
use Rattle.store.specs.declared.Head.{Head}
use Rattle.store.specs.Head.{head_of}
use Rattle.represent.specs.Rep.{size_of, Sized}
use Rattle.split.specs.Insertion.{SameSizes}

pub record Kept (f : Format) (s t : List ℕ) : Type 0 where
  pub sized : Sized f t
  pub sizes_same : SameSizes (head_of s) (head_of t)
  pub beyond : drop (size_of f s) t ≡ drop (size_of f s) s

pub same_head_lem : (a b : Head) → b ≡ a → SameSizes a b
same_head_lem a b e =
    record {
      theta = ap (λ h. h.theta) e;
      capacity = ap (λ h. h.capacity) e;
      nodes = ap (λ h. h.node_blocks) e;
      pages = ap (λ h. h.page_blocks) e;
    }

pub same_then : (a b c : Head) → SameSizes a b → SameSizes b c → SameSizes a c
same_then a b c p q =
    record {
      theta = q.theta ∙ p.theta;
      capacity = q.capacity ∙ p.capacity;
      nodes = q.nodes ∙ p.nodes;
      pages = q.pages ∙ p.pages;
    }

pub size_same : (f : Format) (s t : List ℕ) → SameSizes (head_of s) (head_of t) → size_of f t ≡ size_of f s
size_same f s t e = rw (e.theta, e.capacity, e.nodes, e.pages)

module _ (f : Format) where
  pub kept_none : (s : List ℕ) → Sized f s → Kept f s s
  kept_none s ok = record { sized = ok; sizes_same = same_head_lem (head_of s) (head_of s) refl; beyond = refl }

  pub kept_then : (s t v : List ℕ) → Kept f s t → Kept f t v → Kept f s v
  kept_then s t v a b =
      record {
        sized = b.sized;
        sizes_same = same_then (head_of s) (head_of t) (head_of v) a.sizes_same b.sizes_same;
        beyond =
            ap (λ n. drop n v) (sym (size_same f s t a.sizes_same))
            ∙ b.beyond
            ∙ ap (λ n. drop n t) (size_same f s t a.sizes_same)
            ∙ a.beyond;
      }
