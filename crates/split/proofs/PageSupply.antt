-- The page blocks that may be taken: what stays where other blocks are written, and what is left where the next one is taken.
--   PageSupply f s == the page blocks that may be taken are in order
use mathlib.Core.Path.{◌≡◌, sym, ap, ◌∙◌, subst}
use mathlib.Core.List.{List, ◌∷◌}
use Prim.Native.Nat.{ℕ, suc, ◌-◌, ◌≤◌, ◌<◌}
use native.Mathlib.Decide.{ℕ_discrete}
use native.Mathlib.Omega.{arith}
use lib.ListN.{length, replicate}
use Rattle.store.specs.declared.Format.{Format}
use Rattle.store.specs.declared.Released.{Released}
use Rattle.store.specs.Head.{word, head_of, released_of, page_words}
use Rattle.store.specs.Released.{released_page, page_next, released_pages, pages_to_come, next_page, page_taken}
use Rattle.represent.specs.Labelled.{count}
use Rattle.represent.specs.Rep.{Sized}
use Rattle.split.specs.Supply.{to_come, Supplied}
use Rattle.split.specs.Insertion.{SameSizes}
use Rattle.split.specs.Frame.{page_of}
use Rattle.split.proofs.SupplyLaws.{length_come, chain_is, come_same, supplied_same, come_released, supplied_released, come_unused}
use Rattle.split.proofs.SupplyLaws.{supplied_unused}
use Rattle.split.proofs.Frame.{sized_long, next_page_lem, page_none, page_some, no_page_counts, page_counts, page_taken_sizes, page_taken_sized}
use Rattle.split.proofs.Frame.{page_taken_pages}

-- pages of the capacity C
abbrev SupplyOf : Format → ℕ → List ℕ → Type 0
SupplyOf f C s =
    Supplied (page_of f s) (released_page f C) (replicate (page_words f C) 0) (page_next f s) (released_of s).pages (released_of s).page
    (head_of s).pages_taken (head_of s).page_blocks

abbrev pub PageSupply : Format → List ℕ → Type 0
PageSupply f s = SupplyOf f (head_of s).capacity s

module _ (f : Format) where
  -- words t with the sizes of s and what its head says of page blocks, in which the page blocks that may be taken are the same
  module _ (s t : List ℕ) (sized : Sized f s) (sized_t : Sized f t) (sizes : SameSizes (head_of s) (head_of t))
      (taken : (head_of t).pages_taken ≡ (head_of s).pages_taken) (many : (released_of t).pages ≡ (released_of s).pages)
      (name : (released_of t).page ≡ (released_of s).page)
      (same : (x : ℕ) → 1 ≤ x → x ≤ (head_of s).page_blocks → 1 ≤ count x (pages_to_come f s) → page_of f t x ≡ page_of f s x)
      (y : PageSupply f s) where
    both : (x : ℕ) → 1 ≤ x → x ≤ (head_of s).page_blocks
        → 1 ≤ count x (to_come (page_next f s) (released_of s).pages (released_of s).page (head_of s).pages_taken (head_of s).page_blocks)
        → (page_of f t x ≡ page_of f s x) × (page_next f t x ≡ page_next f s x)
    unfolding pages_to_come released_pages
    both x low high o =
        let e = same x low high o in (
          e,
          next_page_lem f t sized_t x low (omega (arith, sizes.pages)) ∙ ap (λ (ws : List ℕ). word ws 1) e ∙ sym (next_page_lem f s sized x low high),
        )

    pub pages_same : pages_to_come f t ≡ pages_to_come f s
    unfolding pages_to_come released_pages
    pages_same =
        rw (taken, many, name, sizes.pages) (come_same (page_of f s) (page_of f t) (page_next f s) (page_next f t) both y)

    pub released_same : released_pages f t ≡ released_pages f s
    unfolding released_pages
    released_same =
        rw (many, name) (chain_is (page_of f s) (page_of f t) (page_next f s) (page_next f t) both y)

    pub supply_same : PageSupply f t
    supply_same =
        rw (taken, many, name, sizes.pages, sizes.capacity)
        (supplied_same (page_of f s) (page_of f t) (page_next f s) (page_next f t) both y)

  -- the next one taken
  module _ (s : List ℕ) (sized : Sized f s) (y : PageSupply f s) (more : 1 ≤ length (pages_to_come f s)) where
    abbrev u : List ℕ
    u = page_taken f s

    abbrev many : ℕ
    many = (released_of s).pages

    abbrev name : ℕ
    name = (released_of s).page

    abbrev taken : ℕ
    taken = (head_of s).pages_taken

    abbrev cap : ℕ
    cap = (head_of s).page_blocks

    abbrev C : ℕ
    C = (head_of s).capacity

    sized_u : Sized f u
    sized_u = page_taken_sized f s sized

    long_u : 16 ≤ length s
    long_u = sized_long f s sized

    both_u : (x : ℕ) → 1 ≤ x → x ≤ cap → (page_of f u x ≡ page_of f s x) × (page_next f u x ≡ page_next f s x)
    both_u x low high =
        let e = page_taken_pages f s x in (
          e,
          next_page_lem f u sized_u x low (omega (arith, (page_taken_sizes f s).pages)) ∙ ap (λ (ws : List ℕ). word ws 1) e
              ∙ sym (next_page_lem f s sized x low high),
        )

    abbrev Took : Type 0
    Took = (pages_to_come f s ≡ next_page s ∷ pages_to_come f u) × PageSupply f u

    took_unused : many ≡ 0 → Took
    unfolding pages_to_come released_pages
    took_unused z =
        let c = no_page_counts f s long_u z in
        let many_u : (released_of u).pages ≡ 0 = ap (λ (r : Released). r.pages) c.1 ∙ z in
        let name_u : (released_of u).page ≡ name = ap (λ (r : Released). r.page) c.1 in
        let room : taken < cap = omega (arith, length_come (page_next f s) many name taken cap, z) in
        let y₀ : Supplied (page_of f s) (released_page f C) (replicate (page_words f C) 0) (page_next f s) 0 name (suc taken) cap =
        supplied_unused name taken cap room
        (subst (λ m. Supplied (page_of f s) (released_page f C) (replicate (page_words f C) 0) (page_next f s) m name taken cap) z y) in (
          ap (λ m. to_come (page_next f s) m name taken cap) z ∙ come_unused (page_next f s) name taken cap room
              ∙ rw (many_u, name_u, c.0, (page_taken_sizes f s).pages, (page_none f s z).1)
              (ap (λ ns. suc taken ∷ ns) (sym (come_same (page_of f s) (page_of f u) (page_next f s) (page_next f u) (λ x p q o. both_u x p q) y₀))),
          rw (many_u, name_u, c.0, (page_taken_sizes f s).pages, (page_taken_sizes f s).capacity)
              (supplied_same (page_of f s) (page_of f u) (page_next f s) (page_next f u) (λ x p q o. both_u x p q) y₀),
        )

    took_released : (many ≡ 0 → ⊥) → Took
    unfolding pages_to_come released_pages
    took_released z =
        let c = page_counts f s long_u z in
        let e : many ≡ suc (many - 1) = omega arith in
        let y₀ : Supplied (page_of f s) (released_page f C) (replicate (page_words f C) 0) (page_next f s) (many - 1) (page_next f s name) taken
        cap =
        supplied_released (many - 1) name taken cap
        (subst (λ m. Supplied (page_of f s) (released_page f C) (replicate (page_words f C) 0) (page_next f s) m name taken cap) e y) in (
          ap (λ m. to_come (page_next f s) m name taken cap) e ∙ come_released (page_next f s) (many - 1) name taken cap
              ∙ rw (c.1, c.2, c.0, (page_taken_sizes f s).pages, (page_some f s z).1)
              (ap (λ ns. name ∷ ns) (sym (come_same (page_of f s) (page_of f u) (page_next f s) (page_next f u) (λ x p q o. both_u x p q) y₀))),
          rw (c.1, c.2, c.0, (page_taken_sizes f s).pages, (page_taken_sizes f s).capacity)
              (supplied_same (page_of f s) (page_of f u) (page_next f s) (page_next f u) (λ x p q o. both_u x p q) y₀),
        )

    pub page_took : (pages_to_come f s ≡ next_page s ∷ pages_to_come f u) × PageSupply f u
    page_took = elim (ℕ_discrete many 0) [ yes z ↦ took_unused z | no z ↦ took_released z ]
