-- Steps by value against places: what is carried is what the words say.
--   take_unused, take_last, page_unused, page_last == a block taken, as the code writes it
--   half_place == the step in the half that the key's next bit chooses
use mathlib.Core.Path.{◌≡◌, refl, sym, ap, ap₂, ◌∙◌}
use mathlib.Core.Bool.{Bool, true, false, false≢true}
use mathlib.Core.Logic.{◌⊎◌, inl, inr}
use mathlib.Core.List.{List, ◌∷◌}
use Prim.Native.Nat.{ℕ, suc, ◌+◌, ◌-◌, ◌<◌}
use native.Mathlib.Omega.{arith}
use lib.ListN.{drop, get_or, set}
use lib.Seq.{get_or-set_other}
use Rattle.lists.specs.Bits.{bit, bits}
use Rattle.store.specs.declared.Format.{Format}
use Rattle.store.specs.declared.Head.{Head}
use Rattle.store.specs.Format.{width}
use Rattle.store.specs.Head.{head_of, released_of, node_start, page_start}
use Rattle.store.specs.Released.{node_next, page_next, next_node, node_taken, next_page, page_taken}
use Rattle.split.proofs.Frame.{taken_none, taken_some, page_none, page_some}
use Rattle.search.specs.declared.Step.{Step}
use Rattle.split.specs.Round.{chosen, in_half}
use Rattle.insert.specs.Enter.{place_of}

-- a head whose eight words are the same
head_eight : (s t : List ℕ) → ((j : ℕ) → j < 8 → get_or t j 0 ≡ get_or s j 0) → head_of s ≡ head_of t
unfolding head_of
head_eight s t e =
    rw (
      e 0 (omega arith),
      e 1 (omega arith),
      e 2 (omega arith),
      e 3 (omega arith),
      e 4 (omega arith),
      e 5 (omega arith),
      e 6 (omega arith),
      e 7 (omega arith),
    )

-- a node taken, as the code writes it: an unused one, or the last released one
pub take_unused : (s : List ℕ) (h : Head) → h ≡ head_of s → get_or s 10 0 ≡ 0
    → (h.nodes_taken + 1 ≡ next_node s) × (set s 4 (h.nodes_taken + 1) ≡ node_taken s)
unfolding released_of
take_unused s h e z =
    let k = taken_none s z in
    let n : h.nodes_taken + 1 ≡ suc (head_of s).nodes_taken = omega (arith, ap (λ (x : Head). x.nodes_taken) e) in
    (n ∙ sym k.1, ap (set s 4) n ∙ sym k.0)

pub take_last : (s : List ℕ) (h : Head) (at x : ℕ) → h ≡ head_of s → at ≡ node_start h (get_or s 8 0) → x ≡ get_or s (at + 2) 0
    → (get_or s 10 0 ≡ 0 → ⊥)
    → (get_or s 8 0 ≡ next_node s) × (set (set s 8 x) 10 (get_or s 10 0 - 1) ≡ node_taken s) × (h ≡ head_of (set (set s 8 x) 10 (get_or s 10 0 - 1)))
unfolding released_of
take_last s h at x e p q z =
    let k = taken_some s z in
    let n : x ≡ node_next s (get_or s 8 0) = q ∙ ap (λ i. get_or s (i + 2) 0) (p ∙ ap (λ (g : Head). node_start g (get_or s 8 0)) e) in
    let w : set (set s 8 x) 10 (get_or s 10 0 - 1) ≡ node_taken s = ap (λ i. set (set s 8 i) 10 (get_or s 10 0 - 1)) n ∙ sym k.0 in (
      sym k.1,
      w,
      e ∙ head_eight s (set (set s 8 x) 10 (get_or s 10 0 - 1))
          (λ j l.
          get_or-set_other (set s 8 x) 10 j (get_or s 10 0 - 1) 0 (λ i. omega arith) ∙ get_or-set_other s 8 j x 0 (λ i. omega arith)),
    )

-- and a page
pub page_unused : (f : Format) (s : List ℕ) (h : Head) → h ≡ head_of s → get_or s 11 0 ≡ 0
    → (h.pages_taken + 1 ≡ next_page s) × (set s 5 (h.pages_taken + 1) ≡ page_taken f s)
unfolding released_of
page_unused f s h e z =
    let k = page_none f s z in
    let n : h.pages_taken + 1 ≡ suc (head_of s).pages_taken = omega (arith, ap (λ (x : Head). x.pages_taken) e) in
    (n ∙ sym k.1, ap (set s 5) n ∙ sym k.0)

pub page_last : (f : Format) (s : List ℕ) (h : Head) (at x : ℕ) → h ≡ head_of s → at ≡ page_start f h (get_or s 9 0) → x ≡ get_or s (at + 1) 0
    → (get_or s 11 0 ≡ 0 → ⊥)
    → (get_or s 9 0 ≡ next_page s) × (set (set s 9 x) 11 (get_or s 11 0 - 1) ≡ page_taken f s) × (h ≡ head_of (set (set s 9 x) 11 (get_or s 11 0 - 1)))
unfolding released_of
page_last f s h at x e p q z =
    let k = page_some f s z in
    let n : x ≡ page_next f s (get_or s 9 0) = q ∙ ap (λ i. get_or s (i + 1) 0) (p ∙ ap (λ (g : Head). page_start f g (get_or s 9 0)) e) in
    let w : set (set s 9 x) 11 (get_or s 11 0 - 1) ≡ page_taken f s = ap (λ i. set (set s 9 i) 11 (get_or s 11 0 - 1)) n ∙ sym k.0 in (
      sym k.1,
      w,
      e ∙ head_eight s (set (set s 9 x) 11 (get_or s 11 0 - 1))
          (λ j l.
          get_or-set_other (set s 9 x) 11 j (get_or s 11 0 - 1) 0 (λ i. omega arith) ∙ get_or-set_other s 9 j x 0 (λ i. omega arith)),
    )

chosen_true : (b : Bool) (k : List Bool) (x y : ℕ) → b ≡ true → chosen (b ∷ k) x y ≡ y
chosen_true true k x y e = refl
chosen_true false k x y e = absurd (false≢true e)

chosen_false : (b : Bool) (k : List Bool) (x y : ℕ) → b ≡ false → chosen (b ∷ k) x y ≡ x
chosen_false false k x y e = refl
chosen_false true k x y e = absurd (false≢true (sym e))

-- by the bit: the half, and the bits that are left in it
pub half_place : (f : Format) (θ k : ℕ) (t : Step) (m n w : ℕ) → width f - t.used ≡ suc w
    → ((bit w k ≡ true) × (n ≡ m)) ⊎ ((bit w k ≡ false) × (n ≡ t.node))
    → record { at = n; bits = bits (width f - (t.used + 1)) k; depth = θ } ≡ in_half θ (place_of f k t) m
half_place f θ k t m n w e g =
    let whole : bits (width f - t.used) k ≡ bit w k ∷ bits w k = ap (λ i. bits i k) e in
    let less : width f - (t.used + 1) ≡ w = omega arith in
    ap₂ (λ x b. record { at = x; bits = b; depth = θ })
    (node g ∙ ap (λ b. chosen b t.node m) (sym whole)) (ap (λ i. bits i k) less ∙ ap (drop 1) (sym whole))
  where
    node : ((bit w k ≡ true) × (n ≡ m)) ⊎ ((bit w k ≡ false) × (n ≡ t.node)) → n ≡ chosen (bit w k ∷ bits w k) t.node m
    node (inl h) = h.1 ∙ sym (chosen_true (bit w k) (bits w k) t.node m h.0)
    node (inr h) = h.1 ∙ sym (chosen_false (bit w k) (bits w k) t.node m h.0)
