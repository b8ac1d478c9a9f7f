-- Links as a list: a list that is linked both ways stays so where no link of it changes, and where a number m is put behind n: then n, m
-- and the number behind them have new links, and no other.
--   Same x       == x has the same links as before
--   Mended n m q == m stands between n and q, if q is a number
use mathlib.Core.Path.{◌≡◌, refl, sym, ap, ◌∙◌, subst}
use mathlib.Core.List.{List, [], ◌∷◌, ◌++◌}
use Prim.Native.Nat.{ℕ, ◌+◌, ◌≤◌}
use native.Mathlib.Omega.{arith}
use Rattle.lists.specs.Lists.{All}
use Rattle.tree.specs.Trie.{Trie, leaf, fork, Key, labels, leaf_at}
use Rattle.represent.specs.Labelled.{ind, occ, count, before, after, first, Linked}
use Rattle.represent.proofs.LabelLaws.{ind_eq, ind_self, labels_at}

pub count_append : (x : ℕ) (ns ms : List ℕ) → count x (ns ++ ms) ≡ count x ns + count x ms
count_append x [] ms = omega arith
count_append x (n ∷ ns) ms = omega (arith, count_append x ns ms)

pub count_labels : (x : ℕ) (t : Trie ℕ) → count x (labels t) ≡ occ x t
count_labels x (leaf n) = omega arith
count_labels x (fork l r) = omega (arith, count_append x (labels l) (labels r), count_labels x l, count_labels x r)

pub count_at : (x : ℕ) (b : Trie ℕ) (k : Key) → count x (before b k) + (ind x (leaf_at b k) + count x (after b k)) ≡ occ x b
count_at x b k =
    sym (count_append x (before b k) (leaf_at b k ∷ after b k)) ∙ ap (count x) (sym (labels_at b k)) ∙ count_labels x b

pub first_in : (ns : List ℕ) → (first ns ≡ 0 → ⊥) → 1 ≤ count (first ns) ns
first_in [] h = absurd (h refl)
first_in (n ∷ ns) h = omega (arith, ind_self n)

pub first_not : (x : ℕ) (ns : List ℕ) → count x ns ≡ 0 → (x ≡ 0 → ⊥) → x ≡ first ns → ⊥
first_not x [] c h e = h e
first_not x (n ∷ ns) c h e = omega (arith, ind_eq x n e)

first_append : (ns : List ℕ) (n : ℕ) (ms ms' : List ℕ) → first (ns ++ (n ∷ ms)) ≡ first (ns ++ (n ∷ ms'))
first_append [] n ms ms' = refl
first_append (a ∷ ns) n ms ms' = refl

pub linked_next : (back forward : ℕ → ℕ) (p : ℕ) (ns : List ℕ) (n : ℕ) (ms : List ℕ) → Linked back forward p (ns ++ (n ∷ ms))
    → forward n ≡ first ms
linked_next back forward p [] n ms h = h.1
linked_next back forward p (a ∷ ns) n ms h = linked_next back forward a ns n ms h.2

pub linked_after : (back forward : ℕ → ℕ) (p : ℕ) (ns : List ℕ) (n : ℕ) (ms : List ℕ)
    → Linked back forward p (ns ++ (n ∷ ms)) → Linked back forward n ms
linked_after back forward p [] n ms h = h.2
linked_after back forward p (a ∷ ns) n ms h = linked_after back forward a ns n ms h.2

-- every link is null or one of the numbers: what holds of these holds of the links
pub linked_all : (back forward : ℕ → ℕ) (P : ℕ → Type 0) (p : ℕ) (ns : List ℕ) → P 0 → P p → All P ns → Linked back forward p ns
    → All (λ n. P (back n) × P (forward n)) ns
linked_all back forward P p [] z q a h = tt
linked_all back forward P p (n ∷ ns) z q a h =
    ((subst P (sym h.0) q, subst P (sym h.1) (at_first ns a.1)), linked_all back forward P n ns z a.0 a.1 h.2)
  where
    at_first : (ns : List ℕ) → All P ns → P (first ns)
    at_first [] a = z
    at_first (m ∷ ms) a = a.0

module _ (back forward back' forward' : ℕ → ℕ) where
  pub record Same (x : ℕ) : Type 0 where
    pub same_back : back' x ≡ back x
    pub same_forward : forward' x ≡ forward x

  pub linked_frame : (p : ℕ) (ns : List ℕ) → ((x : ℕ) → 1 ≤ count x ns → Same x) → Linked back forward p ns → Linked back' forward' p ns
  linked_frame p [] f h = tt
  linked_frame p (n ∷ ns) f h =
      let e = f n (omega (arith, ind_self n)) in
      (e.same_back ∙ h.0, e.same_forward ∙ h.1, linked_frame n ns (λ x o. f x (omega arith)) h.2)

  pub record Mended (n m q : ℕ) : Type 0 where
    pub n_back : back' n ≡ back n
    pub n_forward : forward' n ≡ m
    pub m_back : back' m ≡ n
    pub m_forward : forward' m ≡ q
    pub q_back : (q ≡ 0 → ⊥) → back' q ≡ m
    pub q_forward : (q ≡ 0 → ⊥) → forward' q ≡ forward q

  behind : (n m : ℕ) (ms : List ℕ) → Mended n m (first ms)
      → ((x : ℕ) → 1 ≤ count x ms → (x ≡ n → ⊥) → (x ≡ first ms → ⊥) → Same x)
      → ((x : ℕ) → count x (n ∷ ms) ≤ 1) → count 0 ms ≡ 0 → Linked back forward n ms → Linked back' forward' m ms
  behind n m [] w f once pos h = tt
  behind n m (z ∷ zs) w f once pos h =
      let z≢0 : z ≡ 0 → ⊥ = λ e. omega (arith, ind_eq 0 z (sym e)) in (
        w.q_back z≢0,
        w.q_forward z≢0 ∙ h.1,
        linked_frame z zs
            (λ x o. f x (omega arith) (λ e. omega (arith, ind_eq x n e, once x)) (λ e. omega (arith, ind_eq x z e, once x)))
            h.2,
      )

  module _ (n m : ℕ) (ms : List ℕ) (w : Mended n m (first ms)) where
    -- m put behind n
    pub linked_split : (ns : List ℕ) (p : ℕ)
        → ((x : ℕ) → 1 ≤ count x (ns ++ (n ∷ ms)) → (x ≡ n → ⊥) → (x ≡ first ms → ⊥) → Same x)
        → ((x : ℕ) → count x (ns ++ (n ∷ ms)) ≤ 1) → count 0 (ns ++ (n ∷ ms)) ≡ 0
        → Linked back forward p (ns ++ (n ∷ ms)) → Linked back' forward' p (ns ++ (n ∷ (m ∷ ms)))
    linked_split [] p f once pos h =
        (w.n_back ∙ h.0, w.n_forward, (w.m_back, w.m_forward, behind n m ms w (λ x o. f x (omega arith)) once (omega arith) h.2))
    linked_split (a ∷ ns) p f once pos h =
        let none : count a ns + (ind a n + count a ms) ≡ 0 = omega (arith, once a, ind_self a, count_append a ns (n ∷ ms)) in
        let same : Same a =
        f a (omega (arith, ind_self a)) (λ e. omega (arith, none, ind_eq a n e))
        (first_not a ms (omega (arith, none)) (λ e. omega (arith, ind_eq 0 a (sym e)))) in (
          same.same_back ∙ h.0,
          same.same_forward ∙ h.1 ∙ first_append ns n ms (m ∷ ms),
          linked_split ns a (λ x o. f x (omega arith)) (λ x. omega (arith, once x)) (omega arith) h.2,
        )
