-- Labelled tries: what stands at a key, how a graft changes the labels, and one trie over another. Each by recursion along the key.
-- Labels are counted: distinct is `occ` at most 1, a label is `occ` at least 1.
use mathlib.Core.Path.{◌≡◌, refl, sym, ap, ap₂, ◌∙◌, subst}
use mathlib.Core.Bool.{true, false}
use mathlib.Core.List.{List, [], ◌∷◌, ◌++◌, map, map-append, append_assoc, append-nil}
use Prim.Native.Nat.{ℕ, suc, ◌+◌, ◌≤◌, ◌<◌}
use native.Mathlib.Omega.{arith}
use native.Mathlib.Decide.{ℕ_discrete, dec_le}
use borrow.Author.Tests.{eq-eqb, ne_eqb}
use Rattle.lists.specs.Lists.{All}
use Rattle.tree.specs.Trie.{Trie, leaf, fork, Key, labels, leaf_at, depth, rest, graft, relabel}
use Rattle.tree.proofs.TrieLaws.{graft_leaf_at}
use Rattle.represent.specs.Labelled.{Each, ind, occ, occs, count, OneForOne, Over, under, before, after}
use Rattle.lists.proofs.AppendLaws.{all_append, append_all}

pub ind_eq : (x n : ℕ) → x ≡ n → ind x n ≡ 1
ind_eq x n e = rw (eq-eqb x n e)

pub ind_self : (n : ℕ) → ind n n ≡ 1
ind_self n = ind_eq n n refl

pub ind_other : (x n : ℕ) → (x ≡ n → ⊥) → ind x n ≡ 0
ind_other x n h = rw (ne_eqb x n h)

pub occ_graft : (x : ℕ) (t : Trie ℕ) (k : Key) (c : Trie ℕ) → occ x (graft t k c) + ind x (leaf_at t k) ≡ occ x t + occ x c
occ_graft x (leaf n) k c = omega arith
occ_graft x (fork l r) [] c = omega (arith, occ_graft x l [] c)
occ_graft x (fork l r) (false ∷ k) c = omega (arith, occ_graft x l k c)
occ_graft x (fork l r) (true ∷ k) c = omega (arith, occ_graft x r k c)

-- the label at the key is one of the labels
pub ind_at : (x : ℕ) (t : Trie ℕ) (k : Key) → ind x (leaf_at t k) ≤ occ x t
ind_at x (leaf n) k = omega arith
ind_at x (fork l r) [] = omega (arith, ind_at x l [])
ind_at x (fork l r) (false ∷ k) = omega (arith, ind_at x l k)
ind_at x (fork l r) (true ∷ k) = omega (arith, ind_at x r k)

pub occ_at : (t : Trie ℕ) (k : Key) → 1 ≤ occ (leaf_at t k) t
occ_at t k = omega (arith, ind_at (leaf_at t k) t k, ind_self (leaf_at t k))

-- a label is a number from 1 to m, where 0 is none and no number above m is one
pub label_low : (bs : List (Trie ℕ)) (n : ℕ) → occs 0 bs ≡ 0 → 1 ≤ occs n bs → 1 ≤ n
label_low bs n z o =
    elim (dec_le 1 n) [
      | yes p ↦ p
      | no p ↦ let e : n ≡ 0 = omega arith in absurd (omega (arith, z, subst (λ x. 1 ≤ occs x bs) e o))
    ]

pub label_high : (m : ℕ) (g : ℕ → ℕ) (n : ℕ) → ((x : ℕ) → m < x → g x ≡ 0) → 1 ≤ g n → n ≤ m
label_high m g n none o =
    elim (dec_le n m) [
      | yes p ↦ p
      | no p ↦ absurd (omega (arith, none n (omega arith)))
    ]

module _ {A : Type 0} where
  pub labels_graft : (t : Trie A) (k : Key) (c : Trie A) → labels (graft t k c) ≡ before t k ++ (labels c ++ after t k)
  labels_graft (leaf x) k c = sym (append-nil (labels c))
  labels_graft (fork l r) [] c = rw (labels_graft l [] c) (simp append_assoc)
  labels_graft (fork l r) (false ∷ k) c = rw (labels_graft l k c) (simp append_assoc)
  labels_graft (fork l r) (true ∷ k) c = rw (labels_graft r k c) (simp append_assoc)

  pub labels_at : (t : Trie A) (k : Key) → labels t ≡ before t k ++ (leaf_at t k ∷ after t k)
  labels_at t k = ap labels (sym (graft_leaf_at t k)) ∙ labels_graft t k (leaf (leaf_at t k))

  pub each_at : (P : A → Type 0) (t : Trie A) (k : Key) → Each P t → P (leaf_at t k)
  each_at P (leaf x) k h = h
  each_at P (fork l r) [] h = each_at P l [] h.0
  each_at P (fork l r) (false ∷ k) h = each_at P l k h.0
  each_at P (fork l r) (true ∷ k) h = each_at P r k h.1

module _ {A : Type 0} (P : A → Type 0) where
  pub each_labels : (t : Trie A) → Each P t → All P (labels t)
  each_labels (leaf x) h = (h, tt)
  each_labels (fork l r) h = all_append P (labels l) (labels r) (each_labels l h.0) (each_labels r h.1)

  pub labels_each : (t : Trie A) → All P (labels t) → Each P t
  labels_each (leaf x) a = a.0
  labels_each (fork l r) a = let b = append_all P (labels l) (labels r) a in (labels_each l b.0, labels_each r b.1)

  pub each_after : (t : Trie A) (k : Key) → Each P t → All P (after t k)
  each_after (leaf x) k h = tt
  each_after (fork l r) [] h = all_append P (after l []) (labels r) (each_after l [] h.0) (each_labels r h.1)
  each_after (fork l r) (false ∷ k) h = all_append P (after l k) (labels r) (each_after l k h.0) (each_labels r h.1)
  each_after (fork l r) (true ∷ k) h = each_after r k h.1

-- what holds of each label, by counting
module _ (P : ℕ → Type 0) where
  pub each_of : (t : Trie ℕ) → ((n : ℕ) → 1 ≤ occ n t → P n) → Each P t
  each_of (leaf n) f = f n (omega (arith, ind_self n))
  each_of (fork l r) f = (each_of l (λ n o. f n (omega arith)), each_of r (λ n o. f n (omega arith)))

  pub each_label : (t : Trie ℕ) (n : ℕ) → Each P t → 1 ≤ occ n t → P n
  each_label (leaf x) n h o =
      elim (ℕ_discrete n x) [
        | yes e ↦ subst P (sym e) h
        | no e ↦ absurd (omega (arith, ind_other n x e))
      ]
  each_label (fork l r) n h o =
      elim (dec_le 1 (occ n l)) [
        | yes p ↦ each_label l n h.0 p
        | no p ↦ each_label r n h.1 (omega arith)
      ]

module _ {A B : Type 0} (g : A → B) where
  pub each_relabel : (P : A → Type 0) (t : Trie A) → Each P t → Each (λ y. (x : A) × (g x ≡ y) × P x) (relabel g t)
  each_relabel P (leaf x) h = (x, refl, h)
  each_relabel P (fork l r) h = (each_relabel P l h.0, each_relabel P r h.1)

  pub leaf_at_relabel : (t : Trie A) (k : Key) → leaf_at (relabel g t) k ≡ g (leaf_at t k)
  leaf_at_relabel (leaf x) k = refl
  leaf_at_relabel (fork l r) [] = leaf_at_relabel l []
  leaf_at_relabel (fork l r) (false ∷ k) = leaf_at_relabel l k
  leaf_at_relabel (fork l r) (true ∷ k) = leaf_at_relabel r k

  pub depth_relabel : (t : Trie A) (k : Key) → depth (relabel g t) k ≡ depth t k
  depth_relabel (leaf x) k = refl
  depth_relabel (fork l r) [] = ap suc (depth_relabel l [])
  depth_relabel (fork l r) (false ∷ k) = ap suc (depth_relabel l k)
  depth_relabel (fork l r) (true ∷ k) = ap suc (depth_relabel r k)

  labels_relabel : (t : Trie A) → labels (relabel g t) ≡ map g (labels t)
  labels_relabel (leaf x) = refl
  labels_relabel (fork l r) = ap₂ ◌++◌ (labels_relabel l) (labels_relabel r) ∙ sym (map-append g (labels l) (labels r))

  pub after_relabel : (t : Trie A) (k : Key) → after (relabel g t) k ≡ map g (after t k)
  after_relabel (leaf x) k = refl
  after_relabel (fork l r) [] = ap₂ ◌++◌ (after_relabel l []) (labels_relabel r) ∙ sym (map-append g (after l []) (labels r))
  after_relabel (fork l r) (false ∷ k) = ap₂ ◌++◌ (after_relabel l k) (labels_relabel r) ∙ sym (map-append g (after l k) (labels r))
  after_relabel (fork l r) (true ∷ k) = after_relabel r k

pub relabel_graft : {A B : Type 0} (g : A → B) (t : Trie A) (k : Key) (c : Trie A)
    → relabel g (graft t k c) ≡ graft (relabel g t) k (relabel g c)
relabel_graft g (leaf x) k c = refl
relabel_graft g (fork l r) [] c = rw (relabel_graft g l [] c)
relabel_graft g (fork l r) (false ∷ k) c = rw (relabel_graft g l k c)
relabel_graft g (fork l r) (true ∷ k) c = rw (relabel_graft g r k c)

-- what each label has, where g numbers the labels
module _ {A : Type 0} (g : A → ℕ) (P Q : A → Type 0) where
  pub each_map : (t : Trie A) → ((x : A) → 1 ≤ occ (g x) (relabel g t) → P x → Q x) → Each P t → Each Q t
  each_map (leaf x) f h = f x (omega (arith, ind_self (g x))) h
  each_map (fork l r) f h = (each_map l (λ x o. f x (omega arith)) h.0, each_map r (λ x o. f x (omega arith)) h.1)

  ind_key : (t : Trie A) (k : Key) (n : ℕ) → ind n (g (leaf_at t k)) ≤ occ n (relabel g t)
  ind_key t k n = subst (λ (m : ℕ). ind n m ≤ occ n (relabel g t)) (leaf_at_relabel g t k) (ind_at n (relabel g t) k)

  -- the labels beside the leaf at the key are those that occur once more
  pub each_graft : (t : Trie A) (k : Key) (c : Trie A)
      → ((x : A) → ind (g x) (g (leaf_at t k)) < occ (g x) (relabel g t) → P x → Q x) → Each P t → Each Q c → Each Q (graft t k c)
  each_graft (leaf x) k c f h q = q
  each_graft (fork l r) [] c f h q =
      (each_graft l [] c (λ x o. f x (omega arith)) h.0 q, each_map r (λ x o. f x (omega (arith, ind_key l [] (g x)))) h.1)
  each_graft (fork l r) (false ∷ k) c f h q =
      (each_graft l k c (λ x o. f x (omega arith)) h.0 q, each_map r (λ x o. f x (omega (arith, ind_key l k (g x)))) h.1)
  each_graft (fork l r) (true ∷ k) c f h q =
      (each_map l (λ x o. f x (omega (arith, ind_key r k (g x)))) h.0, each_graft r k c (λ x o. f x (omega arith)) h.1 q)

module _ {A : Type 0} (P : ℕ → Trie A → Type 0) where
  -- at the key: P of b's label and what stands under it
  pub over_at : (b : Trie ℕ) (u : Trie A) (k : Key) → Over P b u → P (leaf_at b k) (under b u k)
  over_at (leaf n) u k h = h
  over_at (fork l r) (leaf x) k h = absurd h
  over_at (fork l r) (fork ul ur) [] h = over_at l ul [] h.0
  over_at (fork l r) (fork ul ur) (false ∷ k) h = over_at l ul k h.0
  over_at (fork l r) (fork ul ur) (true ∷ k) h = over_at r ur k h.1

  pub leaf_at_under : (b : Trie ℕ) (u : Trie A) (k : Key) → Over P b u → leaf_at (under b u k) (rest b k) ≡ leaf_at u k
  leaf_at_under (leaf n) u k h = refl
  leaf_at_under (fork l r) (leaf x) k h = absurd h
  leaf_at_under (fork l r) (fork ul ur) [] h = leaf_at_under l ul [] h.0
  leaf_at_under (fork l r) (fork ul ur) (false ∷ k) h = leaf_at_under l ul k h.0
  leaf_at_under (fork l r) (fork ul ur) (true ∷ k) h = leaf_at_under r ur k h.1

  pub depth_under : (b : Trie ℕ) (u : Trie A) (k : Key) → Over P b u → depth b k + depth (under b u k) (rest b k) ≡ depth u k
  depth_under (leaf n) u k h = omega arith
  depth_under (fork l r) (leaf x) k h = absurd h
  depth_under (fork l r) (fork ul ur) [] h = omega (arith, depth_under l ul [] h.0)
  depth_under (fork l r) (fork ul ur) (false ∷ k) h = omega (arith, depth_under l ul k h.0)
  depth_under (fork l r) (fork ul ur) (true ∷ k) h = omega (arith, depth_under r ur k h.1)

  -- a label of b stands over a subtrie
  pub over_in : (b : Trie ℕ) (u : Trie A) (n : ℕ) → 1 ≤ occ n b → Over P b u → (v : Trie A) × P n v
  over_in (leaf m) u n o h =
      elim (ℕ_discrete n m) [
        | yes e ↦ (u, subst (λ x. P x u) (sym e) h)
        | no e ↦ absurd (omega (arith, ind_other n m e))
      ]
  over_in (fork l r) (leaf x) n o h = absurd h
  over_in (fork l r) (fork ul ur) n o h =
      elim (dec_le 1 (occ n l)) [
        | yes p ↦ over_in l ul n p h.0
        | no p ↦ over_in r ur n (omega arith) h.1
      ]

module _ {A : Type 0} (P Q : ℕ → Trie A → Type 0) where
  pub over_map : (b : Trie ℕ) (u : Trie A) → ((n : ℕ) (v : Trie A) → 1 ≤ occ n b → P n v → Q n v) → Over P b u → Over Q b u
  over_map (leaf n) u f h = f n u (omega (arith, ind_self n)) h
  over_map (fork l r) (leaf x) f h = h
  over_map (fork l r) (fork ul ur) f h =
      (over_map l ul (λ n v o. f n v (omega arith)) h.0, over_map r ur (λ n v o. f n v (omega arith)) h.1)

-- the labels of what stands under a leaf are labels of the whole
pub over_parts : (P : ℕ → Trie ℕ → Type 0) (b u : Trie ℕ) → Over P b u → Over (λ n v. P n v × ((x : ℕ) → occ x v ≤ occ x u)) b u
over_parts P (leaf n) u h = (h, λ x. omega arith)
over_parts P (fork l r) (leaf x) h = absurd h
over_parts P (fork l r) (fork ul ur) h =
    (widened l ul (λ x. omega arith) (over_parts P l ul h.0), widened r ur (λ x. omega arith) (over_parts P r ur h.1))
  where
    widened : (b v : Trie ℕ) → ((x : ℕ) → occ x v ≤ occ x ul + occ x ur) → Over (λ n w. P n w × ((x : ℕ) → occ x w ≤ occ x v)) b v
        → Over (λ n w. P n w × ((x : ℕ) → occ x w ≤ occ x ul + occ x ur)) b v
    widened b v i h = over_map _ _ b v (λ n w o p. (p.0, λ x. omega (arith, i x, p.1 x))) h

-- the labels of the levels bs and the numbers ns are distinct, and from 1 to m
pub record Numbered (m : ℕ) (ns : List ℕ) (bs : List (Trie ℕ)) : Type 0 where
  pub once : (x : ℕ) → occs x bs + count x ns ≤ 1
  pub none : (x : ℕ) → m < x → occs x bs + count x ns ≡ 0
  pub positive : occs 0 bs + count 0 ns ≡ 0

pub one_numbered : (m : ℕ) (ns : List ℕ) (bs : List (Trie ℕ)) → OneForOne m (λ x. occs x bs + count x ns) → occs 0 bs ≡ 0
    → count 0 ns ≡ 0 → Numbered m ns bs
one_numbered m ns bs h z z' =
    record {
      once = λ x. elim (dec_le 1 x) [
        | yes p ↦ elim (dec_le x m) [ yes q ↦ omega (arith, h.once x p q) | no q ↦ omega (arith, h.none x (omega arith)) ]
        | no p ↦ let e : 0 ≡ x = omega arith in subst (λ y. occs y bs + count y ns ≤ 1) e (omega (arith, z, z'))
      ];
      none = h.none;
      positive = omega (arith, z, z');
    }
