-- The labels of the carried levels: those of the old levels, and the numbers to come, one for each node that the carry costs. A level above
-- another has other labels; so a climb may count on distinct numbers at every level.
use mathlib.Core.Path.{◌≡◌, refl, sym, ap, ap₂, ◌∙◌}
use mathlib.Core.List.{List, [], ◌∷◌, map}
use Prim.Native.Nat.{ℕ, zero, suc, ◌+◌, ◌-◌, ◌≤◌, ◌<◌}
use native.Mathlib.Omega.{arith}
use native.Mathlib.Decide.{dec_lt}
use lib.ListN.{length, drop}
use borrow.Author.Tests.{lt-ltb, le-ltb}
use Rattle.tree.specs.Trie.{Trie, Shape, Key, shape, leaf_at, depth, graft, pair}
use Rattle.tree.specs.Tower.{tower}
use Rattle.tree.specs.Carry.{locals, carry, bump_cost}
use Rattle.tree.proofs.TrieLaws.{depth_shape, shape_graft}
use Rattle.tree.proofs.CarryLaws.{carry_slack, carry_full, bump_slack, bump_full}
use Rattle.tree.proofs.Promises.{one_halving}
use Rattle.represent.specs.Labelled.{occs, count, first, behind, OneForOne}
use Rattle.split.specs.Round.{carried}
use Rattle.represent.proofs.LabelLaws.{Numbered}
use Rattle.split.proofs.Grafts.{occ_split}

module _ (θ : ℕ) (ns : List ℕ) (u b : Trie ℕ) (bs : List (Trie ℕ)) (k : Key) where
  pub carried_slack : depth u k - depth b k < θ → carried θ ns u (b ∷ bs) k ≡ b ∷ bs
  unfolding carried
  carried_slack h = rw (lt-ltb (depth u k - depth b k) θ h, carried)

  pub carried_full : (m : ℕ) (ns' : List ℕ) → ns ≡ m ∷ ns' → θ ≤ depth u k - depth b k
      → carried θ ns u (b ∷ bs) k ≡ graft b k (pair (leaf_at b k) m) ∷ carried θ ns' b bs k
  unfolding carried
  carried_full m ns' e h =
      rw (le-ltb (depth u k - depth b k) θ h, carried)
      (ap (λ (ms : List ℕ). graft b k (pair (leaf_at b k) (first ms)) ∷ carried θ (behind ms) b bs k) e)

pub some_first : (ns : List ℕ) → 1 ≤ length ns → ns ≡ first ns ∷ behind ns
some_first [] h = absurd (omega arith)
some_first (n ∷ ns) h = refl

-- without its numbers it is the carry
shape_carried : (θ : ℕ) (ns : List ℕ) (u : Trie ℕ) (bs : List (Trie ℕ)) (k : Key)
    → map shape (carried θ ns u bs k) ≡ carry θ (shape u) (map shape bs) k
unfolding carried carry
shape_carried θ ns u [] k = refl
shape_carried θ ns u (b ∷ bs) k =
    let d : depth (shape u) k - depth (shape b) k ≡ depth u k - depth b k = omega (arith, depth_shape u k, depth_shape b k) in
    elim (dec_lt (depth u k - depth b k) θ) [
      | yes h ↦ rw (carried_slack θ ns u b bs k h, carry_slack θ (shape u) (shape b) (map shape bs) k (omega (arith, d)))
      | no h ↦
          rw (
            le-ltb (depth u k - depth b k) θ (omega arith),
            carried,
            carry_full θ (shape u) (shape b) (map shape bs) k (omega (arith, d)),
          )
          (ap₂ (λ (t : Shape) (ts : List Shape). t ∷ ts) (shape_graft b k (pair (leaf_at b k) (first ns))) (shape_carried θ (behind ns) b bs k))
    ]

-- the carried levels are the levels over the halved stretches
pub carried_levels : (θ : ℕ) (ns : List ℕ) (u : Trie ℕ) (bs : List (Trie ℕ)) (k : Key) (a c : ℕ) → 1 ≤ θ
    → map shape bs ≡ tower θ (shape u) → map shape (carried θ ns u bs k) ≡ tower θ (shape (graft u k (pair a c)))
carried_levels θ ns u bs k a c h e =
    shape_carried θ ns u bs k ∙ ap (λ (ts : List Shape). carry θ (shape u) ts k) e ∙ sym (one_halving θ (shape u) k h).0
    ∙ ap (tower θ) (sym (shape_graft u k (pair a c)))

-- its labels are the old ones and the numbers that it costs
pub carried_labels : (θ : ℕ) (ns : List ℕ) (u : Trie ℕ) (bs : List (Trie ℕ)) (k : Key) (x : ℕ) → bump_cost θ (locals u bs k) ≤ length ns
    → occs x (carried θ ns u bs k) + count x (drop (bump_cost θ (locals u bs k)) ns) ≡ occs x bs + count x ns
unfolding carried bump_cost
carried_labels θ [] u [] k x h = absurd (omega arith)
carried_labels θ (m ∷ ns) u [] k x h = omega arith
carried_labels θ ns u (b ∷ bs) k x h =
    elim (dec_lt (depth u k - depth b k) θ) [
      | yes s ↦ rw (carried_slack θ ns u b bs k s, (bump_slack θ (depth u k - depth b k) (locals b bs k) s).1)
      | no s ↦ spent ns (omega arith) (bump_full θ (depth u k - depth b k) (locals b bs k) (omega arith)).1 h
          (λ ms l. carried_labels θ ms b bs k x l)
    ]
  where
    spent : (ns : List ℕ) → θ ≤ depth u k - depth b k
        → bump_cost θ (locals u (b ∷ bs) k) ≡ suc (bump_cost θ (locals b bs k)) → bump_cost θ (locals u (b ∷ bs) k) ≤ length ns
        → ((ms : List ℕ) → bump_cost θ (locals b bs k) ≤ length ms
        → occs x (carried θ ms b bs k) + count x (drop (bump_cost θ (locals b bs k)) ms) ≡ occs x bs + count x ms)
        → occs x (carried θ ns u (b ∷ bs) k) + count x (drop (bump_cost θ (locals u (b ∷ bs) k)) ns) ≡ occs x (b ∷ bs) + count x ns
    spent [] f e l up = absurd (omega (arith, e))
    spent (m ∷ ns) f e l up =
        rw (carried_full θ (m ∷ ns) u b bs k m ns refl f, e)
        (omega (arith, occ_split x b k m, up ns (omega (arith, e))))

pub one_same : (m m' : ℕ) (g g' : ℕ → ℕ) → m' ≡ m → ((x : ℕ) → g' x ≡ g x) → OneForOne m g → OneForOne m' g'
one_same m m' g g' e f h = record { once = λ x p q. f x ∙ h.once x p (omega arith); none = λ x p. f x ∙ h.none x (omega arith) }

-- numbers that are dropped
pub count_drop : (x n : ℕ) (ns : List ℕ) → count x (drop n ns) ≤ count x ns
count_drop x zero ns = omega arith
count_drop x (suc n) [] = omega arith
count_drop x (suc n) (m ∷ ns) = omega (arith, count_drop x n ns)

-- the levels above, with one number taken
pub numbered_above : (c m : ℕ) (ns : List ℕ) (b : Trie ℕ) (bs : List (Trie ℕ)) → Numbered c (m ∷ ns) (b ∷ bs) → Numbered c ns bs
numbered_above c m ns b bs g =
    record {
      once = λ x. omega (arith, g.once x);
      none = λ x p. omega (arith, g.none x p);
      positive = omega (arith, g.positive);
    }
