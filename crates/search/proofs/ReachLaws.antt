-- The way on from a terminal node, as the code has it: from the node's block, lent as ws.
use mathlib.Core.Path.{◌≡◌, refl, sym, ap, ap₂, ◌∙◌}
use mathlib.Core.Bool.{Bool, ◌&&◌}
use mathlib.Core.List.{List}
use Prim.Native.Nat.{ℕ, zero, suc, ◌+◌, ◌-◌, ◌*◌, ◌^◌, ◌≤◌, ◌<◌}
use native.Mathlib.Omega.{arith}
use lib.Dec.{ltb, eqb}
use lib.ListN.{length}
use lib.Pow.{pow_mono}
use borrow.Author.Tests.{ltb-true}
use Rattle.lists.proofs.Cases.{by_cases}
use Rattle.store.specs.declared.Format.{Format}
use Rattle.store.specs.declared.Head.{Head}
use Rattle.store.specs.Head.{word, node_words, node_start, node_at, InUse, Under}
use Rattle.store.proofs.Places.{under_limits}
use Rattle.node.specs.Node.{forward_word, entry_depth, entry_pointer, node_rule}
use Rattle.node.proofs.NodeLaws.{node_facts}
use Rattle.node.proofs.InPlace.{back_in_place, forward_in_place, entry_in_place}
use Rattle.search.specs.Way.{Reached}
use Rattle.search.specs.Way.{Broken}
use Rattle.search.specs.Way.{Ends}
use Rattle.search.specs.Descent.{TerminalNode}
use Rattle.search.specs.Next.{first_pointer, run_after, run_behind, linked, pointer_from, hop, reach}
use Rattle.search.proofs.BlockLaws.{block_long, block_rule, block_depth}
use Rattle.search.proofs.NextLaws.{forward_used, turn_ends}

-- the walk over the entries is the same on two blocks with the same entries
module _ (ws s : List ℕ) (b H : ℕ)
    (same : (j : ℕ) → j < 2 ^ H → (entry_depth ws 0 j ≡ entry_depth s b j) × (entry_pointer ws 0 j ≡ entry_pointer s b j)) where
  pointer_moved : (fuel i : ℕ) → first_pointer ws 0 H fuel i ≡ first_pointer s b H fuel i
  unfolding first_pointer
  pointer_moved zero i = refl
  pointer_moved (suc n) i =
      by_cases (ltb i (2 ^ H))
      (λ t.
      let e = same i (ltb-true _ _ t) in
      by_cases (eqb (entry_pointer s b i) 0)
      (λ z. rw (t, e.1, z, e.0, first_pointer) (pointer_moved n _))
      (λ z. rw (t, e.1, z, first_pointer) e.1))
      (λ t. rw (t, first_pointer))

-- the block of a node in use
module _ {f : Format} {s : List ℕ} {h : Head} {n : ℕ} {ws : List ℕ} (u : Under f s h) (i : InUse h n) (e : ws ≡ node_at s h n) where
  -- the two tests of a link
  pub linked_is : (m : ℕ) (a b : Bool) → a ≡ node_rule h ws 0 1 → b ≡ eqb (word ws 2) m → (a && b) ≡ linked h s n m
  unfolding linked
  linked_is m a b p q =
      ap₂ (λ x y. x && y) (p ∙ block_rule u i e 1)
      (q ∙ ap (λ x. eqb x m) (ap (λ xs. word xs 2) e ∙ back_in_place u i))

-- the block of a terminal node
module _ {f : Format} {s : List ℕ} {h : Head} {n : ℕ} {ws : List ℕ} (u : Under f s h) (t : TerminalNode h s n) (e : ws ≡ node_at s h n) where
  pub depth_within : word ws 0 ≤ h.theta
  depth_within = omega (arith, block_depth u t.in_use e, (node_facts h s (node_start h n) 1 t.rule).depth)

  pub depth_small : word ws 0 ≤ 6
  depth_small = omega (arith, depth_within, (under_limits u).theta)

  pub forward_is : word ws 3 ≡ forward_word s (node_start h n)
  forward_is = ap (λ xs. word xs 3) e ∙ forward_in_place u t.in_use

  pub forward_taken : (word ws 3 ≡ 0 → ⊥) → InUse h (word ws 3)
  forward_taken z = rw forward_is (forward_used h s n t.rule (λ q. z (forward_is ∙ q)))

  -- all entries lie in the block
  pub entries_inside : 4 + 2 * 2 ^ word ws 0 ≤ length ws
  unfolding node_words
  entries_inside = omega (arith, block_long u t.in_use e, pow_mono depth_within)

  pub pointer_is : (i : ℕ) → first_pointer ws 0 (word ws 0) 64 i ≡ pointer_from s h n i
  pointer_is i =
      let same : (j : ℕ) → j < 2 ^ word ws 0
      → (entry_depth ws 0 j ≡ entry_depth s (node_start h n) j) × (entry_pointer ws 0 j ≡ entry_pointer s (node_start h n) j) =
      λ j l.
      let p = entry_in_place u t.in_use j (omega (arith, pow_mono depth_within)) in
      (ap (λ xs. word xs (4 + 2 * j)) e ∙ p.0, ap (λ xs. word xs (5 + 2 * j)) e ∙ p.1) in
      pointer_moved ws s (node_start h n) (word ws 0) same 64 i ∙ ap (λ H. first_pointer s (node_start h n) H 64 i) (block_depth u t.in_use e)

  -- where the run after that of entry i begins
  pub behind_is : (d i start : ℕ) → start ≡ run_after (word ws 0) d i → start ≡ run_behind s h n d i
  behind_is d i start p = p ∙ ap (λ H. run_after H d i) (block_depth u t.in_use e)

-- where no damage is met on the way, none is met at the hop
pub turn_sound : (s : List ℕ) (h : Head) (turns n i : ℕ) → 0 < turns → {R : Reached} → reach s h turns n i ≡ R → (R ≡ Broken → ⊥)
    → hop s h n i (turns - 1) ≡ Ends Broken → ⊥
turn_sound s h turns n i some inv ok e = ok (sym inv ∙ sym (turn_ends s h turns n i some refl e))
