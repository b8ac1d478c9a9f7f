-- What specs/NodePromises.antt promises of a node's array, each theorem from the laws of arrays and tries.
use mathlib.Core.Path.{◌≡◌, sym, ap, ◌∙◌}
use mathlib.Core.List.{map}
use Prim.Native.Nat.{suc, ◌-◌, ◌*◌, ◌^◌, ◌<◌}
use native.Mathlib.Nat.{zero-add, add-sub_of_le}
use native.Mathlib.Omega.{arith}
use lib.ListN.{get_or}
use lib.Seq.{take_at, drop_at}
use lib.Pow.{shl_lt, shl-shr}
use Rattle.lists.proofs.BitLaws.{index_align}
use Rattle.lists.specs.Lists.{replaced}
use Rattle.tree.specs.Trie.{leaf_at, depth}
use Rattle.tree.specs.Node.{flatten, largest, lowered}
use Rattle.tree.specs.NodePromises.{Length, AtKey, RunWritten, Doubled, Shrunk, LargestIs, LeftHalf, RightHalf, Obeys, IsTrie, Steps}
use Rattle.tree.proofs.Flatten.{length_flatten, start, graft_run, entry}
use Rattle.tree.proofs.Scale.{scale, largest_flatten, lowered_flatten}
use Rattle.tree.proofs.RunRules.{flatten_obeys, converse}
use Rattle.tree.proofs.Steps.{flatten_steps}

module _ {A : Type 0} where
  pub length : Length A
  length = length_flatten

  pub at_key : AtKey A
  at_key H t k z fits = entry H t k 0 fits z ∙ ap (λ n. (n, leaf_at t k)) (zero-add (depth t k))

  pub run_written : RunWritten A
  unfolding replaced
  run_written H t s k d a n fits en ea =
      let e : a ≡ start H t k = ea ∙ rw en (index_align k fits) in
      rw (e, en) (graft_run H t s k d fits)

  pub doubled : Doubled A
  doubled H t d z j p h =
      let e : suc H - H ≡ 1 = omega arith in
      rw e at (scale (suc H) H t d z j p (omega arith) h)

  pub shrunk : Shrunk A
  shrunk H K t d z j p q h =
      let l : j * 2 ^ (H - K) < 2 ^ H = rw (add-sub_of_le q) at (shl_lt K (H - K) h) in
      ap (λ n. get_or (flatten K t d) n z) (sym (shl-shr j (H - K))) ∙ sym (scale H K t d z (j * 2 ^ (H - K)) p q l)

  pub largest_is : LargestIs A
  largest_is = largest_flatten

  pub left_half : LeftHalf A
  left_half H l r d =
      ap (map lowered) (take_at (flatten H l (suc d)) (flatten H r (suc d)) (2 ^ H) (length_flatten H l (suc d))) ∙ lowered_flatten H l d

  pub right_half : RightHalf A
  right_half H l r d =
      ap (map lowered) (drop_at (flatten H l (suc d)) (flatten H r (suc d)) (2 ^ H) (length_flatten H l (suc d))) ∙ lowered_flatten H r d

  pub obeys : Obeys A
  obeys = flatten_obeys

  pub is_trie : IsTrie A
  is_trie H es z n r m =
      let v = converse z H es n r in
      (v.0, omega (arith, largest_flatten H v.0 0 v.1, ap largest v.2), v.2)

  pub steps : Steps A
  steps = flatten_steps
