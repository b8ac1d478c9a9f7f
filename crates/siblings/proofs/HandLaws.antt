-- The node in hand, joined and covered, as the code does it.
use mathlib.Core.Path.{◌≡◌, sym, ap, ◌∙◌}
use mathlib.Core.Bool.{Bool, true, false}
use mathlib.Core.List.{List}
use Prim.Native.Nat.{ℕ, suc, ◌+◌, ◌-◌, ◌^◌, ◌≤◌, ◌<◌, max}
use native.Mathlib.Omega.{arith}
use Rattle.lists.specs.Bits.{bits, index}
use Rattle.lists.proofs.BitLaws.{drop_bits}
use Rattle.tree.specs.Trie.{Key}
use Rattle.node.specs.Node.{depth_word, entry_number}
use Rattle.node.proofs.EntryNumber.{entry_index}
use Rattle.split.specs.Value.{Shallow}
use Rattle.fuse.specs.Join.{cover, joined}
use Rattle.remove.specs.Remove.{covered}
use Rattle.remove.proofs.BlocksIn.{joined_fine, cover_fine}
use Rattle.store.specs.Head.{node_words}
use Rattle.remove.proofs.InsideRemove.{block_long}
use lib.ListN.{length}
use Rattle.store.specs.declared.Format.{Format}
use Rattle.store.specs.Format.{width}
use Rattle.siblings.specs.Nodes.{paired, HandFine}

pub cover_code : (W θ k used m q : ℕ) (ws : List ℕ) {i d : ℕ} {out : List ℕ} → i ≡ entry_number W k used (depth_word ws 0) → d ≡ m - used
    → used + depth_word ws 0 ≤ W → k < 2 ^ W → ((key : Key) → index (depth_word ws 0) key ≡ i → out ≡ cover θ ws key d q)
    → out ≡ covered W θ k used m q ws
cover_code W θ k used m q ws ei ed room low c =
    c (bits (W - used) k)
    (sym (ei ∙ entry_index W k used (depth_word ws 0) room low ∙ ap (index (depth_word ws 0)) (drop_bits W used k (omega (arith, room)))))
    ∙ ap (λ d. cover θ ws (bits (W - used) k) d q) ed

pub paired_fine : (θ : ℕ) (node hand : List ℕ) (b : Bool) → Shallow θ node → Shallow θ hand
    → suc (max (depth_word hand 0) (depth_word node 0)) ≤ θ
    → Shallow θ (paired θ node hand b) × (depth_word (paired θ node hand b) 0 ≡ suc (max (depth_word hand 0) (depth_word node 0)))
unfolding paired
paired_fine θ node hand true a c l = let r = joined_fine θ node hand a c (omega (arith, l)) in (r.0, omega (arith, r.1))
paired_fine θ node hand false a c l = joined_fine θ hand node c a l

pub paired_long : (θ : ℕ) (node hand : List ℕ) (b : Bool) → length (paired θ node hand b) ≡ node_words θ
unfolding paired joined
paired_long θ node hand true = block_long θ _ _ _ _ _
paired_long θ node hand false = block_long θ _ _ _ _ _

pub covered_fine : (f : Format) (θ k used m q : ℕ) (node hand : List ℕ) (b : Bool) → Shallow θ node → Shallow θ hand
    → suc (max (depth_word hand 0) (depth_word node 0)) ≤ θ → used + suc (max (depth_word hand 0) (depth_word node 0)) ≤ width f
    → m - used ≤ suc (max (depth_word hand 0) (depth_word node 0)) → {out : List ℕ} → out ≡ covered (width f) θ k used m q (paired θ node hand b)
    → HandFine f θ m used out
covered_fine f θ k used m q node hand b a c l w d e =
    let r = paired_fine θ node hand b a c l in
    let v = cover_fine θ (paired θ node hand b) (bits (width f - used) k) (m - used) q r.0 (omega (arith, d, r.1)) in
    rw e record { shallow = v.0; reaches = v.1; left = omega (arith, w, r.1, v.2) }
