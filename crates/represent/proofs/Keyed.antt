-- Records in the stretch of their key: the stretches are no deeper than a key is long, and the keys at a key's leaf agree with it.
use mathlib.Core.Path.{◌≡◌, sym, ◌∙◌}
use mathlib.Core.List.{List}
use mathlib.Core.Logic.{inl, inr}
use mathlib.Core.Bool.{true}
use Prim.Native.Nat.{ℕ, zero, suc, ◌+◌, ◌-◌, ◌*◌, ◌/◌, ◌^◌, ◌≤◌, ◌<◌}
use native.Mathlib.Nat.{sub-zero, suc-sub-suc}
use native.Mathlib.Omega.{arith}
use Rattle.lists.specs.Bits.{bit, bits}
use Rattle.lists.specs.Lists.{All}
use Rattle.lists.specs.Keyed.{Bounded}
use Rattle.lists.proofs.Cases.{bool_cases}
use Rattle.lists.proofs.BitLaws.{bit_false, bit_true}
use Rattle.lists.proofs.ListLaws.{all_map}
use Rattle.tree.specs.Trie.{Trie, leaf, fork, height, leaf_at, depth}
use Rattle.store.specs.declared.Format.{Format}
use Rattle.store.specs.declared.Item.{Item}
use Rattle.store.specs.Format.{width}
use Rattle.page.specs.Page.{lawful_item}
use Rattle.page.proofs.Laws.{lawful_key}
use Rattle.page.specs.Schema.{key_of}
use Rattle.represent.specs.Rep.{Stretch, Keyed}

pub lawful_bounded : (f : Format) (S : List Item) → All (λ it. lawful_item f it ≡ true) S → Bounded key_of (2 ^ width f) S
lawful_bounded f S = all_map (λ it. lawful_item f it ≡ true) (λ it. it.key < 2 ^ width f) S (λ it l. (lawful_key f it l).1)

pub height_keyed : (w q : ℕ) (t : Trie Stretch) → Keyed w q t → height t ≤ w
height_keyed w q (leaf x) a = omega arith
height_keyed zero q (fork l r) a = absurd a
height_keyed (suc w) q (fork l r) a = omega (arith, height_keyed w (2 * q) l a.0, height_keyed w (2 * q + 1) r a.1)

-- the keys at a key's leaf agree with it in the bits that lead there
pub keyed_own : (w q k : ℕ) (t : Trie Stretch) → Keyed w q t → k / 2 ^ w ≡ q
    → All (λ it. it.key / 2 ^ (w - depth t (bits w k)) ≡ k / 2 ^ (w - depth t (bits w k))) (leaf_at t (bits w k)).1
keyed_own w q k (leaf x) a e =
    rw sub-zero (all_map (λ it. it.key / 2 ^ w ≡ q) (λ it. it.key / 2 ^ w ≡ k / 2 ^ w) x.1 (λ it p. p ∙ sym e) a)
keyed_own zero q k (fork l r) a e = absurd a
keyed_own (suc w) q k (fork l r) a e =
    elim (bool_cases (bit w k)) [
      | inl b ↦ rw (b, suc-sub-suc) (keyed_own w (2 * q + 1) k r a.1 (omega (arith, bit_true w k b)))
      | inr b ↦ rw (b, suc-sub-suc) (keyed_own w (2 * q) k l a.0 (omega (arith, bit_false w k b)))
    ]
