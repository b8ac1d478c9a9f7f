-- A path of nodes that differ, marked on clear marks, is tracked.
use mathlib.Core.Path.{◌≡◌, refl, sym, ◌∙◌, subst}
use mathlib.Core.Bool.{true, false}
use mathlib.Core.List.{List, [], ◌∷◌}
use Prim.Native.Nat.{ℕ, ◌<◌}
use lib.ListN.{length, get_or, set, length-set}
use lib.Seq.{get_or-set_same, get_or-set_other}
use Rattle.lists.specs.Lists.{All, Pairwise}
use Rattle.store.specs.declared.Format.{Format}
use Rattle.store.specs.declared.Head.{Head}
use Rattle.store.specs.Head.{node_start}
use Rattle.node.specs.Node.{level_word}
use Rattle.search.specs.declared.Step.{Step}
use Rattle.search.specs.Descent.{sound_node}
use Rattle.remove.specs.Remove.{path_reach}
use Rattle.siblings.specs.Marks.{mark, bits_under, Known, Tracks, Passed}
use Rattle.siblings.specs.Paths.{path_marks}
use Rattle.siblings.proofs.MarkLaws.{mark_some, passed_on}

abbrev pub Apart : Step → Step → Type 0
Apart t x = x.node ≡ t.node → ⊥

path_other : (ts : List Step) (ms : List ℕ) (n : ℕ) → All (λ t. t.node ≡ n → ⊥) ts → get_or (path_marks ts ms) n 0 ≡ get_or ms n 0
path_other [] ms n a = refl
path_other (t ∷ ts) ms n a =
    path_other ts (set ms t.node (mark false t.used)) n a.1
    ∙ get_or-set_other ms t.node n (mark false t.used) 0 (λ e. a.0 (sym e))

at_set : (ts : List Step) (ms : List ℕ) (i x : ℕ) → All (λ t. t.node < length ms) ts → All (λ t. t.node < length (set ms i x)) ts
at_set [] ms i x a = tt
at_set (y ∷ ts) ms i x a = (subst (λ n. y.node < n) (sym (length-set ms i x)) a.0, at_set ts ms i x a.1)

path_own : (ts : List Step) (ms : List ℕ) → Pairwise Apart ts → All (λ t. t.node < length ms) ts
    → All (λ t. get_or (path_marks ts ms) t.node 0 ≡ mark false t.used) ts
path_own [] ms d a = tt
path_own (t ∷ ts) ms d a = (
  path_other ts (set ms t.node (mark false t.used)) t.node d.0
      ∙ get_or-set_same ms t.node (mark false t.used) 0 a.0,
  path_own ts (set ms t.node (mark false t.used)) d.1 (at_set ts ms t.node (mark false t.used) a.1),
)

module _ (W k : ℕ) where
  path_known : (ts : List Step) (marks : List ℕ) → All (λ t. get_or marks t.node 0 ≡ mark false t.used) ts → All (Known W k marks) (path_reach W k ts)
  unfolding bits_under
  path_known [] marks a = tt
  path_known (t ∷ ts) marks a = (record { side = false; is = a.0; bits_are = refl }, path_known ts marks a.1)

  path_apart : (ts : List Step) (n : ℕ) → All (λ x. x.node ≡ n → ⊥) (path_reach W k ts) → All (λ t. t.node ≡ n → ⊥) ts
  path_apart [] n a = tt
  path_apart (t ∷ ts) n a = (a.0, path_apart ts n a.1)

  pub path_tracks : (ts : List Step) (ms : List ℕ) → ((n : ℕ) → get_or ms n 0 ≡ 0) → Pairwise Apart ts → All (λ t. t.node < length ms) ts
      → Tracks W k (path_reach W k ts) (path_marks ts ms)
  path_tracks ts ms z d a =
      record {
        known = path_known ts (path_marks ts ms) (path_own ts ms d a);
        others = λ n b. path_other ts ms n (path_apart ts n b) ∙ z n;
      }

-- nothing is marked
pub clear_passed : (f : Format) (s : List ℕ) (h : Head) (ms : List ℕ) → ((n : ℕ) → get_or ms n 0 ≡ 0) → Passed f s h ms
clear_passed f s h ms z = record { sound = λ n b u e. absurd (mark_some b u (sym e ∙ z n)) }

-- a path of sound nodes, marked
pub path_passed : (f : Format) (s : List ℕ) (h : Head) (ts : List Step) (ms : List ℕ) → Passed f s h ms → All (λ t. t.node < length ms) ts
    → All (λ t. sound_node f s h (level_word s (node_start h t.node)) t.node t.used ≡ true) ts → Passed f s h (path_marks ts ms)
path_passed f s h [] ms y a b = y
path_passed f s h (t ∷ ts) ms y a b =
    path_passed f s h ts (set ms t.node (mark false t.used))
    (passed_on f s h (level_word s (node_start h t.node)) t.node t.used false y a.0 b.0)
    (at_set ts ms t.node (mark false t.used) a.1) b.1
