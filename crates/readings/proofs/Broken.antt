-- The broken stores break the clauses, each for a reason of its own.
-- doubled: entries 0 and 1 of node 1 have one pointer, and entry 1 is outside the run of entry 0.
-- orphaned: node 2 is a node in use on level 1, so some key's terminal node; but every key's is node 1.
-- uneven: a descent that begins on level 3 meets no node of that level.
-- unlinked: nodes 1 and 2 are terminal nodes, so one of them is linked behind another node; but neither has a back link.
-- crossed: the key 0 has the terminal node 2, behind which no node is linked; but a larger key has node 1.
-- The others: by computation.
use mathlib.Core.Path.{◌≡◌, refl, sym, ap, ◌∙◌, subst}
use mathlib.Core.Bool.{false, false≢true}
use mathlib.Core.Logic.{inl, inr}
use mathlib.Core.List.{List, [], ◌∷◌, ◌++◌, Memᴰ}
use Prim.Native.Nat.{ℕ, zero, suc, ◌≤◌}
use native.Mathlib.Omega.{arith}
use Rattle.lists.specs.Lists.{All, every, greatest, part}
use Rattle.lists.proofs.AppendLaws.{append_all}
use Rattle.store.specs.declared.Format.TheVariants.{Plots}
use Rattle.store.specs.Format.{width, words}
use Rattle.store.specs.Head.{word, head_of, released_of, zeros, node_words, node_start, page_words, page_start, page_at}
use Rattle.store.specs.Released.{released_nodes, chain_of}
use Rattle.node.specs.Node.{back_word, forward_word, run_rule, good_runs, link_rule, pointer_low, pointer_high, node_rule, entry_number}
use Rattle.page.specs.Page.{page_rule}
use Rattle.search.specs.Descent.{no_steps, damaged_node, entry_visit, step_of, lost, step_taken, descend, descent}
use Rattle.represent.specs.Labelled.{first}
use Rattle.represent.specs.Example.{stored}
use Rattle.represent.specs.Broken.{unlinked}
use Rattle.represent.proofs.Chain.{linked_next}
use Rattle.readings.specs.Clauses.{NodeInUse, start, NotBefore, passed, terminal, Terminal, InKeyOrder}
use Rattle.readings.specs.Broken.{doubled, orphaned, uneven, crossed, deep, trailing, looped, steep, torn, emptied}
use Rattle.readings.specs.Broken.{DoubledBreaks, OrphanedBreaks, BalancedBreaks, LinkedBreaks, OrderedBreaks}
use Rattle.readings.specs.Broken.{TwoBreaks, ThreeBreaks, FourBreaks, FiveBreaks}
use Rattle.readings.proofs.FirstLaws.{all_mem}

-- where no node is released, the taken ones are in use
in_use : (s : List ℕ) (n : ℕ) → word s 10 ≡ 0 → 1 ≤ n → n ≤ word s 4 → NodeInUse s n
unfolding head_of released_of released_nodes chain_of
in_use s n z low high = record { taken = record { positive = low; within = high }; kept = rw z refl }

pub doubled_breaks : DoubledBreaks
unfolding doubled head_of node_start node_words
doubled_breaks c =
    let t : NodeInUse doubled 1 = in_use doubled 1 refl (omega arith) (omega arith) in
    omega (arith, (c.only 1 0 1 t (omega arith) (omega arith) (λ e. omega arith) refl).1)

-- no key reaches node 2
only_one : (k : ℕ) → terminal Plots orphaned k ≡ 1
unfolding orphaned head_of zeros node_words node_start every greatest run_rule good_runs link_rule pointer_low pointer_high node_rule
    no_steps entry_visit step_of step_taken descend descent width
only_one k = refl

unreached : Terminal Plots orphaned 2 → ⊥
unreached t = omega (arith, t.reached, only_one t.key)

pub orphaned_breaks : OrphanedBreaks
unfolding orphaned head_of node_start node_words
orphaned_breaks c =
    let t : NodeInUse orphaned 2 = in_use orphaned 2 refl (omega arith) (omega arith) in
    unreached (all_mem (Terminal Plots orphaned) (c.one.1.complete 2 t refl) c.one.1.terminals)

-- no descent begins at the root
no_root : passed Plots uneven 0 2 ≡ 0
unfolding stored head_of node_words node_start node_rule no_steps damaged_node step_of lost descend descent
no_root = refl

pub balanced_breaks : BalancedBreaks
unfolding stored head_of width
balanced_breaks c = omega (arith, (c.balanced 0 (omega arith)).root 2 refl, no_root)

-- no node has a back link
no_back : (n : ℕ) → NodeInUse unlinked n → back_word unlinked (start unlinked n) ≡ 0
unfolding stored head_of node_start node_words
no_back zero t = absurd (omega (arith, t.taken.positive))
no_back (suc zero) t = refl
no_back (suc (suc zero)) t = refl
no_back (suc (suc (suc zero))) t = refl
no_back (suc (suc (suc (suc n)))) t = absurd (omega (arith, t.taken.within))

-- no node is linked behind another, so the two are not in one list
no_two : (ns : List ℕ) → InKeyOrder Plots unlinked ns → Memᴰ 1 ns → Memᴰ 2 ns → ⊥
no_two [] o m m' = elim m [ ]
no_two (n ∷ []) o (Memᴰ.head e) (Memᴰ.tail x18) = elim x18 [ ]
no_two (n ∷ []) o (Memᴰ.tail x17) m' = elim x17 [ ]
no_two (n ∷ []) o (Memᴰ.head e) (Memᴰ.head e') = omega arith
no_two (n ∷ (n' ∷ ns)) o m m' =
    omega (arith, o.linked.2.0, no_back n' o.terminals.1.0.taken, o.terminals.0.taken.taken.positive)

pub linked_breaks : LinkedBreaks
unfolding stored head_of node_start node_words
linked_breaks c =
    let o = c.one.1 in
    no_two c.one.0 o (o.complete 1 (in_use unlinked 1 refl (omega arith) (omega arith)) refl)
    (o.complete 2 (in_use unlinked 2 refl (omega arith) (omega arith)) refl)

-- the terminal nodes of the first key and of the first with a leading 1
terminals : (terminal Plots crossed 0 ≡ 2) × (terminal Plots crossed 2147483648 ≡ 1)
unfolding stored head_of zeros node_words node_start every greatest run_rule good_runs link_rule pointer_low pointer_high node_rule
    entry_number no_steps entry_visit step_of step_taken descend descent width
terminals = (refl, refl)

-- nothing stands behind a node with no forward link
none_after : (ns : List ℕ) → All (Terminal Plots crossed) ns → 0 ≡ first ns → Memᴰ 1 ns → ⊥
none_after [] a e m = elim m [ ]
none_after (n ∷ ns) a e m = omega (arith, a.0.taken.taken.positive)

not_after : (left right : List ℕ) → InKeyOrder Plots crossed (left ++ (2 ∷ right)) → Memᴰ 1 (2 ∷ right) → ⊥
unfolding stored head_of node_start node_words
not_after left right o (Memᴰ.head e) = omega arith
not_after left right o (Memᴰ.tail m) =
    none_after right (append_all (Terminal Plots crossed) left (2 ∷ right) o.terminals).1.1
    (linked_next (λ n. back_word crossed (start crossed n)) (λ n. forward_word crossed (start crossed n)) 0 left 2 right o.linked) m

pub ordered_breaks : OrderedBreaks
unfolding width
ordered_breaks c =
    let ns = c.one.0 in
    let w : NotBefore 2 1 ns =
    subst (λ n. NotBefore n 1 ns) terminals.0
    (subst (λ n. NotBefore (terminal Plots crossed 0) n ns) terminals.1
    (c.one.1.ordered 0 2147483648 (omega arith) (omega arith))) in
    not_after w.0 w.1 (subst (InKeyOrder Plots crossed) w.2 c.one.1) w.3

pub two_breaks : TwoBreaks
unfolding stored head_of node_start node_words zeros every
two_breaks = (
  λ c. omega (arith, (c.two 2 (in_use deep 2 refl (omega arith) (omega arith))).0),
  λ c. false≢true (c.two 1 (in_use trailing 1 refl (omega arith) (omega arith))).1,
)

pub three_breaks : ThreeBreaks
unfolding stored head_of node_start node_words
three_breaks = (
  λ c.
      elim (c.three 3 0 (in_use looped 3 refl (omega arith) (omega arith)) (omega arith)).0 [
        | inl e ↦ omega (arith, e.0)
        | inr e ↦ omega (arith, e.1)
      ],
  λ c. omega (arith, (c.three 1 0 (in_use steep 1 refl (omega arith) (omega arith)) (omega arith)).1),
)

pub four_breaks : FourBreaks
unfolding stored head_of node_start node_words
four_breaks c =
    omega (arith, ap (λ e. e.0) (c.four 2 0 1 (in_use torn 2 refl (omega arith) (omega arith)) (omega arith) (omega arith)))

no_record : page_rule Plots 1 (page_at Plots emptied (head_of emptied) 1) ≡ false
unfolding stored head_of node_words page_start page_words page_at part words page_rule
no_record = refl

pub five_breaks : FiveBreaks
unfolding stored head_of node_start node_words
five_breaks c =
    elim (c.five 2 0 (in_use emptied 2 refl (omega arith) (omega arith)) refl (omega arith)) [
      | inl e ↦ omega (arith, e)
      | inr e ↦ false≢true (sym no_record ∙ e.2)
    ]
