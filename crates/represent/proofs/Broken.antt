-- The broken stores hold no tree. In the one, the key 1 leads to node 1, and the node behind it does not link back. In the others, a free
-- block is not all zeros.
use mathlib.Core.Path.{◌≡◌, refl, sym, ap, ◌∙◌, subst}
use mathlib.Core.List.{List, [], ◌∷◌}
use Prim.Native.Nat.{ℕ, ◌^◌, ◌<◌}
use native.Mathlib.Omega.{arith}
use lib.ListN.{get_or}
use Rattle.lists.specs.Bits.{bit, bits}
use Rattle.lists.specs.Lists.{part, every, greatest}
use Rattle.tree.specs.Trie.{Trie, leaf_at}
use Rattle.store.specs.declared.Format.TheVariants.{Plots}
use Rattle.store.specs.Format.{width, words}
use Rattle.store.specs.Head.{head_of, zeros, node_words, node_start, page_start, page_words, page_at, node_at}
use Rattle.node.specs.Node.{run_rule, good_runs, link_rule, pointer_low, pointer_high, node_rule, entry_number, forward_word}
use Rattle.search.specs.Way.{Descent}
use Rattle.search.specs.Descent.{no_step, no_steps, damaged_node, entry_visit, step_of, lost, step_taken, descend, descent}
use Rattle.represent.specs.Rep.{Stretch, Rep}
use Rattle.represent.specs.Example.{stored}
use Rattle.represent.specs.Broken.{unlinked, UnlinkedBreaks, SmudgedBreaks}
use Rattle.represent.specs.Promises.{Neighbour}
use Rattle.represent.proofs.Links.{neighbour_passes}
use Rattle.represent.proofs.Promises.{descent_visits}

-- the key's terminal node
terminal : (get_or (descent Plots unlinked (head_of unlinked) 1).steps 0 no_step).node ≡ 1
unfolding stored bit part every greatest width words zeros head_of node_words page_words node_start page_start run_rule good_runs
    link_rule pointer_low pointer_high node_rule entry_number no_steps damaged_node entry_visit step_of lost step_taken descend descent
terminal = refl

no_back : Neighbour unlinked 1 (forward_word unlinked (node_start (head_of unlinked) 1)) → ⊥
unfolding stored head_of node_start node_words
no_back n = omega (arith, n.back)

some_behind : forward_word unlinked (node_start (head_of unlinked) 1) ≡ 0 → ⊥
unfolding stored head_of node_start node_words
some_behind e = omega (arith, e)

rep_breaks : (b0 : Trie Stretch) (bs : List (Trie ℕ)) → Rep Plots unlinked b0 bs → ⊥
unfolding width
rep_breaks b0 [] r = r.directory.links
rep_breaks b0 (b ∷ bs) r =
    let one : 1 < 2 ^ width Plots = omega arith in
    let e : leaf_at b (bits (width Plots) 1) ≡ 1 =
    sym (ap (λ (d : Descent). (get_or d.steps 0 no_step).node) (descent_visits Plots unlinked b0 (b ∷ bs) 1 r one)) ∙ terminal in
    no_back
    (subst (λ n. Neighbour unlinked n (forward_word unlinked (node_start (head_of unlinked) n))) e
    (neighbour_passes Plots unlinked b0 b bs 1 r
    (subst (λ n. forward_word unlinked (node_start (head_of unlinked) n) ≡ 0 → ⊥) (sym e) some_behind)))

pub unlinked_breaks : UnlinkedBreaks
unlinked_breaks S h = rep_breaks h.b0 h.bs h.rep

pub smudged_breaks : SmudgedBreaks
unfolding stored head_of node_words node_start node_at page_start page_words page_at part words
smudged_breaks S = (
  λ h. omega (arith, ap (λ ws. get_or ws 7 0) (h.rep.free_nodes 4 (omega arith) (omega arith))),
  λ h. omega (arith, ap (λ ws. get_or ws 4 0) (h.rep.free_pages 4 (omega arith) (omega arith))),
)
