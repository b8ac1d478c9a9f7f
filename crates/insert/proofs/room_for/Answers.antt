-- What is left, by the head and by the released blocks.
use Rattle.std.proofs.Common.{◌≡◌, sym, ap, ap₂, ◌∙◌, Bool, ◌&&◌, false, ℕ, ◌+◌, ◌-◌, ◌<◌, ◌≤◌, List, leb}
use native.Mathlib.Omega.{arith}
use borrow.Author.Tests.{lt-leb, le-leb}
use Rattle.store.specs.declared.Head.{Head}
use Rattle.store.specs.declared.Released.{Released}
use Rattle.store.specs.Head.{head_of, released_of, nodes_left, pages_left}
use Rattle.store.proofs.HeadLaws.{head_whole}
use Rattle.store.proofs.Places.{under_limits, under_counts, under_chains}
use Rattle.insert.proofs.room_for.Goals as goal

-- the nodes and pages left, as the code counts them
nodes_are : (s : List ℕ) {h : Head} {r : Released} → h ≡ head_of s → r ≡ released_of s → r.nodes + (h.node_blocks - h.nodes_taken) ≡ nodes_left s
nodes_are s e g = ap₂ (λ (x : Released) (h : Head). x.nodes + (h.node_blocks - h.nodes_taken)) g e

pages_are : (s : List ℕ) {h : Head} {r : Released} → h ≡ head_of s → r ≡ released_of s → r.pages + (h.page_blocks - h.pages_taken) ≡ pages_left s
pages_are s e g = ap₂ (λ (x : Released) (h : Head). x.pages + (h.page_blocks - h.pages_taken)) g e

too_few : {n a : ℕ} (x : ℕ) (b : Bool) → n ≡ a → n < x → false ≡ (leb x a && b)
too_few {a = a} x b e l = sym (ap (λ c. c && b) (lt-leb x a (omega (arith, e, l))))

enough : {n a m b : ℕ} (x y : ℕ) → n ≡ a → x ≤ n → m ≡ b → leb y m ≡ (leb x a && leb y b)
enough {a = a} {b = b} x y e l g = ap (leb y) g ∙ sym (ap (λ c. c && leb y b) (le-leb x a (omega (arith, e, l))))

pub released_of-r-requires : goal.released_of-r-requires
released_of-r-requires c = head_whole _ _ c.requires.rule

pub overflow_sub-head : goal.overflow_sub-head
overflow_sub-head c = (under_counts c.requires).taken

pub overflow_add-r : goal.overflow_add-r
overflow_add-r c =
    let p = c.requires in
    omega (arith, (under_chains p c.released_of-r.ensures).nodes, (under_counts p).taken, (under_limits p).nodes)

pub returns-then-r-head : goal.returns-then-r-head
returns-then-r-head c = too_few _ _ (nodes_are _ c.requires.head c.released_of-r.ensures) c.if-r-head.true

pub overflow_sub-result : goal.overflow_sub-result
overflow_sub-result c = (under_counts c.requires).filled

pub overflow_add-result : goal.overflow_add-result
overflow_add-result c =
    let p = c.requires in
    omega (arith, (under_chains p c.released_of-r.ensures).pages, (under_counts p).filled, (under_limits p).pages)

pub returns : goal.returns
returns c =
    let e = c.requires.head in
    let g = c.released_of-r.ensures in
    enough _ _ (nodes_are _ e g) (omega arith) (pages_are _ e g)
