-- What the chain test says, on any words: the blocks that are to be taken are those of the chain and the unused ones, in this order; they
-- are numbers of blocks, none stands twice among them, and the released ones have their form.
use mathlib.Core.Path.{◌≡◌, refl, sym, ap, ◌∙◌, subst}
use mathlib.Core.Bool.{Bool, true, false, not, ◌&&◌}
use mathlib.Core.List.{List, [], ◌∷◌}
use Prim.Native.Nat.{ℕ, zero, suc, ◌+◌, ◌-◌, ◌≤◌}
use native.Mathlib.Decide.{ℕ_discrete, dec_le}
use native.Mathlib.Omega.{arith}
use lib.Dec.{eqb}
use lib.ListN.{length, take, length-take}
use borrow.Author.Tests.{eqb-true, eqb-false, not-true}
use Rattle.lists.proofs.Tests.{and_true, or_none, every_at}
use Rattle.store.specs.declared.Format.{Format}
use Rattle.store.specs.declared.Head.{Head}
use Rattle.store.specs.Head.{word, zeros, head_of, released_of, head_rule, named, nodes_left, pages_left, node_start, page_start}
use Rattle.store.specs.Released.{node_form, page_form, node_next, page_next, chain_of, up_from, member, link_ok, chain_ok, nodes_ok, pages_ok}
use Rattle.store.specs.Released.{released_nodes, released_pages, nodes_to_come, pages_to_come}
use Rattle.store.proofs.HeadLaws.{named_facts, head_facts}
use Rattle.node.specs.Node.{level_word}
use Rattle.represent.specs.Labelled.{count}
use Rattle.represent.proofs.LabelLaws.{ind_eq, ind_other}
use Rattle.split.specs.Supply.{to_come}
use Rattle.split.proofs.SupplyLaws.{up_from_low, up_from_in, up_from_high, length_come}
use Rattle.insert.specs.Fine.{Named, Coming, Supply, PageSupply}

count_take : (x n : ℕ) (ns : List ℕ) → count x (take n ns) ≤ count x ns
count_take x zero ns = omega arith
count_take x (suc n) [] = omega arith
count_take x (suc n) (m ∷ ns) = omega (arith, count_take x n ns)

up_from_once : (n m x : ℕ) → count x (up_from n m) ≤ 1
up_from_once n m x =
    elim (dec_le x m) [
      | yes l ↦ omega (arith, up_from_low n m x l)
      | no l ↦ elim (dec_le x (m + n)) [
        | yes h ↦ omega (arith, up_from_in n m x (omega arith) h)
        | no h ↦ omega (arith, up_from_high n m x (omega arith))
      ]
    ]

-- unused ones
coming_unused : (next : ℕ → ℕ) (taken cap name n : ℕ) → n ≤ cap - taken → name ≡ 0
    → Coming next taken cap 0 name (take n (up_from (cap - taken) taken))
unfolding up_from
coming_unused next taken cap name zero l z = record { within = omega (arith, z); some = λ i. absurd (omega arith); none = λ i. z }
coming_unused next taken cap name (suc n) l z =
    let e : cap - taken ≡ suc (cap - suc taken) = omega arith in
    subst (λ k. Coming next taken cap 0 name (take (suc n) (up_from k taken))) (sym e)
    (refl, omega arith, z, coming_unused next (suc taken) cap name n (omega arith) z)

member_not : (x n : ℕ) (seen : List ℕ) → member x (n ∷ seen) ≡ false → (x ≡ n → ⊥) × (member x seen ≡ false)
unfolding member
member_not x n seen e = let o = or_none (eqb x n) (member x seen) e in (eqb-false x n o.0, o.1)

module _ (form : ℕ → Bool) (next : ℕ → ℕ) (taken cap : ℕ) (fits : taken ≤ cap) where
  record Tested (many name : ℕ) (seen ns : List ℕ) : Type 0 where
    coming : Coming next taken cap many name ns
    once : (x : ℕ) → count x ns ≤ 1
    forms : (x : ℕ) → 1 ≤ count x ns → x ≤ taken → (form x ≡ true) × (member x seen ≡ false)

  tested : (n many name : ℕ) (seen : List ℕ) → chain_ok form next taken n many name seen ≡ true → Named name many taken
      → n ≤ many + (cap - taken) → Tested many name seen (take n (to_come next many name taken cap))
  unfolding chain_ok link_ok chain_of
  tested zero many name seen e g l =
      record { coming = g; once = λ x. omega arith; forms = λ x o h. absurd (omega arith) }
  tested (suc n) zero name seen e g l =
      record {
        coming = coming_unused next taken cap name (suc n) (omega arith) (g.none refl);
        once = λ x. omega (arith, count_take x (suc n) (up_from (cap - taken) taken), up_from_once (cap - taken) taken x);
        forms = λ x o h.
            absurd (omega (arith, count_take x (suc n) (up_from (cap - taken) taken), up_from_low (cap - taken) taken x h));
      }
  tested (suc n) (suc many) name seen e g l =
      let a = and_true _ _ e in
      let b = and_true (form name && not (member name seen)) (named (next name) many taken) a.0 in
      let c = and_true (form name) (not (member name seen)) b.0 in
      let q = named_facts (next name) many taken b.1 in
      let r =
      tested n many (next name) (name ∷ seen) a.1 (record { within = q.within; some = q.some; none = q.none }) (omega arith) in
      record {
        coming = (refl, g.some (omega arith), g.within, r.coming);
        once = λ x.
            elim (ℕ_discrete x name) [
              | yes i ↦
                  elim (dec_le 1 (count x (take n (to_come next many (next name) taken cap)))) [
                    | yes o ↦ absurd ((member_not x name seen (r.forms x o (omega (arith, g.within))).1).0 i)
                    | no o ↦ omega (arith, ind_eq x name i)
                  ]
              | no i ↦ omega (arith, ind_other x name i, r.once x)
            ];
        forms = λ x o h.
            elim (ℕ_discrete x name) [
              | yes i ↦ (ap form i ∙ c.0, ap (λ y. member y seen) i ∙ not-true (member name seen) c.1)
              | no i ↦
                  let w = r.forms x (omega (arith, ind_other x name i)) h in
                  (w.0, (member_not x name seen w.1).1)
            ];
      }

-- a block of the form has level 0, and a page of the form has no record
form_level : (s : List ℕ) (x : ℕ) → node_form s x ≡ true → level_word s (node_start (head_of s) x) ≡ 0
unfolding node_form zeros
form_level s x e =
    eqb-true _ 0 (every_at 2 (λ j. eqb (word s (node_start (head_of s) x + j)) 0) (and_true _ _ e).0 1 (omega arith))

form_count : (f : Format) (s : List ℕ) (x : ℕ) → page_form f s x ≡ true → word s (page_start f (head_of s) x) ≡ 0
unfolding page_form zeros
form_count f s x e =
    let d : page_start f (head_of s) x + 0 ≡ page_start f (head_of s) x = omega arith in
    ap (word s) (sym d) ∙ eqb-true _ 0 (every_at 1 (λ j. eqb (word s (page_start f (head_of s) x + j)) 0) (and_true _ _ e).0 0 (omega arith))

module _ (f : Format) (s : List ℕ) (rule : head_rule f s ≡ true) where
  abbrev h : Head
  h = head_of s

  module _ (n : ℕ) (room : n ≤ nodes_left s) (test : nodes_ok s n ≡ true) where
    nodes_tested : Tested (node_form s) (node_next s) h.nodes_taken h.node_blocks (head_facts f s rule).counts.taken
        (released_of s).nodes (released_of s).node [] (take n (nodes_to_come s))
    unfolding nodes_ok nodes_to_come released_nodes
    nodes_tested =
        let c = head_facts f s rule in
        tested (node_form s) (node_next s) h.nodes_taken h.node_blocks c.counts.taken n (released_of s).nodes (released_of s).node []
        test
        (record { within = c.chains.node.within; some = c.chains.node.some; none = c.chains.node.none })
        (omega arith)

    pub start_supply : Supply s (take n (nodes_to_come s))
    start_supply =
        let c = head_facts f s rule in
        record { fits = c.counts.taken; below = c.chains.nodes; coming = nodes_tested.coming; once = nodes_tested.once }

    -- a taken node with a level is none of them
    pub start_clear : (x : ℕ) → x ≤ h.nodes_taken → 1 ≤ level_word s (node_start h x) → count x (take n (nodes_to_come s)) ≡ 0
    start_clear x high level =
        elim (dec_le 1 (count x (take n (nodes_to_come s)))) [
          | yes o ↦ absurd (omega (arith, form_level s x (nodes_tested.forms x o high).0))
          | no o ↦ omega arith
        ]

    pub start_enough : n ≤ length (take n (nodes_to_come s))
    unfolding nodes_to_come released_nodes
    start_enough =
        omega (
          arith,
          length-take n (nodes_to_come s),
          length_come (node_next s) (released_of s).nodes (released_of s).node h.nodes_taken h.node_blocks,
        )

  module _ (n : ℕ) (room : n ≤ pages_left s) (test : pages_ok f s n ≡ true) where
    pages_tested : Tested (page_form f s) (page_next f s) h.pages_taken h.page_blocks (head_facts f s rule).counts.filled
        (released_of s).pages (released_of s).page [] (take n (pages_to_come f s))
    unfolding pages_ok pages_to_come released_pages
    pages_tested =
        let c = head_facts f s rule in
        tested (page_form f s) (page_next f s) h.pages_taken h.page_blocks c.counts.filled n (released_of s).pages (released_of s).page
        [] test
        (record { within = c.chains.page.within; some = c.chains.page.some; none = c.chains.page.none })
        (omega arith)

    pub page_supply : PageSupply f s (take n (pages_to_come f s))
    page_supply =
        let c = head_facts f s rule in
        record { fits = c.counts.filled; below = c.chains.pages; coming = pages_tested.coming; once = pages_tested.once }

    -- a taken page with a record is none of them
    pub page_clear : (x : ℕ) → x ≤ h.pages_taken → 1 ≤ word s (page_start f h x) → count x (take n (pages_to_come f s)) ≡ 0
    page_clear x high some =
        elim (dec_le 1 (count x (take n (pages_to_come f s)))) [
          | yes o ↦ absurd (omega (arith, form_count f s x (pages_tested.forms x o high).0))
          | no o ↦ omega arith
        ]

    pub page_enough : n ≤ length (take n (pages_to_come f s))
    unfolding pages_to_come released_pages
    page_enough =
        omega (
          arith,
          length-take n (pages_to_come f s),
          length_come (page_next f s) (released_of s).pages (released_of s).page h.pages_taken h.page_blocks,
        )
