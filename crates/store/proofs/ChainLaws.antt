-- Chains of released blocks: the test of a chain, block by block, and the form of a block.
use mathlib.Core.Path.{◌≡◌, refl, sym, ap, ap₂, ◌∙◌}
use mathlib.Core.Bool.{Bool, true, false, ◌&&◌, ◌||◌, not}
use mathlib.Core.List.{List, [], ◌∷◌}
use Prim.Native.Nat.{ℕ, zero, suc, ◌+◌, ◌-◌, ◌≤◌, ◌<◌}
use native.Mathlib.Decide.{dec_lt}
use native.Mathlib.Numerals.{add-one}
use native.Mathlib.Omega.{arith}
use lib.Dec.{eqb}
use borrow.Author.Tests.{eq-eqb, ne_eqb}
use Rattle.lists.proofs.Tests.{and_true}
use Rattle.store.specs.declared.Format.{Format}
use Rattle.store.specs.declared.Head.{Head}
use Rattle.store.specs.declared.Released.{Released}
use Rattle.store.specs.Head.{word, zeros, head_of, released_of, named, node_words, page_words, node_start, page_start}
use Rattle.store.proofs.HeadLaws.{Named, named_facts}
use Rattle.store.specs.Released.{node_form, page_form, node_next, page_next, after_all, passed, member, link_ok, chain_ok, nodes_ok, pages_ok}

-- the blocks passed, one more
module _ (next : ℕ → ℕ) (first : ℕ) where
  pub after_none : first ≡ after_all next 0 first
  unfolding after_all
  after_none = refl

  pub after_more : (i x y : ℕ) → x ≡ after_all next i first → y ≡ next x → y ≡ after_all next (i + 1) first
  unfolding after_all
  after_more i x y e q = q ∙ ap next e ∙ sym (ap (λ j. after_all next j first) (add-one i))

  passed_more : (i x : ℕ) → x ≡ after_all next i first → x ∷ passed next i first ≡ passed next (i + 1) first
  unfolding passed
  passed_more i x e = ap (λ y. y ∷ passed next i first) e ∙ sym (ap (λ j. passed next j first) (add-one i))

  pub seen_none : (name : ℕ) → member name (passed next 0 first) ≡ false
  unfolding passed member
  seen_none name = refl

  pub seen_more : (name i x : ℕ) → x ≡ after_all next i first → (x ≡ name → ⊥) → member name (passed next i first) ≡ false
      → member name (passed next (i + 1) first) ≡ false
  unfolding member
  seen_more name i x e ne m =
      sym (ap (member name) (passed_more i x e)) ∙ rw (ne_eqb name x (λ q. ne (sym q)), m)

  seen_here : (name i x : ℕ) → x ≡ after_all next i first → x ≡ name → member name (passed next (suc i) first) ≡ true
  unfolding member passed
  seen_here name i x e q = rw (← e, eq-eqb name x (sym q))

  or_right : (a b : Bool) → b ≡ true → (a || b) ≡ true
  or_right true b e = refl
  or_right false b e = e

  pub seen_later : (name i x n : ℕ) → x ≡ after_all next i first → x ≡ name → i < n → true ≡ member name (passed next n first)
  unfolding member passed
  seen_later name i x zero e q l = absurd (omega arith)
  seen_later name i x (suc n) e q l =
      elim (dec_lt i n) [
        | yes h ↦ sym (or_right (eqb name (after_all next n first)) _ (sym (seen_later name i x n e q h)))
        | no h ↦ let d : i ≡ n = omega arith in sym (ap (λ j. member name (passed next (suc j) first)) (sym d) ∙ seen_here name i x e q)
      ]

-- the test of a chain, from its block number i on
module _ (form : ℕ → Bool) (next : ℕ → ℕ) (taken : ℕ) where
  pub chain_turn : (n count name : ℕ) (seen : List ℕ)
      → chain_ok form next taken (suc n) (suc count) name seen
      ≡ (link_ok form next taken name seen count && chain_ok form next taken n count (next name) (name ∷ seen))
  unfolding chain_ok
  chain_turn n count name seen = refl

  pub chain_out : (n count name : ℕ) (seen : List ℕ) → (n ≡ 0) → chain_ok form next taken n count name seen ≡ true
  unfolding chain_ok
  chain_out n count name seen z = rw (z, chain_ok)

  none_left : (n name : ℕ) (seen : List ℕ) → chain_ok form next taken n 0 name seen ≡ true
  unfolding chain_ok
  none_left zero name seen = refl
  none_left (suc n) name seen = refl

  pub chain_end : (n count name : ℕ) (seen : List ℕ) → (count ≡ 0) → chain_ok form next taken n count name seen ≡ true
  chain_end n count name seen z = ap (λ c. chain_ok form next taken n c name seen) z ∙ none_left n name seen

  linked_on : (a b : Bool) → a ≡ true → (a && b) ≡ b
  linked_on a b e = rw e

  linked_off : (a b : Bool) → a ≡ false → (a && b) ≡ false
  linked_off a b e = rw e

  pub chain_more : (first n count i name m : ℕ) → i < n → i < count → name ≡ after_all next i first → m ≡ next name
      → link_ok form next taken name (passed next i first) (count - 1 - i) ≡ true
      → chain_ok form next taken (n - i) (count - i) name (passed next i first)
      ≡ chain_ok form next taken (n - (i + 1)) (count - (i + 1)) m (passed next (i + 1) first)
  chain_more first n count i name m p q e z l =
      let a : n - i ≡ suc (n - (i + 1)) = omega arith in
      let b : count - i ≡ suc (count - (i + 1)) = omega arith in
      let d : count - 1 - i ≡ count - (i + 1) = omega arith in
      ap₂ (λ x y. chain_ok form next taken x y name (passed next i first)) a b
      ∙ chain_turn (n - (i + 1)) (count - (i + 1)) name (passed next i first)
      ∙ linked_on _ _ (ap (link_ok form next taken name (passed next i first)) (sym d) ∙ l)
      ∙ ap₂ (λ x seen. chain_ok form next taken (n - (i + 1)) (count - (i + 1)) x seen) (sym z) (passed_more next first i name e)

  pub chain_broken : (first n count i name : ℕ) → i < n → i < count
      → link_ok form next taken name (passed next i first) (count - 1 - i) ≡ false
      → chain_ok form next taken (n - i) (count - i) name (passed next i first) ≡ false
  chain_broken first n count i name p q l =
      let a : n - i ≡ suc (n - (i + 1)) = omega arith in
      let b : count - i ≡ suc (count - (i + 1)) = omega arith in
      let d : count - 1 - i ≡ count - (i + 1) = omega arith in
      ap₂ (λ x y. chain_ok form next taken x y name (passed next i first)) a b
      ∙ chain_turn (n - (i + 1)) (count - (i + 1)) name (passed next i first)
      ∙ linked_off _ _ (ap (link_ok form next taken name (passed next i first)) (sym d) ∙ l)

-- three tests of a block
pub link_is : (form : ℕ → Bool) (next : ℕ → ℕ) (taken name : ℕ) (seen : List ℕ) (left m : ℕ) (a b c : Bool) → a ≡ form name
    → b ≡ member name seen → m ≡ next name → c ≡ named m left taken → (a && not b && c) ≡ link_ok form next taken name seen left
unfolding link_ok
link_is form next taken name seen left m a b c e q z r = rw (e, q, r, z)

-- the last of them: the next one is named
pub link_named : (form : ℕ → Bool) (next : ℕ → ℕ) (taken name : ℕ) (seen : List ℕ) (m count i : ℕ) → m ≡ next name
    → link_ok form next taken name seen (count - 1 - i) ≡ true → Named m (count - (i + 1)) taken
unfolding link_ok
link_named form next taken name seen m count i e t =
    let d : count - 1 - i ≡ count - (i + 1) = omega arith in
    named_facts m (count - (i + 1)) taken
    (ap (λ (x : ℕ). named x (count - (i + 1)) taken) e ∙ ap (λ (x : ℕ). named (next name) x taken) (sym d)
    ∙ (and_true (form name && not (member name seen)) (named (next name) (count - 1 - i) taken) t).1)

pub nodes_start : (s : List ℕ) (h : Head) (r : Released) (n : ℕ) → h ≡ head_of s → r ≡ released_of s
    → chain_ok (node_form s) (node_next s) h.nodes_taken (n - 0) (r.nodes - 0) r.node (passed (node_next s) 0 r.node) ≡ nodes_ok s n
unfolding nodes_ok passed
nodes_start s h r n e q =
    let a : n - 0 ≡ n = omega arith in
    let b : r.nodes - 0 ≡ r.nodes = omega arith in
    ap₂ (λ x y. chain_ok (node_form s) (node_next s) h.nodes_taken x y r.node []) a b ∙ rw (e, q)

pub named_start : (name count taken : ℕ) → Named name count taken → Named name (count - 0) taken
named_start name count taken n = let a : count - 0 ≡ count = omega arith in rw a n

-- one page
pub pages_none : (f : Format) (s : List ℕ) (n : ℕ) → n ≡ 0 → true ≡ pages_ok f s n
unfolding pages_ok
pages_none f s n z = sym (chain_out _ _ _ n _ _ [] z)

pub pages_empty : (f : Format) (s : List ℕ) (r : Released) (n : ℕ) → r ≡ released_of s → r.pages ≡ 0 → true ≡ pages_ok f s n
unfolding pages_ok
pages_empty f s r n e z = sym (chain_end _ _ _ n _ _ [] (ap (λ (x : Released). x.pages) (sym e) ∙ z))

one_link : (a b : Bool) → (a && b) ≡ (a && true && b && true)
one_link true true = refl
one_link true false = refl
one_link false true = refl
one_link false false = refl

alone : (form : ℕ → Bool) (next : ℕ → ℕ) (taken count name : ℕ)
    → chain_ok form next taken 1 (suc count) name [] ≡ (form name && true && named (next name) count taken && true)
unfolding chain_ok link_ok member
alone form next taken count name = refl

pages_start : (f : Format) (s : List ℕ) (h : Head) (r : Released) (n : ℕ) → h ≡ head_of s → r ≡ released_of s
    → chain_ok (page_form f s) (page_next f s) h.pages_taken n r.pages r.page [] ≡ pages_ok f s n
unfolding pages_ok
pages_start f s h r n e q = rw (e, q)

pub pages_one : (f : Format) (s : List ℕ) (h : Head) (r : Released) (n next : ℕ) (a b : Bool) → h ≡ head_of s → r ≡ released_of s
    → n ≡ 1 → 1 ≤ r.pages → next ≡ page_next f s r.page → a ≡ page_form f s r.page → b ≡ named next (r.pages - 1) h.pages_taken
    → (a && b) ≡ pages_ok f s n
pages_one f s h r n next a b e q z l i j k =
    let c : r.pages ≡ suc (r.pages - 1) = omega arith in
    one_link a b ∙ ap₂ (λ x y. x && true && y && true) j (k ∙ ap (λ m. named m (r.pages - 1) h.pages_taken) i)
    ∙ sym (alone (page_form f s) (page_next f s) h.pages_taken (r.pages - 1) r.page)
    ∙ ap₂ (λ m count. chain_ok (page_form f s) (page_next f s) h.pages_taken m count r.page []) (sym z) (sym c)
    ∙ pages_start f s h r n e q

-- the next one of a block
pub node_next_is : (s : List ℕ) (h : Head) (n at x : ℕ) → h ≡ head_of s → at ≡ node_start h n → x ≡ word s (at + 2) → x ≡ node_next s n
node_next_is s h n at x e p q = q ∙ ap (λ i. word s (i + 2)) (p ∙ ap (λ (g : Head). node_start g n) e)

pub page_next_is : (f : Format) (s : List ℕ) (h : Head) (p at x : ℕ) → h ≡ head_of s → at ≡ page_start f h p → x ≡ word s (at + 1)
    → x ≡ page_next f s p
page_next_is f s h p at x e r q = q ∙ ap (λ i. word s (i + 1)) (r ∙ ap (λ (g : Head). page_start f g p) e)

-- the form of a block
pub node_form_is : (s : List ℕ) (h : Head) (n at w : ℕ) (a b : Bool) → h ≡ head_of s → at ≡ node_start h n → w ≡ node_words h.theta
    → a ≡ zeros s at 2 → b ≡ zeros s (at + 3) (w - 3) → (a && b) ≡ node_form s n
unfolding node_form
node_form_is s h n at w a b e p q i j = rw (i, j, p, q, e)

pub page_form_is : (f : Format) (s : List ℕ) (h : Head) (p at w : ℕ) (a b : Bool) → h ≡ head_of s → at ≡ page_start f h p
    → w ≡ page_words f h.capacity → a ≡ zeros s at 1 → b ≡ zeros s (at + 2) (w - 2) → (a && b) ≡ page_form f s p
unfolding page_form
page_form_is f s h p at w a b e r q i j = rw (i, j, r, q, e)
