-- The writes of a removal, on any words: what they leave as it was, and what stands where they wrote.
use mathlib.Core.Path.{◌≡◌, refl, sym, ap, ◌∙◌, subst}
use mathlib.Core.Bool.{Bool, true, false}
use mathlib.Core.List.{List, [], ◌∷◌, ◌++◌}
use mathlib.Core.Logic.{◌⊎◌, inl, inr}
use Prim.Native.Nat.{ℕ, ◌+◌, ◌≤◌}
use native.Mathlib.Omega.{arith}
use native.Mathlib.Decide.{ℕ_discrete}
use lib.ListN.{length, set, take, length-set, take-append-drop}
use borrow.Author.Tests.{eq-eqb, ne_eqb}
use Rattle.lists.specs.Lists.{All, part, replaced}
use Rattle.lists.proofs.ListLaws.{all_map}
use Rattle.lists.proofs.Parts.{length_part, part_next}
use Rattle.store.specs.declared.Format.{Format}
use Rattle.store.specs.declared.Item.{Item}
use Rattle.store.specs.Head.{word, head_of, node_words, node_start, node_at}
use Rattle.store.proofs.Places.{node_end, nodes_end_lem}
use Rattle.node.specs.Node.{forward_word}
use Rattle.represent.specs.Labelled.{count}
use Rattle.represent.specs.Image.{page_image}
use Rattle.represent.specs.Rep.{size_of, Sized}
use Rattle.represent.proofs.LabelLaws.{ind_self, ind_eq}
use Rattle.split.specs.Block.{linked}
use Rattle.split.specs.Frame.{node_of, page_of, put_node, put_page, put_head}
use Rattle.split.proofs.Frame.{next_node_lem, next_page_lem}
use Rattle.split.proofs.Lengths.{length_page_image}
use Rattle.store.specs.Head.{released_of}
use Rattle.store.specs.Released.{released_node, released_page, node_next, page_next}
use Rattle.remove.specs.Doable.{In, Writable, Doable}
use Rattle.remove.specs.Remove.{Spot, Plan, put_spots, put_own, back_linked, relinked, release_nodes, release_pages, backwards, first_spot}
use Rattle.remove.specs.Remove.{top_of, written_by}
use Rattle.remove.proofs.ChainLaws.{ChainIs, chain_beside}
use Rattle.remove.specs.Frame.{Kept, Framed}
use Rattle.remove.proofs.Framed.{kept_then, framed_self, framed_wide, framed_then, node_here, node_framed, page_here, page_framed}
use Rattle.remove.proofs.Framed.{head_here, head_framed}
use Rattle.remove.proofs.Releases.{room_kept, sized_kept, NodeWordsOf, PageWordsOf, NodeChain, PageChain, in_at, in_wide}
use Rattle.remove.proofs.Releases.{nodes_framed, pages_framed, nodes_released, pages_released}
use Rattle.remove.specs.Frame.{numbers_of, behind, NodeWritten, PageWritten, HeadWritten}

-- the page
module _ (f : Format) (s : List ℕ) (room : size_of f s ≤ length s) (p : ℕ) (rs : List Item)
    (fits : (p ≡ 0) ⊎ ((1 ≤ p) × (p ≤ (head_of s).page_blocks) × (length rs ≤ (head_of s).capacity))) where
  pub own_null : p ≡ 0 → put_own f (head_of s).capacity s p rs ≡ s
  unfolding put_own
  own_null e = rw (eq-eqb p 0 e, put_own)

  pub own_some : (p ≡ 0 → ⊥) → put_own f (head_of s).capacity s p rs ≡ put_page f s p (page_image f (head_of s).capacity rs)
  unfolding put_own
  own_some e = rw (ne_eqb p 0 e, put_own)

  pub own_framed : Framed f s (put_own f (head_of s).capacity s p rs) (λ n. ⊥) (λ x. x ≡ p) (λ i. ⊥)
  own_framed =
      elim (ℕ_discrete p 0) [
        | yes e ↦ subst (λ t. Framed f s t (λ n. ⊥) (λ x. x ≡ p) (λ i. ⊥)) (sym (own_null e)) (framed_self f s _ _ _)
        | no e ↦
            subst (λ t. Framed f s t (λ n. ⊥) (λ x. x ≡ p) (λ i. ⊥)) (sym (own_some e))
            (elim fits [
              | inl z ↦ absurd (e z)
              | inr z ↦
                  page_framed f s room p (page_image f (head_of s).capacity rs) z.0 z.1
                  (length_page_image f (head_of s).capacity rs z.2)
            ])
      ]

  own_here : 1 ≤ p → page_of f (put_own f (head_of s).capacity s p rs) p ≡ page_image f (head_of s).capacity rs
  own_here low =
      let e : p ≡ 0 → ⊥ = λ z. omega (arith, z) in
      ap (λ t. page_of f t p) (own_some e)
      ∙ elim fits [
        | inl z ↦ absurd (e z)
        | inr z ↦ page_here f s room p (page_image f (head_of s).capacity rs) z.0 z.1 (length_page_image f (head_of s).capacity rs z.2)
      ]

-- the nodes in hand
pub writable_kept : (f : Format) (s t : List ℕ) → Kept f s t → (xs : List Spot) → Writable s xs → Writable t xs
writable_kept f s t k xs =
    all_map (λ x. (1 ≤ x.number) × (x.number ≤ (head_of s).node_blocks) × (length x.block ≡ node_words (head_of s).theta))
    (λ x. (1 ≤ x.number) × (x.number ≤ (head_of t).node_blocks) × (length x.block ≡ node_words (head_of t).theta)) xs
    (λ x q. (q.0, omega (arith, q.1, k.within.sizes_same.nodes), q.2 ∙ ap node_words (sym k.within.sizes_same.theta)))

pub spots_framed : (f : Format) (s : List ℕ) (xs : List Spot) → size_of f s ≤ length s → Writable s xs
    → Framed f s (put_spots s xs) (λ n. 1 ≤ count n (numbers_of xs)) (λ p. ⊥) (λ i. ⊥)
spots_framed f s [] room a = framed_self f s _ _ _
spots_framed f s (x ∷ xs) room a =
    let t : List ℕ = put_node s x.number x.block in
    let w = node_framed f s room x.number x.block a.0.0 a.0.1 a.0.2 in
    let i = spots_framed f t xs (room_kept f s t w.kept room) (writable_kept f s t w.kept xs a.1) in
    framed_then f s t (put_spots t xs)
    (framed_wide f s t w (λ n q. omega (arith, ind_eq n x.number q)) (λ n q. q) (λ n q. q))
    (framed_wide f t (put_spots t xs) i (λ n q. omega (arith, q)) (λ n q. q) (λ n q. q))

spots_here : (f : Format) (s : List ℕ) (xs : List Spot) → size_of f s ≤ length s → Writable s xs → ((n : ℕ) → count n (numbers_of xs) ≤ 1)
    → All (λ x. node_of (put_spots s xs) x.number ≡ x.block) xs
spots_here f s [] room a d = tt
spots_here f s (x ∷ xs) room a d =
    let t : List ℕ = put_node s x.number x.block in
    let w = node_framed f s room x.number x.block a.0.0 a.0.1 a.0.2 in
    let room' = room_kept f s t w.kept room in
    let a' = writable_kept f s t w.kept xs a.1 in
    let z : count x.number (numbers_of xs) ≡ 0 = omega (arith, d x.number, ind_self x.number) in (
      (spots_framed f t xs room' a').node x.number a.0.0 (omega (arith, a.0.1, w.kept.within.sizes_same.nodes))
          (λ q. omega (arith, q, z))
          ∙ node_here f s room x.number x.block a.0.0 a.0.1 a.0.2,
      spots_here f t xs room' a' (λ n. omega (arith, d n)),
    )

-- the back link
pub back_null : (s : List ℕ) (q m : ℕ) → q ≡ 0 → back_linked s q m ≡ s
unfolding back_linked
back_null s q m e = rw (eq-eqb q 0 e, back_linked)

pub back_some : (s : List ℕ) (q m : ℕ) → (q ≡ 0 → ⊥) → back_linked s q m ≡ put_node s q (linked (node_of s q) m (forward_word (node_of s q) 0))
unfolding back_linked
back_some s q m e = rw (ne_eqb q 0 e, back_linked)

module _ (f : Format) (s : List ℕ) (room : size_of f s ≤ length s) (on : Bool) (x : Spot)
    (fits : on ≡ true → forward_word x.block 0 ≤ (head_of s).node_blocks) where
  abbrev y : ℕ
  y = forward_word x.block 0

  abbrev new : List ℕ
  new = linked (node_of s y) x.number (forward_word (node_of s y) 0)

  long_new : 1 ≤ y → y ≤ (head_of s).node_blocks → length new ≡ node_words (head_of s).theta
  unfolding linked node_at
  long_new low high =
      length-set (set (node_of s y) 2 x.number) 3 (forward_word (node_of s y) 0) ∙ length-set (node_of s y) 2 x.number
      ∙ length_part s (node_start (head_of s) y) (node_words (head_of s).theta)
      (omega (arith, node_end (head_of s) y low high, nodes_end_lem (head_of s) f, room))

  relinked_framed : Framed f s (relinked s on x) (λ n. (on ≡ true) × (n ≡ y)) (λ p. ⊥) (λ i. ⊥)
  unfolding relinked
  relinked_framed = go on refl
    where
      go : (c : Bool) → on ≡ c → Framed f s (relinked s c x) (λ n. (on ≡ true) × (n ≡ y)) (λ p. ⊥) (λ i. ⊥)
      go false e = framed_self f s _ _ _
      go true e =
          elim (ℕ_discrete y 0) [
            | yes z ↦ subst (λ t. Framed f s t (λ n. (on ≡ true) × (n ≡ y)) (λ p. ⊥) (λ i. ⊥)) (sym (back_null s y x.number z))
                (framed_self f s _ _ _)
            | no z ↦
                subst (λ t. Framed f s t (λ n. (on ≡ true) × (n ≡ y)) (λ p. ⊥) (λ i. ⊥)) (sym (back_some s y x.number z))
                (framed_wide f s (put_node s y new)
                (node_framed f s room y new (omega (arith, z)) (fits e) (long_new (omega (arith, z)) (fits e)))
                (λ n q. (e, q)) (λ n q. q) (λ n q. q))
          ]

  relinked_here : on ≡ true → (y ≡ 0 → ⊥) → node_of (relinked s on x) y ≡ new
  unfolding relinked
  relinked_here e z =
      ap (λ c. node_of (relinked s c x) y) e ∙ ap (λ t. node_of t y) (back_some s y x.number z)
      ∙ node_here f s room y new (omega (arith, z)) (fits e) (long_new (omega (arith, z)) (fits e))

-- root and levels
module _ (f : Format) (s : List ℕ) (room : size_of f s ≤ length s) (root levels : ℕ) where
  abbrev s₆ : List ℕ
  s₆ = set s 6 root

  first₆ : Framed f s s₆ (λ n. ⊥) (λ n. ⊥) (λ i. (i ≡ 6) ⊎ (i ≡ 7))
  first₆ = framed_wide f s s₆ (head_framed f s room 6 root (omega arith) (omega arith)) (λ n q. q) (λ n q. q) (λ n q. inl q)

  room₆ : size_of f s₆ ≤ length s₆
  room₆ = room_kept f s s₆ first₆.kept room

  root_framed : Framed f s (put_head s root levels) (λ n. ⊥) (λ n. ⊥) (λ i. (i ≡ 6) ⊎ (i ≡ 7))
  unfolding put_head
  root_framed =
      framed_then f s s₆ (put_head s root levels) first₆
      (framed_wide f s₆ (put_head s root levels) (head_framed f s₆ room₆ 7 levels (omega arith) (omega arith)) (λ n q. q) (λ n q. q)
      (λ n q. inr q))

  root_here : (head_of (put_head s root levels)).root ≡ root
  unfolding head_of put_head
  root_here =
      (head_framed f s₆ room₆ 7 levels (omega arith) (omega arith)).words 6 (omega arith) (λ e. omega (arith, e))
      ∙ head_here f s room 6 root (omega arith) (omega arith)

  levels_here : (head_of (put_head s root levels)).levels ≡ levels
  unfolding head_of put_head
  levels_here = head_here f s₆ room₆ 7 levels (omega arith) (omega arith)

-- chains beside the writes
module _ (f : Format) (s t : List ℕ) {N P I : ℕ → Type 0} (ok : Sized f s) (w : Framed f s t N P I) where
  node_chain_beside : (cs : List ℕ) → In (head_of s).node_blocks cs → ((x : ℕ) → 1 ≤ count x cs → N x → ⊥) → (I 8 → ⊥) → (I 10 → ⊥)
      → NodeChain s cs → NodeChain t cs
  unfolding released_of
  node_chain_beside cs i q a b c =
      at w.kept.within.sizes_same.theta (w.words 8 (omega arith) a) (w.words 10 (omega arith) b)
      (chain_beside (node_of s) (node_of t) (released_node (head_of s).theta) (node_next s) (node_next t) (released_of s).nodes
      (released_of s).node cs c
      (λ x o.
      let l = in_at (head_of s).node_blocks cs x i o in
      let e : node_of t x ≡ node_of s x = w.node x l.0 l.1 (q x o) in (
        e,
        next_node_lem f t (sized_kept f s t w.kept ok) x l.0 (omega (arith, l.1, w.kept.within.sizes_same.nodes))
            ∙ ap (λ ws. word ws 2) e
            ∙ sym (next_node_lem f s ok x l.0 l.1),
      )))
    where
      at : {block : ℕ → List ℕ} {next : ℕ → ℕ} {θ θ' name name' many many' : ℕ} {cs : List ℕ} → θ' ≡ θ → name' ≡ name → many' ≡ many
          → ChainIs block (released_node θ) next many name cs → ChainIs block (released_node θ') next many' name' cs
      at a b d z = rw (a, b, d) z

  page_chain_beside : (cs : List ℕ) → In (head_of s).page_blocks cs → ((x : ℕ) → 1 ≤ count x cs → P x → ⊥) → (I 9 → ⊥) → (I 11 → ⊥)
      → PageChain f s cs → PageChain f t cs
  unfolding released_of
  page_chain_beside cs i q a b c =
      at w.kept.within.sizes_same.capacity (w.words 9 (omega arith) a) (w.words 11 (omega arith) b)
      (chain_beside (page_of f s) (page_of f t) (released_page f (head_of s).capacity) (page_next f s) (page_next f t) (released_of s).pages
      (released_of s).page cs c
      (λ x o.
      let l = in_at (head_of s).page_blocks cs x i o in
      let e : page_of f t x ≡ page_of f s x = w.page x l.0 l.1 (q x o) in (
        e,
        next_page_lem f t (sized_kept f s t w.kept ok) x l.0 (omega (arith, l.1, w.kept.within.sizes_same.pages))
            ∙ ap (λ ws. word ws 1) e
            ∙ sym (next_page_lem f s ok x l.0 l.1),
      )))
    where
      at : {block : ℕ → List ℕ} {next : ℕ → ℕ} {C C' name name' many many' : ℕ} {cs : List ℕ} → C' ≡ C → name' ≡ name → many' ≡ many
          → ChainIs block (released_page f C) next many name cs → ChainIs block (released_page f C') next many' name' cs
      at a b d z = rw (a, b, d) z

pub in_backwards : (m : ℕ) (cs ms : List ℕ) → In m cs → In m ms → In m (backwards cs ms)
in_backwards m cs [] a b = a
in_backwards m cs (x ∷ ms) a b = in_backwards m (x ∷ cs) ms (b.0, a) b.1

module _ (f : Format) (s : List ℕ) (p : Plan) where
  abbrev pub t₁ : List ℕ
  t₁ = put_own f (head_of s).capacity s p.page p.items

  abbrev pub t₂ : List ℕ
  t₂ = put_spots t₁ p.spots

  abbrev pub t₃ : List ℕ
  t₃ = relinked t₂ p.linked (first_spot p.spots)

  abbrev t₄ : List ℕ
  t₄ = release_pages f t₃ p.pages

  abbrev t₅ : List ℕ
  t₅ = release_nodes t₄ p.nodes

  abbrev pub t₆ : List ℕ
  t₆ = written_by f s (head_of s) p

  module _ (d : Doable f s p) where
    pub w₁ : Framed f s t₁ (λ n. ⊥) (λ x. x ≡ p.page) (λ i. ⊥)
    w₁ = own_framed f s d.room p.page p.items d.own

    pub room₁ : size_of f t₁ ≤ length t₁
    room₁ = room_kept f s t₁ w₁.kept d.room

    pub spots₁ : Writable t₁ p.spots
    spots₁ = writable_kept f s t₁ w₁.kept p.spots d.spots

    pub w₂ : Framed f t₁ t₂ (λ n. 1 ≤ count n (numbers_of p.spots)) (λ x. ⊥) (λ i. ⊥)
    w₂ = spots_framed f t₁ p.spots room₁ spots₁

    pub k₂ : Kept f s t₂
    k₂ = kept_then f s t₁ t₂ w₁.kept w₂.kept

    room₂ : size_of f t₂ ≤ length t₂
    room₂ = room_kept f s t₂ k₂ d.room

    pub link₂ : p.linked ≡ true → behind p ≤ (head_of t₂).node_blocks
    link₂ e = omega (arith, d.link e, k₂.within.sizes_same.nodes)

    pub w₃ : Framed f t₂ t₃ (λ n. (p.linked ≡ true) × (n ≡ behind p)) (λ x. ⊥) (λ i. ⊥)
    w₃ = relinked_framed f t₂ room₂ p.linked (first_spot p.spots) link₂

    pub k₃ : Kept f s t₃
    k₃ = kept_then f s t₂ t₃ k₂ w₃.kept

    pub room₃ : size_of f t₃ ≤ length t₃
    room₃ = room_kept f s t₃ k₃ d.room

    in_pages : (t : List ℕ) → Kept f s t → (xs : List ℕ) → In (head_of s).page_blocks xs → In (head_of t).page_blocks xs
    in_pages t k xs = in_wide (head_of s).page_blocks (head_of t).page_blocks xs (omega (arith, k.within.sizes_same.pages))

    in_nodes : (t : List ℕ) → Kept f s t → (xs : List ℕ) → In (head_of s).node_blocks xs → In (head_of t).node_blocks xs
    in_nodes t k xs = in_wide (head_of s).node_blocks (head_of t).node_blocks xs (omega (arith, k.within.sizes_same.nodes))

    w₄ : Framed f t₃ t₄ (λ x. ⊥) (λ x. 1 ≤ count x p.pages) PageWordsOf
    w₄ = pages_framed f t₃ p.pages room₃ (omega (arith, d.capacity, k₃.within.sizes_same.capacity))
        (in_pages t₃ k₃ p.pages d.pages)

    k₄ : Kept f s t₄
    k₄ = kept_then f s t₃ t₄ k₃ w₄.kept

    room₄ : size_of f t₄ ≤ length t₄
    room₄ = room_kept f s t₄ k₄ d.room

    w₅ : Framed f t₄ t₅ (λ x. 1 ≤ count x p.nodes) (λ x. ⊥) NodeWordsOf
    w₅ = nodes_framed f t₄ p.nodes room₄ (in_nodes t₄ k₄ p.nodes d.nodes)

    k₅ : Kept f s t₅
    k₅ = kept_then f s t₄ t₅ k₄ w₅.kept

    room₅ : size_of f t₅ ≤ length t₅
    room₅ = room_kept f s t₅ k₅ d.room

    w₆ : Framed f t₅ t₆ (λ x. ⊥) (λ x. ⊥) (λ i. (i ≡ 6) ⊎ (i ≡ 7))
    unfolding written_by
    w₆ = root_framed f t₅ room₅ (top_of p.spots) (length p.spots)

    -- from here to there
    pub before_pages : Framed f s t₃ (NodeWritten p) (PageWritten p) HeadWritten
    before_pages =
        framed_then f s t₂ t₃
        (framed_then f s t₁ t₂ (framed_wide f s t₁ w₁ (λ n q. absurd q) (λ n q. inl q) (λ n q. absurd q))
        (framed_wide f t₁ t₂ w₂ (λ n q. inl q) (λ n q. absurd q) (λ n q. absurd q)))
        (framed_wide f t₂ t₃ w₃ (λ n q. inr (inl q)) (λ n q. absurd q) (λ n q. absurd q))

    pub written_framed : Framed f s t₆ (NodeWritten p) (PageWritten p) HeadWritten
    written_framed =
        framed_then f s t₅ t₆
        (framed_then f s t₄ t₅
        (framed_then f s t₃ t₄ before_pages
        (framed_wide f t₃ t₄ w₄ (λ n q. absurd q) (λ n q. inr q) (λ n q. between n q)))
        (framed_wide f t₄ t₅ w₅ (λ n q. inr (inr q)) (λ n q. absurd q) (λ n q. among n q)))
        (framed_wide f t₅ t₆ w₆ (λ n q. absurd q) (λ n q. absurd q) (λ n q. last n q))
      where
        between : (i : ℕ) → PageWordsOf i → HeadWritten i
        between i (inl e) = (omega (arith, e), omega (arith, e))
        between i (inr e) = (omega (arith, e), omega (arith, e))

        among : (i : ℕ) → NodeWordsOf i → HeadWritten i
        among i (inl e) = (omega (arith, e), omega (arith, e))
        among i (inr e) = (omega (arith, e), omega (arith, e))

        last : (i : ℕ) → (i ≡ 6) ⊎ (i ≡ 7) → HeadWritten i
        last i (inl e) = (omega (arith, e), omega (arith, e))
        last i (inr e) = (omega (arith, e), omega (arith, e))

    pub root_written : (head_of t₆).root ≡ top_of p.spots
    unfolding written_by
    root_written = root_here f t₅ room₅ (top_of p.spots) (length p.spots)

    pub levels_written : (head_of t₆).levels ≡ length p.spots
    unfolding written_by
    levels_written = levels_here f t₅ room₅ (top_of p.spots) (length p.spots)

    -- a page that is written and not released
    pub page_written : 1 ≤ p.page → count p.page p.pages ≡ 0 → page_of f t₆ p.page ≡ page_image f (head_of s).capacity p.items
    page_written low out =
        let high : p.page ≤ (head_of s).page_blocks = elim d.own [ inl z ↦ absurd (omega (arith, z)) | inr z ↦ z.1 ] in
        w₆.page p.page low (omega (arith, high, k₅.within.sizes_same.pages)) (λ q. q)
        ∙ w₅.page p.page low (omega (arith, high, k₄.within.sizes_same.pages)) (λ q. q)
        ∙ w₄.page p.page low (omega (arith, high, k₃.within.sizes_same.pages)) (λ q. omega (arith, q, out))
        ∙ w₃.page p.page low (omega (arith, high, k₂.within.sizes_same.pages)) (λ q. q)
        ∙ w₂.page p.page low (omega (arith, high, w₁.kept.within.sizes_same.pages)) (λ q. q)
        ∙ own_here f s d.room p.page p.items d.own low

    -- nodes that are written and not released, nor linked anew
    after_spots : (n : ℕ) → 1 ≤ n → n ≤ (head_of s).node_blocks → ((p.linked ≡ true) × (n ≡ behind p) → ⊥) → count n p.nodes ≡ 0
        → node_of t₆ n ≡ node_of t₂ n
    after_spots n low high a out =
        w₆.node n low (omega (arith, high, k₅.within.sizes_same.nodes)) (λ q. q)
        ∙ w₅.node n low (omega (arith, high, k₄.within.sizes_same.nodes)) (λ q. omega (arith, q, out))
        ∙ w₄.node n low (omega (arith, high, k₃.within.sizes_same.nodes)) (λ q. q)
        ∙ w₃.node n low (omega (arith, high, k₂.within.sizes_same.nodes)) a

    pub spots_written : ((n : ℕ) → count n (numbers_of p.spots) ≤ 1)
        → ((n : ℕ) → 1 ≤ count n (numbers_of p.spots) → (((p.linked ≡ true) × (n ≡ behind p)) → ⊥) × (count n p.nodes ≡ 0))
        → All (λ x. node_of t₆ x.number ≡ x.block) p.spots
    spots_written once out = go p.spots (λ n q. q) d.spots (spots_here f t₁ p.spots room₁ spots₁ once)
      where
        go : (xs : List Spot) → ((n : ℕ) → 1 ≤ count n (numbers_of xs) → 1 ≤ count n (numbers_of p.spots)) → Writable s xs
            → All (λ x. node_of t₂ x.number ≡ x.block) xs → All (λ x. node_of t₆ x.number ≡ x.block) xs
        go [] i a b = tt
        go (x ∷ xs) i a b =
            let o = out x.number (i x.number (omega (arith, ind_self x.number))) in (
              after_spots x.number a.0.0 a.0.1 o.0 o.1 ∙ b.0,
              go xs (λ n q. i n (omega (arith, q))) a.1 b.1,
            )

    -- the node behind
    pub behind_written : p.linked ≡ true → 1 ≤ behind p → count (behind p) (numbers_of p.spots) ≡ 0 → count (behind p) p.nodes ≡ 0
        → node_of t₆ (behind p) ≡ linked (node_of s (behind p)) (first_spot p.spots).number (forward_word (node_of s (behind p)) 0)
    behind_written e low a out =
        let high : behind p ≤ (head_of s).node_blocks = d.link e in
        let same : node_of t₂ (behind p) ≡ node_of s (behind p) =
        w₂.node (behind p) low (omega (arith, high, w₁.kept.within.sizes_same.nodes)) (λ q. omega (arith, q, a))
        ∙ w₁.node (behind p) low high (λ q. q) in
        w₆.node (behind p) low (omega (arith, high, k₅.within.sizes_same.nodes)) (λ q. q)
        ∙ w₅.node (behind p) low (omega (arith, high, k₄.within.sizes_same.nodes)) (λ q. omega (arith, q, out))
        ∙ w₄.node (behind p) low (omega (arith, high, k₃.within.sizes_same.nodes)) (λ q. q)
        ∙ relinked_here f t₂ room₂ p.linked (first_spot p.spots) link₂ e (λ z. omega (arith, z, low))
        ∙ ap (λ ws. linked ws (first_spot p.spots).number (forward_word ws 0)) same

    -- the chains
    before : Framed f s t₃ (λ n. (1 ≤ count n (numbers_of p.spots)) ⊎ ((p.linked ≡ true) × (n ≡ behind p))) (λ x. x ≡ p.page) (λ i. ⊥)
    before =
        framed_then f s t₂ t₃
        (framed_then f s t₁ t₂ (framed_wide f s t₁ w₁ (λ n q. absurd q) (λ n q. q) (λ n q. q))
        (framed_wide f t₁ t₂ w₂ (λ n q. inl q) (λ n q. absurd q) (λ n q. q)))
        (framed_wide f t₂ t₃ w₃ (λ n q. inr q) (λ n q. absurd q) (λ n q. q))

    no_root : (i : ℕ) → 8 ≤ i → (i ≡ 6) ⊎ (i ≡ 7) → ⊥
    no_root i l (inl e) = omega (arith, l, e)
    no_root i l (inr e) = omega (arith, l, e)

    module _ (ok : Sized f s) where
      sized : (t : List ℕ) → Kept f s t → Sized f t
      sized t k = sized_kept f s t k ok

      -- those that the plan releases, the last one first, before the ones that were released
      pub node_chain : (ns : List ℕ) → In (head_of s).node_blocks ns → ((x : ℕ) → count x p.nodes + count x ns ≤ 1)
          → ((x : ℕ) → 1 ≤ count x ns → (count x (numbers_of p.spots) ≡ 0) × (((p.linked ≡ true) × (x ≡ behind p)) → ⊥)) → NodeChain s ns
          → NodeChain t₆ (backwards ns p.nodes)
      node_chain ns i apart out c =
          let c₃ : NodeChain t₃ ns =
          node_chain_beside f s t₃ ok before ns i
          (λ x o q.
          let z = out x o in
          elim q [ inl a ↦ omega (arith, a, z.0) | inr a ↦ z.1 a ]) (λ q. q) (λ q. q) c in
          let c₄ : NodeChain t₄ ns = node_chain_beside f t₃ t₄ (sized t₃ k₃) w₄ ns (in_nodes t₃ k₃ ns i) (λ x o q. q) no_8 no_10 c₃ in
          let c₅ : NodeChain t₅ (backwards ns p.nodes) =
          nodes_released f t₄ p.nodes ns (sized t₄ k₄) (in_nodes t₄ k₄ p.nodes d.nodes) (in_nodes t₄ k₄ ns i) apart c₄ in
          node_chain_beside f t₅ t₆ (sized t₅ k₅) w₆ (backwards ns p.nodes)
          (in_nodes t₅ k₅ (backwards ns p.nodes) (in_backwards (head_of s).node_blocks ns p.nodes i d.nodes))
          (λ x o q. q) (no_root 8 (omega arith)) (no_root 10 (omega arith)) c₅
        where
          no_8 : PageWordsOf 8 → ⊥
          no_8 (inl e) = omega (arith, e)
          no_8 (inr e) = omega (arith, e)

          no_10 : PageWordsOf 10 → ⊥
          no_10 (inl e) = omega (arith, e)
          no_10 (inr e) = omega (arith, e)

      pub page_chain : (ps : List ℕ) → In (head_of s).page_blocks ps → ((x : ℕ) → count x p.pages + count x ps ≤ 1)
          → count p.page ps ≡ 0 → PageChain f s ps → PageChain f t₆ (backwards ps p.pages)
      page_chain ps i apart out c =
          let all : In (head_of s).page_blocks (backwards ps p.pages) = in_backwards (head_of s).page_blocks ps p.pages i d.pages in
          let c₃ : PageChain f t₃ ps =
          page_chain_beside f s t₃ ok before ps i
          (λ x o q. omega (arith, o, out, ap (λ (n : ℕ). count n ps) q)) (λ q. q) (λ q. q) c in
          let c₄ : PageChain f t₄ (backwards ps p.pages) =
          pages_released f t₃ p.pages ps (sized t₃ k₃) (in_pages t₃ k₃ p.pages d.pages) (in_pages t₃ k₃ ps i) apart c₃ in
          let c₅ : PageChain f t₅ (backwards ps p.pages) =
          page_chain_beside f t₄ t₅ (sized t₄ k₄) w₅ (backwards ps p.pages) (in_pages t₄ k₄ (backwards ps p.pages) all) (λ x o q. q)
          no_9 no_11 c₄ in
          page_chain_beside f t₅ t₆ (sized t₅ k₅) w₆ (backwards ps p.pages) (in_pages t₅ k₅ (backwards ps p.pages) all) (λ x o q. q)
          (no_root 9 (omega arith)) (no_root 11 (omega arith)) c₅
        where
          no_9 : NodeWordsOf 9 → ⊥
          no_9 (inl e) = omega (arith, e)
          no_9 (inr e) = omega (arith, e)

          no_11 : NodeWordsOf 11 → ⊥
          no_11 (inl e) = omega (arith, e)
          no_11 (inr e) = omega (arith, e)

-- a block written as it is: levels that stay need no write
replaced_own : (a n : ℕ) (xs : List ℕ) → a + n ≤ length xs → replaced a n (part xs a n) xs ≡ xs
unfolding replaced
replaced_own a n xs h = ap (λ ys. take a xs ++ ys) (sym (part_next xs a n h)) ∙ take-append-drop a xs

pub put_own_lem : (f : Format) (s : List ℕ) (n : ℕ) → size_of f s ≤ length s → 1 ≤ n → n ≤ (head_of s).node_blocks → put_node s n (node_of s n) ≡ s
unfolding put_node node_at
put_own_lem f s n room low high =
    replaced_own (node_start (head_of s) n) (node_words (head_of s).theta) s
    (omega (arith, node_end (head_of s) n low high, nodes_end_lem (head_of s) f, room))
