-- A plan that is carried: the nodes that stay need no write, and every number is that of a block.
use mathlib.Core.Path.{◌≡◌, refl, sym, ap, ap₂, ◌∙◌, subst}
use mathlib.Core.Bool.{Bool, true, false}
use mathlib.Core.List.{List, [], ◌∷◌}
use mathlib.Core.Logic.{inl, inr}
use Prim.Native.Nat.{ℕ, zero, suc, ◌+◌, ◌-◌, ◌^◌, ◌≤◌, ◌<◌}
use native.Mathlib.Omega.{arith}
use native.Mathlib.Decide.{dec_lt, ℕ_discrete}
use native.Mathlib.Nat.{zero-add}
use borrow.Author.Tests.{eq-eqb, ne_eqb}
use lib.ListN.{length, get_or, take}
use lib.Seq.{length-take-le, get_or-take}
use Rattle.lists.proofs.AppendLaws.{all_at}
use Rattle.store.specs.declared.Format.{Format}
use Rattle.store.specs.declared.Head.{Head}
use Rattle.store.specs.declared.Item.{Item}
use Rattle.store.specs.Head.{word, head_of, released_of, node_words, page_words, node_start, page_start}
use Rattle.store.proofs.HeadLaws.{Limits}
use Rattle.store.proofs.Places.{node_end, nodes_end_lem, page_end, part_word, under_limits, under_counts, under_room, under_chains}
use Rattle.node.specs.Node.{forward_word}
use Rattle.represent.specs.Image.{page_image}
use Rattle.represent.specs.Rep.{size_of}
use Rattle.split.specs.Frame.{node_of, put_node, put_page, put_head}
use Rattle.split.specs.Insertion.{SameSizes}
use Rattle.split.proofs.Lengths.{length_page_image}
use Rattle.split.proofs.Frame.{put_page_head}
use Rattle.remove.specs.Remove.{Spot, no_spot, Plan, first_spot, top_of, put_spots, put_own, relinked, release_pages, release_nodes, back_linked, written_by}
use Rattle.remove.specs.Doable.{In, Writable, Doable}
use Rattle.remove.specs.Frame.{Framed}
use Rattle.remove.proofs.Framed.{node_framed}
use Rattle.remove.proofs.Releases.{room_kept}
use Rattle.remove.proofs.Writes.{writable_kept, put_own_lem, t₁, t₂, t₃, w₁, w₂, w₃, room₁, spots₁, k₃}
use Rattle.apply.specs.declared.Outline.{Outline}
use Rattle.apply.specs.Carried.{block_in, spot_in, spots_from, LevelIs, Carried, Ready}
use Rattle.apply.proofs.LoopLaws.{node_small, sizes_of_lem, spots_front}

-- a number that stays: it is that of a block, which is still as it was
abbrev Still : List ℕ → List ℕ → ℕ → Type 0
Still s t n = (1 ≤ n) × (n ≤ (head_of t).node_blocks) × (node_of t n ≡ node_of s n)

module _ (f : Format) (s : List ℕ) (θ changed : ℕ) (numbers blocks : List ℕ) where
  abbrev Levels : ℕ → List Spot → Type 0
  Levels i xs = (l : ℕ) → l < length xs → LevelIs s θ changed numbers blocks (i + l) (get_or xs l no_spot)

  abbrev Stays : List ℕ → ℕ → Type 0
  Stays t n = (l : ℕ) → changed ≤ l → l < n → Still s t (word numbers l)

  abbrev Apart : ℕ → Type 0
  Apart n = (l j : ℕ) → changed ≤ l → l < n → j < changed → word numbers l ≡ word numbers j → ⊥

  levels_next : (i : ℕ) (x : Spot) (xs : List Spot) → Levels i (x ∷ xs) → Levels (suc i) xs
  levels_next i x xs e l h =
      let up : i + suc l ≡ suc i + l = omega arith in
      subst (λ n. LevelIs s θ changed numbers blocks n (get_or xs l no_spot)) up (e (suc l) (omega arith))

  level_first : (i : ℕ) (x : Spot) (xs : List Spot) → Levels i (x ∷ xs) → LevelIs s θ changed numbers blocks i x
  level_first i x xs e =
      let up : i + 0 ≡ i = omega arith in
      subst (λ n. LevelIs s θ changed numbers blocks n x) up (e 0 (omega arith))

  spots_none : (t : List ℕ) (i : ℕ) → changed ≤ i → put_spots t (spots_from θ numbers blocks i (changed - i)) ≡ t
  unfolding spots_from
  spots_none t i h = let e : changed - i ≡ 0 = omega arith in ap (λ k. put_spots t (spots_from θ numbers blocks i k)) e

  spots_more : (t : List ℕ) (i : ℕ) → i < changed
      → put_spots t (spots_from θ numbers blocks i (changed - i))
      ≡ put_spots (put_node t (word numbers i) (block_in θ blocks i)) (spots_from θ numbers blocks (suc i) (changed - suc i))
  unfolding spots_from spot_in
  spots_more t i h = let e : changed - i ≡ suc (changed - suc i) = omega arith in ap (λ k. put_spots t (spots_from θ numbers blocks i k)) e

  pub spots_as : (t : List ℕ) (xs : List Spot) (i n : ℕ) → size_of f t ≤ length t → Writable t xs → Levels i xs → n ≡ i + length xs → Stays t n → Apart n
      → changed ≤ n → put_spots t xs ≡ put_spots t (spots_from θ numbers blocks i (changed - i))
  spots_as t [] i n room w e size stay apart h = sym (spots_none t i (omega (arith, size, h)))
  spots_as t (x ∷ xs) i n room w e size stay apart h =
      let first = level_first i x xs e in
      let t' : List ℕ = put_node t x.number x.block in
      let put : Framed f t t' (λ m. m ≡ x.number) (λ p. ⊥) (λ j. ⊥) = node_framed f t room x.number x.block w.0.0 w.0.1 w.0.2 in
      elim (dec_lt i changed) [
        | yes l ↦
            let same : t' ≡ put_node t (word numbers i) (block_in θ blocks i) = ap₂ (put_node t) first.number (first.carried l) in
            spots_as t' xs (suc i) n (room_kept f t t' put.kept room) (writable_kept f t t' put.kept xs w.1) (levels_next i x xs e)
            (omega (arith, size))
            (λ m a b.
            let q = stay m a b in (
              q.0,
              omega (arith, q.1, put.kept.within.sizes_same.nodes),
              put.node (word numbers m) q.0 q.1 (λ z. apart m i a b l (z ∙ first.number)) ∙ q.2,
            ))
            apart h
            ∙ ap (λ u. put_spots u (spots_from θ numbers blocks (suc i) (changed - suc i))) same
            ∙ sym (spots_more t i l)
        | no l ↦
            let own : t' ≡ t =
            ap (put_node t x.number)
            (first.stays (omega (arith, l))
            ∙ sym (subst (λ m. node_of t m ≡ node_of s m) (sym first.number) (stay i (omega (arith, l)) (omega (arith, size))).2))
            ∙ put_own_lem f t x.number room w.0.0 w.0.1 in
            ap (λ u. put_spots u xs) own
            ∙ spots_as t xs (suc i) n room w.1 (levels_next i x xs e) (omega (arith, size)) stay apart h
            ∙ spots_none t (suc i) (omega (arith, l))
            ∙ sym (spots_none t i (omega (arith, l)))
      ]

-- the top number
top_at : (xs : List Spot) → 1 ≤ length xs → top_of xs ≡ (get_or xs (length xs - 1) no_spot).number
top_at [] h = absurd (omega arith)
top_at (x ∷ []) h = refl
top_at (x ∷ y ∷ ys) h =
    let e : suc (suc (length ys)) - 1 ≡ suc (suc (length ys) - 1) = omega arith in
    top_at (y ∷ ys) (omega arith) ∙ ap (λ k. (get_or (x ∷ y ∷ ys) k no_spot).number) (sym e)

first_at : (xs : List Spot) → first_spot xs ≡ get_or xs 0 no_spot
unfolding first_spot
first_at [] = refl
first_at (x ∷ xs) = refl

-- a page written or not
pub own_is : (f : Format) (s t : List ℕ) (p : ℕ) (rs : List Item) (ws : List ℕ) (C : ℕ)
    → (p ≡ 0 → t ≡ s) → ((p ≡ 0 → ⊥) → t ≡ put_page f s p ws) → ((p ≡ 0 → ⊥) → ws ≡ page_image f C rs) → t ≡ put_own f C s p rs
unfolding put_own
own_is f s t p rs ws C a b is =
    elim (ℕ_discrete p 0) [
      | yes z ↦ a z ∙ sym (null z)
      | no z ↦ b z ∙ ap (put_page f s p) (is z) ∙ sym (some z)
    ]
  where
    null : p ≡ 0 → put_own f C s p rs ≡ s
    null z = rw (eq-eqb p 0 z, put_own)

    some : (p ≡ 0 → ⊥) → put_own f C s p rs ≡ put_page f s p (page_image f C rs)
    some z = rw (ne_eqb p 0 z, put_own)

pub sizes_page : (f : Format) (s t : List ℕ) (h : Head) (p : ℕ) (ws : List ℕ) → 8 ≤ length s → SameSizes (head_of s) h
    → (p ≡ 0 → t ≡ s) → ((p ≡ 0 → ⊥) → t ≡ put_page f s p ws) → SameSizes (head_of t) h
sizes_page f s t h p ws l z a b =
    sizes_of_lem s t h (elim (ℕ_discrete p 0) [ yes e ↦ ap head_of (a e) | no e ↦ ap head_of (b e) ∙ put_page_head f s p ws l ]) z

-- one call after another
pub kept_is : (θ : ℕ) (numbers blocks : List ℕ) (own t t' u : List ℕ) (b : Bool) (x : Spot) (n a : ℕ) → a ≡ n → n ≤ length numbers → t ≡ own
    → t' ≡ put_spots t (spots_from θ (take a numbers) blocks 0 (length (take a numbers))) → u ≡ relinked t' b x
    → u ≡ relinked (put_spots own (spots_from θ numbers blocks 0 n)) b x
kept_is θ numbers blocks own t t' u b x n a e l d g i =
    let m : a ≤ length numbers = omega arith in
    let front : spots_from θ (take a numbers) blocks 0 (length (take a numbers)) ≡ spots_from θ numbers blocks 0 n =
    ap (spots_from θ (take a numbers) blocks 0) (length-take-le a numbers m) ∙ spots_front θ numbers blocks a m a 0 (omega arith)
    ∙ ap (spots_from θ numbers blocks 0) e in
    i ∙ ap (λ w. relinked w b x) (g ∙ ap₂ put_spots d front)

-- the third word of the first block
forward_is : (θ : ℕ) (blocks : List ℕ) → θ ≤ 6 → 132 ≤ length blocks → forward_word (block_in θ blocks 0) 0 ≡ word blocks 3
unfolding block_in node_words
forward_is θ blocks small long = part_word blocks 0 (node_words θ) 3 (omega (arith, node_small θ small)) (omega arith)

number_in_range : (m : ℕ) (xs ns : List ℕ) (n i : ℕ) → n ≤ length xs → ns ≡ take n xs → In m ns → i < n → (1 ≤ word xs i) × (word xs i ≤ m)
number_in_range m xs ns n i long e a h =
    let l : i < length ns = omega (arith, ap length e, length-take-le n xs long, h) in
    let at : word ns i ≡ word xs i = ap (λ k. word k i) e ∙ get_or-take n xs i 0 h in
    let q = all_at (λ k. (1 ≤ k) × (k ≤ m)) 0 ns i a l in
    (omega (arith, q.0, at), omega (arith, q.1, at))

module _ (f : Format) (s : List ℕ) (h : Head) (o : Outline) (items numbers blocks pages nodes : List ℕ)
    (r : Ready f s h o items numbers blocks pages nodes) where
  limits : Limits h.theta h.capacity h.node_blocks h.page_blocks
  limits = under_limits r.under

  head_is : h ≡ head_of s
  head_is = r.under.head

  pub sizes : SameSizes (head_of s) h
  sizes =
      record {
        theta = ap (λ (x : Head). x.theta) head_is;
        capacity = ap (λ (x : Head). x.capacity) head_is;
        nodes = ap (λ (x : Head). x.node_blocks) head_is;
        pages = ap (λ (x : Head). x.page_blocks) head_is;
      }

  pub bounds : (h.theta ≤ 6) × (1 ≤ h.capacity) × (h.capacity ≤ 24) × (16 ≤ length s)
  bounds = (limits.theta, limits.capacity_low, limits.capacity, omega (arith, nodes_end_lem h f, under_room r.under))

  node_in : (n : ℕ) → 1 ≤ n → n ≤ (head_of s).node_blocks → node_start h n + node_words h.theta ≤ length s
  node_in n low high = omega (arith, node_end h n low (omega (arith, high, sizes.nodes)), nodes_end_lem h f, under_room r.under)

  page_in_lem : (p : ℕ) → 1 ≤ p → p ≤ (head_of s).page_blocks → page_start f h p + page_words f h.capacity ≤ length s
  page_in_lem p low high = omega (arith, page_end h f p low (omega (arith, high, sizes.pages)), under_room r.under)

  null_or_node : (n : ℕ) → n ≤ (head_of s).node_blocks → node_start h n + node_words h.theta ≤ length s
  unfolding node_start
  null_or_node zero high = node_in 1 (omega arith) (omega (arith, limits.nodes_low, sizes.nodes))
  null_or_node (suc n) high = node_in (suc n) (omega arith) high

  pub few : (word s 11 + o.pages < 2 ^ 32) × (word s 10 + o.nodes < 2 ^ 32)
  unfolding released_of
  few =
      let c = under_chains r.under refl in
      let n = under_counts r.under in
      (omega (arith, c.pages, n.filled, limits.pages, r.few_pages), omega (arith, c.nodes, n.taken, limits.nodes, r.few_nodes))

  pub pages_fit : (i : ℕ) → i < o.pages → page_start f h (word pages i) + page_words f h.capacity ≤ length s
  pages_fit i l =
      let q = number_in_range (head_of s).page_blocks pages r.plan.pages o.pages i r.pages_long r.is.pages_are r.doable.pages l in
      page_in_lem (word pages i) q.0 q.1

  pub nodes_fit : (i : ℕ) → i < o.nodes → node_start h (word nodes i) + node_words h.theta ≤ length s
  nodes_fit i l =
      let q = number_in_range (head_of s).node_blocks nodes r.plan.nodes o.nodes i r.nodes_long r.is.nodes_are r.doable.nodes l in
      node_in (word nodes i) q.0 q.1

  -- any plan that is carried
  module _ (p : Plan) (d : Doable f s p) (k : Carried f s h o items numbers blocks pages nodes p) where
    number_in_lem : (l : ℕ) → l < o.levels → (1 ≤ word numbers l) × (word numbers l ≤ (head_of s).node_blocks)
    number_in_lem l e =
        let i : l < length p.spots = omega (arith, k.levels) in
        let q = all_at (λ x. (1 ≤ x.number) × (x.number ≤ (head_of s).node_blocks) × (length x.block ≡ node_words (head_of s).theta)) no_spot
        p.spots l d.spots i in
        let n = (k.each l i).number in
        (omega (arith, q.0, n), omega (arith, q.1, n))

    page_fits : (o.page ≡ 0 → ⊥) → (page_start f h o.page + page_words f h.capacity ≤ length s) × (length items ≡ page_words f h.capacity)
    page_fits ne =
        elim d.own [
          | inl z ↦ absurd (ne (k.page ∙ z))
          | inr z ↦ (
            page_in_lem o.page (omega (arith, z.0, k.page)) (omega (arith, z.1, k.page)),
            ap length (k.image (λ e. ne (k.page ∙ e))) ∙ length_page_image f h.capacity p.items (omega (arith, z.2, sizes.capacity)),
          )
        ]

    blocks_fit : (i : ℕ) → i < o.changed → node_start h (word numbers i) + node_words h.theta ≤ length s
    blocks_fit i l = let q = number_in_lem i (omega (arith, r.changed_in)) in node_in (word numbers i) q.0 q.1

    -- the lowest node, where it changes
    first_block : 1 ≤ o.changed → (first_spot p.spots).block ≡ block_in h.theta blocks 0
    first_block l =
        ap (λ (x : Spot). x.block) (first_at p.spots) ∙ (k.each 0 (omega (arith, k.levels, r.some))).carried (omega arith)

    first_number : (first_spot p.spots).number ≡ word numbers 0
    first_number = ap (λ (x : Spot). x.number) (first_at p.spots) ∙ (k.each 0 (omega (arith, k.levels, r.some))).number

    back_fits : o.linked ≡ true
        → (1 ≤ length numbers) × (132 ≤ length blocks) × (node_start h (word blocks 3) + node_words h.theta ≤ length s)
    back_fits e =
        let one = r.first e in
        let long : 132 ≤ length blocks = omega (arith, r.blocks_long, one) in
        let q : word blocks 3 ≡ forward_word (first_spot p.spots).block 0 =
        sym (forward_is h.theta blocks limits.theta long) ∙ ap (λ ws. forward_word ws 0) (sym (first_block one)) in (
          omega (arith, r.numbers_long, r.some),
          long,
          null_or_node (word blocks 3) (omega (arith, q, d.link (sym k.linked ∙ e))),
        )

    spots_here : put_spots (t₁ f s p) p.spots ≡ put_spots (t₁ f s p) (spots_from h.theta numbers blocks 0 o.changed)
    spots_here =
        let e : o.changed - 0 ≡ o.changed = omega arith in
        spots_as f s h.theta o.changed numbers blocks (t₁ f s p) p.spots 0 (length p.spots) (room₁ f s p d) (spots₁ f s p d)
        (λ l i. subst (λ n. LevelIs s h.theta o.changed numbers blocks n (get_or p.spots l no_spot)) (sym (zero-add l)) (k.each l i))
        (sym (zero-add (length p.spots)))
        (λ l a b.
        let q = number_in_lem l (omega (arith, b, k.levels)) in
        (q.0, omega (arith, q.1, (w₁ f s p d).kept.within.sizes_same.nodes), (w₁ f s p d).node (word numbers l) q.0 q.1 (λ z. z)))
        (λ l j a b c. r.apart l j a (omega (arith, b, k.levels)) c)
        (omega (arith, r.changed_in, k.levels))
        ∙ ap (λ m. put_spots (t₁ f s p) (spots_from h.theta numbers blocks 0 m)) e

    link_here : (t : List ℕ) (b : Bool) → o.linked ≡ b → relinked t b (spot_in h.theta numbers blocks 0) ≡ relinked t b (first_spot p.spots)
    unfolding relinked spot_in
    link_here t false e = refl
    link_here t true e = ap₂ (λ ws n. back_linked t (forward_word ws 0) n) (sym (first_block (r.first e))) (sym first_number)

    pub kept_here : relinked (put_spots (put_own f h.capacity s o.page p.items) (spots_from h.theta numbers blocks 0 o.changed))
        o.linked (spot_in h.theta numbers blocks 0) ≡ t₃ f s p
    kept_here =
        ap₂ (λ C n. relinked (put_spots (put_own f C s n p.items) (spots_from h.theta numbers blocks 0 o.changed))
        o.linked (spot_in h.theta numbers blocks 0)) sizes.capacity k.page
        ∙ ap (λ t. relinked t o.linked (spot_in h.theta numbers blocks 0)) (sym spots_here)
        ∙ link_here (t₂ f s p) o.linked refl
        ∙ ap (λ b. relinked (t₂ f s p) b (first_spot p.spots)) k.linked

    pub image_here : (o.page ≡ 0 → ⊥) → items ≡ page_image f h.capacity p.items
    image_here ne = k.image (λ e. ne (k.page ∙ e))

    sizes_here : (t : List ℕ) → t ≡ t₃ f s p → SameSizes (head_of t) h
    sizes_here t e =
        let z = (k₃ f s p d).within.sizes_same in
        subst (λ u. SameSizes (head_of u) h) (sym e)
        (record {
          theta = sizes.theta ∙ sym z.theta;
          capacity = sizes.capacity ∙ sym z.capacity;
          nodes = sizes.nodes ∙ sym z.nodes;
          pages = sizes.pages ∙ sym z.pages;
        })

    word_here : (t : List ℕ) (i : ℕ) → t ≡ t₃ f s p → i < 16 → word t i ≡ word s i
    word_here t i e l =
        ap (λ u. word u i) e ∙ (w₃ f s p d).words i l (λ z. z) ∙ (w₂ f s p d).words i l (λ z. z) ∙ (w₁ f s p d).words i l (λ z. z)

    root_here : top_of p.spots ≡ word numbers (o.levels - 1)
    root_here =
        let n : length p.spots - 1 ≡ o.levels - 1 = omega (arith, k.levels) in
        top_at p.spots (omega (arith, k.levels, r.some))
        ∙ (k.each (length p.spots - 1) (omega (arith, k.levels, r.some))).number
        ∙ ap (word numbers) n

    pub all_here : (t v u : List ℕ) (root : ℕ) → t ≡ t₃ f s p → v ≡ release_nodes (release_pages f t (take o.pages pages)) (take o.nodes nodes)
        → root ≡ word numbers (o.levels - 1) → u ≡ put_head v root o.levels → u ≡ written_by f s h p
    unfolding put_head written_by
    all_here t v u root a b c e =
        e
        ∙ ap₂ (λ x n. put_head x n o.levels) (b ∙ ap₂ (λ x ns. release_nodes x ns)
        (ap₂ (λ x ns. release_pages f x ns) a (sym k.pages_are)) (sym k.nodes_are)) (c ∙ sym root_here)
        ∙ ap₂ (λ n C. put_head (release_nodes (release_pages f (relinked (put_spots (put_own f C s p.page p.items) p.spots) p.linked
        (first_spot p.spots)) p.pages) p.nodes) (top_of p.spots) n) k.levels (sym sizes.capacity)

  pub page_ready : (o.page ≡ 0 → ⊥) → (page_start f h o.page + page_words f h.capacity ≤ length s) × (length items ≡ page_words f h.capacity)
  page_ready = page_fits r.plan r.doable r.is

  pub blocks_ready : (i : ℕ) → i < o.changed → node_start h (word numbers i) + node_words h.theta ≤ length s
  blocks_ready = blocks_fit r.plan r.doable r.is

  pub back_ready : o.linked ≡ true
      → (1 ≤ length numbers) × (132 ≤ length blocks) × (node_start h (word blocks 3) + node_words h.theta ≤ length s)
  back_ready = back_fits r.plan r.doable r.is

  -- after the first writes
  pub then_ready : (t : List ℕ)
      → ((rs : List Item) → ((o.page ≡ 0 → ⊥) → items ≡ page_image f h.capacity rs)
      → t ≡ relinked (put_spots (put_own f h.capacity s o.page rs) (spots_from h.theta numbers blocks 0 o.changed)) o.linked
      (spot_in h.theta numbers blocks 0))
      → SameSizes (head_of t) h × (word t 11 ≡ word s 11) × (word t 10 ≡ word s 10)
  then_ready t e =
      let p = r.plan in
      let is : t ≡ t₃ f s p = e p.items (image_here p r.doable r.is) ∙ kept_here p r.doable r.is in
      (sizes_here p r.doable r.is t is, word_here p r.doable r.is t 11 is (omega arith), word_here p r.doable r.is t 10 is (omega arith))

-- what `Ready` asks of the numbers, where the nodes of the plan have different ones (`plan_apart`, on any words)
pub ready_apart : (f : Format) (s : List ℕ) (h : Head) (o : Outline) (items numbers blocks pages nodes : List ℕ) (p : Plan)
    → Carried f s h o items numbers blocks pages nodes p → o.changed ≤ o.levels
    → ((i j : ℕ) → i < length p.spots → j < length p.spots → (get_or p.spots i no_spot).number ≡ (get_or p.spots j no_spot).number → i ≡ j)
    → (l j : ℕ) → o.changed ≤ l → l < o.levels → j < o.changed → word numbers l ≡ word numbers j → ⊥
ready_apart f s h o items numbers blocks pages nodes p k c once l j a b d e =
    let i : l < length p.spots = omega (arith, k.levels) in
    let m : j < length p.spots = omega (arith, k.levels) in
    omega (arith, once l j i m ((k.each l i).number ∙ e ∙ sym (k.each j m).number), a, d)
