-- What `place` leaves is what `placed` says: a record put into the key's page, or a page of its own and the run aimed at it.
use mathlib.Core.Path.{◌≡◌, sym, ap, ap₂, ◌∙◌, subst, subst₂}
use mathlib.Core.Bool.{true}
use mathlib.Core.List.{List, [], ◌∷◌, ◌++◌}
use Prim.Native.Nat.{ℕ, ◌+◌, ◌-◌, ◌^◌, ◌≤◌, ◌<◌}
use native.Mathlib.Omega.{arith}
use lib.ListN.{length, get_or, take, drop}
use lib.Seq.{drop-drop}
use Rattle.lists.specs.Bits.{bits}
use Rattle.lists.specs.Lists.{All, replaced}
use Rattle.lists.specs.Keyed.{insert}
use Rattle.lists.proofs.KeyedLaws.{length_insert}
use Rattle.lists.proofs.Parts.{length_part}
use Rattle.tree.specs.Trie.{Key}
use Rattle.store.specs.declared.Format.{Format}
use Rattle.store.specs.declared.Head.{Head}
use Rattle.store.specs.declared.Item.{Item}
use Rattle.store.specs.Format.{width}
use Rattle.store.specs.Head.{largest_capacity, head_of, node_start, node_words, page_words, page_start, page_at, node_at}
use Rattle.store.proofs.HeadLaws.{Limits, sizes_limits, page_given}
use Rattle.page.specs.Page.{count, lawful_item, Filled}
use Rattle.page.specs.Schema.{key_of}
use Rattle.search.specs.declared.Step.{Step}
use Rattle.search.specs.Way.{Descent}
use Rattle.search.specs.Way.{End}
use Rattle.search.specs.Descent.{no_step}
use Rattle.represent.specs.Image.{page_image}
use Rattle.represent.specs.Rep.{Sized}
use Rattle.represent.proofs.PageImage.{page_count_lem, page_filled}
use Rattle.store.proofs.Places.{node_fits, page_end}
use Rattle.store.specs.Released.{next_page, page_taken}
use Rattle.split.specs.Frame.{node_of, put_node, put_page}
use Rattle.split.specs.Round.{Place, aim_at}
use Rattle.split.specs.Insertion.{SameSizes, word_store, put_items}
use Rattle.split.specs.Block.{aim, node_ops}
use Rattle.split.specs.Value.{Holder, Reached}
use Rattle.split.proofs.Kept.{Kept}
use Rattle.split.proofs.Frame.{sized_long, put_node_head, put_page_head, page_taken_sizes, page_taken_sized}
use Rattle.split.proofs.PageLaws.{put_head_lem}
use Rattle.insert.specs.Enter.{Way, way_of, path_in, places, place_of, placed}
use Rattle.insert.specs.Fine.{Carries, Fine, Placing, Putting}
use Rattle.insert.proofs.CarryPath.{first_place, first_holds}
use Rattle.insert.proofs.PageCode.{pos}
use Rattle.insert.proofs.PlaceLaws.{place_null, place_some}
use Rattle.insert.proofs.SplitCode.{reached}
use Rattle.insert.proofs.InsideWay.{positive, room_at_last, null_page, led_among, take_kept, take_nodes}

-- a page lent as a part of the words, and given back
page_back : (f : Format) (s : List ℕ) (h : Head) (p a w : ℕ) (ys vs : List ℕ) → a ≡ page_start f h p → w ≡ page_words f h.capacity
    → ys ≡ vs → take a s ++ (ys ++ drop (a + w - a) (drop a s)) ≡ replaced (page_start f h p) (page_words f h.capacity) vs s
unfolding replaced
page_back f s h p a w ys vs start words e =
    let c : a + w - a ≡ w = omega arith in
    rw (c, start, words, e) (ap (λ l. take (page_start f h p) s ++ (vs ++ l)) (drop-drop (page_words f h.capacity) (page_start f h p) s))

-- such a part is as long as a page
part_long_lem : (f : Format) (s : List ℕ) (h : Head) (p a w : ℕ) → a ≡ page_start f h p → w ≡ page_words f h.capacity → a + w ≤ length s
    → length (take (a + w - a) (drop a s)) ≡ page_words f h.capacity
unfolding page_at
part_long_lem f s h p a w start words inside =
    ap length (page_given f s h p a w start words inside)
    ∙ length_part s (page_start f h p) (page_words f h.capacity) (omega (arith, start, words))

-- a way that ends at a page, after a node that was reached with so many bits used
module _ (f : Format) (s : List ℕ) (h : Head) (it : Item) {e : End} {d : Descent} (p : Placing f s h e it d) where
  carries : Carries s h d.steps
  carries = p.carries

  y : Fine f h.theta h.capacity it.key 0 (way_of f s h it.key d)
  y = p.fine

  page_is : e.page ≡ d.page
  page_is = ap (λ x. x.page) p.ends

  abbrev way : Way
  way = way_of f s h it.key d

  abbrev C : ℕ
  C = h.capacity

  abbrev items : List Item
  items = way.items

  sized : Sized f s
  unfolding way_of
  sized = y.sized

  head_is : h ≡ head_of s
  head_is = carries.head_is

  limits : Limits (head_of s).theta (head_of s).capacity (head_of s).node_blocks (head_of s).page_blocks
  limits = sizes_limits _ _ _ _ sized.sizes

  full : (head_of s).capacity ≡ C
  full = ap (λ (h : Head). h.capacity) (sym head_is)

  pub place_limits : (16 ≤ length s) × (h.theta ≤ 6) × (h.capacity ≤ largest_capacity)
  place_limits =
      subst (λ (h : Head). (16 ≤ length s) × (h.theta ≤ 6) × (h.capacity ≤ largest_capacity)) (sym head_is)
      (omega (arith, sized_long f s sized), limits.theta, limits.capacity)

  -- the key has a page
  module _ (given : e.page ≡ 0 → ⊥) where
    some : d.page ≡ 0 → ⊥
    some z = given (page_is ∙ z)

    low : 1 ≤ d.page
    low = pos d.page some

    high : d.page ≤ (head_of s).page_blocks
    unfolding way_of
    high = omega (arith, y.page_in, y.pages.fits)

    small : length items < C
    small = room_at_last f h.theta C it.key way y

    image : page_at f s h d.page ≡ page_image f C items
    unfolding way_of
    image = ap (λ (h : Head). page_at f s h d.page) head_is ∙ y.image some

    module _ (a w : ℕ) (at_page : a ≡ page_start f h e.page) (words : w ≡ page_words f C) where
      start : a ≡ page_start f h d.page
      start = at_page ∙ ap (page_start f h) page_is

      abbrev lent : List ℕ
      lent = take (a + w - a) (drop a s)

      pub put_inside : a + w ≤ length s
      put_inside =
          omega (
            arith,
            start ∙ ap (λ (h : Head). page_start f h d.page) head_is,
            words ∙ ap (page_words f) (sym full),
            page_end (head_of s) f d.page low high,
            sized.long,
          )

      lent_is : lent ≡ page_image f C items
      lent_is = page_given f s h d.page a w start words put_inside ∙ image

      pub put_asks : (length lent ≡ page_words f C) × (count lent < C) × Filled f lent
      put_asks = (
        part_long_lem f s h d.page a w start words put_inside,
        omega (arith, page_count_lem f C lent items lent_is, small),
        page_filled f C lent items lent_is y.lawful y.sorted,
      )

      pub put_done : (ys : List ℕ)
          → ((rs : List Item) → lent ≡ page_image f C rs → All (λ it. lawful_item f it ≡ true) rs → ys ≡ page_image f C (insert key_of it rs))
          → let u = take a s ++ (ys ++ drop (a + w - a) (drop a s)) in
          (h ≡ head_of u) × (u ≡ placed f h.theta C it way)
      unfolding put_page way_of
      put_done ys puts =
          let rs : List Item = insert key_of it items in
          let u : List ℕ = put_items f C s d.page rs in
          let e : take a s ++ (ys ++ drop (a + w - a) (drop a s)) ≡ u =
          page_back f s h d.page a w ys (page_image f C rs) start words (puts items lent_is y.lawful)
          ∙ ap (λ (h : Head). replaced (page_start f h d.page) (page_words f h.capacity) (page_image f C rs) s) head_is in (
            head_is ∙ sym (ap head_of e
                ∙ put_head_lem f C s d.page rs sized low high full (omega (arith, length_insert key_of it items, small))),
            e ∙ sym (place_some h.theta C f it way some),
          )

  -- it has none
  module _ (none : e.page ≡ 0) where
    null : d.page ≡ 0
    null = sym page_is ∙ none

    next : (1 ≤ next_page s) × (next_page s ≤ (head_of s).page_blocks)
    unfolding way_of
    next = null_page f h.theta C it.key it way y null

    filled : (head_of s).pages_taken ≤ (head_of s).page_blocks
    unfolding way_of
    filled = y.pages.fits

    pub take_asks : (16 ≤ length s) × (h ≡ head_of s) × (h.theta ≤ 6) × (h.capacity ≤ largest_capacity) × (h.pages_taken ≤ 4096)
    take_asks = (
      place_limits.0,
      head_is,
      place_limits.1,
      place_limits.2,
      omega (arith, ap (λ (h : Head). h.pages_taken) head_is, filled, limits.pages),
    )

    one : length (it ∷ []) ≤ C
    one = positive f h.theta C it.key 0 way y

    -- the words with the page taken, and with the record written there
    abbrev T : List ℕ
    T = page_taken f s

    abbrev m : ℕ
    m = next_page s

    abbrev U : List ℕ
    U = put_items f C T m (it ∷ [])

    sizes : SameSizes (head_of s) (head_of T)
    sizes = page_taken_sizes f s

    sized_T : Sized f T
    sized_T = page_taken_sized f s sized

    kept : Kept f s U
    kept = take_kept f C s m (it ∷ []) sized next.0 next.1 full one

    head_U : head_of U ≡ head_of T
    head_U = put_page_head f T m (page_image f C (it ∷ [])) (omega (arith, sized_long f T sized_T))

    module _ (t : List ℕ) (g : Head) (n : ℕ) (t_is : t ≡ page_taken f s) (now_is : g ≡ head_of t) (number_is : n ≡ next_page s) where
      g_is : g ≡ head_of T
      g_is = now_is ∙ ap head_of t_is

      capacity_is : g.capacity ≡ C
      capacity_is = ap (λ (h : Head). h.capacity) g_is ∙ sizes.capacity ∙ full

      theta_is : g.theta ≡ h.theta
      theta_is = ap (λ (h : Head). h.theta) g_is ∙ sizes.theta ∙ ap (λ (h : Head). h.theta) (sym head_is)

      pub next_limits : (g.theta ≤ 6) × (g.capacity ≤ largest_capacity)
      next_limits = (omega (arith, theta_is, place_limits.1), omega (arith, capacity_is, place_limits.2))

      module _ (a w : ℕ) (start : a ≡ page_start f g n) (words : w ≡ page_words f g.capacity) where
        start_is : a ≡ page_start f (head_of T) m
        start_is = start ∙ ap (page_start f g) number_is ∙ ap (λ (h : Head). page_start f h m) g_is

        pub first_inside : a + w ≤ length t
        first_inside =
            omega (
              arith,
              start_is,
              words ∙ ap (λ (h : Head). page_words f h.capacity) g_is,
              page_end (head_of T) f m next.0 (omega (arith, next.1, sizes.pages)),
              sized_T.long,
              ap length t_is,
            )

        pub first_asks : (1 ≤ g.capacity) × (length (take (a + w - a) (drop a t)) ≡ page_words f g.capacity)
        first_asks = (omega (arith, capacity_is, one), part_long_lem f t g n a w start words first_inside)

        module _ (ys : List ℕ) (first : ys ≡ page_image f g.capacity (it ∷ [])) where
          abbrev u : List ℕ
          u = take a t ++ (ys ++ drop (a + w - a) (drop a t))

          u_is : u ≡ U
          unfolding put_page
          u_is =
              page_back f t g n a w ys (page_image f C (it ∷ [])) start words
              (first ∙ ap (λ c. page_image f c (it ∷ [])) capacity_is)
              ∙ ap (λ i. replaced (page_start f g i) (page_words f g.capacity) (page_image f C (it ∷ [])) t) number_is
              ∙ ap₂ (λ (g : Head) t. replaced (page_start f g m) (page_words f g.capacity) (page_image f C (it ∷ [])) t) g_is t_is

          g_U : g ≡ head_of U
          g_U = g_is ∙ sym head_U

          -- the first step
          abbrev x : Step
          x = get_or d.steps 0 no_step

          abbrev path : List Place
          path = places f it.key h.levels d.steps

          at_first : (P : Place → Type 0) → All P path → P (place_of f it.key x)
          at_first P = first_holds f it.key P h.levels d.steps no_step carries.low (omega (arith, carries.long))

          among : (1 ≤ x.node) × (x.node ≤ (head_of s).nodes_taken)
          unfolding way_of path_in
          among = at_first (λ p. (1 ≤ p.at) × (p.at ≤ (head_of s).nodes_taken)) (led_among s path y.led)

          holder : Holder h.theta (node_of s x.node) (bits (width f - x.used) it.key) x.depth
          unfolding way_of path_in
          holder = at_first (λ p. Holder h.theta (node_of s p.at) p.bits p.depth) y.held

          node_high : x.node ≤ (head_of s).node_blocks
          unfolding way_of
          node_high = omega (arith, among.1, y.nodes.fits)

          node_is : node_at u g x.node ≡ node_of s x.node
          node_is =
              ap₂ (λ u (g : Head). node_at u g x.node) u_is g_U
              ∙ take_nodes f C s m (it ∷ []) sized next.0 next.1 full one x.node among.0 node_high

          asks_at : it.key < 2 ^ width f
              → (g.theta ≤ 6) × (node_start g x.node + node_words g.theta ≤ length u) × (it.key < 2 ^ width f)
              × Reached f g.theta (node_at u g x.node) it.key x.used
          asks_at narrow = (
            next_limits.0,
            subst (λ (g : Head). node_start g x.node + node_words g.theta ≤ length u) (sym g_U)
                (omega (
                  arith,
                  ap length u_is,
                  node_fits (head_of U) f x.node (length U) among.0 (omega (arith, node_high, kept.sizes_same.nodes))
                      kept.sized.long,
                )),
            narrow,
            subst₂ (λ θ ws. Reached f θ ws it.key x.used) (sym theta_is) (sym node_is)
                (reached f h.theta (node_of s x.node) it.key x holder),
          )

          done_at : (v : List ℕ)
              → v ≡ replaced (node_start g x.node) (node_words g.theta)
              (aim g.theta (node_at u g x.node) (bits (width f - x.used) it.key) n) u
              → (g ≡ head_of v) × (v ≡ placed f h.theta C it way)
          unfolding put_node aim_at way_of path_in
          done_at v is =
              let o : ℕ = x.node in
              let k : Key = bits (width f - x.used) it.key in
              let ws : List ℕ = aim h.theta (node_of U o) k m in
              let θ_is : (head_of U).theta ≡ h.theta = ap (λ (h : Head). h.theta) (sym g_U) ∙ theta_is in
              let e : v ≡ put_node U o ws =
              is
              ∙ ap₂ (λ u (g : Head). replaced (node_start g o) (node_words g.theta) (aim g.theta (node_at u g o) k n) u)
              u_is g_U
              ∙ ap₂ (λ θ q. put_node U o (aim θ (node_of U o) k q)) θ_is number_is in (
                g_U ∙ sym (ap head_of e ∙ put_node_head U o ws (omega (arith, sized_long f U kept.sized))),
                e
                    ∙ sym (ap (λ p. aim_at (node_ops h.theta) (word_store f h.theta) U p m)
                    (first_place f it.key h.levels d.steps no_step carries.low (omega (arith, carries.long))))
                    ∙ sym (place_null h.theta C f it way null),
              )

          at_step : (P : ℕ → ℕ → Type 0) → P x.node x.used → P e.node e.before
          at_step P = subst (λ (b : End). P b.node b.before) (sym p.ends)

          pub aim_asks : it.key < 2 ^ width f
              → (g.theta ≤ 6) × (node_start g e.node + node_words g.theta ≤ length u) × (it.key < 2 ^ width f)
              × Reached f g.theta (node_at u g e.node) it.key e.before
          aim_asks =
              at_step (λ n b. it.key < 2 ^ width f
              → (g.theta ≤ 6) × (node_start g n + node_words g.theta ≤ length u) × (it.key < 2 ^ width f)
              × Reached f g.theta (node_at u g n) it.key b) asks_at

          pub aim_done : (v : List ℕ)
              → v ≡ replaced (node_start g e.node) (node_words g.theta)
              (aim g.theta (node_at u g e.node) (bits (width f - e.before) it.key) n) u
              → (g ≡ head_of v) × (v ≡ placed f h.theta C it way)
          aim_done v =
              at_step (λ o b. v ≡ replaced (node_start g o) (node_words g.theta) (aim g.theta (node_at u g o) (bits (width f - b) it.key) n) u
              → (g ≡ head_of v) × (v ≡ placed f h.theta C it way)) (done_at v)

-- as the code has the page's place and capacity
module _ {f : Format} {s : List ℕ} {at C : ℕ} {it : Item} {h : Head} {e : End} {d : Descent} (p : Putting f s at C it h e d) where
  pub put_limits : C ≤ largest_capacity
  put_limits = omega (arith, p.capacity_is, (place_limits f s h it p.placing).2)

  module _ {w : ℕ} (words : w ≡ page_words f C) where
    own_words : w ≡ page_words f h.capacity
    own_words = words ∙ ap (page_words f) p.capacity_is

    pub at_inside : at + w ≤ length s
    at_inside = put_inside f s h it p.placing p.some at w p.begins own_words

    pub at_asks : let lent = take (at + w - at) (drop at s) in (length lent ≡ page_words f C) × (count lent < C) × Filled f lent
    at_asks =
        subst (λ n. let lent = take (at + w - at) (drop at s) in (length lent ≡ page_words f n) × (count lent < n) × Filled f lent) (sym p.capacity_is)
        (put_asks f s h it p.placing p.some at w p.begins own_words)

    pub at_done : (ys : List ℕ)
        → ((rs : List Item) → take (at + w - at) (drop at s) ≡ page_image f C rs → All (λ it. lawful_item f it ≡ true) rs
        → ys ≡ page_image f C (insert key_of it rs))
        → let u = take at s ++ (ys ++ drop (at + w - at) (drop at s)) in
        (h ≡ head_of u) × (u ≡ placed f h.theta h.capacity it (way_of f s h it.key d))
    at_done ys puts =
        put_done f s h it p.placing p.some at w p.begins own_words ys
        (subst (λ n. (rs : List Item) → take (at + w - at) (drop at s) ≡ page_image f n rs → All (λ it. lawful_item f it ≡ true) rs
        → ys ≡ page_image f n (insert key_of it rs)) p.capacity_is puts)
