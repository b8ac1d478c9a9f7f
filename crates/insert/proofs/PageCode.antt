-- What the functions that write pages leave is what the definitions say.
--   Cuts f b pg i == number i parts the records of the page pg on bit b, as `low_count` says
--   Halves f t u C from to i == u is t with the page at from halved at record i into the page at to, as `halve_page` says
use mathlib.Core.Path.{◌≡◌, refl, sym, ap, ap₂, ◌∙◌, subst}
use mathlib.Core.Bool.{true, false}
use mathlib.Core.List.{List, [], ◌∷◌}
use Prim.Native.Nat.{ℕ, suc, ◌+◌, ◌*◌, ◌≤◌, ◌<◌}
use native.Mathlib.Nat.{add-zero}
use native.Mathlib.Decide.{dec_lt}
use native.Mathlib.Omega.{arith}
use lib.ListN.{length, take, drop, length-drop}
use lib.Seq.{length-take-le}
use Rattle.lists.specs.Lists.{All, replaced, part}
use Rattle.lists.specs.Keyed.{Sorted, Prefix}
use Rattle.tree.specs.Build.{side}
use Rattle.store.specs.declared.Format.{Format}
use Rattle.store.specs.declared.Head.{Head}
use Rattle.store.specs.declared.Item.{Item}
use Rattle.store.specs.Format.{width, words}
use Rattle.store.specs.Head.{largest_capacity, word, head_of, page_words, page_start, page_at}
use Rattle.store.proofs.HeadLaws.{Limits, sizes_limits}
use Rattle.page.specs.Page.{count, lawful_item}
use Rattle.page.specs.Schema.{key_of}
use Rattle.represent.specs.Image.{page_image}
use Rattle.represent.specs.Rep.{Sized}
use Rattle.represent.proofs.PageImage.{page_count_lem, page_inside}
use Rattle.store.proofs.Places.{part_word, page_end, pages_apart}
use Rattle.store.specs.Released.{next_page, page_taken}
use Rattle.split.specs.Frame.{page_of, put_page}
use Rattle.split.specs.Insertion.{SameSizes, put_items}
use Rattle.split.proofs.Frame.{sized_long, put_page_head, page_taken_sizes, page_taken_sized, page_taken_pages}
use Rattle.split.proofs.PageLaws.{put_head_lem, put_sized}
use Rattle.put.specs.Put.{Halvable}
use Rattle.insert.specs.Enter.{Parted, items_in, parted}
use Rattle.insert.specs.Fine.{Partable}
use Rattle.insert.proofs.PageSupplies.{NextPage, page_next_lem}

pub pos : (i : ℕ) → (i ≡ 0 → ⊥) → 1 ≤ i
pos i h = elim (dec_lt i 1) [ yes l ↦ absurd (h (omega arith)) | no l ↦ omega arith ]

below : (i n : ℕ) → (i ≡ n → ⊥) → i ≤ n → i < n
below i n h l = elim (dec_lt i n) [ yes m ↦ m | no m ↦ absurd (h (omega arith)) ]

-- the three ways of a page that is halved
module _ (f : Format) (C : ℕ) (s : List ℕ) (p : ℕ) where
  parted_low : (low high : List Item) → length low ≡ 0 → record { words = s; left = 0; right = p } ≡ parted f C s p low high
  unfolding parted
  parted_low [] high e = refl
  parted_low (x ∷ xs) high e = absurd (omega arith)

  parted_high : (low high : List Item) → 1 ≤ length low → length high ≡ 0
      → record { words = s; left = p; right = 0 } ≡ parted f C s p low high
  unfolding parted
  parted_high [] high some e = absurd (omega arith)
  parted_high (x ∷ xs) [] some e = refl
  parted_high (x ∷ xs) (y ∷ ys) some e = absurd (omega arith)

  parted_both : (low high : List Item) → 1 ≤ length low → 1 ≤ length high
      → record { words = put_items f C (put_items f C (page_taken f s) p low) (next_page s) high; left = p; right = next_page s }
      ≡ parted f C s p low high
  unfolding parted
  parted_both [] high some more = absurd (omega arith)
  parted_both (x ∷ xs) [] some more = absurd (omega arith)
  parted_both (x ∷ xs) (y ∷ ys) some more = refl

-- two pages written one after the other, both placed by the head before
two_pages : (f : Format) (t : List ℕ) (p q : ℕ) (ws vs : List ℕ) → 8 ≤ length t
    → let h = head_of t in
    replaced (page_start f h q) (page_words f h.capacity) vs (replaced (page_start f h p) (page_words f h.capacity) ws t)
    ≡ put_page f (put_page f t p ws) q vs
unfolding put_page
two_pages f t p q ws vs long =
    ap (λ (h : Head). replaced (page_start f h q) (page_words f h.capacity) vs (put_page f t p ws)) (sym (put_page_head f t p ws long))

one_word : (f : Format) (C : ℕ) → 1 ≤ page_words f C
unfolding page_words
one_word f C = omega arith

-- the count of a page is its first word
count_at : (f : Format) (s : List ℕ) (h : Head) (p : ℕ) → page_start f h p + page_words f h.capacity ≤ length s
    → word s (page_start f h p) ≡ count (page_at f s h p)
unfolding page_at
count_at f s h p inside =
    ap (word s) (sym (add-zero (page_start f h p))) ∙ sym (part_word s (page_start f h p) (page_words f h.capacity) 0 inside (one_word f _))

abbrev pub Cuts : Format → ℕ → List ℕ → ℕ → Type 0
Cuts f b pg i =
    (C q : ℕ) (rs : List Item) → pg ≡ page_image f C rs → All (λ it. lawful_item f it ≡ true) rs → Sorted key_of rs
    → Prefix key_of (suc b) q rs → (take i rs ≡ side key_of false b rs) × (drop i rs ≡ side key_of true b rs)

abbrev pub Halves : Format → List ℕ → List ℕ → ℕ → ℕ → ℕ → ℕ → Type 0
Halves f t u C from to i =
    (rs : List Item) → part t from (page_words f C) ≡ page_image f C rs
    → u ≡ replaced to (page_words f C) (page_image f C (drop i rs)) (replaced from (page_words f C) (page_image f C (take i rs)) t)

module _ (f : Format) (s : List ℕ) (p b : ℕ) (y : Partable f s p b) where
  abbrev items : List Item
  items = items_in f (page_of f s p)

  abbrev full : ℕ
  full = (head_of s).capacity

  limits : Limits (head_of s).theta full (head_of s).node_blocks (head_of s).page_blocks
  limits = sizes_limits _ _ _ _ y.sized.sizes

  count_is : count (page_of f s p) ≡ length items
  count_is = page_count_lem f full (page_of f s p) items y.image

  -- the words with the page taken
  abbrev t : List ℕ
  t = page_taken f s

  sizes : SameSizes (head_of s) (head_of t)
  sizes = page_taken_sizes f s

  sized : Sized f t
  sized = page_taken_sized f s y.sized

  next : NextPage f s y.number y.rest
  next = page_next_lem f s y.number y.rest y.sized y.supply

  image_now : page_of f t p ≡ page_image f (head_of t).capacity items
  image_now = page_taken_pages f s p ∙ y.image ∙ ap (λ C. page_image f C items) (sym sizes.capacity)

  from_in : page_start f (head_of t) p + page_words f (head_of t).capacity ≤ length t
  from_in = omega (arith, page_end (head_of t) f p y.low (omega (arith, sizes.pages, y.high, y.supply.fits)), sized.long)

  ready : (i : ℕ) → i ≤ length items
      → Halvable f t (head_of t).capacity (page_start f (head_of t) p) (page_start f (head_of t) (next_page s)) i
  ready i within =
      let m : ℕ = next_page s in
      let low : 1 ≤ m = omega (arith, next.is, next.low) in
      let size : word t (page_start f (head_of t) p) ≡ length items =
      count_at f t (head_of t) p from_in ∙ page_count_lem f (head_of t).capacity (page_of f t p) items image_now in
      record {
        small = omega (arith, limits.capacity, sizes.capacity);
        from_in = from_in;
        to_in = omega (arith, page_end (head_of t) f m low (omega (arith, sizes.pages, next.is, next.high)), sized.long);
        apart = pages_apart (head_of t) f p m y.low low (λ e. y.another (sym next.is ∙ sym e));
        fits = omega (arith, size, y.fit, sizes.capacity);
        within = omega (arith, size);
      }

  halved_words : (u : List ℕ) (i : ℕ)
      → Halves f t u (head_of t).capacity (page_start f (head_of t) p) (page_start f (head_of t) (next_page s)) i
      → u ≡ put_items f full (put_items f full t p (take i items)) (next_page s) (drop i items)
  unfolding page_at
  halved_words u i halves =
      let C : ℕ = (head_of t).capacity in
      halves items image_now
      ∙ two_pages f t p (next_page s) (page_image f C (take i items)) (page_image f C (drop i items))
      (omega (arith, sized_long f t sized))
      ∙ ap (λ C. put_items f C (put_items f C t p (take i items)) (next_page s) (drop i items)) sizes.capacity

  -- i is neither none nor all
  module _ (i : ℕ) (some : 1 ≤ i) (more : i < length items) where
    short : length (take i items) ≡ i
    short = length-take-le i items (omega arith)

    halved_head : head_of (put_items f full (put_items f full t p (take i items)) (next_page s) (drop i items)) ≡ head_of t
    halved_head =
        let high : p ≤ (head_of t).page_blocks = omega (arith, sizes.pages, y.high, y.supply.fits) in
        let fits : length (take i items) ≤ full = omega (arith, short, y.fit) in
        let u : List ℕ = put_items f full t p (take i items) in
        let ok : Sized f u = put_sized f full t p (take i items) sized y.low high sizes.capacity fits in
        put_page_head f u (next_page s) (page_image f full (drop i items)) (omega (arith, sized_long f u ok))
        ∙ put_head_lem f full t p (take i items) sized y.low high sizes.capacity fits

  module _ (i : ℕ) (cuts : Cuts f b (page_of f s p) i) where
    cut : (take i items ≡ side key_of false b items) × (drop i items ≡ side key_of true b items)
    cut = cuts full y.prefix_bits items y.image y.lawful y.sorted y.prefix

    low_none : i ≡ 0
        → record { words = s; left = 0; right = p } ≡ parted f full s p (side key_of false b items) (side key_of true b items)
    low_none e = parted_low f full s p _ _ (ap length (sym cut.0) ∙ ap (λ n. length (take n items)) e)

    low_all : (i ≡ 0 → ⊥) → i ≡ count (page_of f s p)
        → record { words = s; left = p; right = 0 } ≡ parted f full s p (side key_of false b items) (side key_of true b items)
    low_all some e =
        parted_high f full s p _ _ (omega (arith, ap length cut.0, length-take-le i items (omega (arith, count_is)), pos i some))
        (omega (arith, ap length cut.1, length-drop i items, count_is))

    low_some : (u : List ℕ) → (i ≡ 0 → ⊥) → i < count (page_of f s p)
        → Halves f t u (head_of t).capacity (page_start f (head_of t) p) (page_start f (head_of t) (next_page s)) i
        → (head_of t ≡ head_of u)
        × (record { words = u; left = p; right = next_page s }
        ≡ parted f full s p (side key_of false b items) (side key_of true b items))
    low_some u some more halves =
        let low : List Item = side key_of false b items in
        let high : List Item = side key_of true b items in
        let one : 1 ≤ i = pos i some in
        let less : i < length items = omega (arith, count_is) in
        let is = halved_words u i halves in
        let both : u ≡ put_items f full (put_items f full t p low) (next_page s) high =
        is ∙ ap₂ (λ l r. put_items f full (put_items f full t p l) (next_page s) r) cut.0 cut.1 in (
          sym (ap head_of is ∙ halved_head i one less),
          ap (λ u. record { words = u; left = p; right = next_page s }) both
              ∙ parted_both f full s p low high (omega (arith, ap length cut.0, short i one less))
              (omega (arith, ap length cut.1, length-drop i items)),
        )

-- the same where the code has its own head and words
module _ (f : Format) (s : List ℕ) (h : Head) (p b : ℕ) (is : h ≡ head_of s) (y : Partable f s p b) where
  pub part_limits : (16 ≤ length s) × (h.theta ≤ 6) × (h.capacity ≤ largest_capacity) × (h.pages_taken ≤ 4096)
  part_limits =
      subst (λ (h : Head). (16 ≤ length s) × (h.theta ≤ 6) × (h.capacity ≤ largest_capacity) × (h.pages_taken ≤ 4096)) (sym is) (
        omega (arith, sized_long f s y.sized),
        (limits f s p b y).theta,
        (limits f s p b y).capacity,
        omega (arith, (limits f s p b y).pages, y.supply.fits),
      )

  -- what is asked where the records with a clear bit are counted
  pub part_asks : (pg : List ℕ) → pg ≡ page_at f s h p → (b < width f) × (words f * count pg < length pg)
  part_asks pg e = (
    y.narrow,
    page_inside f (head_of s).capacity pg (items_in f (page_of f s p)) (e ∙ ap (λ (h : Head). page_at f s h p) is ∙ y.image),
  )

  -- the head with the page taken
  pub part_next : (t : List ℕ) (g : Head) → t ≡ page_taken f s → g ≡ head_of t
      → (g.theta ≤ 6) × (g.capacity ≤ largest_capacity)
  part_next t g taken head_is =
      let k : SameSizes (head_of s) (head_of t) =
      subst (λ t. SameSizes (head_of s) (head_of t)) (sym taken) (page_taken_sizes f s) in
      subst (λ (g : Head). (g.theta ≤ 6) × (g.capacity ≤ largest_capacity)) (sym head_is)
      (omega (arith, k.theta, (limits f s p b y).theta), omega (arith, k.capacity, (limits f s p b y).capacity))

  abbrev rs : Head → List Item
  rs h = items_in f (page_at f s h p)

  abbrev answer : Head → Parted
  answer h = parted f h.capacity s p (side key_of false b (rs h)) (side key_of true b (rs h))

  module _ (pg : List ℕ) (i : ℕ) (page_is : pg ≡ page_at f s h p) (cuts : Cuts f b pg i) where
    cuts_own : Cuts f b (page_of f s p) i
    cuts_own = subst (λ pg. Cuts f b pg i) (page_is ∙ ap (λ (h : Head). page_at f s h p) is) cuts

    own_is : pg ≡ page_of f s p
    own_is = page_is ∙ ap (λ (h : Head). page_at f s h p) is

    pub part_low : i ≡ 0 → record { words = s; left = 0; right = p } ≡ answer h
    part_low e = low_none f s p b y i cuts_own e ∙ ap answer (sym is)

    pub part_high : (i ≡ 0 → ⊥) → i ≡ count pg → record { words = s; left = p; right = 0 } ≡ answer h
    part_high some e = low_all f s p b y i cuts_own some (e ∙ ap count own_is) ∙ ap answer (sym is)

    -- with a page taken, a new head, and where the two pages stand
    module _ (t : List ℕ) (g : Head) (n from to : ℕ) (taken : t ≡ page_taken f s) (head_is : g ≡ head_of t) (number : n ≡ next_page s)
        (from_is : from ≡ page_start f g p) (to_is : to ≡ page_start f g n) where
      alike : (P : Head → List ℕ → Head → ℕ → ℕ → ℕ → Type 0)
          → P (head_of s) (page_taken f s) (head_of (page_taken f s)) (next_page s) (page_start f (head_of (page_taken f s)) p)
          (page_start f (head_of (page_taken f s)) (next_page s)) → P h t g n from to
      alike P x =
          let T : List ℕ = page_taken f s in
          let m : ℕ = next_page s in
          let a : g ≡ head_of T = head_is ∙ ap head_of taken in
          let c : from ≡ page_start f (head_of T) p = from_is ∙ ap (λ (g : Head). page_start f g p) a in
          let d : to ≡ page_start f (head_of T) m = to_is ∙ ap₂ (λ (g : Head) i. page_start f g i) a number in
          subst (λ h. P h t g n from to) (sym is)
          (subst (λ t. P (head_of s) t g n from to) (sym taken)
          (subst (λ g. P (head_of s) T g n from to) (sym a)
          (subst (λ n. P (head_of s) T (head_of T) n from to) (sym number)
          (subst (λ from. P (head_of s) T (head_of T) m from to) (sym c)
          (subst (λ to. P (head_of s) T (head_of T) m (page_start f (head_of T) p) to) (sym d) x)))))

      pub part_ready : i ≤ count pg → Halvable f t g.capacity from to i
      part_ready within =
          alike (λ h t g n from to. Halvable f t g.capacity from to i)
          (ready f s p b y i (omega (arith, ap count own_is, count_is f s p b y)))

      pub part_both : (u : List ℕ) → (i ≡ 0 → ⊥) → (i ≡ count pg → ⊥) → i ≤ count pg → Halves f t u g.capacity from to i
          → (g ≡ head_of u) × (record { words = u; left = p; right = n } ≡ answer h)
      part_both u some more within =
          alike
          (λ h t g n from to. Halves f t u g.capacity from to i
          → (g ≡ head_of u) × (record { words = u; left = p; right = n } ≡ answer h))
          (low_some f s p b y i cuts_own u some (omega (arith, ap count own_is, below i (count pg) more within)))
