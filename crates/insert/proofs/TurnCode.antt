-- A round in code: what the page and the path are given, and that its end is the definition's.
--   own_items_lem   == the records that a way carries are those of its page
--   way_again   == a way from the values that are carried
--   turn_bit    == a bit is left
--   turn_page   == the page may be halved
--   turn_round  == what the round along the path is given
--   turn_done   == the way after it
use mathlib.Core.Path.{◌≡◌, refl, sym, ap, ap₂, ◌∙◌, subst, subst₂}
use mathlib.Core.Bool.{Bool, true, false, false≢true}
use mathlib.Core.Logic.{◌⊎◌, ⊎_elim}
use mathlib.Core.List.{List}
use Prim.Native.Nat.{ℕ, suc, ◌+◌, ◌-◌, ◌/◌, ◌^◌, ◌≤◌, ◌<◌}
use native.Mathlib.Omega.{arith}
use native.Mathlib.Decide.{ℕ_discrete}
use lib.ListN.{length}
use Rattle.lists.specs.Bits.{bit, bits}
use Rattle.lists.specs.Lists.{All}
use Rattle.lists.specs.Keyed.{Sorted, Prefix}
use Rattle.lists.proofs.Tests.{tab_of}
use Rattle.tree.specs.Build.{side}
use Rattle.tree.proofs.BuildLaws.{length_sides}
use Rattle.store.specs.declared.Format.{Format}
use Rattle.store.specs.declared.Head.{Head}
use Rattle.store.specs.Format.{width}
use Rattle.store.specs.Head.{head_of, page_at}
use Rattle.page.specs.Page.{count, item_at, lawful_item}
use Rattle.page.specs.Schema.{key_of}
use Rattle.represent.specs.Image.{page_image}
use Rattle.represent.specs.Labelled.{count as counted}
use Rattle.represent.proofs.LabelLaws.{ind_eq}
use Rattle.represent.proofs.PageImage.{page_count_lem, page_item}
use Rattle.search.specs.Way.{Descent}
use Rattle.search.specs.Find.{no_item}
use Rattle.split.specs.Round.{round}
use Rattle.split.specs.Insertion.{word_store}
use Rattle.split.specs.Block.{node_ops}
use Rattle.insert.specs.Enter.{Way, Parted, items_in, own_items, places, path_in, parted, way_of, round_of}
use Rattle.insert.specs.Fine.{Fine, Turnable, Partable, Carries, PageSupply, Roundable, rounded}
use Rattle.insert.proofs.TestLaws.{items_null, items_some}
use Rattle.insert.proofs.InsideWay.{positive, bit_left, one_page, page_step, able_q, theta_q, round_fine, round_full, null_items}
use Rattle.insert.proofs.FrameWay.{parts}
use Rattle.insert.proofs.RootCode.{Some, some as some_of}

-- the records of a page's image
image_items : (f : Format) (θ C k d : ℕ) (w : Way) → Fine f θ C k d w → (pg : List ℕ) → pg ≡ page_image f C w.items
    → items_in f pg ≡ w.items
unfolding items_in
image_items f θ C k d w y pg is =
    tab_of no_item (count pg) (item_at f pg) w.items (sym (page_count_lem f C pg w.items is))
    (λ i q. page_item f C pg w.items is y.lawful i (omega (arith, page_count_lem f C pg w.items is)))

pub own_items_lem : (f : Format) (θ C k d : ℕ) (w : Way) → Fine f θ C k d w → (h : Head) → h ≡ head_of w.words
    → own_items f w.words h w.page ≡ w.items
own_items_lem f θ C k d w y h e =
    elim (ℕ_discrete w.page 0) [
      | yes z ↦ items_null f w.words h w.page z ∙ sym (null_items f θ C k d w y z)
      | no z ↦
          items_some f w.words h w.page z
          ∙ image_items f θ C k d w y (page_at f w.words h w.page) (ap (λ x. page_at f w.words x w.page) e ∙ y.image z)
    ]

pub way_again : (f : Format) (θ C k d : ℕ) (w : Way) → Fine f θ C k d w → (s : List ℕ) (h : Head) (x : Descent) → s ≡ w.words
    → h ≡ head_of s
    → path_in f h k x ≡ w.path → x.page ≡ w.page → x.used ≡ w.used → way_of f s h k x ≡ w
unfolding way_of
way_again f θ C k d w y s h x words own path page used =
    let items : own_items f s h x.page ≡ w.items =
    ap₂ (λ v p. own_items f v h p) words page ∙ own_items_lem f θ C k d w y h (own ∙ ap head_of words) in
    ap₂ (λ v r. record { words = v; path = r; page = x.page; used = x.used; items = own_items f s h x.page }) words path
    ∙ ap₂ (λ p u. record { words = w.words; path = w.path; page = p; used = u; items = own_items f s h x.page }) page used
    ∙ ap (λ r. record { words = w.words; path = w.path; page = w.page; used = w.used; items = r }) items

module _ (f : Format) (k : ℕ) (s : List ℕ) (h : Head) (d : Descent) (c : Carries s h d.steps) (y : Turnable f k (way_of f s h k d)) where
  abbrev w : Way
  w = way_of f s h k d

  abbrev θ : ℕ
  θ = (head_of s).theta

  abbrev C : ℕ
  C = (head_of s).capacity

  fine : Fine f θ C k (suc y.more) w
  unfolding way_of
  fine = y.fine

  full : length w.items ≡ C
  full = round_full f θ C k y.more w fine

  abbrev b : ℕ
  b = width f - suc d.used

  left : suc b ≡ width f - d.used
  unfolding way_of
  left = bit_left f θ C k (suc y.more) w fine full

  pub turn_bit : d.used < width f
  turn_bit = omega (arith, left)

  some : 1 ≤ d.page
  unfolding way_of
  some = fine.some (omega (arith, full, positive f θ C k (suc y.more) w fine))

  -- the records that are carried are those of the page
  items_own : (x : Head) → x ≡ head_of s → items_in f (page_at f s x d.page) ≡ w.items
  unfolding way_of
  items_own x e =
      ap (λ v. items_in f (page_at f s v d.page)) (e ∙ sym c.head_is) ∙ sym (items_some f s h d.page (λ z. omega (arith, some)))

  -- a page is to come
  page_there : 1 ≤ length fine.page_numbers
  page_there = omega (arith, fine.page_enough, one_page f θ C k y.more w fine full)

  first_page_lem : Some fine.page_numbers
  first_page_lem = some_of fine.page_numbers page_there

  pub turn_page : (n : ℕ) → n ≡ b → Partable f s d.page n
  unfolding way_of
  turn_page n e =
      let is = sym (items_own (head_of s) refl) in
      let o = first_page_lem in
      record {
        sized = fine.sized;
        low = some;
        high = fine.page_in;
        number = o.n;
        rest = o.ns;
        supply = subst (PageSupply f s) o.is fine.pages;
        another = λ i. omega (arith, subst (λ l. counted d.page l ≡ 0) o.is fine.page_clear, ind_eq d.page o.n (sym i));
        narrow = omega (arith, left);
        prefix_bits = k / 2 ^ (width f - d.used);
        image = fine.image (λ z. omega (arith, some)) ∙ ap (page_image f C) is;
        fit = omega (arith, ap length is, fine.fit);
        lawful = subst (λ xs. All (λ it. lawful_item f it ≡ true) xs) is fine.lawful;
        sorted = subst (Sorted key_of) is fine.sorted;
        prefix =
            let g : width f - d.used ≡ suc n = omega (arith, left) in
            subst₂ (λ i xs. Prefix key_of i (k / 2 ^ (width f - d.used)) xs) g is fine.prefix;
      }

  -- the page halved
  abbrev q : Parted
  q = parted f C s d.page (side key_of false b w.items) (side key_of true b w.items)

  -- as the code says it
  abbrev parted_by : ℕ → Parted
  parted_by n =
      parted f h.capacity s d.page (side key_of false n (items_in f (page_at f s h d.page)))
      (side key_of true n (items_in f (page_at f s h d.page)))

  parted_is : (n : ℕ) → n ≡ b → parted_by n ≡ q
  parted_is n e =
      ap (λ x. parted f x s d.page (side key_of false n (items_in f (page_at f s h d.page)))
      (side key_of true n (items_in f (page_at f s h d.page)))) (ap (λ (x : Head). x.capacity) c.head_is)
      ∙ ap₂ (λ i xs. parted f C s d.page (side key_of false i xs) (side key_of true i xs)) e (items_own h c.head_is)

  levels_q : (head_of q.words).levels ≡ h.levels
  unfolding way_of
  levels_q =
      (parts f C s d.page fine.page_numbers (side key_of false b w.items) (side key_of true b w.items) fine.sized refl some
      fine.page_in fine.pages page_there
      (omega (arith, full, length_sides key_of b w.items)) (page_step f θ C k y.more w fine full)).paged.rooted.levels
      ∙ ap (λ (x : Head). x.levels) (sym c.head_is)

  module _ (n : ℕ) (e : n ≡ b) (v : List ℕ) (left right : ℕ) (g : Head) (own : g ≡ head_of v)
      (is : record { words = v; left = left; right = right } ≡ parted_by n) where
    whole : record { words = v; left = left; right = right } ≡ q
    whole = is ∙ parted_is n e

    words : v ≡ q.words
    words = ap (λ (x : Parted). x.words) whole

    levels : g.levels ≡ h.levels
    levels = ap (λ (x : Head). x.levels) own ∙ ap (λ x. (head_of x).levels) words ∙ levels_q

    path_is : places f k g.levels d.steps ≡ w.path
    unfolding way_of path_in
    path_is = ap (λ i. places f k i d.steps) levels

    theta : (head_of v).theta ≡ θ
    unfolding way_of
    theta = ap (λ x. (head_of x).theta) words ∙ theta_q f θ C k y.more w fine full

    -- the round along the path
    round_is : rounded f v k (places f k g.levels d.steps) left right
        ≡ round (node_ops θ) (word_store f θ) θ (bits (width f) k)
        q.words w.path q.left q.right
    round_is =
        ap₂ (λ x r. rounded f x k r left right) words path_is
        ∙ ap₂ (λ x (y : ℕ × ℕ). round (node_ops x) (word_store f x) x (bits (width f) k)
        q.words w.path y.0 y.1) (ap (λ x. (head_of x).theta) (sym words) ∙ theta)
        (ap (λ (x : Parted). (x.left, x.right)) whole)

    abbrev after : Way
    after = round_of f θ C k w

    after_fine : Fine f θ C k y.more after
    after_fine = round_fine f θ C k y.more w fine full

    pub turn_round : Carries v g d.steps × Roundable f v (places f k g.levels d.steps)
        × (length (rounded f v k (places f k g.levels d.steps) left right).path ≤ 32)
    unfolding round_of way_of
    turn_round = (
      record { head_is = own; long = c.long; low = omega (arith, levels, c.low); high = omega (arith, levels, c.high) },
      subst₂ (Roundable f) (sym words) (sym path_is) (able_q f θ C k y.more w fine full),
      omega (arith, ap (λ r. length r.path) round_is, after_fine.short),
    )

    -- the way after it: its page is the half that the bit chooses
    module _ (u : List ℕ) (g' : Head) (x : Descent) (own' : g' ≡ head_of u)
        (store : u ≡ (rounded f v k (places f k g.levels d.steps) left right).store)
        (path : places f k g'.levels x.steps ≡ (rounded f v k (places f k g.levels d.steps) left right).path)
        (page : ((bit b k ≡ true) × (x.page ≡ right)) ⊎ ((bit b k ≡ false) × (x.page ≡ left)))
        (used : x.used ≡ d.used + 1) where
      page_is : x.page ≡ after.page
      unfolding round_of way_of
      page_is = go (bit b k) refl
        where
          go : (z : Bool) → bit b k ≡ z → x.page ≡ elim (bit b k) [ true ↦ q.right | false ↦ q.left ]
          go true z =
              rw z (⊎_elim (λ m. m.1 ∙ ap (λ (r : Parted). r.right) whole) (λ m. absurd (false≢true (sym m.0 ∙ z))) page)
          go false z =
              rw z (⊎_elim (λ m. absurd (false≢true (sym z ∙ m.0))) (λ m. m.1 ∙ ap (λ (r : Parted). r.left) whole) page)

      pub turn_done : way_of f u g' k x ≡ round_of f h.theta h.capacity k w
      unfolding round_of way_of path_in
      turn_done =
          let one : d.used + 1 ≡ suc d.used = omega arith in
          way_again f θ C k y.more after after_fine u g' x (store ∙ ap (λ r. r.store) round_is) own'
          (path ∙ ap (λ r. r.path) round_is) page_is
          (used ∙ one)
          ∙ ap₂ (λ i j. round_of f i j k w) (ap (λ (z : Head). z.theta) (sym c.head_is))
          (ap (λ (z : Head). z.capacity) (sym c.head_is))
