-- The record put at the end of a right way: into the key's page, or into a page taken for it, to which the run at the key then points.
-- What is found there afterwards is one record of facts.
--   Ends f it t == in the words t a sound path leads to a page whose block is the image of records with the record among them
use mathlib.Core.Path.{◌≡◌, refl, sym, ap, ◌∙◌, subst}
use mathlib.Core.Bool.{Bool, true}
use mathlib.Core.List.{List, [], ◌∷◌}
use Prim.Native.Nat.{ℕ, ◌-◌, ◌/◌, ◌^◌, ◌≤◌}
use native.Mathlib.Omega.{arith}
use native.Mathlib.Decide.{dec_lt, ℕ_discrete}
use lib.Dec.{eqb}
use lib.ListN.{length, get_or}
use borrow.Author.Tests.{eq-eqb, ne_eqb}
use Rattle.lists.specs.Lists.{All}
use Rattle.lists.specs.Keyed.{Sorted, Lacks, Prefix, insert}
use Rattle.lists.proofs.KeyedLaws.{insert_lt, insert_ge, length_insert, all_insert, sorted_insert}
use Rattle.lists.proofs.ListLaws.{all_map}
use Rattle.tree.specs.Trie.{Trie, leaf, graft}
use Rattle.tree.specs.Build.{pages_at}
use Rattle.tree.specs.Book.{level_bound}
use Rattle.tree.proofs.TrieLaws.{depth_le_height, height_graft, depth_graft, leaf_at_graft}
use Rattle.store.specs.declared.Format.{Format}
use Rattle.store.specs.declared.Head.{Head}
use Rattle.store.specs.declared.Item.{Item}
use Rattle.store.specs.Format.{width}
use Rattle.store.specs.Head.{head_of, released_of, node_words}
use Rattle.store.proofs.HeadLaws.{Chains, sizes_limits}
use Rattle.page.specs.Page.{lawful_item}
use Rattle.page.specs.Schema.{key_of}
use Rattle.represent.specs.Image.{page_image}
use Rattle.represent.specs.Rep.{Sized}
use Rattle.represent.proofs.LabelLaws.{each_label}
use Rattle.search.specs.Way.{Record}
use Rattle.readings.specs.Listing.{first_where}
use Rattle.readings.proofs.FirstLaws.{first_true, first_false}
use Rattle.split.specs.Frame.{node_of, page_of}
use Rattle.split.specs.Round.{Place, aim_at}
use Rattle.split.specs.Insertion.{others, word_store, put_items}
use Rattle.split.specs.Block.{aim, node_ops}
use Rattle.store.specs.Released.{node_next, page_next, next_page, page_taken}
use Rattle.represent.specs.Labelled.{count as counted}
use Rattle.split.proofs.Frame.{put_node_same, put_node_other}
use Rattle.insert.proofs.Supplies.{coming_named}
use Rattle.insert.proofs.PageSupplies.{page_others, page_put, put_nodes, page_next_lem}
use Rattle.insert.proofs.InsideWrites.{length_aim, node_head, put_now}
use Rattle.split.proofs.Blocks.{aim_written}
use Rattle.split.proofs.BlockLaws.{node_ops_are}
use Rattle.split.proofs.PageLaws.{put_head_lem, put_same, take_same}
use Rattle.split.proofs.WordStore.{others_pages, others_sizes}
use Rattle.insert.specs.Enter.{Way, no_place, placed}
use Rattle.insert.specs.Fine.{Led, Apart, Supply, PageSupply, Clear, Fine, depths, sum}
use Rattle.insert.proofs.PlaceLaws.{place_null, place_some}
use Rattle.insert.proofs.HeldRound.{Beside}
use Rattle.insert.proofs.InsideWay.{items_kept, items_nodes, take_kept, take_nodes, take_taken, take_pages, take_supply, take_page_supply}
use Rattle.insert.proofs.InsideWay.{positive, room_at_last, null_items}
use Rattle.insert.proofs.FoundPath.{Enters, More, enters_more, links_more, graft_labels, Sound, sound_moved, sound_among}
use Rattle.insert.proofs.FoundClimb.{more_others, path_same, written_here}
use Rattle.insert.proofs.FrameWay.{Rooted, rooted_head, rooted_then, take_rooted}
use Rattle.insert.proofs.FoundWay.{Right}

-- the record inserted is the first with its key
insert_found : (it : Item) (xs : List Item) → Lacks key_of it.key xs
    → first_where (λ x. eqb x.key it.key) (insert key_of it xs) ≡ Record it
unfolding insert
insert_found it [] new = first_true (λ x. eqb x.key it.key) it [] (eq-eqb it.key it.key refl)
insert_found it (x ∷ xs) new =
    let test : Item → Bool = λ y. eqb y.key it.key in
    elim (dec_lt it.key x.key) [
      | yes h ↦
          ap (first_where test) (insert_lt key_of it x xs h) ∙ first_true test it (x ∷ xs) (eq-eqb it.key it.key refl)
      | no h ↦
          ap (first_where test) (insert_ge key_of it x xs (omega arith))
          ∙ first_false test x (insert key_of it xs) (ne_eqb x.key it.key new.0)
          ∙ insert_found it xs new.1
    ]

pub record Ends (f : Format) (it : Item) (t : List ℕ) : Type 0 where
  pub path : List Place
  pub page : ℕ
  pub items : List Item
  pub sized : Sized f t
  pub chains : Chains (head_of t) (released_of t)
  pub nodes_in : (head_of t).nodes_taken ≤ (head_of t).node_blocks
  pub pages_in : (head_of t).pages_taken ≤ (head_of t).page_blocks
  pub sound : Sound f (head_of t).theta it.key t 0 path page
  pub some : 1 ≤ length path
  pub levels_in : (head_of t).levels ≤ level_bound (width f) (head_of t).theta (head_of t).capacity
  pub low : 1 ≤ page
  pub image : page_of f t page ≡ page_image f (head_of t).capacity items
  pub filled : 1 ≤ length items
  pub fits : length items ≤ (head_of t).capacity
  pub lawful : All (λ x. lawful_item f x ≡ true) items
  pub sorted : Sorted key_of items
  pub prefix : Prefix key_of (width f - sum (depths path)) (it.key / 2 ^ (width f - sum (depths path))) items
  pub found : first_where (λ x. eqb x.key it.key) items ≡ Record it

-- what the blocks to come say of the head
chains_of : (f : Format) (t : List ℕ) (ns ps : List ℕ) → Supply t ns → PageSupply f t ps → Chains (head_of t) (released_of t)
chains_of f t ns ps a b =
    let n = coming_named (node_next t) _ _ _ _ ns a.coming in
    let p = coming_named (page_next f t) _ _ _ _ ps b.coming in
    record {
      nodes = a.below;
      pages = b.below;
      node = record { within = n.within; some = n.some; none = n.none };
      page = record { within = p.within; some = p.some; none = p.none };
    }

module _ (f : Format) (θ key : ℕ) (pos : 1 ≤ θ) where
  -- another pointer at the key
  aim_sound : (s : List ℕ) (p : Place) (path : List Place) (q next : ℕ) (ns : List ℕ) → Sized f s → (head_of s).theta ≡ θ → Supply s ns
      → Clear ns (p ∷ path)
      → Sound f θ key s 0 (p ∷ path) next → Beside p.at path → Enters s 0 q
      → let t = aim_at (node_ops θ) (word_store f θ) s p q in
      Sound f θ key t 0 (p ∷ path) q × Sized f t × Rooted s t × Supply t ns × (others t ≡ others s)
  unfolding aim_at
  aim_sound s p path q next ns ok own supply clear y off eq =
      let z = y.0 in
      let v : Trie ℕ = z.trie in
      let u : Trie ℕ = graft v p.bits (leaf q) in
      let w = aim_written (node_ops_are θ pos) z.is p.bits q in
      let ws : List ℕ = aim θ (node_of s p.at) p.bits q in
      let same : length ws ≡ node_words (head_of s).theta = length_aim θ (node_of s p.at) p.bits q ∙ ap node_words (sym own) in
      let high : p.at ≤ (head_of s).node_blocks = omega (arith, z.within.1, supply.fits) in
      let put = put_now f θ s p path ws ns ok (z.within.0, high) same clear.0 supply in
      let head = node_head f s p.at ws ok z.within.0 high same in
      let t : List ℕ = aim_at (node_ops θ) (word_store f θ) s p q in
      let more : More s t = more_others s t put.taken put.others_same in
      let here =
      written_here f θ key t 0 p.at _ _ _ u (z.within.0, omega (arith, z.within.1, put.taken))
      (put_node_same f s p.at ws ok z.within.0 high same) w
      (links_more s t 0 _ _ more z.links) in (
        (
          record {
            trie = u;
            within = here.0;
            is = here.1;
            links = here.2;
            points = graft_labels (Enters t 0) v p.bits (leaf q) (λ x o. enters_more s t 0 x more (z.points x o))
                (λ x o. each_label (Enters t 0) (leaf q) x (enters_more s t 0 q more eq) o);
            bits_are = z.bits_are;
            room = omega (arith, z.room, height_graft v p.bits (leaf q), depth_le_height v p.bits);
            depth_is = omega (arith, depth_graft v p.bits (leaf q), z.depth_is);
            next_is = leaf_at_graft v p.bits (leaf q);
          },
          sound_moved f θ key s t 1 path p.at more (ap (λ h. h.root) head) (ap (λ h. h.levels) head)
              (path_same s t p.at (head_of s).nodes_taken ns path (sound_among f θ key s 1 path p.at y.1) clear.1 off
              (λ x low d ne. put_node_other f s p.at ws ok z.within.0 high same x low ne))
              y.1,
        ),
        put.kept.sized,
        record { root = ap (λ h. h.root) head; levels = ap (λ h. h.levels) head },
        put.supply,
        put.others_same,
      )

module _ (f : Format) (θ C : ℕ) (it : Item) (lawful : lawful_item f it ≡ true) (w : Way) (y : Fine f θ C it.key 0 w)
    (g : Right f θ C it w) where
  abbrev s : List ℕ
  s = w.words

  abbrev key : ℕ
  key = it.key

  abbrev rs : List Item
  rs = insert key_of it w.items

  small : length rs ≤ C
  small = omega (arith, length_insert key_of it w.items, room_at_last f θ C key w y)

  -- the words after the put, with the record in page p
  ends : (t : List ℕ) (p : ℕ) (ns ps : List ℕ) → Sized f t → (head_of t).theta ≡ θ → (head_of t).capacity ≡ C → Supply t ns
      → PageSupply f t ps → Sound f θ key t 0 w.path p → 1 ≤ length w.path → Rooted s t → 1 ≤ p
      → page_of f t p ≡ page_image f C rs → Ends f it t
  ends t p ns ps ok own cap nodes pages sound some rooted low is =
      record {
        path = w.path;
        page = p;
        items = rs;
        sized = ok;
        chains = chains_of f t ns ps nodes pages;
        nodes_in = nodes.fits;
        pages_in = pages.fits;
        sound = subst (λ x. Sound f x key t 0 w.path p) (sym own) sound;
        some = some;
        levels_in =
            subst (λ x. (head_of t).levels ≤ level_bound (width f) x (head_of t).capacity) (sym own)
            (subst (λ x. (head_of t).levels ≤ level_bound (width f) θ x) (sym cap) (omega (arith, rooted.levels, g.levels_in)));
        low = low;
        image = is ∙ ap (λ c. page_image f c rs) (sym cap);
        filled = omega (arith, length_insert key_of it w.items);
        fits = omega (arith, cap, small);
        lawful = all_insert key_of (λ x. lawful_item f x ≡ true) it w.items lawful y.lawful;
        sorted = sorted_insert key_of it w.items y.new y.sorted;
        prefix =
            subst (λ n. Prefix key_of (width f - n) (key / 2 ^ (width f - n)) rs) (sym g.used_is)
            (all_insert key_of (λ x. x.key / 2 ^ (width f - w.used) ≡ key / 2 ^ (width f - w.used)) it w.items refl y.prefix);
        found = insert_found it w.items y.new;
      }

  put_ends : (w.page ≡ 0 → ⊥) → 1 ≤ length w.path → Ends f it (put_items f C s w.page rs)
  put_ends some long =
      let low : 1 ≤ w.page = omega arith in
      let high : w.page ≤ (head_of s).page_blocks = omega (arith, y.page_in, y.pages.fits) in
      let t : List ℕ = put_items f C s w.page rs in
      let e : head_of t ≡ head_of s = put_head_lem f C s w.page rs y.sized low high y.capacity small in
      let k = items_kept f C s w.page rs y.sized low high y.capacity small in
      let taken = ap (λ (h : Head). h.nodes_taken) e in
      let filled = ap (λ (h : Head). h.pages_taken) e in
      let more : More s t = record { nodes = omega (arith, taken); pages = omega (arith, filled) } in
      let rooted = rooted_head s t e in
      ends t w.page y.numbers y.page_numbers k.sized (k.sizes_same.theta ∙ y.theta)
      (k.sizes_same.capacity ∙ y.capacity)
      (put_nodes f C s w.page rs y.sized low high y.capacity small y.numbers
      (items_nodes f C s w.page rs y.sized low high y.capacity small) y.nodes)
      (page_put f C s w.page rs y.sized low high y.capacity small y.page_numbers y.page_clear y.pages)
      (sound_moved f θ key s t 0 w.path w.page more rooted.root rooted.levels
      (all_map (λ p. (1 ≤ p.at) × (p.at ≤ (head_of s).nodes_taken)) (λ p. node_of t p.at ≡ node_of s p.at) w.path
      (λ p i.
      items_nodes f C s w.page rs y.sized low high y.capacity small p.at i.0 (omega (arith, i.1, y.nodes.fits)))
      (sound_among f θ key s 0 w.path w.page g.sound))
      g.sound)
      long rooted low (put_same f C s w.page rs y.sized low high y.capacity small)

  null_ends : w.page ≡ 0 → (n : ℕ) (ps : List ℕ) → PageSupply f s (n ∷ ps) → (p : Place) (path : List Place) → w.path ≡ p ∷ path
      → Ends f it (aim_at (node_ops θ) (word_store f θ) (put_items f C (page_taken f s) (next_page s) (it ∷ [])) p (next_page s))
  unfolding insert
  null_ends null n ps supplied p path e =
      let m : ℕ = next_page s in
      let none : w.items ≡ [] = null_items f θ C key 0 w y null in
      let one : length (it ∷ []) ≤ C = positive f θ C key 0 w y in
      let q = page_next_lem f s n ps y.sized supplied in
      let low : 1 ≤ m = omega (arith, q.is, q.low) in
      let room : m ≤ (head_of s).page_blocks = omega (arith, q.is, q.high) in
      let u : List ℕ = put_items f C (page_taken f s) m (it ∷ []) in
      let k = take_kept f C s m (it ∷ []) y.sized low room y.capacity one in
      let taken = take_taken f C s m (it ∷ []) y.sized low room y.capacity one in
      let filled = take_pages f C s m (it ∷ []) y.sized low room y.capacity one in
      let more : More s u = record { nodes = omega (arith, taken); pages = omega (arith, filled, q.more) } in
      let rooted = take_rooted f C s m (it ∷ []) y.sized low room y.capacity one in
      let pos : 1 ≤ θ = omega (arith, (sizes_limits _ _ _ _ y.sized.sizes).theta_low, y.theta) in
      let supply_u = take_supply f C s m (it ∷ []) y.sized low room y.capacity one y.numbers y.nodes in
      let pages_u =
      take_page_supply f C s m (it ∷ []) y.sized low room y.capacity one n ps supplied (ap (λ x. counted x ps) q.is ∙ q.gone) in
      let sound_u : Sound f θ key u 0 w.path w.page =
      sound_moved f θ key s u 0 w.path w.page more rooted.root rooted.levels
      (all_map (λ x. (1 ≤ x.at) × (x.at ≤ (head_of s).nodes_taken)) (λ x. node_of u x.at ≡ node_of s x.at) w.path
      (λ x i.
      take_nodes f C s m (it ∷ []) y.sized low room y.capacity one x.at i.0 (omega (arith, i.1, y.nodes.fits)))
      (sound_among f θ key s 0 w.path w.page g.sound))
      g.sound in
      let z =
      aim_sound f θ key pos u p path m w.page y.numbers k.sized (k.sizes_same.theta ∙ y.theta) supply_u
      (subst (Clear y.numbers) e y.clear) (subst (λ ps. Sound f θ key u 0 ps w.page) e sound_u)
      (subst Apart e y.apart).0 (omega (arith, filled, q.is, q.now)) in
      let t : List ℕ = aim_at (node_ops θ) (word_store f θ) u p m in
      let sizes = others_sizes u t z.4 in
      ends t m y.numbers ps z.1 (sizes.theta ∙ k.sizes_same.theta ∙ y.theta)
      (sizes.capacity ∙ k.sizes_same.capacity ∙ y.capacity) z.3 (page_others f u t ps k.sized z.1 z.4 pages_u)
      (subst (λ ps. Sound f θ key t 0 ps m) (sym e) z.0) (omega (arith, ap length e))
      (rooted_then s u t rooted z.2) low
      (others_pages f u t m z.4 ∙ take_same f C s m (it ∷ []) y.sized low room y.capacity one
      ∙ ap (λ xs. page_image f C (insert key_of it xs)) (sym none))

  -- there is a page for a null entry
  null_some : w.page ≡ 0 → (p : Place) (path : List Place) → w.path ≡ p ∷ path
      → Ends f it (aim_at (node_ops θ) (word_store f θ) (put_items f C (page_taken f s) (next_page s) (it ∷ [])) p (next_page s))
  unfolding pages_at
  null_some null p path e =
      go y.page_numbers y.pages (omega (arith, y.page_enough, ap (pages_at C) (null_items f θ C key 0 w y null)))
    where
      go : (ps : List ℕ) → PageSupply f s ps → 1 ≤ length ps
          → Ends f it (aim_at (node_ops θ) (word_store f θ) (put_items f C (page_taken f s) (next_page s) (it ∷ [])) p (next_page s))
      go [] v l = absurd (omega arith)
      go (n ∷ ps) v l = null_ends null n ps v p path e

  pub placed_ends : Ends f it (placed f θ C it w)
  placed_ends = go w.path refl y.led
    where
      go : (ps : List Place) → w.path ≡ ps → Led w.words ps → Ends f it (placed f θ C it w)
      go [] e led = absurd led
      go (p ∷ path) e led =
          elim (ℕ_discrete w.page 0) [
            | yes null ↦
                subst (Ends f it)
                (sym (place_null θ C f it w null
                ∙ ap (λ ps. aim_at (node_ops θ) (word_store f θ) (put_items f C (page_taken f s) (next_page s) (it ∷ [])) (get_or ps 0 no_place)
                (next_page s)) e))
                (null_some null p path e)
            | no some ↦ subst (Ends f it) (sym (place_some θ C f it w some)) (put_ends some (omega (arith, ap length e)))
          ]
