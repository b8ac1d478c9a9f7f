-- What the rounds of a way and the put write, on any words. Each is a step on pages and then one on nodes. What a later one writes, the
-- first may write, or it is new: so all together write only where the first may.
--   Rooted s t       == the words t have the root and the levels of s
--   Paged f s t page == t is s with only this page and new ones written
--   Parts f s p q    == q is the page p of s halved: nothing else is written, and each half is null, p or new
--   From w t         == t is the words of the way w, written only at its path, its page, the node behind, and new blocks
use mathlib.Core.Path.{◌≡◌, refl, sym, ap, ◌∙◌, subst}
use mathlib.Core.Bool.{Bool, true, false}
use mathlib.Core.List.{List, [], ◌∷◌}
use Prim.Native.Nat.{ℕ, zero, suc, ◌+◌, ◌-◌, ◌≤◌}
use native.Mathlib.Omega.{arith}
use native.Mathlib.Decide.{ℕ_discrete}
use lib.ListN.{length, get_or, set}
use Rattle.lists.specs.Bits.{bit, bits}
use Rattle.lists.specs.Keyed.{insert}
use Rattle.lists.proofs.KeyedLaws.{length_insert}
use Rattle.tree.specs.Build.{side, pages_at}
use Rattle.tree.proofs.BuildLaws.{length_sides}
use Rattle.store.specs.declared.Format.{Format}
use Rattle.store.specs.declared.Item.{Item}
use Rattle.store.specs.Format.{width}
use Rattle.store.specs.Head.{head_of, node_words}
use Rattle.node.specs.Node.{forward_word}
use Rattle.page.specs.Schema.{key_of}
use Rattle.represent.specs.Rep.{Sized}
use Rattle.split.specs.Frame.{node_of, page_of}
use Rattle.split.specs.Round.{Place, round, aim_at, Climbed}
use Rattle.split.specs.Insertion.{SameSizes, word_store, put_items}
use Rattle.split.specs.Block.{aim, node_ops}
use Rattle.split.proofs.Frame.{page_taken_sizes, page_taken_sized, page_taken_root, page_taken_levels}
use Rattle.store.specs.Released.{next_page, page_taken}
use Rattle.represent.specs.Labelled.{count as counted}
use Rattle.represent.proofs.LabelLaws.{ind_eq}
use Rattle.insert.proofs.PageSupplies.{page_next_lem}
use Rattle.split.proofs.Kept.{Kept, same_head_lem}
use Rattle.split.proofs.PageLaws.{put_head_lem, put_other, take_other}
use Rattle.split.proofs.WordStore.{others_pages, others_pages_taken}
use Rattle.insert.specs.Enter.{Way, Parted, no_place, parted, round_of, rounds_of, placed}
use Rattle.insert.specs.Fine.{Off, Led, Supply, PageSupply, Clear, behind_in, Fine}
use Rattle.insert.specs.Frame.{Framed}
use Rattle.insert.proofs.PlaceLaws.{place_null, place_some}
use Rattle.insert.proofs.InsideWrites.{put_now, length_aim}
use Rattle.insert.proofs.InsideWay.{items_kept, items_nodes, items_taken, take_kept, take_nodes, take_taken, take_pages, take_supply, Halved}
use Rattle.insert.proofs.InsideWay.{positive, page_step, theta_q, led_q, supply_q, far_q, room_q, round_on, round_full, null_page}
use Rattle.insert.proofs.InsideWay.{one_page, round_kept, room_at_last, null_items}
use Rattle.insert.proofs.FrameRound.{Noded, noded_none, now_noded, Onward, round_noded}

-- paths
led_behind : (s : List ℕ) (path : List Place) → Led s path → behind_in s path ≤ (head_of s).nodes_taken
led_behind s [] led = absurd led
led_behind s (p ∷ path) led = led.4

-- a word written twice
set_again : (ws : List ℕ) (i a b : ℕ) → set (set ws i a) i b ≡ set ws i b
set_again [] i a b = refl
set_again (x ∷ ws) zero a b = refl
set_again (x ∷ ws) (suc i) a b = ap (λ l. x ∷ l) (set_again ws i a b)

-- the root and the levels, where pages are written
pub record Rooted (s t : List ℕ) : Type 0 where
  pub root : (head_of t).root ≡ (head_of s).root
  pub levels : (head_of t).levels ≡ (head_of s).levels

pub rooted_head : (s t : List ℕ) → head_of t ≡ head_of s → Rooted s t
rooted_head s t e = record { root = ap (λ h. h.root) e; levels = ap (λ h. h.levels) e }

pub rooted_then : (s t v : List ℕ) → Rooted s t → Rooted t v → Rooted s v
rooted_then s t v a b = record { root = b.root ∙ a.root; levels = b.levels ∙ a.levels }

pub take_rooted : (f : Format) (C : ℕ) (s : List ℕ) (p : ℕ) (rs : List Item) → Sized f s → 1 ≤ p → p ≤ (head_of s).page_blocks
    → (head_of s).capacity ≡ C → length rs ≤ C → Rooted s (put_items f C (page_taken f s) p rs)
take_rooted f C s p rs ok low high full fits =
    let k = page_taken_sizes f s in
    rooted_then s (page_taken f s) _
    (record { root = page_taken_root f s; levels = page_taken_levels f s })
    (rooted_head (page_taken f s) _
    (put_head_lem f C (page_taken f s) p rs (page_taken_sized f s ok) low (omega (arith, k.pages)) (k.capacity ∙ full) fits))

-- pages written
pub record Paged (f : Format) (s t : List ℕ) (page : ℕ) (ps : List ℕ) : Type 0 where
  sizes : SameSizes (head_of s) (head_of t)
  pub rooted : Rooted s t
  taken : (head_of t).nodes_taken ≡ (head_of s).nodes_taken
  nodes : (x : ℕ) → 1 ≤ x → x ≤ (head_of s).node_blocks → node_of t x ≡ node_of s x
  pub low : (head_of s).pages_taken ≤ (head_of t).pages_taken
  high : (head_of t).pages_taken ≤ (head_of s).page_blocks
  pages : (p : ℕ) → 1 ≤ p → counted p ps ≡ 0 → (p ≡ page → ⊥) → page_of f t p ≡ page_of f s p

paged_none : (f : Format) (s : List ℕ) (page : ℕ) (ps : List ℕ) → (head_of s).pages_taken ≤ (head_of s).page_blocks → Paged f s s page ps
paged_none f s page ps fits =
    record {
      sizes = same_head_lem (head_of s) (head_of s) refl;
      rooted = rooted_head s s refl;
      taken = refl;
      nodes = λ x l h. refl;
      low = omega arith;
      high = fits;
      pages = λ p l d far. refl;
    }

module _ (f : Format) (C : ℕ) (s : List ℕ) (rs : List Item) (ok : Sized f s) (full : (head_of s).capacity ≡ C) (fits : length rs ≤ C) where
  -- records put into a page, and into one that is taken for them
  items_paged : (p : ℕ) (ps : List ℕ) → 1 ≤ p → p ≤ (head_of s).page_blocks → (head_of s).pages_taken ≤ (head_of s).page_blocks
      → Paged f s (put_items f C s p rs) p ps
  items_paged p ps low high room =
      let head = put_head_lem f C s p rs ok low high full fits in
      let e = ap (λ h. h.pages_taken) head in
      record {
        sizes = (items_kept f C s p rs ok low high full fits).sizes_same;
        rooted = rooted_head s _ head;
        taken = items_taken f C s p rs ok low high full fits;
        nodes = items_nodes f C s p rs ok low high full fits;
        low = omega (arith, e);
        high = omega (arith, e);
        pages = λ x l d far. put_other f C s p rs ok low high full fits x l far;
      }

  take_paged : (page n : ℕ) (ps : List ℕ) → PageSupply f s (n ∷ ps)
      → Paged f s (put_items f C (page_taken f s) (next_page s) rs) page (n ∷ ps)
  take_paged page n ps y =
      let m : ℕ = next_page s in
      let q = page_next_lem f s n ps ok y in
      let low : 1 ≤ m = omega (arith, q.is, q.low) in
      let room : m ≤ (head_of s).page_blocks = omega (arith, q.is, q.high) in
      let e = take_pages f C s m rs ok low room full fits in
      record {
        sizes = (take_kept f C s m rs ok low room full fits).sizes_same;
        rooted = take_rooted f C s m rs ok low room full fits;
        taken = take_taken f C s m rs ok low room full fits;
        nodes = take_nodes f C s m rs ok low room full fits;
        low = omega (arith, e, q.more);
        high = omega (arith, e, q.left.fits, (page_taken_sizes f s).pages);
        pages = λ x l d far. take_other f C s m rs ok low room full fits x l (λ i. omega (arith, d, ind_eq x n (i ∙ q.is)));
      }

-- a page halved
pub record Parts (f : Format) (s : List ℕ) (p : ℕ) (ps : List ℕ) (q : Parted) : Type 0 where
  pub paged : Paged f s q.words p ps
  left_old : (x : ℕ) → 1 ≤ x → counted x ps ≡ 0 → (x ≡ p → ⊥) → x ≡ q.left → ⊥
  right_old : (x : ℕ) → 1 ≤ x → counted x ps ≡ 0 → (x ≡ p → ⊥) → x ≡ q.right → ⊥

pub parts : (f : Format) (C : ℕ) (s : List ℕ) (p : ℕ) (ps : List ℕ) (low high : List Item) → Sized f s → (head_of s).capacity ≡ C → 1 ≤ p
    → p ≤ (head_of s).pages_taken → PageSupply f s ps → 1 ≤ length ps
    → length low + length high ≡ C → Halved f C s ps low high (parted f C s p low high)
    → Parts f s p ps (parted f C s p low high)
unfolding parted
parts f C s p ps [] high ok full one within y room sum z =
    record {
      paged = paged_none f s p ps y.fits;
      left_old = λ x l h far i. omega arith;
      right_old = λ x l h far i. far i;
    }
parts f C s p ps (x ∷ xs) [] ok full one within y room sum z =
    record {
      paged = paged_none f s p ps y.fits;
      left_old = λ x l h far i. far i;
      right_old = λ x l h far i. omega arith;
    }
parts f C s p [] (x ∷ xs) (y ∷ ys) ok full one within v room sum z = absurd (omega arith)
parts f C s p (g ∷ ps) (x ∷ xs) (y ∷ ys) ok full one within v room sum z =
    let m : ℕ = next_page s in
    let q = page_next_lem f s g ps ok v in
    let low_m : 1 ≤ m = omega (arith, q.is, q.low) in
    let not_m : (i : ℕ) → counted i (g ∷ ps) ≡ 0 → i ≡ m → ⊥ = λ i d e. omega (arith, d, ind_eq i g (e ∙ q.is)) in
    let fits₀ : length (x ∷ xs) ≤ C = omega arith in
    let high : p ≤ (head_of s).page_blocks = omega (arith, v.fits) in
    let t : List ℕ = put_items f C (page_taken f s) p (x ∷ xs) in
    let k : Kept f s t = take_kept f C s p (x ∷ xs) ok one high full fits₀ in
    let room₁ : m ≤ (head_of t).page_blocks = omega (arith, k.sizes_same.pages, q.is, q.high) in
    let full₁ : (head_of t).capacity ≡ C = k.sizes_same.capacity ∙ full in
    record {
      paged = record {
        sizes = z.kept.sizes_same;
        rooted =
            rooted_then s t _ (take_rooted f C s p (x ∷ xs) ok one high full fits₀)
            (rooted_head t _ (put_head_lem f C t m (y ∷ ys) k.sized low_m room₁ full₁ (omega arith)));
        taken = z.taken;
        nodes = z.nodes;
        low = z.more;
        high = omega (arith, z.pages.fits, z.kept.sizes_same.pages);
        pages = λ n l d far.
            put_other f C t m (y ∷ ys) k.sized low_m room₁ full₁ (omega arith) n l (not_m n d)
            ∙ take_other f C s p (x ∷ xs) ok one high full fits₀ n l far;
      };
      left_old = λ n l h far i. far i;
      right_old = λ n l h far i. not_m n h i;
    }

module _ (f : Format) where
  -- a step on pages, and then one on nodes
  both_framed : (s t u : List ℕ) (path : List Place) (page behind : ℕ) (ns ps : List ℕ) → Paged f s t page ps → Noded t u path behind ns
      → behind ≤ (head_of s).node_blocks → Framed f s u path page behind ns ps
  both_framed s t u path page behind ns ps a b inside =
      let e : (head_of u).pages_taken ≡ (head_of t).pages_taken = others_pages_taken t u b.others_same in
      record {
        nodes_low = omega (arith, a.taken, b.low);
        nodes_high = omega (arith, b.high, a.sizes.nodes);
        pages_low = omega (arith, a.low, e);
        pages_high = omega (arith, a.high, e);
        node_same = λ x low high d off far. b.node_same x low d off far ∙ a.nodes x low high;
        behind_same = λ low.
            let z = b.behind_same low in (z.0, z.1 ∙ ap (λ ws. set ws 2 z.0) (a.nodes behind low inside));
        page_same = λ p low high d far. others_pages f t u p b.others_same ∙ a.pages p low d far;
      }

  -- fewer blocks newly taken
  pub framed_more : (s t : List ℕ) (path : List Place) (page behind : ℕ) (ns ps ns' ps' : List ℕ)
      → ((x : ℕ) → counted x ns ≤ counted x ns') → ((x : ℕ) → counted x ps ≤ counted x ps')
      → Framed f s t path page behind ns ps → Framed f s t path page behind ns' ps'
  framed_more s t path page behind ns ps ns' ps' g g' a =
      record {
        nodes_low = a.nodes_low;
        nodes_high = a.nodes_high;
        pages_low = a.pages_low;
        pages_high = a.pages_high;
        node_same = λ x low high d. a.node_same x low high (omega (arith, g x));
        behind_same = a.behind_same;
        page_same = λ p low high d. a.page_same p low high (omega (arith, g' p));
      }

  -- one step after another
  module _ (s t u : List ℕ) (path path' : List Place) (page page' : ℕ) (ns ps : List ℕ) (sizes : SameSizes (head_of s) (head_of t))
      (led : Led s path)
      (off : Off (behind_in s path) path) (fresh : counted (behind_in s path) ns ≡ 0) (on : Onward s t path path' ns)
      (page_old : (x : ℕ) → 1 ≤ x → counted x ps ≡ 0 → (x ≡ page → ⊥) → x ≡ page' → ⊥)
      (a : Framed f s t path page (behind_in s path) ns ps) (b : Framed f t u path' page' (behind_in t path') ns ps) where
    abbrev q : ℕ
    q = behind_in s path

    node_then : (x : ℕ) → 1 ≤ x → x ≤ (head_of s).node_blocks → counted x ns ≡ 0 → Off x path
        → (x ≡ q → ⊥) → node_of u x ≡ node_of s x
    node_then x low high h off_x far =
        b.node_same x low (omega (arith, sizes.nodes)) h (on.path_old x h off_x) (on.behind_old x h far)
        ∙ a.node_same x low high h off_x far

    behind_then : 1 ≤ q → (c : ℕ) × (node_of u q ≡ set (node_of s q) 2 c)
    behind_then low =
        let z = a.behind_same low in
        let in_s : q ≤ (head_of s).nodes_taken = led_behind s path led in
        elim (ℕ_discrete q (behind_in t path')) [
          | yes e ↦
              let y =
              subst (λ n. (c : ℕ) × (node_of u n ≡ set (node_of t n) 2 c)) (sym e) (b.behind_same (omega (arith, e))) in
              (y.0, y.1 ∙ ap (λ ws. set ws 2 y.0) z.1 ∙ set_again (node_of s q) 2 z.0 y.0)
          | no e ↦ (
            z.0,
            b.node_same q low (omega (arith, in_s, a.nodes_low, a.nodes_high, sizes.nodes)) fresh
                (on.path_old q fresh off) e
                ∙ z.1,
          )
        ]

    page_then : (p : ℕ) → 1 ≤ p → p ≤ (head_of s).page_blocks → counted p ps ≡ 0 → (p ≡ page → ⊥)
        → page_of f u p ≡ page_of f s p
    page_then p low high h far =
        b.page_same p low (omega (arith, sizes.pages)) h (page_old p low h far)
        ∙ a.page_same p low high h far

    framed_then : Framed f s u path page q ns ps
    framed_then =
        record {
          nodes_low = omega (arith, a.nodes_low, b.nodes_low);
          nodes_high = omega (arith, b.nodes_high, sizes.nodes);
          pages_low = omega (arith, a.pages_low, b.pages_low);
          pages_high = omega (arith, b.pages_high, sizes.pages);
          node_same = node_then;
          behind_same = behind_then;
          page_same = page_then;
        }

  -- the node behind, where nodes stay
  behind_stays : (s t : List ℕ) (path : List Place) (page : ℕ) (ps : List ℕ) → (head_of s).nodes_taken ≤ (head_of s).node_blocks → Led s path
      → Paged f s t page ps
      → behind_in t path ≡ behind_in s path
  behind_stays s t [] page ps fits led z = absurd led
  behind_stays s t (p ∷ path) page ps fits led z = ap (λ ws. forward_word ws 0) (z.nodes p.at led.0 (omega (arith, led.1)))

module _ (f : Format) (θ C k : ℕ) where
  abbrev pub From : List ℕ → List ℕ → Way → List ℕ → Type 0
  From ns ps w t = Framed f w.words t w.path w.page (behind_in w.words w.path) ns ps

  -- one round, and what is written after it
  module _ (d : ℕ) (w : Way) (y : Fine f θ C k (suc d) w) (off : Off (behind_in w.words w.path) w.path) where
    abbrev s : List ℕ
    s = w.words

    abbrev b : ℕ
    b = width f - suc w.used

    full : length w.items ≡ C
    full = round_full f θ C k d w y

    abbrev parted_now : Parted
    parted_now = parted f C s w.page (side key_of false b w.items) (side key_of true b w.items)

    abbrev t : List ℕ
    t = parted_now.words

    abbrev r : Climbed (List ℕ)
    r = round (node_ops θ) (word_store f θ) θ (bits (width f) k) t w.path parted_now.left parted_now.right

    pub halves : Parts f s w.page y.page_numbers parted_now
    halves =
        parts f C s w.page y.page_numbers (side key_of false b w.items) (side key_of true b w.items) y.sized y.capacity
        (y.some (omega (arith, full, positive f θ C k (suc d) w y))) y.page_in y.pages
        (omega (arith, y.page_enough, one_page f θ C k d w y full))
        (omega (arith, full, length_sides key_of b w.items)) (page_step f θ C k d w y full)

    pub stays : behind_in t w.path ≡ behind_in s w.path
    stays = behind_stays f s t w.path w.page y.page_numbers y.nodes.fits y.led halves.paged

    turns : Noded t r.store w.path (behind_in t w.path) y.numbers × Onward t r.store w.path r.path y.numbers
    turns =
        round_noded f θ (bits (width f) k) w.path t parted_now.left parted_now.right y.numbers
        (page_step f θ C k d w y full).kept.sized (theta_q f θ C k d w y full) (led_q f θ C k d w y full) (supply_q f θ C k d w y full)
        y.clear (far_q f θ C k d w y full) (room_q f θ C k d w y full)
        (subst (λ n. Off n w.path) (sym stays) off)

    onward : Onward s r.store w.path r.path y.numbers
    onward =
        record {
          path_old = turns.1.path_old;
          behind_old = λ x h far. turns.1.behind_old x h (λ e. far (e ∙ stays));
          off = turns.1.off;
        }

    pub round_off : Off (behind_in (round_of f θ C k w).words (round_of f θ C k w).path) (round_of f θ C k w).path
    unfolding round_of
    round_off = onward.off

    round_framed : From y.numbers y.page_numbers w r.store
    round_framed =
        both_framed f s t r.store w.path w.page (behind_in s w.path) y.numbers y.page_numbers halves.paged
        (subst (λ n. Noded t r.store w.path n y.numbers) stays turns.0)
        (omega (arith, led_behind s w.path y.led, y.nodes.fits))

    page_old : (x : ℕ) → 1 ≤ x → counted x y.page_numbers ≡ 0 → (x ≡ w.page → ⊥)
        → x ≡ elim (bit b k) [ true ↦ parted_now.right | false ↦ parted_now.left ] → ⊥
    page_old x low high far = go (bit b k)
      where
        go : (c : Bool) → x ≡ elim c [ true ↦ parted_now.right | false ↦ parted_now.left ] → ⊥
        go true = halves.right_old x low high far
        go false = halves.left_old x low high far

    round_then : (u : List ℕ) → From y.numbers y.page_numbers (round_of f θ C k w) u → From y.numbers y.page_numbers w u
    unfolding round_of
    round_then u z =
        framed_then f s r.store u w.path r.path w.page _ y.numbers y.page_numbers
        (round_kept f θ C k d w y full).sizes_same y.led off y.behind onward page_old round_framed z

  -- the put
  module _ (it : Item) (w : Way) (y : Fine f θ C k 0 w) where
    null_framed : w.page ≡ 0 → (ps : List ℕ) → PageSupply f w.words ps → 1 ≤ length ps → (path : List Place) → Led w.words path
        → Off (behind_in w.words path) path → Clear y.numbers path → counted (behind_in w.words path) y.numbers ≡ 0
        → Framed f w.words
        (aim_at (node_ops θ) (word_store f θ) (put_items f C (page_taken f w.words) (next_page w.words) (it ∷ []))
        (get_or path 0 no_place) (next_page w.words))
        path w.page (behind_in w.words path) y.numbers ps
    unfolding aim_at
    null_framed e ps v l [] led off clear far = absurd led
    null_framed e [] v l (p ∷ path) led off clear far = absurd (omega arith)
    null_framed e (n ∷ ps) v l (p ∷ path) led off clear far =
        let s : List ℕ = w.words in
        let m : ℕ = next_page s in
        let room = null_page f θ C k it w y e in
        let one : length (it ∷ []) ≤ C = positive f θ C k 0 w y in
        let t : List ℕ = put_items f C (page_taken f s) m (it ∷ []) in
        let kept : Kept f s t = take_kept f C s m (it ∷ []) y.sized room.0 room.1 y.capacity one in
        let z : Paged f s t w.page (n ∷ ps) = take_paged f C s (it ∷ []) y.sized y.capacity one w.page n ps v in
        let supply : Supply t y.numbers =
        take_supply f C s m (it ∷ []) y.sized room.0 room.1 y.capacity one y.numbers y.nodes in
        let ws : List ℕ = aim θ (node_of t p.at) p.bits m in
        let same : length ws ≡ node_words (head_of t).theta =
        length_aim θ (node_of t p.at) p.bits m ∙ ap node_words (sym (kept.sizes_same.theta ∙ y.theta)) in
        let now =
        put_now f θ t p path ws y.numbers kept.sized (led.0, omega (arith, led.1, y.nodes.fits, z.sizes.nodes)) same clear.0
        supply in
        both_framed f s t _ (p ∷ path) w.page (behind_in s (p ∷ path)) y.numbers (n ∷ ps) z
        (now_noded f t _ y.numbers 0 (p ∷ path) (behind_in s (p ∷ path)) now far off)
        (omega (arith, led.4, y.nodes.fits))

    some_framed : (w.page ≡ 0 → ⊥) → From y.numbers y.page_numbers w (put_items f C w.words w.page (insert key_of it w.items))
    some_framed e =
        let s : List ℕ = w.words in
        let rs : List Item = insert key_of it w.items in
        let fits : length rs ≤ C = omega (arith, length_insert key_of it w.items, room_at_last f θ C k w y) in
        let z : Paged f s (put_items f C s w.page rs) w.page y.page_numbers =
        items_paged f C s rs y.sized y.capacity fits w.page y.page_numbers (omega arith)
        (omega (arith, y.page_in, y.pages.fits)) y.pages.fits in
        both_framed f s _ _ w.path w.page (behind_in s w.path) y.numbers y.page_numbers z
        (noded_none _ w.path (behind_in s w.path) y.numbers (omega (arith, y.nodes.fits, z.taken, z.sizes.nodes)))
        (omega (arith, led_behind s w.path y.led, y.nodes.fits))

    put_framed : Off (behind_in w.words w.path) w.path → From y.numbers y.page_numbers w (placed f θ C it w)
    unfolding pages_at
    put_framed off =
        elim (ℕ_discrete w.page 0) [
          | yes e ↦
              subst (From y.numbers y.page_numbers w) (sym (place_null θ C f it w e))
              (null_framed e y.page_numbers y.pages (omega (arith, y.page_enough, ap (pages_at C) (null_items f θ C k 0 w y e)))
              w.path y.led off y.clear y.behind)
          | no e ↦ subst (From y.numbers y.page_numbers w) (sym (place_some θ C f it w e)) (some_framed e)
        ]

  -- all rounds and the put
  pub way_framed : (it : Item) (d : ℕ) (w : Way) (y : Fine f θ C k d w) → Off (behind_in w.words w.path) w.path
      → From y.numbers y.page_numbers w (placed f θ C it (rounds_of f θ C k d w))
  way_framed it zero w y off = put_framed it w y off
  way_framed it (suc d) w y off =
      let on = round_on f θ C k d w y (round_full f θ C k d w y) in
      round_then d w y off _
      (framed_more f _ _ _ _ _ _ _ _ _ on.1 on.2 (way_framed it d (round_of f θ C k w) on.0 (round_off d w y off)))
