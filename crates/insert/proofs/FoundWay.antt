-- The key's way in the words stays a right one, on any words: after each round the path is sound and leads to the key's page, and the
-- levels stay within L. A root splits only where every run of the path is at θ, so the levels times θ are bits used; and a full page with
-- the new key leaves more than log2 C bits.
--   Right f θ C it w == these facts of a way
use mathlib.Core.Path.{◌≡◌, refl, sym, ap, ◌∙◌, subst}
use mathlib.Core.Bool.{Bool, true, false}
use mathlib.Core.List.{List, [], ◌∷◌}
use mathlib.Core.Logic.{◌⊎◌, inl, inr}
use Prim.Native.Nat.{ℕ, zero, suc, ◌+◌, ◌-◌, ◌*◌, ◌/◌, ◌^◌, ◌≤◌, ◌<◌}
use native.Mathlib.Nat.{suc-mul, le-div_iff_mul-le}
use native.Mathlib.Omega.{arith}
use native.Mathlib.Decide.{dec_lt}
use lib.ListN.{length}
use Rattle.lists.specs.Bits.{bit, bits}
use Rattle.lists.specs.Lists.{All}
use Rattle.lists.specs.Keyed.{insert}
use Rattle.lists.proofs.KeyedLaws.{length_insert, all_insert, sorted_insert}
use Rattle.lists.proofs.ListLaws.{all_map}
use Rattle.tree.specs.Trie.{Key}
use Rattle.tree.specs.Build.{side}
use Rattle.tree.specs.Book.{log2, level_bound}
use Rattle.tree.proofs.LevelLaws.{bits_left}
use Rattle.store.specs.declared.Format.{Format}
use Rattle.store.specs.declared.Item.{Item}
use Rattle.store.specs.Format.{width}
use Rattle.store.specs.Head.{head_of}
use Rattle.page.specs.Schema.{key_of}
use Rattle.split.specs.Frame.{node_of}
use Rattle.split.specs.Round.{Place, Climbed, chosen, round}
use Rattle.split.specs.Insertion.{word_store}
use Rattle.split.specs.Block.{node_ops}
use Rattle.insert.specs.Enter.{Way, Parted, parted, round_of, rounds_of}
use Rattle.insert.specs.Fine.{behind_in, Off, Led, Fine, depths, sum}
use Rattle.represent.specs.Labelled.{behind}
use Rattle.insert.proofs.Turned.{turned, turned_slack, turned_full}
use Rattle.insert.proofs.InsideWay.{Halved, bit_left, positive, page_step, positive_theta, theta_q, supply_q, far_q, room_q}
use Rattle.insert.proofs.InsideWay.{turn, round_fine, round_full}
use Rattle.insert.proofs.FoundPath.{More, Sound, sound_moved, sound_among, sound_levels}
use Rattle.insert.proofs.FoundClimb.{Climbs, reached_by}
use Rattle.insert.proofs.FrameWay.{Paged, halves, stays, round_off}
use Rattle.insert.proofs.FoundRound.{round_sound}

-- a level more only where every run is at θ
turned_grows : (θ : ℕ) (k : Key) (ns : List ℕ) (path : List Place)
    → (length (turned θ k ns path) ≡ length path)
    ⊎ ((length (turned θ k ns path) ≡ suc (length path)) × (length path * θ ≤ sum (depths path)))
unfolding turned
turned_grows θ k ns [] = inr (refl, omega arith)
turned_grows θ k ns (p ∷ path) =
    elim (dec_lt p.depth θ) [
      | yes h ↦ inl (ap length (turned_slack θ k ns p path h))
      | no h ↦
          let e = ap length (turned_full θ k ns p path (omega arith)) in
          elim (turned_grows θ k (behind ns) path) [
            | inl g ↦ inl (e ∙ ap suc g)
            | inr g ↦ inr (e ∙ ap suc g.0, omega (arith, g.1, suc-mul (length path) θ))
          ]
    ]

chosen_page : (c : Bool) (k : Key) (l r : ℕ) → chosen (c ∷ k) l r ≡ elim c [ true ↦ r | false ↦ l ]
chosen_page true k l r = refl
chosen_page false k l r = refl

led_some : (s : List ℕ) (path : List Place) → Led s path → 1 ≤ length path
led_some s [] led = absurd led
led_some s (p ∷ path) led = omega arith

module _ (f : Format) (θ C : ℕ) (it : Item) where
  abbrev key : ℕ
  key = it.key

  pub record Right (w : Way) : Type 0 where
    pub sound : Sound f θ key w.words 0 w.path w.page
    pub behind : Off (behind_in w.words w.path) w.path
    pub used_is : sum (depths w.path) ≡ w.used
    pub levels_in : (head_of w.words).levels ≤ level_bound (width f) θ C

  module _ (d : ℕ) (w : Way) (y : Fine f θ C key (suc d) w) (full : length w.items ≡ C) (g : Right w) where
    abbrev s : List ℕ
    s = w.words

    abbrev b : ℕ
    b = width f - suc w.used

    abbrev low : List Item
    low = side key_of false b w.items

    abbrev high : List Item
    high = side key_of true b w.items

    abbrev q : Parted
    q = parted f C s w.page low high

    abbrev r : Climbed (List ℕ)
    r = round (node_ops θ) (word_store f θ) θ (bits (width f) key) q.words w.path q.left q.right

    abbrev t : List ℕ
    t = r.store

    -- the page halved
    step : Halved f C s y.page_numbers low high q
    step = page_step f θ C key d w y full

    pages : Paged f s q.words w.page y.page_numbers
    pages = (halves f θ C key d w y g.behind).paged

    more : More s q.words
    more = record { nodes = omega (arith, step.taken); pages = pages.low }

    same : All (λ p. node_of q.words p.at ≡ node_of s p.at) w.path
    same =
        all_map (λ p. (1 ≤ p.at) × (p.at ≤ (head_of s).nodes_taken)) (λ p. node_of q.words p.at ≡ node_of s p.at) w.path
        (λ p i. step.nodes p.at i.0 (omega (arith, i.1, y.nodes.fits))) (sound_among f θ key s 0 w.path w.page g.sound)

    left : suc b ≡ width f - w.used
    left = bit_left f θ C key (suc d) w y full

    some : 1 ≤ length w.path
    some = led_some s w.path y.led

    climbed : Climbs f θ key 0 w.path (reached_by f θ key w.path q.left q.right) r
    climbed =
        round_sound f θ key (positive_theta f θ C key d w y full) w.path q.words q.left q.right w.page
        y.numbers step.kept.sized (theta_q f θ C key d w y full) (supply_q f θ C key d w y full) y.clear
        (far_q f θ C key d w y full) (room_q f θ C key d w y full)
        (sound_moved f θ key s q.words 0 w.path w.page more pages.rooted.root pages.rooted.levels same g.sound) some
        y.apart (subst (λ n. Off n w.path) (sym (stays f θ C key d w y g.behind)) g.behind)
        (omega (arith, g.used_is, left)) step.left_in step.right_in

    page_is : reached_by f θ key w.path q.left q.right ≡ elim (bit b key) [ true ↦ q.right | false ↦ q.left ]
    page_is =
        let e : width f - sum (depths w.path) ≡ suc b = omega (arith, g.used_is, left) in
        ap (λ n. chosen (bits n key) q.left q.right) e ∙ chosen_page (bit b key) (bits b key) q.left q.right

    -- a full page and the new key leave more than log2 C bits
    bits_over : log2 C < width f - w.used
    bits_over =
        bits_left key_of C (positive f θ C key (suc d) w y) (width f - w.used) (key / 2 ^ (width f - w.used)) (insert key_of it w.items)
        (sorted_insert key_of it w.items y.new y.sorted)
        (all_insert key_of (λ x. x.key / 2 ^ (width f - w.used) ≡ key / 2 ^ (width f - w.used)) it w.items refl y.prefix)
        (omega (arith, length_insert key_of it w.items))

    levels_now : (head_of t).levels ≤ level_bound (width f) θ C
    unfolding level_bound
    levels_now =
        let way = (turn f θ C key d w y full).way in
        let now = sound_levels f θ key t 0 r.path _ climbed.sound in
        let old = sound_levels f θ key s 0 w.path w.page g.sound in
        elim (turned_grows θ (bits (width f) key) y.numbers w.path) [
          | inl e ↦ omega (arith, now, old, ap length way, e, g.levels_in)
          | inr e ↦
              let n : ℕ = length w.path in
              let h : suc n ≤ (width f - log2 C + (θ - 1)) / θ =
              (le-div_iff_mul-le (positive_theta f θ C key d w y full)).1
              (omega (arith, suc-mul n θ, e.1, g.used_is, bits_over, positive_theta f θ C key d w y full)) in
              omega (arith, now, ap length way, e.0)
        ]

    pub round_right : Right (round_of f θ C key w)
    unfolding round_of
    round_right =
        record {
          sound = subst (Sound f θ key t 0 r.path) page_is climbed.sound;
          behind = round_off f θ C key d w y g.behind;
          used_is = omega (arith, climbed.longer, g.used_is);
          levels_in = levels_now;
        }

  pub rounds_right : (d : ℕ) (w : Way) → Fine f θ C key d w → Right w → Right (rounds_of f θ C key d w)
  rounds_right zero w y g = g
  rounds_right (suc d) w y g =
      let full = round_full f θ C key d w y in
      rounds_right d (round_of f θ C key w) (round_fine f θ C key d w y full) (round_right d w y full g)
