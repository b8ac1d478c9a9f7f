-- The descent with the key goes down a sound path: each of its nodes keeps the rule of its level, and the entry that the key's bits number
-- is the trie's leaf at them. So the words at the end of a right way keep the head rule, and find gives the record.
use mathlib.Core.Path.{◌≡◌, refl, sym, ap, ap₂, ◌∙◌, subst}
use mathlib.Core.Bool.{true}
use mathlib.Core.List.{List, [], ◌∷◌}
use Prim.Native.Nat.{ℕ, zero, suc, ◌+◌, ◌-◌, ◌^◌, ◌≤◌, ◌<◌}
use native.Mathlib.Nat.{suc-sub-suc, sub-zero}
use native.Mathlib.Omega.{arith}
use lib.ListN.{length, get_or}
use borrow.Author.Tests.{le-leb, eq-eqb}
use Rattle.lists.specs.Bits.{index}
use Rattle.lists.proofs.BitLaws.{drop_bits}
use Rattle.tree.specs.Trie.{Trie, Key, height}
use Rattle.tree.specs.Node.{flatten}
use Rattle.tree.proofs.TrieLaws.{depth_le_height}
use Rattle.tree.proofs.NodePromises.{at_key}
use Rattle.store.specs.declared.Format.{Format}
use Rattle.store.specs.declared.Head.{Head}
use Rattle.store.specs.declared.Item.{Item}
use Rattle.store.specs.Format.{width}
use Rattle.store.specs.Head.{head_of, head_rule, node_start, page_at}
use Rattle.node.specs.Node.{back_word, forward_word, entry_of, link_rule, pointer_low, pointer_high, node_rule, entry_number}
use Rattle.node.proofs.NodeLaws.{link_1, link_above, low_1, low_above, high_1, high_above}
use Rattle.node.proofs.EntryNumber.{entry_index, entry_below}
use Rattle.page.proofs.Laws.{lawful_key}
use Rattle.page.specs.Page.{lawful_item}
use Rattle.search.specs.declared.Step.{Step}
use Rattle.search.specs.Way.{Descent}
use Rattle.search.specs.Way.{Record}
use Rattle.search.specs.Descent.{no_steps, step_taken, descend, descent}
use Rattle.search.specs.Find.{sound_page, checked, find_reply}
use Rattle.search.proofs.DescentLaws.{visit_entry, turn_on}
use Rattle.search.proofs.FindLaws.{sound_is, Led, find_sound, answered}
use Rattle.readings.proofs.PageFirst.{page_find}
use Rattle.represent.specs.Rep.{Sized}
use Rattle.represent.proofs.ImageLaws.{Shown, node_shown, node_back, node_forward}
use Rattle.represent.proofs.HeadPasses.{sized_head}
use Rattle.represent.proofs.Passes.{node_passes}
use Rattle.represent.proofs.PageImage.{page_passes, page_agrees}
use Rattle.split.specs.Frame.{node_of}
use Rattle.split.specs.Round.{Place}
use Rattle.insert.specs.Fine.{depths, sum}
use Rattle.insert.proofs.FoundPath.{Enters, LinksIn, Stands, Sound, sound_levels, sound_root}
use Rattle.insert.proofs.FoundPlace.{Ends}

module _ (f : Format) (key : ℕ) (t : List ℕ) (ok : Sized f t) (nodes_in : (head_of t).nodes_taken ≤ (head_of t).node_blocks) where
  abbrev h : Head
  h = head_of t

  -- pointers and links as the rules have them
  points_in : (l x : ℕ) → Enters t l x → (pointer_low (suc l) ≤ x) × (x ≤ pointer_high h (suc l))
  points_in zero x e = (omega (arith, low_1 1 refl), omega (arith, high_1 h 1 refl))
  points_in (suc l) x e = (
    omega (arith, e.0, low_above (suc (suc l)) (λ i. omega arith)),
    omega (arith, e.1, high_above h (suc (suc l)) (λ i. omega arith)),
  )

  links_in : (l b g : ℕ) → LinksIn t l b g → link_rule h (suc l) b g ≡ true
  links_in zero b g e =
      sym (link_1 h 1 b g true true refl (sym (le-leb b h.nodes_taken e.0)) (sym (le-leb g h.nodes_taken e.1)))
  links_in (suc l) b g e =
      sym (link_above h (suc (suc l)) b g true true (λ i. omega arith) (sym (eq-eqb b 0 e.0)) (sym (eq-eqb g 0 e.1)))

  module _ {l n : ℕ} {ks : Key} {d used next : ℕ} (y : Stands f h.theta key t l n ks d used next) where
    high : n ≤ h.node_blocks
    high = omega (arith, y.within.1)

    shown : Shown t (node_start h n) h.theta (suc l) y.trie
    shown = node_shown f t h n (suc l) y.trie y.within.0 high ok.long y.is

    stands_rule : node_rule h t (node_start h n) (suc l) ≡ true
    stands_rule =
        node_passes h t (node_start h n) (suc l) y.trie shown (λ x o. points_in l x (y.points x o))
        (subst (λ b. link_rule h (suc l) b (forward_word t (node_start h n)) ≡ true)
        (sym (node_back f t h n (suc l) y.trie y.within.0 high ok.long y.is))
        (subst (λ g. link_rule h (suc l) (back_word (node_of t n) 0) g ≡ true)
        (sym (node_forward f t h n (suc l) y.trie y.within.0 high ok.long y.is))
        (links_in l _ _ y.links)))

    -- the key's entry
    stands_entry : key < 2 ^ width f
        → entry_of t (node_start h n) (entry_number (width f) key used (height y.trie)) ≡ (d, next)
    stands_entry narrow =
        let v : Trie ℕ = y.trie in
        let H : ℕ = height v in
        shown.entry _ (entry_below (width f) key used H)
        ∙ ap (λ i. get_or (flatten H v 0) i (0, 0))
        (entry_index (width f) key used H y.room narrow
        ∙ ap (index H) (drop_bits (width f) used key (omega (arith, y.room)) ∙ sym y.bits_are))
        ∙ at_key H v ks (0, 0) (depth_le_height v ks)
        ∙ ap₂ (λ a b. (a, b)) y.depth_is y.next_is

    stands_turn : key < 2 ^ width f → (steps : List Step)
        → (more : List Step) × (descend f t h key (suc l) n used steps ≡ descend f t h key l next (used + d) more)
    stands_turn narrow steps =
        let H : ℕ = height y.trie in
        let i : ℕ = entry_number (width f) key used H in
        let at = stands_entry narrow in
        let v = visit_entry f t h key (suc l) n used H i d next stands_rule (sym shown.depth) y.room refl
        (sym (ap (λ x. x.0) at)) (sym (ap (λ x. x.1) at)) in
        let more : List Step = step_taken steps (suc l - 1) n used (record { ok = true; entry = i; depth = d; pointer = next }) in (
          more,
          sym (turn_on f t h key (suc l) n used steps _ v (omega arith) _ refl refl)
              ∙ ap (λ x. descend f t h key x next (used + d) more) (suc-sub-suc l 0 ∙ sub-zero l),
        )

  sound_descends : key < 2 ^ width f → (l : ℕ) (path : List Place) (next : ℕ) → Sound f h.theta key t l path next
      → (steps : List Step)
      × (descend f t h key h.levels h.root 0 no_steps ≡ descend f t h key l next (sum (depths path)) steps)
  sound_descends narrow l [] next y = (no_steps, ap₂ (λ i n. descend f t h key i n 0 no_steps) y.1 y.0)
  sound_descends narrow l (p ∷ path) next y =
      let a = sound_descends narrow (suc l) path p.at y.1 in
      let b = stands_turn y.0 narrow a.0 in
      let e : sum (depths path) + p.depth ≡ p.depth + sum (depths path) = omega arith in
      (b.0, a.1 ∙ b.1 ∙ ap (λ u. descend f t h key l next u b.0) e)

module _ (f : Format) (it : Item) (t : List ℕ) (y : Ends f it t) where
  first_in : (path : List Place) (next : ℕ) → 1 ≤ length path → Sound f (head_of t).theta it.key t 0 path next
      → (1 ≤ (head_of t).root) × ((head_of t).root ≤ (head_of t).nodes_taken)
  first_in [] next some z = absurd (omega arith)
  first_in (p ∷ path) next some z = sound_root f (head_of t).theta it.key t 1 path p.at z.1 z.0.within

  pub ends_head : head_rule f t ≡ true
  ends_head =
      let r = first_in y.path y.page y.some y.sound in
      let l = sound_levels f (head_of t).theta it.key t 0 y.path y.page y.sound in
      sized_head f t y.sized
      (record {
        taken_low = omega (arith, r.0, r.1);
        taken = y.nodes_in;
        filled = y.pages_in;
        root_low = r.0;
        root = r.1;
        levels_low = omega (arith, l, y.some);
        levels = y.levels_in;
      })
      y.chains

  ends_sound : sound_page f (head_of t) (page_at f t (head_of t) y.page) it.key (sum (depths y.path)) ≡ true
  ends_sound =
      let pg : List ℕ = page_at f t (head_of t) y.page in
      let C : ℕ = (head_of t).capacity in
      sym (sound_is f (head_of t) pg it.key (sum (depths y.path)) true true
      (sym (page_passes f C pg y.items y.image y.lawful y.filled y.fits y.sorted))
      (sym (page_agrees f C pg y.items y.image y.lawful it.key (sum (depths y.path)) y.prefix)))

  pub ends_found : lawful_item f it ≡ true → find_reply f t it.key ≡ record { number = 0; item = it }
  unfolding find_reply descent descend
  ends_found lawful =
      let k : ℕ = it.key in
      let pg : List ℕ = page_at f t (head_of t) y.page in
      let C : ℕ = (head_of t).capacity in
      let a = sound_descends f k t y.sized y.nodes_in (lawful_key f it lawful).1 0 y.path y.page y.sound in
      let d : Descent = record { ok = true; page = y.page; used = sum (depths y.path); steps = a.0 } in
      let led : Led f t (head_of t) k d pg =
      record { way = sym a.1; ok = refl; some = λ e. omega (arith, y.low); page = refl } in
      sym (answered f t (Record it) ends_head
      ∙ ap (λ x. checked f t x)
      (find_sound led ends_sound (sym (page_find f C pg y.items y.image y.lawful k y.sorted ∙ y.found))))
