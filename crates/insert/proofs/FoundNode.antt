-- A node block that keeps the rule of its level is the image of a trie, word by word, and its pointers and links are in range: so the node
-- of a step that the descent takes stands on a sound path.
--   NodeOk s l n == node n is the image of a trie at level l + 1, with pointers and links in range
use mathlib.Core.Path.{◌≡◌, refl, sym, ap, ap₂, ◌∙◌, subst}
use mathlib.Core.Bool.{true, false}
use mathlib.Core.List.{List, [], ◌∷◌}
use Prim.Native.Nat.{ℕ, zero, suc, ◌+◌, ◌-◌, ◌*◌, ◌/◌, ◌%◌, ◌^◌, ◌≤◌, ◌<◌}
use native.Mathlib.Omega.{arith}
use native.Mathlib.Decide.{dec_le, dec_lt, ℕ_discrete}
use lib.Dec.{leb, eqb}
use lib.ListN.{length, get_or}
use lib.Pow.{pow_mono}
use lib.Seq.{ext_get_or, take_all}
use borrow.Author.Tests.{leb-true, eqb-true, eq-eqb}
use Rattle.lists.specs.Bits.{bits, index}
use Rattle.lists.specs.Lists.{part, tab}
use Rattle.lists.proofs.BitLaws.{index_lt, drop_bits}
use Rattle.lists.proofs.Parts.{part_in_lem, length_part}
use Rattle.lists.proofs.Tests.{and_true, every_at, every_of, get_d_tab}
use Rattle.tree.specs.Trie.{Trie, leaf, fork, Key, height, leaf_at, depth}
use Rattle.tree.specs.Node.{flatten}
use Rattle.tree.proofs.TrieLaws.{depth_le_height}
use Rattle.tree.proofs.NodePromises.{at_key}
use Rattle.store.specs.declared.Format.{Format}
use Rattle.store.specs.declared.Head.{Head}
use Rattle.store.specs.Format.{width}
use Rattle.store.specs.Head.{word, zeros, head_of, node_words, node_start, node_at}
use Rattle.node.specs.Node.{depth_word, back_word, forward_word, entry_depth, entry_pointer, entry_of, link_rule, pointer_low}
use Rattle.node.specs.Node.{pointer_high, node_rule, entry_number}
use Rattle.node.proofs.NodeLaws.{link_1, link_above, low_above, high_1, high_above, node_facts}
use Rattle.node.proofs.RunWalk.{good_facts}
use Rattle.node.proofs.EntryNumber.{entry_index}
use Rattle.node.proofs.Promises.{node_is_trie}
use Rattle.represent.specs.Image.{node_image, NodeIs}
use Rattle.represent.specs.Labelled.{occ}
use Rattle.represent.specs.Rep.{Sized}
use Rattle.represent.proofs.ImageLaws.{Shown, image_shown}
use Rattle.represent.proofs.LabelLaws.{ind_other}
use Rattle.store.proofs.Places.{node_fits}
use Rattle.split.specs.Frame.{node_of}
use Rattle.split.proofs.Lengths.{length_node_image}
use Rattle.insert.proofs.InsideEnter.{node_word_lem}
use Rattle.insert.proofs.FoundPath.{Enters, LinksIn, Stands}

-- a label stands at a key
label_key : (v : Trie ℕ) (x : ℕ) → 1 ≤ occ x v → (k : Key) × (leaf_at v k ≡ x)
label_key (leaf y) x o =
    elim (ℕ_discrete x y) [
      | yes e ↦ ([], sym e)
      | no e ↦ absurd (omega (arith, ind_other x y e))
    ]
label_key (fork l r) x o =
    elim (dec_le 1 (occ x l)) [
      | yes h ↦ let w = label_key l x h in (false ∷ w.0, w.1)
      | no h ↦ let w = label_key r x (omega arith) in (true ∷ w.0, w.1)
    ]

-- two blocks with the entries of one trie have the same words, but for links
module _ (θ level : ℕ) (v : Trie ℕ) (ws vs : List ℕ) (a : Shown ws 0 θ level v) (b : Shown vs 0 θ level v) where
  same_past : (i : ℕ) → i < 2 * 2 ^ θ → word ws (4 + i) ≡ word vs (4 + i)
  unfolding zeros
  same_past i l =
      elim (dec_lt (i / 2) (2 ^ height v)) [
        | yes h ↦
            let e : entry_of ws 0 (i / 2) ≡ entry_of vs 0 (i / 2) = a.entry (i / 2) h ∙ sym (b.entry (i / 2) h) in
            elim (ℕ_discrete (i % 2) 0) [
              | yes z ↦
                  let g : 4 + i ≡ 0 + 4 + 2 * (i / 2) = omega arith in
                  ap (word ws) g ∙ ap (λ x. x.0) e ∙ ap (word vs) (sym g)
              | no z ↦
                  let g : 4 + i ≡ 0 + 5 + 2 * (i / 2) = omega arith in
                  ap (word ws) g ∙ ap (λ x. x.1) e ∙ ap (word vs) (sym g)
            ]
        | no h ↦
            let n : ℕ = 2 * (2 ^ θ - 2 ^ height v) in
            let j : ℕ = i - 2 * 2 ^ height v in
            let g : 4 + i ≡ 0 + 4 + 2 * 2 ^ height v + j = omega arith in
            let q : j < n = omega arith in
            ap (word ws) g
            ∙ eqb-true (word ws (0 + 4 + 2 * 2 ^ height v + j)) 0
            (every_at n (λ x. eqb (word ws (0 + 4 + 2 * 2 ^ height v + x)) 0) a.blank j q)
            ∙ sym (eqb-true (word vs (0 + 4 + 2 * 2 ^ height v + j)) 0
            (every_at n (λ x. eqb (word vs (0 + 4 + 2 * 2 ^ height v + x)) 0) b.blank j q))
            ∙ ap (word vs) (sym g)
      ]

  shown_same : length ws ≡ node_words θ → length vs ≡ node_words θ → back_word ws 0 ≡ back_word vs 0 → forward_word ws 0 ≡ forward_word vs 0
      → ws ≡ vs
  unfolding node_words
  shown_same long long' back forward = ext_get_or 0 ws vs (long ∙ sym long') at
    where
      at : (i : ℕ) → i < length ws → word ws i ≡ word vs i
      at zero h = a.depth ∙ sym b.depth
      at (suc zero) h = a.level_is ∙ sym b.level_is
      at (suc (suc zero)) h = back
      at (suc (suc (suc zero))) h = forward
      at (suc (suc (suc (suc i)))) h =
          let g : suc (suc (suc (suc i))) ≡ 4 + i = omega arith in
          ap (word ws) g ∙ same_past i (omega arith) ∙ ap (word vs) (sym g)

shown_is : (θ level : ℕ) (v : Trie ℕ) (ws : List ℕ) → Shown ws 0 θ level v → length ws ≡ node_words θ → NodeIs θ ws level v
unfolding node_image
shown_is θ level v ws a long =
    let back : ℕ = back_word ws 0 in
    let forward : ℕ = forward_word ws 0 in
    let vs : List ℕ = node_image θ level back forward v in
    let l : length vs ≡ node_words θ = length_node_image θ level back forward v a.low in
    let whole : part vs 0 (node_words θ) ≡ vs =
    part_in_lem vs 0 (node_words θ) (omega (arith, l)) ∙ take_all (node_words θ) vs (omega (arith, l)) in
    record {
      low = a.low;
      image = shown_same θ level v ws vs a (image_shown vs 0 θ level back forward v (omega (arith, l)) a.low whole) long l refl refl;
    }

module _ (f : Format) (s : List ℕ) (ok : Sized f s) (fits : (head_of s).nodes_taken ≤ (head_of s).node_blocks) where
  abbrev h : Head
  h = head_of s

  enters_of : (l x : ℕ) → (pointer_low (suc l) ≤ x) × (x ≤ pointer_high h (suc l)) → Enters s l x
  enters_of zero x w = omega (arith, w.1, high_1 h 1 refl)
  enters_of (suc l) x w = (
    omega (arith, w.0, low_above (suc (suc l)) (λ i. omega arith)),
    omega (arith, w.1, high_above h (suc (suc l)) (λ i. omega arith)),
  )

  links_of : (l b g : ℕ) → link_rule h (suc l) b g ≡ true → LinksIn s l b g
  links_of zero b g e =
      let w = and_true (leb b h.nodes_taken) (leb g h.nodes_taken) (link_1 h 1 b g _ _ refl refl refl ∙ e) in
      (leb-true b h.nodes_taken w.0, leb-true g h.nodes_taken w.1)
  links_of (suc l) b g e =
      let w = and_true (eqb b 0) (eqb g 0) (link_above h (suc (suc l)) b g _ _ (λ i. omega arith) refl refl ∙ e) in
      (eqb-true b 0 w.0, eqb-true g 0 w.1)

  pub record NodeOk (l n : ℕ) : Type 0 where
    pub trie : Trie ℕ
    pub is : NodeIs h.theta (node_of s n) (suc l) trie
    pub height_is : height trie ≡ depth_word s (node_start h n)
    pub entry : (ks : Key) → entry_of s (node_start h n) (index (height trie) ks) ≡ (depth trie ks, leaf_at trie ks)
    pub points : (x : ℕ) → 1 ≤ occ x trie → Enters s l x
    pub links : LinksIn s l (back_word (node_of s n) 0) (forward_word (node_of s n) 0)

  pub rule_node : (l n : ℕ) → (1 ≤ n) × (n ≤ h.nodes_taken) → node_rule h s (node_start h n) (suc l) ≡ true → NodeOk l n
  unfolding node_words zeros node_at
  rule_node l n within rule =
      let at : ℕ = node_start h n in
      let ws : List ℕ = node_of s n in
      let θ : ℕ = h.theta in
      let a = node_facts h s at (suc l) rule in
      let t = node_is_trie h s at (suc l) rule in
      let v : Trie ℕ = t.0 in
      let low : height v ≤ θ = omega (arith, t.1, a.depth) in
      let small : 2 ^ height v ≤ 2 ^ θ = pow_mono {i = height v} {j = θ} low in
      let first : at + 0 ≡ at = omega arith in
      let flat : flatten (height v) v 0 ≡ tab (2 ^ height v) (entry_of s at) =
      subst (λ H. flatten H v 0 ≡ tab (2 ^ H) (entry_of s at)) (sym t.1) t.2 in
      let in_place : (j : ℕ) → j < 2 ^ height v → entry_of s at j ≡ get_or (flatten (height v) v 0) j (0, 0) =
      λ j q. sym (ap (λ es. get_or es j (0, 0)) flat ∙ get_d_tab (2 ^ height v) (entry_of s at) j (0, 0) q) in
      let own_entry : (j : ℕ) → j < 2 ^ height v → entry_of ws 0 j ≡ entry_of s at j =
      λ j q.
      let d : at + (0 + 4 + 2 * j) ≡ at + 4 + 2 * j = omega arith in
      let p : at + (0 + 5 + 2 * j) ≡ at + 5 + 2 * j = omega arith in
      ap₂ (λ x y. (x, y)) (node_word_lem f s 0 ok fits n (0 + 4 + 2 * j) within.0 within.1 (omega arith) ∙ ap (word s) d)
      (node_word_lem f s 0 ok fits n (0 + 5 + 2 * j) within.0 within.1 (omega arith) ∙ ap (word s) p) in
      let here : (ks : Key) → entry_of s at (index (height v) ks) ≡ (depth v ks, leaf_at v ks) =
      λ ks. in_place (index (height v) ks) (index_lt (height v) ks) ∙ at_key (height v) v ks (0, 0) (depth_le_height v ks) in
      let tail : 2 * (2 ^ θ - 2 ^ height v) ≡ 2 * (2 ^ θ - 2 ^ depth_word s at) = ap (λ H. 2 * (2 ^ θ - 2 ^ H)) t.1 in
      let pows : 2 ^ height v ≡ 2 ^ depth_word s at = ap (λ H. 2 ^ H) t.1 in
      let shown : Shown ws 0 θ (suc l) v =
      record {
        low = low;
        depth = node_word_lem f s 0 ok fits n 0 within.0 within.1 (omega arith) ∙ ap (word s) first ∙ sym t.1;
        level_is = node_word_lem f s 0 ok fits n 1 within.0 within.1 (omega arith) ∙ a.level_is;
        entry = λ j q. own_entry j q ∙ in_place j q;
        blank = every_of (2 * (2 ^ θ - 2 ^ height v)) (λ j. eqb (word ws (0 + 4 + 2 * 2 ^ height v + j)) 0)
            (λ j q.
            let g : at + (0 + 4 + 2 * 2 ^ height v + j) ≡ at + 4 + 2 * 2 ^ depth_word s at + j = omega (arith, pows) in
            eq-eqb (word ws (0 + 4 + 2 * 2 ^ height v + j)) 0
            (node_word_lem f s 0 ok fits n (0 + 4 + 2 * 2 ^ height v + j) within.0 within.1 (omega (arith, small)) ∙ ap (word s) g
            ∙ eqb-true (word s (at + 4 + 2 * 2 ^ depth_word s at + j)) 0
            (every_at (2 * (2 ^ θ - 2 ^ depth_word s at)) (λ i. eqb (word s (at + 4 + 2 * 2 ^ depth_word s at + i)) 0) a.rest j
            (omega (arith, tail)))));
      } in
      record {
        trie = v;
        is =
            shown_is θ (suc l) v ws shown
            (length_part s at (node_words θ) (node_fits h f n (length s) within.0 (omega (arith, within.1)) ok.long));
        height_is = t.1;
        entry = here;
        points = λ x o.
            let k = label_key v x o in
            enters_of l x
            (subst (λ y. (pointer_low (suc l) ≤ y) × (y ≤ pointer_high h (suc l))) (ap (λ e. e.1) (here k.0) ∙ k.1)
            ((good_facts _ _ _ _ a.runs).pointers (index (height v) k.0)
            (subst (λ H. index (height v) k.0 < 2 ^ H) t.1 (index_lt (height v) k.0))));
        links =
            links_of l _ _
            (subst (λ b. link_rule h (suc l) b (forward_word ws 0) ≡ true)
            (sym (node_word_lem f s 0 ok fits n 2 within.0 within.1 (omega arith)))
            (subst (λ g. link_rule h (suc l) (back_word s at) g ≡ true)
            (sym (node_word_lem f s 0 ok fits n 3 within.0 within.1 (omega arith))) a.links));
      }

  -- a visited node
  pub rule_stands : (key l n used : ℕ) → key < 2 ^ width f → (1 ≤ n) × (n ≤ h.nodes_taken)
      → node_rule h s (node_start h n) (suc l) ≡ true → used + depth_word s (node_start h n) ≤ width f
      → (i : ℕ) → i ≡ entry_number (width f) key used (depth_word s (node_start h n))
      → Stands f h.theta key s l n (bits (width f - used) key) (entry_depth s (node_start h n) i) used (entry_pointer s (node_start h n) i)
  rule_stands key l n used narrow within rule room i e =
      let y = rule_node l n within rule in
      let ks : Key = bits (width f - used) key in
      let H : ℕ = depth_word s (node_start h n) in
      let number : i ≡ index (height y.trie) ks =
      e ∙ entry_index (width f) key used H room narrow
      ∙ ap (index H) (drop_bits (width f) used key (omega arith))
      ∙ ap (λ H. index H ks) (sym y.height_is) in
      let at : entry_of s (node_start h n) i ≡ (depth y.trie ks, leaf_at y.trie ks) =
      ap (entry_of s (node_start h n)) number ∙ y.entry ks in
      record {
        trie = y.trie;
        within = within;
        is = y.is;
        points = y.points;
        links = y.links;
        bits_are = refl;
        room = omega (arith, y.height_is);
        depth_is = sym (ap (λ x. x.0) at);
        next_is = sym (ap (λ x. x.1) at);
      }
