-- What a round writes, on any words: the nodes of the path, new ones, and the back link of the node behind the first one. The path after it
-- has nodes of the old one and new ones; the node behind is the old one or a new one, and none of the path.
--   Noded s t path behind == t is s after such writes, where this node is behind the first one of the path; all that is no node stays
--   Onward s t path path' == what path', that of the key in the words t, has of the path in the words s
--   Behind r              == what the round r does to the nodes, and what is behind the first one after it
use mathlib.Core.Path.{ap, ◌≡◌, refl, sym, ◌∙◌, subst}
use mathlib.Core.List.{List, [], ◌∷◌}
use Prim.Native.Nat.{ℕ, ◌≤◌, ◌<◌}
use native.Mathlib.Omega.{arith}
use native.Mathlib.Decide.{dec_lt}
use lib.ListN.{length, set}
use lib.Seq.{set-get_or}
use Rattle.tree.specs.Trie.{Key}
use Rattle.tree.specs.Carry.{bump_cost}
use Rattle.store.specs.declared.Format.{Format}
use Rattle.store.specs.Head.{head_of}
use Rattle.node.specs.Node.{forward_word}
use Rattle.represent.specs.Rep.{Sized}
use Rattle.split.specs.Frame.{node_of}
use Rattle.split.specs.Round.{Place, chosen, Climbed, round, grown, deeper}
use Rattle.split.specs.Insertion.{others, word_store}
use Rattle.split.specs.Block.{node_ops}
use Rattle.split.proofs.RoundLaws.{round_room, round_full}
use Rattle.insert.specs.Fine.{Off, Led, Supply, Clear, behind_in, depths}
use Rattle.store.specs.Released.{next_node}
use Rattle.represent.specs.Labelled.{count}
use Rattle.represent.proofs.LabelLaws.{ind_eq}
use Rattle.tree.proofs.CarryLaws.{bump_full}
use Rattle.insert.proofs.Supplies.{supply_next}
use Rattle.insert.proofs.HeldRound.{off_turned}
use Rattle.insert.proofs.Turned.{turned}
use Rattle.insert.proofs.InsideWrites.{Now, grown_now, grown_forward}
use Rattle.insert.proofs.InsideRound.{First, chosen_either, round_turned, t, s₁, next_is, full_first, full_above, full_way}
use Rattle.insert.proofs.InsideRound.{full_in, off_new, lower_behind, upper_behind}

pub record Noded (s t : List ℕ) (path : List Place) (behind : ℕ) (ns : List ℕ) : Type 0 where
  pub others_same : others t ≡ others s
  pub low : (head_of s).nodes_taken ≤ (head_of t).nodes_taken
  pub high : (head_of t).nodes_taken ≤ (head_of s).node_blocks
  pub node_same : (x : ℕ) → 1 ≤ x → count x ns ≡ 0 → Off x path → (x ≡ behind → ⊥) → node_of t x ≡ node_of s x
  pub behind_same : 1 ≤ behind → (b : ℕ) × (node_of t behind ≡ set (node_of s behind) 2 b)

pub noded_none : (s : List ℕ) (path : List Place) (behind : ℕ) (ns : List ℕ) → (head_of s).nodes_taken ≤ (head_of s).node_blocks
    → Noded s s path behind ns
noded_none s path behind ns fits =
    record {
      others_same = refl;
      low = omega arith;
      high = fits;
      node_same = λ x low d off far. refl;
      behind_same = λ low. (_, sym (set-get_or (node_of s behind) 2 0));
    }

-- nodes of the path written, and no node behind
pub now_noded : (f : Format) (s t : List ℕ) (ns : List ℕ) (more : ℕ) (path : List Place) (behind : ℕ) → Now f s t ns more path
    → count behind ns ≡ 0 → Off behind path → Noded s t path behind ns
now_noded f s t ns more path behind z far off =
    record {
      others_same = z.others_same;
      low = z.taken;
      high = omega (arith, z.supply.fits, z.kept.sizes_same.nodes);
      node_same = λ x low d off_x far. z.frame x low d off_x;
      behind_same = λ low. (_, z.frame behind low far off ∙ sym (set-get_or (node_of s behind) 2 0));
    }

pub record Onward (s t : List ℕ) (path path' : List Place) (ns : List ℕ) : Type 0 where
  pub path_old : (x : ℕ) → count x ns ≡ 0 → Off x path → Off x path'
  pub behind_old : (x : ℕ) → count x ns ≡ 0 → (x ≡ behind_in s path → ⊥) → x ≡ behind_in t path' → ⊥
  pub off : Off (behind_in t path') path'

module _ (f : Format) (θ : ℕ) (key : Key) where
  module _ (s : List ℕ) (p : Place) (path : List Place) (a c : ℕ) (ok : Sized f s) (own : (head_of s).theta ≡ θ) (led : Led s (p ∷ path))
      (off : Off (behind_in s (p ∷ path)) (p ∷ path)) where
    abbrev r : Climbed (List ℕ)
    r = round (node_ops θ) (word_store f θ) θ key s (p ∷ path) a c

    abbrev Behind : List ℕ → Climbed (List ℕ) → Type 0
    Behind ns r =
        Noded s r.store (p ∷ path) (behind_in s (p ∷ path)) ns
        × ((x : ℕ) → count x ns ≡ 0 → (x ≡ behind_in s (p ∷ path) → ⊥) → x ≡ behind_in r.store r.path → ⊥)
        × Off (behind_in r.store r.path) r.path

    slack_behind : (ns : List ℕ) → Supply s ns → Clear ns (p ∷ path) → count (behind_in s (p ∷ path)) ns ≡ 0 → p.depth < θ → Behind ns r
    slack_behind ns y clear far h =
        let e = grown_forward f θ s p a c ok own (led.0, led.1) y.fits in
        let t : List ℕ = grown (node_ops θ) (word_store f θ) s p a c in
        subst (Behind ns) (sym (round_room (node_ops θ) (word_store f θ) θ key s p path a c h)) (
          now_noded f s t ns 0 (p ∷ path) (behind_in s (p ∷ path)) (grown_now f θ s p a c ok own (led.0, led.1) ns y clear.0 path) far off,
          λ x high far i. far (i ∙ e),
          subst (λ n. Off n (deeper p ∷ path)) (sym e) (off.0, off.1),
        )

    module _ (n : ℕ) (ns : List ℕ) (y : Supply s (n ∷ ns)) (clear : Clear (n ∷ ns) (p ∷ path))
        (far : count (behind_in s (p ∷ path)) (n ∷ ns) ≡ 0) (h : θ ≤ p.depth)
        (room : bump_cost θ (depths (p ∷ path)) ≤ length (n ∷ ns)) where
      abbrev m : ℕ
      m = next_node s

      abbrev q : ℕ
      q = behind_in s (p ∷ path)

      abbrev u : List ℕ
      u = t f θ key s p path a c ok own led n ns y clear far h room

      is_n : m ≡ n
      is_n = next_is f θ key s p path a c ok own led n ns y clear far h room

      first : First f θ key s (s₁ f θ key s p path a c ok own led n ns y clear far h room) p.at ns
      first = full_first f θ key s p path a c ok own led n ns y clear far h room

      above : Now f (s₁ f θ key s p path a c ok own led n ns y clear far h room) u ns (bump_cost θ (depths path)) path
      above = full_above f θ key s p path a c ok own led n ns y clear far h room

      not_m : (x : ℕ) → count x (n ∷ ns) ≡ 0 → x ≡ m → ⊥
      not_m x z e = omega (arith, ind_eq x n (e ∙ is_n))

      split_noded : Noded s u (p ∷ path) q (n ∷ ns)
      split_noded =
          record {
            others_same = above.others_same ∙ first.others_same;
            low = omega (arith, first.taken, above.taken);
            high = omega (arith, above.supply.fits, above.kept.sizes_same.nodes, first.kept.sizes_same.nodes);
            node_same = λ x low z off_x far.
                above.frame x low (omega arith) off_x.1 ∙ first.elsewhere x low (not_m x z) off_x.0 far;
            behind_same = λ low. (
              m,
              above.frame q low (omega (arith, far)) off.1 ∙ first.behind_now low off.0,
            );
          }

      full_behind : Behind (n ∷ ns) r
      full_behind =
          let e = lower_behind f θ key s p path a c ok own led n ns y clear far h room in
          let g = upper_behind f θ key s p path a c ok own led n ns y clear far h room in
          let above_off = full_in f θ key s p path a c ok own led n ns y clear far h room in
          let gone : count m ns ≡ 0 = ap (λ x. count x ns) is_n ∙ (supply_next f s n ns ok y).gone in
          let w =
          chosen_either
          (λ x'. ((x : ℕ) → count x (n ∷ ns) ≡ 0 → (x ≡ q → ⊥) → x ≡ forward_word (node_of u x') 0 → ⊥)
          × (x' ≡ forward_word (node_of u x') 0 → ⊥)
          × Off (forward_word (node_of u x') 0) (turned θ key ns path))
          p.bits p.at m (
            λ x z far i. not_m x z (i ∙ e),
            λ i. not_m p.at clear.0 (i ∙ e),
            subst (λ n. Off n (turned θ key ns path)) (sym e)
                (above_off m gone (off_new f θ key s p path a c ok own led n ns y clear far h room)).1,
          ) (
            λ x z far i. far (i ∙ g),
            λ i. not_m q far (sym (i ∙ g)),
            subst (λ n. Off n (turned θ key ns path)) (sym g) (above_off q (omega (arith, far)) off.1).1,
          ) in
          let way = full_way f θ key s p path a c ok own led n ns y clear far h room in
          subst (Behind (n ∷ ns)) (sym (round_full (node_ops θ) (word_store f θ) θ key s p path a c h)) (
            split_noded,
            w.0,
            (w.1, subst (Off (forward_word (node_of u (chosen p.bits p.at m)) 0)) (sym way) w.2),
          )

  pub round_noded : (path : List Place) (s : List ℕ) (a c : ℕ) (ns : List ℕ) → Sized f s → (head_of s).theta ≡ θ → Led s path
      → Supply s ns → Clear ns path → count (behind_in s path) ns ≡ 0 → bump_cost θ (depths path) ≤ length ns
      → Off (behind_in s path) path
      → Noded s (round (node_ops θ) (word_store f θ) θ key s path a c).store path (behind_in s path) ns
      × Onward s (round (node_ops θ) (word_store f θ) θ key s path a c).store path (round (node_ops θ) (word_store f θ) θ key s path a c).path ns
  round_noded [] s a c ns ok own led y clear far room off = absurd led
  round_noded (p ∷ path) s a c ns ok own led y clear far room off =
      let z : Behind s p path a c ok own led off ns (round (node_ops θ) (word_store f θ) θ key s (p ∷ path) a c) =
      elim (dec_lt p.depth θ) [
        | yes h ↦ slack_behind s p path a c ok own led off ns y clear far h
        | no h ↦ go ns y clear far room (omega arith)
      ] in
      let way = (round_turned f θ key (p ∷ path) s a c ns ok own led y clear far room).way in (
        z.0,
        record {
          path_old = λ x z off_x. subst (Off x) (sym way) (off_turned f θ key (p ∷ path) ns x off_x z room);
          behind_old = z.1;
          off = z.2;
        },
      )
    where
      go : (ns : List ℕ) → Supply s ns → Clear ns (p ∷ path) → count (forward_word (node_of s p.at) 0) ns ≡ 0
          → bump_cost θ (depths (p ∷ path)) ≤ length ns → θ ≤ p.depth
          → Behind s p path a c ok own led off ns (round (node_ops θ) (word_store f θ) θ key s (p ∷ path) a c)
      go [] y clear far room full = absurd (omega (arith, (bump_full θ p.depth (depths path) full).1))
      go (n ∷ ns) y clear far room full = full_behind s p path a c ok own led off n ns y clear far full room
