-- A round keeps the nodes of the path as the arrays need them, on any words: what it writes at the path's nodes are operations that keep
-- this; the other nodes of the path are not written, since they are apart and new numbers are fresh; and the node behind the first one
-- changes only a link.
--   Beside x path   == no place of the path is at the node x
--   Cut s t p a c   == t is s with the node at the place p split, and changed at others only in links
--   ClimbHeld path  == a climb along the path keeps it
use mathlib.Core.Path.{◌≡◌, sym, ap, ◌∙◌, subst}
use mathlib.Core.List.{List, [], ◌∷◌}
use Prim.Native.Nat.{ℕ, suc, ◌≤◌, ◌<◌}
use native.Mathlib.Omega.{arith}
use lib.ListN.{length}
use native.Mathlib.Decide.{dec_lt}
use Rattle.lists.specs.Lists.{All}
use Rattle.lists.proofs.ListLaws.{all_map, all_both}
use Rattle.tree.specs.Trie.{Key}
use Rattle.tree.specs.Carry.{bump_cost}
use Rattle.tree.proofs.CarryLaws.{bump_full}
use Rattle.store.specs.declared.Format.{Format}
use Rattle.store.specs.Head.{head_of}
use Rattle.store.specs.Released.{next_node}
use Rattle.represent.specs.Labelled.{count, first, behind}
use Rattle.represent.proofs.LabelLaws.{ind_eq, ind_self}
use Rattle.split.proofs.CarriedLaws.{some_first}
use Rattle.insert.proofs.Supplies.{supply_next}
use Rattle.node.specs.Node.{forward_word}
use Rattle.represent.specs.Rep.{Sized}
use Rattle.split.specs.Frame.{node_of}
use Rattle.split.specs.Round.{Place, grown, split_node, split_first, climb, round, deeper, in_half}
use Rattle.split.specs.Insertion.{word_store}
use Rattle.split.specs.Block.{lower, upper, node_ops}
use Rattle.split.proofs.Kept.{Kept}
use Rattle.split.proofs.Climb.{climb_room, climb_full}
use Rattle.split.proofs.RoundLaws.{round_room, round_full}
use Rattle.insert.proofs.Turned.{turned, turned_slack, turned_full}
use Rattle.split.specs.Value.{Holder}
use Rattle.split.proofs.GrowLaws.{here_low}
use Rattle.insert.proofs.Held.{Alike, alike_is, alike_then, holder_alike, grow_holder, split_holder, top_holder}
use Rattle.insert.proofs.InsideWrites.{grown_now, grown_here, halve_now, halve_lower, halve_upper, root_now, among_more, clear_behind, climb_now}
use Rattle.insert.proofs.InsideRound.{chosen_either, first_now, first_lower, first_upper}
use Rattle.insert.proofs.InsideRound.{first_other, round_turned}
use Rattle.insert.specs.Fine.{Off, Among, Led, Held, Apart, Slack, Supply, Clear, behind_in, depths}

abbrev pub Beside : ℕ → List Place → Type 0
Beside x = All (λ q. x ≡ q.at → ⊥)

pub beside_off : (x : ℕ) (path : List Place) → Beside x path → Off x path
beside_off x path = all_map (λ q. x ≡ q.at → ⊥) (λ q. q.at ≡ x → ⊥) path (λ q n e. n (sym e))

pub off_beside : (x : ℕ) (path : List Place) → Off x path → Beside x path
off_beside x path = all_map (λ q. q.at ≡ x → ⊥) (λ q. x ≡ q.at → ⊥) path (λ q n e. n (sym e))

-- in words in which the path's nodes are as they were, but for links
pub held_alike : (θ : ℕ) (P : ℕ → Type 0) (s t : List ℕ) (path : List Place) → ((n : ℕ) → P n → Alike (node_of s n) (node_of t n))
    → All (λ p. P p.at) path → Held θ s path → Held θ t path
held_alike θ P s t path same =
    all_both (λ p. P p.at) (λ p. Holder θ (node_of s p.at) p.bits p.depth)
    (λ p. Holder θ (node_of t p.at) p.bits p.depth) path
    (λ p q. holder_alike θ (node_of s p.at) (node_of t p.at) p.bits p.depth (same p.at q))

pub held_beside : (θ x m : ℕ) (ns s t : List ℕ) (path : List Place)
    → ((n : ℕ) → 1 ≤ n → n ≤ m → count n ns ≡ 0 → (x ≡ n → ⊥) → Alike (node_of s n) (node_of t n)) → Among m path → Clear ns path
    → Beside x path → Held θ s path → Held θ t path
held_beside θ x m ns s t path same among clear off =
    held_alike θ (λ n. (((1 ≤ n) × (n ≤ m)) × (x ≡ n → ⊥)) × (count n ns ≡ 0)) s t path
    (λ n q. same n q.0.0.0 q.0.0.1 q.1 q.0.1)
    (all_both (λ p. ((1 ≤ p.at) × (p.at ≤ m)) × (x ≡ p.at → ⊥)) (λ p. count p.at ns ≡ 0)
    (λ p. (((1 ≤ p.at) × (p.at ≤ m)) × (x ≡ p.at → ⊥)) × (count p.at ns ≡ 0)) path
    (λ p a b. (a, b))
    (all_both (λ p. (1 ≤ p.at) × (p.at ≤ m)) (λ p. x ≡ p.at → ⊥) (λ p. ((1 ≤ p.at) × (p.at ≤ m)) × (x ≡ p.at → ⊥)) path
    (λ p a b. (a, b)) among off) clear)

module _ (f : Format) (θ : ℕ) where
  -- a node that has room
  grown_held : (s : List ℕ) (p : Place) (path : List Place) (a c : ℕ) (ns : List ℕ) → Sized f s → (head_of s).theta ≡ θ
      → Among (head_of s).nodes_taken (p ∷ path) → Supply s ns → Clear ns (p ∷ path) → p.depth < θ → Held θ s (p ∷ path)
      → Apart (p ∷ path) → Slack 1 (p ∷ path) → Held θ (grown (node_ops θ) (word_store f θ) s p a c) (deeper p ∷ path)
  grown_held s p path a c ns ok own among y clear room held apart slack =
      let t : List ℕ = grown (node_ops θ) (word_store f θ) s p a c in
      let z = grown_now f θ s p a c ok own among.0 ns y clear.0 [] in (
        subst (λ ws. Holder θ ws p.bits (suc p.depth)) (sym (grown_here f θ s p a c ok own among.0 y.fits))
            (grow_holder θ (node_of s p.at) p.bits p.depth a c held.0 room (omega (arith, slack.0))),
        held_beside θ p.at (head_of s).nodes_taken ns s t path
            (λ n low high off far. alike_is (node_of s n) (node_of t n) (z.frame n low off (far, tt))) among.1 clear.1 apart.0
            held.1,
      )

  -- a node that splits, and the climb above it
  pub record Cut (s t : List ℕ) (p : Place) (a c n : ℕ) (ns : List ℕ) : Type 0 where
    pub kept : Kept f s t
    pub supply : Supply t ns
    pub taken : (head_of s).nodes_taken ≤ (head_of t).nodes_taken
    lower_is : Alike (lower θ (node_of s p.at) p.bits a c) (node_of t p.at)
    upper_is : Alike (upper θ (node_of s p.at) p.bits a c) (node_of t (next_node s))
    pub other_is : (x : ℕ) → 1 ≤ x → x ≤ (head_of s).nodes_taken → count x (n ∷ ns) ≡ 0 → (p.at ≡ x → ⊥) → Alike (node_of s x) (node_of t x)

  pub split_cut : (s : List ℕ) (p : Place) (a c n : ℕ) (ns : List ℕ) → Sized f s → (head_of s).theta ≡ θ
      → (1 ≤ p.at) × (p.at ≤ (head_of s).nodes_taken) → Supply s (n ∷ ns) → count p.at (n ∷ ns) ≡ 0
      → Cut s (split_node (node_ops θ) (word_store f θ) s p a c) p a c n ns
  split_cut s p a c n ns ok own within y off =
      let z = halve_now f θ s p a c ok own within n ns y off in
      let t : List ℕ = split_node (node_ops θ) (word_store f θ) s p a c in
      record {
        kept = z.kept;
        supply = z.supply;
        taken = z.taken;
        lower_is = alike_is _ (node_of t p.at) (halve_lower f θ s p a c ok own within n ns y off);
        upper_is = alike_is _ (node_of t (next_node s)) (halve_upper f θ s p a c ok own within n ns y off);
        other_is = λ x low high z' far. alike_is (node_of s x) (node_of t x) (z.frame x low z' (far, tt));
      }

  pub first_cut : (key : Key) (s : List ℕ) (p : Place) (a c n : ℕ) (ns : List ℕ) → Sized f s → (head_of s).theta ≡ θ
      → (1 ≤ p.at) × (p.at ≤ (head_of s).nodes_taken) → Supply s (n ∷ ns) → count p.at (n ∷ ns) ≡ 0
      → forward_word (node_of s p.at) 0 ≤ (head_of s).nodes_taken → count (forward_word (node_of s p.at) 0) (n ∷ ns) ≡ 0
      → Cut s (split_first (node_ops θ) (word_store f θ) s p a c) p a c n ns
  first_cut key s p a c n ns ok own within y off behind far =
      let w = first_now f θ key s p a c ok own within n ns y off behind far in
      record {
        kept = w.kept;
        supply = w.supply;
        taken = w.taken;
        lower_is = first_lower f θ key s p a c ok own within n ns y off behind far;
        upper_is = first_upper f θ key s p a c ok own within n ns y off behind far;
        other_is = first_other f θ key s p a c ok own within n ns y off behind far;
      }

  abbrev ClimbHeld : List Place → Type 0
  ClimbHeld path =
      (k : Key) (s : List ℕ) (a c : ℕ) (ns : List ℕ) → 1 ≤ θ → 1 ≤ length k → Sized f s → (head_of s).theta ≡ θ
      → Among (head_of s).nodes_taken path → Supply s ns → Clear ns path → bump_cost θ (depths path) ≤ length ns
      → Held θ s path → Apart path → Slack 1 path
      → Held θ (climb (node_ops θ) (word_store f θ) θ k s path a c).store (climb (node_ops θ) (word_store f θ) θ k s path a c).path

  above_held : (s t : List ℕ) (p : Place) (path : List Place) (k : Key) (a c n : ℕ) (ns : List ℕ) → 1 ≤ θ → 1 ≤ length k → Sized f s
      → (head_of s).theta ≡ θ
      → Among (head_of s).nodes_taken (p ∷ path) → θ ≤ p.depth → Supply s (n ∷ ns) → Clear (n ∷ ns) (p ∷ path)
      → bump_cost θ (depths (p ∷ path)) ≤ length (n ∷ ns) → Held θ s (p ∷ path) → Apart (p ∷ path)
      → Slack 1 (p ∷ path)
      → Cut s t p a c n ns → ClimbHeld path
      → Held θ (climb (node_ops θ) (word_store f θ) θ k t path p.at (next_node s)).store
      (in_half θ p (next_node s)
      ∷ (climb (node_ops θ) (word_store f θ) θ k t path p.at (next_node s)).path)
  above_held s t p path k a c n ns pos some ok own among full y clear room held apart slack w climbs =
      let cost = (bump_full θ p.depth (depths path) full).1 in
      let ws : List ℕ = node_of s p.at in
      let m : ℕ = next_node s in
      let q = supply_next f s n ns ok y in
      let v : List ℕ = (climb (node_ops θ) (word_store f θ) θ k t path p.at m).store in
      let own_t : (head_of t).theta ≡ θ = w.kept.sizes_same.theta ∙ own in
      let in_t = among_more f θ (head_of s).nodes_taken (head_of t).nodes_taken path w.taken among.1 in
      let clear_t = clear_behind f θ n ns path clear.1 in
      let room_t : bump_cost θ (depths path) ≤ length ns = omega (arith, cost) in
      let up = (climb_now f θ path k t p.at m ns w.kept.sized own_t in_t w.supply clear_t room_t).0 in
      let off_m : Off m path =
      all_map (λ p. count p.at (n ∷ ns) ≡ 0) (λ p. p.at ≡ m → ⊥) path (λ p z e. omega (arith, ind_eq p.at n (e ∙ q.is))) clear.1 in
      let e : p.depth ≡ θ = omega (arith, here_low θ ws p.bits p.depth held.0, held.0.shallow.low) in (
        split_holder θ ws pos p.bits a c p.at m (node_of v)
            (alike_then (lower θ ws p.bits a c) (node_of t p.at) (node_of v p.at) w.lower_is
            (alike_is (node_of t p.at) (node_of v p.at)
            (up.frame p.at among.0.0 (omega (arith, clear.0)) (beside_off p.at path apart.0))))
            (alike_then (upper θ ws p.bits a c) (node_of t m) (node_of v m) w.upper_is
            (alike_is (node_of t m) (node_of v m)
            (up.frame m (omega (arith, q.is, q.low)) (ap (λ x. count x ns) q.is ∙ q.gone) off_m)))
            (subst (Holder θ ws p.bits) e held.0) (omega (arith, slack.0)),
        climbs k t p.at m ns pos some w.kept.sized own_t in_t w.supply clear_t room_t
            (held_beside θ p.at (head_of s).nodes_taken (n ∷ ns) s t path w.other_is among.1 clear.1 apart.0 held.1)
            apart.1 slack.1,
      )

  held_root : ClimbHeld []
  unfolding climb bump_cost
  held_root k s a c [] pos some ok own among y clear room held apart slack = absurd (omega arith)
  held_root k s a c (n ∷ ns) pos some ok own among y clear room held apart slack =
      let z = root_now f θ s a c n ns ok own y in
      (subst (λ ws. Holder θ ws k 1) (sym z.1) (top_holder θ (suc (head_of s).levels) a c k pos some), tt)

  held_up : (p : Place) (path : List Place) → ClimbHeld path → θ ≤ p.depth → ClimbHeld (p ∷ path)
  held_up p path up full k s a c [] pos some ok own among y clear room held apart slack =
      absurd (omega (arith, (bump_full θ p.depth (depths path) full).1))
  held_up p path up full k s a c (n ∷ ns) pos some ok own among y clear room held apart slack =
      let t : List ℕ = split_node (node_ops θ) (word_store f θ) s p a c in
      subst (λ r. Held θ r.store r.path) (sym (climb_full (node_ops θ) (word_store f θ) θ k s p a c path full))
      (above_held s t p path k a c n ns pos some ok own among full y clear room held apart slack
      (split_cut s p a c n ns ok own among.0 y clear.0) up)

  pub climb_held : (path : List Place) → ClimbHeld path
  climb_held [] k s a c ns pos some ok own among y clear room held apart slack =
      held_root k s a c ns pos some ok own among y clear room held apart slack
  climb_held (p ∷ path) k s a c ns pos some ok own among y clear room held apart slack =
      elim (dec_lt p.depth θ) [
        | yes h ↦
            subst (λ r. Held θ r.store r.path) (sym (climb_room (node_ops θ) (word_store f θ) θ k s p a c path h))
            (grown_held s p path a c ns ok own among y clear h held apart slack)
        | no h ↦ held_up p path (climb_held path) (omega arith) k s a c ns pos some ok own among y clear room held apart slack
      ]

  module _ (key : Key) where
    -- the path after it
    abbrev ApartTurned : List Place → Type 0
    ApartTurned path =
        (ns : List ℕ) → Clear ns path → ((x : ℕ) → count x ns ≤ 1) → bump_cost θ (depths path) ≤ length ns → Apart path
        → Apart (turned θ key ns path)

    -- (of numbers only)
    pub off_turned : (path : List Place) (ns : List ℕ) (x : ℕ) → Off x path → count x ns ≡ 0 → bump_cost θ (depths path) ≤ length ns
        → Off x (turned θ key ns path)
    unfolding turned bump_cost
    off_turned [] [] x o z room = absurd (omega arith)
    off_turned [] (n ∷ ns) x o z room = (λ e. omega (arith, ind_eq x n (sym e)), tt)
    off_turned (p ∷ path) ns x o z room =
        elim (dec_lt p.depth θ) [
          | yes h ↦ subst (Off x) (sym (turned_slack θ key ns p path h)) (o.0, o.1)
          | no h ↦
              let cost = (bump_full θ p.depth (depths path) (omega arith)).1 in
              let e = some_first ns (omega (arith, cost)) in
              let q : count x (first ns ∷ behind ns) ≡ 0 = sym (ap (count x) e) ∙ z in
              subst (Off x) (sym (turned_full θ key ns p path (omega arith))) (
                chosen_either (λ n. n ≡ x → ⊥) p.bits p.at (first ns) o.0 (λ i. omega (arith, q, ind_eq x (first ns) (sym i))),
                off_turned path (behind ns) x o.1 (omega (arith, q)) (omega (arith, cost, ap length e)),
              )
        ]

    apart_turned : (path : List Place) → ApartTurned path
    unfolding turned
    apart_turned [] ns clear once room apart = (tt, tt)
    apart_turned (p ∷ path) ns clear once room apart =
        elim (dec_lt p.depth θ) [
          | yes h ↦ subst Apart (sym (turned_slack θ key ns p path h)) (apart.0, apart.1)
          | no h ↦
              let cost = (bump_full θ p.depth (depths path) (omega arith)).1 in
              let e = some_first ns (omega (arith, cost)) in
              let n : ℕ = first ns in
              let ms : List ℕ = behind ns in
              let clear₁ : Clear (n ∷ ms) (p ∷ path) = subst (λ l. Clear l (p ∷ path)) e clear in
              let once₁ : (x : ℕ) → count x (n ∷ ms) ≤ 1 = subst (λ l. (x : ℕ) → count x l ≤ 1) e once in
              let room₁ : bump_cost θ (depths path) ≤ length ms = omega (arith, cost, ap length e) in
              let off_n : Off n path =
              all_map (λ p. count p.at (n ∷ ms) ≡ 0) (λ p. p.at ≡ n → ⊥) path (λ p z i. omega (arith, ind_eq p.at n i)) clear₁.1 in
              subst Apart (sym (turned_full θ key ns p path (omega arith))) (
                chosen_either (λ x. Beside x (turned θ key ms path)) p.bits p.at n
                    (off_beside p.at (turned θ key ms path)
                    (off_turned path ms p.at (beside_off p.at path apart.0) (omega (arith, clear₁.0)) room₁))
                    (off_beside n (turned θ key ms path)
                    (off_turned path ms n off_n (omega (arith, once₁ n, ind_self n)) room₁)),
                apart_turned path ms (clear_behind f θ n ms path clear₁.1) (λ x. omega (arith, once₁ x)) room₁ apart.1,
              )
        ]

    pub round_held : (path : List Place) (s : List ℕ) (a c : ℕ) (ns : List ℕ) → 1 ≤ θ → 1 ≤ length key → Sized f s → (head_of s).theta ≡ θ
        → Led s path → Supply s ns → Clear ns path → count (behind_in s path) ns ≡ 0 → bump_cost θ (depths path) ≤ length ns
        → Held θ s path → Apart path → Slack 1 path
        → Held θ (round (node_ops θ) (word_store f θ) θ key s path a c).store (round (node_ops θ) (word_store f θ) θ key s path a c).path
        × Apart (round (node_ops θ) (word_store f θ) θ key s path a c).path
    round_held [] s a c ns pos some ok own led y clear far room held apart slack = absurd led
    round_held (p ∷ path) s a c ns pos some ok own led y clear far room held apart slack = (
      elim (dec_lt p.depth θ) [
        | yes h ↦
            subst (λ r. Held θ r.store r.path) (sym (round_room (node_ops θ) (word_store f θ) θ key s p path a c h))
            (grown_held s p path a c ns ok own ((led.0, led.1), led.2) y clear h held apart slack)
        | no h ↦ go ns y clear far room (omega arith)
      ],
      subst Apart (sym (round_turned f θ key (p ∷ path) s a c ns ok own led y clear far room).way)
          (apart_turned (p ∷ path) ns clear y.once room apart),
    )
      where
        go : (ns : List ℕ) → Supply s ns → Clear ns (p ∷ path) → count (forward_word (node_of s p.at) 0) ns ≡ 0
            → bump_cost θ (depths (p ∷ path)) ≤ length ns → θ ≤ p.depth
            → Held θ (round (node_ops θ) (word_store f θ) θ key s (p ∷ path) a c).store
            (round (node_ops θ) (word_store f θ) θ key s (p ∷ path) a c).path
        go [] y clear far room full = absurd (omega (arith, (bump_full θ p.depth (depths path) full).1))
        go (n ∷ ns) y clear far room full =
            subst (λ r. Held θ r.store r.path) (sym (round_full (node_ops θ) (word_store f θ) θ key s p path a c full))
            (above_held s (split_first (node_ops θ) (word_store f θ) s p a c) p path key a c n ns pos some ok own ((led.0, led.1), led.2)
            full y clear room held apart slack
            (first_cut key s p a c n ns ok own (led.0, led.1) y clear.0 led.4 far)
            (climb_held path))
