-- Blocks in hand, on any words: what the functions of crate fuse ask of them holds at every turn. A block in hand has no local depth above
-- its depth, the run that is covered is no longer than the node is deep, and the key has bits left for it.
use mathlib.Core.Path.{◌≡◌, refl, sym, ap, ◌∙◌, subst}
use mathlib.Core.Bool.{Bool, true, false, ◌||◌, not, false≢true}
use mathlib.Core.List.{List}
use mathlib.Core.Logic.{inl, inr}
use Prim.Native.Nat.{ℕ, zero, suc, ◌+◌, ◌-◌, ◌*◌, ◌/◌, ◌%◌, ◌^◌, ◌≤◌, ◌<◌, max}
use native.Mathlib.Nat.{add-sub_of_le}
use native.Mathlib.Decide.{dec_le, dec_lt}
use native.Mathlib.Omega.{arith}
use lib.Dec.{leb, eqb}
use lib.Pow.{pow_mono, pow_pos, shl_lt, shr_lt}
use lib.ListN.{length}
use borrow.Author.Tests.{leb-true, lt-ltb, le-ltb}
use Rattle.lists.specs.Bits.{bits}
use Rattle.lists.specs.Lists.{greatest}
use Rattle.lists.proofs.Cases.{bool_cases}
use Rattle.lists.proofs.BitLaws.{index_lt}
use Rattle.lists.proofs.Tests.{and_true, greatest_le, greatest_at}
use Rattle.tree.specs.Trie.{Key}
use Rattle.tree.specs.Node.{Entry}
use Rattle.store.specs.declared.Format.{Format}
use Rattle.store.specs.declared.Head.{Head}
use Rattle.store.specs.Format.{width}
use Rattle.store.specs.Head.{word, head_of, node_start, node_at, node_words}
use Rattle.store.proofs.Places.{node_end, nodes_end_lem, part_word}
use Rattle.node.specs.Node.{depth_word, entry_depth, entry_of}
use Rattle.node.proofs.NodeLaws.{node_facts}
use Rattle.node.proofs.RunWalk.{good_facts}
use Rattle.search.specs.Descent.{step_of}
use Rattle.search.proofs.DescentLaws.{sound_facts, visited_sound}
use Rattle.split.specs.Block.{block, over_run, number}
use Rattle.split.specs.Value.{Shallow}
use Rattle.split.specs.Frame.{node_of}
use Rattle.split.proofs.EntryLaws.{block_entry, over_in, over_below, over_above}
use Rattle.split.proofs.GrowLaws.{run_room}
use Rattle.fuse.specs.Join.{shrunk, cover, half_of, both_halves, deeper, joined}
use Rattle.remove.specs.Remove.{Reach, Sought, sibling, sibling_key, on_left, Spot, links_ok, both_nodes, sibling_ok, node_joins}
use Rattle.remove.proofs.InsideRemove.{Headed, InNode, sibling_in}
use Rattle.remove.proofs.LevelPhase.{rs, node_lost, node_damaged, node_unlinked, turn_none, turn_tall, turn_on}
use Rattle.remove.proofs.LevelsPhase.{NodesR}

block_depth : (θ H level back forward : ℕ) (e : ℕ → Entry ℕ) → depth_word (block θ H level back forward e) 0 ≡ H
unfolding block
block_depth θ H level back forward e = refl

block_shallow : (θ H level back forward : ℕ) (e : ℕ → Entry ℕ) → H ≤ θ → ((j : ℕ) → j < 2 ^ H → (e j).0 ≤ H)
    → Shallow θ (block θ H level back forward e)
block_shallow θ H level back forward e low g =
    let d = block_depth θ H level back forward e in
    record {
      low = omega (arith, d, low);
      all = λ j l.
          let l' : j < 2 ^ H = subst (λ n. j < 2 ^ n) d l in
          omega (arith, d, ap (λ x. x.0) (block_entry θ H level back forward e j low l'), g j l');
    }

-- a run covered
module _ (θ : ℕ) (ws : List ℕ) (k : Key) (d q : ℕ) (sh : Shallow θ ws) (fits : d ≤ depth_word ws 0) where
  abbrev H : ℕ
  H = depth_word ws 0

  abbrev n : ℕ
  n = 2 ^ (H - d)

  abbrev i : ℕ
  i = number ws k

  abbrev e : ℕ → Entry ℕ
  e = over_run n i (λ j. (d, q)) (entry_of ws 0)

  abbrev G : ℕ
  G = greatest (2 ^ H) (λ j. (e j).0)

  run : (i % n ≤ i) × (i - i % n + n ≤ 2 ^ H)
  run = run_room H d i n (index_lt H k) refl

  rem : i % n < n
  rem = native.Mathlib.Nat.mod-lt i (pow_pos (H - d))

  low_at : (j : ℕ) → j < 2 ^ H → (e j).0 ≤ H
  low_at j l =
      elim (dec_le (i - i % n) j) [
        | no a ↦ omega (arith, ap (λ x. x.0) (over_below n i (λ j. (d, q)) (entry_of ws 0) j (omega arith)), sh.all j l)
        | yes a ↦
            elim (dec_lt j (i - i % n + n)) [
              | yes b ↦ omega (arith, ap (λ x. x.0) (over_in n i (λ j. (d, q)) (entry_of ws 0) j a b), fits)
              | no b ↦ omega (arith, ap (λ x. x.0) (over_above n i (λ j. (d, q)) (entry_of ws 0) j (omega arith)), sh.all j l)
            ]
      ]

  G_low : G ≤ H
  G_low = greatest_le (2 ^ H) (λ j. (e j).0) H low_at

  G_high : d ≤ G
  G_high =
      omega (
        arith,
        ap (λ x. x.0) (over_in n i (λ j. (d, q)) (entry_of ws 0) i (omega (arith, run.0)) (omega (arith, run.0, rem))),
        greatest_at (2 ^ H) (λ j. (e j).0) i (index_lt H k),
      )

  cover_depth : depth_word (cover θ ws k d q) 0 ≡ G
  unfolding cover shrunk
  cover_depth = block_depth θ G _ _ _ _

  pub cover_fine : Shallow θ (cover θ ws k d q) × (d ≤ depth_word (cover θ ws k d q) 0) × (depth_word (cover θ ws k d q) 0 ≤ depth_word ws 0)
  unfolding cover shrunk
  cover_fine = (
    block_shallow θ G _ _ _ (λ j. e (j * 2 ^ (H - G))) (omega (arith, G_low, sh.low))
        (λ j l. greatest_at (2 ^ H) (λ j. (e j).0) (j * 2 ^ (H - G))
        (subst (λ x. j * 2 ^ (H - G) < 2 ^ x) (add-sub_of_le G_low) (shl_lt G (H - G) l))),
    omega (arith, cover_depth, G_high),
    omega (arith, cover_depth, G_low),
  )

-- two nodes joined
both_low : (H : ℕ) (ws ws' : List ℕ) (j : ℕ) → j < 2 ^ H → both_halves H ws ws' j ≡ half_of ws H j
unfolding both_halves
both_low H ws ws' j h = rw (lt-ltb j (2 ^ H) h, both_halves)

both_high : (H : ℕ) (ws ws' : List ℕ) (j : ℕ) → 2 ^ H ≤ j → both_halves H ws ws' j ≡ half_of ws' H (j - 2 ^ H)
unfolding both_halves
both_high H ws ws' j h = rw (le-ltb j (2 ^ H) h, both_halves)

half_low : (θ : ℕ) (ws : List ℕ) (d j : ℕ) → Shallow θ ws → depth_word ws 0 ≤ d → j < 2 ^ d → (half_of ws d j).0 ≤ suc d
half_low θ ws d j sh h l =
    let i : j / 2 ^ (d - depth_word ws 0) < 2 ^ depth_word ws 0 =
    shr_lt (depth_word ws 0) (d - depth_word ws 0) (subst (λ n. j < 2 ^ n) (sym (add-sub_of_le h)) l) in
    omega (arith, sh.all (j / 2 ^ (d - depth_word ws 0)) i)

pub joined_fine : (θ : ℕ) (ws ws' : List ℕ) → Shallow θ ws → Shallow θ ws' → suc (max (depth_word ws 0) (depth_word ws' 0)) ≤ θ
    → Shallow θ (joined θ ws ws') × (depth_word (joined θ ws ws') 0 ≡ suc (max (depth_word ws 0) (depth_word ws' 0)))
unfolding joined
joined_fine θ ws ws' a b fits =
    let d : ℕ = deeper ws ws' in (
      block_shallow θ (suc d) _ _ _ (both_halves d ws ws') fits
          (λ j l.
          elim (dec_lt j (2 ^ d)) [
            | yes h ↦ omega (arith, ap (λ x. x.0) (both_low d ws ws' j h), half_low θ ws d j a (omega arith) h)
            | no h ↦ omega (
              arith,
              ap (λ x. x.0) (both_high d ws ws' j (omega arith)),
              half_low θ ws' d (j - 2 ^ d) b (omega arith) (omega (arith, l)),
            )
          ]),
      block_depth θ (suc d) _ _ _ _,
    )

module _ (f : Format) (s : List ℕ) (Hd : Headed f s) where
  abbrev h : Head
  h = head_of s

  -- a node that keeps its rule
  pub visited_block : (k level n used : ℕ) → InNode f s Hd n → (step_of f s h k level n used).ok ≡ true
      → Shallow h.theta (node_of s n) × (used + depth_word (node_of s n) 0 ≤ width f)
  unfolding node_at node_words
  visited_block k level n used i ok =
      let at : ℕ = node_start h n in
      let a = sound_facts f s h level n used (visited_sound f s h k level n used ok) in
      let facts = node_facts h s at level a.0 in
      let room : at + node_words h.theta ≤ length s =
      omega (arith, node_end h n i.0 (omega (arith, i.1, Hd.counts.taken)), nodes_end_lem h f, Hd.room) in
      let word_at : (j : ℕ) → j < node_words h.theta
      → word (node_of s n) j ≡ word s (at + j) = λ j l. part_word s at (node_words h.theta) j room l in
      let d : depth_word (node_of s n) 0 ≡ depth_word s at = word_at 0 (omega arith) ∙ ap (word s) (let z : at + 0 ≡ at = omega arith in z) in
      let small : 2 ^ depth_word s at ≤ 2 ^ h.theta = pow_mono {i = depth_word s at} {j = h.theta} facts.depth in (
        record {
          low = omega (arith, d, facts.depth);
          all = λ j l.
              let l' : j < 2 ^ depth_word s at = subst (λ x. j < 2 ^ x) d l in
              let e : entry_depth (node_of s n) 0 j ≡ entry_depth s at j =
              word_at (0 + 4 + 2 * j) (omega (arith, l', small))
              ∙ ap (word s) (let z : at + (0 + 4 + 2 * j) ≡ at + 4 + 2 * j = omega arith in z) in
              omega (arith, d, e, ((good_facts _ _ _ _ facts.runs).rule j l').0);
        },
        omega (arith, d, a.1),
      )

  pub sibling_block : (k m level p : ℕ) (reached : List Reach) → sibling_ok f s h k m level p reached ≡ true → InNode f s Hd p
      → Shallow h.theta (node_of s p) × (m + depth_word (node_of s p) 0 ≤ width f)
  unfolding sibling_ok
  sibling_block k m level p reached t e = visited_block (sibling_key (width f) k m) level p m e (and_true _ _ t).0

  -- what the functions ask of a block in hand, where the stretch below has m bits
  pub record BlockFine (m : ℕ) (x : Spot) : Type 0 where
    pub shallow : Shallow h.theta x.block
    pub reaches : m - x.used ≤ depth_word x.block 0
    pub left : x.used + depth_word x.block 0 ≤ width f

  pub both_fine : (k m q e : ℕ) (g : NodesR) (bt : Bool) (p : ℕ) (reached : List Reach) → g.spot.used ≡ suc e → BlockFine m g.spot
      → Shallow h.theta (node_of s p) → suc e + depth_word (node_of s p) 0 ≤ width f
      → suc (max (depth_word g.spot.block 0) (depth_word (node_of s p) 0)) ≤ h.theta
      → BlockFine m (both_nodes f s h k m q g bt p reached).spot
  unfolding both_nodes
  both_fine k m q e g true p reached u i a b fits =
      let j = joined_fine h.theta (node_of s p) g.spot.block a i.shallow (omega (arith, fits)) in
      let c = cover_fine h.theta (joined h.theta (node_of s p) g.spot.block) (bits (width f - (g.spot.used - 1)) k)
      (m - (g.spot.used - 1)) q j.0
      (omega (arith, j.1, i.reaches, u)) in
      record { shallow = c.0; reaches = c.1; left = omega (arith, c.2, j.1, u, i.left, b) }
  both_fine k m q e g false p reached u i a b fits =
      let j = joined_fine h.theta g.spot.block (node_of s p) i.shallow a fits in
      let c = cover_fine h.theta (joined h.theta g.spot.block (node_of s p)) (bits (width f - (g.spot.used - 1)) k)
      (m - (g.spot.used - 1)) q j.0
      (omega (arith, j.1, i.reaches, u)) in
      record { shallow = c.0; reaches = c.1; left = omega (arith, c.2, j.1, u, i.left, b) }

  -- a node of the path over the stretch below
  pub start_fine : (k m q n used : ℕ) → Shallow h.theta (node_of s n) → used + depth_word (node_of s n) 0 ≤ width f
      → m - used ≤ depth_word (node_of s n) 0
      → BlockFine m (record {
        number = n;
        used = used;
        last = n;
        block =
            cover h.theta (node_of s n) (bits (width f - used) k) (m - used) q;
      })
  start_fine k m q n used a b c =
      let w = cover_fine h.theta (node_of s n) (bits (width f - used) k) (m - used) q a c in
      record { shallow = w.0; reaches = w.1; left = omega (arith, w.2, b) }

  -- the joins of a level keep it
  pub joins_fine : (k level m q : ℕ) → 1 ≤ level → (n : ℕ) (g : NodesR) → g.spot.used ≡ n → BlockFine m g.spot
      → (node_joins f s h k level m q n g).ok ≡ true → BlockFine m (node_joins f s h k level m q n g).spot
  unfolding node_joins
  joins_fine k level m q some zero g u i a = i
  joins_fine k level m q some (suc n) g u i a =
      let z : Sought = sibling f s h k g.spot.used level g.reached in
      elim (bool_cases z.ok) [
        | inr x ↦ absurd (false≢true (ap (λ (y : NodesR). y.ok) (sym (node_lost f s h k level m q n g x)) ∙ a))
        | inl x ↦
            elim (bool_cases z.found) [
              | inr y ↦ subst (λ (w : NodesR). BlockFine m w.spot) (sym (turn_none f s h k level m q n g z refl x y)) i
              | inl y ↦
                  let p : ℕ = z.pointer in
                  let e = enters_node level some p (sibling_in f s Hd k g.spot.used level g.reached x y) in
                  elim (bool_cases (sibling_ok f s h k g.spot.used level p z.reached)) [
                    | inr t ↦ absurd (false≢true (ap (λ (y : NodesR). y.ok) (sym (node_damaged f s h k level m q n g z refl x y t)) ∙ a))
                    | inl t ↦
                        elim (bool_cases (leb (suc (max (depth_word g.spot.block 0) (depth_word (node_of s p) 0))) h.theta)) [
                          | inr v ↦ subst (λ (w : NodesR). BlockFine m w.spot) (sym (turn_tall f s h k level m q n g z refl x y t v)) i
                          | inl v ↦
                              elim (bool_cases (not (eqb level 1) || links_ok s h g.spot p (on_left (width f) k g.spot.used))) [
                                | inr l ↦ absurd (false≢true
                                    (ap (λ (y : NodesR). y.ok) (sym (node_unlinked f s h k level m q n g z refl x y t v l)) ∙ a))
                                | inl l ↦
                                    let bt : Bool = on_left (width f) k g.spot.used in
                                    let on : NodesR = both_nodes f s h k m q g bt p (rs f s h k level m q n g z refl x) in
                                    let eq = turn_on f s h k level m q n g z refl x y t v l in
                                    let b = sibling_block k g.spot.used level p z.reached t e in
                                    subst (λ (w : NodesR). BlockFine m w.spot) (sym eq)
                                    (joins_fine k level m q some n on
                                    (Rattle.remove.proofs.LevelPhase.next_used f s h k m q g p
                                    (rs f s h k level m q n g z refl x) bt ∙ omega (arith, u))
                                    (both_fine k m q n g bt p (rs f s h k level m q n g z refl x) u i b.0 (omega (arith, b.1, u))
                                    (leb-true _ _ v))
                                    (ap (λ (y : NodesR). y.ok) (sym eq) ∙ a))
                              ]
                        ]
                  ]
            ]
      ]
    where
      enters_node : (l : ℕ) → 1 ≤ l → (p : ℕ) → Rattle.insert.proofs.InsideEnter.Enters f s h (sibling_key (width f) k g.spot.used) l p
          → InNode f s Hd p
      enters_node zero e p w = absurd (omega (arith, e))
      enters_node (suc l) e p w = w
