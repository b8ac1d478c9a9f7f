-- Remove on any words: what it writes are blocks of the store and words 6 to 11 of the head. Every number that it writes at is that of a
-- taken block: it is the root, or the pointer of a visited node, which keeps the node rule.
use mathlib.Core.Path.{◌≡◌, refl, sym, ap, ◌∙◌, subst}
use mathlib.Core.Bool.{Bool, true, false, ◌&&◌, ◌||◌, not, false≢true}
use mathlib.Core.List.{List, [], ◌∷◌, ◌++◌, map}
use mathlib.Core.Logic.{inl, inr}
use Prim.Native.Nat.{ℕ, zero, suc, ◌+◌, ◌-◌, ◌*◌, ◌^◌, ◌≤◌, max}
use native.Mathlib.Decide.{ℕ_discrete}
use native.Mathlib.Omega.{arith}
use lib.Dec.{leb, ltb, eqb}
use lib.ListN.{length, length-append}
use borrow.Author.Tests.{leb-true, eqb-true}
use Rattle.lists.specs.Lists.{All, tab}
use Rattle.lists.proofs.Cases.{bool_cases}
use Rattle.lists.proofs.Tests.{and_true, length_tab}
use Rattle.tree.specs.Node.{Entry}
use Rattle.tree.specs.Trie.{Key}
use Rattle.store.specs.declared.Format.{Format}
use Rattle.store.specs.declared.Head.{Head}
use Rattle.store.specs.declared.Item.{Item}
use Rattle.store.specs.Format.{width}
use Rattle.store.specs.Head.{head_of, node_words, node_start, node_at, page_at}
use Rattle.store.proofs.HeadLaws.{Limits, sizes_limits, Counts, counts_facts}
use Rattle.store.proofs.Places.{node_end, nodes_end_lem, part_word}
use Rattle.node.specs.Node.{back_word, forward_word, node_rule}
use Rattle.node.proofs.NodeLaws.{link_1, link_above, node_facts}
use Rattle.represent.specs.Image.{entry_words}
use Rattle.represent.specs.Rep.{size_of}
use Rattle.search.specs.declared.Step.{Step}
use Rattle.search.specs.Way.{Visit}
use Rattle.search.specs.Descent.{step_of}
use Rattle.search.specs.Find.{sound_page}
use Rattle.search.proofs.DescentLaws.{sound_facts, visited_sound}
use Rattle.split.specs.Block.{block}
use Rattle.split.specs.Frame.{node_of}
use Rattle.lists.proofs.Parts.{length_part}
use Rattle.insert.proofs.InsideEnter.{Enters, points}
use Rattle.store.specs.Head.{head_rule}
use Rattle.fuse.specs.Join.{shrunk, cover, joined}
use Rattle.remove.specs.Remove.{Reach, Sought, damaged_way, seek, sibling, sibling_key, on_left, Spot, both_nodes, sibling_ok, node_joins}
use Rattle.remove.specs.Remove.{Levels, spot_at, levels_from, links_ok, Pages, stuck_pages, either_page, lost_page, both_pages, page_joins}
use Rattle.remove.specs.Remove.{emptied}
use Rattle.insert.specs.Enter.{own_items}
use Rattle.remove.specs.Doable.{In}
use Rattle.remove.proofs.PagePhase.{turn_lost, turn_damaged, turn_full, either_null, either_own, lost_left, lost_right, lost_one}
use Rattle.remove.proofs.LevelsPhase.{start_of, level_of, levels_lost, levels_stay, levels_go}
use Rattle.remove.proofs.LevelPhase.{rs, node_lost, node_damaged, node_unlinked, turn_none, turn_tall, turn_on}

abbrev NodesR : Type 0
NodesR = Rattle.remove.specs.Remove.Nodes

-- what the head rule gives
pub record Headed (f : Format) (s : List ℕ) : Type 0 where
  pub limits : Limits (head_of s).theta (head_of s).capacity (head_of s).node_blocks (head_of s).page_blocks
  pub counts : Counts f (head_of s)
  pub room : size_of f s ≤ length s

pub head_facts : (f : Format) (s : List ℕ) → head_rule f s ≡ true → Headed f s
unfolding head_rule
head_facts f s e =
    let d = and_true _ _ e in
    let a = and_true _ _ d.0 in
    let b = and_true _ _ a.0 in
    let c = and_true _ _ b.0 in
    record { limits = sizes_limits _ _ _ _ c.0; counts = counts_facts f (head_of s) a.1; room = leb-true _ _ b.1 }

-- lengths and links of blocks
length_words : (es : List (Entry ℕ)) → length (entry_words es) ≡ 2 * length es
length_words [] = refl
length_words (e ∷ es) = omega (arith, length_words es)

pub block_long : (θ H level back forward : ℕ) (e : ℕ → Entry ℕ) → length (block θ H level back forward e) ≡ node_words θ
unfolding block node_words
block_long θ H level back forward e =
    omega (arith, length_words (tab (2 ^ θ) (Rattle.split.specs.Block.kept H e)), length_tab (2 ^ θ) (Rattle.split.specs.Block.kept H e))

block_forward : (θ H level back forward : ℕ) (e : ℕ → Entry ℕ) → forward_word (block θ H level back forward e) 0 ≡ forward
unfolding block
block_forward θ H level back forward e = refl

pub cover_long : (θ : ℕ) (ws : List ℕ) (k : Key) (d q : ℕ) → length (cover θ ws k d q) ≡ node_words θ
unfolding cover shrunk
cover_long θ ws k d q = block_long θ _ _ _ _ _

cover_forward : (θ : ℕ) (ws : List ℕ) (k : Key) (d q : ℕ) → forward_word (cover θ ws k d q) 0 ≡ forward_word ws 0
unfolding cover shrunk
cover_forward θ ws k d q = block_forward θ _ _ _ (forward_word ws 0) _

joined_forward : (θ : ℕ) (ws ws' : List ℕ) → forward_word (joined θ ws ws') 0 ≡ forward_word ws' 0
unfolding joined
joined_forward θ ws ws' = block_forward θ _ _ _ (forward_word ws' 0) _

module _ (f : Format) (s : List ℕ) (H : Headed f s) where
  abbrev h : Head
  h = head_of s

  abbrev pub InNode : ℕ → Type 0
  InNode n = (1 ≤ n) × (n ≤ h.nodes_taken)

  pub record SpotIn (x : Spot) : Type 0 where
    pub number_in : InNode x.number
    pub long : length x.block ≡ node_words h.theta
    pub forward_in : forward_word x.block 0 ≤ h.nodes_taken

  -- a node that keeps the rule of some level
  pub node_long : (n : ℕ) → InNode n → length (node_of s n) ≡ node_words h.theta
  unfolding node_at
  node_long n i =
      length_part s (node_start h n) (node_words h.theta)
      (omega (arith, node_end h n i.0 (omega (arith, i.1, H.counts.taken)), nodes_end_lem h f, H.room))

  pub rule_forward : (n level : ℕ) → InNode n → node_rule h s (node_start h n) level ≡ true → forward_word (node_of s n) 0 ≤ h.nodes_taken
  unfolding node_at node_words
  rule_forward n level i rule =
      let at : ℕ = node_start h n in
      let same : forward_word (node_of s n) 0 ≡ forward_word s at =
      part_word s at (node_words h.theta) 3
      (omega (arith, node_end h n i.0 (omega (arith, i.1, H.counts.taken)), nodes_end_lem h f, H.room)) (omega arith) in
      let links = (node_facts h s at level rule).links in
      elim (ℕ_discrete level 1) [
        | yes e ↦
            let b = leb (back_word s at) h.nodes_taken in
            let g = leb (forward_word s at) h.nodes_taken in
            let l = and_true b g (link_1 h level (back_word s at) (forward_word s at) b g e refl refl ∙ links) in
            omega (arith, same, leb-true (forward_word s at) h.nodes_taken l.1)
        | no e ↦
            let b = eqb (back_word s at) 0 in
            let g = eqb (forward_word s at) 0 in
            let l = and_true b g (link_above h level (back_word s at) (forward_word s at) b g e refl refl ∙ links) in
            omega (arith, same, eqb-true (forward_word s at) 0 l.1)
      ]

  visited_forward : (k level n used : ℕ) → InNode n → (step_of f s h k level n used).ok ≡ true → forward_word (node_of s n) 0 ≤ h.nodes_taken
  visited_forward k level n used i e =
      rule_forward n level i (sound_facts f s h level n used (visited_sound f s h k level n used e)).0

  -- the descent to a sibling ends at a taken block
  seek_in : (k m target j n used : ℕ) (reached : List Reach) → Enters f s h k (j + target) n
      → (seek f s h k m target j n used reached).ok ≡ true → (seek f s h k m target j n used reached).found ≡ true
      → Enters f s h k target (seek f s h k m target j n used reached).pointer
  unfolding seek damaged_way
  seek_in k m target zero n used reached e a b = subst (λ l. Enters f s h k l n) (let z : 0 + target ≡ target = omega arith in z) e
  seek_in k m target (suc j) n used reached e a b =
      let level : suc j + target ≡ suc (j + target) = omega arith in
      let v : Visit = step_of f s h k (suc j + target) n used in
      let r : Reach = Rattle.remove.specs.Remove.reach_at (width f) k n used in
      elim (bool_cases (v.ok && Rattle.remove.specs.Remove.once r reached)) [
        | inr x ↦ absurd (false≢true (rw (x, seek) at a))
        | inl x ↦
            elim (bool_cases (ltb m (used + v.depth))) [
              | inl y ↦ absurd (false≢true (rw (x, y, seek) at b))
              | inr y ↦
                  let ok : (step_of f s h k (suc (j + target)) n used).ok ≡ true =
                  ap (λ l. (step_of f s h k l n used).ok) (sym level) ∙ (and_true v.ok _ x).0 in
                  let p : Enters f s h k (j + target) v.pointer =
                  subst (λ l. Enters f s h k (j + target) (step_of f s h k l n used).pointer) (sym level)
                  (points f s h k (j + target) n used ok) in
                  rw (x, y, seek)
                  (seek_in k m target j v.pointer (used + v.depth) (r ∷ reached) p (rw (x, y, seek) at a) (rw (x, y, seek) at b))
            ]
      ]

  root_enters : (k l : ℕ) → 1 ≤ l → Enters f s h k l h.root
  root_enters k zero e = absurd (omega (arith, e))
  root_enters k (suc l) e = (H.counts.root_low, H.counts.root)

  pub sibling_in : (k m target : ℕ) (reached : List Reach) → (sibling f s h k m target reached).ok ≡ true
      → (sibling f s h k m target reached).found ≡ true
      → Enters f s h (sibling_key (width f) k m) target (sibling f s h k m target reached).pointer
  sibling_in k m target reached a b =
      seek_in (sibling_key (width f) k m) m target (h.levels - target) h.root 0 reached
      (root_enters (sibling_key (width f) k m) (h.levels - target + target) (omega (arith, H.counts.levels_low))) a b

  -- nodes
  pub record NodesIn (g : NodesR) : Type 0 where
    pub spot_in : SpotIn g.spot
    pub released_in : In h.nodes_taken g.released

  pub in_append : (m : ℕ) (xs ys : List ℕ) → In m xs → In m ys → In m (xs ++ ys)
  in_append m [] ys a b = b
  in_append m (x ∷ xs) ys a b = (a.0, in_append m xs ys a.1 b)

  both_in : (k m q : ℕ) (g : NodesR) (bt : Bool) (p : ℕ) (reached : List Reach) → NodesIn g → InNode p
      → forward_word (node_of s p) 0 ≤ h.nodes_taken
      → NodesIn (both_nodes f s h k m q g bt p reached)
  unfolding both_nodes
  both_in k m q g true p reached i n b =
      record {
        spot_in = record {
          number_in = n;
          long = cover_long h.theta _ _ _ _;
          forward_in = omega (
            arith,
            cover_forward h.theta (joined h.theta (node_of s p) g.spot.block)
                (Rattle.lists.specs.Bits.bits (width f - (g.spot.used - 1)) k) (m - (g.spot.used - 1)) q,
            joined_forward h.theta (node_of s p) g.spot.block,
            i.spot_in.forward_in,
          );
        };
        released_in = in_append h.nodes_taken g.released (g.spot.number ∷ []) i.released_in (i.spot_in.number_in, tt);
      }
  both_in k m q g false p reached i n b =
      record {
        spot_in = record {
          number_in = i.spot_in.number_in;
          long = cover_long h.theta _ _ _ _;
          forward_in = omega (
            arith,
            cover_forward h.theta (joined h.theta g.spot.block (node_of s p))
                (Rattle.lists.specs.Bits.bits (width f - (g.spot.used - 1)) k) (m - (g.spot.used - 1)) q,
            joined_forward h.theta g.spot.block (node_of s p),
            b,
          );
        };
        released_in = in_append h.nodes_taken g.released (p ∷ []) i.released_in (n, tt);
      }

  sibling_forward : (k m level p : ℕ) (reached : List Reach) → sibling_ok f s h k m level p reached ≡ true → InNode p
      → forward_word (node_of s p) 0 ≤ h.nodes_taken
  unfolding sibling_ok
  sibling_forward k m level p reached t e = visited_forward (sibling_key (width f) k m) level p m e (and_true _ _ t).0

  joins_in : (k level m q : ℕ) → 1 ≤ level → (n : ℕ) (g : NodesR) → NodesIn g → (node_joins f s h k level m q n g).ok ≡ true
      → NodesIn (node_joins f s h k level m q n g)
  unfolding node_joins
  joins_in k level m q some zero g i a = i
  joins_in k level m q some (suc n) g i a =
      let z : Sought = sibling f s h k g.spot.used level g.reached in
      elim (bool_cases z.ok) [
        | inr x ↦ absurd (false≢true (ap (λ (y : NodesR). y.ok) (sym (node_lost f s h k level m q n g x)) ∙ a))
        | inl x ↦
            elim (bool_cases z.found) [
              | inr y ↦ subst NodesIn (sym (turn_none f s h k level m q n g z refl x y))
                  (record { spot_in = i.spot_in; released_in = i.released_in })
              | inl y ↦
                  let p : ℕ = z.pointer in
                  let e = enters_node level some p (sibling_in k g.spot.used level g.reached x y) in
                  elim (bool_cases (sibling_ok f s h k g.spot.used level p z.reached)) [
                    | inr t ↦ absurd (false≢true (ap (λ (y : NodesR). y.ok) (sym (node_damaged f s h k level m q n g z refl x y t)) ∙ a))
                    | inl t ↦
                        elim (bool_cases (leb (suc
                        (max (Rattle.node.specs.Node.depth_word g.spot.block 0) (Rattle.node.specs.Node.depth_word (node_of s p) 0)))
                        h.theta)) [
                          | inr u ↦ subst NodesIn (sym (turn_tall f s h k level m q n g z refl x y t u))
                              (record { spot_in = i.spot_in; released_in = i.released_in })
                          | inl u ↦
                              elim (bool_cases (not (eqb level 1) || links_ok s h g.spot p (on_left (width f) k g.spot.used))) [
                                | inr w ↦ absurd (false≢true
                                    (ap (λ (y : NodesR). y.ok) (sym (node_unlinked f s h k level m q n g z refl x y t u w)) ∙ a))
                                | inl w ↦
                                    let on : NodesR = both_nodes f s h k m q g (on_left (width f) k g.spot.used) p
                                    (rs f s h k level m q n g z refl x) in
                                    let eq = turn_on f s h k level m q n g z refl x y t u w in
                                    subst NodesIn (sym eq)
                                    (joins_in k level m q some n on
                                    (both_in k m q g (on_left (width f) k g.spot.used) p (rs f s h k level m q n g z refl x) i e
                                    (sibling_forward k g.spot.used level p z.reached t e))
                                    (ap (λ (y : NodesR). y.ok) (sym eq) ∙ a))
                              ]
                        ]
                  ]
            ]
      ]
    where
      enters_node : (l : ℕ) → 1 ≤ l → (p : ℕ) → Enters f s h (sibling_key (width f) k g.spot.used) l p → InNode p
      enters_node zero e p w = absurd (omega (arith, e))
      enters_node (suc l) e p w = w

  -- levels
  abbrev pub StepFine : Step → Type 0
  StepFine t = InNode t.node × (forward_word (node_of s t.node) 0 ≤ h.nodes_taken)

  pub record LevelsIn (l : Levels) : Type 0 where
    pub spots_in : All SpotIn l.spots
    pub released_in : In h.nodes_taken l.released

  spots_at : (ts : List Step) → All StepFine ts → All SpotIn (map (spot_at s) ts)
  spots_at [] a = tt
  spots_at (t ∷ ts) a =
      (record { number_in = a.0.0; long = node_long t.node a.0.0; forward_in = a.0.1 }, spots_at ts a.1)

  pub levels_in : (k level : ℕ) (ts : List Step) (m q : ℕ) (joins : Bool) (reached : List Reach) → 1 ≤ level → All StepFine ts
      → (levels_from f s h k level ts m q joins reached).ok ≡ true → LevelsIn (levels_from f s h k level ts m q joins reached)
  unfolding levels_from
  levels_in k level [] m q joins reached some a ok = record { spots_in = tt; released_in = tt }
  levels_in k level (t ∷ ts) m q joins reached some a ok =
      let g : NodesR = level_of f s h k level t ts m q reached joins in
      elim (bool_cases g.ok) [
        | inr x ↦ absurd (false≢true (ap (λ (l : Levels). l.ok) (sym (levels_lost f s h k level t ts m q reached joins g refl x)) ∙ ok))
        | inl x ↦
            let i : NodesIn g = level_in joins x in
            elim (bool_cases (ltb g.spot.used t.used)) [
              | inr y ↦
                  subst LevelsIn (sym (levels_stay f s h k level t ts m q reached joins g refl x y))
                  (record { spots_in = (i.spot_in, spots_at ts a.1); released_in = i.released_in })
              | inl y ↦
                  let up : Levels = levels_from f s h k (suc level) ts g.spot.used g.spot.number true g.reached in
                  let eq = levels_go f s h k level t ts m q reached joins g refl x y up refl in
                  let j : LevelsIn up =
                  levels_in k (suc level) ts g.spot.used g.spot.number true g.reached (omega arith) a.1
                  (ap (λ (l : Levels). l.ok) (sym eq) ∙ ok) in
                  subst LevelsIn (sym eq)
                  (record {
                    spots_in = (i.spot_in, j.spots_in);
                    released_in =
                        in_append h.nodes_taken g.released up.released i.released_in j.released_in;
                  })
            ]
      ]
    where
      start_in : NodesIn (start_of f s h k level t ts m q reached)
      start_in =
          record {
            spot_in = record {
              number_in = a.0.0;
              long = cover_long h.theta _ _ _ _;
              forward_in = omega (
                arith,
                cover_forward h.theta (node_of s t.node) (Rattle.lists.specs.Bits.bits (width f - t.used) k) (m - t.used) q,
                a.0.1,
              );
            };
            released_in = tt;
          }

      level_in : (joins : Bool) → (level_of f s h k level t ts m q reached joins).ok ≡ true
          → NodesIn (level_of f s h k level t ts m q reached joins)
      level_in true ok = joins_in k level m q some t.used (start_of f s h k level t ts m q reached) start_in ok
      level_in false ok = start_in

  -- pages
  pub record PagesIn (g : Pages) : Type 0 where
    pub page_in : g.page ≤ h.pages_taken
    pub fits : length g.items ≤ h.capacity
    pub released_in : In h.pages_taken g.released

  abbrev stuck_in : (g : Pages) → PagesIn g → (reached : List Reach) → PagesIn (stuck_pages g reached)
  stuck_in g i reached = record { page_in = i.page_in; fits = i.fits; released_in = i.released_in }

  either_in : (l r : ℕ) → l ≤ h.pages_taken → r ≤ h.pages_taken → (either_page l r ≤ h.pages_taken) × In h.pages_taken (lost_page l r)
  either_in l r a b =
      elim (ℕ_discrete l 0) [
        | yes e ↦ (omega (arith, either_null l r e, b), subst (In h.pages_taken) (sym (lost_left l r e)) tt)
        | no e ↦ (
          omega (arith, either_own l r e, a),
          elim (ℕ_discrete r 0) [
            | yes d ↦ subst (In h.pages_taken) (sym (lost_right l r e d)) tt
            | no d ↦ subst (In h.pages_taken) (sym (lost_one l r e d)) ((omega (arith, d), b), tt)
          ],
        )
      ]

  both_pages_in : (g : Pages) (bt : Bool) (p : ℕ) (its : List Item) (reached : List Reach) → PagesIn g → p ≤ h.pages_taken
      → length g.items + length its ≤ h.capacity → PagesIn (both_pages g bt p its reached)
  unfolding both_pages
  both_pages_in g true p its reached i a b =
      let w = either_in p g.page a i.page_in in
      record {
        page_in = w.0;
        fits = omega (arith, b, length-append its g.items);
        released_in = in_append h.pages_taken g.released (lost_page p g.page) i.released_in w.1;
      }
  both_pages_in g false p its reached i a b =
      let w = either_in g.page p i.page_in a in
      record {
        page_in = w.0;
        fits = omega (arith, b, length-append g.items its);
        released_in = in_append h.pages_taken g.released (lost_page g.page p) i.released_in w.1;
      }

  pub pages_in : (k n : ℕ) (g : Pages) → PagesIn g → (page_joins f s h k n g).ok ≡ true → PagesIn (page_joins f s h k n g)
  unfolding page_joins
  pages_in k zero g i a = i
  pages_in k (suc n) g i a =
      let z : Sought = sibling f s h k g.used 0 g.reached in
      elim (bool_cases z.ok) [
        | inr x ↦ absurd (false≢true (ap (λ (y : Pages). y.ok) (sym (turn_lost f s h k n g x)) ∙ a))
        | inl x ↦
            elim (bool_cases z.found) [
              | inr y ↦ subst PagesIn (sym (Rattle.remove.proofs.PagePhase.turn_none f s h k n g z refl x y))
                  (stuck_in g i z.reached)
              | inl y ↦
                  let p : ℕ = z.pointer in
                  let e : p ≤ h.pages_taken = sibling_in k g.used 0 g.reached x y in
                  elim (bool_cases (eqb p 0 || sound_page f h (page_at f s h p) (sibling_key (width f) k g.used) g.used)) [
                    | inr t ↦ absurd (false≢true (ap (λ (y : Pages). y.ok) (sym (turn_damaged f s h k n g z refl x y t)) ∙ a))
                    | inl t ↦
                        elim (bool_cases (leb (length g.items + length (own_items f s h p)) h.capacity)) [
                          | inr u ↦ subst PagesIn (sym (turn_full f s h k n g z refl x y t u)) (stuck_in g i z.reached)
                          | inl u ↦
                              let eq = Rattle.remove.proofs.PagePhase.turn_on f s h k n g z refl x y t u in
                              subst PagesIn (sym eq)
                              (pages_in k n (both_pages g (on_left (width f) k g.used) p (own_items f s h p) z.reached)
                              (both_pages_in g (on_left (width f) k g.used) p (own_items f s h p) z.reached i e (leb-true _ _ u))
                              (ap (λ (y : Pages). y.ok) (sym eq) ∙ a))
                        ]
                  ]
            ]
      ]

  pub emptied_in : (used p : ℕ) (its : List Item) (reached : List Reach) → 1 ≤ p → p ≤ h.pages_taken → length its ≤ h.capacity
      → PagesIn (emptied used p its reached)
  unfolding emptied
  emptied_in used p [] reached a b c = record { page_in = omega arith; fits = c; released_in = ((a, b), tt) }
  emptied_in used p (x ∷ xs) reached a b c = record { page_in = b; fits = c; released_in = tt }
