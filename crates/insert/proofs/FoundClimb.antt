-- A climb keeps a sound path sound, in any words: a node that has room grows in place; one that splits leaves a half on the path, and the
-- run above it is halved to the two halves; above a split root stands the new one.
--   Here t l n v      == node n is the image of v at level l + 1, with links in range
--   Climbs l path next r == the climb r along the path leaves a sound path, one bit longer, that leads to next
--   reached_by path a c == the one of a and c that the key's first bit behind the path chooses
--   SplitInto s t l p path lo up == t is s with the node at p split into lo and up, and the nodes of the path above as they were
--   ClimbSound path   == a climb along the path keeps it
use mathlib.Core.Path.{◌≡◌, refl, sym, ap, ◌∙◌, subst}
use mathlib.Core.Bool.{Bool}
use mathlib.Core.List.{List, [], ◌∷◌}
use Prim.Native.Nat.{ℕ, zero, suc, ◌+◌, ◌-◌, ◌≤◌, ◌<◌}
use native.Mathlib.Nat.{sub-zero}
use native.Mathlib.Omega.{arith}
use native.Mathlib.Decide.{dec_lt}
use lib.ListN.{length, drop}
use Rattle.lists.specs.Bits.{bit, bits}
use Rattle.lists.specs.Lists.{All}
use Rattle.lists.proofs.ListLaws.{all_map, all_both}
use Rattle.tree.specs.Trie.{Trie, fork, Key, height, depth, rest, graft, pair}
use Rattle.tree.specs.Carry.{bump_cost}
use Rattle.tree.proofs.CarryLaws.{bump_full}
use Rattle.tree.proofs.TrieLaws.{depth_pair, height_split, depth_split, leaf_at_graft}
use Rattle.store.specs.declared.Format.{Format}
use Rattle.store.specs.Format.{width}
use Rattle.store.specs.Head.{head_of}
use Rattle.node.specs.Node.{back_word, forward_word}
use Rattle.represent.specs.Image.{NodeIs}
use Rattle.represent.specs.Labelled.{occ}
use Rattle.split.specs.Frame.{node_of}
use Rattle.split.specs.Round.{NodeLaws, Place, Climbed, chosen, deeper, in_half, grown, split_node, new_root, climb}
use Rattle.split.specs.Insertion.{others, word_store}
use Rattle.split.specs.Block.{top, node_ops}
use Rattle.split.proofs.BlockLaws.{node_ops_are}
use Rattle.split.proofs.Blocks.{Written, top_written, grow_written, lower_written, upper_written}
use Rattle.split.proofs.Grafts.{forked}
use Rattle.split.proofs.WordStore.{others_pages_taken}
use Rattle.split.proofs.Frame.{node_taken_root, node_taken_levels}
use Rattle.store.specs.Released.{next_node}
use Rattle.represent.specs.Rep.{Sized}
use Rattle.represent.specs.Labelled.{count as counted}
use Rattle.represent.proofs.LabelLaws.{ind_eq, ind_self}
use Rattle.insert.proofs.Supplies.{supply_next}
use Rattle.split.proofs.Climb.{climb_room, climb_full}
use Rattle.insert.specs.Fine.{Off, Among, Apart, Supply, Clear, depths, sum}
use Rattle.insert.proofs.InsideWrites.{clear_behind, grown_now, grown_head, grown_here, grown_other, halve_now, halve_head, halve_lower, halve_upper}
use Rattle.insert.proofs.InsideWrites.{root_now, root_head, climb_now}
use Rattle.insert.proofs.HeldRound.{Beside, beside_off}
use Rattle.insert.proofs.FoundPath.{Enters, LinksIn, More, enters_more, links_more, half_of, half_here, half_depth_lem, half_leaf}
use Rattle.insert.proofs.FoundPath.{half_height, half_occ, graft_labels, pair_labels, Stands, Sound, sound_moved}
use Rattle.insert.proofs.FoundPath.{sound_among, stands_deep, stands_rest}

pub links_none : (s : List ℕ) (l : ℕ) → LinksIn s l 0 0
links_none s zero = (omega arith, omega arith)
links_none s (suc l) = (refl, refl)

pub more_others : (s t : List ℕ) → (head_of s).nodes_taken ≤ (head_of t).nodes_taken → others t ≡ others s → More s t
more_others s t h e = record { nodes = h; pages = omega (arith, others_pages_taken s t e) }

-- nodes of a path that a write leaves
pub path_same : (s t : List ℕ) (n m : ℕ) (ns : List ℕ) (path : List Place) → Among m path → Clear ns path → Beside n path
    → ((x : ℕ) → 1 ≤ x → counted x ns ≡ 0 → (x ≡ n → ⊥) → node_of t x ≡ node_of s x) → All (λ p. node_of t p.at ≡ node_of s p.at) path
path_same s t n m ns path among clear off same =
    all_both (λ p. ((1 ≤ p.at) × (p.at ≤ m)) × (counted p.at ns ≡ 0)) (λ p. n ≡ p.at → ⊥) (λ p. node_of t p.at ≡ node_of s p.at) path
    (λ p a b. same p.at a.0.0 a.1 (λ e. b (sym e)))
    (all_both (λ p. (1 ≤ p.at) × (p.at ≤ m)) (λ p. counted p.at ns ≡ 0) (λ p. ((1 ≤ p.at) × (p.at ≤ m)) × (counted p.at ns ≡ 0)) path
    (λ p a b. (a, b)) among clear)
    off

module _ (f : Format) (θ key : ℕ) where
  abbrev pub Here : List ℕ → ℕ → ℕ → Trie ℕ → Type 0
  Here t l n v =
      ((1 ≤ n) × (n ≤ (head_of t).nodes_taken)) × NodeIs θ (node_of t n) (suc l) v
      × LinksIn t l (back_word (node_of t n) 0) (forward_word (node_of t n) 0)

  -- a block written
  pub written_here : (t : List ℕ) (l n : ℕ) (ws : List ℕ) (back forward : ℕ) (v : Trie ℕ) → (1 ≤ n) × (n ≤ (head_of t).nodes_taken)
      → node_of t n ≡ ws → Written θ ws (suc l) back forward v → LinksIn t l back forward → Here t l n v
  written_here t l n ws back forward v within e w links = (
    within,
    subst (λ bs. NodeIs θ bs (suc l) v) (sym e) w.is,
    subst (λ b. LinksIn t l b (forward_word (node_of t n) 0)) (sym (ap (λ bs. back_word bs 0) e ∙ w.back_is))
        (subst (λ g. LinksIn t l back g) (sym (ap (λ bs. forward_word bs 0) e ∙ w.forward_is)) links),
  )

  pub here_moved : (s t : List ℕ) (l n : ℕ) (v : Trie ℕ) → More s t → node_of t n ≡ node_of s n → Here s l n v → Here t l n v
  here_moved s t l n v m e y = (
    (y.0.0, omega (arith, y.0.1, m.nodes)),
    subst (λ bs. NodeIs θ bs (suc l) v) (sym e) y.1,
    subst (λ bs. LinksIn t l (back_word bs 0) (forward_word bs 0)) (sym e) (links_more s t l _ _ m y.2),
  )

  -- the half that the key is in
  half_at_lem : (t : List ℕ) (l n m : ℕ) (v lo up : Trie ℕ) (b : Bool) (k : Key) (a c used : ℕ)
      → graft v (b ∷ k) (pair a c) ≡ fork lo up → height v ≤ θ → depth v (b ∷ k) ≡ θ → used + θ < width f
      → ((x : ℕ) → 1 ≤ occ x v → Enters t l x) → Enters t l a → Enters t l c → k ≡ bits (width f - suc used) key
      → Here t l n lo → Here t l m up
      → Stands f θ key t l (chosen (b ∷ k) n m) k θ (suc used) (chosen (rest v (b ∷ k)) a c)
  half_at_lem t l n m v lo up b k a c used e low deep room old ea ec own hn hm =
      let y = half_here (Here t l) b k n m lo up hn hm in
      record {
        trie = half_of b lo up;
        within = y.0;
        is = y.1;
        links = y.2;
        points = λ x o.
            graft_labels (Enters t l) v (b ∷ k) (pair a c) old (pair_labels (Enters t l) a c ea ec) x
            (omega (arith, half_occ v lo up b (graft v (b ∷ k) (pair a c)) e x));
        bits_are = own;
        room = omega (arith, half_height v lo up b (graft v (b ∷ k) (pair a c)) e, height_split v (b ∷ k) a c);
        depth_is = half_depth_lem v lo up b k a c e ∙ deep;
        next_is = half_leaf v lo up b k a c e;
      }

  module _ {s : List ℕ} {l n : ℕ} {ks : Key} {d used next : ℕ} (y : Stands f θ key s l n ks d used next) where
    -- the first of the bits that are left
    pub stands_bits : used < width f → ks ≡ bit (width f - suc used) key ∷ bits (width f - suc used) key
    stands_bits h = let e : width f - used ≡ suc (width f - suc used) = omega arith in y.bits_are ∙ ap (λ w. bits w key) e

    pub half_stands : (t : List ℕ) (m a c : ℕ) (lo up : Trie ℕ) → graft y.trie ks (pair a c) ≡ fork lo up → More s t
        → Enters t l a → Enters t l c → d ≡ θ → d + used < width f → Here t l n lo → Here t l m up
        → Stands f θ key t l (chosen ks n m) (drop 1 ks) θ (suc used) (chosen (bits (width f - (d + used)) key) a c)
    half_stands t m a c lo up e more ea ec full room hn hm =
        let v : Trie ℕ = y.trie in
        let own = stands_bits (omega arith) in
        let k : Key = bits (width f - suc used) key in
        let b : Bool = bit (width f - suc used) key in
        subst (λ q. Stands f θ key t l (chosen ks n m) (drop 1 ks) θ (suc used) (chosen q a c)) (stands_rest f θ key y)
        (subst (λ q. Stands f θ key t l (chosen q n m) (drop 1 q) θ (suc used) (chosen (rest v q) a c)) (sym own)
        (half_at_lem t l n m v lo up b k a c used (subst (λ q. graft v q (pair a c) ≡ fork lo up) own e) y.is.low
        (ap (depth v) (sym own) ∙ y.depth_is ∙ full) (omega arith) (λ x o. enters_more s t l x more (y.points x o)) ea ec refl hn hm))

  pub record Climbs (l : ℕ) (path : List Place) (next : ℕ) (r : Climbed (List ℕ)) : Type 0 where
    pub sound : Sound f θ key r.store l r.path next
    pub longer : sum (depths r.path) ≡ suc (sum (depths path))

  abbrev pub reached_by : List Place → ℕ → ℕ → ℕ
  reached_by path a c = chosen (bits (width f - sum (depths path)) key) a c

  pub record SplitInto (s t : List ℕ) (l : ℕ) (p : Place) (path : List Place) (lo up : Trie ℕ) (ns : List ℕ) : Type 0 where
    pub sized : Sized f t
    pub theta : (head_of t).theta ≡ θ
    pub supply : Supply t ns
    pub taken : (head_of s).nodes_taken ≤ (head_of t).nodes_taken
    pub root_same : (head_of t).root ≡ (head_of s).root
    pub levels_same : (head_of t).levels ≡ (head_of s).levels
    pub others_same : others t ≡ others s
    pub lower_is : Here t l p.at lo
    pub upper_is : Here t l (next_node s) up
    pub above_same : All (λ q. node_of t q.at ≡ node_of s q.at) path

  module _ (pos : 1 ≤ θ) where
    laws : NodeLaws θ (node_ops θ)
    laws = node_ops_are θ pos

    abbrev pub ClimbSound : List Place → Type 0
    ClimbSound path =
        (s : List ℕ) (l a c next : ℕ) (ns : List ℕ) → Sized f s → (head_of s).theta ≡ θ → Supply s ns → Clear ns path
        → bump_cost θ (depths path) ≤ length ns
        → Sound f θ key s l path next → Apart path → sum (depths path) < width f → Enters s l a → Enters s l c
        → Climbs l path (reached_by path a c) (climb (node_ops θ) (word_store f θ) θ (bits (width f) key) s path a c)

    -- a node that has room
    pub grown_sound : (s : List ℕ) (l : ℕ) (p : Place) (path : List Place) (a c next : ℕ) (ns : List ℕ) → Sized f s → (head_of s).theta ≡ θ
        → Supply s ns → Clear ns (p ∷ path) → Sound f θ key s l (p ∷ path) next → Apart (p ∷ path)
        → sum (depths (p ∷ path)) < width f → Enters s l a → Enters s l c → p.depth < θ
        → Climbs l (p ∷ path) (reached_by (p ∷ path) a c)
        (record { store = grown (node_ops θ) (word_store f θ) s p a c; path = deeper p ∷ path })
    grown_sound s l p path a c next ns ok own supply clear y apart left ea ec room =
        let z = y.0 in
        let v : Trie ℕ = z.trie in
        let w = grow_written laws z.is p.bits a c (omega (arith, z.depth_is)) in
        let u : Trie ℕ = graft v p.bits (pair a c) in
        let t : List ℕ = grown (node_ops θ) (word_store f θ) s p a c in
        let put = grown_now f θ s p a c ok own z.within ns supply clear.0 path in
        let head = grown_head f θ s p a c ok own z.within supply.fits in
        let more : More s t = more_others s t put.taken put.others_same in
        let here =
        written_here t l p.at _ _ _ u (z.within.0, omega (arith, z.within.1, put.taken))
        (grown_here f θ s p a c ok own z.within supply.fits) w
        (links_more s t l _ _ more z.links) in
        record {
          sound = (
            record {
              trie = u;
              within = here.0;
              is = here.1;
              links = here.2;
              points = graft_labels (Enters t l) v p.bits (pair a c) (λ x o. enters_more s t l x more (z.points x o))
                  (pair_labels (Enters t l) a c (enters_more s t l a more ea) (enters_more s t l c more ec));
              bits_are = z.bits_are;
              room = omega (arith, height_split v p.bits a c, z.room, z.depth_is);
              depth_is = depth_split v p.bits a c ∙ ap suc z.depth_is;
              next_is = leaf_at_graft v p.bits (pair a c) ∙ ap (λ q. chosen q a c) (stands_rest f θ key z);
            },
            sound_moved f θ key s t (suc l) path p.at more (ap (λ h. h.root) head) (ap (λ h. h.levels) head)
                (path_same s t p.at (head_of s).nodes_taken ns path (sound_among f θ key s (suc l) path p.at y.1) clear.1 apart.0
                (λ x low z ne. grown_other f θ s p a c ok own y.0.within supply.fits x low ne))
                y.1,
          );
          longer = omega arith;
        }

    -- a node that splits, and the climb above it
    pub above_sound : (s t : List ℕ) (l : ℕ) (p : Place) (path : List Place) (a c next : ℕ) (lo up : Trie ℕ) (n : ℕ) (ns : List ℕ)
        → Sized f s → Supply s (n ∷ ns) → Clear (n ∷ ns) (p ∷ path) → bump_cost θ (depths (p ∷ path)) ≤ length (n ∷ ns)
        → (y : Sound f θ key s l (p ∷ path) next) → Apart (p ∷ path) → sum (depths (p ∷ path)) < width f → Enters s l a → Enters s l c
        → θ ≤ p.depth → graft y.0.trie p.bits (pair a c) ≡ fork lo up → SplitInto s t l p path lo up ns → ClimbSound path
        → Climbs l (p ∷ path) (reached_by (p ∷ path) a c)
        (let r = climb (node_ops θ) (word_store f θ) θ (bits (width f) key) t path p.at (next_node s) in
        record { store = r.store; path = in_half θ p (next_node s) ∷ r.path })
    above_sound s t l p path a c next lo up n ns ok supply clear room y apart left ea ec full e w climbs =
        let cost = (bump_full θ p.depth (depths path) full).1 in
        let m : ℕ = next_node s in
        let q = supply_next f s n ns ok supply in
        let r : Climbed (List ℕ) = climb (node_ops θ) (word_store f θ) θ (bits (width f) key) t path p.at m in
        let v : List ℕ = r.store in
        let z = y.0 in
        let deep : p.depth ≡ θ = omega (arith, stands_deep f θ key z) in
        let more : More s t = more_others s t w.taken w.others_same in
        let up_t : Sound f θ key t (suc l) path p.at =
        sound_moved f θ key s t (suc l) path p.at more w.root_same w.levels_same w.above_same y.1 in
        let clear_t = clear_behind f θ n ns path clear.1 in
        let room_t : bump_cost θ (depths path) ≤ length ns = omega (arith, cost) in
        let now =
        (climb_now f θ path (bits (width f) key) t p.at m ns w.sized w.theta
        (sound_among f θ key t (suc l) path p.at up_t) w.supply clear_t room_t).0 in
        let g =
        climbs t (suc l) p.at m p.at ns w.sized w.theta w.supply clear_t room_t up_t apart.1 (omega arith)
        (z.within.0, omega (arith, z.within.1, w.taken)) w.upper_is.0 in
        let more_v : More t v = more_others t v now.taken now.others_same in
        let off_m : Off m path =
        all_map (λ p. counted p.at (n ∷ ns) ≡ 0) (λ p. p.at ≡ m → ⊥) path (λ p d i. omega (arith, ind_eq p.at n (i ∙ q.is)))
        clear.1 in
        let here_n : Here v l p.at lo =
        here_moved t v l p.at lo more_v
        (now.frame p.at z.within.0 (omega (arith, clear.0)) (beside_off p.at path apart.0)) w.lower_is in
        let here_m : Here v l m up =
        here_moved t v l m up more_v
        (now.frame m (omega (arith, q.is, q.low)) (ap (λ x. counted x ns) q.is ∙ q.gone) off_m)
        w.upper_is in
        let more_s : More s v =
        record { nodes = omega (arith, more.nodes, more_v.nodes); pages = omega (arith, more.pages, more_v.pages) } in
        record {
          sound = (
            subst (λ n. Stands f θ key v l (chosen p.bits p.at m) (drop 1 p.bits) θ n (reached_by (p ∷ path) a c)) (sym g.longer)
                (half_stands z v m a c lo up e more_s (enters_more s v l a more_s ea) (enters_more s v l c more_s ec) deep left here_n
                here_m),
            subst (λ q. Sound f θ key v (suc l) r.path (chosen q p.at m)) (sym z.bits_are) g.sound,
          );
          longer = omega (arith, g.longer, deep);
        }

    -- a new root
    root_sound : (s : List ℕ) (l a c n : ℕ) (ns : List ℕ) → Sized f s → (head_of s).theta ≡ θ → Supply s (n ∷ ns) → (head_of s).levels ≡ l
        → 0 < width f → Enters s l a → Enters s l c
        → Climbs l [] (chosen (bits (width f - 0) key) a c) (record {
          store = new_root (node_ops θ) (word_store f θ) s a c;
          path = record { at = next_node s; bits = bits (width f) key; depth = 1 } ∷ [];
        })
    root_sound s l a c n ns ok own supply level left ea ec =
        let m : ℕ = next_node s in
        let q = supply_next f s n ns ok supply in
        let w = top_written laws (suc (head_of s).levels) a c pos in
        let now = root_now f θ s a c n ns ok own supply in
        let head = root_head f θ s a c n ns ok own supply in
        let t : List ℕ = new_root (node_ops θ) (word_store f θ) s a c in
        let more : More s t = more_others s t now.0.taken now.0.others_same in
        let in_t : (1 ≤ m) × (m ≤ (head_of t).nodes_taken) =
        (omega (arith, q.is, q.low), omega (arith, q.is, now.0.new n (omega (arith, ind_self n)))) in
        let here =
        written_here t l m _ 0 0 (pair a c) in_t now.1
        (subst (λ n. Written θ (top θ (suc (head_of s).levels) a c) (suc n) 0 0 (pair a c)) level w) (links_none t l) in
        record {
          sound = (
            record {
              trie = pair a c;
              within = here.0;
              is = here.1;
              links = here.2;
              points = pair_labels (Enters t l) a c (enters_more s t l a more ea) (enters_more s t l c more ec);
              bits_are = ap (λ n. bits n key) (sym (sub-zero (width f)));
              room = omega arith;
              depth_is = depth_pair a c (bits (width f) key);
              next_is = ap (λ n. chosen (bits n key) a c) (sym (sub-zero (width f)));
            },
            (head.0, head.1 ∙ ap suc level),
          );
          longer = refl;
        }

    -- a node above level 1 splits
    node_cut : (s : List ℕ) (l : ℕ) (p : Place) (path : List Place) (a c next : ℕ) (lo up : Trie ℕ) (n : ℕ) (ns : List ℕ) → Sized f s
        → (head_of s).theta ≡ θ → Supply s (n ∷ ns) → Clear (n ∷ ns) (p ∷ path)
        → (y : Sound f θ key s l (p ∷ path) next) → Beside p.at path
        → θ ≤ depth y.0.trie p.bits → graft y.0.trie p.bits (pair a c) ≡ fork lo up
        → SplitInto s (split_node (node_ops θ) (word_store f θ) s p a c) l p path lo up ns
    node_cut s l p path a c next lo up n ns ok own supply clear y off deep e =
        let z = y.0 in
        let q = supply_next f s n ns ok supply in
        let lw = lower_written laws z.is p.bits a c deep e in
        let uw = upper_written laws z.is p.bits a c deep e in
        let t : List ℕ = split_node (node_ops θ) (word_store f θ) s p a c in
        let now = halve_now f θ s p a c ok own z.within n ns supply clear.0 in
        let head = halve_head f θ s p a c ok own z.within n ns supply clear.0 in
        let g : More s t = more_others s t now.taken now.others_same in
        record {
          sized = now.kept.sized;
          theta = now.kept.sizes_same.theta ∙ own;
          supply = now.supply;
          taken = now.taken;
          root_same = ap (λ h. h.root) head ∙ node_taken_root s;
          levels_same = ap (λ h. h.levels) head ∙ node_taken_levels s;
          others_same = now.others_same;
          lower_is =
              written_here t l p.at _ _ _ lo (z.within.0, omega (arith, z.within.1, now.taken))
              (halve_lower f θ s p a c ok own z.within n ns supply clear.0) lw
              (links_more s t l _ _ g z.links);
          upper_is =
              written_here t l (next_node s) _ _ _ up
              (omega (arith, q.is, q.low), omega (arith, q.is, now.new n (omega (arith, ind_self n))))
              (halve_upper f θ s p a c ok own z.within n ns supply clear.0) uw
              (links_more s t l _ _ g z.links);
          above_same =
              path_same s t p.at (head_of s).nodes_taken (n ∷ ns) path (sound_among f θ key s (suc l) path p.at y.1) clear.1 off
              (λ x low d ne. now.frame x low d ((λ i. ne (sym i)), tt));
        }

    sound_top : ClimbSound []
    unfolding climb bump_cost
    sound_top s l a c next [] ok own supply clear room y apart left ea ec = absurd (omega arith)
    sound_top s l a c next (n ∷ ns) ok own supply clear room y apart left ea ec =
        root_sound s l a c n ns ok own supply y.1 left ea ec

    sound_up : (p : Place) (path : List Place) → ClimbSound path → θ ≤ p.depth → ClimbSound (p ∷ path)
    sound_up p path up full s l a c next [] ok own supply clear room y apart left ea ec =
        absurd (omega (arith, (bump_full θ p.depth (depths path) full).1))
    sound_up p path up full s l a c next (n ∷ ns) ok own supply clear room y apart left ea ec =
        let z = y.0 in
        let deep : θ ≤ depth z.trie p.bits = omega (arith, z.depth_is) in
        let q = forked z.trie p.bits a c in
        subst (Climbs l (p ∷ path) (reached_by (p ∷ path) a c))
        (sym (climb_full (node_ops θ) (word_store f θ) θ (bits (width f) key) s p a c path full))
        (above_sound s (split_node (node_ops θ) (word_store f θ) s p a c) l p path a c next q.0 q.1 n ns ok supply clear room y apart left
        ea ec full q.2
        (node_cut s l p path a c next q.0 q.1 n ns ok own supply clear y apart.0 deep q.2)
        up)

    pub climb_sound : (path : List Place) → ClimbSound path
    climb_sound [] s l a c next ns ok own supply clear room y apart left ea ec =
        sound_top s l a c next ns ok own supply clear room y apart left ea ec
    climb_sound (p ∷ path) s l a c next ns ok own supply clear room y apart left ea ec =
        elim (dec_lt p.depth θ) [
          | yes h ↦
              subst (Climbs l (p ∷ path) (reached_by (p ∷ path) a c))
              (sym (climb_room (node_ops θ) (word_store f θ) θ (bits (width f) key) s p a c path h))
              (grown_sound s l p path a c next ns ok own supply clear y apart left ea ec h)
          | no h ↦
              sound_up p path (climb_sound path) (omega arith) s l a c next ns ok own supply clear room y apart left ea ec
        ]
