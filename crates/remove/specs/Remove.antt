-- Remove. Document 02, M-106. It tests first and writes then. The plan goes by value: all is read in the store as found, and a joined node
-- is a block in hand, with the links that it is to have. So nothing can be refused after the first write, on damaged stores too.
-- A prefix of the key k is its first m bits; its sibling has the last of them the other way.
--   prefix W k m         == the first m bits of the key, as a number
--   sibling_key W k m     == the sibling of the first m bits, and zeros after
--   on_left W k m         == the sibling is the left one of the pair
--   Reach, reach_at       == a node reached, and under which prefix: its bits as a number, and how many
--   once r rs            == the node of r was not reached under another prefix
--   Sought, seek, sibling == the descent to a sibling: damage, or a longer prefix, or the pointer to it
--   Pages, both_pages, page_joins == the stretch at the key at level 0, as its pages join
--   emptied              == that stretch before the first join: the key's own, without the record
--   Spot                 == a node on the key's path after its joins: its number, the bits used before it, the last node of those joined,
--                           its block
--   beside_ok, links_ok s h x p left == the level-1 nodes x and p may be joined
--   covered              == a block with the run of the stretch below in one piece
--   Nodes, both_nodes, sibling_ok, node_joins == the node at the key at one level, as it joins
--   Levels, levels_from   == the levels upward, as long as the one below joined
--   kept_levels, gone_roots, top_of == the levels that stay, the roots that are released, from the top down, and the root
--   backwards ns ms      == the numbers ms, the last one first, before ns
--   Plan, plan_over, plan_of == all that is decided
--   put_own, put_spots, back_linked, relinked, release_pages, release_nodes, written_by == the words after it
--   After, remove_of f s k == what remove replies, and the words after it
use Rattle.std.specs.Prelude.{Bool, true, false, ◌&&◌, ◌||◌, not, List, [], ◌∷◌, ◌++◌, map, ℕ, zero, suc, ◌+◌, ◌-◌, ◌*◌, ◌/◌, ◌%◌, ◌^◌, max, leb, ltb, eqb, length, take, drop}
use Rattle.lists.specs.Bits.{bits}
use Rattle.lists.specs.Lists.{all}
use Rattle.store.specs.declared.Format.{Format}
use Rattle.store.specs.declared.Head.{Head}
use Rattle.store.specs.declared.Item.{Item}
use Rattle.store.specs.Format.{width}
use Rattle.store.specs.Head.{head_of, node_start, page_at}
use Rattle.node.specs.Node.{depth_word, level_word, back_word, forward_word}
use Rattle.search.specs.declared.Step.{Step}
use Rattle.search.specs.Way.{Visit}
use Rattle.search.specs.Way.{Descent}
use Rattle.search.specs.Way.{Record, Nothing, Damaged}
use Rattle.search.specs.Descent.{step_of, descent}
use Rattle.search.specs.Find.{Reply, no_item, sound_page, find_of}
use Rattle.page.specs.Schema.{key_of}
use Rattle.split.specs.Block.{linked}
use Rattle.split.specs.Frame.{node_of, put_node, put_head}
use Rattle.split.specs.Insertion.{put_items}
use Rattle.insert.specs.Enter.{own_items}
use Rattle.joins.specs.Joins.{without}
use Rattle.store.specs.Head.{head_rule}
use Rattle.release.specs.Release.{release_node, release_page}
use Rattle.fuse.specs.Join.{cover, joined}

-- the first m bits of the key, as a number
abbrev pub prefix : ℕ → ℕ → ℕ → ℕ
prefix W k m = k / 2 ^ (W - m)

unfoldable pub on_left : ℕ → ℕ → ℕ → Bool
on_left W k m = eqb (prefix W k m % 2) 1

unfoldable pub sibling_key : ℕ → ℕ → ℕ → ℕ
sibling_key W k m =
    elim (on_left W k m) [
      | true ↦ (prefix W k m - 1) * 2 ^ (W - m)
      | false ↦ (prefix W k m + 1) * 2 ^ (W - m)
    ]

pub record Reach : Type 0 where
  pub node : ℕ
  pub bits : ℕ
  pub used : ℕ

-- "A block that one remove reaches under two prefixes .. is damaged." (Of pages the page rule says it, `PagesApart`: one has a record,
-- which agrees with its prefix, and no two prefixes under which one remove reads pages have a key in common.)
unfoldable pub once : Reach → List Reach → Bool
once r rs = all (λ x. not (eqb x.node r.node) || (eqb x.bits r.bits && eqb x.used r.used)) rs

pub record Sought : Type 0 where
  pub ok : Bool
  pub found : Bool
  pub pointer : ℕ
  pub reached : List Reach

unfoldable pub damaged_way : Sought
damaged_way = record { ok = false; found = false; pointer = 0; reached = [] }

abbrev pub reach_at : ℕ → ℕ → ℕ → ℕ → Reach
reach_at W k n used = record { node = n; bits = prefix W k used; used = used }

-- "The sibling is read each time in the tree as found, by a descent with its prefix and zeros after. That ends at the sibling, or at the
-- first entry with a longer prefix, whose block is not visited": j levels down from node n to the level `target`, m bits in all
unfoldable pub seek : Format → List ℕ → Head → ℕ → ℕ → ℕ → ℕ → ℕ → ℕ → List Reach → Sought
seek f s h k m target zero n used rs = record { ok = true; found = true; pointer = n; reached = rs }
seek f s h k m target (suc j) n used rs =
    let v : Visit = step_of f s h k (suc j + target) n used in
    elim (v.ok && once (reach_at (width f) k n used) rs) [
      | false ↦ damaged_way
      | true ↦
          elim (ltb m (used + v.depth)) [
            | true ↦ record { ok = true; found = false; pointer = 0; reached = reach_at (width f) k n used ∷ rs }
            | false ↦ seek f s h k m target j v.pointer (used + v.depth) (reach_at (width f) k n used ∷ rs)
          ]
    ]

-- the sibling of the key's first m bits at the level `target`
abbrev pub sibling : Format → List ℕ → Head → ℕ → ℕ → ℕ → List Reach → Sought
sibling f s h k m target rs = seek f s h (sibling_key (width f) k m) m target (h.levels - target) h.root 0 rs

-- pages

pub record Pages : Type 0 where
  pub ok : Bool
  -- the bits of the stretch, its page's number (0 for null), its records
  pub used : ℕ
  pub page : ℕ
  pub items : List Item
  -- released pages, the first released first
  pub released : List ℕ
  pub reached : List Reach

-- "where the left page is null the right one's number serves"
abbrev pub either_page : ℕ → ℕ → ℕ
either_page left right = elim (eqb left 0) [ true ↦ right | false ↦ left ]

-- "The left number stays and the right is released"
abbrev pub lost_page : ℕ → ℕ → List ℕ
lost_page left right = elim (eqb left 0 || eqb right 0) [ true ↦ [] | false ↦ right ∷ [] ]

abbrev pub stuck_pages : Pages → List Reach → Pages
stuck_pages g rs = record { ok = true; used = g.used; page = g.page; items = g.items; released = g.released; reached = rs }

abbrev pub no_pages : Pages
no_pages = record { ok = false; used = 0; page = 0; items = []; released = []; reached = [] }

unfoldable pub both_pages : Pages → Bool → ℕ → List Item → List Reach → Pages
both_pages g true p rs reached =
    record {
      ok = true;
      used = g.used - 1;
      page = either_page p g.page;
      items = rs ++ g.items;
      released = g.released ++ lost_page p g.page;
      reached = reached;
    }
both_pages g false p rs reached =
    record {
      ok = true;
      used = g.used - 1;
      page = either_page g.page p;
      items = g.items ++ rs;
      released = g.released ++ lost_page g.page p;
      reached = reached;
    }

-- "pages first, .. the longest prefix first, until a pair stays apart"; at most n more joins
unfoldable pub page_joins : Format → List ℕ → Head → ℕ → ℕ → Pages → Pages
page_joins f s h k zero g = g
page_joins f s h k (suc n) g =
    let z : Sought = sibling f s h k g.used 0 g.reached in
    elim z.ok [
      | false ↦ no_pages
      | true ↦
          elim z.found [
            | false ↦ stuck_pages g z.reached
            | true ↦
                elim (eqb z.pointer 0 || sound_page f h (page_at f s h z.pointer) (sibling_key (width f) k g.used) g.used) [
                  | false ↦ no_pages
                  | true ↦
                      let rs : List Item = own_items f s h z.pointer in
                      elim (leb (length g.items + length rs) h.capacity) [
                        | false ↦ stuck_pages g z.reached
                        | true ↦ page_joins f s h k n (both_pages g (on_left (width f) k g.used) z.pointer rs z.reached)
                      ]
                ]
          ]
    ]

-- "An emptied page is released."
unfoldable pub emptied : ℕ → ℕ → List Item → List Reach → Pages
emptied used p [] reached = record { ok = true; used = used; page = 0; items = []; released = p ∷ []; reached = reached }
emptied used p (x ∷ xs) reached = record { ok = true; used = used; page = p; items = x ∷ xs; released = []; reached = reached }

-- nodes

pub record Spot : Type 0 where
  pub number : ℕ
  pub used : ℕ
  pub last : ℕ
  pub block : List ℕ

-- "another taken level-1 node that links back": a neighbour m, if any, of the node n, that is to have the link
unfoldable pub beside_ok : List ℕ → Head → ℕ → ℕ → ℕ → Bool → Bool
beside_ok s h m n to back =
    eqb m 0
    || (not (eqb m n) && eqb (level_word s (node_start h m)) 1
    && eqb (elim back [ true ↦ forward_word s (node_start h m) | false ↦ back_word s (node_start h m) ]) to)

-- "Every level-1 node to be joined is looked at on both sides, as enter looks forward, and the pair must link to each other, in key order
-- only." x stands for the nodes joined so far, from `number` to `last`; p is on its left or on its right.
unfoldable pub links_ok : List ℕ → Head → Spot → ℕ → Bool → Bool
links_ok s h x p true =
    eqb (forward_word s (node_start h p)) x.number && eqb (back_word x.block 0) p
    && not (eqb (forward_word x.block 0) p) && not (eqb (back_word s (node_start h p)) x.number)
    && beside_ok s h (back_word s (node_start h p)) p p true && beside_ok s h (forward_word x.block 0) x.number x.last false
links_ok s h x p false =
    eqb (forward_word x.block 0) p && eqb (back_word s (node_start h p)) x.last
    && not (eqb (forward_word s (node_start h p)) x.number) && not (eqb (back_word x.block 0) p)
    && beside_ok s h (back_word x.block 0) x.number x.number true && beside_ok s h (forward_word s (node_start h p)) p p false

pub record Nodes : Type 0 where
  pub ok : Bool
  pub spot : Spot
  -- released nodes, the first released first
  pub released : List ℕ
  pub reached : List Reach

abbrev pub no_spot : Spot
no_spot = record { number = 0; used = 0; last = 0; block = [] }

abbrev pub no_nodes : Nodes
no_nodes = record { ok = false; spot = no_spot; released = []; reached = [] }

-- the run of the stretch below, m bits and the pointer q, in the block of a node at the key's first `used` bits
abbrev pub covered : ℕ → ℕ → ℕ → ℕ → ℕ → ℕ → List ℕ → List ℕ
covered W θ k used m q ws = cover θ ws (bits (W - used) k) (m - used) q

-- "The left number stays and the right is released"
unfoldable pub both_nodes : Format → List ℕ → Head → ℕ → ℕ → ℕ → Nodes → Bool → ℕ → List Reach → Nodes
both_nodes f s h k m q g true p reached =
    let x : Spot = g.spot in
    record {
      ok = true;
      spot = record {
        number = p;
        used = x.used - 1;
        last = x.last;
        block = covered (width f) h.theta k (x.used - 1) m q (joined h.theta (node_of s p) x.block);
      };
      released = g.released ++ (x.number ∷ []);
      reached = reached;
    }
both_nodes f s h k m q g false p reached =
    let x : Spot = g.spot in
    record {
      ok = true;
      spot = record {
        number = x.number;
        used = x.used - 1;
        last = p;
        block = covered (width f) h.theta k (x.used - 1) m q (joined h.theta x.block (node_of s p));
      };
      released = g.released ++ (p ∷ []);
      reached = reached;
    }

-- the sibling node p, reached under its prefix
unfoldable pub sibling_ok : Format → List ℕ → Head → ℕ → ℕ → ℕ → ℕ → List Reach → Bool
sibling_ok f s h k m level p rs =
    (step_of f s h (sibling_key (width f) k m) level p m).ok && once (reach_at (width f) (sibling_key (width f) k m) p m) rs

unfoldable pub node_joins : Format → List ℕ → Head → ℕ → ℕ → ℕ → ℕ → ℕ → Nodes → Nodes
node_joins f s h k level m q zero g = g
node_joins f s h k level m q (suc n) g =
    let x : Spot = g.spot in
    let z : Sought = sibling f s h k x.used level g.reached in
    elim z.ok [
      | false ↦ no_nodes
      | true ↦
          elim z.found [
            | false ↦ record { ok = true; spot = x; released = g.released; reached = z.reached }
            | true ↦
                let left : Bool = on_left (width f) k x.used in
                let rs : List Reach = reach_at (width f) (sibling_key (width f) k x.used) z.pointer x.used ∷ z.reached in
                elim (sibling_ok f s h k x.used level z.pointer z.reached) [
                  | false ↦ no_nodes
                  | true ↦
                      elim (leb (suc (max (depth_word x.block 0) (depth_word (node_of s z.pointer) 0))) h.theta) [
                        | false ↦ record { ok = true; spot = x; released = g.released; reached = rs }
                        | true ↦
                            elim (not (eqb level 1) || links_ok s h x z.pointer left) [
                              | false ↦ no_nodes
                              | true ↦ node_joins f s h k level m q n (both_nodes f s h k m q g left z.pointer rs)
                            ]
                      ]
                ]
          ]
    ]

pub record Levels : Type 0 where
  pub ok : Bool
  -- lowest level first
  pub spots : List Spot
  pub released : List ℕ

abbrev pub no_levels : Levels
no_levels = record { ok = false; spots = []; released = [] }

-- a node of the path as found
abbrev pub spot_at : List ℕ → Step → Spot
spot_at s t = record { number = t.node; used = t.used; last = t.node; block = node_of s t.node }

-- a node over the stretch below, which now has m bits and the pointer q
abbrev pub spot_over : Format → List ℕ → Head → ℕ → ℕ → ℕ → Step → Spot
spot_over f s h k m q t =
    record { number = t.node; used = t.used; last = t.node; block = covered (width f) h.theta k t.used m q (node_of s t.node) }

-- "then each level upward if the one below joined": `joins` says if it did
unfoldable pub levels_from : Format → List ℕ → Head → ℕ → ℕ → List Step → ℕ → ℕ → Bool → List Reach → Levels
levels_from f s h k level [] m q joins rs = record { ok = true; spots = []; released = [] }
levels_from f s h k level (t ∷ ts) m q joins rs =
    let start : Nodes = record { ok = true; spot = spot_over f s h k m q t; released = []; reached = rs } in
    let g : Nodes = elim joins [ true ↦ node_joins f s h k level m q t.used start | false ↦ start ] in
    elim g.ok [
      | false ↦ no_levels
      | true ↦
          elim (ltb g.spot.used t.used) [
            | false ↦ record { ok = true; spots = g.spot ∷ map (spot_at s) ts; released = g.released }
            | true ↦
                let up : Levels = levels_from f s h k (suc level) ts g.spot.used g.spot.number true g.reached in
                record { ok = up.ok; spots = g.spot ∷ up.spots; released = g.released ++ up.released }
          ]
    ]

-- "Last, from the top down, each root above level 1 with one entry is released."
unfoldable pub kept_over : Spot → List Spot → List Spot
kept_over x [] = elim (eqb (depth_word x.block 0) 0) [ true ↦ [] | false ↦ x ∷ [] ]
kept_over x (y ∷ ys) = x ∷ y ∷ ys

abbrev pub kept_upper : List Spot → List Spot
kept_upper [] = []
kept_upper (x ∷ xs) = kept_over x (kept_upper xs)

abbrev pub kept_levels : List Spot → List Spot
kept_levels [] = []
kept_levels (x ∷ xs) = x ∷ kept_upper xs

abbrev pub backwards : List ℕ → List ℕ → List ℕ
backwards ns [] = ns
backwards ns (x ∷ xs) = backwards (x ∷ ns) xs

abbrev pub gone_roots : List Spot → List ℕ
gone_roots xs = backwards [] (map (λ x. x.number) (drop (length (kept_levels xs)) xs))

-- the root: the last of the levels that stay
abbrev pub top_of : List Spot → ℕ
top_of [] = 0
top_of (x ∷ []) = x.number
top_of (x ∷ y ∷ ys) = top_of (y ∷ ys)

-- the plan

pub record Plan : Type 0 where
  pub ok : Bool
  pub page : ℕ
  pub items : List Item
  pub spots : List Spot
  -- a level-1 node joined
  pub linked : Bool
  pub pages : List ℕ
  pub nodes : List ℕ

abbrev pub no_plan : Plan
no_plan = record { ok = false; page = 0; items = []; spots = []; linked = false; pages = []; nodes = [] }

abbrev pub path_reach : ℕ → ℕ → List Step → List Reach
path_reach W k ts = map (λ t. reach_at W k t.node t.used) ts

unfoldable pub first_used : List Step → ℕ
first_used [] = 0
first_used (t ∷ ts) = t.used

unfoldable pub first_spot : List Spot → Spot
first_spot [] = no_spot
first_spot (x ∷ xs) = x

unfoldable pub plan_over : Format → List ℕ → Head → ℕ → ℕ → List Step → Pages → Plan
plan_over f s h k used ts g =
    let l : Levels = levels_from f s h k 1 ts g.used g.page (ltb g.used used) g.reached in
    elim (g.ok && l.ok) [
      | false ↦ no_plan
      | true ↦
          record {
            ok = true;
            page = g.page;
            items = g.items;
            spots = kept_levels l.spots;
            linked = ltb (first_spot l.spots).used (first_used ts);
            pages = g.released;
            nodes = l.released ++ gone_roots l.spots;
          }
    ]

unfoldable pub plan_of : Format → List ℕ → Head → ℕ → Descent → Plan
plan_of f s h k d =
    let ts : List Step = take h.levels d.steps in
    plan_over f s h k d.used ts
    (page_joins f s h k d.used (emptied d.used d.page (without key_of k (own_items f s h d.page)) (path_reach (width f) k ts)))

-- writes: the page, the nodes, the node behind joined level-1 nodes, the released blocks, the head

abbrev pub put_spots : List ℕ → List Spot → List ℕ
put_spots s [] = s
put_spots s (x ∷ xs) = put_spots (put_node s x.number x.block) xs

abbrev pub release_pages : Format → List ℕ → List ℕ → List ℕ
release_pages f s [] = s
release_pages f s (p ∷ ps) = release_pages f (release_page f s p) ps

abbrev pub release_nodes : List ℕ → List ℕ → List ℕ
release_nodes s [] = s
release_nodes s (n ∷ ns) = release_nodes (release_node s n) ns

unfoldable pub put_own : Format → ℕ → List ℕ → ℕ → List Item → List ℕ
put_own f C s p rs = elim (eqb p 0) [ true ↦ s | false ↦ put_items f C s p rs ]

-- the node q, if there is one, is linked back to m
unfoldable pub back_linked : List ℕ → ℕ → ℕ → List ℕ
back_linked s q m = elim (eqb q 0) [ true ↦ s | false ↦ put_node s q (linked (node_of s q) m (forward_word (node_of s q) 0)) ]

unfoldable pub relinked : List ℕ → Bool → Spot → List ℕ
relinked s false x = s
relinked s true x = back_linked s (forward_word x.block 0) x.number

unfoldable pub written_by : Format → List ℕ → Head → Plan → List ℕ
written_by f s h p =
    put_head
    (release_nodes
    (release_pages f
    (relinked (put_spots (put_own f h.capacity s p.page p.items) p.spots) p.linked (first_spot p.spots))
    p.pages)
    p.nodes)
    (top_of p.spots) (length p.spots)

pub record After : Type 0 where
  pub reply : Reply
  pub words : List ℕ

abbrev pub same : List ℕ → ℕ → After
same s n = record { reply = record { number = n; item = no_item }; words = s }

unfoldable pub carried_out : Format → List ℕ → Head → Item → Plan → After
carried_out f s h it p =
    elim p.ok [
      | false ↦ same s 9
      | true ↦ record { reply = record { number = 0; item = it }; words = written_by f s h p }
    ]

-- "It gives the removed record, or answer 1 if absent, and the checks run as for find."
unfoldable pub found_of : Format → List ℕ → Head → ℕ → Rattle.search.specs.Way.Sought → After
found_of f s h k Damaged = same s 9
found_of f s h k Nothing = same s 1
found_of f s h k (Record it) = carried_out f s h it (plan_of f s h k (descent f s h k))

unfoldable pub remove_of : Format → List ℕ → ℕ → After
remove_of f s k = elim (head_rule f s) [ false ↦ same s 3 | true ↦ found_of f s (head_of s) k (find_of f s (head_of s) k) ]
