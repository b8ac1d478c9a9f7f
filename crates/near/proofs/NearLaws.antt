-- The joins of the key's page with the page beside it, the end of the key's way, and the plan of a removal after which nothing joins.
use mathlib.Core.Path.{◌≡◌, refl, sym, ap, ap₂, ◌∙◌, subst}
use mathlib.Core.Bool.{Bool, true, false, ◌||◌}
use mathlib.Core.List.{List, [], ◌∷◌, map}
use Prim.Native.Nat.{ℕ, suc, ◌+◌, ◌-◌, ◌^◌, ◌≤◌, ◌<◌}
use native.Mathlib.Omega.{arith}
use lib.Dec.{eqb}
use lib.ListN.{length, get_or, take, drop, length-replicate}
use lib.Seq.{length-take-le, get_or-take, drop-cons}
use borrow.Author.Tests.{le-leb, lt-leb}
use Rattle.lists.specs.Bits.{bits, index}
use Rattle.lists.specs.Lists.{All}
use Rattle.lists.proofs.BitLaws.{drop_bits}
use Rattle.lists.proofs.Cases.{by_cases}
use Rattle.store.specs.declared.Format.{Format}
use Rattle.store.specs.declared.Head.{Head}
use Rattle.store.specs.declared.Item.{Item}
use Rattle.store.specs.Format.{width}
use Rattle.store.specs.Head.{node_start, node_at, page_at, InUse, Under}
use Rattle.store.proofs.Places.{under_counts}
use Rattle.node.specs.Node.{depth_word, entry_number}
use Rattle.node.proofs.EntryNumber.{entry_index}
use Rattle.page.specs.Schema.{key_of}
use Rattle.search.specs.declared.Step.{Step}
use Rattle.search.specs.Way.{Visit}
use Rattle.search.specs.Way.{Descent}
use Rattle.search.specs.Way.{End}
use Rattle.search.specs.Descent.{no_step, no_steps, sound_node, step_of, lost, descend, descent, end_of, terminal, own_visit}
use Rattle.search.specs.Find.{sound_page}
use Rattle.search.proofs.BlockLaws.{under_levels, root_in_use, block_long, block_rule, block_depth, own_read}
use Rattle.search.proofs.DescentLaws.{step_entry, node_deep, seen_bits}
use Rattle.search.proofs.TerminalLaws.{Ended, terminal_ok, terminal_ended, lost_is}
use Rattle.split.specs.Frame.{node_of}
use Rattle.split.specs.Insertion.{put_items}
use Rattle.insert.specs.Enter.{own_items}
use Rattle.insert.proofs.InsideEnter.{StepIn, Down, descent_down}
use Rattle.joins.specs.Joins.{without}
use Rattle.fuse.specs.Join.{cover}
use Rattle.remove.specs.Remove.{Reach, Pages, sibling_key, covered, path_reach, Plan, spot_at, kept_levels, top_of, stuck_pages, no_pages, page_joins, plan_of, written_by}
use Rattle.remove.proofs.PagePhase.{turn_damaged, turn_none, turn_full}
use Rattle.remove.proofs.InsideRemove.{head_facts}
use Rattle.levels.proofs.PathFacts.{all_steps}
use Rattle.near.specs.Near.{root_stays}
use Rattle.near.specs.Promises.{begun}
use Rattle.near.proofs.CoverOwn.{cover_own}
use Rattle.near.proofs.SiblingNear.{found_ok, at, step_here, Beside, sibling_near}
use Rattle.near.proofs.StayPlan.{all_kept, top_node, stayed, plan_stays}
use Rattle.near.proofs.StayWrites.{writes_page}
use Rattle.near.proofs.Told.{root_deep}

-- one turn of the joins of pages
module _ (f : Format) (s : List ℕ) (h : Head) (k m page : ℕ) (its : List Item) (rs : List Reach) (n b : ℕ) (v : Visit) (y : Beside f s h k m rs n b v)
    (some : 1 ≤ m) where
  abbrev pub start : Pages
  start = record { ok = true; used = m; page = page; items = its; released = []; reached = rs }

  abbrev pub test : Bool
  test = eqb v.pointer 0 || sound_page f h (page_at f s h v.pointer) (sibling_key (width f) k m) m

  turns : page_joins f s h k m start ≡ page_joins f s h k (suc (m - 1)) start
  turns = ap (λ x. page_joins f s h k x start) (let e : m ≡ suc (m - 1) = omega arith in e)

  pub joins_none : m < b + v.depth → page_joins f s h k m start ≡ stuck_pages start y.reached
  joins_none l = turns ∙ turn_none f s h k (m - 1) start _ (sym (y.none l)) refl refl

  pub joins_lost : b + v.depth ≤ m → test ≡ false → page_joins f s h k m start ≡ no_pages
  joins_lost l t = turns ∙ turn_damaged f s h k (m - 1) start _ (sym (y.some l)) refl refl t

  pub joins_full : b + v.depth ≤ m → test ≡ true → h.capacity < length its + length (own_items f s h v.pointer)
      → page_joins f s h k m start ≡ stuck_pages start y.reached
  joins_full l t q = turns ∙ turn_full f s h k (m - 1) start _ (sym (y.some l)) refl refl t (lt-leb _ _ q)

-- the end of the key's way
module _ {f : Format} {s : List ℕ} {h : Head} (k : ℕ) (u : Under f s h) (ok : (descent f s h k).ok ≡ true) where
  abbrev d : Descent
  d = descent f s h k

  down : Down f s h k h.levels d
  down = descent_down f s h k (under_levels u).0 (under_levels u).1 (root_in_use u).positive (root_in_use u).within ok

  stepped : (j : ℕ) → j < h.levels → StepIn f s h k j (at d j)
  stepped j l = down.steps_in j l (omega (arith, down.long, (under_levels u).1, l))

  first : StepIn f s h k 0 (at d 0)
  first = stepped 0 (omega (arith, (under_levels u).0))

  end_in : InUse h (at d 0).node
  end_in = record { positive = first.0; within = first.1 }

  end_sound : sound_node f s h 1 (at d 0).node (at d 0).used ≡ true
  end_sound = rw (first.2, le-leb ((at d 0).used + depth_word s (node_start h (at d 0).node)) (width f) first.3)

  pub used_within : d.used ≤ width f
  used_within = down.used_in

  ended : Ended f s h k d (at d 0).node (at d 0).used
  ended =
      let t = terminal_ended f s h k (under_levels u).0 (under_levels u).1 (sym (terminal_ok f s h k (under_levels u).0) ∙ ok) in
      let n : (terminal f s h k).node ≡ (at d 0).node = sym (ap (λ (x : Step). x.node) t.step) in
      let b : (terminal f s h k).used ≡ (at d 0).used = sym (ap (λ (x : Step). x.used) t.step) in
      subst (λ x. Ended f s h k d (at d 0).node x) b (subst (λ x. Ended f s h k d x (terminal f s h k).used) n t)

  pub found_beside : (m : ℕ) → (at d 0).used < m → m ≤ width f
      → Beside f s h k m (path_reach (width f) k (take h.levels d.steps)) (at d 0).node (at d 0).used
      (step_of f s h (sibling_key (width f) k m) 1 (at d 0).node (at d 0).used)
  found_beside = sibling_near f s h k (under_levels u).0 (under_levels u).1 ok (λ j l. (stepped j l).2) end_sound

  -- its node has the page's run as it is
  own_covered : k < 2 ^ width f
      → covered (width f) h.theta k (at d 0).used d.used d.page (node_at s h (at d 0).node) ≡ node_at s h (at d 0).node
  own_covered low =
      let W : ℕ = width f in
      let n : ℕ = (at d 0).node in
      let b : ℕ = (at d 0).used in
      let ws : List ℕ = node_at s h n in
      let H : depth_word ws 0 ≡ depth_word s (node_start h n) = block_depth u end_in refl in
      let room : b + depth_word ws 0 ≤ W = omega (arith, H, first.3) in
      let i : entry_number W k b (depth_word ws 0) ≡ index (depth_word ws 0) (bits (W - b) k) =
      entry_index W k b (depth_word ws 0) room low ∙ ap (index (depth_word ws 0)) (drop_bits W b k (omega (arith, room))) in
      let v = own_read u end_in refl (node_deep f s h k 1 n b end_sound) k b (sym i) in
      let deep : d.used - b ≡ (own_visit f s h k n b).depth = omega (arith, ended.used) in
      ap₂ (λ x y. covered_by x y) (deep ∙ sym (ap (λ (x : Visit). x.depth) v)) (ended.page ∙ sym (ap (λ (x : Visit). x.pointer) v))
      ∙ cover_own h ws 1 (bits (W - b) k) (block_rule u end_in refl 1 ∙ first.2) (block_long u end_in refl)
    where
      covered_by : ℕ → ℕ → List ℕ
      covered_by x y = cover h.theta (node_at s h (at d 0).node) (bits (width f - (at d 0).used) k) x y

  path_long : length (take h.levels d.steps) ≡ h.levels
  path_long = length-take-le h.levels d.steps (omega (arith, down.long, (under_levels u).1))

  path_first : take h.levels d.steps ≡ at d 0 ∷ drop 1 (take h.levels d.steps)
  path_first =
      drop-cons (take h.levels d.steps) 0 no_step (omega (arith, path_long, (under_levels u).0))
      ∙ ap (λ t. t ∷ drop 1 (take h.levels d.steps)) (get_or-take h.levels d.steps 0 no_step (omega (arith, (under_levels u).0)))

  path_top : (get_or (take h.levels d.steps) (h.levels - 1) no_step).node ≡ h.root
  unfolding descent no_steps
  path_top =
      let low : 1 ≤ h.levels = (under_levels u).0 in
      let up : suc (h.levels - 1) ≡ h.levels = omega (arith, low) in
      ap (λ (t : Step). t.node) (get_or-take h.levels d.steps (h.levels - 1) no_step (omega (arith, low)))
      ∙ ap (λ l. (at (descend f s h k l h.root 0 no_steps) (h.levels - 1)).node) (sym up)
      ∙ (step_here f s h k (h.levels - 1) h.root 0 no_steps
      (omega (arith, length-replicate 32 no_step, (under_levels u).1, low))
      (ap (λ l. (descend f s h k l h.root 0 no_steps).ok) up ∙ ok)).0

  path_in_lem : All (λ (t : Step). (1 ≤ t.node) × (t.node ≤ h.node_blocks)) (take h.levels d.steps)
  path_in_lem =
      all_steps (λ t. (1 ≤ t.node) × (t.node ≤ h.node_blocks)) h.levels d.steps
      (λ i p q. let w = stepped i p in (w.0, omega (arith, w.1, (under_counts u).taken)))

-- the same over the head that is carried
writes_under : {f : Format} {s : List ℕ} {h : Head} → Under f s h → (page : ℕ) (its : List Item) (ts : List Step) → 1 ≤ page → page ≤ h.page_blocks
    → length its ≤ h.capacity → All (λ (t : Step). (1 ≤ t.node) × (t.node ≤ h.node_blocks)) ts → top_of (map (spot_at s) ts) ≡ h.root
    → length ts ≡ h.levels → put_items f h.capacity s page its ≡ written_by f s h (stayed s page its ts)
writes_under {f} {s} {h} u page its ts =
    subst
    (λ (i : Head). 1 ≤ page → page ≤ i.page_blocks → length its ≤ i.capacity
    → All (λ (t : Step). (1 ≤ t.node) × (t.node ≤ i.node_blocks)) ts → top_of (map (spot_at s) ts) ≡ i.root
    → length ts ≡ i.levels → put_items f i.capacity s page its ≡ written_by f s i (stayed s page its ts))
    (sym u.head) (writes_page f s page its ts (head_facts f s u.rule).room)

-- the removal that is done
pub near_done : {f : Format} {s : List ℕ} {h : Head} (k : ℕ) → Under f s h → (descent f s h k).ok ≡ true → k < 2 ^ width f
    → 1 ≤ (descent f s h k).page → 1 ≤ length (without key_of k (own_items f s h (descent f s h k).page))
    → length (without key_of k (own_items f s h (descent f s h k).page)) ≤ h.capacity
    → root_stays s h ≡ true
    → (rs : List Reach)
    → page_joins f s h k (descent f s h k).used (begun f s h k (descent f s h k)) ≡ stuck_pages (begun f s h k (descent f s h k)) rs
    → ((plan_of f s h k (descent f s h k)).ok ≡ true)
    × (put_items f h.capacity s (descent f s h k).page (without key_of k (own_items f s h (descent f s h k).page))
    ≡ written_by f s h (plan_of f s h k (descent f s h k)))
near_done {f} {s} {h} k u ok low some one fits root rs a =
    let ts : List Step = take h.levels (d k u ok).steps in
    let its : List Item = without key_of k (own_items f s h (d k u ok).page) in
    let deep : (h.levels ≡ 1 → ⊥) → depth_word (node_of s (get_or ts (h.levels - 1) no_step).node) 0 ≡ 0 → ⊥ =
    λ z q. root_deep s h root z
    (sym (block_depth u (root_in_use u) refl)
    ∙ ap₂ (λ i n. depth_word (node_at s i n) 0) u.head (sym (path_top k u ok)) ∙ q) in
    let kept : kept_levels (map (spot_at s) ts) ≡ map (spot_at s) ts = all_kept s ts h.levels (path_long k u ok) (under_levels u).0 deep in
    let plan : plan_of f s h k (d k u ok) ≡ stayed s (d k u ok).page its ts =
    plan_stays f s h k (d k u ok) (at (d k u ok) 0) (drop 1 ts) rs (path_first k u ok) one
    (subst
    (λ (i : Head). covered (width f) h.theta k (at (d k u ok) 0).used (d k u ok).used (d k u ok).page (node_at s i (at (d k u ok) 0).node)
    ≡ node_at s i (at (d k u ok) 0).node)
    u.head (own_covered k u ok low))
    (subst (λ zs. kept_levels (map (spot_at s) zs) ≡ map (spot_at s) zs) (path_first k u ok) kept) a
    ∙ ap (stayed s (d k u ok).page its) (sym (path_first k u ok)) in (
      ap (λ (x : Plan). x.ok) plan,
      writes_under u (d k u ok).page its ts some (omega (arith, (down k u ok).page_in, (under_counts u).filled)) fits (path_in_lem k u ok)
          (top_node s ts h.levels (path_long k u ok) (under_levels u).0 ∙ path_top k u ok) (path_long k u ok)
          ∙ ap (written_by f s h) (sym plan),
    )

-- a way that ends at a page is not lost
pub end_ok : (f : Format) (s : List ℕ) (h : Head) (k : ℕ) {e : End} → e ≡ end_of (descent f s h k) → 1 ≤ e.page → (descent f s h k).ok ≡ true
unfolding lost
end_ok f s h k q some =
    by_cases (descent f s h k).ok (λ t. t)
    (λ t. absurd (omega (arith, some, ap (λ (x : End). x.page) q, ap (λ (x : Descent). x.page) (lost_is f s h k t))))

-- the end of a way, as the code has it
module _ {f : Format} {s : List ℕ} {h : Head} (k : ℕ) (u : Under f s h) {e : End} (q : e ≡ end_of (descent f s h k)) (o : e.ok ≡ true) where
  abbrev way : Descent
  way = descent f s h k

  abbrev n : ℕ
  n = (at way 0).node

  abbrev b : ℕ
  b = (at way 0).used

  way_ok : way.ok ≡ true
  way_ok = sym (ap (λ (x : End). x.ok) q) ∙ o

  node_is : e.node ≡ n
  node_is = ap (λ (x : End). x.node) q

  before_is : e.before ≡ b
  before_is = ap (λ (x : End). x.before) q

  used_is : e.used ≡ way.used
  used_is = ap (λ (x : End). x.used) q

  pub end_node : InUse h e.node
  end_node = subst (InUse h) (sym node_is) (end_in k u way_ok)

  pub end_bits : (e.used ≤ width f) × (e.before ≤ width f)
  end_bits = (omega (arith, used_is, used_within k u way_ok), omega (arith, before_is, (first k u way_ok).3))

  pub end_visited : (sk : ℕ) → (step_of f s h sk 1 e.node e.before).ok ≡ true
  end_visited sk =
      ap₂ (λ x y. (step_of f s h sk 1 x y).ok) node_is before_is
      ∙ found_ok f s h sk n b
      (sym (step_entry f s h sk 1 n b (end_sound k u way_ok)))

  pub end_run : (sk : ℕ) {v : Visit} → v ≡ step_of f s h sk 1 e.node e.before → e.before + v.depth ≤ width f
  end_run sk ev = seen_bits f s h sk 1 e.node e.before ev (ap (λ (x : Visit). x.ok) ev ∙ end_visited sk)
