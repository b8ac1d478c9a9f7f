-- The plan of a removal, put together from its page half and its levels, is that of the definition, and can be carried out.
use mathlib.Core.Path.{◌≡◌, refl, sym, ap, ap₂, ◌∙◌, subst}
use mathlib.Core.Bool.{Bool, true, false, ◌&&◌, false≢true}
use mathlib.Core.List.{List, [], ◌∷◌, ◌++◌}
use Prim.Native.Nat.{ℕ, suc, ◌+◌, ◌-◌, ◌*◌, ◌≤◌, ◌<◌, min}
use native.Mathlib.Nat.{mul-le-mul_right}
use native.Mathlib.Omega.{arith}
use lib.Dec.{ltb}
use lib.ListN.{length, take, drop, length-append, length-drop}
use lib.Seq.{length-take-le}
use Rattle.std.specs.Prelude.{Result, Ok, Err, IfOk}
use Rattle.answers.specs.declared.Refusal.{Refusal}
use Rattle.answers.specs.declared.Refusal.TheVariants.{DamageMet}
use Rattle.store.specs.declared.Format.{Format}
use Rattle.store.specs.declared.Head.{Head}
use Rattle.store.specs.declared.Item.{Item}
use Rattle.store.specs.Format.{width}
use Rattle.store.specs.Head.{head_of, page_at, Under}
use Rattle.page.specs.Page.{count, key_at}
use Rattle.page.specs.Schema.{key_of}
use Rattle.represent.proofs.PageImage.{page_key}
use Rattle.store.proofs.HeadLaws.{width_within, levels_within}
use Rattle.search.specs.declared.Step.{Step}
use Rattle.search.specs.Way.{Descent, Record, answered}
use Rattle.search.specs.Descent.{descent}
use Rattle.search.specs.Find.{no_item, find_of}
use Rattle.search.proofs.FindLaws.{sound_rule}
use Rattle.insert.specs.Enter.{own_items}
use Rattle.insert.proofs.InsideEnter.{descent_down}
use Rattle.joins.specs.Joins.{without}
use Rattle.merge.proofs.Laws.{without_at}
use Rattle.remove.specs.Remove.{Reach, Pages, Levels, on_left, both_pages, page_joins, emptied, Spot, levels_from, kept_levels, gone_roots, path_reach, first_spot, first_used, Plan, no_plan, plan_over, plan_of, written_by}
use Rattle.remove.specs.Doable.{Doable}
use Rattle.remove.proofs.InsideRemove.{head_facts}
use Rattle.remove.proofs.RemoveInside.{FoundIn, found_in_lem, doable}
use Rattle.remove.proofs.Plans.{plan_is}
use Rattle.siblings.specs.Outcome.{PageJoins}
use Rattle.siblings.specs.Marks.{Tracks}
use Rattle.siblings.specs.Pages.{pages_by, Paged}
use Rattle.siblings.proofs.PageJoinLaws.{both_used}
use Rattle.gather.specs.declared.Gathered.{Gathered}
use Rattle.gather.specs.Gather.{OwnPage, Holds, start_of}
use Rattle.gather.proofs.GatherLaws.{own_image, own_lawful, own_sorted, own_count, start_used, plan_holds}
use Rattle.apply.specs.declared.Outline.{Outline}
use Rattle.apply.specs.Carried.{Carried, Ready}
use Rattle.apply.proofs.ReadyLaws.{ready}
use Rattle.levels.specs.Outcome.{LevelJoins}
use Rattle.levels.specs.Levels.{NumbersAre, LevelsAre, Levelled}
use Rattle.levels.proofs.RootLaws.{numbers_of_lem, kept_carried}
use Rattle.removal.specs.declared.PagePart.{PagePart}
use Rattle.removal.specs.Removal.{Located, PartFits, PagesMade, LevelsMade, LevelsDone, DraftFits, Outlined, Drawn, Executed}

-- where the record is found: the way is sound, and its page is
module _ {f : Format} {s : List ℕ} {h : Head} {k i : ℕ} (y : Located f s h k i) where
  located : FoundIn f s h k
  located = found_in_lem f s h k y.item y.found

  pub located_way : (descent f s h k).ok ≡ true
  located_way = located.ok

  pub located_page : OwnPage f s h (descent f s h k).page i
  located_page =
      record {
        some = omega (arith, located.some);
        taken = page_in_lem h y.under.head located.ok;
        rule = sound_rule f h (page_at f s h (descent f s h k).page) k (descent f s h k).used located.sound;
        inside = y.inside;
      }
    where
      at : (descent f s (head_of s) k).ok ≡ true → (descent f s (head_of s) k).page ≤ (head_of s).pages_taken
      at ok =
          let H = head_facts f s y.under.rule in
          (descent_down f s (head_of s) k H.counts.levels_low
          (omega (arith, H.counts.levels, levels_within f (head_of s).theta (head_of s).capacity H.limits.theta_low)) H.counts.root_low
          H.counts.root ok).page_in

      page_in_lem : (g : Head) → g ≡ head_of s → (descent f s g k).ok ≡ true → (descent f s g k).page ≤ g.pages_taken
      page_in_lem g e = subst (λ x. (descent f s x k).ok ≡ true → (descent f s x k).page ≤ x.pages_taken) (sym e) at

  -- the same over the way down as it is carried
  pub located_at : {d : Descent} → d ≡ descent f s h k → OwnPage f s h d.page i × (key_at f (page_at f s h d.page) i ≡ k)
  located_at e =
      subst (λ (x : Descent). OwnPage f s h x.page i × (key_at f (page_at f s h x.page) i ≡ k)) (sym e) (located_page, y.key_is)

  -- a plan that passed its tests can be carried out
  pub located_doable : (plan_of f s h k (descent f s h k)).ok ≡ true → Doable f s (plan_of f s h k (descent f s h k))
  located_doable ok =
      subst (λ g. find_of f s g k ≡ Record y.item → (plan_of f s g k (descent f s g k)).ok ≡ true → Doable f s (plan_of f s g k (descent f s g k)))
      (sym y.under.head) (λ a b. doable f s y.under.rule k y.item a b) y.found ok

  pub located_ready : {o : Outline} {items numbers blocks pages nodes : List ℕ} → Outlined f s h k o items numbers blocks pages nodes
      → h.levels ≤ length numbers → 132 * h.levels ≤ length blocks → 65 ≤ length pages → width f * h.levels + h.levels ≤ length nodes
      → width f * h.levels + h.levels ≤ 4096
      → Ready f s h o items numbers blocks pages nodes
  located_ready {o} {items} {numbers} {blocks} {pages} {nodes} w a b c d e =
      subst (λ g. find_of f s g k ≡ Record y.item → (plan_of f s g k (descent f s g k)).ok ≡ true
      → Carried f s g o items numbers blocks pages nodes (plan_of f s g k (descent f s g k)) → Ready f s g o items numbers blocks pages nodes)
      (sym y.under.head)
      (λ p q r. ready f s y.under.rule k y.item p q o items numbers blocks pages nodes r w.changed_in w.some (omega (arith, w.few, a))
      (omega (arith, w.changed_in, w.few, b)) (omega (arith, w.pages_in, c)) (omega (arith, w.nodes_in, d)) (omega (arith, w.pages_in))
      (omega (arith, w.nodes_in, e)) (λ z. w.first))
      y.found w.ok w.carried

-- the records left in the key's page
pub own_less : {f : Format} {s : List ℕ} {h : Head} (u : Under f s h) {page i : ℕ} → OwnPage f s h page i → (k : ℕ)
    → key_at f (page_at f s h page) i ≡ k → {n : ℕ} → n ≡ count (page_at f s h page) → n - 1 ≡ length (without key_of k (own_items f s h page))
own_less {f} {s} {h} u {page} {i} y k e {n} ne =
    let rs : List Item = own_items f s h page in
    let is = own_image u y.some y.taken y.rule in
    let size = own_count u y.some y.taken y.rule in
    let l : i < length rs = omega (arith, y.inside, size) in
    let same : without key_of k rs ≡ take i rs ++ drop (suc i) rs =
    ap (λ x. without key_of x rs)
    (sym e ∙ page_key f h.capacity (page_at f s h page) rs is (own_lawful u y.some y.taken y.rule) i l)
    ∙ without_at key_of no_item rs i l (own_sorted u y.some y.taken y.rule) in
    omega (
      arith,
      ne,
      size,
      l,
      ap length same,
      length-append (take i rs) (drop (suc i) rs),
      length-take-le i rs (omega (arith, l)),
      length-drop (suc i) rs,
    )

-- each page that joins takes one bit from the stretch
by_used : (f : Format) (s : List ℕ) (h : Head) (k : ℕ) (g : Pages) (ps : List ℕ) → (pages_by f s h k g ps).used ≡ g.used - length ps
by_used f s h k g [] = omega arith
by_used f s h k g (p ∷ ps) =
    let b : Bool = on_left (width f) k g.used in
    omega (
      arith,
      by_used f s h k (both_pages g b p (own_items f s h p) []) ps,
      both_used g p (own_items f s h p) [] b,
    )

-- the stretch before its joins
pub start_ok : (used page : ℕ) (xs : List Item) (rs : List Reach) → (emptied used page xs rs).ok ≡ true
unfolding emptied
start_ok used page [] rs = refl
start_ok used page (x ∷ xs) rs = refl

start_reached : (used page : ℕ) (xs : List Item) (rs : List Reach) → (emptied used page xs rs).reached ≡ rs
unfolding emptied
start_reached used page [] rs = refl
start_reached used page (x ∷ xs) rs = refl

pub start_tracks : (W k used page : ℕ) (xs : List Item) {rs : List Reach} {marks : List ℕ} → Tracks W k rs marks
    → Tracks W k (emptied used page xs rs).reached marks
start_tracks W k used page xs {rs} {marks} y = subst (λ x. Tracks W k x marks) (sym (start_reached used page xs rs)) y

-- the page half
module _ (f : Format) (s : List ℕ) (h : Head) (k used page : ℕ) (rs : List Reach) where
  abbrev xs : List Item
  xs = without key_of k (own_items f s h page)

  abbrev g₀ : Pages
  g₀ = emptied used page xs rs

  module _ {j : PageJoins} {mates marks : List ℕ} (y : Paged f s h k g₀ (page_joins f s h k g₀.used g₀) j mates marks) where
    here : Paged f s h k g₀ (page_joins f s h k used g₀) j mates marks
    here = subst (λ n. Paged f s h k g₀ (page_joins f s h k n g₀) j mates marks) (start_used used page xs rs) y

    pub pages_lost : j.ok ≡ false → (page_joins f s h k used g₀).ok ≡ false
    pages_lost o = sym here.ok_is ∙ o

    pub pages_done : j.ok ≡ true → j.n ≤ length mates → {g : Gathered} {items lost : List ℕ}
        → Holds f h.capacity (pages_by f s h k (start_of f s h k used page rs) (take j.n mates)) g items lost
        → PagesMade f h.capacity k (page_joins f s h k used g₀) (record { bits = used - j.n; page = g.page; pages = g.lost }) items lost marks
    pages_done o l {g} w =
        let v = plan_holds f s h k used page rs here o w in
        record {
          ok = sym here.ok_is ∙ o;
          bits_are =
              ap (λ (x : Pages). x.used) (here.pages_are o) ∙ by_used f s h k (start_of f s h k used page rs) (take j.n mates)
              ∙ ap₂ ◌-◌ (start_used used page xs rs) (length-take-le j.n mates l);
          page_is = sym v.page_is;
          items_are = v.items_are;
          pages_are = v.lost_are;
          tracked = here.tracked o;
        }

-- the levels
module _ (s : List ℕ) (h : Head) (ts : List Step) {z : Levels} {j : LevelJoins} {numbers blocks gone : List ℕ}
    (y : Levelled s h ts z j numbers blocks gone) where
  pub levels_lost : j.ok ≡ false → z.ok ≡ false
  levels_lost o = sym y.ok_is ∙ o

  pub levels_done : j.ok ≡ true → {kept : ℕ}
      → ((xs : List Spot) → LevelsAre s h.theta j.changed numbers blocks h.levels xs → kept ≡ length (kept_levels xs)) → kept ≤ h.levels
      → {end : ℕ} {nodes : List ℕ}
      → ((xs : List Spot) → NumbersAre h.levels numbers xs → kept ≡ length (kept_levels xs) → take end nodes ≡ take j.end gone ++ gone_roots xs)
      → {changed : ℕ} → changed ≡ min j.changed kept → {p q : ℕ}
      → LevelsMade s h ts z (record { page = p; levels = kept; changed = changed; linked = j.linked; pages = q; nodes = end }) numbers blocks nodes
  levels_done o {kept} a few b {changed} c =
      let w = y.levels_are o in
      let size = a z.spots w in
      record {
        ok = sym y.ok_is ∙ o;
        levels_are = size;
        each = kept_carried s h.theta j.changed changed numbers blocks h.levels z.spots w (omega (arith, few, size)) (c ∙ ap (min j.changed) size);
        linked_is = y.linked_is o;
        nodes_are =
            ap (λ l. l ++ gone_roots z.spots) (y.gone_are o)
            ∙ sym (b z.spots (numbers_of_lem s h.theta j.changed numbers blocks h.levels z.spots w) size);
      }

pub draft_fits : (f : Format) (h : Head) (p : PagePart) {kept changed was end at : ℕ} {linked : Bool} → kept ≤ h.levels → 1 ≤ kept → 1 ≤ was
    → changed ≡ min was kept → at ≤ width f * h.levels → end ≡ at + (h.levels - kept)
    → DraftFits f h p (record { page = p.page; levels = kept; changed = changed; linked = linked; pages = p.pages; nodes = end })
draft_fits f h p a b c d e g =
    record {
      page_is = refl;
      pages_is = refl;
      some = b;
      few = a;
      first = omega (arith, b, c, d);
      changed_in = omega (arith, d);
      nodes_in = omega (arith, a, e, g);
    }

-- both together, over the way down as it is carried
module _ (f : Format) (s : List ℕ) (h : Head) (k : ℕ) (d : Descent) where
  abbrev pub ts : List Step
  ts = take h.levels d.steps

  abbrev pub joins : Pages
  joins = page_joins f s h k d.used (emptied d.used d.page (without key_of k (own_items f s h d.page)) (path_reach (width f) k ts))

  abbrev pub rises : ℕ → ℕ → Levels
  rises m q = levels_from f s h k 1 ts m q (ltb m d.used) joins.reached

  plan_off : (joins.ok && (rises joins.used joins.page).ok) ≡ false → plan_of f s h k d ≡ no_plan
  unfolding plan_of plan_over
  plan_off e = rw (e, plan_over)

  same_plan : d ≡ descent f s h k → plan_of f s h k d ≡ plan_of f s h k (descent f s h k)
  same_plan e = ap (plan_of f s h k) e

  pub drawn_lost : d ≡ descent f s h k → joins.ok ≡ false → (plan_of f s h k (descent f s h k)).ok ≡ false
  drawn_lost e o = ap (λ (x : Plan). x.ok) (sym (same_plan e) ∙ plan_off (ap (λ b. b && (rises joins.used joins.page).ok) o))

  module _ (e : d ≡ descent f s h k) {p : PagePart} {items pages marks : List ℕ} (y : PagesMade f h.capacity k joins p items pages marks) where
    same_levels : rises joins.used joins.page ≡ rises p.bits p.page
    same_levels = ap₂ rises y.bits_are y.page_is

    module _ {o : Outline} {numbers blocks nodes : List ℕ} (w : LevelsMade s h ts (rises p.bits p.page) o numbers blocks nodes) where
      plan_on : plan_of f s h k d
          ≡ record {
            ok = true;
            page = joins.page;
            items = joins.items;
            spots = kept_levels (rises p.bits p.page).spots;
            linked = ltb (first_spot (rises p.bits p.page).spots).used (first_used ts);
            pages = joins.released;
            nodes = (rises p.bits p.page).released ++ gone_roots (rises p.bits p.page).spots;
          }
      unfolding plan_of
      plan_on = plan_is f s h k d.used ts joins (rises p.bits p.page) y.ok w.ok (sym same_levels)

      drawn_carried : DraftFits f h p o → Carried f s h o items numbers blocks pages nodes (plan_of f s h k d)
      drawn_carried v =
          subst (Carried f s h o items numbers blocks pages nodes) (sym plan_on)
          (record {
            page = v.page_is ∙ sym y.page_is;
            image = λ n. y.items_are;
            levels = w.levels_are;
            each = w.each;
            linked = w.linked_is;
            pages_are = y.pages_are ∙ ap (λ n. take n pages) (sym v.pages_is);
            nodes_are = w.nodes_are;
          })

      drawn_done : PartFits d.used p → DraftFits f h p o → Outlined f s h k o items numbers blocks pages nodes
      drawn_done x v =
          record {
            ok = ap (λ (x : Plan). x.ok) (sym (same_plan e) ∙ plan_on);
            carried = subst (Carried f s h o items numbers blocks pages nodes) (same_plan e) (drawn_carried v);
            some = v.some;
            few = v.few;
            first = v.first;
            changed_in = v.changed_in;
            pages_in = omega (arith, v.pages_is, x.pages_in);
            nodes_in = v.nodes_in;
          }

    -- what the levels say
    pub drawn_by : PartFits d.used p → (r : Result Outline Refusal) → IfOk r (DraftFits f h p) → (numbers blocks nodes : List ℕ)
        → LevelsDone s h ts (rises p.bits p.page) r numbers blocks nodes → Drawn f s h k r items numbers blocks pages nodes
    drawn_by x (Ok o) v _ _ _ w = drawn_done w x v
    drawn_by x (Err z) v _ _ _ w = (
      ap (λ (x : Plan). x.ok)
          (sym (same_plan e) ∙ plan_off (ap₂ ◌&&◌ y.ok (ap (λ (l : Levels). l.ok) same_levels ∙ w.0))),
      w.1,
    )

-- the numbers of nodes that a removal of L levels may release
pub slice_room : (f : Format) (L n : ℕ) → L ≤ n → width f * L + L ≤ 65 * n
slice_room f L n l = omega (arith, mul-le-mul_right L (width_within f), l)

-- the ways out
module _ {f : Format} {s : List ℕ} {h : Head} {k : ℕ} where
  pub executed_lost : (plan_of f s h k (descent f s h k)).ok ≡ false → Executed f s h k (Err DamageMet) s
  executed_lost z = record { answer_is = ap (λ b. answered b tt) (sym z); done = λ q. absurd (false≢true (sym z ∙ q)); stays = λ q. refl }

  pub executed_done : (plan_of f s h k (descent f s h k)).ok ≡ true → {t : List ℕ} → t ≡ written_by f s h (plan_of f s h k (descent f s h k))
      → Executed f s h k (Ok tt) t
  executed_done z e = record { answer_is = ap (λ b. answered b tt) (sym z); done = λ q. e; stays = λ q. absurd (false≢true (sym q ∙ z)) }
