-- A removal after which nothing joins: its plan has the key's page without the record, and the path as found.
--   stayed s page its ts == that plan
use mathlib.Core.Path.{◌≡◌, refl, sym, ap, ap₂, ◌∙◌}
use mathlib.Core.Bool.{true, false}
use mathlib.Core.List.{List, [], ◌∷◌, ◌++◌, map}
use Prim.Native.Nat.{ℕ, zero, suc, ◌-◌, ◌≤◌, ◌<◌}
use native.Mathlib.Decide.{ℕ_discrete}
use native.Mathlib.Omega.{arith}
use lib.Dec.{ltb}
use lib.ListN.{length, get_or, take, drop, length-map}
use lib.Seq.{take_all, drop-length}
use borrow.Author.Tests.{le-ltb}
use Rattle.store.specs.declared.Format.{Format}
use Rattle.store.specs.declared.Head.{Head}
use Rattle.store.specs.declared.Item.{Item}
use Rattle.store.specs.Format.{width}
use Rattle.node.specs.Node.{depth_word}
use Rattle.page.specs.Schema.{key_of}
use Rattle.search.specs.declared.Step.{Step}
use Rattle.search.specs.Way.{Descent}
use Rattle.search.specs.Descent.{no_step}
use Rattle.split.specs.Frame.{node_of}
use Rattle.insert.specs.Enter.{own_items}
use Rattle.joins.specs.Joins.{without}
use Rattle.remove.specs.Remove.{Reach, Spot, Levels, Plan, no_spot, covered, spot_at, levels_from, kept_levels, gone_roots, backwards, top_of, path_reach, first_used, first_spot, stuck_pages, no_pages, page_joins, emptied, plan_over, plan_of}
use Rattle.remove.proofs.LevelsPhase.{start_of, levels_stay}
use Rattle.near.specs.Promises.{begun}
use Rattle.levels.proofs.RootLaws.{keeps_start, keeps_top, keeps_last, kept_prefix}

-- a page that keeps a record
pub some_left : (used page : ℕ) (xs : List Item) (rs : List Reach) → 1 ≤ length xs
    → emptied used page xs rs ≡ record { ok = true; used = used; page = page; items = xs; released = []; reached = rs }
unfolding emptied
some_left used page [] rs l = absurd (omega (arith, l))
some_left used page (x ∷ xs) rs l = refl

-- the levels stay, all of them
module _ (s : List ℕ) (ts : List Step) where
  abbrev xs : List Spot
  xs = map (spot_at s) ts

  spot_at_lem : (us : List Step) (i : ℕ) → i < length us → get_or (map (spot_at s) us) i no_spot ≡ spot_at s (get_or us i no_step)
  spot_at_lem [] i l = absurd (omega arith)
  spot_at_lem (t ∷ us) zero l = refl
  spot_at_lem (t ∷ us) (suc i) l = spot_at_lem us i (omega arith)

  pub all_kept : (levels : ℕ) → length ts ≡ levels → 1 ≤ levels
      → ((levels ≡ 1 → ⊥) → depth_word (node_of s (get_or ts (levels - 1) no_step).node) 0 ≡ 0 → ⊥) → kept_levels xs ≡ xs
  all_kept levels long some deep =
      let size : length xs ≡ levels = length-map ts (spot_at s) ∙ long in
      let many : levels ≡ length (kept_levels xs) =
      elim (ℕ_discrete levels 1) [
        | yes z ↦ keeps_last xs levels levels size (omega arith) (omega (arith, z)) (keeps_start xs levels size)
        | no z ↦
            keeps_top xs levels levels size (omega arith) (omega (arith, some, z))
            (λ q. deep z (ap (λ (x : Spot). depth_word x.block 0) (sym (spot_at_lem ts (levels - 1) (omega (arith, long, some)))) ∙ q)) (keeps_start xs levels size)
      ] in
      kept_prefix xs ∙ ap (λ n. take n xs) (sym many) ∙ take_all levels xs (omega (arith, size))

  top_last : (ys : List Spot) → 1 ≤ length ys → top_of ys ≡ (get_or ys (length ys - 1) no_spot).number
  top_last [] l = absurd (omega arith)
  top_last (y ∷ []) l = refl
  top_last (y ∷ z ∷ ys) l =
      let e : suc (length (z ∷ ys) - 1) ≡ length (y ∷ z ∷ ys) - 1 = omega arith in
      top_last (z ∷ ys) (omega arith) ∙ ap (λ i. (get_or (y ∷ z ∷ ys) i no_spot).number) e

  pub top_node : (levels : ℕ) → length ts ≡ levels → 1 ≤ levels → top_of xs ≡ (get_or ts (levels - 1) no_step).node
  top_node levels long some =
      let size : length xs ≡ levels = length-map ts (spot_at s) ∙ long in
      top_last xs (omega (arith, size, some))
      ∙ ap (λ (n : ℕ). (get_or xs (n - 1) no_spot).number) size
      ∙ ap (λ (x : Spot). x.number) (spot_at_lem ts (levels - 1) (omega (arith, long, some)))

abbrev pub stayed : List ℕ → ℕ → List Item → List Step → Plan
stayed s page its ts =
    record { ok = true; page = page; items = its; spots = map (spot_at s) ts; linked = false; pages = []; nodes = [] }

-- the plan by its levels
plan_by : (f : Format) (s : List ℕ) (h : Head) (k used : ℕ) (ts : List Step) (page : ℕ) (its : List Item) (rs : List Reach) (l : Levels)
    → l ≡ levels_from f s h k 1 ts used page (ltb used used) rs → l.ok ≡ true
    → plan_over f s h k used ts (record { ok = true; used = used; page = page; items = its; released = []; reached = rs })
    ≡ record {
      ok = true;
      page = page;
      items = its;
      spots = kept_levels l.spots;
      linked = ltb (first_spot l.spots).used (first_used ts);
      pages = [];
      nodes = l.released ++ gone_roots l.spots;
    }
unfolding plan_over
plan_by f s h k used ts page its rs l e o = rw (e, rw e at o, plan_over)

-- nothing joins
module _ (f : Format) (s : List ℕ) (h : Head) (k used page : ℕ) (its : List Item) (t : Step) (us : List Step)
    (own : covered (width f) h.theta k t.used used page (node_of s t.node) ≡ node_of s t.node)
    (kept : kept_levels (map (spot_at s) (t ∷ us)) ≡ map (spot_at s) (t ∷ us)) where
  abbrev path : List Spot
  path = map (spot_at s) (t ∷ us)

  level_stays : (rs : List Reach) → record { ok = true; spots = path; released = [] } ≡ levels_from f s h k 1 (t ∷ us) used page (ltb used used) rs
  level_stays rs =
      sym (ap (λ b. levels_from f s h k 1 (t ∷ us) used page b rs) (le-ltb used used (omega arith))
      ∙ levels_stay f s h k 1 t us used page rs false (start_of f s h k 1 t us used page rs) refl refl (le-ltb t.used t.used (omega arith))
      ∙ ap (λ ws. record { ok = true; spots = record { number = t.node; used = t.used; last = t.node; block = ws } ∷ map (spot_at s) us; released = [] }) own)

  pub over_stays : (rs : List Reach)
      → plan_over f s h k used (t ∷ us) (record { ok = true; used = used; page = page; items = its; released = []; reached = rs }) ≡ stayed s page its (t ∷ us)
  unfolding first_spot first_used
  over_stays rs =
      plan_by f s h k used (t ∷ us) page its rs (record { ok = true; spots = path; released = [] }) (level_stays rs) refl
      ∙ ap₂ (λ b (ns : List ℕ). record { ok = true; page = page; items = its; spots = kept_levels path; linked = b; pages = []; nodes = ns })
      (le-ltb t.used t.used (omega arith))
      (ap (λ n. backwards [] (map (λ (x : Spot). x.number) (drop n path))) (ap length kept)
      ∙ ap (λ zs. backwards [] (map (λ (x : Spot). x.number) zs)) (drop-length path))
      ∙ ap (λ zs. record { ok = true; page = page; items = its; spots = zs; linked = false; pages = []; nodes = [] }) kept

-- damage among the pages
pub plan_lost : (f : Format) (s : List ℕ) (h : Head) (k : ℕ) (d : Descent) → page_joins f s h k d.used (begun f s h k d) ≡ no_pages
    → (plan_of f s h k d).ok ≡ false
unfolding plan_of plan_over
plan_lost f s h k d e = ap (λ g. (plan_over f s h k d.used (take h.levels d.steps) g).ok) e

-- the page's pair stays apart
pub plan_stays : (f : Format) (s : List ℕ) (h : Head) (k : ℕ) (d : Descent) (t : Step) (us : List Step) (rs : List Reach)
    → take h.levels d.steps ≡ t ∷ us
    → 1 ≤ length (without key_of k (own_items f s h d.page))
    → covered (width f) h.theta k t.used d.used d.page (node_of s t.node) ≡ node_of s t.node
    → kept_levels (map (spot_at s) (t ∷ us)) ≡ map (spot_at s) (t ∷ us)
    → page_joins f s h k d.used (begun f s h k d) ≡ stuck_pages (begun f s h k d) rs
    → plan_of f s h k d ≡ stayed s d.page (without key_of k (own_items f s h d.page)) (t ∷ us)
unfolding plan_of
plan_stays f s h k d t us rs e some own kept a =
    let its : List Item = without key_of k (own_items f s h d.page) in
    let ts : List Step = take h.levels d.steps in
    ap (plan_over f s h k d.used ts) (a ∙ ap (λ g. stuck_pages g rs) (some_left d.used d.page its (path_reach (width f) k ts) some))
    ∙ ap (λ zs. plan_over f s h k d.used zs (record { ok = true; used = d.used; page = d.page; items = its; released = []; reached = rs })) e
    ∙ over_stays f s h k d.used d.page its t us own kept rs
