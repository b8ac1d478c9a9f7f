-- The ways out of the code, each an arm of the definition.
use mathlib.Core.Path.{◌≡◌, refl, sym, ap, ◌∙◌}
use mathlib.Core.Bool.{Bool, true, false, ◌&&◌, ◌||◌, not, false≢true}
use mathlib.Core.List.{List}
use Prim.Native.Nat.{ℕ, ◌+◌, ◌≤◌, ◌<◌}
use native.Mathlib.Omega.{arith}
use lib.Dec.{eqb, ltb}
use lib.ListN.{length, get_or}
use borrow.Author.Tests.{lt-ltb, le-ltb, eq-eqb, ne_eqb}
use Rattle.std.specs.Prelude.{Result}
use Rattle.answers.specs.declared.Refusal.{Refusal}
use Rattle.store.specs.declared.Format.{Format}
use Rattle.store.specs.declared.Head.{Head}
use Rattle.store.specs.Format.{width}
use Rattle.store.specs.Head.{word, node_start, page_at}
use Rattle.node.specs.Node.{depth_word}
use Rattle.search.specs.Way.{Visit}
use Rattle.search.specs.Way.{End}
use Rattle.search.specs.Descent.{step_of}
use Rattle.search.specs.Find.{sound_page}
use Rattle.split.specs.Insertion.{put_items}
use Rattle.insert.specs.Enter.{own_items}
use Rattle.remove.specs.Remove.{sibling_key}
use Rattle.siblings.proofs.PageLaws.{count_null, count_some, tested_rule}
use Rattle.near.specs.Near.{Near, left_in, entry_beside, beside, root_stays, near_of, near_result, near_words}

-- the arms of a test
module _ {A : Type 0} (b : Bool) (x y : A) where
  first_arm : b ≡ true → x ≡ elim b [ true ↦ x | false ↦ y ]
  first_arm e = rw e

  second_arm : b ≡ false → y ≡ elim b [ true ↦ x | false ↦ y ]
  second_arm e = rw e

-- the page and its sibling
module _ (f : Format) (s : List ℕ) (h : Head) (k : ℕ) (e : End) (left : ℕ) where
  abbrev own : Visit
  own = entry_beside f s h k e

  abbrev passes : Bool
  passes = eqb own.pointer 0 || sound_page f h (page_at f s h own.pointer) (sibling_key (width f) k e.used) e.used

  null_passes : own.pointer ≡ 0 → passes ≡ true
  null_passes p = rw (eq-eqb own.pointer 0 p)

  pub beside_far : ltb e.used (e.before + own.depth) ≡ true → record { ok = true; done = true } ≡ beside f s h k e left
  unfolding beside
  beside_far t = first_arm _ _ _ t

  pub beside_lost : ltb e.used (e.before + own.depth) ≡ false → passes ≡ false → record { ok = false; done = false } ≡ beside f s h k e left
  unfolding beside
  beside_lost t z = second_arm _ _ _ z ∙ second_arm _ _ _ t

  pub beside_told : ltb e.used (e.before + own.depth) ≡ false → passes ≡ true
      → record { ok = true; done = ltb h.capacity (left + length (own_items f s h own.pointer)) } ≡ beside f s h k e left
  unfolding beside
  beside_told t z = first_arm _ _ _ z ∙ second_arm _ _ _ t

  pub near_beside : (ltb 0 left && ltb e.before e.used && root_stays s h) ≡ true → beside f s h k e left ≡ near_of f s h k e left
  unfolding near_of
  near_beside t = first_arm _ _ _ t

  pub near_undecided : (ltb 0 left && ltb e.before e.used && root_stays s h) ≡ false → record { ok = true; done = false } ≡ near_of f s h k e left
  unfolding near_of
  near_undecided t = second_arm _ _ _ t

  -- the same by the values that the code has
  module _ {other : ℕ} (eo : other ≡ sibling_key (width f) k e.used) {v : Visit} (ev : v ≡ step_of f s h other 1 e.node e.before) where
    own_is : v ≡ own
    own_is = ev ∙ ap (λ x. step_of f s h x 1 e.node e.before) eo

    deep_is : v.depth ≡ own.depth
    deep_is = ap (λ (x : Visit). x.depth) own_is

    pub apart_far : e.used < e.before + v.depth → record { ok = true; done = true } ≡ beside f s h k e left
    apart_far l = beside_far (lt-ltb e.used (e.before + own.depth) (omega (arith, l, deep_is)))

    module _ (near : e.before + v.depth ≤ e.used) where
      within : ltb e.used (e.before + own.depth) ≡ false
      within = le-ltb e.used (e.before + own.depth) (omega (arith, near, deep_is))

      pub apart_null : v.pointer ≡ 0 → left ≤ h.capacity → record { ok = true; done = false } ≡ beside f s h k e left
      apart_null z fits =
          let p : own.pointer ≡ 0 = sym (ap (λ (x : Visit). x.pointer) own_is) ∙ z in
          ap (λ b. record { ok = true; done = b })
          (sym (le-ltb h.capacity (left + length (own_items f s h own.pointer)) (omega (arith, fits, (count_null f s h own.pointer p).0))))
          ∙ beside_told within (null_passes p)

      module _ {t : Bool} (et : t ≡ (eqb v.pointer 0 || sound_page f h (page_at f s h v.pointer) other e.used)) where
        test_is : passes ≡ t
        test_is =
            sym (et
            ∙ ap (λ p. eqb p 0 || sound_page f h (page_at f s h p) other e.used) (ap (λ (x : Visit). x.pointer) own_is)
            ∙ ap (λ x. eqb own.pointer 0 || sound_page f h (page_at f s h own.pointer) x e.used) eo)

        pub apart_lost : t ≡ false → record { ok = false; done = false } ≡ beside f s h k e left
        apart_lost z = beside_lost within (test_is ∙ z)

        pub apart_told : t ≡ true → (v.pointer ≡ 0 → ⊥) → {pg : List ℕ} → pg ≡ page_at f s h v.pointer → {c : ℕ} → c ≡ get_or pg 0 0
            → {x : ℕ} → x ≡ h.capacity → record { ok = true; done = ltb x (left + c) } ≡ beside f s h k e left
        apart_told z some ep {c} ec {x} ex =
            let counted = (count_some f s h v.pointer some (tested_rule f s h v.pointer other e.used (sym et ∙ z)) ep ec).0 in
            ap (λ y. record { ok = true; done = ltb y (left + c) }) ex
            ∙ ap (λ y. record { ok = true; done = ltb h.capacity (left + y) })
            (counted ∙ ap (λ (x : Visit). length (own_items f s h x.pointer)) own_is)
            ∙ beside_told within (test_is ∙ z)

  -- the tests before
  pub near_emptied : left ≡ 0 → record { ok = true; done = false } ≡ near_of f s h k e left
  near_emptied z = near_undecided (rw (le-ltb 0 left (omega (arith, z))))

  module _ (one : 1 ≤ left) where
    pub near_wide : e.used ≤ e.before → record { ok = true; done = false } ≡ near_of f s h k e left
    near_wide l = near_undecided (rw (lt-ltb 0 left one, le-ltb e.before e.used l))

    module _ (above : e.before < e.used) where
      pub near_root : root_stays s h ≡ false → record { ok = true; done = false } ≡ near_of f s h k e left
      near_root z = near_undecided (rw (lt-ltb 0 left one, lt-ltb e.before e.used above, z))

      pub near_told : root_stays s h ≡ true → {r : Near} → r ≡ beside f s h k e left → r ≡ near_of f s h k e left
      near_told t q = q ∙ near_beside (rw (lt-ltb 0 left one, lt-ltb e.before e.used above, t))

-- with as many left as there are
pub near_left : (f : Format) (s : List ℕ) (h : Head) (k : ℕ) (e : End) {n left : ℕ} → n ≡ left → {r : Result Bool Refusal}
    → r ≡ near_result (near_of f s h k e n) → r ≡ near_result (near_of f s h k e left)
near_left f s h k e l q = q ∙ ap (λ x. near_result (near_of f s h k e x)) l

-- what is damage is not done
undone : (a b c d : Bool) → let r : Near =
    elim a [
      | true ↦
          elim b [
            | true ↦ record { ok = true; done = true }
            | false ↦ elim c [ true ↦ record { ok = true; done = d } | false ↦ record { ok = false; done = false } ]
          ]
      | false ↦ record { ok = true; done = false }
    ] in
    r.ok ≡ false → r.done ≡ false
undone false b c d z = refl
undone true true c d z = absurd (false≢true (sym z))
undone true false true d z = absurd (false≢true (sym z))
undone true false false d z = refl

-- the words after it
module _ (f : Format) (s : List ℕ) (h : Head) (k : ℕ) (e : End) where
  abbrev said : Near
  said = near_of f s h k e (length (left_in f s h k e.page))

  pub words_written : said.done ≡ true → put_items f h.capacity s e.page (left_in f s h k e.page) ≡ near_words f s h k e
  unfolding near_words
  words_written t = first_arm _ _ _ t

  pub words_kept : said.done ≡ false → s ≡ near_words f s h k e
  unfolding near_words
  words_kept t = second_arm _ _ _ t

  pub words_lost : said.ok ≡ false → s ≡ near_words f s h k e
  unfolding near_of beside
  words_lost z =
      let n : ℕ = length (left_in f s h k e.page) in
      let v : Visit = entry_beside f s h k e in
      words_kept
      (undone (ltb 0 n && ltb e.before e.used && root_stays s h) (ltb e.used (e.before + v.depth)) (passes f s h k e n)
      (ltb h.capacity (n + length (own_items f s h v.pointer))) z)

-- the root's test
module _ (s : List ℕ) (h : Head) where
  pub one_level : h.levels ≡ 1 → true ≡ root_stays s h
  unfolding root_stays
  one_level e = sym (rw (eq-eqb h.levels 1 e, root_stays) refl)

  pub root_told : (h.levels ≡ 1 → ⊥) → {a x : ℕ} → a ≡ node_start h h.root → x ≡ get_or s a 0 → not (eqb x 0) ≡ root_stays s h
  unfolding root_stays
  root_told n ea ex = sym (rw (ne_eqb h.levels 1 n, root_stays) (ap (λ y. not (eqb y 0)) (sym (ex ∙ ap (word s) ea))))

  pub root_deep : root_stays s h ≡ true → (h.levels ≡ 1 → ⊥) → depth_word s (node_start h h.root) ≡ 0 → ⊥
  unfolding root_stays
  root_deep t n z = false≢true (sym (rw (ne_eqb h.levels 1 n, eq-eqb (depth_word s (node_start h h.root)) 0 z, root_stays) refl) ∙ t)
