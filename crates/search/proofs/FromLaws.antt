-- Next from the descent on: one law for each way out.
use mathlib.Core.Path.{◌≡◌, sym, ap, ◌∙◌}
use mathlib.Core.Bool.{Bool, true, false}
use mathlib.Core.List.{List}
use Prim.Native.Nat.{ℕ, ◌≤◌, ◌<◌}
use lib.ListN.{get_or}
use borrow.Author.Tests.{lt-ltb, le-ltb, eq-eqb, ne_eqb}
use Rattle.store.specs.declared.Format.{Format}
use Rattle.store.specs.declared.Head.{Head}
use Rattle.store.specs.declared.Item.{Item}
use Rattle.page.specs.Page.{count, item_at, first_above}
use Rattle.search.specs.Way.{Descent}
use Rattle.search.specs.Way.{Record, Damaged}
use Rattle.search.specs.Descent.{no_step, descent}
use Rattle.search.specs.Find.{sound_page}
use Rattle.search.specs.Next.{after_own, from_descent, next_of}
use Rattle.search.proofs.FindLaws.{Led}

module _ (f : Format) (s : List ℕ) (h : Head) (strict : Bool) (k : ℕ) (d : Descent) (is : d ≡ descent f s h k) where
  whole : from_descent f s h strict k d ≡ next_of f s h strict k
  unfolding next_of
  whole = ap (from_descent f s h strict k) is

  pub from_lost : d.ok ≡ false → Damaged ≡ next_of f s h strict k
  unfolding from_descent
  from_lost o = sym (sym whole ∙ rw (o, from_descent))

  pub from_null : d.ok ≡ true → d.page ≡ 0 → after_own f s h strict k (get_or d.steps 0 no_step) ≡ next_of f s h strict k
  unfolding from_descent
  from_null o z = sym (sym whole ∙ rw (o, eq-eqb d.page 0 z, from_descent))

-- where the way led to a page
module _ {f : Format} {s : List ℕ} {h : Head} {k : ℕ} {d : Descent} {pg : List ℕ} (strict : Bool) (w : Led f s h k d pg) where
  pub from_unsound : sound_page f h pg k d.used ≡ false → Damaged ≡ next_of f s h strict k
  unfolding from_descent
  from_unsound p =
      sym (sym (whole f s h strict k d w.way) ∙ rw (w.ok, ne_eqb d.page 0 w.some, rw w.page at p, from_descent))

  -- i is what the code has as the first record above, n as the count
  module _ (p : sound_page f h pg k d.used ≡ true) {i n : ℕ} (ei : i ≡ first_above f pg strict k) (en : n ≡ count pg) where
    pub from_found : {it : Item} → it ≡ item_at f pg i → i < n → Record it ≡ next_of f s h strict k
    unfolding from_descent
    from_found t l =
        let b = lt-ltb _ _ (rw (ei, en, w.page) at l) in
        ap Record (rw (ei, w.page) at t)
        ∙ sym (sym (whole f s h strict k d w.way) ∙ rw (w.ok, ne_eqb d.page 0 w.some, rw w.page at p, b, from_descent))

    pub from_after : n ≤ i → after_own f s h strict k (get_or d.steps 0 no_step) ≡ next_of f s h strict k
    unfolding from_descent
    from_after l =
        let b = le-ltb _ _ (rw (ei, en, w.page) at l) in
        sym (sym (whole f s h strict k d w.way) ∙ rw (w.ok, ne_eqb d.page 0 w.some, rw w.page at p, b, from_descent))
