-- The joins of pages as a loop: what is left to join from the stretch in hand is the whole.
--   Joining == the stretch in hand after n joins, with the pages in mates
use mathlib.Core.Path.{◌≡◌, refl, sym, ap, ap₂, ◌∙◌, subst}
use mathlib.Core.Bool.{Bool, true, false, false≢true}
use mathlib.Core.List.{List, [], ◌∷◌, ◌++◌}
use Prim.Native.Nat.{ℕ, zero, suc, ◌+◌, ◌-◌, ◌≤◌, ◌<◌}
use native.Mathlib.Omega.{arith}
use lib.ListN.{length, take, set, length-append}
use Rattle.lists.specs.Lists.{All}
use Rattle.lists.proofs.AppendLaws.{all_append}
use Rattle.store.specs.declared.Format.{Format}
use Rattle.store.specs.declared.Head.{Head}
use Rattle.store.specs.declared.Item.{Item}
use Rattle.store.specs.Format.{width}
use Rattle.insert.specs.Enter.{own_items}
use Rattle.remove.specs.Remove.{Reach, Pages, on_left, stuck_pages, both_pages, page_joins}
use Rattle.siblings.specs.Outcome.{Mate, PageJoins}
use Rattle.siblings.specs.Marks.{Tracks}
use Rattle.siblings.specs.Pages.{quiet, pages_by, Mated, Paged, Joinable, records_in}

-- a pair joined
module _ (g : Pages) (p : ℕ) (its : List Item) (rs : List Reach) where
  both_ok : (b : Bool) → (both_pages g b p its rs).ok ≡ true
  unfolding both_pages
  both_ok true = refl
  both_ok false = refl

  pub both_used : (b : Bool) → (both_pages g b p its rs).used ≡ g.used - 1
  unfolding both_pages
  both_used true = refl
  both_used false = refl

  both_reached : (b : Bool) → (both_pages g b p its rs).reached ≡ rs
  unfolding both_pages
  both_reached true = refl
  both_reached false = refl

  pub both_length : (b : Bool) → length (both_pages g b p its rs).items ≡ length g.items + length its
  unfolding both_pages
  both_length true = omega (arith, length-append its g.items)
  both_length false = omega (arith, length-append g.items its)

  both_quiet : (b : Bool) → quiet (both_pages g b p its rs) ≡ both_pages (quiet g) b p its []
  unfolding both_pages
  both_quiet true = refl
  both_quiet false = refl

pub take_next : (n : ℕ) (xs : List ℕ) (p : ℕ) → n < length xs → take (suc n) (set xs n p) ≡ take n xs ++ (p ∷ [])
take_next n [] p l = absurd (omega (arith, l))
take_next zero (x ∷ xs) p l = refl
take_next (suc n) (x ∷ xs) p l = ap (λ ys. x ∷ ys) (take_next n xs p (omega arith))

pub take_more : (n : ℕ) (xs : List ℕ) (p : ℕ) → n < length xs → take (n + 1) (set xs n p) ≡ take n xs ++ (p ∷ [])
take_more n xs p l = ap (λ i. take i (set xs n p)) (let q : n + 1 ≡ suc n = omega arith in q) ∙ take_next n xs p l

-- one page more among those joined
module _ (f : Format) (s : List ℕ) (h : Head) where
  records_last : (ps : List ℕ) (p : ℕ) → records_in f s h (ps ++ (p ∷ [])) ≡ records_in f s h ps + length (own_items f s h p)
  records_last [] p = omega arith
  records_last (q ∷ ps) p = omega (arith, records_last ps p)

  module _ (n : ℕ) (mates : List ℕ) (p : ℕ) (room : n < length mates) where
    pub joinable_more : All (Joinable f s h) (take n mates) → Joinable f s h p → All (Joinable f s h) (take (n + 1) (set mates n p))
    joinable_more a b = subst (All (Joinable f s h)) (sym (take_more n mates p room)) (all_append (Joinable f s h) (take n mates) (p ∷ []) a (b, tt))

    pub records_more : (count : ℕ) {held c : ℕ} → count + records_in f s h (take n mates) ≡ held → c ≡ length (own_items f s h p)
        → count + records_in f s h (take (n + 1) (set mates n p)) ≡ held + c
    records_more count e q = omega (arith, e, q, records_last (take n mates) p, ap (records_in f s h) (take_more n mates p room))

module _ (f : Format) (s : List ℕ) (h : Head) (k : ℕ) where
  by_append : (g : Pages) (ps : List ℕ) (p : ℕ) → pages_by f s h k g (ps ++ (p ∷ [])) ≡ pages_by f s h k (pages_by f s h k g ps) (p ∷ [])
  by_append g [] p = refl
  by_append g (q ∷ ps) p = by_append (both_pages g (on_left (width f) k g.used) q (own_items f s h q) []) ps p

  pub record Joining (g₀ : Pages) (left n held : ℕ) (mates marks : List ℕ) : Type 0 where
    pub hand : Pages
    pub fine : hand.ok ≡ true
    pub used_is : hand.used ≡ left
    pub held_is : length hand.items ≡ held
    pub tracked : Tracks (width f) k hand.reached marks
    pub rest : page_joins f s h k left hand ≡ page_joins f s h k g₀.used g₀
    pub by : quiet hand ≡ pages_by f s h k (quiet g₀) (take n mates)

  pub joins_start : (g : Pages) (used count : ℕ) (mates marks : List ℕ) → g.ok ≡ true → g.used ≡ used → length g.items ≡ count
      → Tracks (width f) k g.reached marks → {left : ℕ} → used ≡ left → Joining g left 0 count mates marks
  joins_start g used count mates marks o u c y d =
      record {
        hand = g;
        fine = o;
        used_is = u ∙ d;
        held_is = c;
        tracked = y;
        rest = ap (λ m. page_joins f s h k m g) (sym (u ∙ d));
        by = refl;
      }

  module _ (g₀ : Pages) (left n held : ℕ) (mates marks : List ℕ) (j : Joining g₀ left n held mates marks) where
    abbrev whole : Pages
    whole = page_joins f s h k g₀.used g₀

    abbrev ends : Bool → PageJoins
    ends b = record { ok = b; n = n }

    pub joins_out : left ≡ 0 → {i : ℕ} → n ≡ i → Paged f s h k g₀ whole (record { ok = true; n = i }) mates marks
    unfolding page_joins
    joins_out z i =
        let e : whole ≡ j.hand = sym j.rest ∙ ap (λ m. page_joins f s h k m j.hand) z in
        subst (λ x. Paged f s h k g₀ whole (record { ok = true; n = x }) mates marks) i
        (rw e (record { ok_is = sym j.fine; pages_are = λ o. j.by; tracked = λ o. j.tracked }))

    module _ (some : 1 ≤ left) {r : Mate} {more : List ℕ} (y : Mated f s h k j.hand r more) where
      turn : whole ≡ page_joins f s h k (suc (left - 1)) j.hand
      turn = sym j.rest ∙ ap (λ m. page_joins f s h k m j.hand) (let e : left ≡ suc (left - 1) = omega arith in e)

      pub joins_lost : r.ok ≡ false → (i : ℕ) → Paged f s h k g₀ whole (record { ok = false; n = i }) mates more
      joins_lost o i =
          rw (turn ∙ y.lost o (left - 1))
          (record { ok_is = refl; pages_are = λ b. absurd (false≢true b); tracked = λ b. absurd (false≢true b) })

      module _ (ok : r.ok ≡ true) where
        stuck : whole ≡ stuck_pages j.hand y.reaches → Paged f s h k g₀ whole (ends true) mates more
        stuck e = rw e (record { ok_is = refl; pages_are = λ b. j.by; tracked = λ b. y.tracked ok })

        pub joins_none : r.found ≡ false → Paged f s h k g₀ whole (ends true) mates more
        joins_none a = stuck (turn ∙ y.none ok a (left - 1))

        module _ (a : r.found ≡ true) where
          pub joins_full : h.capacity < held + r.count → Paged f s h k g₀ whole (ends true) mates more
          joins_full l = stuck (turn ∙ y.full ok a (omega (arith, l, j.held_is)) (left - 1))

          next_one : held + r.count ≤ h.capacity → n < length mates → {ps : List ℕ} → ps ≡ set mates n r.pointer
              → Joining g₀ (left - 1) (n + 1) (held + r.count) ps more
          next_one l room {ps = ps} ep =
              let b : Bool = on_left (width f) k j.hand.used in
              let p : ℕ = r.pointer in
              let its : List Item = own_items f s h p in
              let next : Pages = both_pages j.hand b p its y.reaches in
              let more_of : take (n + 1) ps ≡ take n mates ++ (p ∷ []) =
              ap₂ (λ i xs. take i xs) (let q : n + 1 ≡ suc n = omega arith in q) ep ∙ take_next n mates p room in
              record {
                hand = next;
                fine = both_ok j.hand p its y.reaches b;
                used_is = both_used j.hand p its y.reaches b ∙ ap (λ x. x - 1) j.used_is;
                held_is = omega (arith, both_length j.hand p its y.reaches b, j.held_is, y.count_is ok a);
                tracked = subst (λ rs. Tracks (width f) k rs more) (sym (both_reached j.hand p its y.reaches b)) (y.tracked ok);
                rest = sym (y.on ok a (omega (arith, l, j.held_is)) (left - 1)) ∙ sym turn;
                by =
                    both_quiet j.hand p its y.reaches b
                    ∙ ap (λ x. pages_by f s h k x (p ∷ [])) j.by
                    ∙ sym (by_append (quiet g₀) (take n mates) p)
                    ∙ ap (pages_by f s h k (quiet g₀)) (sym more_of);
              }

          pub joins_on : held + r.count ≤ h.capacity → n < length mates → {ps : List ℕ} → ps ≡ set mates n r.pointer
              → {left' : ℕ} → left - 1 ≡ left' → Joining g₀ left' (n + 1) (held + r.count) ps more
          joins_on l room {ps = ps} ep d =
              subst (λ x. Joining g₀ x (n + 1) (held + r.count) ps more) d (next_one l room ep)
