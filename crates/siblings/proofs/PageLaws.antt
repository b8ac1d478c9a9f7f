-- One turn of the joins of pages, as the code makes it.
use mathlib.Core.Path.{◌≡◌, refl, sym, ap, ap₂, ◌∙◌, subst}
use mathlib.Core.Bool.{Bool, true, false, ◌||◌, true≢false, false≢true}
use mathlib.Core.List.{List, []}
use Prim.Native.Nat.{ℕ, ◌+◌, ◌≤◌}
use native.Mathlib.Omega.{arith}
use lib.Dec.{eqb}
use lib.ListN.{length, get_or}
use borrow.Author.Tests.{eq-eqb, ne_eqb, le-leb, lt-leb}
use Rattle.lists.proofs.Tests.{and_true, length_tab}
use Rattle.store.specs.declared.Format.{Format}
use Rattle.store.specs.declared.Head.{Head}
use Rattle.store.specs.Format.{width}
use Rattle.store.specs.Head.{page_at}
use Rattle.page.specs.Page.{count, item_at, page_rule}
use Rattle.page.proofs.Laws.{rule_facts}
use Rattle.search.specs.Find.{sound_page}
use Rattle.insert.specs.Enter.{items_in, own_items}
use Rattle.remove.specs.Remove.{Sought, Pages, sibling_key, on_left, sibling, both_pages, page_joins}
use Rattle.remove.proofs.PagePhase.{turn_lost, turn_damaged, turn_none, turn_full, turn_on}
use Rattle.siblings.specs.Outcome.{Found, Mate}
use Rattle.siblings.specs.Marks.{SoughtIs}
use Rattle.siblings.specs.Pages.{Mated}

-- no page to join with
abbrev no_mate : Bool → Mate
no_mate b = record { ok = b; found = false; pointer = 0; count = 0 }

-- records of a page that is read
module _ (f : Format) (s : List ℕ) (h : Head) (p : ℕ) where
  pub count_null : p ≡ 0 → (0 ≡ length (own_items f s h p)) × (0 ≤ h.capacity)
  unfolding own_items
  count_null z = (sym (rw (eq-eqb p 0 z, own_items) refl), omega arith)

  own_some : (p ≡ 0 → ⊥) → own_items f s h p ≡ items_in f (page_at f s h p)
  unfolding own_items
  own_some z = rw (ne_eqb p 0 z, own_items)

  pub count_some : (p ≡ 0 → ⊥) → ((p ≡ 0 → ⊥) → page_rule f h.capacity (page_at f s h p) ≡ true) → {pg : List ℕ} → pg ≡ page_at f s h p
      → {r : ℕ} → r ≡ get_or pg 0 0 → (r ≡ length (own_items f s h p)) × (r ≤ h.capacity)
  unfolding items_in
  count_some z rule e q =
      let n = q ∙ ap (λ x. get_or x 0 0) e in (
        n ∙ sym (length_tab (count (page_at f s h p)) (item_at f (page_at f s h p))) ∙ ap length (sym (own_some z)),
        omega (arith, n, (rule_facts f h.capacity (page_at f s h p) (rule z)).fits),
      )

  pub tested_rule : (k used : ℕ) → (eqb p 0 || sound_page f h (page_at f s h p) k used) ≡ true → (p ≡ 0 → ⊥)
      → page_rule f h.capacity (page_at f s h p) ≡ true
  unfolding sound_page
  tested_rule k used t z = (and_true _ _ (rw (ne_eqb p 0 z) at t)).0

module _ (f : Format) (s : List ℕ) (h : Head) (k : ℕ) (g : Pages) {w : Found} {marks : List ℕ}
    (q : SoughtIs (width f) k w (sibling f s h k g.used 0 g.reached) marks) where
  abbrev z : Sought
  z = sibling f s h k g.used 0 g.reached

  abbrev test : ℕ → Bool
  test p = eqb p 0 || sound_page f h (page_at f s h p) (sibling_key (width f) k g.used) g.used

  pub mate_lost : w.ok ≡ false → {r : Mate} → r ≡ no_mate false → Mated f s h k g r marks
  mate_lost o e =
      subst (λ r. Mated f s h k g r marks) (sym e)
      (record {
        reaches = [];
        tracked = λ b. absurd (false≢true b);
        lost = λ b n. turn_lost f s h k n g (sym q.ok_is ∙ o);
        none = λ b. absurd (false≢true b);
        count_is = λ b. absurd (false≢true b);
        full = λ b. absurd (false≢true b);
        on = λ b. absurd (false≢true b);
      })

  module _ (o : w.ok ≡ true) where
    ok : z.ok ≡ true
    ok = sym q.ok_is ∙ o

    pub mate_none : w.found ≡ false → {r : Mate} → r ≡ no_mate true → Mated f s h k g r marks
    mate_none a e =
        subst (λ r. Mated f s h k g r marks) (sym e)
        (record {
          reaches = z.reached;
          tracked = λ b. q.tracks ok;
          lost = λ b. absurd (true≢false b);
          none = λ b c n. turn_none f s h k n g z refl ok (sym q.found_is ∙ a);
          count_is = λ b c. absurd (false≢true c);
          full = λ b c. absurd (false≢true c);
          on = λ b c. absurd (false≢true c);
        })

    module _ (a : w.found ≡ true) {sk m : ℕ} (em : g.used ≡ m) (ek : sk ≡ sibling_key (width f) k m) {t : Bool}
        (et : t ≡ (eqb w.pointer 0 || sound_page f h (page_at f s h w.pointer) sk m)) where
      tested : test z.pointer ≡ t
      tested =
          ap (λ p. test p) (sym q.pointer_is)
          ∙ ap₂ (λ x y. eqb w.pointer 0 || sound_page f h (page_at f s h w.pointer) x y)
          (ap (sibling_key (width f) k) em ∙ sym ek) em
          ∙ sym et

      pub mate_damaged : t ≡ false → {r : Mate} → r ≡ no_mate false → Mated f s h k g r marks
      mate_damaged y e =
          subst (λ r. Mated f s h k g r marks) (sym e)
          (record {
            reaches = [];
            tracked = λ b. absurd (false≢true b);
            lost = λ b n. turn_damaged f s h k n g z refl ok (sym q.found_is ∙ a) (tested ∙ y);
            none = λ b. absurd (false≢true b);
            count_is = λ b. absurd (false≢true b);
            full = λ b. absurd (false≢true b);
            on = λ b. absurd (false≢true b);
          })

      pub mate_found : t ≡ true → {c : ℕ} → c ≡ length (own_items f s h w.pointer)
          → Mated f s h k g (record { ok = true; found = true; pointer = w.pointer; count = c }) marks
      mate_found y {c} ec =
          let there : c ≡ length (own_items f s h z.pointer) = ec ∙ ap (λ p. length (own_items f s h p)) q.pointer_is in
          record {
            reaches = z.reached;
            tracked = λ b. q.tracks ok;
            lost = λ b. absurd (true≢false b);
            none = λ b d. absurd (true≢false d);
            count_is = λ b d. ec;
            full = λ b d l n.
                turn_full f s h k n g z refl ok (sym q.found_is ∙ a) (tested ∙ y)
                (lt-leb (length g.items + length (own_items f s h z.pointer)) h.capacity (omega (arith, l, there)));
            on = λ b d l n.
                turn_on f s h k n g z refl ok (sym q.found_is ∙ a) (tested ∙ y)
                (le-leb (length g.items + length (own_items f s h z.pointer)) h.capacity (omega (arith, l, there)))
                ∙ ap (λ p. page_joins f s h k n (both_pages g (on_left (width f) k g.used) p (own_items f s h p) z.reached)) (sym q.pointer_is);
          }
