-- The ways out of remove, one law each.
use mathlib.Core.Path.{◌≡◌, refl, sym, ap, ◌∙◌, subst}
use mathlib.Core.Bool.{Bool, true, false}
use mathlib.Core.List.{List}
use Prim.Native.Nat.{ℕ, ◌^◌, ◌≤◌, ◌<◌}
use lib.ListN.{length}
use borrow.Author.Tests.{lt-ltb, le-ltb, eq-eqb, ne_eqb}
use Rattle.std.specs.Prelude.{Option, Result, Ok, Err}
use Rattle.answers.specs.declared.Refusal.{Refusal}
use Rattle.answers.specs.declared.Refusal.TheVariants.{DamageMet}
use Rattle.answers.specs.Answers.{number}
use Rattle.store.specs.declared.Format.{Format}
use Rattle.store.specs.declared.Head.{Head}
use Rattle.store.specs.declared.Item.{Item}
use Rattle.store.specs.Format.{width}
use Rattle.store.specs.Head.{head_of, head_rule, page_at, Under}
use Rattle.page.specs.Page.{count, item_at, key_at, first_above}
use Rattle.search.specs.Way.{Sought}
use Rattle.search.specs.Way.{Record, Nothing, Damaged}
use Rattle.search.specs.Way.{End}
use Rattle.search.specs.Descent.{descent, end_of}
use Rattle.search.specs.Find.{no_item, reply, sound_page, find_of}
use Rattle.search.proofs.FindLaws.{Led, find_sound, in_page_is}
use Rattle.remove.specs.Remove.{After, same, carried_out, found_of, remove_of, Plan, plan_of, written_by}
use Rattle.gather.specs.Gather.{OwnPage}
use Rattle.near.specs.Near.{Near, left_in, near_of, near_words}
use Rattle.near.specs.Promises.{PageSaid}
use Rattle.near.proofs.Told.{words_written, words_kept, words_lost}
use Rattle.near.proofs.Promises.{page_alone}
use Rattle.removal.specs.Removal.{Located, SeatIs, Executed}
use Rattle.removal.proofs.PlanLaws.{located_at, executed_lost, executed_done}

pub remove_3 : (f : Format) (s : List ℕ) (k : ℕ) → head_rule f s ≡ false → remove_of f s k ≡ same s 3
unfolding remove_of
remove_3 f s k e = rw (e, remove_of)

module _ {f : Format} {s : List ℕ} {h : Head} (u : Under f s h) (k : ℕ) where
  found_is : {a : Sought} → a ≡ find_of f s h k → remove_of f s k ≡ found_of f s h k a
  unfolding remove_of
  found_is e = rw (u.rule, remove_of) (sym (ap (λ x. found_of f s x k (find_of f s x k)) u.head) ∙ ap (found_of f s h k) (sym e))

  pub remove_9 : Damaged ≡ find_of f s h k → remove_of f s k ≡ same s 9
  unfolding found_of
  remove_9 e = found_is e

  pub remove_1 : Nothing ≡ find_of f s h k → remove_of f s k ≡ same s 1
  unfolding found_of
  remove_1 e = found_is e

  module _ {it : Item} (e : Record it ≡ find_of f s h k) where
    abbrev q : Plan
    q = plan_of f s h k (descent f s h k)

    carried_is : remove_of f s k ≡ carried_out f s h it q
    unfolding found_of
    carried_is = found_is e

    out : (b : Bool) → q.ok ≡ b → carried_out f s h it q ≡ elim b [ false ↦ same s 9 | true ↦ record { reply = record { number = 0; item = it }; words = written_by f s h q } ]
    unfolding carried_out
    out b e = ap (λ x. elim x [ false ↦ same s 9 | true ↦ record { reply = record { number = 0; item = it }; words = written_by f s h q } ]) e

    pub remove_refused : q.ok ≡ false → remove_of f s k ≡ same s 9
    remove_refused z = carried_is ∙ out false z

    pub remove_done : q.ok ≡ true → remove_of f s k ≡ record { reply = record { number = 0; item = it }; words = written_by f s h q }
    remove_done z = carried_is ∙ out true z

-- a head that was tested
pub under : {f : Format} {s : List ℕ} {h : Head} → head_rule f s ≡ true → h ≡ head_of s → Under f s h
under r e = record { rule = r; head = e }

-- a refusal: the words are as they were
pub refuses : {a : After} {s t : List ℕ} {e : Refusal} {r : Result (Option Item) Refusal} → r ≡ Err e → t ≡ s → a ≡ same s (number e)
    → (reply r ≡ a.reply) × (t ≡ a.words)
refuses w g e = (ap reply w ∙ sym (ap (λ x. x.reply) e), g ∙ sym (ap (λ x. x.words) e))

-- no record
pub absent : {a : After} {s t : List ℕ} → t ≡ s → a ≡ same s 1 → (record { number = 1; item = no_item } ≡ a.reply) × (t ≡ a.words)
absent g e = (sym (ap (λ x. x.reply) e), g ∙ sym (ap (λ x. x.words) e))

-- the record was removed
pub removes : {a : After} {t w : List ℕ} {it : Item} → t ≡ w → a ≡ record { reply = record { number = 0; item = it }; words = w }
    → (record { number = 0; item = it } ≡ a.reply) × (t ≡ a.words)
removes g e = (sym (ap (λ x. x.reply) e), g ∙ sym (ap (λ x. x.words) e))

-- the way led to a page, by its end as the code has it
pub led_page : {f : Format} {s : List ℕ} {h : Head} {k : ℕ} {e : End} → e ≡ end_of (descent f s h k) → e.ok ≡ true → (e.page ≡ 0 → ⊥)
    → {pg : List ℕ} → pg ≡ page_at f s h e.page → Led f s h k (descent f s h k) pg
led_page q o n p =
    let same = ap (λ (x : End). x.page) q in
    record { way = refl; ok = sym (ap (λ (x : End). x.ok) q) ∙ o; some = λ z. n (same ∙ z); page = p ∙ ap (page_at _ _ _) same }

pub led_sound : (f : Format) (s : List ℕ) (h : Head) (k : ℕ) {e : End} → e ≡ end_of (descent f s h k) → (pg : List ℕ) {r b : Bool}
    → r ≡ sound_page f h pg k e.used → r ≡ b → sound_page f h pg k (descent f s h k).used ≡ b
led_sound f s h k q pg w t = sym (w ∙ ap (λ (x : End). sound_page f h pg k x.used) q) ∙ t

-- the page that the way led to, which the code has as pg
module _ {f : Format} {s : List ℕ} {h : Head} {k : ℕ} {pg : List ℕ} (l : Led f s h k (descent f s h k) pg)
    (sound : sound_page f h pg k (descent f s h k).used ≡ true) {i : ℕ} (above : i ≡ first_above f pg false k) where
  -- no record is at or above the key
  pub seat_past : count pg ≤ i → Nothing ≡ find_of f s h k
  seat_past a = find_sound l sound (in_page_is f pg k i (item_at f pg i) false _ above refl (sym (le-ltb i (count pg) a)) refl)

  module _ {it : Item} (is : it ≡ item_at f pg i) (low : i < count pg) where
    -- the first one is above it
    pub seat_other : (it.key ≡ k → ⊥) → Nothing ≡ find_of f s h k
    seat_other n = find_sound l sound (in_page_is f pg k i it true false above is (sym (lt-ltb i (count pg) low)) (sym (ne_eqb it.key k n)))

    -- the record
    pub seat_held : it.key ≡ k → SeatIs f s h k (record { i = i; item = it })
    seat_held e =
        record {
          found = find_sound l sound (in_page_is f pg k i it true true above is (sym (lt-ltb i (count pg) low)) (sym (eq-eqb it.key k e)));
          inside = subst (λ (x : List ℕ). i < count x) l.page low;
          key_is = subst (λ (x : List ℕ). key_at f x i ≡ k) l.page (ap (λ (x : Item). x.key) (sym is) ∙ e);
        }

-- what is seen from the page's terminal node
module _ {f : Format} {s : List ℕ} {h : Head} {k : ℕ} where
  pub near_asks : {i : ℕ} {e : End} (y : Located f s h k i) → e ≡ end_of (descent f s h k)
      → Under f s h × (k < 2 ^ width f) × (e ≡ end_of (descent f s h k)) × OwnPage f s h e.page i × (key_at f (page_at f s h e.page) i ≡ k)
  near_asks {i} y g =
      let at = subst (λ (x : End). OwnPage f s h x.page i × (key_at f (page_at f s h x.page) i ≡ k)) (sym g) (located_at y refl) in
      (y.under, y.low, g, at.0, at.1)

  -- where it is done, where damage is met, and where it is not decided
  module _ {i : ℕ} {e : End} (y : Located f s h k i) (g : e ≡ end_of (descent f s h k)) {t : List ℕ} (w : t ≡ near_words f s h k e) where
    abbrev said : Near
    said = near_of f s h k e (length (left_in f s h k e.page))

    alone : PageSaid f s h k e.page said
    alone = let a = near_asks y g in page_alone f s h k e i a.0 a.1 a.2 a.3 a.4

    pub near_done : said.done ≡ true → Executed f s h k (Ok tt) t
    near_done d = let a = alone.alone d in executed_done a.0 (w ∙ sym (words_written f s h k e d) ∙ a.1)

    pub near_same : said.done ≡ false → t ≡ s
    near_same d = w ∙ sym (words_kept f s h k e d)

    pub near_lost : said.ok ≡ false → Executed f s h k (Err DamageMet) t
    near_lost o =
        subst (Executed f s h k (Err DamageMet)) (words_lost f s h k e o ∙ sym w) (executed_lost (alone.lost o))
