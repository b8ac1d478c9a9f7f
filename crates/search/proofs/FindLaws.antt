-- Find, test by test, and what it gives: a lawful record.
--   Led f s h k d pg == the way d of a key led to a page, which the code has as pg
--   kept t it        == the record it where the test t holds, else none
--   Given f a        == the answer a gives no record or a lawful one
use mathlib.Core.Path.{◌≡◌, ap, ◌∙◌, subst}
use mathlib.Core.Bool.{Bool, true, false, ◌&&◌}
use mathlib.Core.List.{List}
use Prim.Native.Nat.{ℕ, ◌<◌}
use lib.Dec.{ltb, eqb}
use borrow.Author.Tests.{eq-eqb, ne_eqb, ltb-true}
use Rattle.lists.proofs.Cases.{by_cases}
use Rattle.lists.proofs.Tests.{and_true}
use Rattle.store.specs.declared.Format.{Format}
use Rattle.store.specs.declared.Head.{Head}
use Rattle.store.specs.declared.Item.{Item}
use Rattle.store.specs.Head.{head_rule, page_at}
use Rattle.page.specs.Page.{count, item_at, key_at, lawful_item, page_rule, agrees, first_above}
use Rattle.page.proofs.Laws.{rule_facts}
use Rattle.search.specs.Way.{Descent}
use Rattle.search.specs.Way.{Sought}
use Rattle.search.specs.Way.{Record, Nothing, Damaged}
use Rattle.search.specs.Descent.{descent}
use Rattle.search.specs.Find.{sound_page, in_page, find_of, Reply, no_item, sought_reply, checked}

pub sound_is : (f : Format) (h : Head) (pg : List ℕ) (k used : ℕ) (a b : Bool) → a ≡ page_rule f h.capacity pg → b ≡ agrees f pg k used
    → (a && b) ≡ sound_page f h pg k used
unfolding sound_page
sound_is f h pg k used a b p q = rw (p, q)

pub sound_rule : (f : Format) (h : Head) (pg : List ℕ) (k used : ℕ) → sound_page f h pg k used ≡ true → page_rule f h.capacity pg ≡ true
unfolding sound_page
sound_rule f h pg k used e = (and_true (page_rule f h.capacity pg) (agrees f pg k used) e).0

pub sound_lawful : (f : Format) (h : Head) (pg : List ℕ) (k used i : ℕ) → sound_page f h pg k used ≡ true → i < count pg
    → lawful_item f (item_at f pg i) ≡ true
sound_lawful f h pg k used i e l = (rule_facts f h.capacity pg (sound_rule f h pg k used e)).order.lawful i l

-- the record, where a test holds
abbrev pub kept : Bool → Item → Sought
kept t it = elim t [ true ↦ Record it | false ↦ Nothing ]

pub in_page_is : (f : Format) (pg : List ℕ) (k i : ℕ) (it : Item) (a b : Bool) → i ≡ first_above f pg false k → it ≡ item_at f pg i
    → a ≡ ltb i (count pg) → b ≡ eqb it.key k → kept (a && b) it ≡ in_page f pg k
unfolding in_page
in_page_is f pg k i it a b e p q r =
    let same : it ≡ item_at f pg (first_above f pg false k) = rw e at p in
    ap (kept (a && b)) same ∙ rw (q, r, same, e)

-- the way of a key led to a page, which the code has as pg
pub record Led (f : Format) (s : List ℕ) (h : Head) (k : ℕ) (d : Descent) (pg : List ℕ) : Type 0 where
  pub way : d ≡ descent f s h k
  pub ok : d.ok ≡ true
  pub some : d.page ≡ 0 → ⊥
  pub page : pg ≡ page_at f s h d.page

-- the ways out of find
module _ (f : Format) (s : List ℕ) (h : Head) (k : ℕ) (d : Descent) (e : d ≡ descent f s h k) where
  pub find_lost : d.ok ≡ false → Damaged ≡ find_of f s h k
  unfolding find_of
  find_lost p = rw (rw e at p, find_of)

  pub find_null : d.ok ≡ true → d.page ≡ 0 → Nothing ≡ find_of f s h k
  unfolding find_of
  find_null ok p = rw (rw e at ok, eq-eqb _ _ (rw e at p), find_of)

module _ {f : Format} {s : List ℕ} {h : Head} {k : ℕ} {d : Descent} {pg : List ℕ} (l : Led f s h k d pg) where
  pub find_unsound : sound_page f h pg k d.used ≡ false → Damaged ≡ find_of f s h k
  unfolding find_of
  find_unsound p = rw (rw l.way at l.ok, ne_eqb _ _ (rw l.way at l.some), rw (l.page, l.way) at p, find_of)

  pub find_sound : {a : Sought} → sound_page f h pg k d.used ≡ true → a ≡ in_page f pg k → a ≡ find_of f s h k
  unfolding find_of
  find_sound p q =
      rw (rw l.way at l.ok, ne_eqb _ _ (rw l.way at l.some), rw (l.page, l.way) at p, find_of) (rw (l.page, l.way) at q)

-- a record that is given is lawful
abbrev Given : Format → Sought → Type 0
Given f (Record it) = lawful_item f it ≡ true
Given f Nothing = Unit {0}
Given f Damaged = Unit {0}

in_page_given : (f : Format) (pg : List ℕ) (k : ℕ) → ((i : ℕ) → i < count pg → lawful_item f (item_at f pg i) ≡ true)
    → Given f (in_page f pg k)
unfolding in_page
in_page_given f pg k lawful =
    by_cases (ltb (first_above f pg false k) (count pg))
    (λ l.
    by_cases (eqb (key_at f pg (first_above f pg false k)) k)
    (λ e. rw (l, e, in_page) (lawful _ (ltb-true _ _ l)))
    (λ e. rw (l, e, in_page) tt))
    (λ l. rw (l, in_page) tt)

pub find_lawful : (f : Format) (s : List ℕ) (h : Head) (k : ℕ) (it : Item) → find_of f s h k ≡ Record it → lawful_item f it ≡ true
unfolding find_of
find_lawful f s h k it e =
    subst (Given f) e
    (by_cases (descent f s h k).ok
    (λ o.
    by_cases (eqb (descent f s h k).page 0)
    (λ z. rw (o, z, find_of) tt)
    (λ z.
    by_cases (sound_page f h (page_at f s h (descent f s h k).page) k (descent f s h k).used)
    (λ p. rw (o, z, p, find_of) (in_page_given f _ k (λ i l. sound_lawful f h _ k _ i p l)))
    (λ p. rw (o, z, p, find_of) tt)))
    (λ o. rw (o, find_of) tt))

-- a reply by the head rule
pub broken : (f : Format) (s : List ℕ) (a : Sought) → head_rule f s ≡ false
    → ◌≡◌ {A = Reply} (record { number = 3; item = no_item }) (checked f s a)
unfolding checked
broken f s a e = rw (e, checked)

pub answered : (f : Format) (s : List ℕ) (a : Sought) → head_rule f s ≡ true → sought_reply a ≡ checked f s a
unfolding checked
answered f s a e = rw (e, checked)
