-- Refused calls: every way out but the last leaves the words and replies zeros. And a page is reached under one prefix only.
use mathlib.Core.Path.{◌≡◌, refl, sym, ap, ◌∙◌, subst}
use mathlib.Core.Bool.{true, false}
use mathlib.Core.List.{List}
use Prim.Native.Nat.{ℕ, ◌+◌, ◌-◌, ◌/◌, ◌^◌, ◌≤◌, ◌<◌}
use native.Mathlib.Omega.{arith}
use native.Mathlib.Nat.{div-div-eq-div-mul}
use lib.Dec.{eqb}
use lib.Pow.{pow-add, pow_pos}
use borrow.Author.Tests.{eqb-true}
use Rattle.lists.proofs.Tests.{every_at}
use Rattle.store.specs.declared.Format.{Format}
use Rattle.store.specs.declared.Head.{Head}
use Rattle.store.specs.declared.Item.{Item}
use Rattle.store.specs.Format.{width, words}
use Rattle.store.specs.Head.{head_of}
use Rattle.page.specs.Page.{count, key_at, agrees}
use Rattle.search.specs.Way.{Sought}
use Rattle.search.specs.Way.{Record, Nothing, Damaged}
use Rattle.search.specs.Find.{no_item, checked, find_of, find_reply}
use Rattle.search.proofs.Promises.{keys_fit}
use Rattle.lists.proofs.Cases.{by_cases}
use Rattle.store.specs.Head.{head_rule}
use Rattle.remove.specs.Remove.{carried_out, found_of, remove_of, written_by}
use Rattle.remove.specs.Promises.{RemoveRefusals, PagesApart}

-- remove
abbrev Leaves : List ℕ → Rattle.remove.specs.Remove.After → Type 0
Leaves s a = (a.reply.number ≡ 0 → ⊥) → (a.reply.item ≡ no_item) × (a.words ≡ s)

module _ (f : Format) (s : List ℕ) (k : ℕ) where
  carried_refuses : (h : Head) (it : Item) (p : Rattle.remove.specs.Remove.Plan) → Leaves s (carried_out f s h it p)
  unfolding carried_out
  carried_refuses h it p =
      elim p.ok as (λ b. Leaves s (elim b [
        | false ↦ Rattle.remove.specs.Remove.same s 9
        | true ↦ record { reply = record { number = 0; item = it }; words = written_by f s h p }
      ])) [
        | false ↦ λ z. (refl, refl)
        | true ↦ λ z. absurd (z refl)
      ]

  found_refuses : (h : Head) (a : Sought) → Leaves s (found_of f s h k a)
  unfolding found_of
  found_refuses h Damaged = λ z. (refl, refl)
  found_refuses h Nothing = λ z. (refl, refl)
  found_refuses h (Record it) = carried_refuses h it _

pub remove_refusals : RemoveRefusals
unfolding remove_of
remove_refusals f s k =
    elim (head_rule f s) as (λ b. Leaves s (elim b [
      | false ↦ Rattle.remove.specs.Remove.same s 3
      | true ↦ found_of f s (head_of s) k (find_of f s (head_of s) k)
    ])) [
      | false ↦ λ z. (refl, refl)
      | true ↦ found_refuses f s k (head_of s) _
    ]

-- the first record of the page agrees with both prefixes
shorter : (W a b i j : ℕ) → i ≤ j → j ≤ W → a / 2 ^ (W - j) ≡ b / 2 ^ (W - j) → a / 2 ^ (W - i) ≡ b / 2 ^ (W - i)
shorter W a b i j h l e =
    let s : W - i ≡ (W - j) + (j - i) = omega arith in
    let t : (x : ℕ) → x / 2 ^ (W - i) ≡ x / 2 ^ (W - j) / 2 ^ (j - i) =
    λ x. ap (λ n. x / n) (ap (λ n. 2 ^ n) s ∙ pow-add 2 (W - j) (j - i)) ∙ sym (div-div-eq-div-mul x (2 ^ (W - j)) (2 ^ (j - i))) in
    t a ∙ ap (λ n. n / 2 ^ (j - i)) e ∙ sym (t b)

first_agrees : (f : Format) (pg : List ℕ) (k i : ℕ) → 1 ≤ count pg → agrees f pg k i ≡ true
    → key_at f pg 0 / 2 ^ (width f - i) ≡ k / 2 ^ (width f - i)
unfolding agrees
first_agrees f pg k i c a =
    eqb-true (key_at f pg 0 / 2 ^ (width f - i)) (k / 2 ^ (width f - i))
    (every_at (count pg) (λ j. eqb (key_at f pg j / 2 ^ (width f - i)) (k / 2 ^ (width f - i))) a 0 (omega arith))

pub pages_apart : PagesApart
pages_apart f C pg k l i j h w r a b =
    let c : 1 ≤ count pg = (Rattle.page.proofs.Laws.rule_facts f C pg r).some in
    sym (first_agrees f pg k i c a) ∙ shorter (width f) (key_at f pg 0) l i j h w (first_agrees f pg l j c b)

-- what remove gives has a key of the format's width
module _ (f : Format) (s : List ℕ) (k : ℕ) where
  nothing_fits : 0 < 2 ^ width f
  nothing_fits = omega (arith, pow_pos (width f))

  carried_fits : (it : Item) (p : Rattle.remove.specs.Remove.Plan) → it.key < 2 ^ width f
      → (carried_out f s (head_of s) it p).reply.item.key < 2 ^ width f
  unfolding carried_out
  carried_fits it p low = by_cases p.ok (λ b. rw (b, carried_out) low) (λ b. rw (b, carried_out) nothing_fits)

  sought_fits : (a : Sought) → head_rule f s ≡ true → find_of f s (head_of s) k ≡ a → (found_of f s (head_of s) k a).reply.item.key < 2 ^ width f
  unfolding found_of find_reply checked
  sought_fits Damaged r e = nothing_fits
  sought_fits Nothing r e = nothing_fits
  sought_fits (Record it) r e = carried_fits it _ (subst (λ n. n < 2 ^ width f) (rw (r, e, checked)) (keys_fit f s k).0)

  pub removed_fits : (remove_of f s k).reply.item.key < 2 ^ width f
  unfolding remove_of
  removed_fits =
      by_cases (head_rule f s)
      (λ r. rw (r, remove_of) (sought_fits (find_of f s (head_of s) k) r refl))
      (λ r. rw (r, remove_of) nothing_fits)
