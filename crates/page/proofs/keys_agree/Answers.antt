-- The first and the last key speak for all, since the keys ascend.
use Rattle.std.proofs.Common.{◌≡◌, ℕ, ◌-◌, ◌/◌, ◌^◌, ◌≤◌, ◌<◌, true, false, List, eqb, sym, ap, ◌∙◌, arith, pow_pos, eqb-true, eq-eqb}
use Rattle.lists.proofs.Tests.{same_test, untrue}
use Rattle.store.specs.declared.Format.{Format}
use Rattle.store.specs.declared.Item.{Item}
use Rattle.store.specs.Format.{width}
use Rattle.page.specs.Page.{count, item_at, key_at, agrees, Filled}
use Rattle.page.proofs.Laws.{ordered_facts, ends_agree, agrees_facts, facts_agrees}
use Rattle.page.proofs.Inside.{record_inside}
use Rattle.page.proofs.keys_agree.Goals as goal

-- n, low and sought are the numbers that the function has, first and last what it sees of two records
module _ (f : Format) (pg : List ℕ) (k used : ℕ) (some : 1 ≤ count pg) (h : Filled f pg) {n low sought : ℕ}
    (en : n ≡ count pg) (el : low ≡ width f - used) (es : sought ≡ k / 2 ^ low) where
  abbrev high : ℕ → ℕ
  high i = key_at f pg i / 2 ^ low

  agreed : high 0 ≡ sought → high (n - 1) ≡ sought → agrees f pg k used ≡ true
  agreed a b =
      let up = (ordered_facts f pg (count pg) h.order).ascends in
      let all = ends_agree n (key_at f pg) (λ i j p q. up i j p (rw en at q)) (2 ^ low) sought (pow_pos low) a b in
      facts_agrees f pg k used (λ i q. rw (← el) (all i (rw en q) ∙ es))

  must : agrees f pg k used ≡ true → (i : ℕ) → i < n → high i ≡ sought
  must e i q = rw el (agrees_facts f pg k used e i (rw en at q)) ∙ sym es

  module _ {it : Item} {first : ℕ} (ei : it ≡ item_at f pg 0) (ef : first ≡ it.key / 2 ^ low) where
    seen : first ≡ high 0
    seen = ef ∙ ap (λ (x : Item). x.key / 2 ^ low) ei

    differs : (first ≡ sought → ⊥) → false ≡ agrees f pg k used
    differs d = untrue (λ e. d (seen ∙ must e 0 (omega (arith, some))))

    decides :
        first ≡ sought →
        {jt : Item} {last : ℕ} → jt ≡ item_at f pg (n - 1) → last ≡ jt.key / 2 ^ low → eqb last sought ≡ agrees f pg k used
    decides a {last = last} ej eg =
        let b : last ≡ high (n - 1) = eg ∙ ap (λ (x : Item). x.key / 2 ^ low) ej in
        same_test (eqb last sought) (agrees f pg k used)
        (λ e. agreed (sym seen ∙ a) (sym b ∙ eqb-true last sought e))
        (λ e. eq-eqb last sought (b ∙ must e (n - 1) (omega (arith, some))))

pub read_one-first-requires : goal.read_one-first-requires
read_one-first-requires c = let p = c.requires in (omega arith, record_inside {i = 0} p.2 (omega (arith, p.1)))

pub returns-then-prefix-sought : goal.returns-then-prefix-sought
returns-then-prefix-sought c =
    differs _ _ _ _ c.requires.1 c.requires.2 c.count_of-n.ensures.0 (ap (λ (x : ℕ). x - c.args.used) c.width_of.ensures.0)
    c.prefix-sought.ensures c.read_one-first.ensures c.prefix.ensures c.if-prefix-sought.true

pub read_one-last-requires : goal.read_one-last-requires
read_one-last-requires c =
    let p = c.requires in
    (omega (arith, c.count_of-n.ensures.1), record_inside p.2 (omega (arith, p.1, c.count_of-n.ensures.0)))

pub returns : goal.returns
returns c =
    decides _ _ _ _ c.requires.1 c.requires.2 c.count_of-n.ensures.0 (ap (λ (x : ℕ). x - c.args.used) c.width_of.ensures.0)
    c.prefix-sought.ensures c.read_one-first.ensures c.prefix.ensures c.if-prefix-sought.false c.read_one-last.ensures c.prefix-2.ensures
