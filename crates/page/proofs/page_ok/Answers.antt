-- Each early return says no to one part of the rule, and the zeros are left.
use Rattle.std.proofs.Common.{◌≡◌, ℕ, ◌+◌, ◌-◌, ◌*◌, ◌≤◌, ◌<◌, Bool, true, false, List, length, take, drop, sym, ap, ◌∙◌, arith, rules}
use mathlib.Core.Bool.{false≢true}
use Rattle.lists.proofs.Shifts.{shares}
use Rattle.lists.proofs.Tests.{untrue}
use Rattle.store.specs.declared.Format.{Format}
use Rattle.store.specs.Format.{words}
use Rattle.store.specs.Head.{zeros}
use Rattle.store.proofs.Places.{zeros_lent}
use Rattle.page.specs.Page.{count, ordered, page_rule, Lent}
use Rattle.page.proofs.Laws.{Kept, rule_facts, rule_rest, facts_ordered}
use Rattle.page.proofs.Inside.{long, fits}
use Rattle.page.proofs.page_ok.Goals as goal

module _ (f : Format) (C : ℕ) (pg : List ℕ) where
  broken : (Kept f C pg → ⊥) → false ≡ page_rule f C pg
  broken h = untrue (λ e. h (rule_facts f C pg e))

  module _ {n : ℕ} (en : n ≡ count pg) where
    disordered : ordered f pg n ≡ false → false ≡ page_rule f C pg
    disordered o = broken (λ h. false≢true (sym o ∙ rw en (facts_ordered f pg (count pg) h.order)))

    -- what the tests of the count say
    module _ {c : ℕ} (l : Lent f C pg) (ec : c ≡ C) (s : 1 ≤ n) (q : n ≤ c) where
      room : words f * n < length pg
      room = fits f C pg l (omega (arith, en)) n (omega (arith, ec))

      ends : {w : ℕ} → w ≡ words f → w * n < length pg
      ends e = rw e room

      -- the words behind the records
      behind : length pg - (1 + words f * n) ≡ words f * (C - n)
      behind = omega (arith, long f C pg l (omega (arith, en)), shares (words f) n C (omega (arith, ec)))

      blanks :
          {w : ℕ} {r : Bool} →
          w ≡ words f →
          ordered f pg n ≡ true →
          let e = 1 + w * n in
          let ws = take (length pg - e) (drop e pg) in
          r ≡ zeros ws 0 (length ws) →
          r ≡ page_rule f C pg
      blanks ew o e =
          (rw ew at e) ∙ zeros_lent pg (1 + words f * n) (length pg) (omega (arith, room)) (omega arith)
          ∙ ap (zeros pg (1 + words f * n)) behind
          ∙ sym (rw en (rule_rest f C pg (omega (arith, en)) (omega (arith, en, ec)) (rw en at o)))

pub returns-then-n-lt1 : goal.returns-then-n-lt1
returns-then-n-lt1 c = broken _ _ _ (λ h. omega (arith, h.some))

pub returns-then-n-c : goal.returns-then-n-c
returns-then-n-c c = broken _ _ _ (λ h. omega (arith, h.fits))

pub in_order-requires : goal.in_order-requires
in_order-requires c =
    (search rules, room _ _ c.args.page.now c.count_of-n.ensures.0 c.requires.1 c.to_index-c.ensures.0 (omega arith) (omega arith))

pub returns-then-not-in_order : goal.returns-then-not-in_order
returns-then-not-in_order c = disordered _ _ _ c.count_of-n.ensures.0 (sym c.in_order.ensures ∙ c.if-not-in_order.true)

pub slice_bounds-is_zero-count : goal.slice_bounds-is_zero-count
slice_bounds-is_zero-count c =
    let r = ends _ _ c.args.page.now c.count_of-n.ensures.0 c.requires.1 c.to_index-c.ensures.0 (omega arith) (omega arith) c.words_of.ensures.0 in
    omega (arith, r)

pub slice_bounds-is_zero-start : goal.slice_bounds-is_zero-start
slice_bounds-is_zero-start c =
    let r = ends _ _ c.args.page.now c.count_of-n.ensures.0 c.requires.1 c.to_index-c.ensures.0 (omega arith) (omega arith) c.words_of.ensures.0 in
    search rules

pub returns : goal.returns
returns c =
    blanks _ _ _ c.count_of-n.ensures.0 c.requires.1 c.to_index-c.ensures.0 (omega arith) (omega arith) c.words_of.ensures.0
    (sym c.in_order.ensures ∙ c.if-not-in_order.false) c.is_zero.ensures
