-- After the last entry the gathered tests are those of all entries.
use Rattle.std.proofs.Common.{◌≡◌, ℕ, ◌^◌, List, false, inl, inr, ◌∙◌, subst, rules, arith}
use Rattle.node.specs.declared.Faults.{Faults}
use Rattle.node.specs.Node.{entry_of, good_runs}
use Rattle.node.proofs.Neighbours.{aligned}
use Rattle.node.proofs.FaultLaws.{Gathered, gathered_none, gathered_more, Fair, outside_breaks, torn_breaks, full_is}
use Rattle.node.proofs.runs_ok.Goals as goal

-- after the last entry
whole : {H low high n i : ℕ} {ws : List ℕ} {g : Faults} → Gathered H low high ws i g → n ≡ 2 ^ H → i ≡ n → Gathered H low high ws (2 ^ H) g
whole {H} {low} {high} {ws = ws} {g = g} s count e = subst (λ (j : ℕ). Gathered H low high ws j g) (e ∙ count) s

pub loop-i-init : goal.loop-i-init
loop-i-init c = record { count = search rules; within = search rules; most = search rules; tests = gathered_none _ _ _ _ }

pub loop-i-preserved : goal.loop-i-preserved
unfolding aligned
loop-i-preserved c =
    let l = c.loop-i.invariant in
    record {
      count = l.count;
      within = l.within;
      most = omega (arith, l.most);
      tests = rw (c.gathered-g.ensures, c.behind.ensures) (gathered_more _ _ _ _ l.tests);
    }

pub returns-then-g-eq0 : goal.returns-then-g-eq0
returns-then-g-eq0 c =
    let p = c.requires in
    let l = c.loop-i.invariant in
    let f : Fair c.args.depth c.args.low c.args.high c.args.node.now =
    record { depth = p.0; lows = p.1; highs = p.2; back = p.4; words = λ j. omega (arith, c.type_inv.node j) } in
    full_is _ _ _ _ f (whole l.tests l.count c.loop-i-test.false) c.if-g-eq0.true.0 c.if-g-eq0.true.1

pub returns-else-g-eq0 : goal.returns-else-g-eq0
returns-else-g-eq0 c =
    let p = c.requires in
    let l = c.loop-i.invariant in
    let a = c.args in
    let f : Fair a.depth a.low a.high a.node.now =
    record { depth = p.0; lows = p.1; highs = p.2; back = p.4; words = λ j. omega (arith, c.type_inv.node j) } in
    let w = whole l.tests l.count c.loop-i-test.false in
    let broken : false ≡ good_runs a.depth a.low a.high (entry_of a.node.now 0) =
    elim c.if-g-eq0.either [ inl h ↦ torn_breaks _ _ _ _ f w h.1 | inr h ↦ outside_breaks _ _ _ _ f w h ] in
    cc
