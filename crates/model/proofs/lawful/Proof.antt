-- Key and price are 32-bit numbers by their type; one law for each way out.
use borrow.Author.Rules.{rules}
use Rattle.model.proofs.Laws.{lawful_keyless, lawful_perpetual, lawful_leased, lawful_long}
use Rattle.model.proofs.lawful.Statement.{statement}
use Rattle.model.proofs.lawful.Tie as tie

returns : tie.Need-returns-then-plot-eq0
returns c = lawful_keyless _ (search rules) (search rules) c.if-plot-eq0.true

returns_2 : tie.Need-returns-then-plot-eq0-2
returns_2 c =
    let p = c.before in
    lawful_perpetual _ (search rules) (search rules) p.if-plot-eq0.false p.if-plot-eq0-2.true

returns_3 : tie.Need-returns-then-plot-lt36526
returns_3 c =
    let p = c.before in
    let q = p.before.before in
    lawful_leased _ (search rules) (search rules) q.if-plot-eq0.false q.if-plot-eq0-2.false p.if-plot-lt36526.true

returns_4 : tie.Need-returns-else-plot-lt36526
returns_4 c =
    let q = c.before.before in
    lawful_long _ (search rules) (search rules) q.if-plot-eq0.false q.if-plot-eq0-2.false c.if-plot-lt36526.false

pub lawful_spec : {M : Type 1} → statement M
lawful_spec = tie.close (tie.spec returns returns_2 returns_3 returns_4)
