-- Summary, one law for each way out.
use mathlib.Core.Path.{◌≡◌, sym, ◌∙◌}
use mathlib.Core.Bool.{true, false}
use mathlib.Core.List.{List}
use Prim.Native.Nat.{ℕ, ◌≤◌, ◌<◌}
use borrow.Author.Tests.{lt-ltb, le-ltb}
use Rattle.std.specs.Prelude.{Ok}
use Rattle.plot.specs.Plot.{lawful_day}
use Rattle.store.specs.declared.Format.{Format}
use Rattle.store.specs.Head.{head_of, head_rule}
use Rattle.totals.specs.declared.Totals.{Totals}
use Rattle.search.proofs.WayLaws.{answered_ok}
use Rattle.scan.specs.Outcome.{Summing, totals_result}
use Rattle.scan.specs.Summary.{summary_refused, summed, summing_reply, summary_of}

summing_bad : (r : Summing) → r.ok ≡ false → summary_refused 9 ≡ summing_reply r
summing_bad r e = rw e

summing_good : (r : Summing) {t : Totals} → (r.ok ≡ true) × (t ≡ r.totals)
    → record { number = 0; count = t.count; total = t.total; key = t.key } ≡ summing_reply r
summing_good r k = rw (k.0, k.1)

module _ (f : Format) (s : List ℕ) (low high today : ℕ) where
  pub summary_head : head_rule f s ≡ false → summary_refused 3 ≡ summary_of f s low high today
  unfolding summary_of
  summary_head r = rw (r, summary_of)

  pub summary_order : head_rule f s ≡ true → high < low → summary_refused 7 ≡ summary_of f s low high today
  unfolding summary_of
  summary_order r o = rw (r, lt-ltb high low o, summary_of)

  pub summary_day : head_rule f s ≡ true → low ≤ high → lawful_day today ≡ false → summary_refused 6 ≡ summary_of f s low high today
  unfolding summary_of
  summary_day r o d = rw (r, le-ltb high low o, d, summary_of)

  -- the totals that were added up, or damage
  module _ (r : head_rule f s ≡ true) (o : low ≤ high) (d : lawful_day today ≡ true) where
    abbrev R : Summing
    R = summed f s (head_of s) low high today

    summary_given : summary_of f s low high today ≡ summing_reply R
    unfolding summary_of
    summary_given = rw (r, le-ltb high low o, d, summary_of)

    pub summary_lost : R.ok ≡ false → summary_refused 9 ≡ summary_of f s low high today
    summary_lost e = summing_bad R e ∙ sym summary_given

    pub summary_told : {t : Totals} → Ok t ≡ totals_result R
        → record { number = 0; count = t.count; total = t.total; key = t.key } ≡ summary_of f s low high today
    summary_told {t} e = let k = answered_ok R.ok e in summing_good R k ∙ sym summary_given
