-- Balance and the label calls: their limits said with numbers, and both ways.
use mathlib.Core.Path.{◌≡◌, refl, sym, ap}
use mathlib.Core.Bool.{true, ◌&&◌}
use Prim.Native.Nat.{ℕ, ◌≤◌}
use native.Mathlib.Omega.{arith}
use Rattle.lists.proofs.Cases.{by_cases}
use Rattle.plot.specs.declared.Label.{Label}
use Rattle.plot.specs.Plot.{lawful_day, lawful_term}
use Rattle.plot.specs.Money.{Reply, amount, balance_reply}
use Rattle.plot.specs.Label.{pack, section_of, row_of, place_of, letter_of, has_label, key_of_reply, LabelReply, label_of_reply}
use Rattle.plot.specs.Promises.{InTerm}
use Rattle.plot.proofs.Laws.{day_limit, limit_day, amount_perpetual}
use Rattle.plot.proofs.Laws.{term_refused, today_refused, balance_given, label_limits, key_refused, key_given, key_limits, label_given}
use Rattle.plot.proofs.Laws.{key_lawful, convert_refused, convert_given}
use Rattle.plot.proofs.Promises.{term_limits, balance_exact, label_key_label, key_label_key, label_order, converted, converted_in_order}
use Rattle.index.specs.Demands.{BalanceAnswered, KeyAnswered, LabelAnswered, BothWays, ConvertAnswered, Demand4}

module _ (price lease last today : ℕ) where
  outside : (InTerm lease last × (today ≤ 99999) → ⊥) → balance_reply price lease last today ≡ record { number = 6; value = 0 }
  outside h =
      by_cases (lawful_term lease last)
      (λ t.
      by_cases (lawful_day today)
      (λ d. absurd (h ((term_limits lease last).0 t, day_limit today d)))
      (λ d. sym (today_refused price lease last today d)))
      (λ t. sym (term_refused price lease last today t))

  given : InTerm lease last × (today ≤ 99999)
      → balance_reply price lease last today ≡ record { number = 0; value = amount price lease last today }
  given h = sym (balance_given price lease last today ((term_limits lease last).1 h.0) (limit_day today h.1) refl)

  never : lease ≡ 0 → (balance_reply price lease last today).value ≡ 0
  unfolding balance_reply
  never z =
      by_cases (lawful_term lease last && lawful_day today)
      (λ t. rw (t, balance_reply) (amount_perpetual price lease last today z))
      (λ t. rw (t, balance_reply))

  balanced : BalanceAnswered price lease last today
  balanced =
      record {
        refused = outside;
        done = λ h. ap (λ (a : Reply). a.number) (given h);
        perpetual = never;
        rounded = λ h l. rw (given h) (balance_exact price lease last today l);
      }

key_answered : (l : Label) → KeyAnswered l
unfolding pack
key_answered l = record { refused = λ h. sym (key_refused {l = l} h); done = λ h. sym (key_given {l = l} h refl) }

label_answered : (k : ℕ) → LabelAnswered k
unfolding label_of_reply
label_answered k =
    record {
      refused = λ h. by_cases (has_label k) (λ t. absurd (h (key_limits k t))) (λ t. rw (t, label_of_reply));
      done = λ h. ap (λ (a : LabelReply). a.number) (sym (label_given {k = k} h.0 h.1));
    }

-- a call that is done has a key with a label
labelled : (k : ℕ) → (label_of_reply k).number ≡ 0 → has_label k ≡ true
unfolding label_of_reply
labelled k e = by_cases (has_label k) (λ t. t) (λ t. absurd (omega (arith, rw (t, label_of_reply) at e)))

abbrev parts : ℕ → Label
parts k = record { section = section_of k; row = row_of k; place = place_of k; letter = letter_of k }

both_ways : BothWays
unfolding key_of_reply label_of_reply
both_ways = (
  λ l e.
      let t = key_lawful l e in
      let p = label_key_label l.section l.row l.place l.letter t in
      rw (t, key_of_reply) (rw (p.0, label_of_reply) (rw (p.1, p.2, p.3, p.4))),
  λ k e.
      let t = labelled k e in
      let p = key_label_key k t in
      rw (t, label_of_reply) (sym (key_given {l = parts k} (label_limits _ _ _ _ p.0) (sym p.1))),
)

converted_answered : (k : ℕ) → ConvertAnswered k
converted_answered k =
    record {
      refused = λ h. sym (convert_refused k h);
      done = λ h. sym (convert_given k h refl);
    }

pub demand_4 : Demand4
demand_4 = (balanced, key_answered, label_answered, both_ways, label_order, converted_answered, converted, converted_in_order)
