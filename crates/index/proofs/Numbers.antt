-- The number of an answer is that of the first test that fails: each definition makes its tests in that order.
use mathlib.Core.Path.{◌≡◌, refl, sym, ap, ◌∙◌}
use mathlib.Core.Bool.{Bool, true, false, true≢false}
use mathlib.Core.List.{List, [], ◌∷◌}
use mathlib.Core.Logic.{◌⊎◌, inl, inr}
use Prim.Native.Nat.{ℕ, ◌/◌}
use native.Mathlib.Omega.{arith}
use native.Mathlib.Decide.{ℕ_discrete, dec_le}
use lib.Dec.{leb, ltb}
use lib.ListN.{length}
use borrow.Author.Tests.{le-leb, lt-leb, le-ltb, ltb-false}
use Rattle.lists.proofs.Cases.{bool_cases}
use Rattle.plot.specs.Plot.{lawful_day}
use Rattle.store.specs.declared.Format.{Format}
use Rattle.store.specs.declared.Item.{Item}
use Rattle.store.specs.Format.{words}
use Rattle.store.specs.Head.{head_of, head_rule, lawful_sizes, size}
use Rattle.store.specs.SetUp.{}
use Rattle.store.specs.Tests.{failing}
use Rattle.store.proofs.TestLaws.{failing_on, failing_here, failing_none}
use Rattle.search.specs.Way.{Sought}
use Rattle.search.specs.Way.{Record, Nothing, Damaged}
use Rattle.search.specs.Find.{checked, find_of, find_reply}
use Rattle.search.specs.Next.{next_of, next_reply}
use Rattle.scan.specs.Range.{ranged, listed, range_of}
use Rattle.scan.specs.Summary.{summed, summary_of}
use Rattle.insert.specs.Enter.{enter_tests, done}
use Rattle.insert.proofs.Refusals.{enter_zero, enter_refused}
use Rattle.search.specs.Descent.{descent}
use Rattle.remove.specs.Remove.{plan_of, carried_out, found_of, remove_of}
use Rattle.index.specs.Calls.{Call, set_up, enter, remove, find, next, range, summary, run, number_of}
use Rattle.index.specs.Checks.{sound, joined, checks, Done}
use Rattle.index.specs.Demands.{Numbered}

module _ (f : Format) (c : Call) (s : List ℕ) where
  with_number : (m : ℕ) → (m ≡ 0 → ⊥) → failing (checks f c s) ≡ m → number_of (run f c s).answer ≡ m → Numbered f c s
  with_number m z t n = (λ q. n ∙ sym t, λ q. absurd (z (sym t ∙ q)))

  with_none : failing (checks f c s) ≡ 0 → Done c (number_of (run f c s).answer) → Numbered f c s
  with_none t d = (λ q. absurd (q t), λ q. d)

-- the order of low and high, as the definitions test it
order_off : (low high : ℕ) → ltb high low ≡ true → leb low high ≡ false
order_off low high e =
    elim (dec_le low high) [
      | yes h ↦ absurd (true≢false (sym e ∙ le-ltb high low h))
      | no h ↦ lt-leb low high (omega arith)
    ]

order_on : (low high : ℕ) → ltb high low ≡ false → leb low high ≡ true
order_on low high e = le-leb low high (ltb-false high low e)

set_up_numbered : (f : Format) (θ C N P : ℕ) (s : List ℕ) → Numbered f (set_up θ C N P) s
unfolding Rattle.store.specs.SetUp.set_up
set_up_numbered f θ C N P s =
    elim (bool_cases (lawful_sizes θ C N P)) [
      | inr a ↦ with_number f (set_up θ C N P) s 4 (λ z. omega arith) (failing_here _ _ a) (rw (a, Rattle.store.specs.SetUp.set_up))
      | inl a ↦
          elim (bool_cases (leb (size f θ C N P) (length s))) [
            | inr b ↦
                with_number f (set_up θ C N P) s 5 (λ z. omega arith) (failing_on _ _ a ∙ failing_here _ _ b)
                (rw (a, b, Rattle.store.specs.SetUp.set_up))
            | inl b ↦ with_none f (set_up θ C N P) s (failing_none _ (a, (b, tt))) (rw (a, b, Rattle.store.specs.SetUp.set_up))
          ]
    ]

enter_numbered : (f : Format) (it : Item) (s : List ℕ) → Numbered f (enter it) s
unfolding done
enter_numbered f it s =
    elim (ℕ_discrete (failing (enter_tests f s it)) 0) [
      | no z ↦ with_number f (enter it) s _ z refl (ap (λ a. a.reply.number) (enter_refused f s it _ refl z))
      | yes e ↦ with_none f (enter it) s e (ap (λ a. a.reply.number) (enter_zero f s it e))
    ]

-- remove: what find finds, and where it finds the record, what would join
remove_numbered : (f : Format) (k : ℕ) (s : List ℕ) → Numbered f (remove k) s
unfolding remove_of found_of carried_out joined
remove_numbered f k s =
    elim (bool_cases (head_rule f s)) [
      | inr a ↦ with_number f (remove k) s 3 (λ z. omega arith) (failing_here _ _ a) (rw (a, remove_of))
      | inl a ↦ sought (find_of f s (head_of s) k) refl a
    ]
  where
    sought : (x : Sought) → find_of f s (head_of s) k ≡ x → head_rule f s ≡ true → Numbered f (remove k) s
    sought Damaged e a =
        with_number f (remove k) s 9 (λ z. omega arith) (failing_on _ _ a ∙ failing_here _ _ (ap sound e)) (rw (a, e, remove_of, found_of))
    sought Nothing e a =
        with_none f (remove k) s (failing_none _ (a, (ap sound e, (ap (joined f s k) e, tt)))) (inr (rw (a, e, remove_of, found_of)))
    sought (Record it) e a =
        elim (bool_cases (plan_of f s (head_of s) k (descent f s (head_of s) k)).ok) [
          | inr b ↦
              with_number f (remove k) s 9 (λ z. omega arith)
              (failing_on _ _ a ∙ failing_on _ _ (ap sound e) ∙ failing_here _ _ (ap (joined f s k) e ∙ b)) (rw (a, e, remove_of, found_of) (rw (b, carried_out)))
          | inl b ↦
              with_none f (remove k) s (failing_none _ (a, (ap sound e, (ap (joined f s k) e ∙ b, tt)))) (inl (rw (a, e, remove_of, found_of) (rw (b, carried_out))))
        ]

-- find and next: what was sought, behind the head rule
sought_numbered : (f : Format) (s : List ℕ) (a : Sought)
    → ((failing ((3, head_rule f s) ∷ (9, sound a) ∷ []) ≡ 0 → ⊥) → (checked f s a).number ≡ failing ((3, head_rule f s) ∷ (9, sound a) ∷ []))
    × (failing ((3, head_rule f s) ∷ (9, sound a) ∷ []) ≡ 0 → ((checked f s a).number ≡ 0) ⊎ ((checked f s a).number ≡ 1))
unfolding checked
sought_numbered f s a =
    elim (bool_cases (head_rule f s)) [
      | inr e ↦ let t = failing_here (3, head_rule f s) ((9, sound a) ∷ []) e in
          (λ q. rw (e, checked) (sym (rw e at t)), λ q. absurd (omega (arith, t, q)))
      | inl e ↦ go a e
    ]
  where
    go : (a : Sought) → head_rule f s ≡ true
        → ((failing ((3, head_rule f s) ∷ (9, sound a) ∷ []) ≡ 0 → ⊥)
        → (checked f s a).number ≡ failing ((3, head_rule f s) ∷ (9, sound a) ∷ []))
        × (failing ((3, head_rule f s) ∷ (9, sound a) ∷ []) ≡ 0 → ((checked f s a).number ≡ 0) ⊎ ((checked f s a).number ≡ 1))
    go (Record it) e = (λ q. absurd (q (failing_none _ (e, (refl, tt)))), λ q. inl (rw (e, checked)))
    go Nothing e = (λ q. absurd (q (failing_none _ (e, (refl, tt)))), λ q. inr (rw (e, checked)))
    go Damaged e =
        let t = failing_on (3, head_rule f s) ((9, false) ∷ []) e ∙ failing_here (9, false) [] refl in
        (λ q. rw (e, checked) (sym (rw e at t)), λ q. absurd (omega (arith, t, q)))

range_numbered : (f : Format) (low high : ℕ) (out s : List ℕ) → Numbered f (range low high out) s
unfolding range_of listed
range_numbered f low high out s =
    let c : Call = range low high out in
    let ok : Bool = (ranged f s (head_of s) low high (length out / words f)).ok in
    elim (bool_cases (head_rule f s)) [
      | inr a ↦ with_number f c s 3 (λ z. omega arith) (failing_here _ _ a) (rw (a, range_of))
      | inl a ↦
          elim (bool_cases (ltb high low)) [
            | inl b ↦
                with_number f c s 7 (λ z. omega arith) (failing_on _ _ a ∙ failing_here _ _ (order_off low high b)) (rw (a, b, range_of))
            | inr b ↦
                elim (bool_cases ok) [
                  | inr d ↦
                      with_number f c s 9 (λ z. omega arith)
                      (failing_on _ _ a ∙ failing_on _ _ (order_on low high b) ∙ failing_here _ _ d) (rw (a, b, range_of) (rw (d, listed)))
                  | inl d ↦
                      with_none f c s (failing_none _ (a, (order_on low high b, (d, tt)))) (rw (a, b, range_of) (rw (d, listed)))
                ]
          ]
    ]

summary_numbered : (f : Format) (low high today : ℕ) (s : List ℕ) → Numbered f (summary low high today) s
unfolding summary_of
summary_numbered f low high today s =
    let c : Call = summary low high today in
    elim (bool_cases (head_rule f s)) [
      | inr a ↦ with_number f c s 3 (λ z. omega arith) (failing_here _ _ a) (rw (a, summary_of))
      | inl a ↦
          elim (bool_cases (ltb high low)) [
            | inl b ↦
                with_number f c s 7 (λ z. omega arith) (failing_on _ _ a ∙ failing_here _ _ (order_off low high b)) (rw (a, b, summary_of))
            | inr b ↦
                elim (bool_cases (lawful_day today)) [
                  | inr d ↦
                      with_number f c s 6 (λ z. omega arith)
                      (failing_on _ _ a ∙ failing_on _ _ (order_on low high b) ∙ failing_here _ _ d) (rw (a, b, d, summary_of))
                  | inl d ↦
                      elim (bool_cases (summed f s (head_of s) low high today).ok) [
                        | inr e ↦
                            with_number f c s 9 (λ z. omega arith)
                            (failing_on _ _ a ∙ failing_on _ _ (order_on low high b) ∙ failing_on _ _ d ∙ failing_here _ _ e)
                            (rw (a, b, d, summary_of) (rw e))
                        | inl e ↦
                            with_none f c s (failing_none _ (a, (order_on low high b, (d, (e, tt))))) (rw (a, b, d, summary_of) (rw e))
                      ]
                ]
          ]
    ]

pub numbers : (f : Format) (c : Call) (s : List ℕ) → Numbered f c s
unfolding find_reply next_reply
numbers f (set_up θ C N P) s = set_up_numbered f θ C N P s
numbers f (enter it) s = enter_numbered f it s
numbers f (remove k) s = remove_numbered f k s
numbers f (find k) s = sought_numbered f s (find_of f s (head_of s) k)
numbers f (next k) s = sought_numbered f s (next_of f s (head_of s) true k)
numbers f (range low high out) s = range_numbered f low high out s
numbers f (summary low high today) s = summary_numbered f low high today s
