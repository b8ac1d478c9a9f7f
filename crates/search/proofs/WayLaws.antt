-- What a function returned, as a fact on the record with `ok`: an Ok is a sound one, and an Err is damage.
use mathlib.Core.Path.{◌≡◌, refl, sym, ap, ◌∙◌}
use mathlib.Core.Bool.{Bool, true, false, true≢false, false≢true}
use Prim.Native.Nat.{ℕ}
use lib.Dec.{eqb}
use borrow.Author.Tests.{ne_eqb, eqb-true, eqb-false}
use Rattle.std.specs.Prelude.{Option, Some, None, Result, Ok, Err, is_ok, is_some, IsErrAnd}
use Rattle.answers.specs.declared.Refusal.{Refusal}
use Rattle.answers.specs.declared.Refusal.TheVariants.{DamageMet}
use mathlib.Core.List.{List}
use Rattle.store.specs.declared.Head.{Head}
use Rattle.search.specs.Find.{reply, sought_reply}
use Rattle.search.specs.Next.{onward}
use Rattle.search.proofs.NextLaws.{onward_rule}
use Rattle.search.specs.Way.{Visit, Descent, Terminal, End, Span, Sought, Reached, Record, Nothing, Damaged, Page, Past, Broken, Ends, On, answered}
use Rattle.search.specs.Way.{sound_visit, sound_descent, sound_terminal, sound_end, sound_span}
use Rattle.search.specs.Way.{visit_result, descent_result, terminal_result, end_result, span_option, span_result, sought_result, reached_result, hop_result}

abbrev err_of : {A : Type 0} → Result A Refusal → Refusal
err_of (Ok x) = DamageMet
err_of (Err e) = e

abbrev ok_of : {A : Type 0} → A → Result A Refusal → A
ok_of d (Ok x) = x
ok_of d (Err e) = d

abbrev some_of : {A : Type 0} → A → Option A → A
some_of d (Some x) = x
some_of d None = d

pub answered_ok : {A : Type 0} (b : Bool) {x v : A} → Ok v ≡ answered b x → (b ≡ true) × (v ≡ x)
answered_ok true {x} {v} q = (refl, ap (ok_of v) q)
answered_ok false q = absurd (true≢false (ap is_ok q))

pub answered_err : {A : Type 0} (b : Bool) (x : A) {e : Refusal} → Err e ≡ answered b x → (b ≡ false) × (e ≡ DamageMet)
answered_err true x q = absurd (false≢true (ap is_ok q))
answered_err false x q = (refl, ap err_of q)

-- damage that a `?` passes on
pub damage_passed : {T : Type 0} {e : Refusal} (r : Result T Refusal) → IsErrAnd r (λ y. y ≡ e) → e ≡ DamageMet → r ≡ Err DamageMet
damage_passed (Ok x) h q = absurd h
damage_passed (Err y) h q = ap Err (h ∙ q)

pub visit_ok : {v : Rattle.search.specs.declared.Visit.Visit} (w : Visit) → Ok v ≡ visit_result w → sound_visit v ≡ w
visit_ok w q =
    let h = answered_ok w.ok q in
    ap sound_visit h.1 ∙ ap (λ (o : Bool). record { ok = o; entry = w.entry; depth = w.depth; pointer = w.pointer }) (sym h.0)

pub terminal_is : {v : Rattle.search.specs.declared.Terminal.Terminal} (w : Terminal) → Ok v ≡ terminal_result w → sound_terminal v ≡ w
terminal_is w q =
    let h = answered_ok w.ok q in
    ap sound_terminal h.1 ∙ ap (λ (o : Bool). record { ok = o; node = w.node; used = w.used }) (sym h.0)

pub end_is : {v : Rattle.search.specs.declared.End.End} (w : End) → Ok v ≡ end_result w → sound_end v ≡ w
end_is w q =
    let h = answered_ok w.ok q in
    ap sound_end h.1 ∙ ap (λ (o : Bool). record { ok = o; node = w.node; before = w.before; page = w.page; used = w.used }) (sym h.0)

pub descent_is : {v : Rattle.search.specs.declared.Descent.Descent} (w : Descent) → Ok v ≡ descent_result w → sound_descent v ≡ w
descent_is w q =
    let h = answered_ok w.ok q in
    ap sound_descent h.1 ∙ ap (λ (o : Bool). record { ok = o; page = w.page; used = w.used; steps = w.steps }) (sym h.0)

some_is : {A : Type 0} {v x : A} (b : Bool) → Some v ≡ elim b [ true ↦ None | false ↦ Some x ] → (b ≡ false) × (v ≡ x)
some_is true q = absurd (true≢false (ap is_some q))
some_is {A} {v} {x} false q = (refl, ap (some_of v) q)

none_is : {A : Type 0} (x : A) (b : Bool) → ◌≡◌ {A = Option A} None (elim b [ true ↦ None | false ↦ Some x ]) → b ≡ true
none_is x true q = refl
none_is x false q = absurd (false≢true (ap is_some q))

-- a span that is returned has records
pub span_is : {v : Rattle.search.specs.declared.Span.Span} (w : Span) → Ok (Some v) ≡ span_result w
    → (sound_span v ≡ w) × (w.page ≡ 0 → ⊥)
span_is w q =
    let h = answered_ok w.ok q in
    let k = some_is (eqb w.page 0) h.1 in (
      ap sound_span k.1
          ∙ ap (λ (o : Bool). record { ok = o; page = w.page; from = w.from; to = w.to; last = w.last; node = w.node; used = w.used; behind = w.behind }) (sym h.0),
      eqb-false _ _ k.0,
    )

pub span_none : (w : Span) → Ok None ≡ span_result w → (w.ok ≡ true) × (w.page ≡ 0)
span_none w q = let h = answered_ok w.ok q in (h.0, eqb-true _ _ (none_is _ (eqb w.page 0) h.1))

-- a span with records
pub span_some : {v : Rattle.search.specs.declared.Span.Span} {w : Span} → sound_span v ≡ w → (v.page ≡ 0 → ⊥) → Ok (Some v) ≡ span_result w
span_some {v} e z = sym (ap (λ b. Ok (elim b [ true ↦ None | false ↦ Some v ])) (ne_eqb v.page 0 z)) ∙ ap span_result e

pub span_lost : (w : Span) → w.ok ≡ false → Err DamageMet ≡ span_result w
span_lost w o = sym (ap (λ b. answered b (span_option w)) o)

-- what was sought
pub sought_told : (a : Sought) → reply (sought_result a) ≡ sought_reply a
sought_told (Record it) = refl
sought_told Nothing = refl
sought_told Damaged = refl

-- what the way on from an entry leads to
pub reached_page : {p : ℕ} (a : Reached) → Ok (Some p) ≡ reached_result a → Page p ≡ a
reached_page {p} (Page x) q = ap (λ r. Page (some_of p (ok_of (Some p) r))) q
reached_page Past q = absurd (true≢false (ap is_some (ap (ok_of None) q)))
reached_page Broken q = absurd (true≢false (ap is_ok q))

pub reached_none : (a : Reached) → Ok None ≡ reached_result a → Past ≡ a
reached_none (Page x) q = absurd (false≢true (ap is_some (ap (ok_of None) q)))
reached_none Past q = refl
reached_none Broken q = absurd (true≢false (ap is_ok q))

pub reached_err : {e : Refusal} (a : Reached) → Err e ≡ reached_result a → (Broken ≡ a) × (e ≡ DamageMet)
reached_err (Page x) q = absurd (false≢true (ap is_ok q))
reached_err Past q = absurd (false≢true (ap is_ok q))
reached_err Broken q = (refl, ap err_of q)

-- what the forward link of a node leads to is never a page
module _ (h : Head) (s : List ℕ) (n left : ℕ) where
  pub onward_next : {m : ℕ} → Ok (Some m) ≡ hop_result (onward h s n left) → onward h s n left ≡ On m
  onward_next {m} =
      onward_rule (λ x. Ok (Some m) ≡ hop_result x → x ≡ On m) h s n left
      (λ q. absurd (true≢false (ap is_some (ap (ok_of None) q)))) (λ q. absurd (true≢false (ap is_ok q)))
      (λ z t q. ap (λ r. On (some_of m (ok_of (Some m) r))) (sym q))

  pub onward_end : Ok None ≡ hop_result (onward h s n left) → onward h s n left ≡ Ends Past
  onward_end =
      onward_rule (λ x. ◌≡◌ {A = Result (Option ℕ) Refusal} (Ok None) (hop_result x) → x ≡ Ends Past) h s n left
      (λ q. refl) (λ q. absurd (true≢false (ap is_ok q))) (λ z t q. absurd (false≢true (ap is_some (ap (ok_of None) q))))

  pub onward_lost : {e : Refusal} → Err e ≡ hop_result (onward h s n left) → (onward h s n left ≡ Ends Broken) × (e ≡ DamageMet)
  onward_lost {e} =
      onward_rule (λ x. ◌≡◌ {A = Result (Option ℕ) Refusal} (Err e) (hop_result x) → (x ≡ Ends Broken) × (e ≡ DamageMet)) h s n left
      (λ q. absurd (false≢true (ap is_ok q))) (λ q. (refl, ap err_of q)) (λ z t q. absurd (false≢true (ap is_ok q)))
