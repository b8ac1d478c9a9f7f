-- The laws of calls as plain numbers.
use mathlib.Core.Path.{◌≡◌, refl, sym, ap, ◌∙◌}
use mathlib.Core.Bool.{Bool, true, false, not}
use mathlib.Core.List.{List}
use Prim.Native.Nat.{ℕ, ◌+◌, ◌-◌, ◌*◌, ◌%◌, ◌^◌, ◌≤◌, min}
use native.Mathlib.Omega.{arith}
use lib.ListN.{length, replicate, get_or-eq_default}
use borrow.Author.Tests.{eq-eqb, ne_eqb, not-true, not-false}
use Rattle.store.specs.Head.{word}
use Rattle.raw.specs.Words.{written, alike, all_from}
use Rattle.raw.specs.Blocks.{page_block}
use Rattle.harness.specs.declared.calls.Kind.{Kind}
use Rattle.harness.specs.declared.calls.Kind.TheVariants.{Convert}
use Rattle.harness.specs.declared.calls.Call.{Call}
use Rattle.harness.specs.declared.calls.Reply.{Reply}
use Rattle.harness.specs.declared.calls.Outcome.{Outcome}
use Rattle.harness.specs.Calls.{first_kinds, kind_of, is_range, writes, ran_of, reply_to, mark, marked, written_out, open_words, stays, kept, outcome}

-- a number past those of the other kinds
pub above : {k : ℕ} (n : ℕ) → n ≤ k → (k ≡ n → ⊥) → n + 1 ≤ k
above n l e = omega (arith, l, e)

pub converts : (n : ℕ) → 9 ≤ n → Convert ≡ kind_of n
converts n h = sym (get_or-eq_default first_kinds Convert h)

-- the words that a call may write
module _ (kind : Kind) (r : Reply) {b : Bool} (eb : b ≡ is_range kind) where
  pub written_other : not b ≡ true → 0 ≡ written_out kind r
  unfolding written_out
  written_other k = rw (sym eb ∙ not-true _ k, written_out) refl

  pub written_refused : not b ≡ false → (r.number ≡ 0 → ⊥) → 0 ≡ written_out kind r
  unfolding written_out
  written_refused k n = rw (sym eb ∙ not-false _ k, ne_eqb _ _ n, written_out) refl

  pub written_range : {x y : ℕ} → not b ≡ false → r.number ≡ 0 → x ≡ r.a % 2 ^ 32 → y ≡ x → 4 * y ≡ written_out kind r
  unfolding written_out
  written_range k n e f = rw (sym eb ∙ not-false _ k, eq-eqb _ _ n, written_out) (ap (λ z. 4 * z) (f ∙ e))

module _ (s : List ℕ) (kind : Kind) (n : ℕ) {b : Bool} (eb : b ≡ writes kind) where
  pub open_reading : not b ≡ true → 0 ≡ open_words s kind n
  unfolding open_words
  open_reading k = rw (sym eb ∙ not-true _ k, open_words) refl

  pub open_refused : not b ≡ false → (n ≡ 0 → ⊥) → 0 ≡ open_words s kind n
  unfolding open_words
  open_refused k e = rw (sym eb ∙ not-false _ k, ne_eqb _ _ e, open_words) refl

  pub open_done : {x y z : ℕ} → not b ≡ false → n ≡ 0 → x ≡ word s 3 → y ≡ min (x + 1) (2 ^ 32 - 1) → z ≡ page_block s y
      → z ≡ open_words s kind n
  unfolding open_words
  open_done k e x y z = rw (sym eb ∙ not-false _ k, eq-eqb _ _ e, open_words) (z ∙ ap (page_block s) (y ∙ ap (λ x. min (x + 1) (2 ^ 32 - 1)) x))

-- what stays
module _ (s k out : List ℕ) (kind : Kind) (r : Reply) {n : ℕ} (b : Bool) (w : n ≡ written_out kind r) (o : b ≡ all_from out n mark) where
  pub stays_not : not b ≡ true → false ≡ stays s k out kind r
  unfolding stays
  stays_not f = rw (sym w, sym o, not-true b f) refl

  pub stays_store : {from m : ℕ} {a : Bool} → not b ≡ false → from ≡ open_words s kind r.number → m ≡ length s - from
      → a ≡ alike s from k from m → a ≡ stays s k out kind r
  unfolding stays
  stays_store t f m a = rw (sym w, sym o, not-false b t, sym f, sym m) a

pub watched_is : (c : Call) (s q : List ℕ) {o k t p : List ℕ} {r : Reply} {b : Bool}
    → o ≡ replicate (length q) mark → k ≡ written (word s) (replicate 16384 0) (length s)
    → (r ≡ reply_to c s o) × (t ≡ (ran_of c s o).store) × (p ≡ (ran_of c s o).out) → b ≡ stays t k p c.kind r
    → let m = marked (length q) in
    (record { reply = r; kept = b } ≡ outcome c s m) × (t ≡ (ran_of c s m).store) × (p ≡ (ran_of c s m).out)
unfolding outcome kept marked
watched_is c s q o k e b = rw (sym o) (rw (sym k, sym e.0, sym e.1, sym e.2, sym b) refl, e.1, e.2)

-- an output of another length that is the same
pub in_room : (c : Call) (s : List ℕ) (n m : ℕ) {r : Outcome} {t p : List ℕ} → n ≡ m
    → (r ≡ outcome c s (marked n)) × (t ≡ (ran_of c s (marked n)).store) × (p ≡ (ran_of c s (marked n)).out)
    → (r ≡ outcome c s (marked m)) × (t ≡ (ran_of c s (marked m)).store)
in_room c s n m l e = rw (sym l) (e.0, e.1)
