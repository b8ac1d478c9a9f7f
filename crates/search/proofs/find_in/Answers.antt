-- By its two tests.
use mathlib.Core.Path.{◌≡◌, refl, sym, ap}
use mathlib.Core.Bool.{true, false}
use Prim.Native.Nat.{ℕ, ◌≤◌, ◌<◌}
use native.Mathlib.Omega.{arith}
use lib.Dec.{ltb}
use borrow.Author.Tests.{lt-ltb, le-ltb, eq-eqb, ne_eqb}
use Rattle.page.proofs.Inside.{record_inside}
use Rattle.search.specs.Way.{sought_result}
use Rattle.search.proofs.FindLaws.{in_page_is}
use Rattle.search.proofs.find_in.Goals as goal

-- the first record at or above the key is one of the page
below : {i n m : ℕ} → n ≡ m → n ≤ i → ltb i m ≡ false
below e h = le-ltb _ _ (rw e at h)

within : {i n m : ℕ} → n ≡ m → i < n → true ≡ ltb i m
within e h = sym (lt-ltb _ _ (rw e at h))

pub returns-then-i-count_of : goal.returns-then-i-count_of
returns-then-i-count_of c =
    ap sought_result
    (in_page_is _ _ _ _ _ false _ c.first_above-i.ensures.0 refl (sym (below c.count_of.ensures.0 c.if-i-count_of.true)) refl)

pub read_one-item-requires : goal.read_one-item-requires
read_one-item-requires c =
    (omega (arith, c.if-i-count_of.false, c.count_of.ensures.1), record_inside c.requires (rw c.count_of.ensures.0 at c.if-i-count_of.false))

pub returns-then-item-key : goal.returns-then-item-key
returns-then-item-key c =
    ap sought_result
    (in_page_is _ _ _ _ _ true false c.first_above-i.ensures.0 c.read_one-item.ensures
    (within c.count_of.ensures.0 c.if-i-count_of.false) (sym (ne_eqb _ _ c.if-item-key.true)))

pub returns : goal.returns
returns c =
    ap sought_result
    (in_page_is _ _ _ _ _ true true c.first_above-i.ensures.0 c.read_one-item.ensures
    (within c.count_of.ensures.0 c.if-i-count_of.false) (sym (eq-eqb _ _ c.if-item-key.false)))
