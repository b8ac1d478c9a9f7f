-- The key that the totals of ascending records have is that of the earliest last day, read off the list: the leased record that ends first
-- is among those that end on the earliest day, of these among the dearest, and of these the first has the lowest key.
use mathlib.Core.Path.{◌≡◌, refl, sym, ap, ◌∙◌, subst}
use mathlib.Core.Bool.{Bool, true, false, not}
use mathlib.Core.List.{List, [], ◌∷◌, Memᴰ}
use mathlib.Core.Logic.{inl, inr}
use Prim.Native.Nat.{ℕ, ◌≤◌, ◌<◌}
use native.Mathlib.Omega.{arith}
use lib.Dec.{eqb}
use lib.ListN.{length}
use borrow.Author.Tests.{eq-eqb, ne_eqb, eqb-true, eqb-false, not-true}
use Rattle.lists.specs.Lists.{All, filter}
use Rattle.lists.specs.Keyed.{Sorted, Lacks}
use Rattle.lists.proofs.Cases.{bool_cases}
use Rattle.lists.proofs.ListLaws.{filter_true, filter_false, all_filter_to, all_map, pairwise_filter}
use Rattle.lists.proofs.AppendLaws.{filter_none}
use Rattle.store.specs.declared.Item.{Item}
use Rattle.page.specs.Schema.{key_of}
use Rattle.totals.specs.Totals.{no_totals, totals_of}
use Rattle.totals.specs.Promises.{worths, Earliest, EarliestOf}
use Rattle.totals.proofs.Promises.{count_and_total, earliest_key_lem}
use Rattle.scan.specs.Summary.{SummaryReply, done, summing_reply}
use Rattle.readings.specs.Listing.{first_key, leased, earliest_day, ending, highest_price, dearest, earliest_key}
use Rattle.readings.proofs.FirstLaws.{all_mem}

mem_filter : (test : Item → Bool) (x : Item) (its : List Item) → Memᴰ x its → test x ≡ true → Memᴰ x (filter test its)
mem_filter test x [] x3 t = elim x3 [ ]
mem_filter test x (y ∷ its) (Memᴰ.head e) t =
    subst (Memᴰ x) (sym (filter_true test y its (ap test (sym e) ∙ t))) (Memᴰ.head e)
mem_filter test x (y ∷ its) (Memᴰ.tail m) t =
    elim (bool_cases (test y)) [
      | inl e ↦ subst (Memᴰ x) (sym (filter_true test y its e)) (Memᴰ.tail (mem_filter test x its m t))
      | inr e ↦ subst (Memᴰ x) (sym (filter_false test y its e)) (mem_filter test x its m t)
    ]

day_low : (its : List Item) (x : Item) → Memᴰ x its → earliest_day its ≤ x.last
unfolding earliest_day
day_low [] x x3 = elim x3 [ ]
day_low (y ∷ []) x (Memᴰ.tail m) = elim m [ ]
day_low (y ∷ []) x (Memᴰ.head e) = omega (arith, ap (λ (it : Item). it.last) e)
day_low (y ∷ z ∷ its) x (Memᴰ.head e) = omega (arith, ap (λ (it : Item). it.last) e)
day_low (y ∷ z ∷ its) x (Memᴰ.tail m) = omega (arith, day_low (z ∷ its) x m)

day_high : (its : List Item) (x : Item) (d : ℕ) → Memᴰ x its → All (λ it. d ≤ it.last) its → d ≤ earliest_day its
unfolding earliest_day
day_high [] x d m a = elim m [ ]
day_high (y ∷ []) x d m a = a.0
day_high (y ∷ z ∷ its) x d m a = omega (arith, a.0, day_high (z ∷ its) z d (Memᴰ.head refl) a.1)

first_least : (its : List Item) (x : Item) → Memᴰ x its → Sorted key_of its → All (λ it. x.key ≤ it.key) its → first_key its ≡ x.key
unfolding first_key
first_least [] x x5 s a = elim x5 [ ]
first_least (y ∷ its) x (Memᴰ.head e) s a = ap key_of (sym e)
first_least (y ∷ its) x (Memᴰ.tail m) s a = omega (arith, a.0, all_mem (λ it. y.key < it.key) m s.0)

price_high : (its : List Item) (x : Item) → Memᴰ x its → x.price ≤ highest_price its
unfolding highest_price
price_high [] x x3 = elim x3 [ ]
price_high (y ∷ its) x (Memᴰ.head e) = omega (arith, ap (λ (it : Item). it.price) e)
price_high (y ∷ its) x (Memᴰ.tail m) = omega (arith, price_high its x m)

price_low : (its : List Item) (p : ℕ) → All (λ it. it.price ≤ p) its → highest_price its ≤ p
unfolding highest_price
price_low [] p a = omega arith
price_low (y ∷ its) p a = omega (arith, a.0, price_low its p a.1)

abbrev is_leased : Item → Bool
is_leased it = not (eqb it.lease 0)

-- no leased record
none_read : (its : List Item) → All (λ it. it.lease ≡ 0) its → earliest_key its ≡ 0
unfolding earliest_key leased ending dearest first_key
none_read its a =
    let e : filter is_leased its ≡ [] =
    filter_none is_leased its
    (all_map (λ it. it.lease ≡ 0) (λ it. is_leased it ≡ false) its (λ it e. ap not (eq-eqb it.lease 0 e)) a) in
    ap (λ l. first_key (dearest (ending l))) e

-- the leased record that ends first, at the highest price, with the lowest key
module _ (its : List Item) {k : ℕ} (s : Sorted key_of its) (e : Earliest its k) where
  abbrev x : Item
  x = e.item

  abbrev L : List Item
  L = leased its

  abbrev E : List Item
  E = ending L

  abbrev D : List Item
  D = dearest E

  abbrev Real : Item → Type 0
  Real it = it.lease ≡ 0 → ⊥

  real : (it : Item) → is_leased it ≡ true → Real it
  real it t = eqb-false it.lease 0 (not-true _ t)

  in_L : Memᴰ x L
  unfolding leased
  in_L = mem_filter is_leased x its e.held (ap not (ne_eqb x.lease 0 e.leased))

  day_is : earliest_day L ≡ x.last
  unfolding leased
  day_is =
      let after : All (λ it. x.last ≤ it.last) L =
      all_filter_to is_leased (λ it. Real it → x.last ≤ it.last) (λ it. x.last ≤ it.last) its (λ it t p. p (real it t)) e.first in
      omega (arith, day_low L x in_L, day_high L x x.last in_L after)

  in_E : Memᴰ x E
  unfolding ending
  in_E = mem_filter _ x L in_L (eq-eqb x.last (earliest_day L) (sym day_is))

  -- what holds of each leased record that ends on the day of x holds of those
  all_ending : (P : Item → Type 0) → All (λ it. Real it → it.last ≡ x.last → P it) its → All P E
  unfolding leased ending
  all_ending P a =
      all_filter_to _ (λ it. it.last ≡ x.last → P it) P L (λ it t p. p (eqb-true it.last (earliest_day L) t ∙ day_is))
      (all_filter_to is_leased (λ it. Real it → it.last ≡ x.last → P it) (λ it. it.last ≡ x.last → P it) its
      (λ it t p. p (real it t)) a)

  price_is : highest_price E ≡ x.price
  price_is =
      omega (arith, price_high E x in_E, price_low E x.price (all_ending (λ it. it.price ≤ x.price) e.dearest))

  in_D : Memᴰ x D
  unfolding dearest
  in_D = mem_filter _ x E in_E (eq-eqb x.price (highest_price E) (sym price_is))

  lowest_D : All (λ it. x.key ≤ it.key) D
  unfolding dearest
  lowest_D =
      all_filter_to _ (λ it. it.price ≡ x.price → x.key ≤ it.key) (λ it. x.key ≤ it.key) E
      (λ it t p. p (eqb-true it.price (highest_price E) t ∙ price_is))
      (all_ending (λ it. it.price ≡ x.price → x.key ≤ it.key) e.lowest)

  sorted_D : Sorted key_of D
  unfolding leased ending dearest
  sorted_D =
      let R : Item → Item → Type 0 = λ a b. a.key < b.key in
      pairwise_filter R _ E (pairwise_filter R _ L (pairwise_filter R is_leased its s))

  some_read : k ≡ earliest_key its
  unfolding earliest_key
  some_read = e.key ∙ sym (first_least D x in_D sorted_D lowest_D)

pub earliest_read : (its : List Item) (k : ℕ) → Sorted key_of its → EarliestOf its k → k ≡ earliest_key its
earliest_read its k s (inl n) = n.key ∙ sym (none_read its n.perpetual)
earliest_read its k s (inr e) = some_read its s e

-- what the totals of ascending records come to
pub totals_read : (its : List Item) (today : ℕ) → Sorted key_of its → Lacks key_of 0 its
    → summing_reply (done (totals_of no_totals its today))
    ≡ record { number = 0; count = length its; total = worths its today; key = earliest_key its }
totals_read its today s z =
    let c = count_and_total its today in
    reply_same c.0 c.1 (earliest_read its _ s (earliest_key_lem its today s z))
  where
    reply_same : {count count' total total' key key' : ℕ} → count ≡ count' → total ≡ total' → key ≡ key'
        → ◌≡◌ {A = SummaryReply} (record { number = 0; count = count; total = total; key = key })
        (record { number = 0; count = count'; total = total'; key = key' })
    reply_same a b c = rw (a, b, c)
