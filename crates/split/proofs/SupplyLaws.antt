-- The blocks that may be taken: their numbers, what stays where other blocks are written, and what is left where the first one is taken.
use mathlib.Core.Path.{◌≡◌, refl, sym, ap, ◌∙◌, subst}
use mathlib.Core.List.{List, [], ◌∷◌, ◌++◌}
use Prim.Native.Nat.{ℕ, zero, suc, ◌+◌, ◌-◌, ◌≤◌, ◌<◌}
use native.Mathlib.Decide.{ℕ_discrete, dec_le}
use native.Mathlib.Omega.{arith}
use lib.ListN.{length, length-append}
use Rattle.lists.specs.Lists.{All}
use Rattle.store.specs.Released.{chain_of, after_all, up_from}
use Rattle.represent.specs.Labelled.{count, OneForOne}
use Rattle.represent.proofs.LabelLaws.{ind_eq, ind_self, ind_other}
use Rattle.represent.proofs.Chain.{count_append}
use Rattle.represent.proofs.Counting.{length_chain}
use Rattle.split.specs.Supply.{to_come, Supplied}

-- unused numbers
pub up_from_low : (n m x : ℕ) → x ≤ m → count x (up_from n m) ≡ 0
unfolding up_from
up_from_low zero m x h = refl
up_from_low (suc n) m x h = omega (arith, ind_other x (suc m) (λ e. omega arith), up_from_low n (suc m) x (omega arith))

pub up_from_high : (n m x : ℕ) → m + n < x → count x (up_from n m) ≡ 0
unfolding up_from
up_from_high zero m x h = refl
up_from_high (suc n) m x h = omega (arith, ind_other x (suc m) (λ e. omega arith), up_from_high n (suc m) x (omega arith))

pub up_from_in : (n m x : ℕ) → m < x → x ≤ m + n → count x (up_from n m) ≡ 1
unfolding up_from
up_from_in zero m x l h = absurd (omega arith)
up_from_in (suc n) m x l h =
    elim (ℕ_discrete x (suc m)) [
      | yes e ↦ omega (arith, ind_eq x (suc m) e, up_from_low n (suc m) x (omega arith))
      | no e ↦ omega (arith, ind_other x (suc m) e, up_from_in n (suc m) x (omega arith) (omega arith))
    ]

length_up_from : (n m : ℕ) → length (up_from n m) ≡ n
unfolding up_from
length_up_from zero m = refl
length_up_from (suc n) m = ap suc (length_up_from n (suc m))

-- how many there are
pub length_come : (next : ℕ → ℕ) (many name taken cap : ℕ) → length (to_come next many name taken cap) ≡ many + (cap - taken)
length_come next many name taken cap =
    omega (
      arith,
      length-append (chain_of next many name) (up_from (cap - taken) taken),
      length_chain next many name,
      length_up_from (cap - taken) taken,
    )

-- each block is one of g's or may be taken: with the unused ones, or without
module _ (g : ℕ → ℕ) (ns : List ℕ) (taken cap : ℕ) (fits : taken ≤ cap) where
  spread : (x : ℕ) → count x (ns ++ up_from (cap - taken) taken) ≡ count x ns + count x (up_from (cap - taken) taken)
  spread x = count_append x ns (up_from (cap - taken) taken)

  pub one_wide : OneForOne taken (λ x. g x + count x ns) → OneForOne cap (λ x. g x + count x (ns ++ up_from (cap - taken) taken))
  one_wide h =
      record {
        once = λ x low high. elim (dec_le x taken) [
          | yes l ↦ omega (arith, spread x, up_from_low (cap - taken) taken x l, h.once x low l)
          | no l ↦ omega (arith, spread x, up_from_in (cap - taken) taken x (omega arith) (omega arith), h.none x (omega arith))
        ];
        none = λ x l. omega (arith, spread x, up_from_high (cap - taken) taken x (omega arith), h.none x (omega arith));
      }

  pub one_narrow : OneForOne cap (λ x. g x + count x (ns ++ up_from (cap - taken) taken)) → OneForOne taken (λ x. g x + count x ns)
  one_narrow h =
      record {
        once = λ x low high. omega (arith, spread x, up_from_low (cap - taken) taken x high, h.once x low (omega arith));
        none = λ x l. elim (dec_le x cap) [
          | yes i ↦ omega (arith, spread x, up_from_in (cap - taken) taken x l (omega arith), h.once x (omega arith) i)
          | no i ↦ omega (arith, spread x, h.none x (omega arith))
        ];
      }

pub all_counted : (A B : ℕ → Type 0) (ns : List ℕ) → ((x : ℕ) → 1 ≤ count x ns → A x → B x) → All A ns → All B ns
all_counted A B [] f a = tt
all_counted A B (n ∷ ns) f a = (f n (omega (arith, ind_self n)) a.0, all_counted A B ns (λ x o. f x (omega arith)) a.1)

pub after_front : (next : ℕ → ℕ) (n name : ℕ) → after_all next (suc n) name ≡ after_all next n (next name)
unfolding after_all
after_front next zero name = refl
after_front next (suc n) name = ap next (after_front next n name)

-- chains by two ways to the next one that agree on them
module _ (next next' : ℕ → ℕ) where
  pub chain_same : (n name : ℕ) → ((x : ℕ) → 1 ≤ count x (chain_of next n name) → next' x ≡ next x) → chain_of next' n name ≡ chain_of next n name
  unfolding chain_of
  chain_same zero name h = refl
  chain_same (suc n) name h =
      ap (λ ns. name ∷ ns)
      (ap (chain_of next' n) (h name (omega (arith, ind_self name))) ∙ chain_same n (next name) (λ x o. h x (omega arith)))

  pub after_same : (n name : ℕ) → ((x : ℕ) → 1 ≤ count x (chain_of next n name) → next' x ≡ next x) → after_all next' n name ≡ after_all next n name
  unfolding chain_of after_all
  after_same zero name h = refl
  after_same (suc n) name h =
      after_front next' n name
      ∙ ap (after_all next' n) (h name (omega (arith, ind_self name)))
      ∙ after_same n (next name) (λ x o. h x (omega arith))
      ∙ sym (after_front next n name)

module _ {form : ℕ → List ℕ} {blank : List ℕ} {many name taken cap : ℕ} (block block' : ℕ → List ℕ) (next next' : ℕ → ℕ)
    (same : (x : ℕ) → 1 ≤ x → x ≤ cap → 1 ≤ count x (to_come next many name taken cap) → (block' x ≡ block x) × (next' x ≡ next x))
    (y : Supplied block form blank next many name taken cap) where
  in_chain : (x : ℕ) → 1 ≤ count x (chain_of next many name) → 1 ≤ count x (to_come next many name taken cap)
  in_chain x o = omega (arith, count_append x (chain_of next many name) (up_from (cap - taken) taken))

  kept : (x : ℕ) → 1 ≤ count x (chain_of next many name) → (block' x ≡ block x) × (next' x ≡ next x)
  kept x o = let i = y.inside x o in same x i.0 i.1 (in_chain x o)

  pub chain_is : chain_of next' many name ≡ chain_of next many name
  chain_is = chain_same next next' many name (λ x o. (kept x o).1)

  pub come_same : to_come next' many name taken cap ≡ to_come next many name taken cap
  come_same = ap (λ ns. ns ++ up_from (cap - taken) taken) chain_is

  pub supplied_same : Supplied block' form blank next' many name taken cap
  supplied_same =
      record {
        fits = y.fits;
        inside = λ x o. y.inside x (subst (λ ns. 1 ≤ count x ns) chain_is o);
        chained = record {
          each = subst (All (λ n. block' n ≡ form (next' n))) (sym chain_is)
              (all_counted (λ n. block n ≡ form (next n)) (λ n. block' n ≡ form (next' n)) (chain_of next many name)
              (λ x o e. let k = kept x o in k.0 ∙ e ∙ ap form (sym k.1)) y.chained.each);
          ends = after_same next next' many name (λ x o. (kept x o).1) ∙ y.chained.ends;
        };
        unused = λ x l h.
            (same x (omega arith) h
            (omega (
              arith,
              count_append x (chain_of next many name) (up_from (cap - taken) taken),
              up_from_in (cap - taken) taken x l (omega (arith, y.fits)),
            ))
            ).0 ∙ y.unused x l h;
      }

-- the first one taken: a released one, or an unused one
module _ (next : ℕ → ℕ) where
  pub come_released : (many name taken cap : ℕ)
      → to_come next (suc many) name taken cap ≡ name ∷ to_come next many (next name) taken cap
  unfolding chain_of
  come_released many name taken cap = refl

  pub come_unused : (name taken cap : ℕ) → taken < cap → to_come next 0 name taken cap ≡ suc taken ∷ to_come next 0 name (suc taken) cap
  unfolding chain_of up_from
  come_unused name taken cap l =
      let e : cap - taken ≡ suc (cap - suc taken) = omega arith in ap (λ n. up_from n taken) e

module _ {block : ℕ → List ℕ} {form : ℕ → List ℕ} {blank : List ℕ} {next : ℕ → ℕ} where
  pub supplied_released : (many name taken cap : ℕ) → Supplied block form blank next (suc many) name taken cap
      → Supplied block form blank next many (next name) taken cap
  unfolding chain_of
  supplied_released many name taken cap y =
      record {
        fits = y.fits;
        inside = λ x o. y.inside x (omega arith);
        chained = record { each = y.chained.each.1; ends = sym (after_front next many name) ∙ y.chained.ends };
        unused = y.unused;
      }

  pub supplied_unused : (name taken cap : ℕ) → taken < cap → Supplied block form blank next 0 name taken cap
      → Supplied block form blank next 0 name (suc taken) cap
  supplied_unused name taken cap l y =
      record {
        fits = l;
        inside = y.inside;
        chained = y.chained;
        unused = λ x a b. y.unused x (omega arith) b;
      }
