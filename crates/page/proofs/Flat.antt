-- What a format's records are made of, and their words one after another.
use mathlib.Core.Path.{◌≡◌, refl, sym, ap, ◌∙◌}
use mathlib.Core.List.{List, [], ◌∷◌, ◌++◌, append_assoc}
use Prim.Native.Nat.{ℕ, ◌+◌, ◌*◌, ◌/◌, ◌%◌, ◌^◌, ◌≤◌, ◌<◌}
use native.Mathlib.Nat.{div-eq_of_lt}
use native.Mathlib.Omega.{arith}
use lib.Pow.{pow_mono}
use lib.ListN.{length, drop, set, length-append}
use Rattle.plot.specs.Plot.{lawful}
use Rattle.store.specs.declared.Format.{Format}
use Rattle.store.specs.declared.Format.TheVariants.{Plots}
use Rattle.store.specs.declared.Item.{Item}
use Rattle.store.specs.Format.{width, words}
use Rattle.store.specs.Head.{word}
use Rattle.page.specs.Page.{item_at, item_words, flat, plot_of, lawful_item}

pub plot_words : (f : Format) → words f ≡ 4
unfolding words
plot_words Plots = refl

pub plot_bits : (f : Format) → width f ≡ 32
unfolding width
plot_bits Plots = refl

pub plot_item : (f : Format) (pg : List ℕ) (i : ℕ) → item_at f pg i
    ≡ record { key = word pg (4 * i + 1); price = word pg (4 * i + 2); lease = word pg (4 * i + 3); last = word pg (4 * i + 4) }
unfolding item_at
plot_item Plots pg i = refl

pub plot_lawful : (f : Format) (it : Item) → lawful_item f it ≡ lawful (plot_of it)
unfolding lawful_item
plot_lawful Plots it = refl

pub plot_key : (f : Format) (k : ℕ) → k < 2 ^ width f → k < 2 ^ 32
unfolding width
plot_key Plots k h = h

pub set_four : (p : List ℕ) (a b c d : ℕ) → 4 ≤ length p → set (set (set (set p 0 a) 1 b) 2 c) 3 d ≡ a ∷ b ∷ c ∷ d ∷ drop 4 p
set_four [] a b c d h = absurd (omega arith)
set_four (w ∷ []) a b c d h = absurd (omega arith)
set_four (w ∷ x ∷ []) a b c d h = absurd (omega arith)
set_four (w ∷ x ∷ y ∷ []) a b c d h = absurd (omega arith)
set_four (w ∷ x ∷ y ∷ z ∷ p) a b c d h = refl

pub written : (f : Format) (it : Item) (p : List ℕ) → words f ≤ length p
    → set (set (set (set p 0 (it.key % 2 ^ 32)) 1 it.price) 2 it.lease) 3 it.last ≡ item_words f it ++ drop (words f) p
unfolding item_words words
written Plots it p h = set_four p (it.key % 2 ^ 32) it.price it.lease it.last h

pub length_item : (f : Format) (it : Item) → length (item_words f it) ≡ words f
unfolding item_words words
length_item Plots it = refl

pub length_flat : (f : Format) (its : List Item) → length (flat f its) ≡ words f * length its
unfolding flat
length_flat f [] = omega arith
length_flat f (it ∷ its) = length-append (item_words f it) (flat f its) ∙ omega (arith, length_item f it, length_flat f its)

pub flat_append : (f : Format) (xs ys : List Item) → flat f (xs ++ ys) ≡ flat f xs ++ flat f ys
unfolding flat
flat_append f [] ys = refl
flat_append f (x ∷ xs) ys =
    ap (λ (l : List ℕ). item_words f x ++ l) (flat_append f xs ys) ∙ sym (append_assoc (item_words f x) (flat f xs) (flat f ys))

-- a key of 64 bits has none left once 64 are taken off
pub none_left : (k low : ℕ) → k < 2 ^ 64 → 64 ≤ low → k / 2 ^ low ≡ 0
none_left k low h l = div-eq_of_lt (omega (arith, pow_mono l))
