-- An insertion as rounds and a put: a round leaves what the insertion is to come to as it was, and with room at the key the put reaches it.
-- The rounds last while the records of the leaf at the key agree with it in the next bit.
use mathlib.Core.Path.{◌≡◌, refl, sym, ap, ◌∙◌}
use mathlib.Core.Bool.{Bool, true, false}
use mathlib.Core.List.{List, [], ◌∷◌}
use mathlib.Core.Logic.{inl, inr}
use Prim.Native.Nat.{ℕ, zero, suc, ◌+◌, ◌-◌, ◌/◌, ◌^◌, ◌≤◌, ◌<◌}
use native.Mathlib.Nat.{div-one}
use native.Mathlib.Decide.{dec_lt}
use native.Mathlib.Omega.{arith}
use lib.Dec.{ltb}
use lib.ListN.{length}
use borrow.Author.Tests.{lt-ltb, le-ltb}
use Rattle.lists.specs.Bits.{bit, bits}
use Rattle.lists.specs.Lists.{all}
use Rattle.lists.specs.Keyed.{Sorted, Lacks, Prefix, insert}
use Rattle.lists.proofs.Cases.{bool_cases}
use Rattle.lists.proofs.ListLaws.{filter_all, filter_some, length_filter}
use Rattle.lists.proofs.KeyedLaws.{length_insert}
use Rattle.tree.specs.Trie.{Trie, leaf, fork, Shape, tip, Key, shape, leaf_at, depth, rest, graft, pair, split}
use Rattle.tree.specs.Build.{same, side, build, rounds, target, halve, put, rounds_at, filled, pages, pages_at}
use Rattle.tree.specs.Carry.{splits}
use Rattle.tree.proofs.TrieLaws.{graft_leaf_at, graft_graft, leaf_at_graft, depth_graft, depth_pair, depth_le_height, rest_bits}
use Rattle.tree.proofs.TrieLaws.{shape_graft, rest_shape}
use Rattle.tree.proofs.BuildLaws.{length_sides, side_insert, side_insert_off, prefix_side, build_le, build_gt, height_build}
use Rattle.tree.proofs.BuildLaws.{leaf_all, leaf_sorted, leaf_prefix, leaf_small, build_insert}

-- halvings at a key stay on the key's side, and in the leaf at the key
splits_low : (d : ℕ) (l r : Shape) (k : Key) → splits d (fork l r) (false ∷ k) ≡ fork (splits d l k) r
splits_low zero l r k = refl
splits_low (suc d) l r k = splits_low d (split l k) r k

splits_high : (d : ℕ) (l r : Shape) (k : Key) → splits d (fork l r) (true ∷ k) ≡ fork l (splits d r k)
splits_high zero l r k = refl
splits_high (suc d) l r k = splits_high d l (split r k) k

splits_graft : (d : ℕ) (t c : Shape) (k : Key) → splits d (graft t k c) k ≡ graft t k (splits d c (rest t k))
splits_graft zero t c k = refl
splits_graft (suc d) t c k = ap (λ (s : Shape). splits d s k) (graft_graft t k c (pair tt tt)) ∙ splits_graft d t (split c (rest t k)) k

pub splits_at : (d : ℕ) (t : Shape) (k : Key) → splits d t k ≡ graft t k (splits d tip (rest t k))
splits_at d t k = ap (λ (s : Shape). splits d s k) (sym (graft_leaf_at t k)) ∙ splits_graft d t tip k

pub filled_le : {R : Type 0} (ls : List R) → filled ls ≤ 1
filled_le [] = omega arith
filled_le (x ∷ xs) = omega arith

pub filled_pos : {R : Type 0} (ls : List R) → 1 ≤ length ls → filled ls ≡ 1
filled_pos [] h = absurd (omega arith)
filled_pos (x ∷ xs) h = refl

pub filled_zero : {R : Type 0} (ls : List R) → length ls ≡ 0 → filled ls ≡ 0
filled_zero [] h = refl
filled_zero (x ∷ xs) h = absurd (omega arith)

pub pages_graft : {R : Type 0} (t : Trie (List R)) (k : Key) (c : Trie (List R))
    → pages (graft t k c) + filled (leaf_at t k) ≡ pages t + pages c
pages_graft (leaf x) k c = omega arith
pages_graft (fork l r) [] c = omega (arith, pages_graft l [] c)
pages_graft (fork l r) (false ∷ k) c = omega (arith, pages_graft l k c)
pages_graft (fork l r) (true ∷ k) c = omega (arith, pages_graft r k c)

-- pages that one record more takes
module _ {R : Type 0} (C : ℕ) where
  pub pages_at_room : (ls : List R) → 1 ≤ length ls → length ls < C → pages_at C ls ≡ 0
  unfolding pages_at
  pages_at_room [] h l = absurd (omega arith)
  pages_at_room (x ∷ xs) h l = rw (lt-ltb (length (x ∷ xs)) C l, pages_at)

  pub pages_at_full : (ls : List R) → C ≤ length ls → pages_at C ls ≡ 1
  unfolding pages_at
  pages_at_full [] h = refl
  pages_at_full (x ∷ xs) h = rw (le-ltb (length (x ∷ xs)) C h, pages_at)

  pages_at_le : (ls : List R) → pages_at C ls ≤ 1
  unfolding pages_at
  pages_at_le [] = omega arith
  pages_at_le (x ∷ xs) =
      elim (ltb (length (x ∷ xs)) C) as (λ b. elim b [ true ↦ 0 | false ↦ 1 ] ≤ 1) [ true ↦ omega arith | false ↦ omega arith ]

  -- the two halves of a full page: the half xs, and the other
  pub half_pages : (xs ys : List R) → length xs + length ys ≡ C → filled xs + filled ys + pages_at C xs ≤ 2
  half_pages [] ys h = omega (arith, filled_le ys, pages_at_le [])
  half_pages (x ∷ xs) [] h = omega (arith, pages_at_le (x ∷ xs))
  half_pages (x ∷ xs) (y ∷ ys) h = omega (arith, pages_at_room (x ∷ xs) (omega arith) (omega arith))

module _ {R : Type 0} (key : R → ℕ) where
  -- the records ls agree with the key k in bit w
  abbrev agree : ℕ → ℕ → List R → Bool
  agree w k = all (λ r. same (bit w k) (bit w (key r)))

  pub rounds_on : (w k : ℕ) (ls : List R) → agree w k ls ≡ true → rounds key (suc w) k ls ≡ suc (rounds key w k ls)
  unfolding rounds
  rounds_on w k ls e = rw (e, rounds)

  pub rounds_end : (w k : ℕ) (ls : List R) → agree w k ls ≡ false → rounds key (suc w) k ls ≡ 1
  unfolding rounds
  rounds_end w k ls e = rw (e, rounds)

  side_on : (w k : ℕ) (ls : List R) → agree w k ls ≡ true → side key (bit w k) w ls ≡ ls
  side_on w k ls e = filter_all (λ r. same (bit w k) (bit w (key r))) ls e

  side_end : (w k : ℕ) (ls : List R) → agree w k ls ≡ false → length (side key (bit w k) w ls) < length ls
  side_end w k ls e = filter_some (λ r. same (bit w k) (bit w (key r))) ls e

  length_side : (b : Bool) (w : ℕ) (ls : List R) → length (side key b w ls) ≤ length ls
  length_side b w ls = length_filter (λ r. same b (bit w (key r))) ls

  module _ (C : ℕ) where
    -- a full leaf with a record more, by the record's next bit
    full_low : (w : ℕ) (r : R) (ls : List R) → Sorted key ls → length ls ≡ C → bit w (key r) ≡ false
        → build key C (suc w) (insert key r ls) ≡ fork (build key C w (insert key r (side key false w ls))) (leaf (side key true w ls))
    full_low w r ls s f e =
        rw (
          build_gt key C w (insert key r ls) (omega (arith, length_insert key r ls)),
          side_insert key false w r ls e s,
          side_insert_off key true w r ls e,
          build_le key C w (side key true w ls) (omega (arith, length_side true w ls)),
        )

    full_high : (w : ℕ) (r : R) (ls : List R) → Sorted key ls → length ls ≡ C → bit w (key r) ≡ true
        → build key C (suc w) (insert key r ls) ≡ fork (leaf (side key false w ls)) (build key C w (insert key r (side key true w ls)))
    full_high w r ls s f e =
        rw (
          build_gt key C w (insert key r ls) (omega (arith, length_insert key r ls)),
          side_insert key true w r ls e s,
          side_insert_off key false w r ls e,
          build_le key C w (side key false w ls) (omega (arith, length_side false w ls)),
        )

    -- the shape of a full leaf with a record more: as many halvings as rounds
    overflow : (w : ℕ) (r : R) (ls : List R) → Sorted key ls → length ls ≡ C
        → shape (build key C w (insert key r ls)) ≡ splits (rounds key w (key r) ls) tip (bits w (key r))
    unfolding build rounds
    overflow zero r ls s f = refl
    overflow (suc w) r ls s f =
        elim (bool_cases (agree w (key r) ls)) [
          | inl a ↦
              elim (bool_cases (bit w (key r))) [
                | inl e ↦
                    rw (
                      full_high w r ls s f e,
                      rounds_on w (key r) ls a,
                      e,
                      splits_high (rounds key w (key r) ls) tip tip (bits w (key r)),
                      (rw e at (side_on w (key r) ls a)),
                    )
                    (ap (λ (t : Shape). fork tip t) (overflow w r ls s f))
                | inr e ↦
                    rw (
                      full_low w r ls s f e,
                      rounds_on w (key r) ls a,
                      e,
                      splits_low (rounds key w (key r) ls) tip tip (bits w (key r)),
                      (rw e at (side_on w (key r) ls a)),
                    )
                    (ap (λ (t : Shape). fork t tip) (overflow w r ls s f))
              ]
          | inr a ↦
              elim (bool_cases (bit w (key r))) [
                | inl e ↦
                    let g : length (side key true w ls) < length ls = rw e at (side_end w (key r) ls a) in
                    rw (
                      full_high w r ls s f e,
                      rounds_end w (key r) ls a,
                      build_le key C w (insert key r (side key true w ls)) (omega (arith, length_insert key r (side key true w ls))),
                    )
                | inr e ↦
                    let g : length (side key false w ls) < length ls = rw e at (side_end w (key r) ls a) in
                    rw (
                      full_low w r ls s f e,
                      rounds_end w (key r) ls a,
                      build_le key C w (insert key r (side key false w ls)) (omega (arith, length_insert key r (side key false w ls))),
                    )
              ]
        ]

    -- a full leaf with a record more is two pages: the last round parts the records, and every earlier one leaves an empty half
    overflow_pages : 1 ≤ C → (w : ℕ) (r : R) (ls : List R) → Sorted key ls → length ls ≡ C → Lacks key (key r) ls
        → Prefix key w (key r / 2 ^ w) ls
        → pages (build key C w (insert key r ls)) ≡ 2
    unfolding build
    overflow_pages c zero r [] s f m p = absurd (omega arith)
    overflow_pages c zero r (x ∷ xs) s f m p = absurd (m.0 (omega (arith, div-one (key x), div-one (key r), p.0)))
    overflow_pages c (suc w) r ls s f m p =
        elim (bool_cases (agree w (key r) ls)) [
          | inl a ↦
              let i = overflow_pages c w r ls s f m (rw (side_on w (key r) ls a) at (prefix_side key w (key r) ls p)) in
              elim (bool_cases (bit w (key r))) [
                | inl e ↦
                    let o = rw e at (side_on w (key r) ls a) in
                    rw (full_high w r ls s f e, o)
                    (omega (arith, i, filled_zero (side key false w ls) (omega (arith, length_sides key w ls, ap length o))))
                | inr e ↦
                    let o = rw e at (side_on w (key r) ls a) in
                    rw (full_low w r ls s f e, o)
                    (omega (arith, i, filled_zero (side key true w ls) (omega (arith, length_sides key w ls, ap length o))))
              ]
          | inr a ↦
              elim (bool_cases (bit w (key r))) [
                | inl e ↦
                    let g : length (side key true w ls) < length ls = rw e at (side_end w (key r) ls a) in
                    rw (
                      full_high w r ls s f e,
                      build_le key C w (insert key r (side key true w ls))
                          (omega (arith, length_insert key r (side key true w ls))),
                    )
                    (omega (
                      arith,
                      filled_pos (insert key r (side key true w ls)) (omega (arith, length_insert key r (side key true w ls))),
                      filled_pos (side key false w ls) (omega (arith, length_sides key w ls)),
                    ))
                | inr e ↦
                    let g : length (side key false w ls) < length ls = rw e at (side_end w (key r) ls a) in
                    rw (
                      full_low w r ls s f e,
                      build_le key C w (insert key r (side key false w ls))
                          (omega (arith, length_insert key r (side key false w ls))),
                    )
                    (omega (
                      arith,
                      filled_pos (insert key r (side key false w ls)) (omega (arith, length_insert key r (side key false w ls))),
                      filled_pos (side key true w ls) (omega (arith, length_sides key w ls)),
                    ))
              ]
        ]

    pub rounds_at_room : (w k : ℕ) (t : Trie (List R)) → length (leaf_at t (bits w k)) < C → rounds_at key C w k t ≡ 0
    unfolding rounds_at
    rounds_at_room w k t h = rw (lt-ltb (length (leaf_at t (bits w k))) C h, rounds_at)

    pub rounds_at_full : (w k : ℕ) (t : Trie (List R)) → C ≤ length (leaf_at t (bits w k))
        → rounds_at key C w k t ≡ rounds key (w - depth t (bits w k)) k (leaf_at t (bits w k))
    unfolding rounds_at
    rounds_at_full w k t h = rw (le-ltb (length (leaf_at t (bits w k))) C h, rounds_at)

    -- with room at the key the put is the insertion
    pub put_target : (w : ℕ) (r : R) (t : Trie (List R)) → length (leaf_at t (bits w (key r))) < C → target key C w r t ≡ put key w r t
    put_target w r t h =
        ap (graft t (bits w (key r)))
        (build_le key C (w - depth t (bits w (key r))) (insert key r (leaf_at t (bits w (key r))))
        (omega (arith, length_insert key r (leaf_at t (bits w (key r))))))

    -- a full leaf, halved on its next bit
    halves : ℕ → List R → Trie (List R)
    halves w ls = pair (side key false w ls) (side key true w ls)

    leaf_halves : (w k : ℕ) (ls : List R) → leaf_at (halves w ls) (bits (suc w) k) ≡ side key (bit w k) w ls
    unfolding halves
    leaf_halves w k ls =
        elim (bool_cases (bit w k)) [
          | inl e ↦ rw e
          | inr e ↦ rw e
        ]

    leaf_target : (w : ℕ) (r : R) (ls : List R) → Sorted key ls → length ls ≡ C
        → build key C (suc w) (insert key r ls) ≡ graft (halves w ls) (bits (suc w) (key r))
        (build key C w (insert key r (side key (bit w (key r)) w ls)))
    unfolding halves
    leaf_target w r ls s f =
        elim (bool_cases (bit w (key r))) [
          | inl e ↦ rw (full_high w r ls s f e, e)
          | inr e ↦ rw (full_low w r ls s f e, e)
        ]

    -- what a round does at the key, on any trie with a bit left there
    module _ (w k : ℕ) (t : Trie (List R)) (left : depth t (bits w k) < w) where
      abbrev here : ℕ
      here = w - suc (depth t (bits w k))

      one_more : w - depth t (bits w k) ≡ suc here
      one_more = omega arith

      rest_is : rest t (bits w k) ≡ bits (suc here) k
      rest_is = rest_bits t w k (omega arith) ∙ ap (λ (n : ℕ). bits n k) one_more

      pub depth_halve : depth (halve key w k t) (bits w k) ≡ suc (depth t (bits w k))
      unfolding halves
      depth_halve =
          depth_graft t (bits w k) (halves here (leaf_at t (bits w k)))
          ∙ omega (
            arith,
            depth_pair (side key false here (leaf_at t (bits w k))) (side key true here (leaf_at t (bits w k)))
                (rest t (bits w k)),
          )

      pub leaf_halve : leaf_at (halve key w k t) (bits w k) ≡ side key (bit here k) here (leaf_at t (bits w k))
      unfolding halves
      leaf_halve =
          leaf_at_graft t (bits w k) (halves here (leaf_at t (bits w k))) ∙ ap (leaf_at (halves here (leaf_at t (bits w k)))) rest_is
          ∙ leaf_halves here k (leaf_at t (bits w k))

    -- a round leaves what the insertion is to come to as it was
    pub round_target : (w : ℕ) (r : R) (t : Trie (List R)) → depth t (bits w (key r)) < w → Sorted key (leaf_at t (bits w (key r)))
        → length (leaf_at t (bits w (key r))) ≡ C → target key C w r (halve key w (key r) t) ≡ target key C w r t
    unfolding halves
    round_target w r t l s f =
        let ls = leaf_at t (bits w (key r)) in
        let b : ℕ = here w (key r) t l in
        rw (depth_halve w (key r) t l, leaf_halve w (key r) t l)
        (graft_graft t (bits w (key r)) (halves b ls) (build key C b (insert key r (side key (bit b (key r)) b ls)))
        ∙ ap (graft t (bits w (key r)))
        (ap (λ (k : Key). graft (halves b ls) k (build key C b (insert key r (side key (bit b (key r)) b ls)))) (rest_is w (key r) t l)
        ∙ sym (leaf_target b r ls s f)
        ∙ ap (λ (n : ℕ). build key C n (insert key r ls)) (sym (one_more w (key r) t l))))

    -- and one round fewer is left
    pub round_falls : (w k : ℕ) (t : Trie (List R)) → depth t (bits w k) < w → length (leaf_at t (bits w k)) ≡ C
        → suc (rounds_at key C w k (halve key w k t)) ≡ rounds_at key C w k t
    round_falls w k t l f =
        let ls = leaf_at t (bits w k) in
        let b : ℕ = here w k t l in
        rw (rounds_at_full w k t (omega arith), one_more w k t l)
        (elim (bool_cases (agree b k ls)) [
          | inl a ↦
              let e : leaf_at (halve key w k t) (bits w k) ≡ ls = leaf_halve w k t l ∙ side_on b k ls a in
              rw (rounds_at_full w k (halve key w k t) (omega (arith, ap length e)), depth_halve w k t l, e, rounds_on b k ls a)
          | inr a ↦
              rw (
                rounds_at_room w k (halve key w k t) (omega (arith, ap length (leaf_halve w k t l), side_end b k ls a)),
                rounds_end b k ls a,
              )
        ])

    -- the leaf at the key, built anew
    abbrev Anew : ℕ → R → List R → Trie (List R)
    Anew w r ls = build key C w (insert key r ls)

    anew_pages : 1 ≤ C → (w : ℕ) (r : R) (ls : List R) → Sorted key ls → length ls ≤ C → Lacks key (key r) ls
        → Prefix key w (key r / 2 ^ w) ls
        → pages (Anew w r ls) ≡ filled ls + pages_at C ls
    unfolding pages_at
    anew_pages c w r [] s l m p =
        rw (build_le key C w (insert key r []) (omega (arith, length_insert key r [])))
        (omega (arith, filled_pos (insert key r []) (omega (arith, length_insert key r []))))
    anew_pages c w r (x ∷ xs) s l m p =
        elim (dec_lt (length (x ∷ xs)) C) [
          | yes h ↦
              rw (
                build_le key C w (insert key r (x ∷ xs)) (omega (arith, length_insert key r (x ∷ xs))),
                pages_at_room C (x ∷ xs) (omega arith) h,
              )
              (omega (arith, filled_pos (insert key r (x ∷ xs)) (omega (arith, length_insert key r (x ∷ xs)))))
          | no h ↦ rw (overflow_pages c w r (x ∷ xs) s (omega arith) m p, pages_at_full C (x ∷ xs) (omega arith)) (omega arith)
        ]

    -- the whole insertion, into the tree of an ascending list
    module _ (W : ℕ) (r : R) (S : List R) (c : 1 ≤ C) (s : Sorted key S) (p : Prefix key W (key r / 2 ^ W) S) where
      abbrev t : Trie (List R)
      t = build key C W S

      abbrev k : Key
      k = bits W (key r)

      deep : depth t k ≤ W
      deep = omega (arith, depth_le_height t k, height_build key C W S)

      small : length (leaf_at t k) ≤ C
      small = leaf_small key C c W (key r) S s p

      pub insert_form : shape (build key C W (insert key r S)) ≡ splits (rounds_at key C W (key r) t) (shape t) k
      insert_form =
          ap shape (build_insert key C W r S s)
          ∙ shape_graft t k (Anew (W - depth t k) r (leaf_at t k))
          ∙ elim (dec_lt (length (leaf_at t k)) C) [
            | yes h ↦
                rw (
                  rounds_at_room W (key r) t h,
                  build_le key C (W - depth t k) (insert key r (leaf_at t k))
                      (omega (arith, length_insert key r (leaf_at t k))),
                )
                (graft_leaf_at (shape t) k)
            | no h ↦
                rw (
                  rounds_at_full W (key r) t (omega arith),
                  overflow (W - depth t k) r (leaf_at t k) (leaf_sorted key C W (key r) S s)
                      (omega (arith, small)),
                )
                (ap (λ (j : Key). graft (shape t) k (splits (rounds key (W - depth t k) (key r) (leaf_at t k)) tip j))
                (sym (rest_shape t k ∙ rest_bits t W (key r) deep))
                ∙ sym (splits_at (rounds key (W - depth t k) (key r) (leaf_at t k)) (shape t) k))
          ]

      pub insert_pages : Lacks key (key r) S → pages (build key C W (insert key r S)) ≡ pages t + pages_at C (leaf_at t k)
      insert_pages m =
          rw (build_insert key C W r S s)
          (omega (
            arith,
            pages_graft t k (Anew (W - depth t k) r (leaf_at t k)),
            anew_pages c (W - depth t k) r (leaf_at t k) (leaf_sorted key C W (key r) S s) small
                (leaf_all key C (λ x. key x ≡ key r → ⊥) W (key r) S m) (leaf_prefix key C W (key r) S p),
          ))
