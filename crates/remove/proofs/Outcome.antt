-- The store after a removal: its directory.
use mathlib.Core.Path.{◌≡◌, refl, sym, ap, ap₂, ◌∙◌, subst}
use mathlib.Core.Bool.{Bool, true, false}
use mathlib.Core.List.{List, [], ◌∷◌, ◌++◌, map}
use mathlib.Core.Logic.{inl, inr}
use Prim.Native.Nat.{ℕ, zero, suc, ◌+◌, ◌^◌, ◌≤◌, ◌<◌}
use native.Mathlib.Decide.{dec_le, ℕ_discrete}
use native.Mathlib.Omega.{arith}
use lib.Dec.{ltb}
use lib.ListN.{length, length-map, take, drop}
use borrow.Author.Tests.{ltb-false}
use Rattle.lists.specs.Bits.{bits}
use Rattle.lists.specs.Lists.{All}
use Rattle.lists.proofs.Cases.{bool_cases}
use Rattle.tree.specs.Trie.{Trie, leaf, fork, Shape, Key, shape, labels, depth}
use Rattle.tree.specs.Tower.{tower}
use Rattle.store.specs.declared.Format.{Format}
use Rattle.store.specs.declared.Head.{Head}
use Rattle.store.specs.Format.{width}
use Rattle.store.specs.Head.{head_of, node_at}
use Rattle.store.proofs.HeadLaws.{sizes_limits}
use Rattle.node.specs.Node.{back_word, forward_word}
use Rattle.represent.specs.Labelled.{ind, occ, occs, Linked, first, count}
use Rattle.represent.specs.Image.{node_image, NodeIs}
use Rattle.represent.specs.Rep.{Stretch, numbers, Nodes, Unlinked, back_of, forward_of, Directory, Rep}
use Rattle.represent.proofs.LabelLaws.{one_numbered, ind_self, ind_eq, ind_other}
use Rattle.represent.proofs.Chain.{count_labels, first_in, count_append}
use Rattle.split.specs.Block.{linked}
use Rattle.split.specs.Frame.{node_of}
use Rattle.split.proofs.Lengths.{length_node_image}
use Rattle.split.proofs.BlockLaws.{node_ops_are}
use Rattle.joins.specs.Joins.{sub, trimmed}
use Rattle.joins.proofs.NodeJoins.{cuts, tower_cuts}
use Rattle.remove.specs.Remove.{Spot, kept_upper, backwards, gone_roots, top_of, first_spot, Plan}
use Rattle.represent.proofs.Links.{level_1}
use Rattle.represent.proofs.Passes.{taken}
use Rattle.represent.proofs.Counting.{released_node_lem}
use Rattle.store.specs.Released.{released_nodes}
use Rattle.remove.proofs.JoinLaws.{height_collapsed}
use Rattle.remove.proofs.Collapses.{final, Cut, cut_at, joined_linked, linked_drop, Stays, Behind}
use Rattle.remove.proofs.LinkRow.{joint_forward, final_in}
use Rattle.remove.proofs.LevelPhase.{image_back, image_forward}
use Rattle.remove.proofs.LevelsPhase.{new_levels, Spotted, Standing}
use Rattle.remove.proofs.Parts.{collapsed, occ_sub, sub_own, shape_collapsed}
use Rattle.remove.specs.Frame.{numbers_of}
use Rattle.remove.proofs.Trims.{last_number, top_is, count_backwards, collapsed_flat, upper_levels, Trimmed, trims, top_flat}
use Rattle.remove.proofs.NewNodes.{is_image, inside, inside_le, new_cuts, inside_is, level_over, upper_nodes}
use Rattle.remove.specs.Frame.{Framed}
use Rattle.remove.specs.Doable.{In, Writable, Doable}
use Rattle.remove.specs.Frame.{behind, NodeWritten, PageWritten, HeadWritten}
use Rattle.remove.proofs.Writes.{t₆, written_framed, spots_written, behind_written}

ind_collapsed : (n d q : ℕ) (t : Trie ℕ) (k : Key) → ind n q ≤ occ n (collapsed d q t k)
ind_collapsed n zero q t k = omega arith
ind_collapsed n (suc d) q (leaf x) k = omega arith
ind_collapsed n (suc d) q (fork l r) [] = omega (arith, ind_collapsed n d q l [])
ind_collapsed n (suc d) q (fork l r) (false ∷ k) = omega (arith, ind_collapsed n d q l k)
ind_collapsed n (suc d) q (fork l r) (true ∷ k) = omega (arith, ind_collapsed n d q r k)

drop_count : (n m : ℕ) (xs : List Spot) → count n (numbers_of (drop m xs)) ≤ count n (numbers_of xs)
drop_count n zero xs = omega arith
drop_count n (suc m) [] = omega arith
drop_count n (suc m) (x ∷ xs) = omega (arith, drop_count n m xs)

take_count : (n m : ℕ) (xs : List Spot) → count n (numbers_of (take m xs)) ≤ count n (numbers_of xs)
take_count n zero xs = omega arith
take_count n (suc m) [] = omega arith
take_count n (suc m) (x ∷ xs) = omega (arith, take_count n m xs)

all_take : {A : Type 0} (P : A → Type 0) (m : ℕ) (xs : List A) → All P xs → All P (take m xs)
all_take P zero xs a = tt
all_take P (suc m) [] a = tt
all_take P (suc m) (x ∷ xs) a = (a.0, all_take P m xs a.1)

pub in_of : (m : ℕ) (xs : List ℕ) → ((n : ℕ) → 1 ≤ count n xs → (1 ≤ n) × (n ≤ m)) → In m xs
in_of m [] g = tt
in_of m (x ∷ xs) g = (g x (omega (arith, ind_self x)), in_of m xs (λ n o. g n (omega arith)))

all_of : (P : ℕ → Type 0) (xs : List ℕ) → ((n : ℕ) → 1 ≤ count n xs → P n) → All P xs
all_of P [] g = tt
all_of P (x ∷ xs) g = (g x (omega (arith, ind_self x)), all_of P xs (λ n o. g n (omega arith)))

-- what holds of the number of each of some nodes
pick : (P : Spot → Type 0) (Q : ℕ → Type 0) (zs : List Spot) (n : ℕ) → ((z : Spot) → P z → Q z.number) → All P zs
    → 1 ≤ count n (numbers_of zs) → Q n
pick P Q [] n g a o = absurd (omega (arith, o))
pick P Q (z ∷ zs) n g a o =
    elim (ℕ_discrete n z.number) [
      | yes e ↦ subst Q (sym e) (g z a.0)
      | no e ↦ pick P Q zs n g a.1 (omega (arith, o, ind_other n z.number e))
    ]

all_both : {A : Type 0} (P Q : A → Type 0) (xs : List A) → All P xs → All Q xs → All (λ x. P x × Q x) xs
all_both P Q [] a b = tt
all_both P Q (x ∷ xs) a b = ((a.0, b.0), all_both P Q xs a.1 b.1)

tails : List ℕ → List ℕ
tails [] = []
tails (x ∷ xs) = xs

pub first_spot_lem : (x : Spot) (xs : List Spot) → first_spot (x ∷ xs) ≡ x
unfolding first_spot
first_spot_lem x xs = refl

linked_shows : (θ level p q : ℕ) (ws : List ℕ) (v : Trie ℕ) → 1 ≤ θ → NodeIs θ ws level v → linked ws p q ≡ node_image θ level p q v
linked_shows θ level p q ws v low is =
    ap (λ ys. linked ys p q) is.image ∙ (node_ops_are θ low).linked_is level (back_word ws 0) (forward_word ws 0) p q v is.low

-- all but the pages, and the level-1 node apart: b is the first level, x its node in hand
module _ (f : Format) (s : List ℕ) (b0 : Trie Stretch) (b : Trie ℕ) (cs : List (Trie ℕ)) (r : Rep f s b0 (b ∷ cs)) (k : ℕ)
    (low : k < 2 ^ width f) (m q : ℕ) (x : Spot) (xs : List Spot) (released : List ℕ) where
  abbrev h : Head
  h = head_of s

  abbrev key : Key
  key = bits (width f) k

  abbrev θ : ℕ
  θ = h.theta

  abbrev node : ℕ → List ℕ
  node = node_at s h

  abbrev ns : List ℕ
  ns = released_nodes s

  abbrev u : Trie ℕ
  u = numbers b0

  abbrev w : Trie ℕ
  w = collapsed m q u key

  abbrev all : List (Trie ℕ)
  all = b ∷ cs

  abbrev b' : Trie ℕ
  b' = collapsed x.used x.number b key

  abbrev upper : List (Trie ℕ)
  upper = upper_levels f s b0 all r k low cs xs

  abbrev gone : List ℕ
  gone = released ++ gone_roots (x ∷ xs)

  module _ (st : Standing f s b0 all r k low 0 u w all (x ∷ xs))
      (parts : (n : ℕ) → occs n all ≡ occs n (new_levels key all (x ∷ xs)) + count n released) where
    pub trim : Trimmed f s b0 all r k low b' cs xs
    trim =
        trims f s b0 all r k low 1 b b' cs xs st.1 r.directory.nodes.1
        (λ e. omega (arith, height_collapsed x.used x.number b key, top_flat f s b0 all r k low 1 b cs r.directory.nodes.1 e))

    gone_count : (n : ℕ) → count n gone ≡ count n released + count n (numbers_of (drop (length (kept_upper xs)) xs))
    gone_count n =
        count_append n released (gone_roots (x ∷ xs))
        ∙ ap (λ i. count n released + i) (count_backwards n [] (numbers_of (drop (length (kept_upper xs)) xs)) ∙ omega arith)

    -- what was there is kept or released
    pub total : (n : ℕ) → occs n all ≡ occs n (b' ∷ upper) + count n gone
    total n = omega (arith, parts n, trim.parts n, gone_count n)

    θ_low : 1 ≤ θ
    θ_low = (sizes_limits _ _ _ _ r.sized.sizes).theta_low

    once : (n : ℕ) → occs n all + count n ns ≤ 1
    once n =
        let d = r.directory in
        (one_numbered h.nodes_taken ns all d.one_for_one d.positive d.spare_positive).once n

    in_use : (n : ℕ) → 1 ≤ occs n all → (1 ≤ n) × (n ≤ h.node_blocks)
    in_use n o = let i = taken f s b0 all r n o in (i.0, omega (arith, i.1, r.nodes_fit))

    -- nodes beside the prefixes are neither in hand nor released
    outside : (n : ℕ) → inside key all (x ∷ xs) n < occs n all → (count n (numbers_of (x ∷ xs)) ≡ 0) × (count n gone ≡ 0)
    outside n o =
        let i = inside_is f s b0 all r k low 0 u w all (x ∷ xs) st n in
        let z : count n (numbers_of (x ∷ xs)) ≡ 0 = omega (arith, o, i, parts n, once n) in
        (z, omega (arith, z, o, i, parts n, once n, gone_count n, drop_count n (length (kept_upper xs)) xs))

    numbers_in : (l : ℕ) (u w : Trie ℕ) (ds : List (Trie ℕ)) (ys : List Spot) → Standing f s b0 all r k low l u w ds ys
        → (n i : ℕ) → count n (numbers_of (take i ys)) ≤ occs n (take i (new_levels key ds ys))
    numbers_in l u w [] [] st n zero = omega arith
    numbers_in l u w [] [] st n (suc i) = omega arith
    numbers_in l u w [] (y ∷ ys) st n i = absurd st
    numbers_in l u w (c ∷ ds) [] st n i = absurd st
    numbers_in l u w (c ∷ ds) (y ∷ ys) st n zero = omega arith
    numbers_in l u w (c ∷ ds) (y ∷ ys) st n (suc i) =
        omega (
          arith,
          ind_collapsed n y.used y.number c key,
          numbers_in (suc l) c (collapsed y.used y.number c key) ds ys st.1 n i,
        )

    kept_in : (n : ℕ) → count n (numbers_of (x ∷ kept_upper xs)) ≤ occs n (b' ∷ upper)
    kept_in n =
        omega (
          arith,
          ind_collapsed n x.used x.number b key,
          ap (λ (ys : List Spot). count n (numbers_of ys)) trim.front,
          numbers_in 1 b b' cs xs st.1 n (length (kept_upper xs)),
        )

    -- a number in hand is a label of its level
    row_in : (l : ℕ) (u w c : Trie ℕ) (y : Spot) (v : Spotted f s b0 all r k low l u w c y) (n : ℕ) → 1 ≤ count n (y.number ∷ v.others)
        → 1 ≤ occ n (sub y.used c key)
    row_in l u w c y v n o = omega (arith, o, ap (count n) v.row, count_labels n (sub y.used c key))

    number_in_lem : (l : ℕ) (u w c : Trie ℕ) (y : Spot) → Spotted f s b0 all r k low l u w c y → (1 ≤ occ y.number c) × (1 ≤ occ y.last c)
    number_in_lem l u w c y v = (
      omega (arith, row_in l u w c y v y.number (omega (arith, ind_self y.number)), occ_sub y.number y.used c key),
      subst (λ n. 1 ≤ occ n c) (sym v.last_is)
          (omega (
            arith,
            row_in l u w c y v (final y.number v.others) (final_in y.number v.others),
            occ_sub (final y.number v.others) y.used c key,
          )),
    )

    writable : (l : ℕ) (u w : Trie ℕ) (ds : List (Trie ℕ)) (ys : List Spot) → Standing f s b0 all r k low l u w ds ys
        → ((n : ℕ) → occs n ds ≤ occs n all)
        → Writable s ys
    writable l u w [] [] st part = tt
    writable l u w [] (y ∷ ys) st part = absurd st
    writable l u w (c ∷ ds) [] st part = absurd st
    writable l u w (c ∷ ds) (y ∷ ys) st part =
        let o = (number_in_lem l u w c y st.0).0 in
        let i = in_use y.number (omega (arith, o, part y.number)) in (
          (i.0, i.1, ap length st.0.image ∙ length_node_image θ (suc l) _ _ (sub y.used w key) st.0.low_is),
          writable (suc l) c (collapsed y.used y.number c key) ds ys st.1 (λ n. omega (arith, part n)),
        )

    pub spots_writable : Writable s (x ∷ kept_upper xs)
    spots_writable =
        let a = writable 0 u w all (x ∷ xs) st (λ n. omega arith) in
        (a.0, subst (Writable s) (sym trim.front) (all_take _ (length (kept_upper xs)) xs a.1))

    -- the first level's numbers, left to right
    abbrev v : Spotted f s b0 all r k low 0 u w b x
    v = st.0

    abbrev around : Cut x.used x.number b key
    around = cut_at x.used x.number b key v.within

    whole : labels b ≡ around.left ++ ((x.number ∷ v.others) ++ around.right)
    whole = around.whole ∙ ap (λ (ys : List ℕ). around.left ++ (ys ++ around.right)) v.row

    was_linked : Linked (back_of node) (forward_of node) 0 (around.left ++ ((x.number ∷ v.others) ++ around.right))
    was_linked = subst (Linked (back_of node) (forward_of node) 0) whole r.directory.links.0

    counted : (n : ℕ) → count n around.left + (occ n (sub x.used b key) + count n around.right) ≡ occ n b
    counted n =
        omega (
          arith,
          count_labels n b,
          ap (count n) whole,
          count_append n around.left ((x.number ∷ v.others) ++ around.right),
          count_append n (x.number ∷ v.others) around.right,
          ap (count n) v.row,
          count_labels n (sub x.used b key),
        )

    beside_left : (n : ℕ) → 1 ≤ count n around.left → inside key all (x ∷ xs) n < occs n all
    beside_left n o = omega (arith, o, counted n, inside_le key cs xs n)

    beside_right : (n : ℕ) → 1 ≤ count n around.right → inside key all (x ∷ xs) n < occs n all
    beside_right n o = omega (arith, o, counted n, inside_le key cs xs n)

    -- the node behind
    pub forward_is : forward_word x.block 0 ≡ first around.right
    forward_is =
        ap (λ ws. forward_word ws 0) v.image ∙ image_forward θ 1 _ _ (sub x.used w key) ∙ ap (forward_of node) v.last_is
        ∙ joint_forward (back_of node) (forward_of node) (final 0 around.left) x.number v.others around.right
        (linked_drop (back_of node) (forward_of node) 0 around.left ((x.number ∷ v.others) ++ around.right) was_linked)

    pub forward_fits : forward_word x.block 0 ≤ h.nodes_taken
    forward_fits =
        elim (ℕ_discrete (first around.right) 0) [
          | yes e ↦ omega (arith, forward_is, e)
          | no e ↦
              let o = first_in around.right e in
              omega (arith, forward_is, (taken f s b0 all r (first around.right) (omega (arith, counted (first around.right), o))).1)
        ]

    -- in the store t, in which the plan p is written
    module _ (p : Plan) (spots_are : p.spots ≡ x ∷ kept_upper xs) (nodes_are : p.nodes ≡ gone)
        (linked_is : p.linked ≡ ltb x.used (depth b key))
        (D : Doable f s p) where
      abbrev t : List ℕ
      t = t₆ f s p

      abbrev node' : ℕ → List ℕ
      node' = node_of t

      abbrev y : ℕ
      y = behind p

      y_is : y ≡ first around.right
      y_is = ap (λ (zs : List Spot). forward_word (first_spot zs).block 0) spots_are
          ∙ ap (λ (z : Spot). forward_word z.block 0) (first_spot_lem x (kept_upper xs)) ∙ forward_is

      own_is : (first_spot p.spots).number ≡ x.number
      own_is = ap (λ (zs : List Spot). (first_spot zs).number) spots_are ∙ ap (λ (z : Spot). z.number) (first_spot_lem x (kept_upper xs))

      framed : Framed f s t (NodeWritten p) (PageWritten p) HeadWritten
      framed = written_framed f s p D

      kept_count : (n : ℕ) → count n (numbers_of p.spots) ≡ count n (numbers_of (x ∷ kept_upper xs))
      kept_count n = ap (λ (zs : List Spot). count n (numbers_of zs)) spots_are

      gone_is : (n : ℕ) → count n p.nodes ≡ count n gone
      gone_is n = ap (count n) nodes_are

      kept_le : (n : ℕ) → count n (numbers_of (x ∷ kept_upper xs)) ≤ count n (numbers_of (x ∷ xs))
      kept_le n =
          omega (arith, ap (λ (ys : List Spot). count n (numbers_of ys)) trim.front, take_count n (length (kept_upper xs)) xs)

      pub untouched : (n : ℕ) → 1 ≤ n → n ≤ h.node_blocks → count n (numbers_of p.spots) ≡ 0 → count n p.nodes ≡ 0
          → ((p.linked ≡ true) × (n ≡ y) → ⊥) → node' n ≡ node n
      untouched n a c d e g =
          framed.node n a c (λ z. elim z [ inl i ↦ omega (arith, i, d) | inr i ↦ elim i [ inl j ↦ g j | inr j ↦ omega (arith, j, e) ] ])

      -- beside the prefixes, and not behind
      same_outside : (n : ℕ) → inside key all (x ∷ xs) n < occs n all → (((p.linked ≡ true) × (n ≡ y)) → ⊥) → node' n ≡ node n
      same_outside n o g =
          let a = outside n o in
          let i = in_use n (omega (arith, o)) in
          untouched n i.0 i.1 (omega (arith, kept_count n, kept_le n, a.0)) (gone_is n ∙ a.1) g

      -- the node behind, where there is one
      behind_is : p.linked ≡ true → (y ≡ 0 → ⊥) → node' y ≡ linked (node y) x.number (forward_word (node y) 0)
      behind_is e z =
          let o = first_in around.right (λ j. z (y_is ∙ j)) in
          let o' : 1 ≤ count y around.right = subst (λ n. 1 ≤ count n around.right) (sym y_is) o in
          let a = outside y (beside_right y o') in
          behind_written f s p D e (omega (arith, z)) (omega (arith, kept_count y, kept_le y, a.0)) (gone_is y ∙ a.1)
          ∙ ap (λ i. linked (node y) i (forward_word (node y) 0)) own_is

      carry : (n level : ℕ) (v : Trie ℕ) → inside key all (x ∷ xs) n < occs n all → NodeIs θ (node n) level v → NodeIs θ (node' n) level v
      carry n level v o is =
          elim (bool_cases p.linked) [
            | inr e ↦ subst (λ ws. NodeIs θ ws level v) (sym (same_outside n o (λ z. absurd (falsely (sym e ∙ z.0))))) is
            | inl e ↦
                elim (ℕ_discrete n y) [
                  | no ne ↦ subst (λ ws. NodeIs θ ws level v) (sym (same_outside n o (λ z. ne z.1))) is
                  | yes eq ↦
                      let pos : y ≡ 0 → ⊥ = λ z. omega (arith, (in_use n (omega (arith, o))).0, eq, z) in
                      subst (λ i. NodeIs θ (node i) level v → NodeIs θ (node' i) level v) (sym eq)
                      (λ is'. is_image θ level x.number (forward_word (node y) 0) (node' y) v is'.low
                      (behind_is e pos ∙ linked_shows θ level x.number (forward_word (node y) 0) (node y) v θ_low is')) is
                ]
          ]
        where
          falsely : false ≡ true → ⊥
          falsely z = mathlib.Core.Bool.false≢true z

      pub written : All (λ z. node' z.number ≡ z.block) (x ∷ kept_upper xs)
      written =
          subst (All (λ z. node' z.number ≡ z.block)) spots_are
          (spots_written f s p D (λ n. omega (arith, kept_count n, kept_in n, total n, once n))
          (λ n o.
          let o' : 1 ≤ occs n (b' ∷ upper) = omega (arith, o, kept_count n, kept_in n) in (
            (λ z. not_behind n (omega (arith, o, kept_count n)) z.1),
            omega (arith, gone_is n, o', total n, once n),
          )))
        where
          not_behind : (n : ℕ) → 1 ≤ count n (numbers_of (x ∷ kept_upper xs)) → n ≡ y → ⊥
          not_behind n o e =
              elim (ℕ_discrete (first around.right) 0) [
                | yes z ↦
                    let i = in_use n (omega (arith, o, kept_in n, total n)) in
                    omega (arith, i.0, e, y_is, z)
                | no z ↦
                    let c : 1 ≤ count n around.right =
                    subst (λ i. 1 ≤ count i around.right) (sym (e ∙ y_is)) (first_in around.right z) in
                    omega (arith, o, kept_le n, (outside n (beside_right n c)).0)
              ]

      pub new_nodes : Nodes θ node' (top_of p.spots) (length p.spots) 0 w (b' ∷ upper)
      new_nodes =
          subst (λ (zs : List Spot). Nodes θ node' (top_of zs) (length zs) 0 w (b' ∷ upper)) (sym spots_are)
          (subst (λ n. Nodes θ node' n (suc (length (kept_upper xs))) 0 w (b' ∷ upper)) (sym (top_is x (kept_upper xs))) (
            level_over f s b0 all r k low node' 0 u w b x v r.directory.nodes.0 written.0
                (λ n t o. carry n 1 t (omega (arith, o, inside_le key cs xs n))),
            subst (λ n. Nodes θ node' (last_number x.number (kept_upper xs)) n 1 b' upper)
                (let z : 1 + length (kept_upper xs) ≡ suc (length (kept_upper xs)) = omega arith in z)
                (upper_nodes f s b0 all r k low node' 1 b b' cs xs st.1 r.directory.nodes.1 trim x.number
                (collapsed_flat x.used x.number b key)
                written.1 (λ n level t o. carry n level t (omega (arith, o, occ_sub n x.used b key)))),
          ))

      pub new_shapes : map shape (b' ∷ upper) ≡ tower θ (shape w)
      new_shapes =
          ap (λ (ds : List Shape). shape b' ∷ ds) trim.shapes
          ∙ ap trimmed (new_cuts f s b0 all r k low 0 u w all (x ∷ xs) st)
          ∙ ap₂ (λ (n : ℕ) (c : Shape). trimmed (cuts n θ c)) (sym (length-map all shape) ∙ ap length r.directory.levels_are)
          (shape_collapsed m q u key)
          ∙ sym (tower_cuts θ m (shape u) key (sizes_limits _ _ _ _ r.sized.sizes).theta_low)
          ∙ ap (tower θ) (sym (shape_collapsed m q u key))

      -- links
      in_right : (n : ℕ) → 1 ≤ count n around.right → (1 ≤ n) × (n ≤ h.node_blocks)
      in_right n o = in_use n (omega (arith, o, counted n))

      stays_of : (n : ℕ) → node' n ≡ node n → Stays (back_of node) (forward_of node) (back_of node') (forward_of node') n
      stays_of n e = (ap (λ ws. back_word ws 0) e, ap (λ ws. forward_word ws 0) e)

      stays_left : All (Stays (back_of node) (forward_of node) (back_of node') (forward_of node')) around.left
      stays_left =
          all_of _ around.left
          (λ n o. stays_of n (same_outside n (beside_left n o) (λ z. off n o z.1)))
        where
          off : (n : ℕ) → 1 ≤ count n around.left → n ≡ y → ⊥
          off n o e =
              elim (ℕ_discrete (first around.right) 0) [
                | yes z ↦ omega (arith, (in_use n (omega (arith, o, counted n))).0, e, y_is, z)
                | no z ↦
                    let c : 1 ≤ count n around.right =
                    subst (λ i. 1 ≤ count i around.right) (sym (e ∙ y_is)) (first_in around.right z) in
                    omega (arith, o, c, counted n, once n)
              ]

      own_back : back_of node' x.number ≡ back_of node x.number
      own_back = ap (λ ws. back_word ws 0) (written.0 ∙ v.image) ∙ image_back θ 1 _ _ (sub x.used w key)

      own_forward : forward_of node' x.number ≡ first around.right
      own_forward = ap (λ ws. forward_word ws 0) written.0 ∙ forward_is

      -- where the first level did not join, nothing stood between
      no_others : p.linked ≡ false → v.others ≡ []
      unfolding tails
      no_others e =
          let d : x.used ≡ depth b key = omega (arith, v.within, ltb-false x.used (depth b key) (sym linked_is ∙ e)) in
          ap tails (sym v.row ∙ ap (λ (i : ℕ). labels (sub i b key)) d ∙ ap labels (sub_own b key))

      behind_right : (ys : List ℕ) → around.right ≡ ys
          → Behind (back_of node) (forward_of node) (back_of node') (forward_of node') x.number ys
      behind_right [] e = tt
      behind_right (z ∷ ys) e =
          let ct : (n : ℕ) → count n around.right ≡ ind n z + count n ys = λ n. ap (count n) e in
          let z_in : 1 ≤ count z around.right = omega (arith, ct z, ind_self z) in
          let y_z : y ≡ z = y_is ∙ ap first e in
          let pos : y ≡ 0 → ⊥ = λ q. omega (arith, (in_right z z_in).0, y_z, q) in
          let rest : All (Stays (back_of node) (forward_of node) (back_of node') (forward_of node')) ys =
          all_of _ ys
          (λ n o.
          stays_of n (same_outside n (beside_right n (omega (arith, o, ct n)))
          (λ q. omega (arith, o, ct n, ind_eq n z (q.1 ∙ y_z), counted n, once n)))) in
          elim (bool_cases p.linked) [
            | inl on ↦
                let l = level_1 f s b0 b cs r y (omega (arith, counted y, subst (λ n. 1 ≤ count n around.right) (sym y_z) z_in)) in
                let is : node' y ≡ node_image θ 1 x.number (forward_word (node y) 0) l.0 =
                behind_is on pos ∙ linked_shows θ 1 x.number (forward_word (node y) 0) (node y) l.0 θ_low l.1 in
                subst (λ n. (back_of node' n ≡ x.number) × (forward_of node' n ≡ forward_of node n) × All
                (Stays (back_of node) (forward_of node) (back_of node') (forward_of node')) ys) y_z (
                  ap (λ ws. back_word ws 0) is ∙ image_back θ 1 _ _ l.0,
                  ap (λ ws. forward_word ws 0) is ∙ image_forward θ 1 _ _ l.0,
                  rest,
                )
            | inr off ↦
                let same : node' z ≡ node z =
                same_outside z (beside_right z z_in) (λ q. absurd (mathlib.Core.Bool.false≢true (sym off ∙ q.0))) in
                let behind_linked : Linked (back_of node) (forward_of node) (final x.number v.others) around.right =
                linked_drop (back_of node) (forward_of node) (final 0 around.left) (x.number ∷ v.others) around.right
                (linked_drop (back_of node) (forward_of node) 0 around.left ((x.number ∷ v.others) ++ around.right) was_linked) in
                let z_back : back_of node z ≡ final x.number v.others =
                (subst (Linked (back_of node) (forward_of node) (final x.number v.others)) e behind_linked).0 in (
                  ap (λ ws. back_word ws 0) same ∙ z_back ∙ ap (final x.number) (no_others off),
                  ap (λ ws. forward_word ws 0) same,
                  rest,
                )
          ]

      first_links : Linked (back_of node') (forward_of node') 0 (labels b')
      first_links =
          subst (Linked (back_of node') (forward_of node') 0) (sym around.joined)
          (joined_linked (back_of node) (forward_of node) (back_of node') (forward_of node') 0 x.number around.left v.others
          around.right was_linked
          stays_left own_back own_forward (behind_right around.right refl))

      -- above level 1
      numbers_inside : (l : ℕ) (u w : Trie ℕ) (ds : List (Trie ℕ)) (ys : List Spot) → Standing f s b0 all r k low l u w ds ys
          → (n : ℕ) → count n (numbers_of ys) ≤ inside key ds ys n
      numbers_inside l u w [] [] st n = omega arith
      numbers_inside l u w [] (z ∷ ys) st n = absurd st
      numbers_inside l u w (c ∷ ds) [] st n = absurd st
      numbers_inside l u w (c ∷ ds) (z ∷ ys) st n =
          omega (
            arith,
            ap (count n) st.0.row,
            count_labels n (sub z.used c key),
            numbers_inside (suc l) c (collapsed z.used z.number c key) ds ys st.1 n,
          )

      upper_in : (n : ℕ) → occs n upper ≤ occs n cs
      upper_in n =
          omega (arith, trim.parts n, inside_is f s b0 all r k low 1 b b' cs xs st.1 n, numbers_inside 1 b b' cs xs st.1 n)

      spots_bare : (l : ℕ) (u w : Trie ℕ) (ds : List (Trie ℕ)) (ys : List Spot) → Standing f s b0 all r k low l u w ds ys
          → ((n : ℕ) → 1 ≤ occs n ds → Unlinked node n) → All (λ z. (back_word z.block 0 ≡ 0) × (forward_word z.block 0 ≡ 0)) ys
      spots_bare l u w [] [] st g = tt
      spots_bare l u w [] (z ∷ ys) st g = absurd st
      spots_bare l u w (c ∷ ds) [] st g = absurd st
      spots_bare l u w (c ∷ ds) (z ∷ ys) st g =
          let o = number_in_lem l u w c z st.0 in (
            (
              ap (λ ws. back_word ws 0) st.0.image ∙ image_back θ (suc l) _ _ (sub z.used w key)
                  ∙ (g z.number (omega (arith, o.0))).no_back,
              ap (λ ws. forward_word ws 0) st.0.image ∙ image_forward θ (suc l) _ _ (sub z.used w key)
                  ∙ (g z.last (omega (arith, o.1))).no_forward,
            ),
            spots_bare (suc l) c (collapsed z.used z.number c key) ds ys st.1 (λ n i. g n (omega arith)),
          )

      upper_links : (n : ℕ) → 1 ≤ occs n upper → Unlinked node' n
      upper_links n o =
          elim (dec_le 1 (count n (numbers_of (kept_upper xs)))) [
            | yes a ↦
                let bare = subst (All (λ z. (back_word z.block 0 ≡ 0) × (forward_word z.block 0 ≡ 0))) (sym trim.front)
                (all_take _ (length (kept_upper xs)) xs (spots_bare 1 b b' cs xs st.1 r.directory.links.1)) in
                pick (λ z. (node' z.number ≡ z.block) × ((back_word z.block 0 ≡ 0) × (forward_word z.block 0 ≡ 0)))
                (Unlinked node') (kept_upper xs) n
                (λ z c. record {
                  no_back = ap (λ ws. back_word ws 0) c.0 ∙ c.1.0;
                  no_forward = ap (λ ws. forward_word ws 0) c.0
                      ∙ c.1.1;
                })
                (all_both _ _ (kept_upper xs) written.1 bare) a
            | no a ↦
                let c : 1 ≤ occs n cs = omega (arith, o, upper_in n) in
                let own : ind n x.number ≡ 0 = omega (arith, ind_collapsed n x.used x.number b key, o, total n, once n) in
                let i = in_use n (omega (arith, c)) in
                let e : node' n ≡ node n =
                untouched n i.0 i.1 (omega (arith, kept_count n, own)) (omega (arith, gone_is n, o, total n, once n))
                (λ z. off z.1) in
                let old = r.directory.links.1 n c in
                record { no_back = ap (λ ws. back_word ws 0) e ∙ old.no_back; no_forward = ap (λ ws. forward_word ws 0) e ∙ old.no_forward }
          ]
        where
          off : n ≡ y → ⊥
          off e =
              elim (ℕ_discrete (first around.right) 0) [
                | yes z ↦ omega (arith, (in_use n (omega (arith, o, upper_in n))).0, e, y_is, z)
                | no z ↦
                    let c : 1 ≤ count n around.right =
                    subst (λ i. 1 ≤ count i around.right) (sym (e ∙ y_is)) (first_in around.right z) in
                    omega (arith, o, c, upper_in n, counted n, once n)
              ]

      pub new_directory : Directory θ node' (top_of p.spots) (length p.spots) h.nodes_taken (λ n. count n (backwards ns gone)) w
          (b' ∷ upper)
      new_directory =
          let sum : (n : ℕ) → occs n (b' ∷ upper) + count n (backwards ns gone) ≡ occs n all + count n ns =
          λ n. omega (arith, total n, count_backwards n ns gone) in
          record {
            nodes = new_nodes;
            links = (first_links, upper_links);
            one_for_one = record {
              once = λ n a c. sum n ∙ r.directory.one_for_one.once n a c;
              none = λ n a. sum n ∙ r.directory.one_for_one.none n a;
            };
            positive = omega (arith, sum 0, r.directory.positive, r.directory.spare_positive);
            spare_positive = omega (arith, sum 0, r.directory.positive, r.directory.spare_positive);
            levels_are = new_shapes;
          }

      -- blocks that were never taken
      pub free_same : (n : ℕ) → h.nodes_taken < n → n ≤ h.node_blocks → node' n ≡ node n
      free_same n a c =
          let z : occs n all + count n ns ≡ 0 = r.directory.one_for_one.none n a in
          let i = inside_is f s b0 all r k low 0 u w all (x ∷ xs) st n in
          let e : count n (numbers_of (x ∷ xs)) ≡ 0 = omega (arith, z, i, parts n, inside_le key all (x ∷ xs) n) in
          untouched n (omega arith) c (omega (arith, kept_count n, kept_le n, e)) (omega (arith, gone_is n, total n, z))
          (λ q. omega (arith, a, q.1, y_is, forward_is, forward_fits))

      pub gone_apart : (n : ℕ) → count n gone + count n ns ≤ 1
      gone_apart n = omega (arith, total n, once n)

      pub chain_apart : (n : ℕ) → 1 ≤ count n ns → (count n (numbers_of p.spots) ≡ 0) × (((p.linked ≡ true) × (n ≡ y)) → ⊥)
      chain_apart n o = (
        omega (arith, o, kept_count n, kept_in n, total n, once n),
        λ q.
            elim (ℕ_discrete (first around.right) 0) [
              | yes z ↦ omega (arith, (released_node_lem f s b0 all r n o).0, q.1, y_is, z)
              | no z ↦
                  let c : 1 ≤ count n around.right =
                  subst (λ i. 1 ≤ count i around.right) (sym (q.1 ∙ y_is)) (first_in around.right z) in
                  omega (arith, o, c, counted n, once n)
            ],
      )
