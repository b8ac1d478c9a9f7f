-- A store just set up holds the tree of no record: one null stretch under node 1. Its words but the head's and the level of node 1 are 0.
use mathlib.Core.Path.{◌≡◌, refl, sym, ap, ◌∙◌, subst}
use mathlib.Core.Bool.{true}
use mathlib.Core.List.{List, [], ◌∷◌, ◌++◌}
use Prim.Native.Nat.{ℕ, zero, suc, ◌+◌, ◌-◌, ◌*◌, ◌^◌, ◌≤◌, ◌<◌}
use native.Mathlib.Nat.{mul-le-mul_right}
use native.Mathlib.Omega.{arith}
use lib.Pow.{pow_pos}
use lib.ListN.{length, drop, replicate, length-append, length-replicate, length-drop, get_or-append}
use lib.Seq.{length-take-le, ext_get_or}
use Rattle.lists.specs.Lists.{part, every}
use Rattle.lists.proofs.Parts.{part_in_lem, get_d_past}
use Rattle.tree.specs.Trie.{leaf}
use Rattle.tree.specs.Tower.{cut, tower}
use Rattle.tree.proofs.BuildLaws.{build_le}
use Rattle.store.specs.declared.Format.{Format}
use Rattle.store.specs.declared.Head.{Head}
use Rattle.store.specs.Format.{width}
use Rattle.store.specs.Head.{word, head_of, released_of, lawful_sizes, zeros, size, node_words, page_words, node_start, page_start, page_at, node_at}
use Rattle.store.specs.Released.{released_node, released_page, node_next, page_next, chain_of, after_all, released_nodes, released_pages}
use Rattle.node.specs.Node.{back_word, forward_word}
use Rattle.store.specs.SetUp.{set_up_words}
use Rattle.store.proofs.HeadLaws.{Limits, sizes_limits}
use Rattle.store.proofs.SetUpLaws.{size_low, done}
use Rattle.represent.specs.Labelled.{count}
use Rattle.represent.specs.Image.{node_image}
use Rattle.page.specs.Schema.{key_of}
use Rattle.represent.specs.Rep.{Directory, Chained, Pages, Holds}
use Rattle.represent.specs.Promises.{SetUpHolds}
use Rattle.represent.proofs.LabelLaws.{ind_eq, ind_other}
use Rattle.represent.proofs.ImageLaws.{get_d_zeros}
use Rattle.store.proofs.Places.{part_word, node_fits, page_end}

-- a part by its words
part_is : (s ws : List ℕ) (a n : ℕ) → length ws ≡ n → a + n ≤ length s → ((i : ℕ) → i < n → word s (a + i) ≡ word ws i) → part s a n ≡ ws
part_is s ws a n e h same =
    let l : length (part s a n) ≡ n = ap length (part_in_lem s a n h) ∙ length-take-le n (drop a s) (omega (arith, length-drop a s)) in
    ext_get_or 0 (part s a n) ws (l ∙ sym e) (λ i q. let q' : i < n = omega arith in part_word s a n i h q' ∙ same i q')

zero_part : (s : List ℕ) (a n : ℕ) → a + n ≤ length s → ((i : ℕ) → i < n → word s (a + i) ≡ 0) → part s a n ≡ replicate n 0
zero_part s a n h z = part_is s (replicate n 0) a n (length-replicate n 0) h (λ i q. z i q ∙ sym (get_d_zeros n i))

-- the node with one null entry
abbrev bare : ℕ → List ℕ
bare θ = 0 ∷ 1 ∷ replicate (node_words θ - 2) 0

bare_is : (θ : ℕ) → node_image θ 1 0 0 (leaf 0) ≡ bare θ
unfolding node_image node_words
bare_is θ =
    let e : suc (suc (suc (suc (2 * (2 ^ θ - 1))))) ≡ 4 + 2 * 2 ^ θ - 2 = omega (arith, pow_pos θ) in
    ap (λ n. 0 ∷ 1 ∷ replicate n 0) e

module _ (f : Format) (θ C N P : ℕ) (z : List ℕ) (law : lawful_sizes θ C N P ≡ true) where
  abbrev s : List ℕ
  s = set_up_words f θ C N P ++ z

  abbrev h : Head
  h = record { theta = θ; capacity = C; node_blocks = N; page_blocks = P; nodes_taken = 1; pages_taken = 0; root = 1; levels = 1 }

  limits : Limits θ C N P
  limits = sizes_limits θ C N P law

  low : 22 ≤ size f θ C N P
  low = size_low f θ C N P limits

  long : size f θ C N P ≤ length s
  unfolding set_up_words
  long = omega (arith, low, length-append (replicate (size f θ C N P - 18) 0) z, length-replicate {A = ℕ} (size f θ C N P - 18) 0)

  zero_past : (i : ℕ) → 18 ≤ i → i < size f θ C N P → word s i ≡ 0
  unfolding set_up_words
  zero_past i a b =
      get_d_past (θ ∷ C ∷ N ∷ P ∷ 1 ∷ 0 ∷ 1 ∷ 1 ∷ 0 ∷ 0 ∷ 0 ∷ 0 ∷ 0 ∷ 0 ∷ 0 ∷ 0 ∷ 0 ∷ 1 ∷ []) (replicate (size f θ C N P - 18) 0 ++ z) 0
      (i - 18)
      {i = i} (omega arith)
      ∙ get_or-append (replicate (size f θ C N P - 18) 0) z 0 (i - 18) (omega (arith, length-replicate {A = ℕ} (size f θ C N P - 18) 0))
      ∙ get_d_zeros (size f θ C N P - 18) (i - 18)

  zero_block : (a n : ℕ) → 18 ≤ a → a + n ≤ size f θ C N P → part s a n ≡ replicate n 0
  zero_block a n p q = zero_part s a n (omega (arith, long)) (λ i l. zero_past (a + i) (omega arith) (omega arith))

  start_1 : node_start h 1 ≡ 16
  unfolding node_start
  start_1 = omega arith

  fits_1 : 16 + node_words θ ≤ size f θ C N P
  fits_1 = rw start_1 at (node_fits h f 1 (size f θ C N P) (omega arith) limits.nodes_low (omega arith))

  wide : 6 ≤ node_words θ
  unfolding node_words
  wide = omega (arith, pow_pos θ)

  word_1 : (i : ℕ) → i < node_words θ → word s (16 + i) ≡ word (bare θ) i
  unfolding set_up_words
  word_1 zero l = refl
  word_1 (suc zero) l = refl
  word_1 (suc (suc i)) l = zero_past (16 + suc (suc i)) (omega arith) (omega (arith, fits_1)) ∙ sym (get_d_zeros (node_words θ - 2) i)

  node_1 : node_at s h 1 ≡ node_image θ 1 0 0 (leaf 0)
  unfolding node_at
  node_1 =
      let l : length (bare θ) ≡ node_words θ = omega (arith, length-replicate {A = ℕ} (node_words θ - 2) 0, wide) in
      ap (λ a. part s a (node_words θ)) start_1 ∙ part_is s (bare θ) 16 (node_words θ) l (omega (arith, fits_1, long)) word_1
      ∙ sym (bare_is θ)

  past_1 : (n : ℕ) → 1 < n → 18 ≤ node_start h n
  unfolding node_start
  past_1 n p =
      let one : 1 ≤ n - 1 = omega arith in
      omega (arith, wide, mul-le-mul_right (node_words θ) one)

  free_node : (n : ℕ) → 1 < n → n ≤ N → node_at s h n ≡ replicate (node_words θ) 0
  unfolding node_at
  free_node n p q = zero_block (node_start h n) (node_words θ) (past_1 n p) (node_fits h f n (size f θ C N P) (omega arith) q (omega arith))

  past_nodes : (p : ℕ) → 18 ≤ page_start f h p
  unfolding page_start
  past_nodes p = omega (arith, wide, mul-le-mul_right (node_words θ) limits.nodes_low)

  free_page : (p : ℕ) → 0 < p → p ≤ P → page_at f s h p ≡ replicate (page_words f C) 0
  unfolding page_at
  free_page p a b = zero_block (page_start f h p) (page_words f C) (past_nodes p) (page_end h f p a b)

  zero_head : zeros s 12 4 ≡ true
  unfolding zeros every set_up_words
  zero_head = refl

  directory : Directory θ (node_at s h) 1 1 1 (λ n. 0) (leaf 0) (leaf 1 ∷ [])
  unfolding tower cut node_image
  directory =
      record {
        nodes = (
          record {
            low = omega arith;
            image = subst (λ ws. ws ≡ node_image θ 1 (back_word ws 0) (forward_word ws 0) (leaf 0)) (sym node_1) refl;
          },
          (refl, refl),
        );
        links = ((ap (λ ws. back_word ws 0) node_1, ap (λ ws. forward_word ws 0) node_1, tt), λ n o. absurd (omega arith));
        one_for_one = record {
          once = λ n a b. omega (arith, ind_eq n 1 (omega arith));
          none = λ n a. omega (arith, ind_other n 1 (λ e. omega arith));
        };
        positive = refl;
        spare_positive = refl;
        levels_are = refl;
      }

  none_nodes : released_nodes s ≡ []
  unfolding released_nodes released_of set_up_words chain_of
  none_nodes = refl

  none_pages : released_pages f s ≡ []
  unfolding released_pages released_of set_up_words chain_of
  none_pages = refl

  released_nodes_lem : Chained (node_at s h) (released_node θ) (node_next s) (released_of s).nodes (released_of s).node
  unfolding released_of set_up_words chain_of after_all
  released_nodes_lem = record { each = tt; ends = refl }

  released_pages_lem : Chained (page_at f s h) (released_page f C) (page_next f s) (released_of s).pages (released_of s).page
  unfolding released_of set_up_words chain_of after_all
  released_pages_lem = record { each = tt; ends = refl }

  pages : Pages f s h (leaf (0, []))
  pages =
      record {
        each = record { page = refl; fits = omega arith; lawful = tt; sorted = tt };
        keyed = tt;
        one_for_one = record {
          once = λ n a b. absurd (omega arith);
          none = λ n a. omega (arith, ind_other n 0 (λ e. omega arith), ap (count n) none_pages);
        };
        spare_positive = ap (count 0) none_pages;
      }

  none_held : Holds f s []
  unfolding head_of set_up_words
  none_held =
      record {
        b0 = leaf (0, []);
        bs = leaf 1 ∷ [];
        rep = record {
          sized = record { sizes = law; spare = zero_head; long = long };
          nodes_fit = limits.nodes_low;
          pages_fit = omega arith;
          directory = subst (λ ns. Directory θ (node_at s h) 1 1 1 (λ n. count n ns) (leaf 0) (leaf 1 ∷ [])) (sym none_nodes) directory;
          pages = pages;
          released_nodes = released_nodes_lem;
          released_pages = released_pages_lem;
          free_nodes = λ n low high. free_node n low (omega arith);
          free_pages = λ p low high. free_page p low (omega arith);
        };
        tree = sym (build_le key_of C (width f) [] (omega arith));
        sorted = tt;
        lawful = tt;
      }

pub set_up_holds : SetUpHolds
set_up_holds f θ C N P s law room =
    subst (λ (x : List ℕ). Holds f x [])
    (done f θ C N P (size f θ C N P) s (set_up_words f θ C N P ++ drop (size f θ C N P) s) law refl room refl).1
    (none_held f θ C N P (drop (size f θ C N P) s) law)
