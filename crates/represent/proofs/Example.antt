-- The worked example holds its tree, by computation.
use mathlib.Core.Path.{◌≡◌, refl, sym, subst}
use mathlib.Core.List.{[], ◌∷◌}
use Prim.Native.Nat.{ℕ, zero, suc, ◌≤◌, ◌<◌}
use native.Mathlib.Omega.{arith}
use native.Mathlib.Decide.{ℕ_discrete}
use lib.ListN.{replicate}
use Rattle.lists.specs.Bits.{bit}
use Rattle.lists.specs.Lists.{part, every}
use Rattle.tree.specs.Trie.{leaf}
use Rattle.tree.specs.Tower.{cut, tower}
use Rattle.tree.specs.Build.{build}
use Rattle.plot.specs.Plot.{lawful, is_word, lawful_term, lawful_day}
use Rattle.store.specs.declared.Format.TheVariants.{Plots}
use Rattle.store.specs.Format.{width, words}
use Rattle.store.specs.Released.{released_nodes, released_pages, chain_of, after_all}
use Rattle.store.specs.Head.{head_of, released_of, zeros, lawful_sizes, size, node_words, node_start, page_start, page_words, page_at, node_at}
use Rattle.page.specs.Page.{lawful_item, item_words, flat}
use Rattle.represent.specs.Labelled.{ind, occ, occs}
use Rattle.represent.specs.Image.{node_image, page_image}
use Rattle.represent.specs.Rep.{Unlinked, numbers}
use Rattle.represent.specs.Example.{stretches, directory, stored, ExampleHolds}
use Rattle.represent.proofs.LabelLaws.{ind_other}

-- the node numbers 1, 2, 3, and the page numbers 3, 1, 2
none_above : (n : ℕ) → 3 < n → (ind n 1 ≡ 0) × (ind n 2 ≡ 0) × (ind n 3 ≡ 0)
none_above n l = (ind_other n 1 (λ e. omega arith), ind_other n 2 (λ e. omega arith), ind_other n 3 (λ e. omega arith))

nodes_once : (n : ℕ) → 1 ≤ n → n ≤ 3 → occs n directory ≡ 1
nodes_once zero p q = absurd (omega arith)
nodes_once (suc zero) p q = refl
nodes_once (suc (suc zero)) p q = refl
nodes_once (suc (suc (suc zero))) p q = refl
nodes_once (suc (suc (suc (suc n)))) p q = absurd (omega arith)

pages_once : (n : ℕ) → 1 ≤ n → n ≤ 3 → occ n (numbers stretches) ≡ 1
pages_once zero p q = absurd (omega arith)
pages_once (suc zero) p q = refl
pages_once (suc (suc zero)) p q = refl
pages_once (suc (suc (suc zero))) p q = refl
pages_once (suc (suc (suc (suc n)))) p q = absurd (omega arith)

pub example_holds : ExampleHolds
unfolding stored head_of released_of released_nodes released_pages chain_of after_all zeros lawful_sizes size node_words node_start page_start page_words page_at part every node_image page_image node_at
    item_words flat
    lawful_item lawful is_word lawful_term lawful_day width words build cut tower bit
example_holds =
    record {
      b0 = stretches;
      bs = directory;
      rep = record {
        sized = record { sizes = refl; spare = refl; long = omega arith };
        nodes_fit = omega arith;
        pages_fit = omega arith;
        directory = record {
          nodes = (
            (record { low = omega arith; image = refl }, record { low = omega arith; image = refl }),
            (record { low = omega arith; image = refl }, (refl, refl)),
          );
          links = ((refl, refl, (refl, refl, tt)), unlinked);
          one_for_one = record {
            once = λ n p q. omega (arith, nodes_once n p q);
            none = λ n l. let z = none_above n l in omega (arith, z.0, z.1, z.2);
          };
          positive = refl;
          spare_positive = refl;
          levels_are = refl;
        };
        pages = record {
          each = (
            record { page = (omega arith, refl); fits = omega arith; lawful = (refl, tt); sorted = (tt, tt) },
            (
              record { page = (omega arith, refl); fits = omega arith; lawful = (refl, tt); sorted = (tt, tt) },
              record { page = (omega arith, refl); fits = omega arith; lawful = (refl, tt); sorted = (tt, tt) },
            ),
          );
          keyed = ((refl, tt), ((refl, tt), (refl, tt)));
          one_for_one = record {
            once = λ n p q. omega (arith, pages_once n p q);
            none = λ n l. let z = none_above n l in omega (arith, z.0, z.1, z.2);
          };
          spare_positive = refl;
        };
        released_nodes = record { each = tt; ends = refl };
        released_pages = record { each = tt; ends = refl };
        free_nodes = λ n l h. let e : 4 ≡ n = omega arith in subst (λ x. node_at stored (head_of stored) x ≡ replicate 8 0) e refl;
        free_pages = λ p l h. let e : 4 ≡ p = omega arith in subst (λ x. page_at Plots stored (head_of stored) x ≡ replicate 5 0) e refl;
      };
      tree = refl;
      sorted = ((omega arith, (omega arith, tt)), ((omega arith, tt), (tt, tt)));
      lawful = (refl, (refl, (refl, tt)));
    }
  where
    unlinked : (n : ℕ) → 1 ≤ occs n (leaf 3 ∷ []) → Unlinked (node_at stored (head_of stored)) n
    unlinked n o =
        elim (ℕ_discrete 3 n) [
          | yes e ↦ subst (Unlinked (node_at stored (head_of stored))) e (record { no_back = refl; no_forward = refl })
          | no e ↦ absurd (omega (arith, ind_other n 3 (λ q. e (sym q))))
        ]
