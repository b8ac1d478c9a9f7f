-- The promises of specs/Promises.antt, each from its laws: `TowerIsCanonical` as `tower_is_canonical`, and so on.
use mathlib.Core.Path.{◌≡◌, sym, ◌∙◌}
use mathlib.Core.Bool.{true}
use mathlib.Core.List.{[]}
use Prim.Native.Nat.{ℕ, ◌/◌, ◌^◌, ◌≤◌, ◌<◌}
use native.Mathlib.Nat.{div-eq_of_lt}
use native.Mathlib.Omega.{arith}
use borrow.Author.Tests.{le-leb}
use Rattle.lists.specs.Bits.{bits}
use Rattle.lists.specs.Keyed.{Prefix, ascending}
use Rattle.lists.proofs.ListLaws.{all_map}
use Rattle.lists.proofs.KeyedLaws.{bounded_prefix, ascending_perm, ascending_sublist}
use Rattle.plot.proofs.Promises.{lawful_record}
use Rattle.tree.specs.Trie.{shape}
use Rattle.tree.specs.Tower.{cut, tower}
use Rattle.tree.specs.Build.{build, rounds_at}
use Rattle.tree.specs.Book.{Schema, Sizes, plot_schema, tree, fits, book, Narrow}
use Rattle.tree.specs.Promises.{TowerIsCanonical, OnlyTower, OneHalving, Insertion, RoundKeeps, RoundCounts, PutReaches}
use Rattle.tree.specs.Promises.{LevelsWithin, OneList, NeverShrinks, HoldsAccepted, AnyOrder, BookKeeps}
use Rattle.tree.proofs.TowerLaws.{tower_canonical, tower_unique}
use Rattle.tree.proofs.CarryLaws.{halved, halvings}
use Rattle.tree.proofs.BuildLaws.{build_le, build_insert}
use Rattle.tree.proofs.InsertLaws.{insert_form, insert_pages, round_target, round_falls, put_target}
use Rattle.tree.proofs.Growth.{within_tower, within_build, sublist_pages}
use Rattle.tree.proofs.LevelLaws.{levels_bound}
use Rattle.tree.proofs.BookLaws.{fits_sublist, book_sorted, book_lawful, book_fits, book_ascending, accepted_distinct}
use Rattle.tree.proofs.BookLaws.{taken_any_order}

pub tower_is_canonical : TowerIsCanonical
tower_is_canonical = tower_canonical

pub only_tower : OnlyTower
only_tower = tower_unique

pub one_halving : OneHalving
one_halving θ t k h = let v = halved θ t k h in (v.levels, v.local, v.cost)

module _ {R : Type 0} (key : R → ℕ) (W θ C : ℕ) where
  pub insertion : Insertion key W θ C
  insertion h c r S s b l m =
      let z : key r / 2 ^ W ≡ 0 = div-eq_of_lt l in
      let p : Prefix key W (key r / 2 ^ W) S = rw z (bounded_prefix key W S b) in
      let f = insert_form key C W r S c s p in
      record {
        place = build_insert key C W r S s;
        form = f;
        node_count = rw f (halvings θ (rounds_at key C W (key r) (build key C W S)) (shape (build key C W S)) (bits W (key r)) h).cost;
        page_count = insert_pages key C W r S c s p m;
      }

  pub levels_within : LevelsWithin key W θ C
  levels_within h c l S s b = levels_bound key W θ C 0 S h c l s (bounded_prefix key W S b)

module _ {R : Type 0} (key : R → ℕ) (W C : ℕ) where
  pub round_keeps : RoundKeeps key W C
  round_keeps = round_target key C W

  pub round_counts : RoundCounts key W C
  round_counts = round_falls key C W

  pub put_reaches : PutReaches key W C
  put_reaches = put_target key C W

pub one_list : {R : Type 0} (key : R → ℕ) → OneList key
one_list key rs qs d m = ascending_perm key m d

module _ {R : Type 0} (F : Schema R) (p : Sizes) where
  pub never_shrinks : NeverShrinks F p
  never_shrinks = (
    λ S T d.
        let w = within_tower p.theta (shape (tree F p S)) (shape (tree F p T)) (within_build F.key p.capacity F.width S T d) in
        (w.1, w.0, sublist_pages F.key p.capacity F.width S T d),
    λ rs qs d q. fits_sublist F p (ascending F.key rs) (ascending F.key qs) (ascending_sublist F.key q d),
  )

  pub holds_accepted : HoldsAccepted F p
  holds_accepted = (
    book_ascending F p,
    λ rs qs m. book_ascending F p rs ∙ ascending_perm F.key m (accepted_distinct F p [] rs) ∙ sym (book_ascending F p qs),
  )

  pub any_order : AnyOrder F p
  any_order = taken_any_order F p

  empty_fits : 1 ≤ p.theta → 1 ≤ p.node_blocks → fits F p [] ≡ true
  unfolding fits tower cut
  empty_fits h n =
      rw (build_le F.key p.capacity F.width [] (omega arith))
      (rw (le-leb 1 p.node_blocks n, le-leb 0 p.page_blocks (omega arith)))

  pub book_keeps : BookKeeps F p
  book_keeps h n w rs =
      let l = book_lawful F p [] rs tt in (
        book_sorted F p [] rs tt,
        all_map (λ r. F.lawful r ≡ true) (λ r. F.key r < 2 ^ F.width) (book F p [] rs).held w l,
        l,
        book_fits F p [] rs (empty_fits h n),
      )

-- lawful plots have 32-bit keys
pub plot_narrow : Narrow plot_schema
plot_narrow r e = ((lawful_record r).0 e).0
