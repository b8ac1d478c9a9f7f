-- On any words: a plan that passed its tests can be carried out, where it is carried.
use mathlib.Core.Path.{◌≡◌, refl}
use mathlib.Core.Bool.{true}
use mathlib.Core.List.{List}
use Prim.Native.Nat.{ℕ, ◌*◌, ◌≤◌}
use native.Mathlib.Omega.{arith}
use lib.ListN.{length}
use Rattle.store.specs.declared.Format.{Format}
use Rattle.store.specs.declared.Item.{Item}
use Rattle.store.specs.Head.{head_of, head_rule}
use Rattle.store.proofs.HeadLaws.{levels_within}
use Rattle.search.specs.Way.{Record}
use Rattle.search.specs.Descent.{descent}
use Rattle.search.specs.Find.{find_of}
use Rattle.remove.specs.Remove.{Plan, plan_of}
use Rattle.remove.proofs.InsideRemove.{Headed, head_facts}
use Rattle.remove.proofs.RemoveInside.{FoundIn, found_in_lem, doable}
use Rattle.apply.specs.declared.Outline.{Outline}
use Rattle.apply.specs.Carried.{Carried, Ready}
use Rattle.apply.proofs.PlanLaws.{ready_apart}
use Rattle.apply.proofs.LevelsApart.{plan_apart}

module _ (f : Format) (s : List ℕ) (rule : head_rule f s ≡ true) (k : ℕ) (it : Item) (found : find_of f s (head_of s) k ≡ Record it)
    (ok : (plan_of f s (head_of s) k (descent f s (head_of s) k)).ok ≡ true) where
  abbrev q : Plan
  q = plan_of f s (head_of s) k (descent f s (head_of s) k)

  H : Headed f s
  H = head_facts f s rule

  F : FoundIn f s (head_of s) k
  F = found_in_lem f s (head_of s) k it found

  pub ready : (o : Outline) (items numbers blocks pages nodes : List ℕ) → Carried f s (head_of s) o items numbers blocks pages nodes q
      → o.changed ≤ o.levels → 1 ≤ o.levels → o.levels ≤ length numbers → 132 * o.changed ≤ length blocks → o.pages ≤ length pages
      → o.nodes ≤ length nodes → o.pages ≤ 4096 → o.nodes ≤ 4096 → (o.linked ≡ true → 1 ≤ o.changed)
      → Ready f s (head_of s) o items numbers blocks pages nodes
  unfolding plan_of
  ready o items numbers blocks pages nodes is a b c d e g i j first =
      record {
        under = record { rule = rule; head = refl };
        changed_in = a;
        some = b;
        numbers_long = c;
        blocks_long = d;
        pages_long = e;
        nodes_long = g;
        few_pages = i;
        few_nodes = j;
        first = first;
        apart = ready_apart f s (head_of s) o items numbers blocks pages nodes q is a
            (plan_apart f s (head_of s) k (descent f s (head_of s) k).used _ H.counts.levels_low
            (omega (arith, H.counts.levels, levels_within f (head_of s).theta (head_of s).capacity H.limits.theta_low)) H.counts.root_low
            H.counts.root F.ok ok);
        plan = q;
        doable = doable f s rule k it found ok;
        is = is;
      }
