-- The tests of each call, in document 01's order. "Set-up tests 4, 5; the others 3, 7, 6, then 9, 8, 10." By M-106 enter tests the released
-- blocks that it is to take last, under 9; remove's checks "run as for find", and under 9 for what it would join, where the key is held.
--   sound a      == what was sought met no damage
--   joined f s k a == the key's record may be taken out: what would join it is sound; where there is none, nothing is looked at
--   checks f c s == the tests of the call c on the words s, each with the number that refuses it
--   Done c n     == the number of an answer where no test fails: 0; of remove, find and next also 1, "none"
use Rattle.std.specs.Prelude.{◌≡◌, Bool, true, false, ◌&&◌, not, List, [], ◌∷◌, ◌⊎◌, ℕ, ◌/◌, leb, length}
use Rattle.lists.specs.Keyed.{contains}
use Rattle.plot.specs.Plot.{lawful_day}
use Rattle.store.specs.declared.Format.{Format}
use Rattle.store.specs.Head.{head_of, head_rule, lawful_sizes, size, nodes_left, pages_left}
use Rattle.store.specs.Released.{nodes_ok, pages_ok}
use Rattle.store.specs.Tests.{Test}
use Rattle.store.specs.Format.{words}
use Rattle.search.specs.Way.{Sought}
use Rattle.search.specs.Way.{Record, Nothing, Damaged}
use Rattle.search.specs.Descent.{descent}
use Rattle.search.specs.Find.{find_of}
use Rattle.search.specs.Next.{next_of}
use Rattle.scan.specs.Range.{ranged}
use Rattle.scan.specs.Summary.{summed}
use Rattle.page.specs.Page.{lawful_item}
use Rattle.page.specs.Schema.{unlawful, key_of}
use Rattle.insert.specs.Enter.{undamaged, found, start_of, plan_for}
use Rattle.remove.specs.Remove.{plan_of}
use Rattle.index.specs.Calls.{Call, set_up, enter, remove, find, next, range, summary}

abbrev pub sound : Sought → Bool
sound (Record it) = true
sound Nothing = true
sound Damaged = false

unfoldable pub joined : Format → List ℕ → ℕ → Sought → Bool
joined f s k (Record it) = (plan_of f s (head_of s) k (descent f s (head_of s) k)).ok
joined f s k Nothing = true
joined f s k Damaged = true

-- (`unlawful f` is 6 for plots; `found`, `start_of` and `plan_for` are what enter's descent finds and what it plans from that)
abbrev pub checks : Format → Call → List ℕ → List Test
checks f (set_up θ C N P) s = (4, lawful_sizes θ C N P) ∷ (5, leb (size f θ C N P) (length s)) ∷ []
checks f (enter it) s =
    (3, head_rule f s)
    ∷ (unlawful f, lawful_item f it)
    ∷ (9, undamaged f s (head_of s) it.key (found f s it))
    ∷ (8, not (contains key_of it.key (start_of f s it).items))
    ∷ (10, leb (plan_for f s it).nodes (nodes_left s) && leb (plan_for f s it).pages (pages_left s))
    ∷ (9, nodes_ok s (plan_for f s it).nodes && pages_ok f s (plan_for f s it).pages)
    ∷ []
checks f (remove k) s =
    (3, head_rule f s) ∷ (9, sound (find_of f s (head_of s) k)) ∷ (9, joined f s k (find_of f s (head_of s) k)) ∷ []
checks f (find k) s = (3, head_rule f s) ∷ (9, sound (find_of f s (head_of s) k)) ∷ []
checks f (next k) s = (3, head_rule f s) ∷ (9, sound (next_of f s (head_of s) true k)) ∷ []
checks f (range low high out) s =
    (3, head_rule f s) ∷ (7, leb low high) ∷ (9, (ranged f s (head_of s) low high (length out / words f)).ok) ∷ []
checks f (summary low high today) s =
    (3, head_rule f s) ∷ (7, leb low high) ∷ (6, lawful_day today) ∷ (9, (summed f s (head_of s) low high today).ok) ∷ []

abbrev pub Done : Call → ℕ → Type 0
Done (set_up θ C N P) n = n ≡ 0
Done (enter it) n = n ≡ 0
Done (remove k) n = (n ≡ 0) ⊎ (n ≡ 1)
Done (find k) n = (n ≡ 0) ⊎ (n ≡ 1)
Done (next k) n = (n ≡ 0) ⊎ (n ≡ 1)
Done (range low high out) n = n ≡ 0
Done (summary low high today) n = n ≡ 0
