-- The levels done, with the definition of the rest, are the whole.
use Rattle.std.proofs.Common.{◌≡◌, List, ℕ, ◌*◌, ◌≤◌, ◌<◌, ltb, get_or, take}
use Rattle.store.specs.Format.{width}
use Rattle.store.specs.Head.{word}
use Rattle.search.specs.Descent.{no_step}
use Rattle.remove.specs.Remove.{Reach, levels_from}
use Rattle.siblings.specs.Marks.{Tracks, Passed}
use Rattle.levels.specs.Outcome.{sound_rise}
use Rattle.levels.proofs.PathFacts.{below}
use Rattle.levels.proofs.LevelLaws.{Rising}
use Rattle.levels.proofs.join_levels.Given as goal

abbrev pub invariant-loop-l : goal.invariant-loop-l
invariant-loop-l l =
    (l.w.end ≤ width l.f * l.l) × (l.w.bits ≤ below l.used l.steps l.l)
    × ((j : ℕ) → l.l ≤ j → j < l.head.levels → word l.numbers j ≡ (get_or l.steps j no_step).node)
    × ((rs : List Reach) → Tracks (width l.f) l.key rs l.fn.marks
    → Rising l.f l.store l.head l.key (take l.head.levels l.steps)
    (levels_from l.f l.store l.head l.key 1 (take l.head.levels l.steps) l.m l.q (ltb l.m l.used) rs) l.l (sound_rise l.w) l.numbers
    l.blocks l.gone l.marks)
    × Passed l.f l.store l.head l.marks
