-- The keys agree in all bits so far: each is a round more.
use Rattle.std.proofs.Common.{◌≡◌, true, ◌+◌, ◌-◌}
use Rattle.tree.specs.Build.{rounds}
use Rattle.store.specs.Format.{width}
use Rattle.page.specs.Page.{agrees}
use Rattle.page.specs.Schema.{key_of}
use Rattle.insert.specs.Enter.{items_in}
use Rattle.insert.proofs.rounds_for.Given as goal

abbrev pub invariant-loop-u : goal.invariant-loop-u
invariant-loop-u l =
    (agrees l.f l.page l.key l.u ≡ true)
    × (rounds key_of (width l.f - l.used) l.key (items_in l.f l.page)
    ≡ (l.u - l.used) + rounds key_of (width l.f - l.u) l.key (items_in l.f l.page))
