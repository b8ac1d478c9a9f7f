-- Each turn puts what it takes, within the input and the output.
use Rattle.std.proofs.Common.{◌≤◌, ◌+◌, ◌*◌, ◌-◌, length}
use Rattle.desk.specs.Serving.{to_do, Serves}
use Rattle.desk.proofs.serve.Given as goal

abbrev pub invariant-loop-store : goal.invariant-loop-store
invariant-loop-store l =
    Serves l.initial.store l.initial.desk l.input l.initial.out l.store l.out (record { desk = l.desk; taken = l.taken; put = l.put })
    × (l.taken ≤ length l.input) × (l.put ≤ length l.out)

abbrev pub decreases-loop-store : goal.decreases-loop-store
decreases-loop-store l = 2 * ((length l.input - l.taken) + (length l.initial.out - l.put)) + to_do l.desk
