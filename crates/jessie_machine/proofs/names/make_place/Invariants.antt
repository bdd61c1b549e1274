use Rattle.std.proofs.Common.{◌≡◌, ℕ, ◌-◌, ◌+◌, List, length}
use Rattle.jessie_semantics.specs.host_data.Tree.{Tree}
use Rattle.jessie_machine.specs.Machine.{current, changes}
use Rattle.jessie_machine.proofs.names.make_place.Given as goal

abbrev pub invariant-fill : goal.invariant-fill
invariant-fill l = (names : List (List ℕ)) (values : List Tree) → current names values (changes l.changed.items) ≡ current names values (changes l.fn.changed.items)

abbrev pub decreases-fill : goal.decreases-fill
decreases-fill l = (l.i + 1) - length l.changed.items
