use Rattle.std.proofs.Common.{◌≡◌, map, take}
use Rattle.jessie_index.specs.jessie_values.Literals.{constant_tree}
use Rattle.promise_store.specs.host_data.View.{trees}
use Rattle.actors.proofs.instance_store.instance.initial_state.Given as goal

abbrev pub invariant-loop-variable : goal.invariant-loop-variable
invariant-loop-variable l = trees l.state.items ≡ map (λ v. constant_tree v.initial) (take l.variable-index l.variable-items)
