use Rattle.std.proofs.Common.{◌≡◌, drop}
use Rattle.refusals.specs.host_data.View.{named_trees}
use Rattle.call_arguments.specs.Records.{first_ill, names}
use Rattle.call_arguments.proofs.records.first_ill_name.Given as goal

abbrev pub invariant-loop-name : goal.invariant-loop-name
invariant-loop-name l = first_ill (names (named_trees (drop l.name-index l.fields))) ≡ first_ill (names (named_trees l.fields))
