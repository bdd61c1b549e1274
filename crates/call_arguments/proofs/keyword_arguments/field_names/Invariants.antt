use Rattle.std.proofs.Common.{◌≡◌, take}
use Rattle.refusals.specs.host_data.View.{named_trees}
use Rattle.call_arguments.specs.Records.{names}
use Rattle.call_arguments.specs.Keywords.{texts}
use Rattle.call_arguments.proofs.keyword_arguments.field_names.Given as goal

abbrev pub invariant-loop-name : goal.invariant-loop-name
invariant-loop-name l = texts l.names.items ≡ names (named_trees (take l.name-index l.fields))
