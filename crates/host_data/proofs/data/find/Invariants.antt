use Rattle.std.proofs.Common.{◌≡◌, drop}
use Rattle.host_data.specs.Tree.{get}
use Rattle.host_data.specs.View.{named_trees, fields_of}
use Rattle.host_data.proofs.data.find.Given as goal

abbrev pub invariant-loop-key : goal.invariant-loop-key
invariant-loop-key l = get l.name (fields_of (named_trees (drop l.key-index l.fields))) ≡ get l.name (fields_of (named_trees l.fields))
