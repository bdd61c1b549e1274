use Rattle.std.proofs.Common.{◌≡◌, drop}
use Rattle.call_arguments.specs.Keywords.{first_shared, texts}
use Rattle.call_arguments.proofs.keyword_arguments.first_shared.Given as goal

abbrev pub invariant-loop-name : goal.invariant-loop-name
invariant-loop-name l = first_shared (texts (drop l.name-index l.names)) (texts l.others) ≡ first_shared (texts l.names) (texts l.others)
