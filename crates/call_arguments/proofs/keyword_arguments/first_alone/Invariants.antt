use Rattle.std.proofs.Common.{◌≡◌, drop}
use Rattle.call_arguments.specs.Keywords.{first_alone, texts}
use Rattle.call_arguments.proofs.keyword_arguments.first_alone.Given as goal

abbrev pub invariant-loop-name : goal.invariant-loop-name
invariant-loop-name l = first_alone (texts (drop l.name-index l.names)) (texts l.others) ≡ first_alone (texts l.names) (texts l.others)
