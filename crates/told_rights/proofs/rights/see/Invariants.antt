use Rattle.std.proofs.Common.{List, ◌++◌, take}
use Rattle.row_records.specs.fair_rows.Values.{Named}
use Rattle.told_rights.specs.Rights.{TellsKinds}
use Rattle.told_rights.proofs.Seen.{named_of}
use Rattle.told_rights.proofs.rights.see.Given as goal

abbrev pub invariant-loop-amount : goal.invariant-loop-amount
invariant-loop-amount l = (before : List Named) → TellsKinds l.initial.kinds before → TellsKinds l.kinds (before ++ take l.amount-index (named_of l.amounts))
