-- Transfers whose values are read one after another.
use Rattle.std.proofs.Common.{List, ◌++◌, Result, Ok, Err}
use Rattle.call_arguments.specs.proposals.declared.plans.Transfer.{Transfer}
use Rattle.refusals.specs.declared.codes.Refusal.{Refusal}

-- what was read, and then the others
abbrev pub with_before : List Transfer → Result (List Transfer) Refusal → Result (List Transfer) Refusal
with_before before (Ok ts) = Ok (before ++ ts)
with_before before (Err r) = Err r
