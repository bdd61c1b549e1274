-- Arguments that are read one after another.
use Rattle.std.proofs.Common.{ℕ, List, ◌++◌, Result, Ok, Err}
use Rattle.refusals.specs.declared.codes.Refusal.{Refusal}

-- what was read, and then the others
abbrev pub with_before : List ℕ → Result (List ℕ) Refusal → Result (List ℕ) Refusal
with_before before (Ok ns) = Ok (before ++ ns)
with_before before (Err r) = Err r
