-- What the turns of any run take is called for by them and named, and they are licensed.
use Rattle.std.specs.Prelude.{◌≤◌, ℕ, List}
use Rattle.std.specs.List.{AllByRecursion}
use Rattle.host_turns.specs.contract_texts.Reader.{reader}
use Rattle.host_turns.proofs.contract_texts.Modules.{reads_modules}
use Rattle.run_laws.specs.Licences.{IsLicensedTurn}
use Rattle.run_laws.specs.licence_laws.Minting.{IsCalledForTurn}
use Rattle.run_laws.specs.licence_laws.Spending.{IsSpentByNameTurn}
use Rattle.run_laws.specs.Runs.{most_meter, run_of, turns_of}
use Rattle.run_laws.proofs.Licences as licences

pub runs_called_for : (meter most : ℕ) (input : List ℕ) → meter ≤ most_meter → AllByRecursion IsCalledForTurn (turns_of reader meter most input)
runs_called_for meter most input few = licences.runs_mint reader meter most input reads_modules few

pub runs_spent_by_name : (meter most : ℕ) (input : List ℕ) → meter ≤ most_meter → AllByRecursion IsSpentByNameTurn (turns_of reader meter most input)
runs_spent_by_name meter most input few = licences.runs_spend reader meter most input reads_modules few

pub runs_licensed : (meter most : ℕ) (input : List ℕ) → meter ≤ most_meter → AllByRecursion IsLicensedTurn (run_of reader meter most input).turns
runs_licensed meter most input few = licences.runs_licensed reader meter most input reads_modules few
