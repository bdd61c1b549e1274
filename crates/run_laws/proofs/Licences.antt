-- What holds of each step of a good host holds of each turn of a run, and what its printed turn shows of each printed one.
use Rattle.std.specs.Prelude.{◌≤◌, ℕ, List, Option, IfSome}
use Rattle.std.specs.List.{AllByRecursion}
use Rattle.std.proofs.Common.{subst}
use Rattle.licence_laws.specs.delivery_laws.Hosts.{IsGoodHost}
use Rattle.licence_laws.specs.delivery_laws.Works.{most_meter}
use Rattle.licence_laws.specs.delivery_turns.Hosts.{HostState, Step, step_of}
use Rattle.licence_laws.specs.rules.Zoe.{ReadsModules, TextReader}
use Rattle.licence_laws.specs.Minting.{IsCalledForTurn}
use Rattle.licence_laws.specs.Spending.{IsSpentByNameTurn}
use Rattle.licence_laws.specs.Steps.{IsCalledFor, IsLicensed, IsSpentByName}
use Rattle.licence_laws.proofs.Hosts.{steps_mint, steps_spend}
use Rattle.licence_laws.proofs.Licensed.{steps_licensed}
use Rattle.message_lines.specs.turn_records.Printed.{printed}
use Rattle.message_lines.specs.turn_rows.Turns.{Turn}
use Rattle.run_laws.proofs.GoodRuns.{each_printed, each_turn}
use Rattle.run_laws.specs.GoodTurns.{IsGoodTurn}
use Rattle.run_laws.specs.Licences.{IsLicensedTurn}
use Rattle.run_laws.specs.Runs.{HostTurn, run_of, turns_of}

module _ (IsSo : HostState → Step → Type 0) (read : TextReader) (of_steps : (s : HostState) → IsGoodHost s → IfSome (step_of read s) (IsSo s)) where
  of_turn : (t : HostTurn) → IsGoodTurn read t → IsSo t.before t.step
  of_turn t is =
      let P : Option Step → Type 0 = λ o. IfSome o (IsSo t.before) in
      subst P is.made (of_steps t.before is.good)

  of_runs : (meter most : ℕ) (input : List ℕ) → ReadsModules read → meter ≤ most_meter → AllByRecursion (λ (t : HostTurn). IsSo t.before t.step) (run_of read meter most input).turns
  of_runs meter most input gives few = each_turn read (λ (t : HostTurn). IsSo t.before t.step) of_turn meter most input gives few

  module _ (Shows : Turn → Type 0) (shown : (t : HostTurn) → IsSo t.before t.step → Shows (printed t.step.turn)) where
    of_printed : (meter most : ℕ) (input : List ℕ) → ReadsModules read → meter ≤ most_meter → AllByRecursion Shows (turns_of read meter most input)
    of_printed meter most input gives few = each_printed read Shows (λ t is. shown t (of_turn t is)) meter most input gives few

pub runs_mint : (read : TextReader) (meter most : ℕ) (input : List ℕ) → ReadsModules read → meter ≤ most_meter → AllByRecursion IsCalledForTurn (turns_of read meter most input)
runs_mint read meter most input gives few = of_printed IsCalledFor read (λ s good. steps_mint read s gives good) IsCalledForTurn (λ t is. is.moved) meter most input gives few

pub runs_spend : (read : TextReader) (meter most : ℕ) (input : List ℕ) → ReadsModules read → meter ≤ most_meter → AllByRecursion IsSpentByNameTurn (turns_of read meter most input)
runs_spend read meter most input gives few = of_printed IsSpentByName read (λ s good. steps_spend read s gives good) IsSpentByNameTurn (λ t is. is.moved) meter most input gives few

pub runs_licensed : (read : TextReader) (meter most : ℕ) (input : List ℕ) → ReadsModules read → meter ≤ most_meter → AllByRecursion IsLicensedTurn (run_of read meter most input).turns
runs_licensed read meter most input gives few = of_runs IsLicensed read (λ s good. steps_licensed read s gives good) meter most input gives few
