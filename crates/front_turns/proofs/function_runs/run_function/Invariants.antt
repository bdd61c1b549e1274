use Rattle.contract_powers.specs.TurnStarts.{start_of}
use Rattle.front_turns.proofs.function_runs.run_function.Given as goal

abbrev pub ghosts-run_in : goal.ghosts-run_in
ghosts-run_in g a = record { base = start_of a.world }
