-- What a turn of a run names and moves.
use Rattle.licence_laws.specs.Steps.{IsLicensed}
use Rattle.run_laws.specs.Runs.{HostTurn}

-- it is licensed, as the step of its host
abbrev pub IsLicensedTurn : HostTurn → Type 0
IsLicensedTurn t = IsLicensed t.before t.step
