-- What each turn of a run is.
use Rattle.std.specs.Prelude.{◌≡◌, Some}
use Rattle.licence_laws.specs.delivery_laws.Hosts.{IsGoodHost}
use Rattle.licence_laws.specs.delivery_turns.Hosts.{step_of}
use Rattle.licence_laws.specs.rules.Zoe.{TextReader}
use Rattle.run_laws.specs.Runs.{HostTurn}

-- the step of a good host
pub record IsGoodTurn (read : TextReader) (t : HostTurn) : Type 0 where
  pub good : IsGoodHost t.before
  pub made : step_of read t.before ≡ Some t.step
