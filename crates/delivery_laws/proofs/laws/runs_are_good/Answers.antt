use Rattle.std.proofs.Common.{[], refl}
use Rattle.rule_laws.proofs.Methods.{calls_are}
use Rattle.delivery_laws.proofs.Runs.{grows_itself, run_is}
use Rattle.delivery_laws.proofs.laws.runs_are_good.Goals as goal

pub returns : goal.returns
returns c = record { good = λ start i n p made asks good. run_is calls_are start i n made p asks p [] start refl good (grows_itself start) tt }
