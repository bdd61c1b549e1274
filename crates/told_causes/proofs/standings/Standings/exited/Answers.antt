use Rattle.std.proofs.lemmas.Result.{on_ok_weaker}
use Rattle.told_causes.proofs.Exited.{exit_told}
use Rattle.told_causes.proofs.standings.Standings.exited.Goals as goal

pub returns : goal.returns
returns c = on_ok_weaker c.put.result (λ put i x seat cause is_open first told. exit_told c.args.self.now c.stop_waiting.new.self c.put.new.self i x c.args.seat c.args.cause c.shown-shown.result c.stop_waiting.result seat cause is_open first told c.shown-shown.ensures c.stop_waiting.ensures put) c.put.ensures
