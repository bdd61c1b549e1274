use Rattle.std.proofs.Common.{refl}
use Rattle.value_tests.proofs.Read.{failed, may_come, tested}
use Rattle.value_tests.proofs.holding_checks.check_out.Goals as goal

pub returns-in-Ok-clause-gives : goal.returns-in-Ok-clause-gives
returns-in-Ok-clause-gives c = tested c.args.supply.now c.args.brand c.args.given.now c.requires.kind (c.in-Ok.ensures.ok refl)

pub returns-in-Ok-clause-may : goal.returns-in-Ok-clause-may
returns-in-Ok-clause-may c = may_come c.args.supply.now c.args.brand c.args.given.now c.requires.kind (c.in-Ok.ensures.ok refl)

pub returns-in-Err-clause-gives : goal.returns-in-Err-clause-gives
returns-in-Err-clause-gives c = rw c.of_put.ensures (failed c.args.supply.now c.args.brand c.args.given.now c.requires.kind c.in-Err.fault c.in-Err.ensures.refused)
