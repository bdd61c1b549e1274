use Rattle.seat_tests.proofs.OneBrand.{of_one_brand}
use Rattle.seat_tests.proofs.staged_tests.plan.Goals as goal

pub plan_staged-requires : goal.plan_staged-requires
plan_staged-requires c = of_one_brand c.args.states.now c.requires
