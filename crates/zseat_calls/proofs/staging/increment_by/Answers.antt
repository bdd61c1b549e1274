use Rattle.std.proofs.Common.{subst}
use Rattle.user_seat_calls.specs.call_outcomes.CallOutcomes.{GivesOutcome}
use Rattle.rules.specs.Outcomes.{Outcome}
use Rattle.user_seat_calls.specs.host_world.Worlds.{world_of}
use Rattle.host_data.specs.View.{trees}
use Rattle.zseat_calls.proofs.Calls.{increment_is}
use Rattle.zseat_calls.proofs.staging.increment_by.Goals as goal

pub returns : goal.returns
returns c = subst (λ (o : Outcome). GivesOutcome o c.add_shares.result) (increment_is (world_of c.args.world.now) c.args.seat (trees c.args.args.now) c.in_ok-slots.ensures.gives) c.add_shares.ensures
