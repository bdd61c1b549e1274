use Rattle.std.proofs.Common.{subst, sym}
use Rattle.user_seat_calls.specs.call_outcomes.CallOutcomes.{GivesOutcome}
use Rattle.rules.specs.Outcomes.{Outcome}
use Rattle.user_seat_calls.specs.host_world.Worlds.{world_of}
use Rattle.host_data.specs.View.{trees}
use Rattle.rules.specs.proposals.Shares.{AreShares}
use Rattle.contract_reads.proofs.Fits.{now_shares}
use Rattle.zseat_calls.proofs.StagingParts.{adding_is}
use Rattle.zseat_calls.proofs.staging.add_shares.Goals as goal

pub stage_more-requires-clause-now : goal.stage_more-requires-clause-now
stage_more-requires-clause-now c = subst AreShares (sym c.shares_now-now.ensures) (now_shares (world_of c.args.world.now) c.args.seat (trees c.args.args.now) c.requires.call)

pub returns : goal.returns
returns c = subst (λ (o : Outcome). GivesOutcome o c.stage_more.result) (adding_is (world_of c.args.world.now) c.args.seat (trees c.args.args.now) c.shares_now-now.result.now c.in_ok-shares.shares.items c.in_ok-shares.ensures.gives c.shares_now-now.ensures) c.stage_more.ensures
