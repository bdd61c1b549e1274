use Rattle.std.proofs.Common.{subst, sym, List}
use Rattle.user_seat_calls.specs.call_outcomes.CallOutcomes.{GivesOutcome}
use Rattle.rules.specs.Outcomes.{Outcome}
use Rattle.user_seat_calls.specs.host_world.Worlds.{world_of}
use Rattle.host_data.specs.View.{trees}
use Rattle.rules.specs.proposals.Shares.{AreShares}
use Rattle.rules.specs.proposals.declared.allocations.Share.{Share}
use Rattle.contract_reads.proofs.Fits.{now_shares}
use Rattle.zseat_calls.proofs.StagingParts.{taking_is}
use Rattle.zseat_calls.specs.StagingParts.{staged_less}
use Rattle.zseat_calls.proofs.staging.take_shares.Goals as goal

pub stage_less-requires-clause-now : goal.stage_less-requires-clause-now
stage_less-requires-clause-now c = subst AreShares (sym c.shares_now-now.ensures) (now_shares (world_of c.args.world.now) c.args.seat (trees c.args.args.now) c.requires.call)

pub returns : goal.returns
returns c =
    let now = c.shares_now-now.result.now in
    let planned = subst (λ (rs : List Share). GivesOutcome (staged_less c.args.seat now rs) c.stage_less.result) c.as_slice.ensures.value c.stage_less.ensures in
    subst (λ (o : Outcome). GivesOutcome o c.stage_less.result) (taking_is (world_of c.args.world.now) c.args.seat (trees c.args.args.now) now c.in_ok-shares.shares.items c.in_ok-shares.ensures.gives c.shares_now-now.ensures) planned
