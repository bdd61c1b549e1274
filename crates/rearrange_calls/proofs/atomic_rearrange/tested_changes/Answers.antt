use Rattle.std.proofs.Common.{List, Result, sym, subst}
use Rattle.refusals.specs.Outcomes.{Gives}
use Rattle.refusals.specs.declared.codes.Refusal.{Refusal}
use Rattle.rules.specs.proposals.declared.plans.Touched.{Touched}
use Rattle.share_transfers.specs.Views.{parts_views}
use Rattle.world_reads.specs.host_world.Worlds.{world_of}
use Rattle.rearrange_calls.proofs.SameStates.{tested_is}
use Rattle.rearrange_calls.proofs.atomic_rearrange.tested_changes.Goals as goal

pub returns-clause-gives : goal.returns-clause-gives
returns-clause-gives c =
    let is = tested_is (world_of c.args.world.now) c.args.instance c.args.seats.now (parts_views c.args.list.now) c.in_ok-states.states c.in_ok-states.ensures in
    subst (λ (r : Result (List Touched) Refusal). Gives (λ plan. plan) c.changes_between.result r) (sym is) c.changes_between.ensures.gives
