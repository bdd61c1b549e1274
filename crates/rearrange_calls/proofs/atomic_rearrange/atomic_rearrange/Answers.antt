use Rattle.std.proofs.Common.{List, sym, subst}
use Rattle.world_reads.specs.host_world.Worlds.{world_of}
use Rattle.host_data.specs.View.{trees}
use Rattle.share_transfers.specs.Views.{parts_views}
use Rattle.share_transfers.specs.declared.parts.GivenParts.{GivenParts}
use Rattle.rearrange_calls.proofs.Seated.{from_data}
use Rattle.rearrange_calls.specs.Steps.{AreFromData}
use Rattle.rearrange_calls.proofs.atomic_rearrange.atomic_rearrange.Goals as goal

pub plan_for_seats-requires-clause-source : goal.plan_for_seats-requires-clause-source
plan_for_seats-requires-clause-source c =
    subst (λ (l : List GivenParts). AreFromData (world_of c.args.world.now) (parts_views l)) (sym c.as_slice.ensures.value)
    (from_data (world_of c.args.world.now) (trees c.args.args.now) (parts_views c.in_ok-list.list.items) c.requires.known c.in_ok-list.ensures)
