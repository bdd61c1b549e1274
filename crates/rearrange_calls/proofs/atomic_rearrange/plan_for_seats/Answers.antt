use Rattle.std.proofs.Common.{◌<◌, ℕ, List, All, length, sym, subst}
use Rattle.world_reads.specs.host_world.Worlds.{world_of}
use Rattle.share_transfers.specs.Views.{parts_views}
use Rattle.rearrange_calls.proofs.Seated.{seats_made, seats_read}
use Rattle.rearrange_calls.proofs.atomic_rearrange.plan_for_seats.Goals as goal

pub transfers_plan-requires-clause-made : goal.transfers_plan-requires-clause-made
transfers_plan-requires-clause-made c =
    let w = world_of c.args.world.now in
    let parts = parts_views c.args.list.now in
    subst (λ (ns : List ℕ). All (λ n. n < length w.seats) ns) (sym c.as_slice.ensures.value)
    (seats_made w parts c.in_ok-seats.seats.items c.requires.source (seats_read parts c.in_ok-seats.seats.items c.in_ok-seats.ensures))
