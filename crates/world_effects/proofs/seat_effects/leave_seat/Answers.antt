use Rattle.std.proofs.lemmas.Result.{on_ok_weaker}
use Rattle.register_effects.specs.draft_reads.Views.{rights_in, seats_in, staging_in}
use Rattle.register_effects.specs.host_world.Worlds.{world_now}
use Rattle.register_effects.specs.registers.Stores.{registers_now}
use Rattle.world_laws.specs.world_state.Worlds as worlds
use Rattle.world_laws.specs.world_state.Worlds.{after}
use Rattle.world_effects.proofs.JoinedStores.{joined}
use Rattle.world_effects.proofs.Facts.{payouts_pend, seat_made, slots_of_brands}
use Rattle.register_effects.specs.host_world.Worlds.{world_of}
use Rattle.world_laws.specs.turn_records.Views.{cause_view}
use Rattle.world_effects.proofs.seat_effects.leave_seat.Goals as goal

pub leave-requires-clause-kinds : goal.leave-requires-clause-kinds
leave-requires-clause-kinds c = slots_of_brands (world_of c.args.world.now) c.args.seat c.requires.turn.good c.requires.can

pub exit-requires-clause-paired : goal.exit-requires-clause-paired
exit-requires-clause-paired c = seat_made (world_of c.args.world.now) c.args.seat c.requires.turn.good c.requires.can

pub exit-requires-clause-pending : goal.exit-requires-clause-pending
exit-requires-clause-pending c = payouts_pend (world_of c.args.world.now) c.args.seat c.requires.turn.good c.requires.can

pub returns-clause-ok : goal.returns-clause-ok
returns-clause-ok c =
    let d = c.args.world.now.draft in
    let e = worlds.exit c.args.seat (cause_view c.args.cause) in
    on_ok_weaker c.exit.result
    (λ beside. record { now = joined c.leave.new.draft (registers_now c.exit.new.stores) (after (world_now c.args.world.now) e) c.in_ok-payouts.ensures.ok (beside (rights_in d) (seats_in d) (staging_in d) (record { payouts_are = c.in_ok-payouts.ensures.payouts; moves_are = c.in_ok-payouts.ensures.moves })); clean = c.in_ok-payouts.ensures.ok.clean })
    c.exit.ensures.ok
