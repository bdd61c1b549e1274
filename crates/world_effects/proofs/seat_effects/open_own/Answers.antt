use Rattle.std.proofs.Common.{sym}
use Rattle.std.proofs.lemmas.Result.{on_ok_weaker}
use Rattle.register_effects.specs.draft_reads.Views.{rights_in, seats_in, staging_in}
use Rattle.register_effects.specs.host_world.Worlds.{world_now}
use Rattle.register_effects.specs.registers.Stores.{registers_now}
use Rattle.world_laws.specs.world_state.Worlds as worlds
use Rattle.world_laws.specs.world_state.Worlds.{after}
use Rattle.world_effects.proofs.JoinedStores.{joined}
use Rattle.world_effects.proofs.Facts.{good_made}
use Rattle.register_effects.specs.host_world.Worlds.{world_of}
use Rattle.world_effects.proofs.seat_effects.open_own.Goals as goal

pub empty_seat-requires-2 : goal.empty_seat-requires-2
empty_seat-requires-2 c = good_made (world_of c.args.world.now) c.requires.turn.good

pub returns-clause-ok : goal.returns-clause-ok
returns-clause-ok c =
    let d = c.args.world.now.draft in
    let e = worlds.empty_seat c.args.instance c.args.rule in
    on_ok_weaker c.empty_seat-2.result
    (λ beside. record { now = joined c.empty_seat.new.draft (registers_now c.empty_seat-2.new.stores) (after (world_now c.args.world.now) e) c.in_ok-seat.ensures.ok (beside (rights_in d) (seats_in d) (staging_in d) (sym c.in_ok-seat.ensures.number)); clean = c.in_ok-seat.ensures.ok.clean })
    c.empty_seat-2.ensures.ok
