use Rattle.vault.proofs.Arms.{transit_roomed}
use Rattle.vault.proofs.draft.room_for_take.Goals as goal

pub returns-clause-roomed : goal.returns-clause-roomed
returns-clause-roomed c = transit_roomed c.args.stores.now c.make_room.new.self c.args.brand c.make_room.ensures.same c.make_room.ensures.room
