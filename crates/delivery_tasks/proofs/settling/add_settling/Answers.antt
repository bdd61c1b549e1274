use Rattle.world_reads.specs.host_world.Worlds.{world_of}
use Rattle.delivery_turns.specs.turn_records.Views.{delivery_view}
use Rattle.delivery_turns.proofs.world_laws.Fronts.{good_behind}
use Rattle.delivery_tasks.proofs.settling.add_settling.Goals as goal

pub delivery_settlement-requires-clause-good : goal.delivery_settlement-requires-clause-good
delivery_settlement-requires-clause-good c = good_behind (world_of c.args.world.now) (delivery_view c.args.delivery.now) c.requires.good
