use Rattle.std.proofs.Common.{sym, ◌∙◌}
use Rattle.world_reads.specs.host_world.Worlds.{world_of}
use Rattle.delivery_reads.specs.MessageViews.{addressed_view}
use Rattle.delivery_turns.specs.turn_records.Views.{send_view}
use Rattle.delivery_turns.specs.turn_records.Deliveries as deliveries
use Rattle.delivery_turns.proofs.world_laws.Fronts.{good_behind}
use Rattle.delivery_tasks.proofs.DueDeliveries.{send_target}
use Rattle.delivery_tasks.proofs.ReadMessages.{sent_is}
use Rattle.delivery_tasks.proofs.beginnings.send_beginning.Goals as goal

pub method_beginning-requires-clause-good : goal.method_beginning-requires-clause-good
method_beginning-requires-clause-good c = good_behind (world_of c.args.world.now) (deliveries.send (send_view c.args.send.now)) c.requires

pub method_beginning-requires-clause-handed : goal.method_beginning-requires-clause-handed
method_beginning-requires-clause-handed c = send_target (world_of c.args.world.now) (send_view c.args.send.now) (addressed_view c.in-Ok.to) c.requires (sym (sent_is c.args.world.now (send_view c.args.send.now)) ∙ c.in-Ok.ensures)
