use Rattle.std.proofs.Common.{sym, ◌∙◌}
use Rattle.world_reads.specs.host_world.Worlds.{world_of}
use Rattle.delivery_reads.specs.MessageViews.{addressed_view}
use Rattle.delivery_turns.specs.turn_records.Views.{line_call_view}
use Rattle.delivery_turns.specs.turn_records.Deliveries as deliveries
use Rattle.delivery_turns.proofs.world_laws.Fronts.{good_behind}
use Rattle.delivery_tasks.proofs.DueDeliveries.{call_target}
use Rattle.delivery_tasks.proofs.ReadMessages.{addressed_is}
use Rattle.delivery_tasks.proofs.beginnings.call_beginning.Goals as goal

pub method_beginning-requires-clause-good : goal.method_beginning-requires-clause-good
method_beginning-requires-clause-good c = good_behind (world_of c.args.world.now) (deliveries.call (line_call_view c.args.call.now)) c.requires

pub method_beginning-requires-clause-handed : goal.method_beginning-requires-clause-handed
method_beginning-requires-clause-handed c = call_target (world_of c.args.world.now) (line_call_view c.args.call.now) (addressed_view c.in-Ok.to) c.requires (sym (addressed_is c.args.world.now (line_call_view c.args.call.now)) ∙ c.in-Ok.ensures.gives)
