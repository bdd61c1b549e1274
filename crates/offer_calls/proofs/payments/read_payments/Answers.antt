use Rattle.std.proofs.Common.{subst}
use Rattle.ertp_calls.specs.host_world.Worlds.{world_of}
use Rattle.refusals.specs.host_data.View.{named_trees, trees}
use Rattle.refusals.specs.Outcomes.{Gives}
use Rattle.ertp_calls.proofs.HandedFields.{payments_known}
use Rattle.offer_calls.proofs.Steps.{paid_steps}
use Rattle.offer_calls.proofs.payments.read_payments.Goals as goal

pub payments_under-requires-clause-known : goal.payments_under-requires-clause-known
payments_under-requires-clause-known c = payments_known (world_of c.args.world.now) 3 (trees c.args.args.now) c.args.given.now c.requires.handed c.requires.given

pub returns-clause-gives : goal.returns-clause-gives
returns-clause-gives c = subst (λ share. Gives (λ ns. ns.items) c.payments_under.result share) (paid_steps (world_of c.args.world.now) c.args.invitation c.args.give.now (named_trees c.args.given.now)) c.payments_under.ensures.gives
