use Rattle.refusals.specs.host_data.Amounts.{seen}
use Rattle.ertp_calls.specs.host_world.Worlds.{world_of}
use Rattle.refusals.specs.host_data.View.{trees}
use Rattle.offer_calls.proofs.ReadShares.{kinds_given}
use Rattle.offer_calls.specs.Views.{proposed_view}
use Rattle.offer_calls.proofs.offer.offer.Goals as goal

pub pay_and_open-requires-clause-kinds : goal.pay_and_open-requires-clause-kinds
pay_and_open-requires-clause-kinds c = kinds_given (world_of c.args.world.now) c.issuers-issuers.result.now (trees c.args.args.now) (proposed_view c.in_ok-read.read) (seen c.argument.result) (seen c.argument-2.result) c.requires.good c.requires.handed c.argument.ensures c.argument-2.ensures c.in_ok-read.ensures
