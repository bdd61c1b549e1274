use Rattle.std.proofs.Common.{ap, Some}
use Rattle.jessie_semantics.specs.Actions.{paid}
use Rattle.jessie_semantics.proofs.Runs.{computes_as}
use Rattle.jessie_machine.proofs.Places.{local_here}
use Rattle.jessie_machine.proofs.names.pay_local.Goals as goal

pub returns-clause-does : goal.returns-clause-does
returns-clause-does c = λ t outer globals.
    computes_as (ap (λ v. paid t (Some v)) (local_here c.args.locals.now c.args.i c.index-locals-i.result c.requires c.index-locals-i.is)) (c.pay_copy.ensures.does t outer globals)
