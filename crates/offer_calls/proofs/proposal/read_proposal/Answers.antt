use Rattle.std.proofs.Common.{subst}
use Rattle.refusals.specs.host_data.Amounts.{seen}
use Rattle.refusals.specs.Outcomes.{Gives}
use Rattle.offer_calls.proofs.Steps.{proposed_steps}
use Rattle.offer_calls.specs.Views.{proposed_view}
use Rattle.offer_calls.proofs.proposal.read_proposal.Goals as goal

pub returns : goal.returns
returns c = subst (λ share. Gives proposed_view c.read_and_propose.result share) (proposed_steps c.args.issuers.now (seen c.args.proposal) (seen c.args.payments)) c.read_and_propose.ensures
