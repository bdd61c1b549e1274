use Rattle.refusals.proofs.host_data.ReadLists.{IsRead}
use Rattle.call_arguments.specs.Records.{share_data}
use Rattle.offer_calls.specs.ProposalSteps.{valued_share}
use Rattle.offer_calls.proofs.proposal.shares_with_values.Given as goal

abbrev pub invariant-loop-share : goal.invariant-loop-share
invariant-loop-share l = IsRead valued_share share_data l.shares l.share-index l.made.items
