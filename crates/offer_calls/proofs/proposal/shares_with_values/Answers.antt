use Rattle.refusals.proofs.host_data.ReadLists.{read_more}
use Rattle.call_arguments.specs.Records.{share_data}
use Rattle.refusals.proofs.Steps.{wanted_there}
use Rattle.offer_calls.specs.ProposalSteps.{valued_share}
use Rattle.offer_calls.proofs.proposal.shares_with_values.Goals as goal

pub loop-share-preserved : goal.loop-share-preserved
loop-share-preserved c =
    let read = wanted_there _ _ _ c.in_ok-share_with_value.ensures in
    rw c.in_ok-push.ensures.items (read_more valued_share share_data c.args.shares.now c.loop-share.share-index c.loop-share.made.items c.loop-share.invariant c.share-item.result c.in_ok-share_with_value.field-0 c.loop-share-test.true c.share-item.is read)
