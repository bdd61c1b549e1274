use Rattle.rearrange.proofs.Changes.{pair_passed, share_passed}
use Rattle.rearrange.proofs.differences.add_unlike_share.Goals as goal

pub returns-in-Some : goal.returns-in-Some
returns-in-Some c = pair_passed c.args.share.now c.in-Some.first.now c.args.after.now c.in-Some.rest.now _ _ c.in-Some.ensures.cases.0 c.in_ok-add_pair.ensures

pub returns : goal.returns
returns c = share_passed c.args.share.now c.args.after.now _ _ c.in_ok-add_share.ensures
