use Rattle.std.proofs.Common.{◌≡◌, take, drop, ◌+◌, None}
use Rattle.proposals.specs.Shares.{AreShares, amount_under}
use Rattle.proposals.proofs.SharesKeyed.{free_before, parted_at}
use Rattle.proposals.proofs.allocations.Allocation.copy.Goals as goal

pub add_copy-requires-clause-free : goal.add_copy-requires-clause-free
add_copy-requires-clause-free c =
    let shares = c.shares-share-items.result.now in
    let at = c.loop-share.share-index in
    let are : AreShares shares = rw c.shares-share-items.ensures.value c.shares-share-items.ensures.shares in
    let free : amount_under c.share-item.result.keyword (take at shares) ≡ None = free_before shares (take at shares) c.share-item.result (drop (at + 1) shares) are (parted_at shares at c.share-item.result c.loop-share-test.true c.share-item.is) in
    rw c.loop-share.invariant free
