use Rattle.std.proofs.Common.{ℕ, List, arith}
use Rattle.std.proofs.lemmas.Result.{on_ok_weaker}
use Rattle.rearrange.specs.Sums.{shares_count}
use Rattle.rearrange.proofs.Changes.{nothing_passed, passed_all, passed_more, shares_count-append}
use Rattle.rearrange.proofs.differences.add_unlike_shares.Goals as goal

pub loop-share-init : goal.loop-share-init
loop-share-init c = nothing_passed (λ (x : ℕ × List ℕ). shares_count x.0 x.1) shares_count-append c.args.after.now c.args.parts.now.items

pub loop-share-preserved : goal.loop-share-preserved
loop-share-preserved c = passed_more (λ (x : ℕ × List ℕ). shares_count x.0 x.1) shares_count-append c.args.before.now c.args.after.now c.loop-share.share-index c.share-item.result _ _ _ _ _ c.loop-share-test.true c.share-item.is c.loop-share.invariant c.in_ok-rest.ensures

pub returns : goal.returns
returns c = on_ok_weaker c.add_shares.result (passed_all (λ (x : ℕ × List ℕ). shares_count x.0 x.1) shares_count-append c.args.before.now c.args.after.now c.loop-share.share-index c.loop-share.rest.now _ _ _ (omega arith) c.loop-share.invariant) c.add_shares.ensures
