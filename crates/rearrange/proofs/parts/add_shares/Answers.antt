use Rattle.std.proofs.Common.{◌+◌, List, take, refl, sym, ap, ◌∙◌, subst, arith}
use Rattle.std.proofs.lemmas.List.{take_all}
use Rattle.std.proofs.lemmas.List.Sums.{sum_by_more}
use Rattle.proposals.specs.declared.allocations.Share.{Share}
use Rattle.rearrange.specs.Parts.{HaveMore}
use Rattle.rearrange.specs.Sums.{share_count, shares_count}
use Rattle.rearrange.proofs.PartCounts.{HaveMore-chain, HaveMore-none}
use Rattle.rearrange.proofs.parts.add_shares.Goals as goal

pub loop-share-init : goal.loop-share-init
loop-share-init c = HaveMore-none c.args.side (λ x. shares_count x.0 x.1 (take 0 c.args.shares.now)) c.args.parts.now.items (λ x. refl)

pub loop-share-preserved : goal.loop-share-preserved
loop-share-preserved c =
    let shares = c.args.shares.now in
    let i = c.loop-share.share-index in
    let share = c.share-item.result in
    HaveMore-chain c.args.side (λ x. shares_count x.0 x.1 (take i shares)) (λ x. share_count x.0 x.1 share) (λ x. shares_count x.0 x.1 (take (i + 1) shares)) c.args.parts.now.items c.loop-share.parts.items _
    (λ x. sum_by_more (share_count x.0 x.1) shares i share c.loop-share-test.true ∙ ap (λ (r : Share). shares_count x.0 x.1 (take i shares) + share_count x.0 x.1 r) (sym c.share-item.is))
    c.loop-share.invariant c.in_ok-add_share.ensures

pub returns : goal.returns
returns c = subst (λ (shares : List Share). HaveMore c.args.side (λ x. shares_count x.0 x.1 shares) c.args.parts.now.items c.loop-share.parts.items) (take_all c.loop-share.share-index c.args.shares.now (omega arith)) c.loop-share.invariant
