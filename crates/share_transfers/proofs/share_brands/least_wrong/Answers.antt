use Rattle.std.proofs.Common.{◌∙◌, sym, subst, take}
use Rattle.rearrange.specs.Seats.{allocation_of}
use Rattle.share_transfers.specs.BrandsSeen.{HaveSeen}
use Rattle.share_transfers.specs.Views.{seat_shares}
use Rattle.share_transfers.proofs.Wrong.{brands_more, found, right_more, seen_next, wrong_more}
use Rattle.share_transfers.proofs.share_brands.least_wrong.Goals as goal
use Rattle.share_transfers.proofs.share_brands.least_wrong.Goals.{then-is_wrong, else-is_wrong}

pub loop-share-preserved : goal.loop-share-preserved
loop-share-preserved c =
    let shares = c.args.shares.now in
    let i = c.loop-share.share-index in
    let r = c.share-item.result in
    let lt = c.loop-share-test.true in
    let is = c.share-item.is in
    let inv = c.loop-share.invariant in
    let had = allocation_of c.args.states.now in
    let before = seat_shares (take i shares) in
    let wrong = c.is_wrong-is_wrong.ensures.is before inv.seen in
    let seen = subst (HaveSeen c.see.new.seen) (seen_next shares i r lt is) (c.in_ok-see.ensures before inv.seen) in
    elim c.if-is_wrong.branch [
      | then-is_wrong w ↦
          let least_is = w.least-is ∙ w.lesser-least.ensures in
          record {
            is = wrong_more shares i r lt is c.args.issuers.now had c.loop-share.least c.if-is_wrong.least least_is (sym w.if-is_wrong.true ∙ wrong) ∙ inv.is;
            seen = seen;
            small = λ none. absurd (found c.loop-share.least _ (sym least_is ∙ none));
          }
      | else-is_wrong w ↦
          record {
            is = right_more shares i r lt is c.args.issuers.now had c.loop-share.least c.if-is_wrong.least w.least-is (sym w.if-is_wrong.false ∙ wrong) ∙ inv.is;
            seen = seen;
            small = λ none. brands_more shares i r lt is (inv.small (sym w.least-is ∙ none)) (c.is_wrong-is_wrong.ensures.small w.if-is_wrong.false);
          }
    ]
