use Rattle.std.proofs.Common.{◌≡◌, All, List, None, subst}
use Rattle.std.proofs.lemmas.Result.{on_ok_weaker}
use Rattle.call_arguments.specs.Records.{first_ill}
use Rattle.share_transfers.specs.Brands.{HasBrand}
use Rattle.share_transfers.specs.Views.{keywords_of, seat_shares}
use Rattle.share_transfers.specs.declared.shares.GivenSeatShare.{GivenSeatShare}
use Rattle.share_transfers.proofs.FineShares.{all_fine}
use Rattle.share_transfers.proofs.given_transfers.check_shares.Goals as goal

pub returns-clause-fine : goal.returns-clause-fine
returns-clause-fine c = on_ok_weaker c.check_brands.result (λ small.
    all_fine c.args.read.now c.in_ok-shares.shares.items c.requires c.in_ok-shares.ensures
    (subst (λ (gs : List GivenSeatShare). first_ill (keywords_of (seat_shares gs)) ≡ None) c.as_slice.ensures.value c.in_ok-check_keywords.ensures.named)
    (subst (λ (gs : List GivenSeatShare). All HasBrand gs) c.as_slice-2.ensures.value small)) c.check_brands.ensures.small
