use Rattle.std.specs.Prelude.{All}
use Rattle.std.proofs.Common.{◌≡◌, None, drop, take}
use Rattle.call_arguments.specs.Numbers.{least, least_of}
use Rattle.rearrange.specs.Seats.{allocation_of}
use Rattle.share_transfers.specs.Brands.{HasBrand, wrong_at}
use Rattle.share_transfers.specs.BrandsSeen.{HaveSeen}
use Rattle.share_transfers.specs.Views.{seat_shares}
use Rattle.share_transfers.proofs.share_brands.least_wrong.Given as goal

abbrev pub invariant-loop-share : goal.invariant-loop-share
invariant-loop-share l = record {
  is : least_of l.least (least (wrong_at l.issuers (allocation_of l.states) (seat_shares (take l.share-index l.shares)) (seat_shares (drop l.share-index l.shares)))) ≡ least (wrong_at l.issuers (allocation_of l.states) (seat_shares (take 0 l.shares)) (seat_shares l.shares));
  seen : HaveSeen l.seen (seat_shares (take l.share-index l.shares));
  small : l.least ≡ None → All HasBrand (take l.share-index l.shares);
}
