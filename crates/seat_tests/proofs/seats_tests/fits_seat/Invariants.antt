use Rattle.std.proofs.Common.{◌≡◌, None, All, take}
use Rattle.seats.specs.proposals.Shares.{amount_under}
use Rattle.seats.specs.proposals.declared.allocations.Share.{Share}
use Rattle.seat_tests.proofs.seats_tests.fits_seat.Given as goal

abbrev pub invariant-loop-share : goal.invariant-loop-share
invariant-loop-share l = All (λ (r : Share). amount_under r.keyword l.proposal.want ≡ None) (take l.share-index l.give)
