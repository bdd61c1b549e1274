use Rattle.std.proofs.Common.{List, subst}
use Rattle.std.proofs.lemmas.Result.{on_ok_weaker}
use Rattle.proposals.specs.declared.allocations.Share.{Share}
use Rattle.rearrange.specs.Parts.{HaveShares}
use Rattle.rearrange.specs.Seats.{allocation_of}
use Rattle.rearrange.proofs.sums.add_unlike_seat.Goals as goal

pub returns : goal.returns
returns c =
    let seat = c.args.seat.now in
    let old = c.args.parts.now.items in
    let new = c.add_unlike_shares.new.parts.items in
    on_ok_weaker c.add_unlike_shares.result
    (λ change. subst (λ (shares : List Share). HaveShares (allocation_of c.args.states.now seat.seat) shares old new) c.as_slice.ensures.value
    (subst (λ (shares : List Share). HaveShares shares c.as_slice.result.now old new) c.allocation_of.ensures.shares change))
    c.add_unlike_shares.ensures
