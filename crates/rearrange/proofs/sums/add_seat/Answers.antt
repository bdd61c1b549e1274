use Rattle.std.proofs.Common.{List, subst}
use Rattle.std.proofs.lemmas.Result.{on_ok_weaker}
use Rattle.proposals.specs.declared.allocations.Share.{Share}
use Rattle.rearrange.specs.Parts.{HaveMore}
use Rattle.rearrange.specs.Sums.{shares_count, touched_of}
use Rattle.rearrange.specs.declared.parts.Side.TheVariants.{Before, After}
use Rattle.rearrange.proofs.Conserved.{seat_on}
use Rattle.rearrange.proofs.sums.add_seat.Goals as goal

pub returns : goal.returns
returns c =
    let t = touched_of c.args.states.now c.args.seat.now in
    let old = c.args.parts.now.items in
    let first = subst (λ (shares : List Share). HaveMore Before (λ x. shares_count x.0 x.1 shares) old c.add_shares.new.parts.items) c.allocation_of.ensures.shares c.in_ok-add_shares.ensures in
    on_ok_weaker c.add_shares-2.result (λ more. seat_on t old _ _ first (subst (λ (shares : List Share). HaveMore After (λ x. shares_count x.0 x.1 shares) c.add_shares.new.parts.items c.add_shares-2.new.parts.items) c.as_slice.ensures.value more)) c.add_shares-2.ensures
