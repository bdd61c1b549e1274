use Rattle.std.proofs.Common.{ℕ, List, Option, All, IfSome, sym, ap, ◌∙◌, subst}
use Rattle.call_arguments.specs.proposals.Losses.{without}
use Rattle.call_arguments.specs.proposals.OfferSafety.{MeetSlots}
use Rattle.call_arguments.specs.proposals.Shares.{AreApart}
use Rattle.call_arguments.specs.proposals.declared.allocations.Share.{Share}
use Rattle.rearrange.proofs.Copies.{apart_put, put_on}
use Rattle.rearrange.specs.Transfers.{losses_of}
use Rattle.rearrange.specs.Working.{shares_now}
use Rattle.rearrange.specs.declared.sums.SeatShares.{SeatShares}
use Rattle.share_transfers.specs.Changed.{changed_seats}
use Rattle.share_transfers.specs.Views.{transfer_view}
use Rattle.share_transfers.proofs.exchanges.take.Goals as goal

pub slots_less-requires-clause-meet : goal.slots_less-requires-clause-meet
slots_less-requires-clause-meet c =
    let t = transfer_view c.args.transfer.now in
    let states = c.args.states.now in
    let shares = c.shares.ensures.shares in
    let meet = subst (λ (o : Option ℕ). IfSome o (λ seat. MeetSlots (shares_now states (changed_seats c.args.copy.now) seat) (losses_of t))) c.in-Some.is c.requires.meet in
    subst (λ (given : List Share). MeetSlots c.shares.result.now given) (sym c.losses_of.ensures) (subst (λ (rs : List Share). MeetSlots rs (losses_of t)) (sym shares) meet)

pub returns-clause-ok : goal.returns-clause-ok
returns-clause-ok c =
    let t = transfer_view c.args.transfer.now in
    let states = c.args.states.now in
    let shares = c.shares.ensures.shares in
    let is = c.in_ok-shares.ensures.after ∙ ap (λ (rs : List Share). without rs c.losses_of.result.now) shares ∙ ap (without (shares_now states (changed_seats c.args.copy.now) c.in-Some.seat)) c.losses_of.ensures in
    put_on states (changed_seats c.args.copy.now) (changed_seats c.put.new.self) t.from c.in-Some.seat c.in_ok-shares.shares (λ seat. without (shares_now states (changed_seats c.args.copy.now) seat) (losses_of t)) c.in-Some.is is c.in_ok-put.ensures

pub returns-clause-apart : goal.returns-clause-apart
returns-clause-apart c =
    subst (All (λ (s : SeatShares). AreApart s.shares.items)) (sym c.in_ok-put.ensures) (apart_put c.in-Some.seat c.in_ok-shares.shares (changed_seats c.args.copy.now) c.in_ok-shares.ensures.apart c.requires.apart)
