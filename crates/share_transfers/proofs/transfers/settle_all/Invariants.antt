use Rattle.std.proofs.Common.{◌≡◌, All, IfSome, map, take}
use Rattle.call_arguments.specs.proposals.Shares.{AreApart}
use Rattle.rearrange.specs.Safety.{MeetProposal}
use Rattle.rearrange.specs.Seats.{state_of}
use Rattle.rearrange.specs.Staged.{touched_with}
use Rattle.rearrange.specs.Sums.{all_touched}
use Rattle.rearrange.specs.Working.{shares_now}
use Rattle.share_transfers.specs.Changed.{changed_seats}
use Rattle.share_transfers.proofs.transfers.settle_all.Given as goal

abbrev pub invariant-loop-seat : goal.invariant-loop-seat
invariant-loop-seat l = record {
  same : all_touched l.states l.done.items ≡ map (λ seat. touched_with l.states seat (shares_now l.states (changed_seats l.copy) seat)) (take l.seat-index l.seats);
  apart : All (λ s. AreApart s.shares.items) l.done.items;
  meets : All (λ s. IfSome (state_of l.states s.seat) (MeetProposal s.shares.items)) l.done.items;
}
