use Rattle.std.proofs.Common.{◌≡◌, All, IfSome, take}
use Rattle.proposals.specs.Shares.{AreApart}
use Rattle.rearrange.specs.Safety.{MeetProposal}
use Rattle.rearrange.specs.Seats.{state_of}
use Rattle.rearrange.specs.Staged.{staged_plan}
use Rattle.rearrange.specs.Sums.{all_touched}
use Rattle.rearrange.proofs.staged.all_with_staging.Given as goal

abbrev pub invariant-loop-seat : goal.invariant-loop-seat
invariant-loop-seat l = record {
  same : all_touched l.states l.list.items ≡ staged_plan l.states (take l.seat-index l.seats);
  apart : All (λ s. AreApart s.shares.items) l.list.items;
  meets : All (λ s. IfSome (state_of l.states s.seat) (MeetProposal s.shares.items)) l.list.items;
}
