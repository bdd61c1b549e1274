use Rattle.std.proofs.Common.{◌≡◌, All, drop, take}
use Rattle.rearrange.specs.TestedPlans.{can_work}
use Rattle.call_arguments.specs.proposals.Shares.{AreApart}
use Rattle.rearrange.specs.Seats.{allocation_of}
use Rattle.rearrange.specs.Transfers.{worked}
use Rattle.rearrange.specs.Working.{shares_now}
use Rattle.share_transfers.specs.Changed.{changed_seats}
use Rattle.share_transfers.specs.Views.{transfer_views}
use Rattle.share_transfers.proofs.exchanges.work_all.Given as goal

abbrev pub invariant-loop-transfer : goal.invariant-loop-transfer
invariant-loop-transfer l = record {
  same : shares_now l.states (changed_seats l.now) ≡ worked (allocation_of l.states) (transfer_views (take l.transfer-index l.list));
  can : can_work (allocation_of l.states) (transfer_views l.list) ≡ can_work (worked (allocation_of l.states) (transfer_views (take l.transfer-index l.list))) (transfer_views (drop l.transfer-index l.list));
  apart : All (λ s. AreApart s.shares.items) (changed_seats l.now);
}
