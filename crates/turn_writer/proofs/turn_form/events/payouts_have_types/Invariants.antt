use Rattle.std.proofs.Common.{take}
use Rattle.std.specs.List.{All}
use Rattle.turn_records.specs.Tellable.{IsTellablePayout}
use Rattle.turn_records.specs.Views.{payout_view}
use Rattle.turn_writer.proofs.turn_form.events.payouts_have_types.Given as goal

abbrev pub invariant-loop-payout : goal.invariant-loop-payout
invariant-loop-payout l = All (λ p. IsTellablePayout (payout_view p)) (take l.payout-index l.payouts)
