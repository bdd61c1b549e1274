use Rattle.std.proofs.Common.{subst, arith}
use Rattle.std.proofs.lemmas.List.{take_all}
use Rattle.std.proofs.lemmas.List.Elements.{All-more}
use Rattle.turn_records.specs.Tellable.{IsTellablePayout}
use Rattle.turn_records.specs.Views.{payout_view}
use Rattle.turn_writer.proofs.Told.{each_view}
use Rattle.turn_writer.proofs.turn_form.events.payouts_have_types.Goals as goal

pub loop-payout-preserved : goal.loop-payout-preserved
loop-payout-preserved c =
    All-more (λ p. IsTellablePayout (payout_view p)) c.args.payouts.now c.loop-payout.payout-index c.payout-item.result (omega arith) c.loop-payout.invariant
    (subst (λ p. IsTellablePayout (payout_view p)) c.payout-item.is c.payout_has_types.ensures)

pub returns : goal.returns
returns c = each_view IsTellablePayout payout_view c.args.payouts.now (rw (take_all c.loop-payout.payout-index c.args.payouts.now (omega arith)) at c.loop-payout.invariant)
