use Rattle.std.proofs.Common.{◌≡◌, ◌<◌, length, ap, ◌∙◌}
use Rattle.ertp_calls.specs.host_world.Worlds.{world_of}
use Rattle.ertp_calls.specs.declared.live_payments.LivePayment.{LivePayment}
use Rattle.rules.specs.world_state.Rights.{kind_at}
use Rattle.issuer_calls.proofs.LiveLists.{one_more, values_more}
use Rattle.issuer_calls.proofs.payment_lists.with_values.Goals as goal

pub loop-payment-preserved : goal.loop-payment-preserved
loop-payment-preserved c =
    let low : c.loop-payment.payment-index < length c.args.payments.now = c.loop-payment-test.true in
    record {
      values = rw c.push_reserved.ensures.items (values_more (world_of c.args.world.now) c.loop-payment.found.items c.in_ok-with_value.field-0 c.args.payments.now c.loop-payment.payment-index low c.loop-payment.invariant.values c.in_ok-with_value.ensures.value);
      numbers = rw c.push_reserved.ensures.items (one_more (λ (p : LivePayment). p.number < length (world_of c.args.world.now).rights.payments) c.loop-payment.found.items c.in_ok-with_value.field-0 c.loop-payment.invariant.numbers (rw c.in_ok-with_value.ensures.number (c.requires.made c.loop-payment.payment-index 0 low)));
      kinds = rw c.push_reserved.ensures.items (one_more (λ (p : LivePayment). p.value.kind ≡ kind_at (world_of c.args.world.now).rights.out c.args.brand) c.loop-payment.found.items c.in_ok-with_value.field-0 c.loop-payment.invariant.kinds (c.in_ok-with_value.ensures.kind ∙ ap (kind_at (world_of c.args.world.now).rights.out) (c.requires.of_brand c.loop-payment.payment-index 0 low)));
      room = rw c.push_reserved.ensures.capacity c.loop-payment.invariant.room;
    }
