-- What is read, as the rules have it.
use Rattle.ertp_calls.specs.declared.live_payments.LivePayment.{LivePayment}
use Rattle.rules.specs.GivenPayments as given_payments

abbrev pub live_view : LivePayment → given_payments.LivePayment
live_view p = record { number = p.number; value = p.value }
