use Rattle.holders.proofs.Books.{payment_views_long}
use Rattle.holders.proofs.payments.Payments.make_from_slot.Goals as goal

pub returns-in-Ok-clause-payment : goal.returns-in-Ok-clause-payment
returns-in-Ok-clause-payment c = rw (← c.self.view_is, payment_views_long 0 c.self.inside.live c.self.inside.listed.items) c.in-Ok.ensures.payment
