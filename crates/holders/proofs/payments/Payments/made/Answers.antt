use Rattle.std.proofs.Common.{arith, ◌∙◌, sym}
use Rattle.holders.proofs.Books.{keys_long, payment_views_long}
use Rattle.holders.proofs.payments.Payments.made.Goals as goal

pub returns-clause-made : goal.returns-clause-made
returns-clause-made c = rw (← c.self.view_is) (omega (arith, c.len.ensures, payment_views_long 0 c.self.inside.live c.self.inside.listed.items))

pub returns-clause-keys : goal.returns-clause-keys
returns-clause-keys c = rw (← c.self.view_is) (keys_long c.self.inside.listed.items ∙ sym (payment_views_long 0 c.self.inside.live c.self.inside.listed.items))

pub returns-clause-few : goal.returns-clause-few
returns-clause-few c = rw (← c.self.view_is) (omega (arith, c.self.invariant.few, payment_views_long 0 c.self.inside.live c.self.inside.listed.items))
