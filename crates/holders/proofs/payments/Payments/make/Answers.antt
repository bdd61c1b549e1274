use Rattle.std.proofs.Common.{arith}
use Rattle.holders.proofs.Books.{payment_views_long}
use Rattle.holders.proofs.payments.Payments.make.Goals as goal

pub add-requires-clause-few : goal.add-requires-clause-few
add-requires-clause-few c =
    let long = payment_views_long 0 c.self.inside.live c.self.inside.listed.items in
    let left = rw (← c.self.view_is) at c.left.ensures in
    let some = c.if-left-eq0.false in
    omega (arith, long, left, some)

pub returns-in-Ok-clause-payment : goal.returns-in-Ok-clause-payment
returns-in-Ok-clause-payment c = rw (← c.self.view_is, payment_views_long 0 c.self.inside.live c.self.inside.listed.items) c.in-Ok.ensures.payment

pub invariant_of-self : goal.invariant_of-self
invariant_of-self c =
    let long = payment_views_long 0 c.self.inside.live c.self.inside.listed.items in
    let left = rw (← c.self.view_is) at c.left.ensures in
    let some = c.if-left-eq0.false in
    let one_more = c.in-Ok.ensures.len in
    record { kept = c.in-Ok.ensures.kept; few = omega (arith, long, left, some, one_more) }
