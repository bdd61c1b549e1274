use Rattle.std.proofs.Common.{arith, sym, ap, length, ◌≡◌}
use Rattle.holders.proofs.Books.{payment_views_long}
use Rattle.holders.proofs.payments.Payments.reserve_slots.Goals as goal

pub invariant_of-self : goal.invariant_of-self
invariant_of-self c =
    let long = payment_views_long 0 c.self.inside.live c.self.inside.listed.items in
    let left = rw (← c.self.view_is) at c.left.ensures in
    let enough = c.if-left-slots.false in
    record { kept = c.self.invariant.kept; few = omega (arith, long, left, enough) }
