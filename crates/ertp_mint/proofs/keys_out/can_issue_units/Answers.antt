use Rattle.std.proofs.Common.{◌+◌, ap, arith, refl, []}
use Rattle.amount_math.proofs.Shapes.{nat_is_no_set}
use Rattle.ertp_mint.specs.declared.place.Place.{Place}
use Rattle.ertp_mint.proofs.Placed.{held_at, units_do_not_fit, units_fit, units_past}
use Rattle.ertp_mint.proofs.keys_out.can_issue_units.Goals as goal

pub overflow_add-sum : goal.overflow_add-sum
overflow_add-sum c = let held = ap (λ (p : Place). p.out) c.place_of-held.ensures in omega (arith, held, held_at c.args.places.now.entries [], c.requires.fits.each [], c.requires.bounded)

pub returns-then-sum-bound-clause-sure : goal.returns-then-sum-bound-clause-sure
returns-then-sum-bound-clause-sure c = let held = ap (λ (p : Place). p.out) c.place_of-held.ensures in λ fits. absurd (units_do_not_fit c.args.places.now.entries c.args.units (omega (arith, held, c.if-sum-bound.true)) fits)

pub returns-then-sum-bound-clause-refused : goal.returns-then-sum-bound-clause-refused
returns-then-sum-bound-clause-refused c =
    let held = ap (λ (p : Place). p.out) c.place_of-held.ensures in
    (nat_is_no_set, units_past c.args.places.now.entries c.args.units _ (ap (λ n. n + c.args.units) held) refl (omega (arith, held, c.if-sum-bound.true)))

pub returns-clause-ok : goal.returns-clause-ok
returns-clause-ok c = let held = ap (λ (p : Place). p.out) c.place_of-held.ensures in λ _. units_fit c.args.places.now.entries c.args.units c.requires.fits (omega (arith, held, c.if-sum-bound.false))
