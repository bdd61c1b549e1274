use Rattle.std.proofs.Common.{◌≡◌, [], ◌∷◌, refl, sym, ap, ◌∙◌}
use Rattle.std.specs.BTreeMap.{is_at}
use Rattle.std.specs.List.{list_any}
use Rattle.std.specs.Map.Iter.{deref}
use Rattle.std.specs.Ordering.{nat_cmp}
use Rattle.std.proofs.lemmas.Map.Iter.{rest_all, rest_more}
use Rattle.told_seats.specs.SeatSteps.{IsSafeAt}
use Rattle.told_seats.proofs.SeatTests.{safe_all, safe_more}
use Rattle.told_seats.proofs.seats.Seats.are_safe.Goals as goal

pub returns-then-not-branch : goal.returns-then-not-branch
returns-then-not-branch c = λ i t r. (λ h. absurd (cc), λ all. sym c.if-not-branch.true ∙ (c.in_ok-is_safe.ensures i t.seats r).1 (all c.in-Some.number.now))

pub loop-number-preserved : goal.loop-number-preserved
loop-number-preserved c = λ i t r n has away.
    let next : c.loop-number.number-iterator ≡ c.in-Some.number.now ∷ c.next.new.self = rest_more deref c.loop-number.number-iterator c.next.new.self c.next.result c.in-Some.number c.in-Some.is c.next.ensures.steps in
    safe_more (IsSafeAt i.now.seats i.now.table) n c.in-Some.number.now c.next.new.self ((c.in_ok-is_safe.ensures i t r).0 c.if-not-branch.false)
    (λ left. c.loop-number.invariant i t r n has (ap (list_any (is_at (nat_cmp n))) next ∙ left)) away

pub returns : goal.returns
returns c = λ i t r.
    let none : c.loop-number.number-iterator ≡ [] = rest_all deref c.loop-number.number-iterator c.next.new.self c.next.result c.in-None.is c.next.ensures.steps in
    (λ h. safe_all c.args.self.now i t (λ n has. c.loop-number.invariant i t.seats r n has (ap (list_any (is_at (nat_cmp n))) none)), λ h. refl)
