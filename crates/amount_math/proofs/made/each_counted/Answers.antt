use Rattle.std.proofs.Common.{FitsSigned, refl, arith, rules, sym, ◌∙◌}
use Rattle.std.specs.Int.{w128}
use Rattle.std.proofs.Math.Facts.{to_z-of_z}
use Rattle.amount_math.proofs.Permuted.{moved_pair, last_holds, pairs_are_small, IsPair}
use Rattle.amount_math.proofs.made.each_counted.Goals as goal

pub returns-in_default-within_bound-clause-bad_value : goal.returns-in_default-within_bound-clause-bad_value
returns-in_default-within_bound-clause-bad_value c = λ _ d bag same.
    let fits : FitsSigned w128 c.in-Some.pair.1 = search rules in
    let pair = last_holds IsPair c.args.pairs.items _ c.pop.new.self.items c.in-Some.pair (rw c.in-Some.ensures.items at c.loop-pair.invariant.same) (pairs_are_small c.args.pairs.items d bag same) in
    omega (arith, pair.bounded, c.in_default-within_bound.ensures.none refl pair.number (to_z-of_z fits ∙ pair.is))

pub loop-pair-preserved : goal.loop-pair-preserved
loop-pair-preserved c =
    let fits : FitsSigned w128 c.in-Some.pair.1 = search rules in
    let whole = sym (to_z-of_z fits) ∙ c.in-Some-within_bound.ensures.some.0 in
    let room = c.loop-pair.invariant.room in
    record {
      same = rw (c.push_reserved.ensures.items, c.new.ensures) (moved_pair _ c.pop.new.self.items c.loop-pair.made.items _ c.in-Some.pair (λ j. (c.in-Some.pair.0, whole j)) (rw c.in-Some.ensures.items at c.loop-pair.invariant.same));
      room = omega (arith, c.push_reserved.ensures.len, c.push_reserved.ensures.capacity, c.in-Some.ensures.len, room);
    }
