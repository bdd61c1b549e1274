use Rattle.std.proofs.Common.{refl}
use Rattle.amount_math.proofs.Permuted.{made_of_pairs, pairs_are_entries}
use Rattle.amount_math.proofs.kinds.BagKindAmountKind.make.Goals as goal

pub returns-in-Some-clause-ok : goal.returns-in-Some-clause-ok
returns-in-Some-clause-ok c = (refl, made_of_pairs c.args.from.items c.in_ok-counted.counted.items c.in_ok-counted.ensures.ok c.in-Some.keyed.content c.in-Some.ensures.some)

pub returns-in-None-clause-bad_value : goal.returns-in-None-clause-bad_value
returns-in-None-clause-bad_value c = λ _ d bag pairs. c.in-None.ensures.none refl d bag (pairs_are_entries c.args.from.items c.in_ok-counted.counted.items c.in_ok-counted.ensures.ok d pairs)
