use Rattle.std.proofs.Common.{refl}
use Rattle.amount_math.proofs.Permuted.{made_set, made_of_keys, keys_are_entries, set_is_bag}
use Rattle.amount_math.proofs.kinds.SetKindAmountKind.make.Goals as goal

pub invariant_of-result : goal.invariant_of-result
invariant_of-result c = made_set c.args.from.items c.in-Ok.once.items c.in-Ok.ensures c.in-Some.keyed.content c.in-Some.ensures.value c.in-Some.ensures.some

pub returns-in-Some-clause-ok : goal.returns-in-Some-clause-ok
returns-in-Some-clause-ok c = (refl, made_of_keys c.args.from.items c.in-Ok.once.items c.in-Ok.ensures c.in-Some.keyed.content c.in-Some.ensures.some)

pub returns-in-Some-clause-value : goal.returns-in-Some-clause-value
returns-in-Some-clause-value c = made_set c.args.from.items c.in-Ok.once.items c.in-Ok.ensures c.in-Some.keyed.content c.in-Some.ensures.value c.in-Some.ensures.some

pub returns-in-None-clause-bad_value : goal.returns-in-None-clause-bad_value
returns-in-None-clause-bad_value c = λ _ d set keys. c.in-None.ensures.none refl d (set_is_bag d set) (keys_are_entries c.args.from.items c.in-Ok.once.items c.in-Ok.ensures d set keys)
