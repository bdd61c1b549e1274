use Rattle.jessie_semantics.proofs.Tests.{has-true, same_test, true-has}
use Rattle.jessie_semantics.proofs.worths.has.Goals as goal

pub returns-clause-test : goal.returns-clause-test
returns-clause-test c =
    let a = c.args.left.now in
    let b = c.args.right.now in
    same_test _ _ (λ h. true-has a b (c.is_gte.ensures.0 h)) (λ h. c.is_gte.ensures.1 (has-true a b h))
