use Rattle.value_tests.proofs.Contents.{has-true, same_test, true-has}
use Rattle.value_tests.proofs.holding_checks.has.Goals as goal

pub returns-clause-test : goal.returns-clause-test
returns-clause-test c =
    let a = c.args.held.now.value in
    let b = c.args.asked.now in
    same_test _ _ (λ h. true-has a b (c.is_gte.ensures.0 h)) (λ h. c.is_gte.ensures.1 (has-true a b h))
