use Rattle.jessie_semantics.proofs.Tests.{is_nothing-true, same_test, true-is_nothing}
use Rattle.jessie_semantics.proofs.worths.is_nothing.Goals as goal

pub returns : goal.returns
returns c =
    let v = c.args.value.now.content in
    same_test _ _ (λ h. true-is_nothing v (c.is_empty.ensures.0 h)) (λ h. c.is_empty.ensures.1 (is_nothing-true v h))
