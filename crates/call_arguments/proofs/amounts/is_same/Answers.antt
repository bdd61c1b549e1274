use Rattle.call_arguments.specs.Amounts.{is_same}
use Rattle.call_arguments.proofs.Same.{decided, same_is, same_itself}
use Rattle.call_arguments.proofs.amounts.is_same.Goals as goal

pub returns : goal.returns
returns c =
    let a = c.args.held.now in
    let b = c.args.named.now in
    decided c.is_equal.result (is_same a b) (λ t. same_itself a b (c.is_equal.ensures.0 t)) (λ t. c.is_equal.ensures.1 (same_is a b c.requires t))
