use Rattle.std.proofs.Common.{subst}
use Rattle.refusals.specs.amount_math.Content.{sum}
use Rattle.refusals.specs.amount_math.ValueView.{IsPutRefusal}
use Rattle.value_tests.proofs.SumParts.{not_too_much}
use Rattle.value_tests.proofs.value_sums.put.Goals as goal

pub unreachable-requires-in-Err-default-TooMuch : goal.unreachable-requires-in-Err-default-TooMuch
unreachable-requires-in-Err-default-TooMuch c =
    let a = c.args.whole.now in
    let told = subst (IsPutRefusal a.kind (sum a.content c.args.part.content)) c.in-Err-default-TooMuch.field-0-1-is c.in-Err-default-TooMuch.ensures.refused in
    not_too_much a c.args.part _ c.requires.can told
