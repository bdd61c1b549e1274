use Rattle.refusals.specs.amount_math.declared.PutFault.TheVariants as put_fault
use Rattle.rules.proofs.rearrange.Gains.{gains_fail}
use Rattle.zseat_calls.proofs.changes.shares_with_gains.Goals as goal

pub unreachable-requires : goal.unreachable-requires
unreachable-requires c =
    let fails = gains_fail c.args.now.now c.args.gains.now (put_fault.Overlap c.in-Err-Overlap.field-0-0) (rw c.in-Err-Overlap.field-0-is at c.in-Err-Overlap.ensures.refused) in
    let gives = c.requires.gives in
    cc

pub unreachable-requires-in-Err-TooMuch : goal.unreachable-requires-in-Err-TooMuch
unreachable-requires-in-Err-TooMuch c =
    let fails = gains_fail c.args.now.now c.args.gains.now (put_fault.TooMuch c.in-Err-TooMuch.field-0-0) (rw c.in-Err-TooMuch.field-0-is at c.in-Err-TooMuch.ensures.refused) in
    let gives = c.requires.gives in
    cc
