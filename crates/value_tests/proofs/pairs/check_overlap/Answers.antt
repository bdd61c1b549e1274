use Rattle.std.proofs.Common.{refl, subst}
use Rattle.refusals.specs.amount_math.Content.{sum}
use Rattle.refusals.specs.amount_math.ValueView.{IsPutRefusal, fits_from_value}
use Rattle.value_tests.proofs.Sums.{overlap_else, overlap_none, overlap_there}
use Rattle.value_tests.proofs.pairs.check_overlap.Goals as goal

pub returns-in-Err-Overlap : goal.returns-in-Err-Overlap
returns-in-Err-Overlap c =
    let kind = c.args.held.now.kind in
    let both = sum c.args.held.now.content c.args.given.now.content in
    overlap_there kind both c.in-Err-Overlap.key (subst (IsPutRefusal kind both) c.in-Err-Overlap.field-0-is c.in-Err-Overlap.ensures.refused)

pub returns-in-Err-TooMuch : goal.returns-in-Err-TooMuch
returns-in-Err-TooMuch c =
    let kind = c.args.held.now.kind in
    let both = sum c.args.held.now.content c.args.given.now.content in
    overlap_else kind both _ (subst (IsPutRefusal kind both) c.in-Err-TooMuch.field-0-is c.in-Err-TooMuch.ensures.refused)

pub returns-in-Ok : goal.returns-in-Ok
returns-in-Ok c = overlap_none c.args.held.now.kind (sum c.args.held.now.content c.args.given.now.content) (fits_from_value _ _ (c.in-Ok.ensures.ok refl))
