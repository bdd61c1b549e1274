use Rattle.std.proofs.Common.{Ok, sym, ap, ◌∙◌}
use Rattle.host_data.specs.amount_math.Content.{sum}
use Rattle.host_data.specs.amount_math.ValueView.{with_content}
use Rattle.jessie_semantics.proofs.Sums.{refused, value_passes}
use Rattle.jessie_semantics.proofs.worths.sum_in.Goals as goal

pub returns-in-Ok : goal.returns-in-Ok
returns-in-Ok c =
    value_passes (with_content c.args.left (sum c.args.left.content c.args.right.content)) c.in-Ok.ensures.value ∙ ap Ok (sym c.in-Ok.ensures.ok)

pub returns-in-Err : goal.returns-in-Err
returns-in-Err c =
    rw c.of_put.ensures (refused (with_content c.args.left (sum c.args.left.content c.args.right.content)) c.in-Err.fault c.in-Err.ensures.refused)
