use Rattle.turn_records.specs.refusals.Codes.{refusal_tree}
use Rattle.turn_writer.proofs.answers.refusal_value.Goals as goal

pub returns : goal.returns
unfolding refusal_tree
returns c = rw c.in_ok-refusal.ensures.table at c.under.ensures
