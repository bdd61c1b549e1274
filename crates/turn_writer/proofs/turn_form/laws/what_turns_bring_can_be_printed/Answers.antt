use Rattle.turn_writer.proofs.Brought.{refusal_prints, settled_prints, told_prints}
use Rattle.turn_writer.proofs.turn_form.laws.what_turns_bring_can_be_printed.Goals as goal

pub returns-clause-refusals : goal.returns-clause-refusals
returns-clause-refusals c = refusal_prints

pub returns-clause-settled : goal.returns-clause-settled
returns-clause-settled c = settled_prints

pub returns-clause-told : goal.returns-clause-told
returns-clause-told c = told_prints
