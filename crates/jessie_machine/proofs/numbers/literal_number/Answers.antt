use Rattle.std.proofs.Common.{ap}
use Rattle.jessie_index.specs.jessie_values.Literals.{literal_tree}
use Rattle.jessie_machine.proofs.AtHand.{literal_paid}
use Rattle.jessie_machine.proofs.numbers.literal_number.Goals as goal

pub returns-in-Number-clause-does : goal.returns-in-Number-clause-does
returns-in-Number-clause-does c = λ locals. literal_paid c.paid_number.result (literal_tree c.args.literal.now) c.in-Number.number locals _ _ (ap literal_tree c.in-Number.is) c.paid_number.ensures.value c.paid_number.ensures.paid
