use Rattle.jessie_grammar.proofs.Answered.{answered, answered_alone}
use Rattle.jessie_reader.proofs.reader.read_module.Goals as goal

pub returns-clause-comes : goal.returns-clause-comes
returns-clause-comes c = answered c.args.bytes.now c.answer.result c.answer.ensures

pub returns-clause-alone : goal.returns-clause-alone
returns-clause-alone c = answered_alone c.args.bytes.now c.answer.result c.answer.ensures
