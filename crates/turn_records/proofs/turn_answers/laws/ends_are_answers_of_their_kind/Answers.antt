use Rattle.turn_records.proofs.Ending.{ends, tells}
use Rattle.turn_records.proofs.turn_answers.laws.ends_are_answers_of_their_kind.Goals as goal

pub returns-clause-answers : goal.returns-clause-answers
returns-clause-answers c = ends

pub returns-clause-events : goal.returns-clause-events
returns-clause-events c = tells
