use Rattle.licence_laws.proofs.TakenBack.{spent_is_taken_back}
use Rattle.licence_laws.proofs.spent_turns.spent_turns_are_taken_back.Goals as goal

pub returns : goal.returns
returns c = record { step = λ read s host. spent_is_taken_back read s host }
