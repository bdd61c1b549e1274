use Rattle.delivery_laws.proofs.Reading.{value_there}
use Rattle.delivery_laws.proofs.laws.messages_are_of_what_can_be_handed_out.Goals as goal

pub returns : goal.returns
returns c = record { value = λ w party path good. value_there w good party path }
