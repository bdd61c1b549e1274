use Rattle.delivery_laws.proofs.Ends.{ending_good}
use Rattle.delivery_laws.proofs.laws.ends_of_turns_are_good.Goals as goal

pub returns : goal.returns
returns c = record { good = ending_good }
