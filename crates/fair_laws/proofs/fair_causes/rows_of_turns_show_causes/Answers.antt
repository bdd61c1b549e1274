use Rattle.fair_laws.proofs.Others.{by_the_turn}
use Rattle.fair_laws.proofs.fair_causes.rows_of_turns_show_causes.Goals as goal

pub returns : goal.returns
returns c = record { shown = by_the_turn }
