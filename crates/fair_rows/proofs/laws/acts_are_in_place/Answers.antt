use Rattle.fair_rows.proofs.Acts.{acts_show_rows, exit_is_act, offer_is_act, singles_are_acts}
use Rattle.fair_rows.proofs.laws.acts_are_in_place.Goals as goal

pub returns-clause-acts : goal.returns-clause-acts
returns-clause-acts c = acts_show_rows

pub returns-clause-exit : goal.returns-clause-exit
returns-clause-exit c = exit_is_act

pub returns-clause-offer : goal.returns-clause-offer
returns-clause-offer c = offer_is_act

pub returns-clause-singles : goal.returns-clause-singles
returns-clause-singles c = singles_are_acts
