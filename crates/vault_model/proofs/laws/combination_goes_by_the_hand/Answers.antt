use Rattle.vault_model.proofs.FlowLaws.{combine_can, combine_law}
use Rattle.vault_model.proofs.laws.combination_goes_by_the_hand.Goals as goal

pub returns-clause-can : goal.returns-clause-can
returns-clause-can c = λ before b kind to parts inside apart hands can. combine_can before b kind to parts inside apart hands can

pub returns-clause-table : goal.returns-clause-table
returns-clause-table c = λ before b kind to parts inside apart hands can. combine_law before b kind to parts inside apart hands can
