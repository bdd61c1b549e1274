use Rattle.vault_model.proofs.FlowLaws.{split_can, split_law}
use Rattle.vault_model.proofs.laws.split_goes_by_the_hand.Goals as goal

pub returns-clause-can : goal.returns-clause-can
returns-clause-can c = λ before b kind from parts hands has. split_can before b kind from parts hands has

pub returns-clause-table : goal.returns-clause-table
returns-clause-table c = λ before b kind from parts hands has can. split_law before b kind from parts hands has can
