use Rattle.vault.proofs.Hands.{combined_stays, split_stays}
use Rattle.vault.proofs.draft_movements.the_hand_stays.Goals as goal

pub returns-clause-combined : goal.returns-clause-combined
returns-clause-combined c = λ before b kind to parts apart other holds. combined_stays before b kind to parts apart other holds

pub returns-clause-split : goal.returns-clause-split
returns-clause-split c = λ before b kind from parts apart other holds. split_stays before b kind from parts apart other holds
