use Rattle.vault.proofs.Hands.{goes_still, holds_still}
use Rattle.vault.proofs.draft_movements.what_stays_can_be_undone.Goals as goal

pub returns-clause-undone : goal.returns-clause-undone
returns-clause-undone c = λ old new stays goes. goes_still old new stays goes

pub returns-clause-holds : goal.returns-clause-holds
returns-clause-holds c = λ old new stays holds. holds_still old new stays holds
