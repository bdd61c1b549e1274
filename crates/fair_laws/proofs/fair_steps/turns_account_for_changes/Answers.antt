use Rattle.fair_laws.proofs.Accounting.{accounts_for}
use Rattle.fair_laws.proofs.fair_steps.turns_account_for_changes.Goals as goal

pub returns : goal.returns
returns c = record { accounts = accounts_for }
