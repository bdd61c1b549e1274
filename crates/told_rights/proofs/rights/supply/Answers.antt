use Rattle.told_rights.proofs.Seen.{on_ok}
use Rattle.told_rights.proofs.rights.supply.Goals as goal

pub returns-clause-bounded : goal.returns-clause-bounded
returns-clause-bounded c = on_ok c.retire.result _ _ (λ h b kind v old. h b kind v (c.in_ok-issue.ensures.bounded b kind v old)) c.retire.ensures.bounded
