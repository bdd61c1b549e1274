use Rattle.std.proofs.Common.{sym}
use Rattle.vault.proofs.GivenUp.{given_there}
use Rattle.vault.proofs.draft.Draft.supply.Goals as goal

pub returns-clause-store : goal.returns-clause-store
returns-clause-store c = rw (← c.self.view_is) (λ b lt. sym (given_there c.self.inside.stores b lt))
