use Rattle.std.proofs.Common.{sym, subst}
use Rattle.escrow.specs.rights_model.Table.{no_holdings}
use Rattle.escrow.specs.Told.{EscrowState}
use Rattle.escrow.specs.Sums.{AreSums}
use Rattle.escrow.proofs.Tellings.{sums_started}
use Rattle.store_tests.proofs.escrow_tests.open.Goals as goal

pub returns-clause-told : goal.returns-clause-told
returns-clause-told g c = c.in-Ok.ensures.sums no_holdings (subst (λ (e : EscrowState). AreSums no_holdings e) (sym c.requires) sums_started)
