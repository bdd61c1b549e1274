use Rattle.std.proofs.Common.{refl}
use Rattle.escrow.proofs.Tellings.{sums_seated}
use Rattle.escrow.proofs.Escrow.opened.Goals as goal

pub returns-clause-sums : goal.returns-clause-sums
returns-clause-sums c =
    rw (← c.self.view_is) (λ t sums. sums_seated t _ _ c.args.instance (record { totals = refl; shares = refl; instances = c.in_ok-push.ensures.items }) sums)
