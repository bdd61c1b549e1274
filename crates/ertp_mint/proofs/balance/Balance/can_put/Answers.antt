use Rattle.std.proofs.Common.{subst, sym}
use Rattle.amount_math.specs.KindLaws.{has_few, value_of_sum}
use Rattle.amount_math.specs.ValueView.{IsValue, fits_from_value}
use Rattle.amount_math.specs.declared.Kind.{Kind}
use Rattle.ertp_mint.proofs.balance.Balance.can_put.Goals as goal

pub returns-clause-ok : goal.returns-clause-ok
returns-clause-ok c =
    let kinds = rw (← c.self.view_is) at c.requires in
    rw (← c.self.view_is) (λ ok. value_of_sum _ _ _ c.self.invariant (subst (λ (k : Kind). IsValue k c.args.value.now.content) (sym kinds) c.kind-kind.ensures.value) (c.can_absorb.ensures.fits ok) (c.can_absorb.ensures.few ok))

pub returns-clause-sure : goal.returns-clause-sure
returns-clause-sure c = rw (← c.self.view_is) (λ value. c.can_absorb.ensures.sure (fits_from_value _ _ value) (has_few _ _ value))
