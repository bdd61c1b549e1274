use Rattle.std.proofs.Common.{◌∙◌, ap}
use Rattle.amount_math.specs.Held.{Held}
use Rattle.ertp_mint.specs.Balances.{BalanceView, taken_put, with_put}
use Rattle.ertp_mint.proofs.Stored.{goes_back, value_left}
use Rattle.ertp_mint.proofs.balance.Balance.take_value.Goals as goal

pub invariant_of-self : goal.invariant_of-self
invariant_of-self c = rw c.take_out.ensures.less (value_left _ _ _ c.self.invariant)

pub returns-clause-back : goal.returns-clause-back
returns-clause-back c =
    let old : BalanceView = record { amount = record { brand = c.self.inside.brand; value = c.self.inside.held.value }; room = c.self.inside.held.room } in
    let out = rw (← c.self.view_is) at c.requires in
    let back = rw c.take_out.ensures.less at c.take_out.ensures.back in
    rw (c.issued.ensures, c.take_out.ensures.less) (goes_back old c.args.value c.self.invariant back.room out)

pub returns-clause-undone : goal.returns-clause-undone
returns-clause-undone c =
    let brand = c.self.inside.brand in
    let part = c.args.value.content in
    let old : BalanceView = record { amount = record { brand = brand; value = c.self.inside.held.value }; room = c.self.inside.held.room } in
    let out = rw (← c.self.view_is) at c.requires in
    ap (λ (h : Held). with_put (record { amount = record { brand = brand; value = h.value }; room = h.room }) part) c.take_out.ensures.less ∙ taken_put old part out.has ∙ c.self.view_is
