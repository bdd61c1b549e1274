use Rattle.std.specs.Borrow.{Bor}
use Rattle.std.proofs.Common.{List, length, map, ap, subst, ◌∙◌, ◌<◌, arith}
use Rattle.refusals.specs.amount_math.ValueView.{ValueView}
use Rattle.rules.specs.ertp_mint.BrandSupply.{BrandSupply, supply_at}
use Rattle.refusals.specs.Outcomes.{Gives}
use Rattle.rules.specs.value_tests.Tests.{can_come_out}
use Rattle.rules.specs.value_tests.Totals.{total_of}
use Rattle.escrow_calls.proofs.Issued.{nothing_stored, supplies_counted}
use Rattle.escrow_calls.proofs.supply.check_comes_out.Goals as goal

pub check_all_out-requires-clause-made : goal.check_all_out-requires-clause-made
check_all_out-requires-clause-made c = omega (arith, supplies_counted c.supply.result.now.out, ap (λ (l : List BrandSupply). length l) c.supply.ensures.supply, c.requires.made)

pub check_all_out-requires-clause-empty : goal.check_all_out-requires-clause-empty
check_all_out-requires-clause-empty c =
    let made : c.args.brand < length c.supply.result.now.out = omega (arith, supplies_counted c.supply.result.now.out, ap (λ (l : List BrandSupply). length l) c.supply.ensures.supply, c.requires.made) in
    c.supply.ensures.store c.args.brand made ∙ nothing_stored c.args.draft.now c.valid.ensures c.requires.clean c.args.brand

pub returns : goal.returns
returns c =
    let values = ap (λ (vs : List (Bor ValueView)). map (λ v. v.now) vs) c.as_slice.ensures.value ∙ c.in_ok-values.ensures in
    let read = ap (λ (l : List BrandSupply). supply_at l c.args.brand) c.supply.ensures.supply in
    let beside = subst (λ (s : BrandSupply). Gives (λ _. tt) c.check_all_out.result (can_come_out s (total_of (map (λ v. v.now) c.as_slice.result.now)))) read c.check_all_out.ensures in
    subst (λ (ws : List ValueView). Gives (λ _. tt) c.check_all_out.result (can_come_out (supply_at c.args.draft.now.now.out c.args.brand) (total_of ws))) values beside
