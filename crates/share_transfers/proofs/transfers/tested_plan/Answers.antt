use Rattle.std.proofs.Common.{Ok, sym, subst}
use Rattle.rearrange.proofs.Kept.{fails_then, plan_fails}
use Rattle.rearrange.specs.TestedPlans.{keeps}
use Rattle.rearrange.specs.Told.{plan_told}
use Rattle.rearrange.specs.Sums.{all_touched}
use Rattle.refusals.specs.Outcomes.{Fails}
use Rattle.refusals.specs.declared.stops.Stop.{Stop}
use Rattle.share_transfers.specs.Tests.{kept_plan}
use Rattle.share_transfers.proofs.transfers.tested_plan.Goals as goal

pub returns-in-Err-clause-gives : goal.returns-in-Err-clause-gives
returns-in-Err-clause-gives c =
    let states = c.args.states.now in
    let touched = all_touched states c.args.list.items in
    let fault = c.in-Err.fault in
    subst (λ (s : Stop). Fails s (kept_plan states touched)) (sym c.plan_told.ensures)
    (fails_then (plan_told fault) (keeps states touched) (Ok touched) (plan_fails states touched fault c.in-Err.ensures.refused))
