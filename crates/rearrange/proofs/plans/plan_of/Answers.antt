use Rattle.std.proofs.Common.{◌≤◌, All, List, length, sym, ◌∙◌, subst}
use Rattle.proposals.specs.Shares.{most_shares}
use Rattle.proposals.specs.declared.plans.Touched.{Touched}
use Rattle.rearrange.specs.Safety.{AreSafe}
use Rattle.rearrange.specs.Sums.{AreConserved, all_touched}
use Rattle.rearrange.specs.declared.sums.SeatShares.{SeatShares}
use Rattle.rearrange.proofs.plans.plan_of.Goals as goal

pub returns-in-Ok-clause-safe : goal.returns-in-Ok-clause-safe
returns-in-Ok-clause-safe c =
    let states = c.args.states.now in
    subst (AreSafe states) (sym (c.from_touched.ensures ∙ c.in-Ok.ensures.ok)) (subst (λ (list : List SeatShares). AreSafe states (all_touched states list)) c.as_slice.ensures.value c.in_ok-check.ensures.safe)

pub returns-in-Ok-clause-few : goal.returns-in-Ok-clause-few
returns-in-Ok-clause-few c = subst (All (λ (t : Touched). length t.after ≤ most_shares)) (sym c.from_touched.ensures) c.in-Ok.ensures.few

pub returns-in-Err-Limit-clause-refused : goal.returns-in-Err-Limit-clause-refused
returns-in-Err-Limit-clause-refused c =
    let states = c.args.states.now in (
      subst (λ (list : List SeatShares). AreConserved (all_touched states list)) c.as_slice.ensures.value c.in_ok-check.ensures.kept,
      (subst (λ (list : List SeatShares). AreSafe states (all_touched states list)) c.as_slice.ensures.value c.in_ok-check.ensures.safe, c.in-Err-Limit.ensures.limit c.in-Err-Limit.field-0-is),
    )
