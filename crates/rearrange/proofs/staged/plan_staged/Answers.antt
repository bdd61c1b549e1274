use Rattle.std.proofs.Common.{◌≡◌, List, None, subst}
use Rattle.std.proofs.lemmas.Result.{IfErr-weaker}
use Rattle.proposals.specs.declared.plans.Touched.{Touched}
use Rattle.rearrange.specs.Plans.{IsPlanRefusal}
use Rattle.rearrange.specs.Seats.{staged_refusal}
use Rattle.rearrange.specs.Staged.{IsStagedRefusal}
use Rattle.rearrange.specs.Sums.{all_touched}
use Rattle.rearrange.proofs.StagedRefusals.{staged_refused}
use Rattle.rearrange.proofs.staged.plan_staged.Goals as goal

pub returns-clause-refused : goal.returns-clause-refused
returns-clause-refused c =
    let instance = c.args.instance in
    let states = c.args.states.now in
    let seats = c.args.seats.now in
    let none : staged_refusal instance states seats ≡ None = c.in_ok-check_seats.ensures.ok in
    IfErr-weaker c.plan_of.result (IsPlanRefusal states (all_touched states c.in-Ok.list.items)) (IsStagedRefusal instance states seats)
    (λ fault h. staged_refused instance states seats none fault (subst (λ (ts : List Touched). IsPlanRefusal states ts fault) c.in-Ok.ensures.ok h))
    c.plan_of.ensures.refused
