use Rattle.std.proofs.Common.{◌≡◌, List, sym, ap, ◌∙◌, subst}
use Rattle.std.proofs.lemmas.Result.{IfOk-weaker}
use Rattle.call_arguments.specs.proposals.declared.plans.Touched.{Touched}
use Rattle.rearrange.specs.Sums.{all_touched}
use Rattle.rearrange.specs.Transfers.{transfers_plan}
use Rattle.refusals.specs.Outcomes.{Gives}
use Rattle.share_transfers.specs.Tests.{kept_plan}
use Rattle.share_transfers.specs.Changed.{changed_seats}
use Rattle.share_transfers.specs.Views.{transfer_views}
use Rattle.share_transfers.proofs.Planned.{can_settle_all, changes_are, plan_same}
use Rattle.share_transfers.proofs.transfers.plan_transfers.Goals as goal

pub settle_named-requires-clause-can : goal.settle_named-requires-clause-can
settle_named-requires-clause-can c =
    let states = c.args.states.now in
    can_settle_all states (transfer_views c.args.list.now) (changed_seats c.in_ok-now.now) c.as_slice.result.now c.requires.one
    c.in_ok-now.ensures.ok (c.as_slice.ensures.value ∙ c.in_ok-named.ensures)

pub returns-clause-gives : goal.returns-clause-gives
returns-clause-gives c =
    let states = c.args.states.now in
    let list = transfer_views c.args.list.now in
    let plan_is : all_touched states c.in_ok-done.done.items ≡ transfers_plan states list =
    c.in_ok-done.ensures.ok ∙ plan_same states list (changed_seats c.in_ok-now.now) c.as_slice.result.now c.in_ok-now.ensures.ok (c.as_slice.ensures.value ∙ c.in_ok-named.ensures)
    in
    subst (Gives (λ (plan : List Touched). plan) c.tested_plan.result) (ap (kept_plan states) plan_is ∙ sym (changes_are states list c.in_ok-now.ensures.gives)) c.tested_plan.ensures.gives

pub returns-clause-plan : goal.returns-clause-plan
returns-clause-plan c =
    let states = c.args.states.now in
    let list = transfer_views c.args.list.now in
    let plan_is : all_touched states c.in_ok-done.done.items ≡ transfers_plan states list =
    c.in_ok-done.ensures.ok ∙ plan_same states list (changed_seats c.in_ok-now.now) c.as_slice.result.now c.in_ok-now.ensures.ok (c.as_slice.ensures.value ∙ c.in_ok-named.ensures)
    in
    IfOk-weaker c.tested_plan.result (λ (plan : List Touched). plan ≡ all_touched states c.in_ok-done.done.items) (λ (plan : List Touched). plan ≡ transfers_plan states list) (λ plan e. e ∙ plan_is) c.tested_plan.ensures.plan
