use Rattle.std.proofs.Common.{ap, ◌∙◌}
use Rattle.jessie_semantics.specs.host_data.View.{tree, trees}
use Rattle.jessie_index.specs.jessie_values.RequestViews.{when_view}
use Rattle.jessie_semantics.specs.Rules.{when_asks}
use Rattle.jessie_semantics.proofs.Runs.{computed, then_runs, ask_runs, host_runs}
use Rattle.jessie_machine.specs.Host.{answered_with}
use Rattle.jessie_machine.proofs.Exits.{stops}
use Rattle.jessie_machine.specs.Bills.{bill, left_after}
use Rattle.jessie_machine.proofs.when_far.call_when.Goals as goal

pub returns-in_err-request : goal.returns-in_err-request
returns-in_err-request g c = λ names values. stops tree _ _ _ c.from_residual.ensures.1 (computed (c.in_err-request.ensures _))

pub returns-in_err-pay_bill : goal.returns-in_err-pay_bill
returns-in_err-pay_bill g c = λ names values.
    let left = c.left_after-left.ensures ∙ ap (λ l. left_after (bill (trees l)) c.args.machine.now.meter) c.as_slice.ensures.value in
    then_runs _ (computed (c.in_ok-request.ensures _))
    (host_runs _ _ (stops tree _ _ _ c.from_residual-in_err-pay_bill.ensures.1 (computed (c.in_err-pay_bill.ensures.does _ _ _ left))))

pub returns : goal.returns
returns g c = λ names values.
    let left = c.left_after-left.ensures ∙ ap (λ l. left_after (bill (trees l)) c.args.machine.now.meter) c.as_slice.ensures.value in
    then_runs _ (computed (c.in_ok-request.ensures _))
    (host_runs _ _ (then_runs _ (computed (c.in_ok-pay_bill.ensures.does _ _ _ left))
    (then_runs _ (ask_runs (answered_with (when_asks (when_view c.in_ok-request.request)) c.in_ok-reply.reply) _ c.in_ok-reply.ensures) (computed (c.settle.ensures.does _ _)))))
