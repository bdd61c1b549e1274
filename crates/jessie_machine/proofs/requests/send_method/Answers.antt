use Rattle.std.proofs.Common.{ap, sym, ◌∙◌, ◌+◌}
use Rattle.jessie_semantics.specs.host_data.Tree.{items_size}
use Rattle.jessie_semantics.specs.host_data.View.{tree, trees, items_of}
use Rattle.jessie_index.specs.jessie_values.Outcomes.{of_kind}
use Rattle.jessie_index.specs.jessie_values.declared.reasons.Reason.TheVariants.{WrongKind}
use Rattle.jessie_semantics.specs.Actions.{charge, ask}
use Rattle.jessie_semantics.specs.Play.{send}
use Rattle.jessie_semantics.proofs.Runs.{computed, computes_as, then_runs, stop_runs, ask_runs, runs_as, host_runs}
use Rattle.jessie_machine.specs.Host.{answered_with}
use Rattle.jessie_machine.proofs.Exits.{stops, worked_as_ok, worked_as_err}
use Rattle.jessie_machine.proofs.requests.send_method.Goals as goal

pub returns-in_default : goal.returns-in_default
returns-in_default g c = λ names values. stop_runs _ (computed (worked_as_err _ _ WrongKind (ap of_kind (sym c.object.ensures ∙ c.in_default.is)) c.bad.ensures))

pub returns-in_err-take_call : goal.returns-in_err-take_call
returns-in_err-take_call g c = λ names values.
    then_runs _ (computed (worked_as_ok _ _ (ap of_kind (sym c.object.ensures ∙ c.in-Some.is))))
    (host_runs _ _ (stops tree _ _ _ c.from_residual.ensures.1 (computed (computes_as (ap (λ l. charge (100 + items_size (items_of (trees l)))) (sym c.as_slice.ensures.value)) (c.in_err-take_call.ensures.does _ _)))))

pub returns : goal.returns
returns g c = λ names values.
    then_runs _ (computed (worked_as_ok _ _ (ap of_kind (sym c.object.ensures ∙ c.in-Some.is))))
    (host_runs _ _ (then_runs _ (computed (computes_as (ap (λ l. charge (100 + items_size (items_of (trees l)))) (sym c.as_slice.ensures.value)) (c.in_ok-take_call.ensures.does _ _)))
    (then_runs _ (runs_as (ap (λ m. ask (send c.in-Some.receiver m (trees c.args.args.items))) (sym c.as_str.ensures)) (ask_runs (answered_with (send c.in-Some.receiver c.as_str.result.now (trees c.args.args.items)) c.in_ok-reply.reply) _ c.in_ok-reply.ensures)) (computed (c.settle.ensures.does _ _)))))
