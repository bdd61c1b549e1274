use Rattle.std.proofs.Common.{◌≡◌, ℕ, List, Ok, IfSome, sym, ap, ◌∙◌, subst}
use Rattle.std.proofs.lemmas.Result.{err_from_is_err_and}
use Rattle.call_arguments.specs.proposals.Shares.{AreApart}
use Rattle.call_arguments.specs.proposals.declared.allocations.Share.{Share}
use Rattle.rearrange.specs.Transfers.{gains_of, worked_by}
use Rattle.rearrange.specs.Working.{CanMeet}
use Rattle.refusals.specs.Outcomes.{Fails}
use Rattle.share_transfers.specs.Tests.{can_move}
use Rattle.share_transfers.specs.Views.{transfer_view}
use Rattle.share_transfers.specs.declared.values.ShareTransfer.{ShareTransfer}
use Rattle.share_transfers.proofs.Worked.{can_end, can_more, can_stop, meets, same_end, worked_more}
use Rattle.share_transfers.proofs.exchanges.work_all.Goals as goal

pub work-requires-clause-meet : goal.work-requires-clause-meet
work-requires-clause-meet c =
    let x = c.transfer-item.result in
    subst (λ (has : ℕ → List Share). CanMeet has (transfer_view x)) (sym c.loop-transfer.invariant.same)
    (meets c.args.list.now c.loop-transfer.transfer-index x c.loop-transfer-test.true c.transfer-item.is c.args.states.now c.requires.one)

pub work-requires-clause-given : goal.work-requires-clause-given
work-requires-clause-given c =
    subst (λ (t : ShareTransfer). IfSome t.to (λ _. AreApart (gains_of (transfer_view t)))) (sym c.transfer-item.is)
    (c.requires.given c.loop-transfer.transfer-index c.transfer-item.result c.loop-transfer-test.true)

pub loop-transfer-preserved : goal.loop-transfer-preserved
loop-transfer-preserved c =
    let x = c.transfer-item.result in
    let list = c.args.list.now in
    let i = c.loop-transfer.transfer-index in
    let lt = c.loop-transfer-test.true in
    let is = c.transfer-item.is in
    let states = c.args.states.now in
    let inv = c.loop-transfer.invariant in
    record {
      same = c.in_ok-work.ensures.ok ∙ ap (λ (has : ℕ → List Share). worked_by has (transfer_view x)) inv.same ∙ sym (worked_more list i x lt is states);
      can = can_more list i x lt is states inv.can (subst (λ (has : ℕ → List Share). can_move has (transfer_view x) ≡ Ok tt) inv.same c.in_ok-work.ensures.gives);
      apart = c.in_ok-work.ensures.apart;
    }

pub returns-in_err-work-clause-gives : goal.returns-in_err-work-clause-gives
returns-in_err-work-clause-gives c =
    let x = c.transfer-item.result in
    let inv = c.loop-transfer.invariant in
    let p = err_from_is_err_and c.from_residual.result c.from_residual.ensures.1 in
    rw (p.1, p.2) (can_stop c.args.list.now c.loop-transfer.transfer-index x c.loop-transfer-test.true c.transfer-item.is c.args.states.now c.in_err-work.field-0.0 inv.can
    (subst (λ (has : ℕ → List Share). Fails c.in_err-work.field-0.0 (can_move has (transfer_view x))) inv.same c.in_err-work.ensures.gives))

pub returns-clause-gives : goal.returns-clause-gives
returns-clause-gives c = can_end c.args.list.now c.loop-transfer.transfer-index c.args.states.now c.loop-transfer-test.false c.loop-transfer.invariant.can

pub returns-clause-ok : goal.returns-clause-ok
returns-clause-ok c = c.loop-transfer.invariant.same ∙ same_end c.args.list.now c.loop-transfer.transfer-index c.args.states.now c.loop-transfer-test.false
