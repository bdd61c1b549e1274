use Rattle.std.specs.Prelude.{IfSome, Result}
use Rattle.std.proofs.Common.{List, All, sym, ap, ◌∙◌, subst, arith}
use Rattle.world_reads.specs.host_world.Worlds.{world_of}
use Rattle.rules.specs.proposals.Shares.{AreApart}
use Rattle.rules.specs.proposals.declared.plans.Touched.{Touched}
use Rattle.rearrange.specs.TestedPlans.{transfer_changes}
use Rattle.refusals.specs.Outcomes.{Gives}
use Rattle.refusals.specs.declared.codes.Refusal.{Refusal}
use Rattle.rearrange.specs.Seats.{seats_named}
use Rattle.rearrange.specs.Transfers.{HasOneBrand, gains_of, transfers_plan}
use Rattle.share_transfers.specs.Views.{parts_views, transfer_view, transfer_views}
use Rattle.share_transfers.specs.declared.values.ShareTransfer.{ShareTransfer}
use Rattle.rearrange_calls.proofs.PassingTransfers.{gains_apart, one_brands, passed_if, plan_passed, read_each}
use Rattle.rearrange_calls.proofs.SameStates.{changed_is}
use Rattle.rearrange_calls.proofs.transfer_changes.changes.Goals as goal

pub plan_transfers-requires-clause-one : goal.plan_transfers-requires-clause-one
plan_transfers-requires-clause-one c =
    subst (λ (l : List ShareTransfer). All (HasOneBrand c.args.states.now (transfer_views l)) (seats_named (transfer_views l))) (sym c.as_slice.ensures.value)
    (one_brands (world_of c.args.world.now) c.requires.good c.args.instance c.args.states.now c.args.seats.now (parts_views c.args.list.now) c.requires.source c.requires.named c.requires.states c.requires.part (transfer_views c.in_ok-list.list.items) c.in_ok-list.ensures)

pub plan_transfers-requires-clause-given : goal.plan_transfers-requires-clause-given
plan_transfers-requires-clause-given c =
    subst (λ (l : List ShareTransfer). All (λ (t : ShareTransfer). IfSome t.to (λ _. AreApart (gains_of (transfer_view t)))) l) (sym c.as_slice.ensures.value)
    (gains_apart (world_of c.args.world.now) c.in_ok-list.list.items
    (read_each (world_of c.args.world.now) c.requires.good c.args.instance c.args.states.now c.args.seats.now (parts_views c.args.list.now) c.requires.source c.requires.named c.requires.states c.requires.part (transfer_views c.in_ok-list.list.items) c.in_ok-list.ensures))

pub returns-clause-gives : goal.returns-clause-gives
returns-clause-gives c =
    let w = world_of c.args.world.now in
    let parts = parts_views c.args.list.now in
    subst (λ (r : Result (List Touched) Refusal). Gives (λ plan. plan) c.plan_transfers.result r)
    (ap (λ (l : List ShareTransfer). transfer_changes c.args.states.now (transfer_views l)) c.as_slice.ensures.value
    ∙ sym (changed_is w c.args.instance c.args.seats.now parts c.args.states.now (transfer_views c.in_ok-list.list.items) c.requires.states c.in_ok-list.ensures))
    c.plan_transfers.ensures.gives

pub returns-clause-passed : goal.returns-clause-passed
returns-clause-passed c =
    let same = ap (λ (l : List ShareTransfer). transfers_plan c.args.states.now (transfer_views l)) c.as_slice.ensures.value in
    passed_if c.plan_transfers.result (transfers_plan c.args.states.now (transfer_views c.as_slice.result.now)) c.plan_transfers.ensures.plan c.plan_transfers.ensures.small
    (λ touched at small. plan_passed (world_of c.args.world.now) c.requires.good c.args.instance c.args.states.now c.args.seats.now (parts_views c.args.list.now) c.requires.source c.requires.named c.requires.states c.requires.part (transfer_views c.in_ok-list.list.items) c.in_ok-list.ensures
    touched c.seats_made-made.result (at ∙ same) small c.seats_made-made.ensures (omega (arith, c.seats_made-made.type_inv)))
