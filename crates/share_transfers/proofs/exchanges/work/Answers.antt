use Rattle.std.proofs.Common.{ℕ, List, IfSome, sym, ap, ◌∙◌, subst}
use Rattle.std.proofs.lemmas.Result.{on_ok_weaker}
use Rattle.rearrange.specs.TestedPlans.{passes_at}
use Rattle.rearrange.specs.Slots.{can_give}
use Rattle.call_arguments.specs.proposals.OfferSafety.{MeetSlots}
use Rattle.call_arguments.specs.proposals.declared.allocations.Share.{Share}
use Rattle.rearrange.specs.Transfers.{gains_of}
use Rattle.rearrange.specs.Working.{raised_by, shares_now}
use Rattle.refusals.specs.Outcomes.{Gives}
use Rattle.share_transfers.specs.Changed.{changed_seats}
use Rattle.share_transfers.specs.Views.{transfer_view}
use Rattle.share_transfers.proofs.Worked.{past_losses}
use Rattle.share_transfers.proofs.exchanges.work.Goals as goal

pub give-requires-clause-meet : goal.give-requires-clause-meet
give-requires-clause-meet c =
    let t = transfer_view c.args.transfer.now in
    subst (λ (has : ℕ → List Share). IfSome t.to (λ seat. MeetSlots (has seat) (gains_of t))) (sym c.in_ok-take.ensures.ok) c.requires.meet.give

pub returns-clause-ok : goal.returns-clause-ok
returns-clause-ok c = on_ok_weaker c.give.result (λ given. given ∙ ap (λ (has : ℕ → List Share). raised_by has (transfer_view c.args.transfer.now)) c.in_ok-take.ensures.ok) c.give.ensures.ok

pub returns-clause-gives : goal.returns-clause-gives
returns-clause-gives c =
    let t = transfer_view c.args.transfer.now in
    let had = shares_now c.args.states.now (changed_seats c.args.copy.now) in
    subst (Gives (λ _. tt) c.give.result) (sym (past_losses had t c.in_ok-take.ensures.gives))
    (subst (λ (has : ℕ → List Share). Gives (λ _. tt) c.give.result (passes_at t.to (λ seat. can_give (has seat) (gains_of t)))) c.in_ok-take.ensures.ok c.give.ensures.gives)
