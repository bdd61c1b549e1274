use Rattle.std.proofs.Common.{◌<◌, All, List, sym, subst}
use Rattle.proposals.specs.declared.plans.SeatState.{SeatState}
use Rattle.rearrange.specs.States.{AreAscending}
use Rattle.rearrange.proofs.Ascending.{ascend_more}
use Rattle.rearrange.proofs.seat_states.SeatStates.push.Goals as goal

pub invariant_of-self : goal.invariant_of-self
invariant_of-self c = subst AreAscending (sym c.in_err-push.ensures.items) c.self.invariant

pub invariant_of-self-2 : goal.invariant_of-self-2
invariant_of-self-2 c =
    subst AreAscending (sym c.in_ok-push.ensures.items)
    (ascend_more c.self.inside.states.items c.args.state c.self.invariant
    (subst (λ (ss : List SeatState). All (λ (s : SeatState). s.seat < c.args.state.seat) ss) (sym c.self.view_is) c.requires))
