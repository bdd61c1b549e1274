use Rattle.std.proofs.Common.{◌<◌, ◌↔◌, All, List, IsTrue, ◌∙◌, sym, subst}
use Rattle.std.specs.Prelude.{nat_lt}
use Rattle.proposals.specs.declared.plans.SeatState.{SeatState}
use Rattle.rearrange.specs.States.{AreAscending}
use Rattle.rearrange.proofs.Ascending.{above_last}
use Rattle.rearrange.proofs.seat_states.SeatStates.can_push.Goals as goal

pub returns-in-Some : goal.returns-in-Some
returns-in-Some c =
    let item = c.in-Some.ensures.item in
    subst (λ (ss : List SeatState). IsTrue (nat_lt c.in-Some.last.now.seat c.args.seat) ↔ All (λ (s : SeatState). s.seat < c.args.seat) ss) (c.deref.ensures.value ∙ c.self.view_is)
    (above_last c.deref.result.now c.in-Some.last.now c.args.seat (subst AreAscending (sym c.deref.ensures.value) c.self.invariant) item.3.0 item.1)
