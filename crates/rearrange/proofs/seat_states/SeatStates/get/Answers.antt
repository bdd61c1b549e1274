use Rattle.std.proofs.Common.{rules, Some, Ok, Err, List, get_or, sym, ap, ◌∙◌, subst}
use Rattle.std.proofs.lemmas.List.Sorted.{answers_always}
use Rattle.proposals.specs.declared.plans.SeatState.{SeatState}
use Rattle.rearrange.specs.Seats.{state_of}
use Rattle.rearrange.specs.States.{AreAscending}
use Rattle.rearrange.proofs.Ascending.{searched}
use Rattle.rearrange.proofs.seat_states.SeatStates.get.Goals as goal

pub returns-in-Ok : goal.returns-in-Ok
returns-in-Ok c =
    let states = c.deref.result.now in
    let at = c.in-Ok.at in
    let state = c.index.result.now in
    let rise = subst AreAscending (sym c.deref.ensures.value) c.self.invariant in
    let by_seat = c.in-Ok.ensures.position (λ (s : SeatState). s.seat) (answers_always _ _ _ (λ f a r g called. search rules)) in
    ap Some c.index.ensures
    ∙ ap (λ (ss : List SeatState). Some (get_or ss at state)) (sym c.deref.ensures.value)
    ∙ sym (searched states c.args.seat rise (Ok at) c.in-Ok.ensures.bound by_seat state)
    ∙ ap (λ (ss : List SeatState). state_of ss c.args.seat) (c.deref.ensures.value ∙ c.self.view_is)

pub returns-in-Err : goal.returns-in-Err
returns-in-Err c =
    let states = c.deref.result.now in
    let rise = subst AreAscending (sym c.deref.ensures.value) c.self.invariant in
    let by_seat = c.in-Err.ensures.position (λ (s : SeatState). s.seat) (answers_always _ _ _ (λ f a r g called. search rules)) in
    sym (searched states c.args.seat rise (Err c.in-Err.field-0) c.in-Err.ensures.bound by_seat)
    ∙ ap (λ (ss : List SeatState). state_of ss c.args.seat) (c.deref.ensures.value ∙ c.self.view_is)
