use Rattle.std.proofs.Common.{◌<◌, length, ap, arith, subst, sym, ◌∙◌}
use Rattle.seats.proofs.Changes.{changed}
use Rattle.ertp_mint.specs.Balances.{ComesOut, BalanceView}
use Rattle.seats.specs.Seats.{SeatView}
use Rattle.seats.specs.Slots.{HasSlot, place_of, slot_of}
use Rattle.seats.proofs.seat_slots.Seat.put_within.Goals as goal

pub invariant_of-self : goal.invariant_of-self
invariant_of-self c =
    let place = c.place_of-place.ensures ∙ ap (place_of c.args.keyword.now) c.as_slice.ensures.value in
    let there : HasSlot c.args.keyword.now c.self.inside.slots.items = subst (λ (s : SeatView). HasSlot c.args.keyword.now s.slots) (sym c.self.view_is) c.requires.there in
    let within : c.place_of-place.result < length c.self.inside.slots.items = omega (arith, place, there) in
    let is = changed c.args.keyword.now _ c.args.self.now c.place_of-place.result (slot_of c.slot.inside.keyword c.slot.inside.balance) _ c.self.view_is place within c.slot.view_is c.index_mut-slot.ensures.value in
    is.keeps c.self.invariant c.put_within.new.self

pub returns-clause-out : goal.returns-clause-out
returns-clause-out c =
    let place = c.place_of-place.ensures ∙ ap (place_of c.args.keyword.now) c.as_slice.ensures.value in
    let there : HasSlot c.args.keyword.now c.self.inside.slots.items = subst (λ (s : SeatView). HasSlot c.args.keyword.now s.slots) (sym c.self.view_is) c.requires.there in
    let within : c.place_of-place.result < length c.self.inside.slots.items = omega (arith, place, there) in
    let is = changed c.args.keyword.now _ c.args.self.now c.place_of-place.result (slot_of c.slot.inside.keyword c.slot.inside.balance) _ c.self.view_is place within c.slot.view_is c.index_mut-slot.ensures.value in
    subst (λ (s : BalanceView). ComesOut s c.args.parcel.value) (sym (is.now c.put_within.new.self)) c.put_within.ensures.out
