use Rattle.std.proofs.Common.{◌≡◌, ◌<◌, length, ap, arith, subst, sym, ◌∙◌, OnOk}
use Rattle.seats.proofs.Changes.{changed, with_room-same}
use Rattle.ertp_mint.specs.Balances.{HasSpare, BalanceView}
use Rattle.seats.specs.Seats.{SeatView, stored_in, with_room}
use Rattle.seats.specs.Slots.{HasSlot, place_of, slot_of}
use Rattle.seats.proofs.seat_slots.Seat.reserve.Goals as goal

pub invariant_of-self : goal.invariant_of-self
invariant_of-self c =
    let place = c.place_of-place.ensures ∙ ap (place_of c.args.keyword.now) c.as_slice.ensures.value in
    let there : HasSlot c.args.keyword.now c.self.inside.slots.items = subst (λ (s : SeatView). HasSlot c.args.keyword.now s.slots) (sym c.self.view_is) c.requires in
    let within : c.place_of-place.result < length c.self.inside.slots.items = omega (arith, place, there) in
    let is = changed c.args.keyword.now _ c.args.self.now c.place_of-place.result (slot_of c.slot.inside.keyword c.slot.inside.balance) _ c.self.view_is place within c.slot.view_is c.index_mut-slot.ensures.value in
    is.keeps c.self.invariant c.reserve.new.self

pub returns-clause-same : goal.returns-clause-same
returns-clause-same c =
    let place = c.place_of-place.ensures ∙ ap (place_of c.args.keyword.now) c.as_slice.ensures.value in
    let there : HasSlot c.args.keyword.now c.self.inside.slots.items = subst (λ (s : SeatView). HasSlot c.args.keyword.now s.slots) (sym c.self.view_is) c.requires in
    let within : c.place_of-place.result < length c.self.inside.slots.items = omega (arith, place, there) in
    let is = changed c.args.keyword.now _ c.args.self.now c.place_of-place.result (slot_of c.slot.inside.keyword c.slot.inside.balance) _ c.self.view_is place within c.slot.view_is c.index_mut-slot.ensures.value in
    let x = c.reserve.new.self in
    let amount : x.amount ≡ (stored_in c.args.keyword.now c.args.self.now).amount = c.reserve.ensures.same ∙ sym (ap (λ (s : BalanceView). s.amount) is.was) in
    subst (λ (s : SeatView). s ≡ with_room c.args.keyword.now (stored_in c.args.keyword.now s).room c.args.self.now) (sym (is.new x)) (with_room-same c.args.keyword.now c.args.self.now x is.there amount)

pub returns-clause-room : goal.returns-clause-room
returns-clause-room c =
    let place = c.place_of-place.ensures ∙ ap (place_of c.args.keyword.now) c.as_slice.ensures.value in
    let there : HasSlot c.args.keyword.now c.self.inside.slots.items = subst (λ (s : SeatView). HasSlot c.args.keyword.now s.slots) (sym c.self.view_is) c.requires in
    let within : c.place_of-place.result < length c.self.inside.slots.items = omega (arith, place, there) in
    let is = changed c.args.keyword.now _ c.args.self.now c.place_of-place.result (slot_of c.slot.inside.keyword c.slot.inside.balance) _ c.self.view_is place within c.slot.view_is c.index_mut-slot.ensures.value in
    let before = ap (λ (s : BalanceView). s.room) is.was in
    let after = ap (λ (s : BalanceView). s.room) (is.now c.reserve.new.self) in
    omega (arith, before, after, c.reserve.ensures.room)

pub returns-clause-ok : goal.returns-clause-ok
returns-clause-ok c =
    let place = c.place_of-place.ensures ∙ ap (place_of c.args.keyword.now) c.as_slice.ensures.value in
    let there : HasSlot c.args.keyword.now c.self.inside.slots.items = subst (λ (s : SeatView). HasSlot c.args.keyword.now s.slots) (sym c.self.view_is) c.requires in
    let within : c.place_of-place.result < length c.self.inside.slots.items = omega (arith, place, there) in
    let is = changed c.args.keyword.now _ c.args.self.now c.place_of-place.result (slot_of c.slot.inside.keyword c.slot.inside.balance) _ c.self.view_is place within c.slot.view_is c.index_mut-slot.ensures.value in
    subst (λ (s : BalanceView). OnOk c.reserve.result (HasSpare s c.args.keys)) (sym (is.now c.reserve.new.self)) c.reserve.ensures.ok
