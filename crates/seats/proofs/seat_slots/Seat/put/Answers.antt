use Rattle.std.proofs.Common.{◌≡◌, ◌<◌, ◌≤◌, length, ap, arith, subst, sym, ◌∙◌}
use Rattle.ertp_mint.specs.amount_math.Amount.{holding}
use Rattle.ertp_mint.specs.amount_math.Content.{sum}
use Rattle.ertp_mint.specs.amount_math.ValueView.{IsPutRefusal, IsValue}
use Rattle.seats.proofs.Changes.{changed, if_err, on_ok, put_in-there, said_under, value_further}
use Rattle.ertp_mint.specs.Balances.{ComesOut, BalanceView}
use Rattle.seats.specs.Seats.{SeatView, put_in, stored_in}
use Rattle.seats.specs.Slots.{place_of, slot_of}
use Rattle.seats.proofs.seat_slots.Seat.put.Goals as goal

pub invariant_of-self : goal.invariant_of-self
invariant_of-self c =
    let place = c.place_of-place.ensures ∙ ap (place_of c.args.keyword.now) c.as_slice.ensures.value in
    let within : c.place_of-place.result < length c.self.inside.slots.items = omega (arith, ap length c.as_slice.ensures.value) in
    let is = changed c.args.keyword.now _ c.args.self.now c.place_of-place.result (slot_of c.slot.inside.keyword c.slot.inside.balance) _ c.self.view_is place within c.slot.view_is c.index_mut-slot.ensures.value in
    is.keeps c.self.invariant c.put.new.self

pub returns-then-place-len-clause-ok : goal.returns-then-place-len-clause-ok
returns-then-place-len-clause-ok c =
    let place = c.place_of-place.ensures ∙ ap (place_of c.args.keyword.now) c.as_slice.ensures.value in
    let within : c.place_of-place.result < length c.self.inside.slots.items = omega (arith, ap length c.as_slice.ensures.value) in
    let is = changed c.args.keyword.now _ c.args.self.now c.place_of-place.result (slot_of c.slot.inside.keyword c.slot.inside.balance) _ c.self.view_is place within c.slot.view_is c.index_mut-slot.ensures.value in
    let x = c.put.new.self in
    on_ok c.put.result (λ same.
    let amount : x.amount ≡ holding (stored_in c.args.keyword.now c.args.self.now).amount (sum (stored_in c.args.keyword.now c.args.self.now).amount.value.content c.args.parcel.value.content) = same ∙ ap (λ (s : BalanceView). holding s.amount (sum s.amount.value.content c.args.parcel.value.content)) (sym is.was) in
    subst (λ (s : SeatView). s ≡ put_in c.args.keyword.now c.args.parcel (stored_in c.args.keyword.now s).room c.args.self.now) (sym (is.new x)) (put_in-there c.args.keyword.now c.args.self.now c.args.parcel x is.there amount))
    c.put.ensures.ok

pub returns-then-place-len-clause-value : goal.returns-then-place-len-clause-value
returns-then-place-len-clause-value c =
    let place = c.place_of-place.ensures ∙ ap (place_of c.args.keyword.now) c.as_slice.ensures.value in
    let within : c.place_of-place.result < length c.self.inside.slots.items = omega (arith, ap length c.as_slice.ensures.value) in
    let is = changed c.args.keyword.now _ c.args.self.now c.place_of-place.result (slot_of c.slot.inside.keyword c.slot.inside.balance) _ c.self.view_is place within c.slot.view_is c.index_mut-slot.ensures.value in
    on_ok c.put.result (said_under c.args.keyword.now c.args.self.now c.slot.inside.balance c.args.parcel is.there is.was c.requires.meet (λ kind content. IsValue kind content)) c.put.ensures.value

pub returns-then-place-len-clause-out : goal.returns-then-place-len-clause-out
returns-then-place-len-clause-out c =
    let place = c.place_of-place.ensures ∙ ap (place_of c.args.keyword.now) c.as_slice.ensures.value in
    let within : c.place_of-place.result < length c.self.inside.slots.items = omega (arith, ap length c.as_slice.ensures.value) in
    let is = changed c.args.keyword.now _ c.args.self.now c.place_of-place.result (slot_of c.slot.inside.keyword c.slot.inside.balance) _ c.self.view_is place within c.slot.view_is c.index_mut-slot.ensures.value in
    on_ok c.put.result (λ out. subst (λ (s : BalanceView). ComesOut s c.args.parcel.value) (sym (is.now c.put.new.self)) out) c.put.ensures.out

pub returns-then-place-len-clause-refused : goal.returns-then-place-len-clause-refused
returns-then-place-len-clause-refused c =
    let place = c.place_of-place.ensures ∙ ap (place_of c.args.keyword.now) c.as_slice.ensures.value in
    let within : c.place_of-place.result < length c.self.inside.slots.items = omega (arith, ap length c.as_slice.ensures.value) in
    let is = changed c.args.keyword.now _ c.args.self.now c.place_of-place.result (slot_of c.slot.inside.keyword c.slot.inside.balance) _ c.self.view_is place within c.slot.view_is c.index_mut-slot.ensures.value in
    if_err c.put.result _ _ (λ e refused. said_under c.args.keyword.now c.args.self.now c.slot.inside.balance c.args.parcel is.there is.was c.requires.meet (λ kind content. IsPutRefusal kind content e.1) refused) c.put.ensures.refused

pub returns-in-Ok-clause-value : goal.returns-in-Ok-clause-value
returns-in-Ok-clause-value c =
    let past : length c.self.inside.slots.items ≤ place_of c.args.keyword.now c.self.inside.slots.items = omega (arith, c.place_of-place.ensures ∙ ap (place_of c.args.keyword.now) c.as_slice.ensures.value) in
    value_further c.args.keyword.now c.args.self.now c.args.parcel.value.kind c.args.parcel.value.content (subst (λ (s : SeatView). length s.slots ≤ place_of c.args.keyword.now s.slots) c.self.view_is past) c.in-Ok.ensures.value
