use Rattle.std.proofs.Common.{◌≡◌, ℕ, ◌<◌, ◌≤◌, List, [], ◌∷◌, ◌++◌, length, ap, subst, sym, ◌∙◌}
use Rattle.ertp_mint.specs.amount_math.ValueView.{IsValue, ValueView}
use Rattle.ertp_mint.specs.amount_math.declared.Amount.{Amount}
use Rattle.proposals.specs.Shares.{AreShares, most_shares}
use Rattle.seats.proofs.Changes.{further, out_of_all, put_in-further, stored_in-further}
use Rattle.seats.proofs.Places.{AreShares-further}
use Rattle.ertp_mint.specs.Balances.{ComesOut, BalanceView}
use Rattle.seats.specs.Seats.{SeatView, put_in, stored_in}
use Rattle.seats.specs.Slots.{SlotView, place_of, shares_in, slot_of}
use Rattle.seats.proofs.seat_slots.Seat.put_further.Goals as goal

-- the slots are the old ones with one of the balance, last
slots_now : (c : goal.After-push_reserved) → c.push_reserved.new.self.items ≡ c.self.inside.slots.items ++ slot_of c.args.keyword.now c.of-balance.result ∷ []
slots_now c =
    c.push_reserved.ensures.items
    ∙ ap (λ (xs : List SlotView). xs ++ slot_of c.in-Ok.keyword c.of-balance.result ∷ []) c.reserve.ensures.items
    ∙ ap (λ (k : List ℕ). c.self.inside.slots.items ++ slot_of k c.of-balance.result ∷ []) c.in-Ok.ensures

seat_now : (c : goal.After-push_reserved) → record { instance = c.self.inside.instance; proposal = c.self.inside.proposal; slots = c.push_reserved.new.self.items; last = c.self.inside.last } ≡ further c.args.keyword.now c.args.self.now c.of-balance.result
seat_now c =
    let seat : List SlotView → SeatView = λ xs. record { instance = c.self.inside.instance; proposal = c.self.inside.proposal; slots = xs; last = c.self.inside.last } in
    ap seat (slots_now c) ∙ ap (λ (s : SeatView). further c.args.keyword.now s c.of-balance.result) c.self.view_is

pub invariant_of-self-2 : goal.invariant_of-self-2
invariant_of-self-2 c =
    let free : length c.self.inside.slots.items ≤ place_of c.args.keyword.now c.self.inside.slots.items = subst (λ (s : SeatView). length s.slots ≤ place_of c.args.keyword.now s.slots) (sym c.self.view_is) c.requires.free in
    let few : length c.self.inside.slots.items < most_shares = subst (λ (s : SeatView). length s.slots < most_shares) (sym c.self.view_is) c.requires.few in
    subst (λ (xs : List SlotView). AreShares (shares_in xs)) (sym (slots_now c)) (AreShares-further c.args.keyword.now c.self.inside.slots.items c.of-balance.result c.self.invariant free few)

pub returns-clause-ok : goal.returns-clause-ok
returns-clause-ok c =
    let k = c.args.keyword.now in
    let x = c.of-balance.result in
    let put : further k c.args.self.now x ≡ put_in k c.args.parcel (stored_in k (further k c.args.self.now x)).room c.args.self.now =
    put_in-further k c.args.self.now x c.requires.free
    ∙ ap (λ (a : Amount). put_in k a x.room c.args.self.now) c.of-balance.ensures
    ∙ ap (λ (s : BalanceView). put_in k c.args.parcel s.room c.args.self.now) (sym (stored_in-further k c.args.self.now x c.requires.free)) in
    subst (λ (s : SeatView). s ≡ put_in k c.args.parcel (stored_in k s).room c.args.self.now) (sym (seat_now c)) put

pub returns-clause-value : goal.returns-clause-value
returns-clause-value c = subst (λ (w : ValueView). IsValue w.kind w.content) c.value.ensures c.kind-kind.ensures.value

pub returns-clause-out : goal.returns-clause-out
returns-clause-out c =
    let k = c.args.keyword.now in
    let x = c.of-balance.result in
    let out : ComesOut (stored_in k (further k c.args.self.now x)) c.args.parcel.value = subst (λ (s : BalanceView). ComesOut s c.args.parcel.value) (sym (stored_in-further k c.args.self.now x c.requires.free)) (out_of_all x c.args.parcel c.of-balance.ensures) in
    subst (λ (s : SeatView). ComesOut (stored_in k s) c.args.parcel.value) (sym (seat_now c)) out
