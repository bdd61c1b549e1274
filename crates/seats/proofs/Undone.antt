-- What works a call backwards leaves the seat as it was before that call.
use Rattle.std.proofs.Common.{◌≡◌, ℕ, ◌+◌, ◌-◌, List, [], ◌∷◌, ◌++◌, length, take, None, Some, Option, false, refl, ◌∙◌, ap, arith}
use Rattle.std.specs.Option.{is_some}
use Rattle.std.proofs.lemmas.List.{length_push}
use Rattle.std.proofs.Math.Seq.{take-append_seam}
use Rattle.ertp_mint.specs.amount_math.Content.{Contains, Content}
use Rattle.ertp_mint.specs.amount_math.declared.Amount.{Amount}
use Rattle.proposals.specs.declared.allocations.Share.{Share}
use Rattle.ertp_mint.specs.Balances.{BalanceView, empty_store, put_taken, taken_put, with_put, with_taken}
use Rattle.seats.proofs.Changes.{stored_in-with, with-same, with-with}
use Rattle.seats.specs.Seats.{IsOpen, SeatView, closed_seat, reopened_seat, stored_in, with_further, with_less, with_more, with_stored, without_last_slot}
use Rattle.seats.specs.Slots.{HasSlot, SlotView, slot_of}

pub undo_put_undoes : (keyword : List ℕ) (c : Content) (seat : SeatView) → HasSlot keyword seat.slots → with_less keyword c (with_more keyword c seat) ≡ seat
undo_put_undoes keyword c seat there =
    let more = with_put (stored_in keyword seat) c in
    ap (λ (s : BalanceView). with_stored keyword (with_taken s c) (with_more keyword c seat)) (stored_in-with keyword seat more there)
    ∙ with-with keyword seat more (with_taken more c) there
    ∙ ap (λ (s : BalanceView). with_stored keyword s seat) (put_taken (stored_in keyword seat) c)
    ∙ with-same keyword seat

pub undo_take_undoes : (keyword : List ℕ) (c : Content) (seat : SeatView) → HasSlot keyword seat.slots → Contains (stored_in keyword seat).amount.value.content c → with_more keyword c (with_less keyword c seat) ≡ seat
undo_take_undoes keyword c seat there has =
    let less = with_taken (stored_in keyword seat) c in
    ap (λ (s : BalanceView). with_stored keyword (with_put s c) (with_less keyword c seat)) (stored_in-with keyword seat less there)
    ∙ with-with keyword seat less (with_put less c) there
    ∙ ap (λ (s : BalanceView). with_stored keyword s seat) (taken_put (stored_in keyword seat) c has)
    ∙ with-same keyword seat

-- a list without the element that was added to it last
pub last_off : {A : Type 0} (xs : List A) (x : A) → take (length (xs ++ x ∷ []) - 1) (xs ++ x ∷ []) ≡ xs
last_off xs x = ap (λ k. take k (xs ++ x ∷ [])) (one_less (length (xs ++ x ∷ [])) (length xs) (length_push xs x)) ∙ take-append_seam xs (x ∷ [])
  where
    one_less : (a b : ℕ) → a ≡ b + 1 → a - 1 ≡ b
    one_less a b e = omega (arith, e)

pub undo_open_slot_undoes : (keyword : List ℕ) (a : Amount) (seat : SeatView) → without_last_slot (with_further keyword a seat) ≡ seat
undo_open_slot_undoes keyword a seat = ap (λ (xs : List SlotView). record seat { slots = xs }) (last_off seat.slots (slot_of keyword (empty_store a.brand a.value.kind)))

none_is : (o : Option (List Share)) → is_some o ≡ false → None ≡ o
none_is None h = refl
none_is (Some shares) h = absurd (cc)

pub undo_close_undoes : (seat : SeatView) → IsOpen seat → reopened_seat (closed_seat seat) ≡ seat
undo_close_undoes seat open_now = ap (λ (o : Option (List Share)). record seat { last = o }) (none_is seat.last open_now)
