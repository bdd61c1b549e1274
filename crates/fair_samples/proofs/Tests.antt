-- A test of each sentence that computes: of a list of turns that is written out, it tells that the list meets the sentence.
use Rattle.std.proofs.Common.{◌+◌, ℕ, suc, Bool, true, false, not, ◌&&◌, ◌||◌, ◌==◌, List, [], ◌∷◌, ◌++◌, map, length, is_some, codes, bytes_eq, Option, Some, None}
use Rattle.std.specs.List.{list_all, slice_get}
use Rattle.fair_rows.specs.rights_model.Supply.{is_outside}
use Rattle.fair_rows.specs.rights_model.Totals.{brands_of, is_payment}
use Rattle.fair_rows.specs.rights_model.declared.Holder.{Holder}
use Rattle.fair_rows.specs.rights_model.declared.Holder.TheVariants.{Payment, Slot}
use Rattle.fair_rows.specs.rights_model.declared.Sum.{Sum}
use Rattle.fair_rows.specs.turn_rows.Causes.{Cause}
use Rattle.fair_rows.specs.turn_rows.Causes as causes
use Rattle.fair_rows.specs.turn_rows.Turns.{Answer, Call, Element, Event, KeywordAmount, Move, Opening, SeatExit, Turn, Value, called, counted, elements, exited, key, moved, number, opened, refused, settled, ok, Payout}
use Rattle.fair_rows.specs.turn_rows.declared.editions.Edition.{Edition}
use Rattle.serde_json.specs.Data as json
use Rattle.fair_rows.specs.ExitCauses.{calls, first_cause, is_call, is_ok, name}
use Rattle.fair_rows.specs.Movements.{movements_in, names, takes_from}
use Rattle.fair_rows.specs.Rows.{Due, InTurn, after_event, burn, escrow, is_offer, is_service, payment_under, payout}
use Rattle.fair_rows.specs.Seats.{Seat, SlotName, brand_under, new_seat}
use Rattle.fair_rows.specs.SoFar.{SoFar, nothing_so_far, with_row, with_turn}
use Rattle.fair_rows.specs.Turns.{after_events, after_turn_row}
use Rattle.fair_rows.specs.Values.{Named}
use Rattle.fair_samples.specs.Sentences.{Sentence, turns_are_numbered, purse_amounts, payment_amounts, final_amounts, movements_are_defined, payments_stay_spent, values_are_of_one_kind, slots_are_of_one_brand, seats_are_in_order, offers_burn, offers_escrow, kits_are_empty, openings_are_called_for, exits_are_of_open_seats, exits_follow_their_cause, causes_are_the_first, causes_are_followed, payouts_follow, payouts_are_named, payouts_are_new, exits_are_covered, seats_stay_covered, refusals_change_nothing, slots_are_of_opened_seats, slots_are_of_no_exited_seat, payments_are_emptied, tables_balance, supplies_are_bounded, sums_are_told, current_amounts, slot_amounts, minted_totals_are_bounded}
use Rattle.fair_samples.proofs.Held.{all_held, can_move, can_move_all, has, has_just, moves_of}
use Rattle.fair_samples.proofs.Printed.{are_of_kinds, kind_at}
use Rattle.fair_samples.proofs.Sized.{are_bounded, are_within, can_sum, is_hand_empty, mints_few, sum_in}

-- the movements of the turns before, of all rows so far, and as they were at the last exit row; the newest first
pub record Read : Type 0 where
  pub before : List Move
  pub now : List Move
  pub at_exit : List Move

abbrev pub fresh : List Move → Read
fresh ms = record { before = ms; now = ms; at_exit = [] }

abbrev pub if_first : {A : Type 0} → List Due → A → A → A
if_first [] new old = new
if_first (d ∷ ds) new old = old

abbrev pub read_event : InTurn → Read → Event → Read
read_event i r (moved m) = record r { now = m ∷ r.now }
read_event i r (exited x) = record r { at_exit = if_first i.due r.now r.at_exit }
read_event i r _ = r

abbrev pub read_events : InTurn → Read → List Event → Read
read_events i r [] = r
read_events i r (e ∷ es) = read_events (after_event i e) (read_event i r e) es

-- ---- parts of rows

abbrev pub of_move : Event → (Move → Bool) → Bool
of_move (moved m) test = test m
of_move _ test = true

abbrev pub of_opening : Event → (Opening → Bool) → Bool
of_opening (opened o) test = test o
of_opening _ test = true

abbrev pub of_exit : Event → (SeatExit → Bool) → Bool
of_exit (exited x) test = test x
of_exit _ test = true

abbrev pub of_call : Event → (Call → Bool) → Bool
of_call (called c) test = test c
of_call _ test = true

abbrev pub unless_due : List Due → Bool → Bool
unless_due [] test = test
unless_due (d ∷ ds) test = true

abbrev pub if_some : {A : Type 0} → Option A → (A → Bool) → Bool
if_some (Some x) test = test x
if_some None test = true

abbrev pub some_and : {A : Type 0} → Option A → (A → Bool) → Bool
some_and (Some x) test = test x
some_and None test = false

-- ---- equality

abbrev pub cause_number : Cause → ℕ
cause_number causes.asked = 0
cause_number causes.deadline = 1
cause_number causes.exit = 2
cause_number causes.fail = 3
cause_number causes.threw = 4
cause_number causes.halted = 5
cause_number causes.spent = 6

abbrev pub is_cause : Option Cause → Cause → Bool
is_cause (Some c) d = cause_number c == cause_number d
is_cause None d = false

abbrev pub same_element : Element → Element → Bool
same_element (key s) (key t) = bytes_eq s t
same_element (counted s m) (counted t n) = bytes_eq s t && m == n
same_element _ _ = false

abbrev pub same_elements : List Element → List Element → Bool
same_elements [] [] = true
same_elements (d ∷ ds) (e ∷ es) = same_element d e && same_elements ds es
same_elements _ _ = false

abbrev pub same_value : Value → Value → Bool
same_value (number m) (number n) = m == n
same_value (elements ds) (elements es) = same_elements ds es
same_value _ _ = false

abbrev pub same_sum : Sum → Sum → Bool
same_sum s t = s.brand == t.brand && (s.minted == t.minted && (s.burned == t.burned && (s.purses == t.purses && (s.payments == t.payments && s.slots == t.slots))))

abbrev pub same_sums : List Sum → List Sum → Bool
same_sums [] [] = true
same_sums (s ∷ ss) (t ∷ ts) = same_sum s t && same_sums ss ts
same_sums _ _ = false

abbrev pub is_slot_of : ℕ → List ℕ → Holder → Bool
is_slot_of seat keyword (Slot n w) = n == seat && bytes_eq w keyword
is_slot_of seat keyword _ = false

-- ---- turn rows

abbrev pub is_read : List ℕ → Turn → Bool
is_read method t = is_service t.kind && (is_ok t.answer && bytes_eq t.method method)

-- an answer that is no record, and so holds no amount
abbrev pub is_bare : Answer → Bool
is_bare (ok (json.object ms)) = false
is_bare _ = true

abbrev pub turn_row_test : Sentence → SoFar → Turn → Bool
turn_row_test turns_are_numbered s t = t.number == s.turns + 1
turn_row_test purse_amounts s t = not (is_read (codes "getCurrentAmount") t) || is_bare t.answer
turn_row_test payment_amounts s t = not (is_read (codes "getAmountOf") t) || is_bare t.answer
turn_row_test final_amounts s t = not (is_read (codes "getFinalAllocation") t) || is_bare t.answer
turn_row_test _ s t = true

-- ---- rows of events

abbrev pub stays : Read → Holder → Bool
stays r (Payment p) = not (takes_from p (moves_of r.before))
stays r _ = true

abbrev pub is_of_brand : List Seat → ℕ → Holder → Bool
is_of_brand seats b (Slot seat keyword) = if_some (slice_get seats seat) (λ s. if_some (brand_under keyword s.slots) (λ c. c == b))
is_of_brand seats b _ = true

abbrev pub is_brand : Option ℕ → ℕ → Bool
is_brand (Some c) b = c == b
is_brand None b = false

abbrev pub opens_of_brand : Opening → Bool
opens_of_brand o = list_all (λ (a : KeywordAmount). is_brand (brand_under a.keyword (new_seat o).slots) a.brand) (o.give ++ o.want)

abbrev pub is_single : Value → Bool
is_single (elements (key k ∷ [])) = true
is_single _ = false

abbrev pub is_burn : Move → Bool
is_burn m = m.brand == 0 && (is_payment m.from && (is_outside m.to && is_single m.value))

abbrev pub burn_test : List Due → Event → Bool
burn_test (burn ∷ ds) (moved m) = is_burn m
burn_test (burn ∷ ds) _ = false
burn_test _ _ = true

abbrev pub is_escrow : ℕ → KeywordAmount → Move → Bool
is_escrow seat a m = m.brand == a.brand && (is_payment m.from && (is_slot_of seat a.keyword m.to && same_value m.value a.value))

abbrev pub escrow_test : List Due → Event → Bool
escrow_test (escrow seat a ∷ ds) (moved m) = is_escrow seat a m
escrow_test (escrow seat a ∷ ds) _ = false
escrow_test _ _ = true

abbrev pub pays : Option ℕ → Holder → Bool
pays (Some p) (Payment q) = q == p
pays _ _ = false

abbrev pub is_payout : List Move → ℕ → SlotName → Option ℕ → Move → Bool
is_payout ms seat slot found m = m.brand == slot.brand && (is_slot_of seat slot.keyword m.from && (pays found m.to && has_just ms (Slot seat slot.keyword) slot.brand m.value))

abbrev pub payout_test : List Move → List Due → Event → Bool
payout_test ms (payout seat slot c found ∷ ds) (moved m) = is_payout ms seat slot found m
payout_test ms (payout seat slot c found ∷ ds) _ = false
payout_test ms _ _ = true

abbrev pub is_new : List Move → Holder → Bool
is_new ms (Payment p) = not (names p (moves_of ms))
is_new ms _ = true

abbrev pub new_test : List Move → List Due → Event → Bool
new_test ms (payout seat slot c found ∷ ds) (moved m) = is_new ms m.to
new_test ms _ _ = true

abbrev pub is_nil : {A : Type 0} → List A → Bool
is_nil [] = true
is_nil (x ∷ xs) = false

abbrev pub last_is : (Call → Bool) → List Event → Bool
last_is test [] = false
last_is test (called c ∷ []) = test c
last_is test (e ∷ es) = last_is test es

abbrev pub covers : List Move → ℕ → List KeywordAmount → Bool
covers ms seat amounts = list_all (λ (a : KeywordAmount). has ms (Slot seat a.keyword) a.brand a.value) amounts

abbrev pub is_safe : List Move → Opening → Bool
is_safe ms o = covers ms o.seat o.want || covers ms o.seat o.give

abbrev pub is_quiet : Event → Bool
is_quiet (called c) = true
is_quiet (settled p r) = true
is_quiet _ = false

abbrev pub refusal_test : Answer → Event → Bool
refusal_test (refused code shown) e = is_quiet e
refusal_test _ e = true

abbrev pub is_opened : List Seat → Holder → Bool
is_opened seats (Slot seat keyword) = is_some (slice_get seats seat)
is_opened seats _ = true

abbrev pub is_not_exited : List Seat → Holder → Bool
is_not_exited seats (Slot seat keyword) = if_some (slice_get seats seat) (λ s. not (is_some s.last))
is_not_exited seats _ = true

abbrev pub is_call_of : List ℕ → Call → Bool
is_call_of method c = is_call c.how && (is_ok c.answer && bytes_eq c.method method)

-- the call of an instance's kit
abbrev pub is_kit : ℕ → Call → Bool
is_kit instance c = calls (name (codes "zcf") instance) (codes "makeEmptySeatKit") c

abbrev pub event_test : Sentence → Read → InTurn → Event → Bool
event_test movements_are_defined r i e = of_move e (can_move r.now)
event_test minted_totals_are_bounded r i e = of_move e (λ m. mints_few (m ∷ r.now) m.brand)
event_test payments_stay_spent r i e = of_move e (λ m. stays r m.from && stays r m.to)
event_test values_are_of_one_kind r i e = are_of_kinds (with_row i.now e).amounts
event_test slots_are_of_one_brand r i e = of_move e (λ m. unless_due i.due (is_of_brand i.now.seats m.brand m.from && is_of_brand i.now.seats m.brand m.to)) && of_opening e opens_of_brand
event_test seats_are_in_order r i e = of_opening e (λ o. o.seat == length i.now.seats)
event_test offers_burn r i e = burn_test i.due e
event_test offers_escrow r i e = escrow_test i.due e
event_test kits_are_empty r i e = of_opening e (λ o. not (last_is (is_call_of (codes "makeEmptySeatKit")) i.here) || (is_nil o.give && is_nil o.want))
event_test openings_are_called_for r i e = of_opening e (λ o. is_offer i.row || (last_is (is_kit 0) i.here || (last_is (is_kit 1) i.here || last_is (is_kit 2) i.here)))
event_test exits_are_of_open_seats r i e = of_exit e (λ x. some_and (slice_get i.now.seats x.seat) (λ s. not (is_some s.last)))
event_test exits_follow_their_cause r i e = of_exit e (λ x. if_some (slice_get i.now.seats x.seat) (λ s. is_cause (first_cause i.before.owners i.row i.here s.opening.instance x.seat) x.cause))
event_test payouts_follow r i e = payout_test r.at_exit i.due e
event_test payouts_are_named r i e = of_exit e (λ x. if_some (slice_get i.now.seats x.seat) (λ s. length x.payouts == length s.slots && list_all (λ (slot : SlotName). is_some (payment_under slot.keyword x.payouts)) s.slots))
event_test payouts_are_new r i e = new_test r.now i.due e && of_exit e (λ x. list_all (λ (p : Payout). not (names p.payment (moves_of r.now))) x.payouts)
event_test exits_are_covered r i e = of_exit e (λ x. if_some (slice_get i.now.seats x.seat) (λ s. is_safe r.now s.opening))
event_test refusals_change_nothing r i e = refusal_test i.row.answer e
event_test slots_are_of_opened_seats r i e = of_move e (λ m. unless_due i.due (is_opened i.now.seats m.from && is_opened i.now.seats m.to))
event_test slots_are_of_no_exited_seat r i e = of_move e (λ m. unless_due i.due (is_not_exited i.now.seats m.from && is_not_exited i.now.seats m.to))
event_test current_amounts r i e = of_call e (λ c. not (is_call_of (codes "getCurrentAllocation") c) || is_bare c.answer)
event_test slot_amounts r i e = of_call e (λ c. not (is_call_of (codes "getAmountAllocated") c) || is_bare c.answer)
event_test _ r i e = true

-- ---- ends of turns

abbrev pub no_burn : List Due → Bool
no_burn (burn ∷ ds) = false
no_burn _ = true

abbrev pub no_escrow : List Due → Bool
no_escrow (escrow seat a ∷ ds) = false
no_escrow _ = true

abbrev pub no_payout : List Due → Bool
no_payout (payout seat slot c found ∷ ds) = false
no_payout _ = true

abbrev pub is_first : InTurn → Event → Bool
is_first i (exited x) = some_and (slice_get i.now.seats x.seat) (λ s. is_cause (first_cause i.before.owners i.row i.here s.opening.instance x.seat) x.cause)
is_first i _ = true

-- each seat passes, by its number, or has exited
abbrev pub open_seats : (ℕ → Seat → Bool) → ℕ → List Seat → Bool
open_seats test n [] = true
open_seats test n (s ∷ ss) = (is_some s.last || test n s) && open_seats test (suc n) ss

abbrev pub is_emptied : List Event → Holder → ℕ → Bool
is_emptied es (Payment p) n = not (takes_from p (movements_in es)) || n == 0
is_emptied es _ n = true

abbrev pub is_numbers : Value → Bool
is_numbers (number n) = true
is_numbers (elements es) = false

-- the first two amounts are of one brand, a number and elements
abbrev pub clash : List Named → Bool
clash (a ∷ b ∷ amounts) = a.0 == b.0 && (is_numbers a.1 && not (is_numbers b.1))
clash _ = false

abbrev pub end_test : Edition → Sentence → Read → InTurn → List Sum → Bool
end_test d offers_burn r i sums = no_burn i.due
end_test d offers_escrow r i sums = no_escrow i.due
end_test d payouts_follow r i sums = no_payout i.due
end_test d causes_are_the_first r i sums = list_all (is_first i) i.here
end_test d causes_are_followed r i sums = open_seats (λ n s. not (is_some (first_cause i.before.owners i.row i.here s.opening.instance n))) 0 i.now.seats
end_test d seats_stay_covered r i sums = open_seats (λ n s. is_safe r.now s.opening) 0 i.now.seats
end_test d payments_are_emptied r i sums = all_held (λ h b k n. is_emptied i.here h n) r.now
end_test d tables_balance r i sums = can_move_all r.now && is_hand_empty r.now
end_test d supplies_are_bounded r i sums = clash i.now.amounts || (are_of_kinds i.now.amounts && (are_bounded kind_at r.now && are_within d kind_at r.now))
end_test d sums_are_told r i sums = can_sum r.now && same_sums sums (map (sum_in r.now) (brands_of (movements_in i.here)))
end_test d _ r i sums = true

-- ---- lists of turns

abbrev pub rows_test : Sentence → Read → InTurn → List Event → Bool
rows_test y r i [] = true
rows_test y r i (e ∷ es) = event_test y r i e && rows_test y (read_event i r e) (after_event i e) es

abbrev pub turn_test : Edition → Sentence → List Move → SoFar → Turn → Bool
turn_test d y ms s t = turn_row_test y s t && (rows_test y (fresh ms) (after_turn_row s t) t.events && end_test d y (read_events (after_turn_row s t) (fresh ms) t.events) (after_events (after_turn_row s t) t.events) t.sums)

abbrev pub turns_test : Edition → Sentence → List Move → SoFar → List Turn → Bool
turns_test d y ms s [] = true
turns_test d y ms s (t ∷ ts) = turn_test d y ms s t && turns_test d y (read_events (after_turn_row s t) (fresh ms) t.events).now (with_turn s t) ts

abbrev pub passes : Edition → Sentence → List Turn → Bool
passes d y ts = turns_test d y [] nothing_so_far ts
