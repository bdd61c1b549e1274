-- For each sentence of fairness a short list of turns that breaks it and meets all others.
use Rattle.std.specs.Prelude.{◌++◌, ◌-◌, ◌^◌, ℕ, zero, suc, List, [], ◌∷◌, codes}
use Rattle.fair_rows.specs.rights_model.declared.Holder.{Holder}
use Rattle.fair_rows.specs.rights_model.declared.Holder.TheVariants.{Hand, Outside, Payment, Purse, Slot}
use Rattle.fair_rows.specs.rights_model.declared.Sum.{Sum}
use Rattle.serde_json.specs.Data as json
use Rattle.fair_rows.specs.turn_rows.Causes.{Cause}
use Rattle.fair_rows.specs.turn_rows.Causes as causes
use Rattle.fair_rows.specs.turn_rows.Kinds as kinds
use Rattle.fair_rows.specs.turn_rows.Rows.{amount_json, amounts_json, only, whole}
use Rattle.fair_rows.specs.turn_rows.Turns.{Answer, Event, KeywordAmount, Payout, Turn, Value, called, elements, exited, key, moved, number, ok, on_demand, opened, refused, threw}
use Rattle.fair_samples.specs.Sentences.{Sentence, turns_are_numbered, purse_amounts, payment_amounts, final_amounts, movements_are_defined, payments_stay_spent, values_are_of_one_kind, slots_are_of_one_brand, seats_are_in_order, offers_burn, offers_escrow, kits_are_empty, openings_are_called_for, exits_are_of_open_seats, exits_follow_their_cause, causes_are_the_first, causes_are_followed, payouts_follow, payouts_are_named, payouts_are_new, exits_are_covered, seats_stay_covered, refusals_change_nothing, slots_are_of_opened_seats, slots_are_of_no_exited_seat, payments_are_emptied, tables_balance, supplies_are_bounded, sums_are_told, current_amounts, slot_amounts, minted_totals_are_bounded}

-- ---- parts of turns

abbrev pub object : List ℕ → json.Data
object name = only (codes "@") (json.string name)

abbrev pub one : json.Data → json.Items
one d = json.item d json.no_items

abbrev pub none : json.Items
none = json.no_items

-- a call of alice's
abbrev pub service : ℕ → List ℕ → List ℕ → json.Items → Answer → List Event → List Sum → Turn
service n on method arguments answer events sums = record { number = n; kind = kinds.service; by = codes "alice"; on = on; method = method; arguments = arguments; answer = answer; events = events; sums = sums }

abbrev pub start_turn : ℕ → List Event → List Sum → Turn
start_turn n events sums = record { number = n; kind = kinds.start; by = codes "instance0"; on = codes "instance0"; method = codes "start"; arguments = none; answer = ok json.null; events = events; sums = sums }

-- of the seat 0
abbrev pub handler_turn : ℕ → Answer → List Event → List Sum → Turn
handler_turn n answer events sums = record { number = n; kind = kinds.handler; by = codes "instance0"; on = codes "zseat0"; method = codes "h"; arguments = one json.null; answer = answer; events = events; sums = sums }

abbrev pub deadline_turn : ℕ → List Event → List Sum → Turn
deadline_turn n events sums = record { number = n; kind = kinds.deadline; by = []; on = codes "seat0"; method = []; arguments = none; answer = ok json.null; events = events; sums = sums }

abbrev pub tick_turn : ℕ → Turn
tick_turn n = record { number = n; kind = kinds.tick; by = []; on = codes "timer"; method = []; arguments = one (whole 0); answer = ok json.null; events = []; sums = [] }

abbrev pub call : List ℕ → List ℕ → json.Items → json.Data → Event
call on method arguments answer = called (record { how = kinds.calls; on = on; method = method; arguments = arguments; answer = ok answer })

abbrev pub move : ℕ → Holder → Holder → Value → Event
move b from to v = moved (record { brand = b; from = from; to = to; value = v })

abbrev pub open_row : ℕ → List KeywordAmount → List KeywordAmount → Event
open_row seat give want = opened (record { seat = seat; instance = 0; give = give; want = want; exit = on_demand })

abbrev pub exit : Cause → List Payout → Event
exit cause payouts = exited (record { seat = 0; cause = cause; payouts = payouts })

abbrev pub amount : List ℕ → ℕ → ℕ → KeywordAmount
amount keyword b n = record { keyword = keyword; brand = b; value = number n }

abbrev pub payout : List ℕ → ℕ → Payout
payout keyword p = record { keyword = keyword; payment = p }

-- minted, burned, and what purses, payments and slots have
abbrev pub total : ℕ → ℕ → ℕ → ℕ → ℕ → ℕ → Sum
total b minted burned purses payments slots = record { brand = b; minted = minted; burned = burned; purses = purses; payments = payments; slots = slots }

abbrev pub invitation : Value
invitation = elements (key (codes "inv:0000000000") ∷ [])

-- ---- turns

-- payment p is minted, of n of brand 1
abbrev pub mint_turn : ℕ → ℕ → ℕ → Sum → Turn
mint_turn turn p n sum = service turn (codes "mint1") (codes "mintPayment") (one (amount_json 1 (number n))) (ok json.null) (move 1 Outside (Payment p) (number n) ∷ []) (sum ∷ [])

-- 2^120 - 1 of brand 1 come to a purse and are burned, so many times
abbrev pub minted_and_burned : ℕ → List Event
minted_and_burned zero = []
minted_and_burned (suc n) = move 1 Outside (Purse 0) (number (2 ^ 120 - 1)) ∷ move 1 (Purse 0) Outside (number (2 ^ 120 - 1)) ∷ minted_and_burned n

abbrev pub deposit_turn : ℕ → Turn
deposit_turn turn = service turn (codes "purse0") (codes "deposit") (one (object (codes "payment0"))) (ok (amount_json 1 (number 5))) (move 1 (Payment 0) (Purse 0) (number 5) ∷ []) (total 1 5 0 5 0 0 ∷ [])

abbrev pub kit : Event
kit = call (codes "zcf0") (codes "makeEmptySeatKit") (one json.null) json.null

-- the instance opens seat 0
abbrev pub kit_turn : Turn
kit_turn = start_turn 1 (kit ∷ open_row 0 [] [] ∷ []) []

abbrev pub exit_call : Event
exit_call = call (codes "zseat0") (codes "exit") none json.null

-- the instance makes an invitation, payment 0
abbrev pub invitation_turn : Turn
invitation_turn = start_turn 1 (move 0 Outside (Payment 0) invitation ∷ []) (total 0 1 0 0 1 0 ∷ [])

abbrev pub offer_turn : ℕ → List Event → List Sum → Turn
offer_turn turn events sums = service turn (codes "zoe") (codes "offer") (one (object (codes "payment0"))) (ok (object (codes "seat0"))) events sums

abbrev pub burn_move : Event
burn_move = move 0 (Payment 0) Outside invitation

abbrev pub burned_total : Sum
burned_total = total 0 1 1 0 0 0

-- seat 0 gives 5 of brand 1 as A, and wants what is said
abbrev pub trade : List KeywordAmount → List Turn
trade want = invitation_turn ∷ mint_turn 2 1 5 (total 1 5 0 0 5 0) ∷ offer_turn 3 (open_row 0 (amount (codes "A") 1 5 ∷ []) want ∷ burn_move ∷ move 1 (Payment 1) (Slot 0 (codes "A")) (number 5) ∷ []) (burned_total ∷ total 1 5 0 0 0 5 ∷ []) ∷ []

abbrev pub exit_turn : ℕ → List Event → List Sum → Turn
exit_turn turn events sums = service turn (codes "seat0") (codes "tryExit") none (ok json.null) events sums

abbrev pub then_turns : List Turn → List Turn → List Turn
then_turns [] us = us
then_turns (t ∷ ts) us = t ∷ then_turns ts us

-- 64 times 2^120 - 1 come and are burned, then 64 come
abbrev pub often_minted : Turn
often_minted = service 1 (codes "mint1") (codes "mintPayment") none (ok json.null) (minted_and_burned 64 ++ move 1 Outside (Purse 0) (number 64) ∷ []) (total 1 (2 ^ 126) (2 ^ 126 - 64) 64 0 0 ∷ [])

-- ---- the lists

abbrev pub sample : Sentence → List Turn
sample turns_are_numbered = tick_turn 2 ∷ []
sample purse_amounts = mint_turn 1 0 5 (total 1 5 0 0 5 0) ∷ deposit_turn 2 ∷ service 3 (codes "purse0") (codes "getCurrentAmount") none (ok (amount_json 1 (number 4))) [] [] ∷ []
sample payment_amounts = mint_turn 1 0 5 (total 1 5 0 0 5 0) ∷ service 2 (codes "issuer1") (codes "getAmountOf") (one (object (codes "payment0"))) (ok (amount_json 1 (number 4))) [] [] ∷ []
sample final_amounts = kit_turn ∷ handler_turn 2 (ok json.null) (exit_call ∷ exit causes.exit [] ∷ []) [] ∷ service 3 (codes "seat0") (codes "getFinalAllocation") none (ok (json.object (amounts_json (amount (codes "A") 1 4 ∷ [])))) [] [] ∷ []
-- a payment that was never made is burned
sample movements_are_defined = service 1 (codes "issuer1") (codes "burn") (one (object (codes "payment0"))) (ok (amount_json 1 (number 5))) (move 1 (Payment 0) Outside (number 5) ∷ []) (total 1 0 5 0 0 0 ∷ []) ∷ []
-- a payment that was deposited is given something again
sample payments_stay_spent = mint_turn 1 0 5 (total 1 5 0 0 5 0) ∷ deposit_turn 2 ∷ mint_turn 3 0 5 (total 1 10 0 5 5 0) ∷ []
sample values_are_of_one_kind = mint_turn 1 0 5 (total 1 5 0 0 5 0) ∷ service 2 (codes "mint1") (codes "mintPayment") none (ok json.null) (move 1 Outside (Payment 1) (elements (key (codes "a") ∷ [])) ∷ []) (total 1 6 0 0 6 0 ∷ []) ∷ []
sample slots_are_of_one_brand = kit_turn ∷ handler_turn 2 (ok json.null) (move 1 Outside (Slot 0 (codes "A")) (number 5) ∷ move 2 Outside (Slot 0 (codes "A")) (number 5) ∷ []) (total 1 5 0 0 0 5 ∷ total 2 5 0 0 0 5 ∷ []) ∷ []
sample seats_are_in_order = start_turn 1 (kit ∷ open_row 1 [] [] ∷ []) [] ∷ []
sample offers_burn = invitation_turn ∷ offer_turn 2 (open_row 0 [] [] ∷ []) [] ∷ []
sample offers_escrow = invitation_turn ∷ mint_turn 2 1 5 (total 1 5 0 0 5 0) ∷ offer_turn 3 (open_row 0 (amount (codes "A") 1 5 ∷ []) [] ∷ burn_move ∷ []) (burned_total ∷ []) ∷ []
sample kits_are_empty = start_turn 1 (kit ∷ open_row 0 [] (amount (codes "B") 1 5 ∷ []) ∷ []) [] ∷ []
sample openings_are_called_for = start_turn 1 (open_row 0 [] [] ∷ []) [] ∷ []
-- a seat exits twice
sample exits_are_of_open_seats = kit_turn ∷ handler_turn 2 (ok json.null) (exit_call ∷ exit causes.exit [] ∷ []) [] ∷ handler_turn 3 (ok json.null) (exit_call ∷ exit causes.exit [] ∷ []) [] ∷ []
sample exits_follow_their_cause = kit_turn ∷ handler_turn 2 (ok json.null) (exit causes.exit [] ∷ exit_call ∷ []) [] ∷ []
-- what the turn row shows counts after what call rows show
sample causes_are_the_first = kit_turn ∷ handler_turn 2 (threw json.null) (exit causes.threw [] ∷ exit_call ∷ []) [] ∷ []
sample causes_are_followed = kit_turn ∷ deadline_turn 2 [] [] ∷ []
sample payouts_follow = then_turns (trade []) (exit_turn 4 (exit causes.asked (payout (codes "A") 2 ∷ []) ∷ []) [] ∷ [])
sample payouts_are_named = then_turns (trade []) (exit_turn 4 (exit causes.asked (payout (codes "A") 2 ∷ payout (codes "B") 3 ∷ []) ∷ move 1 (Slot 0 (codes "A")) (Payment 2) (number 5) ∷ []) (total 1 5 0 0 5 0 ∷ []) ∷ [])
sample payouts_are_new = then_turns (trade []) (mint_turn 4 2 3 (total 1 8 0 0 3 5) ∷ exit_turn 5 (exit causes.asked (payout (codes "A") 2 ∷ []) ∷ move 1 (Slot 0 (codes "A")) (Payment 2) (number 5) ∷ []) (total 1 8 0 0 8 0 ∷ []) ∷ [])
sample exits_are_covered =
    then_turns (trade (amount (codes "B") 2 7 ∷ [])) (
    handler_turn 4 (ok json.null) (move 1 (Slot 0 (codes "A")) (Payment 2) (number 5) ∷ exit_call ∷ exit causes.exit (payout (codes "A") 3 ∷ payout (codes "B") 4 ∷ [])
    ∷ move 1 (Slot 0 (codes "A")) (Payment 3) (number 0) ∷ move 2 (Slot 0 (codes "B")) (Payment 4) (number 0) ∷ []) (total 1 5 0 0 5 0 ∷ total 2 0 0 0 0 0 ∷ [])
    ∷ []
    )
sample seats_stay_covered = then_turns (trade (amount (codes "B") 2 7 ∷ [])) (handler_turn 4 (ok json.null) (move 1 (Slot 0 (codes "A")) (Payment 2) (number 5) ∷ []) (total 1 5 0 0 5 0 ∷ []) ∷ [])
sample refusals_change_nothing = service 1 (codes "mint1") (codes "mintPayment") none (refused (codes "TooMuch") none) (move 1 Outside (Payment 0) (number 5) ∷ []) (total 1 5 0 0 5 0 ∷ []) ∷ []
sample slots_are_of_opened_seats = service 1 (codes "mint1") (codes "mintPayment") none (ok json.null) (move 1 Outside (Slot 0 (codes "A")) (number 5) ∷ []) (total 1 5 0 0 0 5 ∷ []) ∷ []
sample slots_are_of_no_exited_seat = kit_turn ∷ handler_turn 2 (ok json.null) (exit_call ∷ exit causes.exit [] ∷ []) [] ∷ service 3 (codes "mint1") (codes "mintPayment") none (ok json.null) (move 1 Outside (Slot 0 (codes "A")) (number 5) ∷ []) (total 1 5 0 0 0 5 ∷ []) ∷ []
-- 3 of a payment's 5 are claimed
sample payments_are_emptied = mint_turn 1 0 5 (total 1 5 0 0 5 0) ∷ service 2 (codes "issuer1") (codes "claim") (one (object (codes "payment0"))) (ok (object (codes "payment1"))) (move 1 (Payment 0) (Payment 1) (number 3) ∷ []) (total 1 5 0 0 5 0 ∷ []) ∷ []
-- the hand keeps something
sample tables_balance = mint_turn 1 0 5 (total 1 5 0 0 5 0) ∷ handler_turn 2 (ok json.null) (move 1 (Payment 0) Hand (number 5) ∷ []) (total 1 5 0 0 0 0 ∷ []) ∷ []
-- one key of a set brand is minted twice
sample supplies_are_bounded = service 1 (codes "mint3") (codes "mintPayment") none (ok json.null) (move 3 Outside (Payment 0) (elements (key (codes "a") ∷ [])) ∷ move 3 Outside (Payment 1) (elements (key (codes "a") ∷ [])) ∷ []) (total 3 2 0 0 2 0 ∷ []) ∷ []
sample minted_totals_are_bounded = often_minted ∷ []
sample sums_are_told = service 1 (codes "mint1") (codes "mintPayment") none (ok json.null) (move 1 Outside (Payment 0) (number 5) ∷ []) [] ∷ []
sample current_amounts = start_turn 1 (kit ∷ open_row 0 [] [] ∷ call (codes "zseat0") (codes "getCurrentAllocation") none (json.object (amounts_json (amount (codes "A") 1 4 ∷ []))) ∷ []) [] ∷ []
sample slot_amounts = start_turn 1 (kit ∷ open_row 0 [] [] ∷ call (codes "zseat0") (codes "getAmountAllocated") (json.item (json.string (codes "A")) (one (object (codes "brand1")))) (amount_json 1 (number 4)) ∷ []) [] ∷ []
