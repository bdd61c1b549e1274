-- More lists that break a sentence alone: other parts of sentences, and each way in which a turn shows a cause.
use Rattle.std.specs.Prelude.{◌^◌, ◌-◌, List, [], ◌∷◌, codes}
use Rattle.fair_rows.specs.rights_model.declared.Holder.TheVariants.{Outside, Payment, Purse, Slot}
use Rattle.serde_json.specs.Data as json
use Rattle.fair_rows.specs.turn_rows.Causes as causes
use Rattle.fair_rows.specs.turn_rows.Kinds as kinds
use Rattle.fair_rows.specs.turn_rows.Turns.{Turn, called, counted, elements, number, ok, refused, spent, threw}
use Rattle.fair_samples.specs.Samples.{amount, exit_turn, burned_total, burn_move, call, exit, exit_call, handler_turn, invitation, invitation_turn, kit, kit_turn, mint_turn, move, none, object, offer_turn, one, open_row, payout, service, start_turn, then_turns, total, trade}
use Rattle.fair_samples.specs.Sentences.{Sentence, causes_are_followed, kits_are_empty, offers_burn, offers_escrow, payouts_are_new, payouts_follow, refusals_change_nothing, seats_are_in_order, slots_are_of_one_brand, sums_are_told, supplies_are_bounded}

-- ---- each cause, with no exit row

abbrev pub after_kit : Turn → List Turn
after_kit t = kit_turn ∷ t ∷ []

abbrev pub asked_to_exit : List Turn
asked_to_exit = after_kit (exit_turn 2 [] [])

abbrev pub exit_called : List Turn
exit_called = after_kit (handler_turn 2 (ok json.null) (exit_call ∷ []) [])

abbrev pub fail_called : List Turn
fail_called = after_kit (handler_turn 2 (ok json.null) (call (codes "zseat0") (codes "fail") (one json.null) json.null ∷ []) [])

abbrev pub handler_threw : List Turn
handler_threw = after_kit (handler_turn 2 (threw json.null) [] [])

abbrev pub was_shut_down : List Turn
was_shut_down = after_kit (handler_turn 2 (ok json.null) (call (codes "zcf0") (codes "shutdown") (one json.null) json.null ∷ []) [])

abbrev pub was_shut_down_with_failure : List Turn
was_shut_down_with_failure = after_kit (handler_turn 2 (ok json.null) (call (codes "zcf0") (codes "shutdownWithFailure") (one json.null) json.null ∷ []) [])

abbrev pub start_threw : List Turn
start_threw = record (start_turn 1 (kit ∷ open_row 0 [] [] ∷ []) []) { answer = threw json.null } ∷ []

abbrev pub meter_spent : List Turn
meter_spent = after_kit (handler_turn 2 (spent 9) [] [])

-- by a turn of a facet, whose instance is that of the turn in which its Far call was answered
abbrev pub facet_spent : List Turn
facet_spent =
    start_turn 1 (called (record { how = kinds.far; on = []; method = codes "f"; arguments = json.item (json.object json.no_members) (one json.null); answer = ok (object (codes "facet0")) }) ∷ kit ∷ open_row 0 [] [] ∷ []) []
    ∷ record { number = 2; kind = kinds.facet; by = codes "bob"; on = codes "facet0"; method = codes "m"; arguments = none; answer = spent 9; events = []; sums = [] }
    ∷ []

-- ---- other parts of sentences

-- a movement to the slot of a wanted amount, of another brand
abbrev pub wanted_brand : List Turn
wanted_brand = then_turns (trade (amount (codes "B") 2 7 ∷ [])) (handler_turn 4 (ok json.null) (move 1 Outside (Slot 0 (codes "B")) (number 1) ∷ []) (total 1 6 0 0 0 6 ∷ []) ∷ [])

-- one keyword is given of one brand and wanted of another
abbrev pub two_brands : List Turn
two_brands = trade (amount (codes "A") 2 7 ∷ [])

-- the same seat is opened twice
abbrev pub opened_twice : List Turn
opened_twice = start_turn 1 (kit ∷ open_row 0 [] [] ∷ kit ∷ open_row 0 [] [] ∷ []) [] ∷ []

-- 2^120 are minted
abbrev pub too_much : List Turn
too_much = service 1 (codes "mint1") (codes "mintPayment") none (ok json.null) (move 1 Outside (Payment 0) (number (2 ^ 120 - 1)) ∷ move 1 Outside (Payment 1) (number 1) ∷ []) (total 1 (2 ^ 120) 0 0 (2 ^ 120) 0 ∷ []) ∷ []

-- of a key of a bag brand 2^63 are minted
abbrev pub too_many_of_a_key : List Turn
too_many_of_a_key = service 1 (codes "mint4") (codes "mintPayment") none (ok json.null) (move 4 Outside (Payment 0) (elements (counted (codes "a") (2 ^ 63 - 1) ∷ [])) ∷ move 4 Outside (Payment 1) (elements (counted (codes "a") 1 ∷ [])) ∷ []) (total 4 (2 ^ 63) 0 0 (2 ^ 63) 0 ∷ []) ∷ []

-- the invitation goes to a purse
abbrev pub burned_elsewhere : List Turn
burned_elsewhere = invitation_turn ∷ offer_turn 2 (open_row 0 [] [] ∷ move 0 (Payment 0) (Purse 0) invitation ∷ []) (total 0 1 0 1 0 0 ∷ []) ∷ []

-- 4 are given of the 5 that the open row says
abbrev pub gave_less : List Turn
gave_less = invitation_turn ∷ mint_turn 2 1 4 (total 1 4 0 0 4 0) ∷ offer_turn 3 (open_row 0 (amount (codes "A") 1 5 ∷ []) [] ∷ burn_move ∷ move 1 (Payment 1) (Slot 0 (codes "A")) (number 4) ∷ []) (burned_total ∷ total 1 4 0 0 0 4 ∷ []) ∷ []

-- 3 are paid of the slot's 5
abbrev pub paid_less : List Turn
paid_less = then_turns (trade []) (exit_turn 4 (exit causes.asked (payout (codes "A") 2 ∷ []) ∷ move 1 (Slot 0 (codes "A")) (Payment 2) (number 3) ∷ []) (total 1 5 0 0 3 2 ∷ []) ∷ [])

-- the slot of want is paid before that of give
abbrev pub paid_out_of_order : List Turn
paid_out_of_order =
    then_turns (trade (amount (codes "B") 2 7 ∷ [])) (
    exit_turn 4 (exit causes.asked (payout (codes "A") 2 ∷ payout (codes "B") 3 ∷ []) ∷ move 2 (Slot 0 (codes "B")) (Payment 3) (number 0) ∷ move 1 (Slot 0 (codes "A")) (Payment 2) (number 5) ∷ []) (total 1 5 0 0 5 0 ∷ total 2 0 0 0 0 0 ∷ [])
    ∷ []
    )

-- both slots are paid to one payment
abbrev pub paid_together : List Turn
paid_together =
    then_turns (trade (amount (codes "B") 2 7 ∷ [])) (
    exit_turn 4 (exit causes.asked (payout (codes "A") 2 ∷ payout (codes "B") 2 ∷ []) ∷ move 1 (Slot 0 (codes "A")) (Payment 2) (number 5) ∷ move 2 (Slot 0 (codes "B")) (Payment 2) (number 0) ∷ []) (total 1 5 0 0 5 0 ∷ total 2 0 0 0 0 0 ∷ [])
    ∷ []
    )

-- a refused turn opens a seat, or lets one exit
abbrev pub refused_opening : List Turn
refused_opening = record (start_turn 1 (kit ∷ open_row 0 [] [] ∷ []) []) { answer = refused (codes "Closed") none } ∷ []

abbrev pub refused_exit : List Turn
refused_exit = after_kit (handler_turn 2 (refused (codes "Closed") none) (exit_call ∷ exit causes.exit [] ∷ []) [])

-- a sum is told twice, or off by one
abbrev pub told_twice : List Turn
told_twice = service 1 (codes "mint1") (codes "mintPayment") none (ok json.null) (move 1 Outside (Payment 0) (number 5) ∷ []) (total 1 5 0 0 5 0 ∷ total 1 5 0 0 5 0 ∷ []) ∷ []

abbrev pub off_by_one : List Turn
off_by_one = mint_turn 1 0 5 (total 1 6 0 0 5 0) ∷ []

-- a kit's call row stands right before what an offer opens
abbrev pub offered_behind_kit : List Turn
offered_behind_kit =
    invitation_turn ∷ mint_turn 2 1 5 (total 1 5 0 0 5 0)
    ∷ offer_turn 3 (kit ∷ open_row 0 (amount (codes "A") 1 5 ∷ []) [] ∷ burn_move ∷ move 1 (Payment 1) (Slot 0 (codes "A")) (number 5) ∷ []) (burned_total ∷ total 1 5 0 0 0 5 ∷ [])
    ∷ []

-- two payments of 2^63 - 1: the first edition's supply ends there
abbrev pub large_payments : List Turn
large_payments =
    mint_turn 1 0 (2 ^ 63 - 1) (total 1 (2 ^ 63 - 1) 0 0 (2 ^ 63 - 1) 0)
    ∷ mint_turn 2 1 (2 ^ 63 - 1) (total 1 (2 ^ 64 - 2) 0 0 (2 ^ 64 - 2) 0)
    ∷ []

abbrev pub further : List (Sentence × List Turn)
further =
    (causes_are_followed, asked_to_exit) ∷ (causes_are_followed, exit_called) ∷ (causes_are_followed, fail_called) ∷ (causes_are_followed, handler_threw)
    ∷ (causes_are_followed, was_shut_down) ∷ (causes_are_followed, was_shut_down_with_failure) ∷ (causes_are_followed, start_threw) ∷ (causes_are_followed, meter_spent) ∷ (causes_are_followed, facet_spent)
    ∷ (slots_are_of_one_brand, wanted_brand) ∷ (slots_are_of_one_brand, two_brands) ∷ (seats_are_in_order, opened_twice) ∷ (supplies_are_bounded, too_much)
    ∷ (supplies_are_bounded, too_many_of_a_key)
    ∷ (offers_burn, burned_elsewhere) ∷ (offers_escrow, gave_less)
    ∷ (payouts_follow, paid_less) ∷ (payouts_follow, paid_out_of_order) ∷ (payouts_are_new, paid_together)
    ∷ (refusals_change_nothing, refused_opening) ∷ (refusals_change_nothing, refused_exit)
    ∷ (kits_are_empty, offered_behind_kit)
    ∷ (sums_are_told, told_twice) ∷ (sums_are_told, off_by_one) ∷ []
