-- Lists of turns that are fair and not strict: none of them has all that a host keeps to beyond fairness.
use Rattle.std.specs.Prelude.{List, [], ◌∷◌, codes}
use Rattle.fair_rows.specs.rights_model.declared.Holder.TheVariants.{Outside, Purse}
use Rattle.serde_json.specs.Data as json
use Rattle.fair_rows.specs.turn_rows.Causes as causes
use Rattle.fair_rows.specs.turn_rows.Rows.{amount_json}
use Rattle.fair_rows.specs.turn_rows.Turns.{Turn, number, ok, refused, threw}
use Rattle.fair_samples.specs.Samples.{call, deposit_turn, exit, handler_turn, kit_turn, mint_turn, move, none, object, one, open_row, service, start_turn, tick_turn, total}

-- ---- answers that aren't whole

-- no amount is answered, of a purse that has one; of a payment; of a seat's slots
abbrev pub no_purse_amount : List Turn
no_purse_amount =
    mint_turn 1 0 5 (total 1 5 0 0 5 0) ∷ deposit_turn 2
    ∷ service 3 (codes "purse0") (codes "getCurrentAmount") none (ok json.null) [] [] ∷ []

abbrev pub no_payment_amount : List Turn
no_payment_amount =
    mint_turn 1 0 5 (total 1 5 0 0 5 0)
    ∷ service 2 (codes "issuer1") (codes "getAmountOf") (one (object (codes "payment0"))) (ok json.null) [] [] ∷ []

abbrev pub no_allocation : List Turn
no_allocation =
    start_turn 1 (call (codes "zcf0") (codes "makeEmptySeatKit") (one json.null) json.null ∷ open_row 0 [] [] ∷ call (codes "zseat0") (codes "getCurrentAllocation") none json.null ∷ []) [] ∷ []

-- a purse has another brand beside the one that is answered
abbrev pub two_brands_read : Turn
two_brands_read = service 4 (codes "purse0") (codes "getCurrentAmount") none (ok (amount_json 1 (number 5))) [] []

abbrev pub purse_of_two_brands : List Turn
purse_of_two_brands =
    mint_turn 1 0 5 (total 1 5 0 0 5 0) ∷ deposit_turn 2
    ∷ service 3 (codes "mint2") (codes "mintPayment") none (ok json.null) (move 2 Outside (Purse 0) (number 7) ∷ []) (total 2 7 0 7 0 0 ∷ [])
    ∷ two_brands_read ∷ []

-- ---- rows

-- the kit's call is on another instance's zcf
abbrev pub kit_of_another : List Turn
kit_of_another = start_turn 1 (call (codes "zcf1") (codes "makeEmptySeatKit") (one json.null) json.null ∷ open_row 0 [] [] ∷ []) [] ∷ []

-- a call stands behind an exit that the turn row shows
abbrev pub called_behind_exit : List Turn
called_behind_exit =
    kit_turn
    ∷ handler_turn 2 (threw json.null) (exit causes.threw [] ∷ call (codes "zcf0") (codes "shutdown") (one json.null) json.null ∷ []) []
    ∷ []

-- a call stands in a turn in which no function was run
abbrev pub called_in_service : List Turn
called_in_service =
    service 1 (codes "timer") (codes "getCurrentTimestamp") none (ok json.null) (call (codes "timer") (codes "getCurrentTimestamp") none json.null ∷ []) [] ∷ []

-- a tick is refused for another reason
abbrev pub tick_refused : List Turn
tick_refused = record (tick_turn 1) { answer = refused (codes "Limit") none } ∷ []

abbrev pub lax : List (List Turn)
lax =
    no_purse_amount ∷ no_payment_amount ∷ no_allocation ∷ purse_of_two_brands ∷ kit_of_another
    ∷ called_behind_exit ∷ called_in_service ∷ tick_refused ∷ []
