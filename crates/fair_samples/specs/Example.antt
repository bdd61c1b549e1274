-- A list of turns with every kind of row: turns of every kind, all that may be answered, calls of every kind, both
-- kinds of openings, movements from and to each holder, an exit for each cause, settlements, and values of each kind.
use Rattle.std.specs.Prelude.{ℕ, true, List, [], ◌∷◌, codes}
use Rattle.fair_rows.specs.rights_model.declared.Holder.TheVariants.{Hand, Outside, Payment, Purse, Slot}
use Rattle.serde_json.specs.Data as json
use Rattle.fair_rows.specs.turn_rows.Causes.{Cause}
use Rattle.fair_rows.specs.turn_rows.Causes as causes
use Rattle.fair_rows.specs.turn_rows.Kinds as kinds
use Rattle.fair_rows.specs.turn_rows.Kinds.{How, Kind}
use Rattle.fair_rows.specs.turn_rows.Rows.{amount_json, amounts_json, only, whole}
use Rattle.fair_rows.specs.turn_rows.Turns.{Answer, Event, ExitRule, Payout, Turn, Value, after_deadline, broken, called, counted, elements, exited, fulfilled, key, number, ok, on_demand, opened, refused, settled, spent, threw, waived}
use Rattle.fair_samples.specs.Samples.{amount, call, invitation, move, none, object, one, payout, service, total}

-- ---- parts

-- a turn in which nothing moves, opens or exits
abbrev pub plain : ℕ → Kind → List ℕ → List ℕ → List ℕ → json.Items → Answer → List Event → Turn
plain n kind by on method arguments answer events = record { number = n; kind = kind; by = by; on = on; method = method; arguments = arguments; answer = answer; events = events; sums = [] }

abbrev pub row_of : How → List ℕ → List ℕ → json.Items → Answer → Event
row_of how on method arguments answer = called (record { how = how; on = on; method = method; arguments = arguments; answer = answer })

abbrev pub function_named : List ℕ → json.Data
function_named name = only (codes "=>") (json.string name)

abbrev pub kit_row : ℕ → ℕ → ExitRule → List Event
kit_row instance seat rule = opened (record { seat = seat; instance = instance; give = []; want = []; exit = rule }) ∷ []

abbrev pub exit_event : ℕ → Cause → List Payout → Event
exit_event seat cause payouts = exited (record { seat = seat; cause = cause; payouts = payouts })

abbrev pub art : Value
art = elements (key (codes "a") ∷ [])

abbrev pub tickets : Value
tickets = elements (counted (codes "b") 2 ∷ counted (codes "c") 1 ∷ [])

abbrev pub nothing_of_set : Value
nothing_of_set = elements []

abbrev pub and_rows : List Event → List Event → List Event
and_rows [] fs = fs
and_rows (e ∷ es) fs = e ∷ and_rows es fs

abbrev pub and_turns : List Turn → List Turn → List Turn
and_turns [] us = us
and_turns (t ∷ ts) us = t ∷ and_turns ts us

-- ---- alice's purse and payments, what bob is given, and what is refused

abbrev pub purse_read : Turn
purse_read = service 5 (codes "purse0") (codes "getCurrentAmount") none (ok (amount_json 1 (number 6))) [] []

abbrev pub payment_read : Turn
payment_read = service 6 (codes "issuer1") (codes "getAmountOf") (one (object (codes "payment1"))) (ok (amount_json 1 (number 4))) [] []

abbrev pub goods : List Turn
goods =
    plain 1 kinds.service (codes "alice") (codes "ertp") (codes "makeIssuerKit") (json.item (json.string (codes "moola")) (one (json.string (codes "nat")))) (ok (json.object (json.member (codes "brand") (object (codes "brand1")) (json.member (codes "issuer") (object (codes "issuer1")) (json.member (codes "mint") (object (codes "mint1")) json.no_members))))) []
    ∷ service 2 (codes "mint1") (codes "mintPayment") (one (amount_json 1 (number 10))) (ok (object (codes "payment0"))) (move 1 Outside (Payment 0) (number 10) ∷ []) (total 1 10 0 0 10 0 ∷ [])
    ∷ service 3 (codes "purse0") (codes "deposit") (one (object (codes "payment0"))) (ok (amount_json 1 (number 10))) (move 1 (Payment 0) (Purse 0) (number 10) ∷ []) (total 1 10 0 10 0 0 ∷ [])
    ∷ service 4 (codes "purse0") (codes "withdraw") (one (amount_json 1 (number 4))) (ok (object (codes "payment1"))) (move 1 (Purse 0) (Payment 1) (number 4) ∷ []) (total 1 10 0 6 4 0 ∷ [])
    ∷ purse_read
    ∷ payment_read
    ∷ plain 7 kinds.give (codes "alice") (codes "bob") (codes "purse") (one (object (codes "purse0"))) (ok json.null) []
    ∷ plain 8 kinds.bad [] [] [] none (refused (codes "BadLine") none) []
    ∷ plain 9 kinds.message (codes "alice") [] (codes "deposit") none (refused (codes "UnknownName") (one (json.string (codes "q")))) []
    ∷ plain 10 kinds.tick [] (codes "timer") [] (one (whole 5)) (ok json.null) []
    ∷ service 11 (codes "mint3") (codes "mintPayment") (one (amount_json 3 art)) (ok (object (codes "payment2"))) (move 3 Outside (Payment 2) art ∷ []) (total 3 1 0 0 1 0 ∷ [])
    ∷ service 12 (codes "mint4") (codes "mintPayment") (one (amount_json 4 tickets)) (ok (object (codes "payment3"))) (move 4 Outside (Payment 3) tickets ∷ []) (total 4 3 0 0 3 0 ∷ [])
    ∷ service 13 (codes "issuer4") (codes "burn") (one (object (codes "payment3"))) (ok (amount_json 4 tickets)) (move 4 (Payment 3) Outside tickets ∷ []) (total 4 3 3 0 0 0 ∷ [])
    ∷ []

-- ---- a contract starts: an invitation, a kit, a send, a `when`, a facet

abbrev pub example_start : Turn
example_start = record {
  number = 14;
  kind = kinds.start;
  by = codes "instance0";
  on = codes "instance0";
  method = codes "start";
  arguments = none;
  answer = ok (object (codes "facet0"));
  events =
      row_of kinds.calls (codes "zcf0") (codes "makeInvitation") (json.item (function_named (codes "h")) (json.item (json.string (codes "go")) (one json.null))) (ok (object (codes "payment4")))
      ∷ move 0 Outside (Payment 4) invitation
      ∷ row_of kinds.calls (codes "zcf0") (codes "makeEmptySeatKit") (one json.null) (ok json.null)
      ∷ and_rows (kit_row 0 0 waived) (
      row_of kinds.sends (codes "timer") (codes "getCurrentTimestamp") none (ok (object (codes "promise1")))
      ∷ row_of kinds.when (codes "promise1") (codes "n") (one json.null) (ok (object (codes "promise2")))
      ∷ row_of kinds.far [] (codes "desk") (json.item (json.object (json.member (codes "m") (function_named (codes "m")) json.no_members)) (one json.null)) (ok (object (codes "facet0")))
      ∷ row_of kinds.calls (codes "zcf0") (codes "makeInvitation") none (refused (codes "BadArgs") (one (whole 1)))
      ∷ settled 0 (fulfilled (object (codes "facet0")))
      ∷ []
      );
  sums = total 0 1 0 0 1 0 ∷ [];
}

-- alice gives 4 of brand 1 and wants the art
abbrev pub example_offer : Turn
example_offer = service 15 (codes "zoe") (codes "offer") (json.item (object (codes "payment4")) (json.item json.null (one json.null))) (ok (object (codes "seat1"))) (
    opened (record { seat = 1; instance = 0; give = amount (codes "Price") 1 4 ∷ []; want = record { keyword = codes "Art"; brand = 3; value = art } ∷ []; exit = after_deadline 10 })
    ∷ move 0 (Payment 4) Outside invitation
    ∷ move 1 (Payment 1) (Slot 1 (codes "Price")) (number 4)
    ∷ []
    ) (total 0 1 1 0 0 0 ∷ total 1 10 0 6 0 4 ∷ [])

-- her offer's handler gives her the art, takes the price to the kit's seat by way of the hand, and lets her go
abbrev pub example_handler : Turn
example_handler = record {
  number = 16;
  kind = kinds.handler;
  by = codes "instance0";
  on = codes "zseat1";
  method = codes "h";
  arguments = one json.null;
  answer = ok (json.string (codes "done"));
  events =
      call (codes "zseat1") (codes "getCurrentAllocation") none (json.object (amounts_json (record { keyword = codes "Art"; brand = 3; value = nothing_of_set } ∷ amount (codes "Price") 1 4 ∷ [])))
      ∷ call (codes "zseat1") (codes "getAmountAllocated") (json.item (json.string (codes "Price")) (one (object (codes "brand1")))) (amount_json 1 (number 4))
      ∷ move 3 (Payment 2) (Slot 1 (codes "Art")) art
      ∷ call (codes "zcf0") (codes "atomicRearrange") (one json.null) json.null
      ∷ move 1 (Slot 1 (codes "Price")) Hand (number 4)
      ∷ move 1 Hand (Slot 0 (codes "Till")) (number 4)
      ∷ call (codes "zseat1") (codes "exit") none json.null
      ∷ exit_event 1 causes.exit (payout (codes "Art") 6 ∷ payout (codes "Price") 5 ∷ [])
      ∷ move 1 (Slot 1 (codes "Price")) (Payment 5) (number 0)
      ∷ move 3 (Slot 1 (codes "Art")) (Payment 6) art
      ∷ settled 4 (fulfilled (json.object (json.member (codes "Art") (object (codes "payment6")) (json.member (codes "Price") (object (codes "payment5")) json.no_members))))
      ∷ settled 3 (fulfilled (json.string (codes "done")))
      ∷ [];
  sums = total 1 10 0 6 0 4 ∷ total 3 1 0 0 1 0 ∷ [];
}

abbrev pub seat_read : Turn
seat_read = service 17 (codes "seat1") (codes "getFinalAllocation") none (ok (json.object (amounts_json (record { keyword = codes "Art"; brand = 3; value = art } ∷ amount (codes "Price") 1 0 ∷ [])))) [] []

-- ---- a facet opens four seats more; each exits for a cause of its own

abbrev pub kit_again : ℕ → List Event → List Event
kit_again seat es = row_of kinds.calls (codes "zcf0") (codes "makeEmptySeatKit") none (ok json.null) ∷ and_rows (kit_row 0 seat on_demand) es

abbrev pub facet_turn : Turn
facet_turn = plain 18 kinds.facet (codes "alice") (codes "facet0") (codes "m") none (ok json.null) (kit_again 2 (kit_again 3 (kit_again 4 (kit_again 5 []))))

abbrev pub exit_turns : List Turn
exit_turns =
    plain 19 kinds.service (codes "alice") (codes "seat2") (codes "tryExit") none (ok json.null) (exit_event 2 causes.asked [] ∷ [])
    ∷ plain 20 kinds.deadline [] (codes "seat3") [] none (ok json.null) (exit_event 3 causes.deadline [] ∷ [])
    ∷ plain 21 kinds.handler (codes "instance0") (codes "zseat4") (codes "h") (one json.null) (ok json.null) (call (codes "zseat4") (codes "fail") (one json.null) json.null ∷ exit_event 4 causes.fail [] ∷ [])
    ∷ plain 22 kinds.handler (codes "instance0") (codes "zseat5") (codes "h") (one json.null) (threw (json.string (codes "x"))) (settled 5 (broken (json.string (codes "x"))) ∷ exit_event 5 causes.threw [] ∷ [])
    ∷ plain 23 kinds.notify (codes "instance0") (codes "promise1") (codes "n") (one (json.object (json.member (codes "ok") (json.boolean true) (json.member (codes "value") (whole 5) json.no_members)))) (ok json.null) []
    ∷ record {
      number = 24;
      kind = kinds.wake;
      by = codes "instance0";
      on = codes "timer";
      method = codes "w";
      arguments = one (whole 5);
      answer = ok json.null;
      events = call (codes "zcf0") (codes "shutdown") (one json.null) json.null ∷ exit_event 0 causes.halted (payout (codes "Till") 7 ∷ []) ∷ move 1 (Slot 0 (codes "Till")) (Payment 7) (number 4) ∷ [];
      sums = total 1 10 0 6 4 0 ∷ [];
    }
    ∷ []

-- one contract spends its meter, another one's start throws

abbrev pub last_turns : List Turn
last_turns =
    plain 25 kinds.start (codes "instance1") (codes "instance1") (codes "start") none (ok json.null) (row_of kinds.far [] (codes "desk") (json.item (json.object json.no_members) (one json.null)) (ok (object (codes "facet1"))) ∷ row_of kinds.calls (codes "zcf1") (codes "makeEmptySeatKit") none (ok json.null) ∷ kit_row 1 6 on_demand)
    ∷ plain 26 kinds.facet (codes "bob") (codes "facet1") (codes "m") none (spent 1000000) (exit_event 6 causes.spent [] ∷ settled 6 (broken (json.object (json.member (codes "code") (json.string (codes "Spent")) (json.member (codes "shown") (json.array (one (whole 1000000))) json.no_members)))) ∷ [])
    ∷ plain 27 kinds.start (codes "instance2") (codes "instance2") (codes "start") none (threw json.null) (row_of kinds.calls (codes "zcf2") (codes "makeEmptySeatKit") none (ok json.null) ∷ and_rows (kit_row 2 7 on_demand) (exit_event 7 causes.halted [] ∷ []))
    ∷ plain 28 kinds.service (codes "instance0") (codes "seat7") (codes "tryExit") none (refused (codes "SeatExited") (one (whole 7))) []
    ∷ []

abbrev pub example : List Turn
example = and_turns goods (example_start ∷ example_offer ∷ example_handler ∷ seat_read ∷ facet_turn ∷ and_turns exit_turns last_turns)
