-- What a turn tells of its delivery can be printed: the delivery itself, what was read for it, and the arguments.
use Rattle.std.specs.Prelude.{IfOk}
use Rattle.std.proofs.Common.{None, Result, Ok, Err}
use Rattle.turn_writer.specs.host_data.Tree.{Tree}
use Rattle.turn_writer.specs.refusals.declared.codes.Refusal.{Refusal}
use Rattle.turn_writer.specs.Printing.{CanPrintAll, CanPrintDelivery, CanPrintReading}
use Rattle.turn_writer.proofs.Brought.{told_prints}
use Rattle.delivery_turns.specs.turn_records.Deliveries as deliveries
use Rattle.delivery_turns.specs.turn_records.Deliveries.{Delivery, IsReadFor, Reading}
use Rattle.delivery_turns.specs.turn_records.Messages.{LineCall, LineGift}
use Rattle.delivery_turns.specs.turn_records.Printed.{trees_of}
use Rattle.delivery_turns.specs.world_state.Good.{IsGoodWorld}
use Rattle.delivery_turns.specs.world_state.Worlds.{State, in_front}
use Rattle.rule_laws.proofs.world_laws.Fronts.{due_behind, good_behind}
use Rattle.rule_laws.proofs.world_laws.Printables.{function_named}
use Rattle.delivery_turns.specs.Messages.{Addressed, addressed, gift_of, sent_to}
use Rattle.delivery_turns.specs.Tasks.{beginning, call_beginning, gift_beginning, settlement_of}
use Rattle.delivery_laws.proofs.Printing.{all_print, below, formed_prints}
use Rattle.delivery_laws.proofs.Reading.{IsAddressed, IsCalled, IsGift, addressed_there, gift_there, sent_there, weaker_ok}
use Rattle.delivery_laws.proofs.Works.{settlement_handed}
use Rattle.delivery_laws.proofs.Growing.{settling_prints}

pub delivery_prints : (w : State) (d : Delivery) → IsGoodWorld (in_front d w) → CanPrintDelivery d
delivery_prints w (deliveries.call c) good = (due_behind w (deliveries.call c) good).by
delivery_prints w (deliveries.give g) good = let due = due_behind w (deliveries.give g) good in (due.by, due.to)
delivery_prints w (deliveries.tick t) good = due_behind w (deliveries.tick t) good
delivery_prints w (deliveries.bad r) good = tt
delivery_prints w (deliveries.send s) good = tt
delivery_prints w (deliveries.start s) good = tt
delivery_prints w (deliveries.offer o) good = function_named w o.instance o.function (good_behind w (deliveries.offer o) good) (due_behind w (deliveries.offer o) good).function
delivery_prints w (deliveries.wake x) good = function_named w x.instance x.function (good_behind w (deliveries.wake x) good) (due_behind w (deliveries.wake x) good).function
delivery_prints w (deliveries.notify n) good = function_named w n.instance n.function (good_behind w (deliveries.notify n) good) (due_behind w (deliveries.notify n) good).notice.function
delivery_prints w (deliveries.deadline seat) good = tt

-- ---- what is read

pub record IsPrintedReading (d : Delivery) (r : Reading) : Type 0 where
  pub read : IsReadFor d r
  pub reading : CanPrintReading r
  pub arguments : CanPrintAll (trees_of d r)

call_read : (w : State) (c : LineCall) (r : Result Addressed Refusal) (good : IsGoodWorld w) → IfOk r (IsAddressed w good) → IsPrintedReading (deliveries.call c) (call_beginning w c.method r).reading
call_read w c (Ok a) good is = record { read = tt; reading = below w good None a.target is.target.objects; arguments = all_print w good None a.arguments is.arguments }
call_read w c (Err r) good is = record { read = tt; reading = tt; arguments = tt }

send_read : (w : State) (s : deliveries.Send) (r : Result Addressed Refusal) (good : IsGoodWorld w) → IfOk r (IsAddressed w good) → IsPrintedReading (deliveries.send s) (call_beginning w s.method r).reading
send_read w s (Ok a) good is = record { read = tt; reading = below w good None a.target is.target.objects; arguments = all_print w good None a.arguments is.arguments }
send_read w s (Err r) good is = record { read = tt; reading = tt; arguments = tt }

gift_read : (w : State) (g : LineGift) (r : Result Tree Refusal) (good : IsGoodWorld w) → IfOk r (IsGift w good g) → IsPrintedReading (deliveries.give g) (gift_beginning g r).reading
gift_read w g (Ok t) good is = record { read = tt; reading = tt; arguments = (formed_prints w good None t is.handed, tt) }
gift_read w g (Err r) good is = record { read = tt; reading = tt; arguments = tt }

pub reading_prints : (w : State) (d : Delivery) → IsGoodWorld (in_front d w) → IsPrintedReading d (beginning w d).reading
unfolding beginning
reading_prints w (deliveries.call c) good =
    let whole = good_behind w (deliveries.call c) good in
    call_read w c (addressed w c) whole (weaker_ok (IsCalled w whole c) (IsAddressed w whole) (addressed w c) (λ a is. is.addressed_to) (addressed_there w whole c (due_behind w (deliveries.call c) good)))
reading_prints w (deliveries.send s) good =
    let whole = good_behind w (deliveries.send s) good in
    send_read w s (sent_to w s) whole (sent_there w whole s (due_behind w (deliveries.send s) good))
reading_prints w (deliveries.give g) good = gift_read w g (gift_of w g) (good_behind w (deliveries.give g) good) (gift_there w (good_behind w (deliveries.give g) good) g)
reading_prints w (deliveries.tick t) good = record { read = tt; reading = tt; arguments = (tt, tt) }
reading_prints w (deliveries.bad r) good = record { read = tt; reading = tt; arguments = tt }
reading_prints w (deliveries.start s) good = record { read = tt; reading = tt; arguments = tt }
reading_prints w (deliveries.offer o) good = record { read = tt; reading = tt; arguments = (formed_prints w (good_behind w (deliveries.offer o) good) None o.offer_arguments (due_behind w (deliveries.offer o) good).arguments, tt) }
reading_prints w (deliveries.wake x) good = record { read = tt; reading = (good_behind w (deliveries.wake x) good).timely.time; arguments = (tt, tt) }
reading_prints w (deliveries.notify n) good =
    let whole = good_behind w (deliveries.notify n) good in
    let due = due_behind w (deliveries.notify n) good in
    let s = settlement_of w n.promise in
    record { read = tt; reading = tt; arguments = (told_prints s (settling_prints w whole s (settlement_handed w whole n.promise due.notice.promise)), tt) }
reading_prints w (deliveries.deadline seat) good = record { read = tt; reading = tt; arguments = tt }
