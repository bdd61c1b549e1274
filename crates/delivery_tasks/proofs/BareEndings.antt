-- How a turn ends moves nothing but what leaving seats pays out.
use Rattle.std.proofs.Common.{◌≡◌, ℕ, List, [], ◌∷◌, Option, Some, None, subst, sym}
use Rattle.world_reads.specs.call_outcomes.Views.{AreShaped, effect_views}
use Rattle.world_reads.specs.call_outcomes.declared.effects.Effect.{Effect}
use Rattle.delivery_turns.specs.Endings.{binds, binds_to, departs, ending, publishes, settles}
use Rattle.host_data.specs.Tree.{Tree}
use Rattle.delivery_turns.specs.promise_store.States.{SettlementView}
use Rattle.delivery_turns.specs.promise_store.declared.links.Following.{Following}
use Rattle.delivery_tasks.proofs.BareSeats.{AreBare, all_shaped, both_bare, halts_bare, open_bare}
use Rattle.delivery_turns.specs.turn_records.Settlements.{settled_after}
use Rattle.delivery_turns.specs.turn_records.Deliveries as deliveries
use Rattle.delivery_turns.specs.turn_records.Deliveries.{Delivery, promise_of}
use Rattle.delivery_turns.specs.turn_records.Events.{Answer, given, refused, spent, threw}
use Rattle.delivery_turns.specs.turn_rows.Causes as causes
use Rattle.delivery_turns.specs.turn_rows.Causes.{Cause}
use Rattle.delivery_turns.specs.world_state.Worlds.{State, end_staging}

-- ---- the parts of a turn's end

pub publishes_bare : (d : Delivery) (a : Answer) → AreBare (publishes d a)
publishes_bare (deliveries.start s) (given t) = (tt, tt)
publishes_bare (deliveries.start s) (refused r) = tt
publishes_bare (deliveries.start s) (threw t) = tt
publishes_bare (deliveries.start s) (spent n) = tt
publishes_bare (deliveries.call c) a = tt
publishes_bare (deliveries.give g) a = tt
publishes_bare (deliveries.tick t) a = tt
publishes_bare (deliveries.bad r) a = tt
publishes_bare (deliveries.send s) a = tt
publishes_bare (deliveries.offer o) a = tt
publishes_bare (deliveries.wake d) a = tt
publishes_bare (deliveries.notify n) a = tt
publishes_bare (deliveries.deadline s) a = tt

pub settles_bare : (fs : List Following) (p : Option ℕ) (v : SettlementView) → AreBare (settles fs p v)
settles_bare fs None v = tt
settles_bare fs (Some p) v = (tt, tt)

pub departs_bare : (d : Delivery) (a : Answer) (w : State) → AreBare (departs d a w)
departs_bare (deliveries.offer o) (threw t) w = open_bare w o.seat causes.threw
departs_bare (deliveries.offer o) (given t) w = tt
departs_bare (deliveries.offer o) (refused r) w = tt
departs_bare (deliveries.offer o) (spent n) w = tt
departs_bare (deliveries.start s) (threw t) w = halts_bare causes.halted w s.instance
departs_bare (deliveries.start s) (given t) w = tt
departs_bare (deliveries.start s) (refused r) w = tt
departs_bare (deliveries.start s) (spent n) w = tt
departs_bare (deliveries.call c) a w = tt
departs_bare (deliveries.give g) a w = tt
departs_bare (deliveries.tick t) a w = tt
departs_bare (deliveries.bad r) a w = tt
departs_bare (deliveries.send s) a w = tt
departs_bare (deliveries.wake d) a w = tt
departs_bare (deliveries.notify n) a w = tt
departs_bare (deliveries.deadline s) a w = tt

bound_bare : (party : List ℕ) (label : Option (List ℕ)) (t : Tree) → AreBare (binds_to party label t)
bound_bare party None t = tt
bound_bare party (Some label) t = (tt, tt)

pub binds_bare : (d : Delivery) (a : Answer) → AreBare (binds d a)
binds_bare (deliveries.call c) (given t) = bound_bare c.by c.label t
binds_bare (deliveries.call c) (refused r) = tt
binds_bare (deliveries.call c) (threw t) = tt
binds_bare (deliveries.call c) (spent n) = tt
binds_bare (deliveries.start s) a = tt
binds_bare (deliveries.give g) a = tt
binds_bare (deliveries.tick t) a = tt
binds_bare (deliveries.bad r) a = tt
binds_bare (deliveries.send s) a = tt
binds_bare (deliveries.offer o) a = tt
binds_bare (deliveries.wake d) a = tt
binds_bare (deliveries.notify n) a = tt
binds_bare (deliveries.deadline s) a = tt

-- ---- all of it

pub ending_bare : (d : Delivery) (a : Answer) (w : State) → AreBare (ending d a w)
unfolding ending
ending_bare d a w =
    both_bare (publishes d a) _ (publishes_bare d a)
    (both_bare (settles w.promises.follows (promise_of d) (settled_after d a)) _ (settles_bare w.promises.follows (promise_of d) (settled_after d a))
    (both_bare (departs d a w) _ (departs_bare d a w) (both_bare (binds d a) (end_staging ∷ []) (binds_bare d a) (tt, tt))))

pub ending_shaped : (es : List Effect) (d : Delivery) (a : Answer) (w : State) → effect_views es ≡ ending d a w → AreShaped es
ending_shaped es d a w is = all_shaped es (subst AreBare (sym is) (ending_bare d a w))
