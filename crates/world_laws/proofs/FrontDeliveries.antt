-- Settling and all effects leave what is in front where it is.
use Rattle.std.proofs.Common.{◌≡◌, ℕ, List, [], ◌∷◌, Option, Some, None, length, ◌++◌, refl, ap, ◌∙◌}
use Rattle.world_state.specs.actors.SeatPromises.{pair_at}
use Rattle.world_state.specs.promise_store.States.{SettlementView, ok}
use Rattle.world_state.specs.turn_records.Deliveries.{Delivery}
use Rattle.world_state.specs.turn_records.Events.{Event}
use Rattle.world_state.specs.turn_rows.Causes.{Cause}
use Rattle.world_state.specs.Promises.{CascadeStep, Flow, PromiseBook, Resolved, all_stepped, as_resolved, cascade, flowing, following, notifies, resolving, resolving_to, settlement_at, settles, settling, stepped, target_of}
use Rattle.world_state.specs.Rights.{slots_at}
use Rattle.world_state.specs.Worlds.{Effect, State, add_issuer, after, after_all, arrive, bind_label, empty_payment, empty_seat, end_staging, exit, halt, in_front, install, invite, keep_state, leaving_events, make_facet, moves, new_brand, new_purse, note_call, offer, payouts_tree, publish, resolve, rights_left, seats_left, send, set_time, stage, start, stop, unstage, wake, when}
use Rattle.world_laws.specs.Fronts.{with_front}

abbrev front : Delivery → Flow → Flow
front d f = record f { waiting = d ∷ f.waiting }

one_step : (d : Delivery) (v : SettlementView) (s : CascadeStep) (f : Flow) → stepped v s (front d f) ≡ front d (stepped v s f)
one_step d v (settles p) f = refl
one_step d v (notifies p) f = refl

all_steps : (d : Delivery) (v : SettlementView) (ss : List CascadeStep) (f : Flow) → all_stepped v ss (front d f) ≡ front d (all_stepped v ss f)
all_steps d v [] f = refl
all_steps d v (s ∷ ss) f = ap (all_stepped v ss) (one_step d v s f) ∙ all_steps d v ss (stepped v s f)

pub settling_passes : (d : Delivery) (p : ℕ) (v : SettlementView) (b : PromiseBook) (ws : List Delivery) (log : List Event)
    → settling p v b (d ∷ ws) log ≡ with_front d (settling p v b ws log)
settling_passes d p v b ws log = ap (as_resolved b.follows) (all_steps d v (cascade (length b.settled) b.follows p) (flowing b ws log))

pub following_passes : (d : Delivery) (s : Option SettlementView) (p q : ℕ) (b : PromiseBook) (ws : List Delivery) (log : List Event)
    → following s p q b (d ∷ ws) log ≡ with_front d (following s p q b ws log)
following_passes d (Some v) p q b ws log = settling_passes d p v b ws log
following_passes d None p q b ws log = refl

to_passes : (d : Delivery) (t : Option ℕ) (p : ℕ) (v : SettlementView) (b : PromiseBook) (ws : List Delivery) (log : List Event)
    → resolving_to t p v b (d ∷ ws) log ≡ with_front d (resolving_to t p v b ws log)
to_passes d None p v b ws log = settling_passes d p v b ws log
to_passes d (Some q) p v b ws log = following_passes d (settlement_at b.settled q) p q b ws log

pub resolving_passes : (d : Delivery) (p : ℕ) (v : SettlementView) (b : PromiseBook) (ws : List Delivery) (log : List Event)
    → resolving p v b (d ∷ ws) log ≡ with_front d (resolving p v b ws log)
resolving_passes d p v b ws log = to_passes d (target_of v) p v b ws log

-- ---- effects

-- what settling comes to, in a world
abbrev settled_in : State → Resolved → State
settled_in w r = record w { promises = r.promises; waiting = r.waiting; log = r.log }

abbrev left_by : State → ℕ → State
left_by w seat = record w {
  rights = rights_left w.rights seat;
  seats = seats_left w.seats seat (slots_at w.rights.slots seat);
  staging = (after w (unstage seat)).staging;
}

exit_passes : (d : Delivery) (w : State) (seat : ℕ) (cause : Cause) → after (in_front d w) (exit seat cause) ≡ in_front d (after w (exit seat cause))
exit_passes d w seat cause =
    ap (settled_in (left_by w seat))
    (resolving_passes d (pair_at w.pairs seat).payouts (ok (payouts_tree w seat)) w.promises w.waiting (w.log ++ leaving_events w seat cause))

pub effect_passes : (d : Delivery) (w : State) (e : Effect) → after (in_front d w) e ≡ in_front d (after w e)
effect_passes d w (resolve p v) = ap (settled_in w) (resolving_passes d p v w.promises w.waiting w.log)
effect_passes d w (exit seat cause) = exit_passes d w seat cause
effect_passes d w (new_brand b maker) = refl
effect_passes d w (new_purse b) = refl
effect_passes d w (empty_payment b) = refl
effect_passes d w (moves ms) = refl
effect_passes d w (stage seat shares) = refl
effect_passes d w (unstage seat) = refl
effect_passes d w end_staging = refl
effect_passes d w (offer o) = refl
effect_passes d w (empty_seat i rule) = refl
effect_passes d w (invite details) = refl
effect_passes d w (send i target method arguments) = refl
effect_passes d w (when i p function held) = refl
effect_passes d w (wake t delivery) = refl
effect_passes d w (set_time t) = refl
effect_passes d w (arrive delivery) = refl
effect_passes d w (install m) = refl
effect_passes d w (start s) = refl
effect_passes d w (add_issuer i issuer) = refl
effect_passes d w (publish i facet) = refl
effect_passes d w (keep_state i values) = refl
effect_passes d w (stop i) = refl
effect_passes d w (halt i) = refl
effect_passes d w (make_facet f) = refl
effect_passes d w (bind_label party label value) = refl
effect_passes d w (note_call c) = refl

pub effects_pass : (d : Delivery) (w : State) (es : List Effect) → after_all (in_front d w) es ≡ in_front d (after_all w es)
effects_pass d w [] = refl
effects_pass d w (e ∷ es) = ap (λ u. after_all u es) (effect_passes d w e) ∙ effects_pass d (after w e) es
