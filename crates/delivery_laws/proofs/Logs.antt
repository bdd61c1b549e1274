-- What was told in the turn changes nothing of what effects do and of what they need.
use Rattle.std.proofs.Common.{◌≡◌, ℕ, List, [], ◌∷◌, Option, Some, None, length, ◌++◌, refl, sym, ap, subst, arith}
use Rattle.delivery_turns.specs.actors.SeatPromises.{pair_at}
use Rattle.delivery_turns.specs.promise_store.States.{SettlementView, ok}
use Rattle.delivery_turns.specs.turn_records.Deliveries.{Delivery}
use Rattle.delivery_turns.specs.turn_records.Events.{Event}
use Rattle.delivery_turns.specs.turn_rows.Causes.{Cause}
use Rattle.delivery_turns.specs.world_state.Good.{AreGood, IsGoodEffect, IsMaker}
use Rattle.delivery_turns.specs.world_state.Known.{Extends, Grows, Keeps}
use Rattle.delivery_turns.specs.world_state.Promises.{CascadeStep, Flow, PromiseBook, Resolved, all_stepped, as_resolved, cascade, flowing, following, notifies, resolving, resolving_to, settlement_at, settles, settling, stepped, target_of}
use Rattle.delivery_turns.specs.world_state.Rights.{slots_at}
use Rattle.delivery_turns.specs.world_state.Worlds.{Effect, Maker, State, add_issuer, after, after_all, arrive, bind_label, empty_payment, empty_seat, end_staging, exit, halt, install, invite, keep_state, leaving_events, make_facet, moves, new_brand, new_purse, note_call, of_host, of_instance, of_kit, offer, payouts_tree, publish, resolve, rights_left, seats_left, send, set_time, stage, start, stop, unstage, wake, when}
use Rattle.rule_laws.proofs.world_laws.Forms.{facet_grows, formed_grows, handed_all_grow, invitation_grows, issuer_grows, issuers_all_grow, known_all_grow, settling_grows, wakeup_grows}
use Rattle.delivery_laws.specs.Told.{with_log}

-- ---- settling

abbrev relog : List Event → Flow → Flow
relog log f = record f { log = log }

all_steps : (l : List Event) (v : SettlementView) (ss : List CascadeStep) (f : Flow) → all_stepped v ss (relog l f) ≡ relog (all_stepped v ss (relog l f)).log (all_stepped v ss f)
all_steps l v [] f = refl
all_steps l v (settles p ∷ ss) f = all_steps (stepped v (settles p) (relog l f)).log v ss (stepped v (settles p) f)
all_steps l v (notifies p ∷ ss) f = all_steps l v ss (stepped v (notifies p) f)

abbrev with_told : List Event → Resolved → Resolved
with_told log r = record r { log = log }

settling_untold : (l m : List Event) (p : ℕ) (v : SettlementView) (b : PromiseBook) (ws : List Delivery) → settling p v b ws l ≡ with_told (settling p v b ws l).log (settling p v b ws m)
settling_untold l m p v b ws = ap (as_resolved b.follows) (all_steps l v (cascade (length b.settled) b.follows p) (flowing b ws m))

following_untold : (l m : List Event) (s : Option SettlementView) (p q : ℕ) (b : PromiseBook) (ws : List Delivery) → following s p q b ws l ≡ with_told (following s p q b ws l).log (following s p q b ws m)
following_untold l m (Some v) p q b ws = settling_untold l m p v b ws
following_untold l m None p q b ws = refl

to_untold : (l m : List Event) (t : Option ℕ) (p : ℕ) (v : SettlementView) (b : PromiseBook) (ws : List Delivery) → resolving_to t p v b ws l ≡ with_told (resolving_to t p v b ws l).log (resolving_to t p v b ws m)
to_untold l m None p v b ws = settling_untold l m p v b ws
to_untold l m (Some q) p v b ws = following_untold l m (settlement_at b.settled q) p q b ws

resolving_untold : (l m : List Event) (p : ℕ) (v : SettlementView) (b : PromiseBook) (ws : List Delivery) → resolving p v b ws l ≡ with_told (resolving p v b ws l).log (resolving p v b ws m)
resolving_untold l m p v b ws = to_untold l m (target_of v) p v b ws

-- ---- effects

abbrev settled_in : State → Resolved → State
settled_in w r = record w { promises = r.promises; waiting = r.waiting; log = r.log }

abbrev left_by : State → ℕ → State
left_by w seat = record w {
  rights = rights_left w.rights seat;
  seats = seats_left w.seats seat (slots_at w.rights.slots seat);
  staging = (after w (unstage seat)).staging;
}

exit_untold : (l : List Event) (w : State) (seat : ℕ) (cause : Cause) → after (with_log l w) (exit seat cause) ≡ with_log (after (with_log l w) (exit seat cause)).log (after w (exit seat cause))
exit_untold l w seat cause =
    let told = leaving_events w seat cause in
    ap (settled_in (left_by w seat)) (resolving_untold (l ++ told) (w.log ++ told) (pair_at w.pairs seat).payouts (ok (payouts_tree w seat)) w.promises w.waiting)

pub effect_untold : (l : List Event) (w : State) (e : Effect) → after (with_log l w) e ≡ with_log (after (with_log l w) e).log (after w e)
effect_untold l w (resolve p v) = ap (settled_in w) (resolving_untold l w.log p v w.promises w.waiting)
effect_untold l w (exit seat cause) = exit_untold l w seat cause
effect_untold l w (new_brand b maker) = refl
effect_untold l w (new_purse b) = refl
effect_untold l w (empty_payment b) = refl
effect_untold l w (moves ms) = refl
effect_untold l w (stage seat rows) = refl
effect_untold l w (unstage seat) = refl
effect_untold l w end_staging = refl
effect_untold l w (offer o) = refl
effect_untold l w (empty_seat i rule) = refl
effect_untold l w (invite details) = refl
effect_untold l w (send i target method arguments) = refl
effect_untold l w (when i p f held) = refl
effect_untold l w (wake t delivery) = refl
effect_untold l w (set_time t) = refl
effect_untold l w (arrive delivery) = refl
effect_untold l w (install m) = refl
effect_untold l w (start s) = refl
effect_untold l w (add_issuer i issuer) = refl
effect_untold l w (publish i facet) = refl
effect_untold l w (keep_state i values) = refl
effect_untold l w (stop i) = refl
effect_untold l w (halt i) = refl
effect_untold l w (make_facet f) = refl
effect_untold l w (bind_label party label value) = refl
effect_untold l w (note_call c) = refl

pub effects_untold : (l : List Event) (w : State) (es : List Effect) → after_all (with_log l w) es ≡ with_log (after_all (with_log l w) es).log (after_all w es)
effects_untold l w [] = refl
effects_untold l w (e ∷ es) =
    let u = after (with_log l w) e in
    subst (λ (x : State). after_all x es ≡ with_log (after_all x es).log (after_all (after w e) es)) (sym (effect_untold l w e)) (effects_untold u.log (after w e) es)

-- ---- what they need

extends_itself : {A B : Type 0} (seen : A → B) (none : A) (xs : List A) → Extends seen none xs xs
extends_itself seen none xs = record { more = omega arith; same = λ n h. refl }

keeps_itself : {A : Type 0} (P : A → Type 0) (none : A) (xs : List A) → Keeps P none xs xs
keeps_itself P none xs = record { each = λ n h is. is }

pub log_grows : (l : List Event) (w : State) → Grows w (with_log l w)
log_grows l w = record {
  brands = extends_itself _ _ _;
  makers = extends_itself _ _ _;
  purses = omega arith;
  payments = omega arith;
  seats = extends_itself _ _ _;
  pairs = extends_itself _ _ _;
  invitations = extends_itself _ _ _;
  installations = extends_itself _ _ _;
  instances = extends_itself _ _ _;
  facets = extends_itself _ _ _;
  promises = omega arith;
  settled = keeps_itself _ _ _;
  left = keeps_itself _ _ _;
  spent = keeps_itself _ _ _;
}

maker_untold : (l : List Event) (w : State) (maker : Maker) → IsMaker w maker → IsMaker (with_log l w) maker
maker_untold l w of_host is = is
maker_untold l w of_kit is = is
maker_untold l w (of_instance i) is = is

pub good_untold : (l : List Event) (w : State) (e : Effect) → IsGoodEffect w e → IsGoodEffect (with_log l w) e
good_untold l w (new_brand b maker) is = record { few = is.few; made = maker_untold l w maker is.made }
good_untold l w (new_purse b) is = record { made = is.made; few = is.few }
good_untold l w (empty_payment b) is = record { made = is.made; room = is.room }
good_untold l w (moves ms) is = is
good_untold l w (stage seat rows) is = is
good_untold l w (unstage seat) is = tt
good_untold l w end_staging is = tt
good_untold l w (offer o) is = record {
  invited = is.invited;
  at_work = is.at_work;
  proposal = is.proposal;
  burn = is.burn;
  escrows = is.escrows;
  payments = is.payments;
  moves = is.moves;
  safe = is.safe;
  arguments = formed_grows w (with_log l w) (log_grows l w) None o.arguments is.arguments;
  seats = is.seats;
  promises = is.promises;
}
good_untold l w (empty_seat i rule) is = record { made = is.made; at_work = is.at_work; timely = is.timely; seats = is.seats; promises = is.promises }
good_untold l w (exit seat cause) is = is
good_untold l w (invite d) is = record { details = invitation_grows w (with_log l w) (log_grows l w) d is.details; few = is.few; room = is.room }
good_untold l w (resolve p v) is = record { pending = is.pending; free = is.free; handed = settling_grows w (with_log l w) (log_grows l w) v is.handed; straight = is.straight }
good_untold l w (send i target method arguments) is = record {
  made = is.made;
  target = formed_grows w (with_log l w) (log_grows l w) None _ is.target;
  arguments = handed_all_grow w (with_log l w) (log_grows l w) arguments is.arguments;
  room = is.room;
}
good_untold l w (when i p f held) is = record { made = is.made; function = is.function; held = formed_grows w (with_log l w) (log_grows l w) (Some i) held is.held; room = is.room }
good_untold l w (wake t d) is = record { wakeup = wakeup_grows w (with_log l w) (log_grows l w) d is.wakeup; timely = is.timely }
good_untold l w (set_time t) is = is
good_untold l w (arrive d) is = is
good_untold l w (install m) is = record { «module» = is.«module»; room = is.room }
good_untold l w (start s) is = record {
  installed = is.installed;
  issuers = issuers_all_grow w (with_log l w) (log_grows l w) s.issuers is.issuers;
  apart = is.apart;
  terms = formed_grows w (with_log l w) (log_grows l w) None s.terms is.terms;
  bare = is.bare;
  arguments = formed_grows w (with_log l w) (log_grows l w) None s.private_arguments is.arguments;
  instances = is.instances;
  promises = is.promises;
}
good_untold l w (add_issuer i issuer) is = record { made = is.made; issuer_is = issuer_grows w (with_log l w) (log_grows l w) issuer is.issuer_is; free = is.free; few = is.few }
good_untold l w (publish i facet) is = record { made = is.made; handed = formed_grows w (with_log l w) (log_grows l w) None facet is.handed }
good_untold l w (keep_state i values) is = record { made = is.made; as_many = is.as_many; known = known_all_grow w (with_log l w) (log_grows l w) i values is.known }
good_untold l w (stop i) is = is
good_untold l w (halt i) is = record { made = is.made; left = is.left }
good_untold l w (make_facet f) is = record { facet = facet_grows w (with_log l w) (log_grows l w) f is.facet; room = is.room }
good_untold l w (bind_label party label value) is = record { free = is.free; handed = formed_grows w (with_log l w) (log_grows l w) None value is.handed }
good_untold l w (note_call c) is = tt

pub all_good_untold : (l : List Event) (w : State) (es : List Effect) → AreGood w es → AreGood (with_log l w) es
all_good_untold l w [] is = tt
all_good_untold l w (e ∷ es) is =
    (good_untold l w e is.0, subst (λ (x : State). AreGood x es) (sym (effect_untold l w e)) (all_good_untold (after (with_log l w) e).log (after w e) es is.1))
