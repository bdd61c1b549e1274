-- The world with a turn's delivery in front, and the one behind it.
use Rattle.std.specs.Prelude.{◌==◌, drop, slice_set}
use Rattle.std.specs.List.{AllByRecursion}
use Rattle.std.proofs.Common.{◌≡◌, ◌≢◌, ℕ, ◌+◌, Bool, true, false, List, [], ◌∷◌, ◌++◌, Some, None, Option, length, refl, ◌∙◌, sym, ap, subst, arith}
use Rattle.std.proofs.lemmas.Bool.{eq-eqb, eqb-true}
use Rattle.world_state.specs.brands.Brands.{no_brand}
use Rattle.world_state.specs.actors.Facets.{no_facet}
use Rattle.world_state.specs.actors.SeatPromises.{no_pair, pair_at}
use Rattle.world_state.specs.actors.Tables.{instance_at, no_instance, no_module}
use Rattle.world_state.specs.turn_stores.Details.{no_details}
use Rattle.world_state.specs.holders.PaymentViews.{spent_payment}
use Rattle.world_state.specs.promise_store.States.{SettlementView, ok}
use Rattle.world_state.specs.turn_records.Deliveries.{Delivery, promise_of}
use Rattle.world_state.specs.turn_records.Events.{Event}
use Rattle.world_state.specs.Good.{AreGood, IsDue, IsFacet, IsGoodEffect, IsGoodWorld, IsInHand, IsInvitation, IsLabel, IsMaker, IsNotice, IsSettled, IsTimedEntry, LeavesAnswer, is_for, one_if, owes}
use Rattle.world_state.specs.Known.{Grows, WasLeft, WasSpent, instance_origin, seat_origin, whole}
use Rattle.world_state.specs.Promises.{CascadeStep, Flow, PromiseBook, Resolved, WasSettled, all_stepped, cascade, flowing, following, no_promise, notifies, resolving, resolving_to, settlement_at, settles, settling, stepped, target_of}
use Rattle.world_state.specs.Rights.{slots_at}
use Rattle.world_state.specs.Worlds.{Effect, Maker, State, after, after_all, behind, in_front, leaving_events, no_seat, of_host, of_instance, of_kit, payouts_tree, rights_left, seats_left}
use Rattle.world_state.specs.Worlds.{add_issuer, arrive, bind_label, empty_payment, empty_seat, end_staging, exit, halt, install, invite, keep_state, make_facet, moves, new_brand, new_purse, note_call, offer, publish, resolve, send, set_time, stage, start, stop, unstage, wake, when}
use Rattle.world_laws.proofs.Forms.{due_grows, facet_grows, formed_grows, function_grows, handed_all_grow, instance_grows, invitation_grows, issuer_grows, issuers_all_grow, known_all_grow, label_grows, notice_grows, settled_grows, settling_grows, timed_grows, wakeup_grows}
use Rattle.world_laws.proofs.Kept.{good-after}
use Rattle.world_laws.proofs.Lists.{all_map, extends_refl, keeps_refl}

-- ---- what is made is the same in both

module _ (w : State) (d : Delivery) where
  pub grows_front : Grows w (in_front d w)
  grows_front = record {
    brands = extends_refl whole no_brand w.brands;
    makers = extends_refl whole of_host w.makers;
    purses = omega arith;
    payments = omega arith;
    seats = extends_refl seat_origin no_seat w.seats;
    pairs = extends_refl whole no_pair w.pairs;
    invitations = extends_refl whole no_details w.invitations;
    installations = extends_refl whole no_module w.tables.installations;
    instances = extends_refl instance_origin no_instance w.tables.instances;
    facets = extends_refl whole no_facet w.facets;
    promises = omega arith;
    settled = keeps_refl WasSettled no_promise w.promises.settled;
    left = keeps_refl WasLeft no_seat w.seats;
    spent = keeps_refl WasSpent (spent_payment 0) w.rights.payments;
  }

  pub grows_behind : Grows (in_front d w) w
  grows_behind = record {
    brands = extends_refl whole no_brand w.brands;
    makers = extends_refl whole of_host w.makers;
    purses = omega arith;
    payments = omega arith;
    seats = extends_refl seat_origin no_seat w.seats;
    pairs = extends_refl whole no_pair w.pairs;
    invitations = extends_refl whole no_details w.invitations;
    installations = extends_refl whole no_module w.tables.installations;
    instances = extends_refl instance_origin no_instance w.tables.instances;
    facets = extends_refl whole no_facet w.facets;
    promises = omega arith;
    settled = keeps_refl WasSettled no_promise w.promises.settled;
    left = keeps_refl WasLeft no_seat w.seats;
    spent = keeps_refl WasSpent (spent_payment 0) w.rights.payments;
  }

  pub begins : (ds : List Delivery) → w.waiting ≡ d ∷ ds → w ≡ in_front d (behind w)
  begins ds is = ap (λ (l : List Delivery). record w { waiting = l }) (is ∙ ap (λ (l : List Delivery). d ∷ drop 1 l) (sym is))

  owed_front : (p : ℕ) → owes w.seats w.pairs (d ∷ w.waiting) w.promises p ≡ owes w.seats w.pairs w.waiting w.promises p + one_if (is_for (promise_of d) p)
  owed_front p = omega arith

  pub due_behind : IsGoodWorld (in_front d w) → IsDue w d
  due_behind good = due_grows (in_front d w) w grows_behind d good.waiting.0

  pub in_hand : (p : ℕ) → IsGoodWorld (in_front d w) → promise_of d ≡ Some p → IsInHand w p
  in_hand p good is =
      let one : one_if (is_for (promise_of d) p) ≡ 1 = ap (λ (o : Option ℕ). one_if (is_for o p)) is ∙ ap one_if (eq-eqb p p refl) in
      record {
        pending = good.owed.pending p (omega (arith, owed_front p, one));
        free = omega (arith, good.owed.once p, owed_front p, one);
      }

  pub good_behind : IsGoodWorld (in_front d w) → IsGoodWorld w
  good_behind good =
      let v = in_front d w in
      let g = grows_behind in
      record {
        balanced = good.balanced;
        purse_kinds = good.purse_kinds;
        payment_kinds = good.payment_kinds;
        slot_kinds = good.slot_kinds;
        valued = good.valued;
        bounded = good.bounded;
        minted = good.minted;
        brands = good.brands;
        invited = good.invited;
        seats = good.seats;
        paired = good.paired;
        placed = good.placed;
        at_work = good.at_work;
        proposed = good.proposed;
        covered = good.covered;
        room = good.room;
        staged = good.staged;
        owed = record {
          made = good.owed.made;
          once = λ p. omega (arith, good.owed.once p, owed_front p);
          pending = λ p some. good.owed.pending p (omega (arith, some, owed_front p));
        };
        asked = good.asked;
        following = good.following;
        paid_out = good.paid_out;
        settled = all_map (IsSettled v) (IsSettled w) (settled_grows v w g) w.promises.settled good.settled;
        requests = all_map (IsNotice v) (IsNotice w) (notice_grows v w g) w.promises.requests good.requests;
        modules = good.modules;
        instances = record { each = λ n lt. instance_grows v w g n (instance_at w.tables.instances n) (good.instances.each n lt) };
        invitations = all_map (IsInvitation v) (IsInvitation w) (invitation_grows v w g) w.invitations good.invitations;
        facets = all_map (IsFacet v) (IsFacet w) (facet_grows v w g) w.facets good.facets;
        labels = all_map (IsLabel v) (IsLabel w) (label_grows v w g) w.labels good.labels;
        timed = all_map (IsTimedEntry v) (IsTimedEntry w) (λ (x : ℕ × Delivery). timed_grows v w g x.1) w.schedule.waiting good.timed;
        timely = good.timely;
        waiting = all_map (IsDue v) (IsDue w) (due_grows v w g) w.waiting good.waiting.1;
      }

  -- ---- what is good behind it is good with it

  maker_front : (m : Maker) → IsMaker w m → IsMaker (in_front d w) m
  maker_front of_host is = is
  maker_front of_kit is = is
  maker_front (of_instance i) is = is

  not_for : (o : Option ℕ) (p : ℕ) → o ≢ Some p → one_if (is_for o p) ≡ 0
  not_for None p other = refl
  not_for (Some q) p other = by (q == p) refl
    where
      by : (b : Bool) → (q == p) ≡ b → one_if b ≡ 0
      by true e = absurd (other (ap Some (eqb-true q p e)))
      by false e = refl

  pub good_front : (e : Effect) → IsGoodEffect w e → LeavesAnswer d e → IsGoodEffect (in_front d w) e
  good_front (new_brand b maker) can leaves = record { few = can.few; made = maker_front maker can.made }
  good_front (new_purse b) can leaves = record { made = can.made; few = can.few }
  good_front (empty_payment b) can leaves = record { made = can.made; room = can.room }
  good_front (moves ms) can leaves = can
  good_front (stage s shares) can leaves = can
  good_front (unstage s) can leaves = can
  good_front end_staging can leaves = can
  good_front (offer o) can leaves = record {
    invited = can.invited;
    at_work = can.at_work;
    proposal = can.proposal;
    burn = can.burn;
    escrows = can.escrows;
    payments = can.payments;
    moves = can.moves;
    safe = can.safe;
    arguments = formed_grows w (in_front d w) grows_front None o.arguments can.arguments;
    seats = can.seats;
    promises = can.promises;
  }
  good_front (empty_seat i rule) can leaves = record { made = can.made; at_work = can.at_work; timely = can.timely; seats = can.seats; promises = can.promises }
  good_front (exit s cause) can leaves = can
  good_front (invite x) can leaves = record { details = invitation_grows w (in_front d w) grows_front x can.details; few = can.few; room = can.room }
  good_front (resolve p v) can leaves = record {
    pending = can.pending;
    free = omega (arith, can.free, owed_front p, not_for (promise_of d) p leaves);
    handed = settling_grows w (in_front d w) grows_front v can.handed;
    straight = can.straight;
  }
  good_front (send i target method args) can leaves = record {
    made = can.made;
    target = formed_grows w (in_front d w) grows_front None _ can.target;
    arguments = handed_all_grow w (in_front d w) grows_front args can.arguments;
    room = can.room;
  }
  good_front (when i p f held) can leaves = record {
    made = can.made;
    function = function_grows w (in_front d w) grows_front i f can.function;
    held = formed_grows w (in_front d w) grows_front (Some i) held can.held;
    room = can.room;
  }
  good_front (wake t x) can leaves = record { wakeup = wakeup_grows w (in_front d w) grows_front x can.wakeup; timely = can.timely }
  good_front (set_time t) can leaves = can
  good_front (arrive x) can leaves = can
  good_front (install m) can leaves = record { «module» = can.«module»; room = can.room }
  good_front (start s) can leaves = record {
    installed = can.installed;
    issuers = issuers_all_grow w (in_front d w) grows_front s.issuers can.issuers;
    apart = can.apart;
    terms = formed_grows w (in_front d w) grows_front None s.terms can.terms;
    bare = can.bare;
    arguments = formed_grows w (in_front d w) grows_front None s.private_arguments can.arguments;
    instances = can.instances;
    promises = can.promises;
  }
  good_front (add_issuer i issuer) can leaves = record { made = can.made; issuer_is = issuer_grows w (in_front d w) grows_front issuer can.issuer_is; free = can.free; few = can.few }
  good_front (publish i facet) can leaves = record { made = can.made; handed = formed_grows w (in_front d w) grows_front None facet can.handed }
  good_front (keep_state i values) can leaves = record { made = can.made; as_many = can.as_many; known = known_all_grow w (in_front d w) grows_front i values can.known }
  good_front (stop i) can leaves = can
  good_front (halt i) can leaves = record { made = can.made; left = can.left }
  good_front (make_facet f) can leaves = record { facet = facet_grows w (in_front d w) grows_front f can.facet; room = can.room }
  good_front (bind_label party label value) can leaves = record { free = can.free; handed = formed_grows w (in_front d w) grows_front None value can.handed }
  good_front (note_call c) can leaves = can

-- ---- an effect leaves what is in front

abbrev flow_front : Delivery → Flow → Flow
flow_front d f = record { settled = f.settled; requests = f.requests; waiting = d ∷ f.waiting; log = f.log }

steps_front : (d : Delivery) (v : SettlementView) (ss : List CascadeStep) (f : Flow) → all_stepped v ss (flow_front d f) ≡ flow_front d (all_stepped v ss f)
steps_front d v [] f = refl
steps_front d v (settles p ∷ ss) f = steps_front d v ss (stepped v (settles p) f)
steps_front d v (notifies p ∷ ss) f = steps_front d v ss (stepped v (notifies p) f)

abbrev resolved_front : Delivery → Resolved → Resolved
resolved_front d r = record { promises = r.promises; waiting = d ∷ r.waiting; log = r.log }

module _ (d : Delivery) (p : ℕ) (b : PromiseBook) (ds : List Delivery) (log : List Event) where
  settling_front : (v : SettlementView) → settling p v b (d ∷ ds) log ≡ resolved_front d (settling p v b ds log)
  settling_front v =
      ap (λ (f : Flow). taken_from f) (steps_front d v (cascade (length b.settled) b.follows p) (flowing b ds log))
    where
      taken_from : Flow → Resolved
      taken_from f = record { promises = record { settled = f.settled; follows = b.follows; requests = f.requests }; waiting = f.waiting; log = f.log }

  following_front : (s : Option SettlementView) (q : ℕ) → following s p q b (d ∷ ds) log ≡ resolved_front d (following s p q b ds log)
  following_front (Some v) q = settling_front v
  following_front None q = refl

  resolving_to_front : (t : Option ℕ) (v : SettlementView) → resolving_to t p v b (d ∷ ds) log ≡ resolved_front d (resolving_to t p v b ds log)
  resolving_to_front None v = settling_front v
  resolving_to_front (Some q) v = following_front (settlement_at b.settled q) q

  pub resolving_front : (v : SettlementView) → resolving p v b (d ∷ ds) log ≡ resolved_front d (resolving p v b ds log)
  resolving_front v = resolving_to_front (target_of v) v

abbrev resolved_in : State → Resolved → State
resolved_in w r = record w { promises = r.promises; waiting = r.waiting; log = r.log }

same_after : (w : State) (d : Delivery) (e : Effect) → after (in_front d w) e ≡ in_front d (after w e)
same_after w d (exit s cause) =
    let left = record w {
      rights = rights_left w.rights s;
      seats = seats_left w.seats s (slots_at w.rights.slots s);
      staging = slice_set w.staging s None;
    } in
    ap (resolved_in left) (resolving_front d (pair_at w.pairs s).payouts w.promises w.waiting (w.log ++ leaving_events w s cause) (ok (payouts_tree w s)))
same_after w d (resolve p v) = ap (resolved_in w) (resolving_front d p w.promises w.waiting w.log v)
same_after w d _ = refl

pub front-after : (w : State) (d : Delivery) (e : Effect) → IsGoodEffect w e → LeavesAnswer d e → IsGoodWorld (in_front d w) → IsGoodWorld (in_front d (after w e))
front-after w d e can leaves good = subst IsGoodWorld (same_after w d e) (good-after (in_front d w) e (good_front w d e can leaves) good)

pub front-after_all : (w : State) (d : Delivery) (es : List Effect) → AreGood w es → AllByRecursion (LeavesAnswer d) es → IsGoodWorld (in_front d w) → IsGoodWorld (in_front d (after_all w es))
front-after_all w d [] can leave good = good
front-after_all w d (e ∷ es) can leave good = front-after_all (after w e) d es can.1 leave.1 (front-after w d e can.0 leave.0 good)
