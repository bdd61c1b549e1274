-- What the world holds of data and of functions stays formed, and what waits stays due.
use Rattle.std.specs.Prelude.{IsSome, cond, nat_lt, not}
use Rattle.std.proofs.lemmas.Bool.{eqb-true}
use Rattle.std.specs.List.{AllByRecursion, filter}
use Rattle.std.proofs.Common.{◌≡◌, ℕ, ◌+◌, ◌<◌, ◌≤◌, Bool, true, false, List, [], ◌∷◌, ◌++◌, Some, None, Option, length, map, refl, sym, ap, subst, arith}
use Rattle.world_state.proofs.lemmas.ListEdits.{length_push, read_pushed}
use Rattle.world_state.specs.actors.Labels.{bound}
use Rattle.world_state.specs.actors.SeatPromises.{no_pair, pair_at}
use Rattle.world_state.specs.actors.Tables.{module_at, new_instance}
use Rattle.world_state.specs.actors.declared.instance_store.seat_promises.SeatPair.{SeatPair}
use Rattle.world_state.specs.turn_stores.Details.{no_details}
use Rattle.world_state.specs.host_data.Tree.{null}
use Rattle.world_state.specs.promise_store.States.{SettlementView, ok}
use Rattle.world_laws.proofs.Cascades.{Has, Paired, cascade_paired, steps_settle}
use Rattle.world_state.specs.proposals.Shares.{AreShares}
use Rattle.world_state.specs.proposals.declared.offers.Exit.{Exit}
use Rattle.world_state.specs.proposals.declared.offers.Exit.TheVariants.{AfterDeadline, OnDemand, Waived}
use Rattle.world_state.specs.turn_stores.Schedules.{Schedule, due_after, due_by}
use Rattle.world_state.specs.turn_records.Deliveries as deliveries
use Rattle.world_state.specs.turn_records.Deliveries.{Delivery, Notice, notify, call, give, tick, bad}
use Rattle.world_state.specs.turn_records.Events.{Event}
use Rattle.world_state.specs.Good.{AreNamed, IsDue, IsFacet, IsFinal, IsGoodEffect, IsGoodWorld, IsInvitation, IsLabel, IsLine, IsModule, IsNotice, IsSettled, IsRule, IsSettling, IsTimed, IsTimedEntry, IsTimely}
use Rattle.world_state.specs.turn_rows.Form.{times_end}
use Rattle.world_state.specs.Known.{IsHanded}
use Rattle.world_state.specs.Promises.{CascadeStep, Flow, PromiseBook, Resolved, all_stepped, asking, asks, cascade, flowing, following, no_promise, notifies, WasSettled, resolving, resolving_to, settlement_at, settles, settling, stepped, target_of, told_at_once, with_promise}
use Rattle.world_state.specs.Rights.{slots_at}
use Rattle.world_state.specs.Worlds.{Effect, Seat, State, after, deadline_now, due_at, due_now, leaving_events, new_seat, next_pair, no_seat, offered_by, paid_out, payouts_tree, request_of, scheduled, with_deadline, arrive, bind_label, empty_seat, exit, install, invite, make_facet, offer, resolve, send, set_time, start, wake, when}
use Rattle.world_laws.proofs.Lists.{all_append, all_filter, all_map, all_push, all_read, all_read_or, all_set, all_under, length_append, length_map}
use Rattle.world_laws.proofs.Growing.{grows-after}
use Rattle.world_laws.proofs.Forms.{due_grows, facet_grows, formed_grows, function_grows, handed_all_grow, invitation_grows, label_grows, notice_grows, settled_grows, settling_grows, timed_grows, wakeup_grows}
use Rattle.world_laws.proofs.Payouts.{payouts_handed}

-- promises, requests and what waits, as they are known to a world
pub record AreKnown (w : State) (ss : List (Option SettlementView)) (ns : List Notice) (ds : List Delivery) : Type 0 where
  pub settled : AllByRecursion (IsSettled w) ss
  pub requests : AllByRecursion (IsNotice w) ns
  pub waiting : AllByRecursion (IsDue w) ds

null_handed : (w : State) → IsHanded w null
null_handed w = record { objects = tt; functions = tt; named = tt; ordered = tt; shallow = tt }

-- a promise that is notified was settled
abbrev StepSettled : State → CascadeStep → Type 0
StepSettled w (settles p) = Unit {0}
StepSettled w (notifies p) = WasSettled (settlement_at w.promises.settled p)

asked_for : (p : ℕ) (n : Notice) → asks p n ≡ true → n.promise ≡ p
asked_for p n e = eqb-true n.promise p e

module _ (w : State) where
  news_of : (p : ℕ) → WasSettled (settlement_at w.promises.settled p) → (ns : List Notice) → AllByRecursion (IsNotice w) ns → AllByRecursion (λ n. IsDue w (notify n)) (filter (asks p) ns)
  news_of p done [] all = tt
  news_of p done (n ∷ ns) all = by (asks p n) refl (news_of p done ns all.1)
    where
      by : (b : Bool) → asks p n ≡ b → AllByRecursion (λ m. IsDue w (notify m)) (filter (asks p) ns) → AllByRecursion (λ m. IsDue w (notify m)) (cond b (n ∷ filter (asks p) ns) (filter (asks p) ns))
      by true e rest = (record { notice = all.0; settled = subst (λ k. WasSettled (settlement_at w.promises.settled k)) (sym (asked_for p n e)) done }, rest)
      by false e rest = rest

  step_known : (v : SettlementView) → IsFinal w v → (s : CascadeStep) (f : Flow) → StepSettled w s → AreKnown w f.settled f.requests f.waiting → AreKnown w (stepped v s f).settled (stepped v s f).requests (stepped v s f).waiting
  step_known v final (settles p) f done k = record { settled = all_set (IsSettled w) f.settled p (Some v) k.settled final; requests = k.requests; waiting = k.waiting }
  step_known v final (notifies p) f done k = record {
    settled = k.settled;
    requests = all_filter (IsNotice w) (λ n. not (asks p n)) f.requests k.requests;
    waiting = all_append (IsDue w) f.waiting _ k.waiting (all_under notify (IsDue w) (filter (asks p) f.requests) (news_of p done f.requests k.requests));
  }

  steps_known : (v : SettlementView) → IsFinal w v → (ss : List CascadeStep) (f : Flow) → AllByRecursion (StepSettled w) ss → AreKnown w f.settled f.requests f.waiting → AreKnown w (all_stepped v ss f).settled (all_stepped v ss f).requests (all_stepped v ss f).waiting
  steps_known v final [] f done k = k
  steps_known v final (s ∷ ss) f done k = steps_known v final ss (stepped v s f) done.1 (step_known v final s f done.0 k)

  steps_settled : (ss xs : List CascadeStep) → ((p : ℕ) → Has (settles p) xs → WasSettled (settlement_at w.promises.settled p)) → AllByRecursion (Paired xs) ss → AllByRecursion (StepSettled w) ss
  steps_settled [] xs at all = tt
  steps_settled (settles p ∷ ss) xs at all = (tt, steps_settled ss xs at all.1)
  steps_settled (notifies p ∷ ss) xs at all = (at p all.0, steps_settled ss xs at all.1)

  module _ (p : ℕ) (b : PromiseBook) (ds : List Delivery) (log : List Event) (k : AreKnown w b.settled b.requests ds) where
    abbrev IsKnown : Resolved → Type 0
    IsKnown r = AreKnown w r.promises.settled r.promises.requests r.waiting

    -- the world has what these are settled with
    abbrev IsAfter : Resolved → Type 0
    IsAfter r = r.promises.settled ≡ w.promises.settled

    settling_known : (v : SettlementView) → IsFinal w v → IsAfter (settling p v b ds log) → IsKnown (settling p v b ds log)
    settling_known v final same =
        let ss = cascade (length b.settled) b.follows p in
        let f = flowing b ds log in
        steps_known v final ss f (steps_settled ss ss (λ q has. subst (λ x. WasSettled (settlement_at x q)) same (steps_settle v q ss f has)) (cascade_paired (length b.settled) b.follows p)) k

    following_known : (s : Option SettlementView) (q : ℕ) → IsSettled w s → IsAfter (following s p q b ds log) → IsKnown (following s p q b ds log)
    following_known (Some v) q final same = settling_known v final same
    following_known None q final same = record { settled = k.settled; requests = k.requests; waiting = k.waiting }

    resolving_to_known : (v : SettlementView) → IsSettling w v → (t : Option ℕ) → target_of v ≡ t → IsAfter (resolving_to t p v b ds log) → IsKnown (resolving_to t p v b ds log)
    resolving_to_known v handed None e same = settling_known v (record { ends = e; handed = handed }) same
    resolving_to_known v handed (Some q) e same = following_known (settlement_at b.settled q) q (all_read_or (IsSettled w) b.settled q no_promise k.settled (record { ends = refl; handed = null_handed w })) same

    pub resolving_known : (v : SettlementView) → IsSettling w v → IsAfter (resolving p v b ds log) → IsKnown (resolving p v b ds log)
    resolving_known v handed same = resolving_to_known v handed (target_of v) refl same

  -- ---- what waits for a time

  due_now_known : (t : ℕ) (d : Delivery) (s : Schedule Delivery) → IsDue w d → AllByRecursion (IsDue w) (due_now t d s)
  due_now_known t d s is = by (nat_lt s.time t)
    where
      by : (b : Bool) → AllByRecursion (IsDue w) (cond b [] (d ∷ []))
      by true = tt
      by false = (is, tt)

  deadline_now_known : (rule : Exit) (seat : ℕ) (s : Schedule Delivery) → seat < length w.seats → AllByRecursion (IsDue w) (deadline_now rule seat s)
  deadline_now_known (AfterDeadline t) seat s made = due_now_known t (deliveries.deadline seat) s made
  deadline_now_known OnDemand seat s made = tt
  deadline_now_known Waived seat s made = tt

  scheduled_known : (t : ℕ) (d : Delivery) (s : Schedule Delivery) → IsTimed w d → AllByRecursion (IsTimedEntry w) s.waiting → AllByRecursion (IsTimedEntry w) (scheduled t d s).waiting
  scheduled_known t d s is all = by (nat_lt s.time t)
    where
      by : (b : Bool) → AllByRecursion (IsTimedEntry w) (cond b (record { time = s.time; made = s.made + 1; waiting = due_by t s.waiting ++ (t, d) ∷ due_after t s.waiting }) s).waiting
      by true = all_append (IsTimedEntry w) (due_by t s.waiting) ((t, d) ∷ due_after t s.waiting) (all_filter (IsTimedEntry w) _ s.waiting all) (is, all_filter (IsTimedEntry w) _ s.waiting all)
      by false = all

  deadline_known : (rule : Exit) (seat : ℕ) (s : Schedule Delivery) → seat < length w.seats → AllByRecursion (IsTimedEntry w) s.waiting → AllByRecursion (IsTimedEntry w) (with_deadline rule seat s).waiting
  deadline_known (AfterDeadline t) seat s made all = scheduled_known t (deliveries.deadline seat) s made all
  deadline_known OnDemand seat s made all = all
  deadline_known Waived seat s made all = all

  timed_due : (e : ℕ × Delivery) → IsTimedEntry w e → IsDue w e.1
  timed_due e is = by e.1 is
    where
      by : (d : Delivery) → IsTimed w d → IsDue w d
      by (deliveries.wake d) is = is
      by (deliveries.deadline s) is = is
      by (deliveries.call c) is = absurd is
      by (deliveries.give c) is = absurd is
      by (deliveries.tick t) is = absurd is
      by (deliveries.bad r) is = absurd is
      by (deliveries.send s) is = absurd is
      by (deliveries.start s) is = absurd is
      by (deliveries.offer o) is = absurd is
      by (deliveries.notify n) is = absurd is

  asking_known : (s : Option SettlementView) (n : Notice) (b : PromiseBook) (ds : List Delivery) → IsNotice w n → (IsSome s → WasSettled (settlement_at w.promises.settled n.promise)) → AreKnown w b.settled b.requests ds → AreKnown w (asking s n b).settled (asking s n b).requests (ds ++ told_at_once s n)
  asking_known (Some v) n b ds is done k = record { settled = k.settled; requests = k.requests; waiting = all_append (IsDue w) ds (notify n ∷ []) k.waiting (record { notice = is; settled = done refl }, tt) }
  asking_known None n b ds is done k = record { settled = k.settled; requests = all_push (IsNotice w) b.requests n k.requests is; waiting = all_append (IsDue w) ds [] k.waiting tt }

  line_due : (d : Delivery) → IsLine d → IsDue w d
  line_due (deliveries.call c) is = is
  line_due (deliveries.give c) is = is
  line_due (deliveries.tick t) is = is
  line_due (deliveries.bad r) is = tt
  line_due (deliveries.send s) is = absurd is
  line_due (deliveries.start s) is = absurd is
  line_due (deliveries.offer o) is = absurd is
  line_due (deliveries.wake d) is = absurd is
  line_due (deliveries.notify n) is = absurd is
  line_due (deliveries.deadline s) is = absurd is

-- ---- by effect

grown : (w : State) (e : Effect) → IsGoodWorld w → AreKnown (after w e) w.promises.settled w.promises.requests w.waiting
grown w e good =
    let g = grows-after w e in
    record {
      settled = all_map (IsSettled w) (IsSettled (after w e)) (settled_grows w (after w e) g) w.promises.settled good.settled;
      requests = all_map (IsNotice w) (IsNotice (after w e)) (notice_grows w (after w e) g) w.promises.requests good.requests;
      waiting = all_map (IsDue w) (IsDue (after w e)) (due_grows w (after w e) g) w.waiting good.waiting;
    }

-- one more promise
more_settled : (w : State) (s : Option SettlementView) (ss : List (Option SettlementView)) (ns : List Notice) (ds : List Delivery) → IsSettled w s → AreKnown w ss ns ds → AreKnown w (ss ++ s ∷ []) ns ds
more_settled w s ss ns ds is k = record { settled = all_push (IsSettled w) ss s k.settled is; requests = k.requests; waiting = k.waiting }

more_waiting : (w : State) (ss : List (Option SettlementView)) (ns : List Notice) (ds es : List Delivery) → AllByRecursion (IsDue w) es → AreKnown w ss ns ds → AreKnown w ss ns (ds ++ es)
more_waiting w ss ns ds es all k = record { settled = k.settled; requests = k.requests; waiting = all_append (IsDue w) ds es k.waiting all }

next_seat_made : (w : State) (s : Seat) → length w.seats < length (w.seats ++ s ∷ [])
next_seat_made w s = omega (arith, length_push w.seats s)

pub known-after : (w : State) (e : Effect) → IsGoodEffect w e → IsGoodWorld w → AreKnown (after w e) (after w e).promises.settled (after w e).promises.requests (after w e).waiting
known-after w (offer o) can good =
    let v = after w (offer o) in
    let g = grows-after w (offer o) in
    let d = offered_by w o in
    let is = all_read (IsInvitation w) w.invitations o.invitation no_details good.invitations can.invited in
    let made = next_seat_made w (new_seat d.instance o.proposal) in
    more_waiting v _ _ w.waiting _ (
      record {
        seat = record { made = made; own = ap (λ (s : Seat). s.instance) (read_pushed w.seats (new_seat d.instance o.proposal) no_seat (length w.seats) refl) };
        paired = omega (arith, length_push w.pairs (next_pair w), good.seats.paired);
        promise = sym (ap (λ (q : SeatPair). q.«result») (read_pushed w.pairs (next_pair w) no_pair (length w.seats) (sym good.seats.paired)));
        function = function_grows w v g d.instance d.handler is.handler;
        arguments = formed_grows w v g None o.arguments can.arguments;
        held = formed_grows w v g (Some d.instance) d.held is.held;
      },
      deadline_now_known v o.proposal.exit (length w.seats) w.schedule made,
    )
    (more_settled v None _ _ _ tt (more_settled v None _ _ _ tt (grown w (offer o) good)))
known-after w (empty_seat i rule) can good =
    let v = after w (empty_seat i rule) in
    more_waiting v _ _ w.waiting _ (deadline_now_known v rule (length w.seats) w.schedule (next_seat_made w _))
    (more_settled v None _ _ _ tt (more_settled v (Some (ok null)) _ _ _ (record { ends = refl; handed = null_handed v }) (grown w (empty_seat i rule) good)))
known-after w (exit s cause) can good =
    let v = after w (exit s cause) in
    let shares = slots_at w.rights.slots s in
    let apart = all_read_or AreShares w.rights.slots s [] good.seats.shares (record { few = omega arith; apart = tt }) in
    let named = all_read_or AreNamed w.rights.slots s [] good.seats.named tt in
    let made : length w.rights.payments + length shares ≤ length v.rights.payments = omega (arith, length_append w.rights.payments (map paid_out shares), length_map paid_out shares) in
    resolving_known v (pair_at w.pairs s).payouts w.promises w.waiting (w.log ++ leaving_events w s cause) (grown w (exit s cause) good) (ok (payouts_tree w s)) (payouts_handed v (length w.rights.payments) shares apart.apart named made) refl
known-after w (resolve p v) can good =
    resolving_known (after w (resolve p v)) p w.promises w.waiting w.log (grown w (resolve p v) good) v (settling_grows w (after w (resolve p v)) (grows-after w (resolve p v)) v can.handed) refl
known-after w (send i target method arguments) can good =
    let v = after w (send i target method arguments) in
    let g = grows-after w (send i target method arguments) in
    more_waiting v _ _ w.waiting _ (record { made = omega (arith, can.made, g.instances.more); target = formed_grows w v g None _ can.target; arguments = handed_all_grow w v g arguments can.arguments }, tt)
    (more_settled v None _ _ _ tt (grown w (send i target method arguments) good))
known-after w (when i p f held) can good =
    let v = after w (when i p f held) in
    let g = grows-after w (when i p f held) in
    asking_known v (settlement_at w.promises.settled p) (request_of w i p f held) (with_promise None w.promises) w.waiting
    (record { promise = omega (arith, can.made, g.promises); function = function_grows w v g i f can.function; held = formed_grows w v g (Some i) held can.held })
    (g.settled.each p can.made)
    (more_settled v None _ _ _ tt (grown w (when i p f held) good))
known-after w (wake t d) can good =
    let v = after w (wake t d) in
    more_waiting v _ _ w.waiting _ (due_now_known v t (deliveries.wake d) w.schedule (wakeup_grows w v (grows-after w (wake t d)) d can.wakeup)) (grown w (wake t d) good)
known-after w (set_time t) can good =
    let v = after w (set_time t) in
    more_waiting v _ _ w.waiting (due_at t w.schedule)
    (all_under (λ (e : ℕ × Delivery). e.1) (IsDue v) (due_by t w.schedule.waiting) (all_map (IsTimedEntry w) (λ (e : ℕ × Delivery). IsDue v e.1) (λ e is. due_grows w v (grows-after w (set_time t)) e.1 (timed_due w e is)) _ (all_filter (IsTimedEntry w) _ w.schedule.waiting good.timed)))
    (grown w (set_time t) good)
known-after w (arrive d) can good = more_waiting (after w (arrive d)) _ _ w.waiting (d ∷ []) (line_due (after w (arrive d)) d can, tt) (grown w (arrive d) good)
known-after w (start s) can good =
    let v = after w (start s) in
    let g = grows-after w (start s) in
    more_waiting v _ _ w.waiting _ (record { made = omega (arith, length_push w.tables.instances (new_instance s.installation s.issuers s.terms (module_at w.tables.installations s.installation))); arguments = formed_grows w v g None s.private_arguments can.arguments }, tt)
    (more_settled v None _ _ _ tt (grown w (start s) good))
known-after w e can good = grown w e good

timed_grown : (w : State) (e : Effect) → IsGoodWorld w → AllByRecursion (IsTimedEntry (after w e)) w.schedule.waiting
timed_grown w e good = all_map (IsTimedEntry w) (IsTimedEntry (after w e)) (λ (x : ℕ × Delivery). timed_grows w (after w e) (grows-after w e) x.1) w.schedule.waiting good.timed

pub timed-after : (w : State) (e : Effect) → IsGoodEffect w e → IsGoodWorld w → AllByRecursion (IsTimedEntry (after w e)) (after w e).schedule.waiting
timed-after w (offer o) can good = deadline_known (after w (offer o)) o.proposal.exit (length w.seats) w.schedule (next_seat_made w _) (timed_grown w (offer o) good)
timed-after w (empty_seat i rule) can good = deadline_known (after w (empty_seat i rule)) rule (length w.seats) w.schedule (next_seat_made w _) (timed_grown w (empty_seat i rule) good)
timed-after w (wake t d) can good = scheduled_known (after w (wake t d)) t (deliveries.wake d) w.schedule (wakeup_grows w (after w (wake t d)) (grows-after w (wake t d)) d can.wakeup) (timed_grown w (wake t d) good)
timed-after w (set_time t) can good = all_filter (IsTimedEntry (after w (set_time t))) _ w.schedule.waiting (timed_grown w (set_time t) good)
timed-after w e can good = timed_grown w e good

pub modules-after : (w : State) (e : Effect) → IsGoodEffect w e → AllByRecursion IsModule w.tables.installations → AllByRecursion IsModule (after w e).tables.installations
modules-after w (install m) can was = all_push IsModule w.tables.installations m was can.«module»
modules-after w _ can was = was

pub invitations-after : (w : State) (e : Effect) → IsGoodEffect w e → AllByRecursion (IsInvitation w) w.invitations → AllByRecursion (IsInvitation (after w e)) (after w e).invitations
invitations-after w (invite d) can was =
    let v = after w (invite d) in
    let g = grows-after w (invite d) in
    all_push (IsInvitation v) w.invitations d (all_map (IsInvitation w) (IsInvitation v) (invitation_grows w v g) w.invitations was) (invitation_grows w v g d can.details)
invitations-after w e can was = all_map (IsInvitation w) (IsInvitation (after w e)) (invitation_grows w (after w e) (grows-after w e)) w.invitations was

pub facets-after : (w : State) (e : Effect) → IsGoodEffect w e → AllByRecursion (IsFacet w) w.facets → AllByRecursion (IsFacet (after w e)) (after w e).facets
facets-after w (make_facet f) can was =
    let v = after w (make_facet f) in
    let g = grows-after w (make_facet f) in
    all_push (IsFacet v) w.facets f (all_map (IsFacet w) (IsFacet v) (facet_grows w v g) w.facets was) (facet_grows w v g f can.facet)
facets-after w e can was = all_map (IsFacet w) (IsFacet (after w e)) (facet_grows w (after w e) (grows-after w e)) w.facets was

pub labels-after : (w : State) (e : Effect) → IsGoodEffect w e → AllByRecursion (IsLabel w) w.labels → AllByRecursion (IsLabel (after w e)) (after w e).labels
labels-after w (bind_label party label value) can was =
    let v = after w (bind_label party label value) in
    let g = grows-after w (bind_label party label value) in
    all_push (IsLabel v) w.labels (bound party label value) (all_map (IsLabel w) (IsLabel v) (label_grows w v g) w.labels was) (formed_grows w v g None value can.handed)
labels-after w e can was = all_map (IsLabel w) (IsLabel (after w e)) (label_grows w (after w e) (grows-after w e)) w.labels was

-- ---- times are such as lines can set the time to

abbrev IsTime : ℕ × Delivery → Type 0
IsTime e = e.0 < times_end

scheduled_timely : (t : ℕ) (d : Delivery) (s : Schedule Delivery) → t < times_end → IsTimely s → IsTimely (scheduled t d s)
scheduled_timely t d s is was = by (nat_lt s.time t)
  where
    by : (b : Bool) → IsTimely (cond b (record { time = s.time; made = s.made + 1; waiting = due_by t s.waiting ++ (t, d) ∷ due_after t s.waiting }) s)
    by true = record {
      time = was.time;
      waiting = all_append IsTime (due_by t s.waiting) ((t, d) ∷ due_after t s.waiting) (all_filter IsTime _ s.waiting was.waiting) (is, all_filter IsTime _ s.waiting was.waiting);
    }
    by false = was

deadline_timely : (rule : Exit) (seat : ℕ) (s : Schedule Delivery) → IsRule rule → IsTimely s → IsTimely (with_deadline rule seat s)
deadline_timely (AfterDeadline t) seat s is was = scheduled_timely t (deliveries.deadline seat) s is was
deadline_timely OnDemand seat s is was = was
deadline_timely Waived seat s is was = was

pub timely-after : (w : State) (e : Effect) → IsGoodEffect w e → IsGoodWorld w → IsTimely (after w e).schedule
timely-after w (offer o) can good = deadline_timely o.proposal.exit (length w.seats) w.schedule can.proposal.rule good.timely
timely-after w (empty_seat i rule) can good = deadline_timely rule (length w.seats) w.schedule can.timely good.timely
timely-after w (wake t d) can good = scheduled_timely t (deliveries.wake d) w.schedule can.timely good.timely
timely-after w (set_time t) can good = record { time = can.timely; waiting = all_filter IsTime _ w.schedule.waiting good.timely.waiting }
timely-after w _ can good = good.timely
