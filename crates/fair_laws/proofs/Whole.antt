-- The turn of the delivery in front is a step from the world of the host to that of the host after it.
use Rattle.std.specs.Prelude.{◌≡◌, ◌+◌, ◌<◌, ◌≤◌, ◌++◌, ℕ, Bool, List, [], ◌∷◌, Option, Some, None, IfSome, length, map, refl}
use Rattle.std.specs.List.{AllByRecursion}
use Rattle.std.proofs.Common.{sym, ◌∙◌, ap, subst, arith}
use Rattle.std.proofs.lemmas.List.{append-nil}
use Rattle.delivery_laws.specs.Hosts.{IsGoodHost}
use Rattle.delivery_laws.specs.Works.{AreGoodHostCalls, IsTurnWork}
use Rattle.delivery_laws.specs.turn_writer.Printing.{CanPrint, CanPrintEvent, CanPrintOpening}
use Rattle.delivery_laws.proofs.Ends.{ending_good}
use Rattle.delivery_laws.proofs.Runs.{after_both}
use Rattle.delivery_laws.proofs.Steps.{turn_prints}
use Rattle.delivery_laws.proofs.turn_records.Ordered.{shares_count}
use Rattle.delivery_laws.proofs.world_laws.Lists.{length_append}
use Rattle.delivery_laws.proofs.Works.{turn_good, work_is}
use Rattle.delivery_laws.specs.delivery_turns.Endings.{ending, without_cycle}
use Rattle.delivery_laws.specs.delivery_turns.Hosts.{HostState, step_after, step_from, step_of, sums_of}
use Rattle.delivery_laws.specs.delivery_turns.Tasks.{beginning, task_work}
use Rattle.delivery_laws.specs.delivery_turns.Turns.{delivery_turn}
use Rattle.delivery_laws.specs.ertp_mint.Stocks.{most_made}
use Rattle.fair_laws.specs.Places.{rows_of, seat_told, seats_told, slot_name}
use Rattle.fair_laws.proofs.Rows.{Settles, resolving_settles}
use Rattle.fair_laws.proofs.EffectSeats.{seat_read}
use Rattle.fair_rows.specs.ExitCauses.{Owners, either, first_cause, instance_of}
use Rattle.fair_rows.specs.Rows.{ChangesNothing}
use Rattle.fair_rows.specs.Seats as told
use Rattle.fair_rows.specs.Seats.{IsOpen}
use Rattle.fair_rows.specs.Steps.{IsStep}
use Rattle.fair_rows.specs.Turns.{IsCaused}
use Rattle.delivery_laws.specs.actors.Facets.{FacetView}
use Rattle.delivery_laws.specs.actors.Tables.{Tables}
use Rattle.delivery_laws.specs.promise_store.States.{SettlementView}
use Rattle.delivery_laws.specs.proposals.declared.allocations.Share.{Share}
use Rattle.delivery_laws.specs.refusals.declared.codes.Refusal.{Refusal}
use Rattle.fair_rows.specs.rights_model.declared.Sum.{Sum}
use Rattle.serde_json.specs.Data as json
use Rattle.delivery_laws.specs.rule_laws.GoodServices.{AreGoodServices}
use Rattle.delivery_laws.specs.rules.Zoe.{TextReader}
use Rattle.delivery_laws.specs.turn_records.Settlements.{settled_after}
use Rattle.delivery_laws.specs.turn_records.Deliveries as deliveries
use Rattle.delivery_laws.specs.turn_records.Deliveries.{Delivery, Reading}
use Rattle.delivery_laws.specs.turn_records.Events as events
use Rattle.delivery_laws.specs.turn_records.Events.{Answer, Event, Opening, given, moves_in, refused, spent, threw}
use Rattle.delivery_laws.specs.turn_records.Printed.{printed_answer, printed_event, printed_opening, printed_shares}
use Rattle.fair_rows.specs.turn_rows.Form.{MayStand}
use Rattle.fair_rows.specs.turn_rows.HostForms.{HasFewKeywords, HasHostForm, runs_function}
use Rattle.fair_rows.specs.turn_rows.Turns as rows
use Rattle.fair_rows.specs.turn_rows.Turns.{Turn}
use Rattle.delivery_laws.proofs.world_laws.Fronts.{begins, good_behind}
use Rattle.delivery_laws.specs.world_state.Good.{AreGood, IsGoodWorld}
use Rattle.delivery_laws.specs.world_state.Rights.{Rights, slots_at}
use Rattle.delivery_laws.specs.world_state.Worlds as worlds
use Rattle.delivery_laws.specs.world_state.Worlds.{Effect, Seat, State, after_all, behind, in_front, no_seat, seat_at}
use Rattle.delivery_laws.specs.rules.Methods.{serve as serve_call}
use Rattle.fair_laws.specs.Reads.{CallsRead, ServicesRead}
use Rattle.fair_laws.specs.Turns.{IsTurnStep}
use Rattle.fair_laws.specs.Steps.{AccountsFor, ShowsSeats, TellsLog}
use Rattle.fair_laws.specs.Views.{IsSteady, owners_told, world_in}
use Rattle.fair_laws.proofs.Accounting.{accounts_for}
use Rattle.fair_laws.proofs.Ends.{ending_fit, turn_with}
use Rattle.fair_laws.proofs.Holding.{Shows, fit_all, row_of, shows_both}
use Rattle.fair_laws.proofs.StepSeats.{open_is, shows_seats}
use Rattle.fair_laws.proofs.Telling.{HasItsCause, Showing}
use Rattle.fair_laws.proofs.Works.{Turns, turns_of}

-- ---- a turn that is refused tells settlements alone

settled_nothing : (ps : List (ℕ × SettlementView)) → AllByRecursion ChangesNothing (rows_of (map (λ p. events.settled p.0 p.1) ps))
settled_nothing [] = tt
settled_nothing (p ∷ ps) = (tt, settled_nothing ps)

unsettled : (log : List Event) → Settles log log
unsettled log = record { promises = []; told = sym (append-nil log) }

refused_end : (d : Delivery) (e : Refusal) (u : State) → Settles u.log (after_all u (ending d (refused e) u)).log
unfolding ending
refused_end (deliveries.call c) e u = unsettled u.log
refused_end (deliveries.give g) e u = unsettled u.log
refused_end (deliveries.tick t) e u = unsettled u.log
refused_end (deliveries.bad r) e u = unsettled u.log
refused_end (deliveries.wake x) e u = unsettled u.log
refused_end (deliveries.deadline s) e u = unsettled u.log
refused_end (deliveries.send s) e u = resolving_settles s.promise (without_cycle u.promises.follows s.promise (settled_after (deliveries.send s) (refused e))) u.promises u.waiting u.log
refused_end (deliveries.start s) e u = resolving_settles s.promise (without_cycle u.promises.follows s.promise (settled_after (deliveries.start s) (refused e))) u.promises u.waiting u.log
refused_end (deliveries.offer o) e u = resolving_settles o.promise (without_cycle u.promises.follows o.promise (settled_after (deliveries.offer o) (refused e))) u.promises u.waiting u.log
refused_end (deliveries.notify n) e u = resolving_settles n.answer (without_cycle u.promises.follows n.answer (settled_after (deliveries.notify n) (refused e))) u.promises u.waiting u.log

-- ---- the form of its rows

calls_stand : (runs : Bool) (es : List Event) → AllByRecursion (λ e. MayStand runs (printed_event e)) es → AllByRecursion (MayStand runs) (rows_of es)
calls_stand runs [] all = tt
calls_stand runs (e ∷ es) all = (all.0, calls_stand runs es all.1)

few_printed : (o : Opening) → CanPrintOpening o → HasFewKeywords (rows.opened (printed_opening o))
few_printed o can = omega (arith, can.few, length_append (printed_shares o.proposal.give) (printed_shares o.proposal.want), shares_count o.proposal.give, shares_count o.proposal.want)

keywords_are_few : (es : List Event) → AllByRecursion CanPrintEvent es → AllByRecursion HasFewKeywords (rows_of es)
keywords_are_few [] all = tt
keywords_are_few (events.opened o ∷ es) all = (few_printed o all.0, keywords_are_few es all.1)
keywords_are_few (events.called c ∷ es) all = (tt, keywords_are_few es all.1)
keywords_are_few (events.moved m ∷ es) all = (tt, keywords_are_few es all.1)
keywords_are_few (events.exited x ∷ es) all = (tt, keywords_are_few es all.1)
keywords_are_few (events.settled p s ∷ es) all = (tt, keywords_are_few es all.1)

-- ---- a whole turn

module _ (read : TextReader) (served : AreGoodServices (serve_call read)) (called : AreGoodHostCalls) (reads : CallsRead) (service_reads : ServicesRead read) (meter : ℕ) (w : State) (d : Delivery) (good : IsGoodWorld (in_front d w)) (steady : IsSteady w) (empty : w.log ≡ []) (k : ℕ) where
  abbrev r : Reading
  r = (beginning w d).reading

  abbrev a : Answer
  a = (task_work read meter w (beginning w d).task).answer

  abbrev es : List Effect
  es = (task_work read meter w (beginning w d).task).effects

  abbrev u : State
  u = after_all w es

  abbrev fs : List Effect
  fs = ending d a u

  abbrev z : State
  z = after_all w (es ++ fs)

  abbrev sums : List Sum
  sums = sums_of z.rights (moves_in z.log)

  abbrev t : Turn
  t = turn_with (k + 1) z.log sums d r a

  abbrev os : Owners
  os = owners_told w

  abbrev row : Showing
  row = row_of os t

  abbrev i : Option (List ℕ)
  i = instance_of os t.kind t

  work : IsTurnWork w d (task_work read meter w (beginning w d).task)
  work = work_is read served called meter w d good

  whole : IsGoodWorld w
  whole = good_behind w d good

  are : AreGood w (es ++ fs)
  unfolding delivery_turn
  are = turn_good read served called meter w d good

  turned : Turns read served called reads service_reads meter w d good steady empty (k + 1) z.log sums r a es
  turned = turns_of read served called reads service_reads meter w steady empty (k + 1) z.log sums d good

  ended : Shows os t row i u fs
  ended = fit_all os t row (λ i n c e. e) i u fs turned.shows.holds turned.shows.owes (ending_good u d a work.front work.out work.free) (ending_fit (k + 1) z.log sums os d r a u)

  same_end : z ≡ after_all u fs
  same_end = after_both w es fs

  all : Shows os t row i w (es ++ fs)
  all = shows_both os t row i w es fs same_end turned.shows ended

  tells : TellsLog z t
  tells = record { events = refl; sums = refl }

  accounts : AccountsFor (world_in k w) t (world_in (k + 1) z)
  accounts = accounts_for k w (es ++ fs) t whole empty are all.stored tells

  seats : ShowsSeats (world_in k w) t (world_in (k + 1) z)
  seats = shows_seats k w (es ++ fs) t whole empty are all.shown tells

  -- no cause is shown of a seat that is open
  none_shown_by : (n : ℕ) → worlds.IsOpen (seat_at z.seats n) → row (seat_at z.seats n).instance n ≡ None
  none_shown_by = subst (λ (x : State). (n : ℕ) → worlds.IsOpen (seat_at x.seats n) → row (seat_at x.seats n).instance n ≡ None) (sym same_end) turned.stays

  stays : (seat : ℕ) (is_open : IsOpen (seats_told z) seat) → first_cause os t t.events is_open.seat.opening.instance seat ≡ None
  stays n is_open =
      let of = open_is z n all.holds.good is_open in
      ap (λ (s : told.Seat). first_cause os t t.events s.opening.instance n) of.is
      ∙ ap (λ c. either c (row (seat_at z.seats n).instance n)) (all.owes.shown n of.opens)
      ∙ none_shown_by n of.opens

  -- a seat that was left has its cause
  caused_all : (xs : List Event) → AllByRecursion (HasItsCause row z) xs → AllByRecursion (IsCaused (seats_told z) os t t.events) (rows_of xs)
  caused_all [] have = tt
  caused_all (events.exited x ∷ xs) have = (
    record {
      seat = seat_told x.seat (seat_at z.seats x.seat) (slots_at z.rights.slots x.seat);
      was_opened = seat_read 0 x.seat z.seats z.rights.slots no_seat have.0.0 all.holds.good.seats.slotted
          ∙ ap (λ n. Some (seat_told n (seat_at z.seats x.seat) (slots_at z.rights.slots x.seat))) (let e : 0 + x.seat ≡ x.seat = omega arith in e);
      first = have.0.1;
    },
    caused_all xs have.1,
  )
  caused_all (events.called c ∷ xs) have = (tt, caused_all xs have.1)
  caused_all (events.opened o ∷ xs) have = (tt, caused_all xs have.1)
  caused_all (events.moved m ∷ xs) have = (tt, caused_all xs have.1)
  caused_all (events.settled p s ∷ xs) have = (tt, caused_all xs have.1)

  nothing_done : es ≡ [] → (e : Refusal) → a ≡ refused e → AllByRecursion ChangesNothing t.events
  nothing_done none e is =
      let v : List Effect → State = λ xs. after_all (after_all w xs) (ending d (refused e) (after_all w xs)) in
      let end : z ≡ v [] = same_end ∙ ap (λ b. after_all u (ending d b u)) is ∙ ap v none in
      let settled = refused_end d e w in
      let log : z.log ≡ map (λ p. events.settled p.0 p.1) settled.promises = ap (λ (x : State). x.log) end ∙ settled.told ∙ ap (λ x. x ++ map (λ p. events.settled p.0 p.1) settled.promises) empty in
      subst (λ x. AllByRecursion ChangesNothing (rows_of x)) (sym log) (settled_nothing settled.promises)

  refusal : (code : List ℕ) (shown : json.Items) → t.answer ≡ rows.refused code shown → AllByRecursion ChangesNothing t.events
  refusal code shown = by a refl
    where
      by : (b : Answer) → a ≡ b → printed_answer b ≡ rows.refused code shown → AllByRecursion ChangesNothing t.events
      by (refused e) same is = nothing_done (turned.quiet e same) e same
      by (given x) same is = cc
      by (threw x) same is = cc
      by (spent m) same is = cc

  -- the turn can be printed, and so has the form that a host's turns have
  can_print : CanPrint (record { number = k + 1; delivery = d; reading = r; answer = a; events = z.log; sums = sums })
  unfolding delivery_turn
  can_print = turn_prints read served called (k + 1) meter w d empty good

  form : HasHostForm t
  form = record {
    answered = can_print.answered;
    calls = calls_stand (runs_function t.kind t.answer) z.log can_print.calls;
    few = keywords_are_few z.log can_print.events;
  }

  pub is_step : IsStep (world_in k w) t (world_in (k + 1) z)
  is_step = record {
    number = refl;
    turns = refl;
    defined = accounts.defined;
    table = accounts.table;
    hand = accounts.hand;
    out = accounts.out;
    minted_is = accounts.minted_is;
    burned_is = accounts.burned_is;
    fits = accounts.fits;
    minted_bounded = accounts.minted_bounded;
    sums = accounts.sums;
    brands = accounts.brands;
    kinds = accounts.kinds;
    values = accounts.values;
    payments = accounts.payments;
    made = accounts.made;
    emptied = accounts.emptied;
    live = accounts.live;
    taken = accounts.taken;
    stays_taken = accounts.stays_taken;
    rows = seats.rows;
    safe = seats.safe;
    stays = stays;
    caused = caused_all z.log all.holds.causes;
    owners = all.holds.facets;
    refusal = refusal;
    read = turned.held.read;
    told = turned.held.told;
    form = form;
  }

  pub steady_then : IsSteady z
  steady_then = all.holds.steady

-- ---- hosts

still_steady : (x y : State) → y.seats ≡ x.seats → y.tables ≡ x.tables → y.facets ≡ x.facets → y.rights ≡ x.rights → IsSteady x → IsSteady y
still_steady x y seats tables facets rights is = record {
  counted = record {
    seats = subst (λ (l : List Seat). length l ≤ most_made) (sym seats) is.counted.seats;
    instances = subst (λ (l : Tables). length l.instances ≤ most_made) (sym tables) is.counted.instances;
    facets = subst (λ (l : List FacetView). length l ≤ most_made) (sym facets) is.counted.facets;
    purses = subst (λ (l : Rights). length l.purses ≤ most_made) (sym rights) is.counted.purses;
  };
  left = record {
    each = subst (λ (p : List Seat × Rights). (n : ℕ) (rows : List Share) → n < length p.0 → (seat_at p.0 n).last ≡ Some rows → map slot_name (slots_at p.1.slots n) ≡ map slot_name rows) (λ i. (sym seats i, sym rights i)) is.left.each;
  };
}

module _ (read : TextReader) (served : AreGoodServices (serve_call read)) (called : AreGoodHostCalls) (reads : CallsRead) (service_reads : ServicesRead read) where
  step_is : (s : HostState) (d : Delivery) (ds : List Delivery) → s.world.waiting ≡ d ∷ ds → IsGoodHost s → IsSteady s.world
      → IsTurnStep s (step_after s d (delivery_turn read s.meter (behind s.world) d))
  unfolding delivery_turn
  step_is s d ds front host steady =
      let w = behind s.world in
      let good : IsGoodWorld (in_front d w) = subst IsGoodWorld (begins s.world d ds front) host.world in
      let now : IsSteady w = still_steady s.world w refl refl refl refl steady in
      let then = steady_then read served called reads service_reads s.meter w d good now host.untold s.turns in
      record {
        is_step = is_step read served called reads service_reads s.meter w d good now host.untold s.turns;
        steady = still_steady (after_all w (delivery_turn read s.meter w d).effects) (step_after s d (delivery_turn read s.meter w d)).next.world refl refl refl refl then;
      }

  from_is : (s : HostState) (ws : List Delivery) → s.world.waiting ≡ ws → IsGoodHost s → IsSteady s.world → IfSome (step_from read s ws) (IsTurnStep s)
  from_is s [] front host steady = tt
  from_is s (d ∷ ds) front host steady = step_is s d ds front host steady

  pub steps_are : (s : HostState) → IsGoodHost s → IsSteady s.world → IfSome (step_of read s) (IsTurnStep s)
  unfolding step_of
  steps_are s host steady = from_is s s.world.waiting refl host steady
