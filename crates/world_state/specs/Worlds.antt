-- The state of the world in a turn, the effects that a call may have on it, what each makes of it.
use Rattle.std.specs.Prelude.{◌≡◌, ℕ, suc, ◌+◌, if◌then◌else◌, nat_lt, Option, Some, None}
use Rattle.std.specs.Prelude.{List, [], ◌∷◌, ◌++◌, drop, length, map, slice_index_or, slice_set}
use Rattle.vault_model.specs.amount_math.declared.Kind.TheVariants.{Set}
use Rattle.vault_model.specs.amount_math.Content.{one_of}
use Rattle.vault_model.specs.amount_math.ValueView.{ValueView}
use Rattle.vault_model.specs.amount_math.declared.Amount.{Amount}
use Rattle.actors.specs.Labels.{Bound, bound}
use Rattle.actors.specs.brands.Brands as brands
use Rattle.actors.specs.brands.declared.Brand.{Brand}
use Rattle.actors.specs.brands.declared.issuer_record.Issuer.{Issuer}
use Rattle.vault_model.specs.ertp_mint.BrandSupply.{new_supply}
use Rattle.vault_model.specs.ertp_mint.Stocks.{empty_amount}
use Rattle.actors.specs.Facets.{FacetView}
use Rattle.actors.specs.SeatPromises.{pair_at}
use Rattle.actors.specs.Tables.{Tables, installed, started, with_halted, with_issuer}
use Rattle.actors.specs.Tables.{with_public_facet, with_state, with_stopped}
use Rattle.actors.specs.declared.instance_store.seat_promises.SeatPair.{SeatPair}
use Rattle.actors.specs.turn_stores.Details.{DetailsView, details_at}
use Rattle.actors.specs.turn_stores.Elements.{element}
use Rattle.vault_model.specs.host_data.Tree.{Tree, fields, null, object, Fields, no_fields, field}
use Rattle.vault_model.specs.host_data.declared.data.Obj.{Obj}
use Rattle.vault_model.specs.host_data.declared.data.ObjKind.{ObjKind}
use Rattle.vault_model.specs.host_data.declared.data.ObjKind.TheVariants as kinds
use Rattle.actors.specs.jessie_grammar.declared.syntax.Module.{Module}
use Rattle.vault_model.specs.holders.PaymentViews.{PaymentView, live_payment}
use Rattle.turn_records.specs.promise_store.States.{SettlementView, ok}
use Rattle.vault_model.specs.proposals.Slots.{emptied, is_upto, slots_of}
use Rattle.vault_model.specs.proposals.declared.allocations.Share.{Share}
use Rattle.vault_model.specs.proposals.declared.offers.Exit.{Exit}
use Rattle.vault_model.specs.proposals.declared.offers.Exit.TheVariants.{AfterDeadline, OnDemand, Waived}
use Rattle.vault_model.specs.proposals.declared.offers.Proposal.{Proposal}
use Rattle.vault_model.specs.rights_model.Table.{movement}
use Rattle.vault_model.specs.rights_model.declared.Holder.TheVariants.{Outside, Payment, Slot}
use Rattle.vault_model.specs.rights_model.declared.Movement.{Movement}
use Rattle.actors.specs.turn_stores.Schedules.{Schedule, due_after, due_by, woken_at}
use Rattle.turn_records.specs.Deliveries as deliveries
use Rattle.turn_records.specs.Deliveries.{Delivery, Notice, Offer, Send, Start, Wakeup}
use Rattle.turn_records.specs.Events.{Call, Event, called, exited, moved as movement_made}
use Rattle.turn_records.specs.Events.{opened, settled}
use Rattle.turn_records.specs.turn_rows.Causes.{Cause}
use Rattle.turn_records.specs.turn_rows.Turns.{Payout}
use Rattle.world_state.specs.Promises.{PromiseBook, Resolved, asking, resolving, settlement_at}
use Rattle.world_state.specs.Promises.{told_at_once, with_promise}
use Rattle.world_state.specs.Rights.{Rights, moved_together, slots_at}
use Rattle.world_state.specs.Rights.{with_payment, with_purse, with_slots, with_supply}

-- who made a brand: it is that of invitations, or was made with an issuer and a mint, or by an
-- instance
pub data Maker : Type 0 where
  of_host : Maker
  of_kit : Maker
  of_instance : ℕ → Maker

-- a seat: whose it is, what it was opened for, and what its slots had when it was left, once it
-- was
pub record Seat : Type 0 where
  pub instance : ℕ
  pub proposal : Proposal
  pub last : Option (List Share)

-- The stores, by number where it isn't said otherwise. `waiting` are the deliveries behind the
-- one that the turn is about; `schedule` is the timer; `log` is what happened in the turn.
pub record State : Type 0 where
  pub rights : Rights
  pub seats : List Seat
  -- what is staged, by seat
  pub staging : List (Option (List Share))
  pub brands : List Brand
  -- by brand
  pub makers : List Maker
  pub invitations : List DetailsView
  pub schedule : Schedule Delivery
  pub promises : PromiseBook
  pub tables : Tables
  pub facets : List FacetView
  -- by seat: the promises of its result and of its payouts
  pub pairs : List SeatPair
  pub labels : List Bound
  pub waiting : List Delivery
  pub log : List Event

-- an offer that is made: the number of its invitation and the payment that is burned of it; what
-- is proposed; the movements to the slots of give; what goes to the handler
pub record Offering : Type 0 where
  pub invitation : ℕ
  pub proposal : Proposal
  pub burn : Movement
  pub escrows : List Movement
  pub arguments : Tree

-- an instance that is started
pub record Starting : Type 0 where
  pub installation : ℕ
  pub issuers : List Issuer
  pub terms : Tree
  pub private_arguments : Tree

pub data Effect : Type 0 where
  -- a brand with a name is made, by whom
  new_brand : Brand → Maker → Effect
  -- an empty purse of a brand is opened; a payment of nothing is made
  new_purse : ℕ → Effect
  empty_payment : ℕ → Effect
  -- movements are made together, in the order in which they are written
  moves : List Movement → Effect
  -- shares are staged of a seat; what is staged of it is dropped; all staging ends
  stage : ℕ → List Share → Effect
  unstage : ℕ → Effect
  end_staging : Effect
  -- an offer opens a seat: its invitation is burned, its payments are escrowed, its handler is to
  -- be called, and its deadline waits
  offer : Offering → Effect
  -- an instance opens a seat of its own, with an exit rule
  empty_seat : ℕ → Exit → Effect
  -- a seat is left with a cause: it is paid out, and the promise of its payouts is settled
  exit : ℕ → Cause → Effect
  -- an invitation is made: its details are kept, and the next payment is one of it
  invite : DetailsView → Effect
  -- a promise is resolved
  resolve : ℕ → SettlementView → Effect
  -- an instance sends a call, to an object or a promise, for the next promise
  send : ℕ → Obj → List ℕ → List Tree → Effect
  -- a function of an instance is to be told of a promise, for the next promise
  when : ℕ → ℕ → List ℕ → Tree → Effect
  -- a function of an instance is to be called at a time
  wake : ℕ → Wakeup → Effect
  -- the timer is set, and what is due is to be delivered
  set_time : ℕ → Effect
  -- a line of a party's comes in
  arrive : Delivery → Effect
  -- a module is installed; an instance is started, and its start is to be delivered
  install : Module → Effect
  start : Starting → Effect
  -- an instance keeps an issuer under a keyword, its public facet, its state values; it takes no
  -- more offers; it halts, when no seat of its is open
  add_issuer : ℕ → Issuer → Effect
  publish : ℕ → Tree → Effect
  keep_state : ℕ → List Tree → Effect
  stop : ℕ → Effect
  halt : ℕ → Effect
  -- a facet is made
  make_facet : FacetView → Effect
  -- a party has data under a label
  bind_label : List ℕ → List ℕ → Tree → Effect
  -- a contract's call of the host was answered
  note_call : Call → Effect

-- ---- what is read of the state

abbrev pub no_seat : Seat
no_seat = record {
  instance = 0;
  proposal = record { give = []; want = []; exit = OnDemand };
  last = Some [];
}

abbrev pub seat_at : List Seat → ℕ → Seat
seat_at seats n = slice_index_or seats n no_seat

abbrev pub IsOpen : Seat → Type 0
IsOpen seat = seat.last ≡ None

-- what is staged of a seat
abbrev pub staged_at : List (Option (List Share)) → ℕ → Option (List Share)
staged_at staging n = slice_index_or staging n None

abbrev pub no_shares : Option (List Share) → Option (List Share)
no_shares shares = None

abbrev pub maker_at : List Maker → ℕ → Maker
maker_at makers n = slice_index_or makers n of_host

abbrev pub promises_made : State → ℕ
promises_made w = length w.promises.settled

abbrev pub object_tree : ObjKind → ℕ → Tree
object_tree kind n = object (record { kind = kind; number = n })

-- ---- what waits for a time

-- a delivery waits for a time that is to come; it waits in the queue where the time has come
abbrev pub scheduled : ℕ → Delivery → Schedule Delivery → Schedule Delivery
scheduled t d s = if nat_lt s.time t then woken_at t d s else s

abbrev pub due_now : ℕ → Delivery → Schedule Delivery → List Delivery
due_now t d s = if nat_lt s.time t then [] else d ∷ []

-- what is due once the timer is set
abbrev pub due_at : ℕ → Schedule Delivery → List Delivery
due_at t s = map (λ (e : ℕ × Delivery). e.1) (due_by t s.waiting)

abbrev pub set_to : ℕ → Schedule Delivery → Schedule Delivery
set_to t s = record { time = t; made = s.made; waiting = due_after t s.waiting }

-- the deadline of an exit rule, for a seat
abbrev pub with_deadline : Exit → ℕ → Schedule Delivery → Schedule Delivery
with_deadline (AfterDeadline t) seat s = scheduled t (deliveries.deadline seat) s
with_deadline OnDemand seat s = s
with_deadline Waived seat s = s

abbrev pub deadline_now : Exit → ℕ → Schedule Delivery → List Delivery
deadline_now (AfterDeadline t) seat s = due_now t (deliveries.deadline seat) s
deadline_now OnDemand seat s = []
deadline_now Waived seat s = []

-- ---- a seat is opened

abbrev pub new_seat : ℕ → Proposal → Seat
new_seat instance proposal = record { instance = instance; proposal = proposal; last = None }

abbrev pub opening_of : State → ℕ → Proposal → Event
opening_of w instance proposal =
    opened (record { seat = length w.seats; instance = instance; proposal = proposal })

abbrev pub next_pair : State → SeatPair
next_pair w = record { «result» = promises_made w; payouts = promises_made w + 1 }

-- a seat and its slots, with nothing in them
abbrev pub empty_slots : Proposal → List Share
empty_slots p = map emptied (slots_of p)

abbrev pub burn_and_escrows : Offering → List Movement
burn_and_escrows o = o.burn ∷ o.escrows

abbrev pub offered_by : State → Offering → DetailsView
offered_by w o = details_at w.invitations o.invitation

-- what goes to the handler
abbrev pub handler_call : State → Offering → Delivery
handler_call w o = deliveries.offer (record {
  instance = (offered_by w o).instance;
  seat = length w.seats;
  function = (offered_by w o).handler;
  offer_arguments = o.arguments;
  held = (offered_by w o).held;
  promise = promises_made w;
})

abbrev pub offer_events : State → Offering → List Event
offer_events w o =
    opening_of w (offered_by w o).instance o.proposal ∷ map movement_made (burn_and_escrows o)

-- the deadline of the next seat, where it has come
abbrev pub deadline_of : State → Exit → List Delivery
deadline_of w rule = deadline_now rule (length w.seats) w.schedule

abbrev pub of_own : Exit → Proposal
of_own rule = record { give = []; want = []; exit = rule }

-- ---- a seat is left

-- each slot goes to a payment of its own, the first of which has the number
abbrev pub payouts_from : ℕ → List Share → List Payout
payouts_from n [] = []
payouts_from n (r ∷ rs) = record { keyword = r.keyword; payment = n } ∷ payouts_from (suc n) rs

abbrev pub payout_moves : ℕ → ℕ → List Share → List Movement
payout_moves seat n [] = []
payout_moves seat n (r ∷ rs) =
    movement r.amount.brand (Slot seat r.keyword) (Payment n) r.amount.value
    ∷ payout_moves seat (suc n) rs

abbrev pub paid_out : Share → PaymentView
paid_out r = live_payment r.amount

abbrev pub rights_left : Rights → ℕ → Rights
rights_left r seat = record r {
  payments = r.payments ++ map paid_out (slots_at r.slots seat);
  slots = slice_set r.slots seat (map emptied (slots_at r.slots seat));
}

abbrev pub left_seat : Seat → List Share → Seat
left_seat seat shares = record seat { last = Some shares }

abbrev pub seats_left : List Seat → ℕ → List Share → List Seat
seats_left seats n shares = slice_set seats n (left_seat (seat_at seats n) shares)

-- the record from keyword to payment, in byte order of keywords
abbrev pub placed_field : List ℕ → Tree → Fields → Fields
placed_field name t no_fields = field name t no_fields
placed_field name t (field next u fs) =
    if is_upto name next then field name t (field next u fs)
    else field next u (placed_field name t fs)

abbrev pub payout_fields : List Payout → Fields
payout_fields [] = no_fields
payout_fields (p ∷ ps) =
    placed_field p.keyword (object_tree kinds.Payment p.payment) (payout_fields ps)

abbrev pub payouts_at : State → ℕ → List Payout
payouts_at w seat = payouts_from (length w.rights.payments) (slots_at w.rights.slots seat)

abbrev pub payments_tree : ℕ → List Share → Tree
payments_tree first shares = fields (payout_fields (payouts_from first shares))

abbrev pub payouts_tree : State → ℕ → Tree
payouts_tree w seat = payments_tree (length w.rights.payments) (slots_at w.rights.slots seat)

abbrev pub moves_out : State → ℕ → List Movement
moves_out w seat = payout_moves seat (length w.rights.payments) (slots_at w.rights.slots seat)

abbrev pub leaving_events : State → ℕ → Cause → List Event
leaving_events w seat cause =
    exited (record { seat = seat; cause = cause; payouts = payouts_at w seat })
    ∷ map movement_made (moves_out w seat)

-- the promise of its payouts is settled
abbrev pub leaving : State → ℕ → Cause → Resolved
leaving w seat cause =
    let given = ok (payouts_tree w seat) in
    let log = w.log ++ leaving_events w seat cause in
    resolving (pair_at w.pairs seat).payouts given w.promises w.waiting log

-- ---- an invitation is made

abbrev pub invitation_value : ℕ → ValueView
invitation_value n = record { kind = Set; content = one_of (element n) }

abbrev pub invitation_move : State → Movement
invitation_move w =
    let next = Payment (length w.rights.payments) in
    movement 0 Outside next (invitation_value (length w.invitations))

-- ---- what has nothing

abbrev pub nothing_of : State → ℕ → Amount
nothing_of w b = empty_amount b (brands.brand_at w.brands b).kind

-- ---- what is to be delivered

abbrev pub starting_call : State → Starting → Delivery
starting_call w s = deliveries.start (record {
  instance = length w.tables.instances;
  private_arguments = s.private_arguments;
  promise = promises_made w;
})

abbrev pub sent_call : State → ℕ → Obj → List ℕ → List Tree → Delivery
sent_call w i target method arguments = deliveries.send (record {
  instance = i;
  target = target;
  method = method;
  arguments = arguments;
  promise = promises_made w;
})

abbrev pub request_of : State → ℕ → ℕ → List ℕ → Tree → Notice
request_of w i p function held = record {
  instance = i;
  promise = p;
  function = function;
  held = held;
  answer = promises_made w;
}

-- it is asked by a request whose answer is the next promise
abbrev pub asked : State → ℕ → Notice → State
asked w p n = record w {
  promises = asking (settlement_at w.promises.settled p) n (with_promise None w.promises);
  waiting = w.waiting ++ told_at_once (settlement_at w.promises.settled p) n;
}

-- ---- what each effect makes of the state

abbrev pub after : State → Effect → State
after w (new_brand b maker) = record w {
  rights = with_supply w.rights (new_supply b.kind);
  brands = w.brands ++ b ∷ [];
  makers = w.makers ++ maker ∷ [];
}
after w (new_purse b) = record w { rights = with_purse w.rights (nothing_of w b) }
after w (empty_payment b) = record w { rights = with_payment w.rights (nothing_of w b) }
after w (moves ms) = record w {
  rights = moved_together w.rights ms;
  log = w.log ++ map movement_made ms;
}
after w (stage seat shares) = record w { staging = slice_set w.staging seat (Some shares) }
after w (unstage seat) = record w { staging = slice_set w.staging seat None }
after w end_staging = record w { staging = map no_shares w.staging }
after w (offer o) = record w {
  rights = moved_together (with_slots w.rights (empty_slots o.proposal)) (burn_and_escrows o);
  seats = w.seats ++ new_seat (offered_by w o).instance o.proposal ∷ [];
  staging = w.staging ++ None ∷ [];
  pairs = w.pairs ++ next_pair w ∷ [];
  promises = with_promise None (with_promise None w.promises);
  schedule = with_deadline o.proposal.exit (length w.seats) w.schedule;
  waiting = w.waiting ++ handler_call w o ∷ deadline_of w o.proposal.exit;
  log = w.log ++ offer_events w o;
}
after w (empty_seat i rule) = record w {
  rights = with_slots w.rights [];
  seats = w.seats ++ new_seat i (of_own rule) ∷ [];
  staging = w.staging ++ None ∷ [];
  pairs = w.pairs ++ next_pair w ∷ [];
  promises = with_promise None (with_promise (Some (ok null)) w.promises);
  schedule = with_deadline rule (length w.seats) w.schedule;
  waiting = w.waiting ++ deadline_of w rule;
  log = w.log ++ opening_of w i (of_own rule) ∷ settled (promises_made w) (ok null) ∷ [];
}
after w (exit seat cause) = record w {
  rights = rights_left w.rights seat;
  seats = seats_left w.seats seat (slots_at w.rights.slots seat);
  staging = slice_set w.staging seat None;
  promises = (leaving w seat cause).promises;
  waiting = (leaving w seat cause).waiting;
  log = (leaving w seat cause).log;
}
after w (invite d) = record w {
  rights = moved_together w.rights (invitation_move w ∷ []);
  invitations = w.invitations ++ d ∷ [];
  log = w.log ++ movement_made (invitation_move w) ∷ [];
}
after w (resolve p v) = record w {
  promises = (resolving p v w.promises w.waiting w.log).promises;
  waiting = (resolving p v w.promises w.waiting w.log).waiting;
  log = (resolving p v w.promises w.waiting w.log).log;
}
after w (send i target method arguments) = record w {
  promises = with_promise None w.promises;
  waiting = w.waiting ++ sent_call w i target method arguments ∷ [];
}
after w (when i p function held) = asked w p (request_of w i p function held)
after w (wake t d) = record w {
  schedule = scheduled t (deliveries.wake d) w.schedule;
  waiting = w.waiting ++ due_now t (deliveries.wake d) w.schedule;
}
after w (set_time t) = record w {
  schedule = set_to t w.schedule;
  waiting = w.waiting ++ due_at t w.schedule;
}
after w (arrive d) = record w { waiting = w.waiting ++ d ∷ [] }
after w (install m) = record w { tables = installed m w.tables }
after w (start s) = record w {
  tables = started s.installation s.issuers s.terms w.tables;
  promises = with_promise None w.promises;
  waiting = w.waiting ++ starting_call w s ∷ [];
}
after w (add_issuer i issuer) = record w { tables = with_issuer i issuer w.tables }
after w (publish i facet) = record w { tables = with_public_facet i facet w.tables }
after w (keep_state i values) = record w { tables = with_state i values w.tables }
after w (stop i) = record w { tables = with_stopped i w.tables }
after w (halt i) = record w { tables = with_halted i w.tables }
after w (make_facet f) = record w { facets = w.facets ++ f ∷ [] }
after w (bind_label party label value) = record w {
  labels = w.labels ++ bound party label value ∷ [];
}
after w (note_call c) = record w { log = w.log ++ called c ∷ [] }

abbrev pub after_all : State → List Effect → State
after_all w [] = w
after_all w (e ∷ es) = after_all (after w e) es

-- the world of a turn with the delivery that the turn is about still in front
abbrev pub in_front : Delivery → State → State
in_front d w = record w { waiting = d ∷ w.waiting }

-- the world behind the delivery that is in front
abbrev pub behind : State → State
behind w = record w { waiting = drop 1 w.waiting }
