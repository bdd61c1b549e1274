-- Worked steps of two instances: those that are licensed, and others that aren't, each for one thing alone.
use Rattle.std.specs.Prelude.{ℕ, List, [], ◌∷◌, ◌++◌, Some, codes}
use Rattle.fair_laws.specs.actors.Tables.{InstanceView, no_instance}
use Rattle.fair_laws.specs.delivery_turns.Hosts.{HostState, Step}
use Rattle.fair_laws.specs.world_laws.First.{first_world}
use Rattle.fair_laws.specs.world_state.amount_math.Content.{nothing}
use Rattle.fair_laws.specs.world_state.amount_math.declared.Kind.TheVariants.{Nat}
use Rattle.fair_laws.specs.world_state.holders.PaymentViews.{spent_payment}
use Rattle.fair_laws.specs.world_state.host_data.Tree.{Tree, null, object}
use Rattle.fair_laws.specs.world_state.host_data.declared.data.Obj.{Obj}
use Rattle.fair_laws.specs.world_state.host_data.declared.data.ObjKind.{ObjKind}
use Rattle.fair_laws.specs.world_state.host_data.declared.data.ObjKind.TheVariants as kinds
use Rattle.fair_laws.specs.world_state.proposals.declared.offers.Exit.TheVariants.{OnDemand}
use Rattle.fair_laws.specs.world_state.rights_model.Table.{movement}
use Rattle.fair_laws.specs.world_state.rights_model.declared.Holder.{Holder}
use Rattle.fair_laws.specs.world_state.rights_model.declared.Holder.TheVariants.{Outside, Payment}
use Rattle.fair_laws.specs.world_state.rights_model.declared.Holder.TheVariants.{Purse, Slot}
use Rattle.fair_laws.specs.world_state.turn_records.Deliveries.{Delivery, Reading, deadline, offer}
use Rattle.fair_laws.specs.world_state.turn_records.Deliveries.{send, target}
use Rattle.fair_laws.specs.world_state.turn_records.Deliveries as readings
use Rattle.fair_laws.specs.world_state.turn_records.Events.{Answer, Event, called, exited, given}
use Rattle.fair_laws.specs.world_state.turn_records.Events.{moved}
use Rattle.fair_laws.specs.world_state.turn_rows.Causes as causes
use Rattle.fair_laws.specs.world_state.turn_rows.Kinds as hows
use Rattle.fair_laws.specs.world_state.Worlds.{Seat, State, new_seat, of_host, of_instance, of_own}
use Rattle.licence_laws.specs.Steps.{IsLicensed}

-- ---- two instances

abbrev pub named : ObjKind → ℕ → Obj
named kind n = record { kind = kind; number = n }

abbrev pub it : ObjKind → ℕ → Tree
it kind n = object (named kind n)

abbrev pub seat_for : ℕ → Seat
seat_for instance = new_seat instance (of_own OnDemand)

abbrev pub with_values : List Tree → InstanceView
with_values values = record no_instance { state = values }

-- Seat 0 is of instance 0, seat 1 of instance 1; the ZCF mints of brands 1 and 2 were made by them. Two payments
-- were made. The first instance keeps these values.
abbrev pub world_with : List Tree → State
world_with values = record first_world {
  rights = record {
    purses = [];
    payments = spent_payment 0 ∷ spent_payment 0 ∷ [];
    slots = [];
    out = [];
  };
  seats = seat_for 0 ∷ seat_for 1 ∷ [];
  makers = of_host ∷ of_instance 0 ∷ of_instance 1 ∷ [];
  tables = record { installations = []; instances = with_values values ∷ with_values [] ∷ [] };
}

-- its zcf and both mints: what it keeps
abbrev pub kept : List Tree
kept = it kinds.Zcf 0 ∷ it kinds.Zmint 1 ∷ it kinds.Zmint 2 ∷ []

abbrev pub host_with : List Tree → ℕ → HostState
host_with values turns = record { meter = 0; world = world_with values; turns = turns }

-- ---- turns

abbrev pub step_of : Delivery → Reading → Answer → List Tree → List Event → Step
step_of delivery reading answer values events = record {
  next = host_with values 1;
  turn = record {
    number = 1;
    delivery = delivery;
    reading = reading;
    answer = answer;
    events = events;
    sums = [];
  };
}

-- the first instance's handler, to which its seat and payment0 come
abbrev pub handler : Delivery
handler = offer (record {
  instance = 0;
  seat = 0;
  function = codes "h";
  offer_arguments = it kinds.Payment 0;
  held = null;
  promise = 0;
})

abbrev pub handler_step : Tree → List Tree → List Event → Step
handler_step answer values events = step_of handler readings.nothing (given answer) values events

-- where nothing is given and the values stay
abbrev pub handled : List Event → Step
handled events = handler_step null kept events

abbrev pub deadline_step : ℕ → List Event → Step
deadline_step seat events = step_of (deadline seat) readings.nothing (given null) kept events

-- an instance's send of a method to one of the host's own objects
abbrev pub served : ObjKind → ℕ → List ℕ → List Tree → List Event → Step
served kind n method arguments events =
    step_of
    (send (record {
      instance = 0;
      target = named kind n;
      method = method;
      arguments = arguments;
      promise = 0;
    })) (target (named kind n) arguments) (given null) kept events

-- ---- events

abbrev pub call : ObjKind → ℕ → List ℕ → List Tree → Event
call kind n method arguments = called (record {
  how = hows.calls;
  on = Some (named kind n);
  method = method;
  arguments = arguments;
  answer = given null;
})

abbrev pub move : ℕ → Holder → Holder → Event
move brand from to = moved (movement brand from to (record { kind = Nat; content = nothing }))

abbrev pub leave : ℕ → Event
leave seat = exited (record { seat = seat; cause = causes.exit; payouts = [] })

abbrev pub slot : ℕ → Holder
slot seat = Slot seat (codes "Price")

abbrev pub deposits : List Tree → ℕ → List Event
deposits arguments payment =
    call kinds.Zcf 0 (codes "depositToSeat") arguments ∷ move 1 (Payment payment) (slot 0) ∷ []

abbrev pub on_mint : ℕ → List ℕ → ℕ → Holder → Holder → List Event
on_mint mint method brand from to = call kinds.Zmint mint method [] ∷ move brand from to ∷ []

abbrev pub withdraws : Holder → ℕ → List Event
withdraws from payment =
    call kinds.Zcf 0 (codes "withdrawFromSeat") [] ∷ move 1 from (Payment payment) ∷ []

abbrev pub invites : ℕ → List Event
invites brand =
    call kinds.Zcf 0 (codes "makeInvitation") [] ∷ move brand Outside (Payment 2) ∷ []

abbrev pub leaves : ℕ → ℕ → List Event
leaves seat from = leave seat ∷ move 1 (slot from) (Payment 2) ∷ []

-- ---- what holds of them

abbrev pub IsLicensedStep : Step → Type 0
IsLicensedStep step = IsLicensed (host_with kept 0) step

pub record AreLicensed : Type 0 where
  pub deposit : IsLicensedStep (handled (deposits (it kinds.Payment 0 ∷ []) 0))
  pub gains : IsLicensedStep (handled (on_mint 1 (codes "mintGains") 1 Outside (slot 0)))
  pub losses : IsLicensedStep (handled (on_mint 1 (codes "burnLosses") 1 (slot 0) Outside))
  pub invitation : IsLicensedStep (handled (invites 0))
  pub two_withdrawals : IsLicensedStep (handled (withdraws (slot 0) 2 ++ withdraws (slot 0) 3))
  pub own_exit : IsLicensedStep (handled (call kinds.Zseat 0 (codes "exit") [] ∷ leaves 0 0))
  pub handed_on : IsLicensedStep (handler_step (it kinds.Payment 0) (it kinds.Zseat 0 ∷ kept) [])
  pub due : IsLicensedStep (deadline_step 1 (leaves 1 1))
  pub asked : IsLicensedStep (served kinds.Seat 1 (codes "tryExit") [] (leaves 1 1))

-- a payment that the call doesn't name; a slot of another instance's seat; a mint, and losses, of another's brand; an
-- invitation of another brand; a payment that is made once more; a purse; objects from nowhere in a call, in the
-- result and in the values that are left; another seat's slot as a deadline has come, and as tryExit is asked
pub record AreNotLicensed : Type 0 where
  pub foreign_payment : IsLicensedStep (handled (deposits (it kinds.Payment 0 ∷ []) 1)) → ⊥
  pub foreign_slot : IsLicensedStep (handled (withdraws (slot 1) 2)) → ⊥
  pub foreign_gains :
      IsLicensedStep (handled (on_mint 2 (codes "mintGains") 2 Outside (slot 0))) → ⊥
  pub foreign_losses :
      IsLicensedStep (handled (on_mint 1 (codes "burnLosses") 2 (slot 0) Outside)) → ⊥
  pub other_invitation : IsLicensedStep (handled (invites 1)) → ⊥
  pub payment_again :
      IsLicensedStep (handled (withdraws (slot 0) 2 ++ withdraws (slot 0) 2)) → ⊥
  pub purse : IsLicensedStep (handled (withdraws (Purse 0) 2)) → ⊥
  pub named_in_call :
      IsLicensedStep (handled (call kinds.Zcf 0 (codes "m") (it kinds.Payment 1 ∷ []) ∷ []))
      → ⊥
  pub named_in_result : IsLicensedStep (handler_step (it kinds.Payment 1) kept []) → ⊥
  pub named_in_state : IsLicensedStep (handler_step null (it kinds.Payment 1 ∷ kept) []) → ⊥
  pub other_due : IsLicensedStep (deadline_step 1 (leaves 1 0)) → ⊥
  pub other_asked :
      IsLicensedStep (served kinds.Seat 1 (codes "tryExit") [] (leaves 0 0)) → ⊥
