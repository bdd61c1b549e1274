-- Which effects calls have, and whose things they touch: of an instance's, and of its seats, those of the caller
-- alone. What lines of parties and the ends of turns do is no effect of a call: no call resolves a promise (a seat
-- that is left, and one that an instance opens for itself, settle theirs in their own effects), sets the time, or
-- keeps state, and no method makes a facet.
use Rattle.std.specs.Prelude.{◌≡◌, ℕ, List, Option, Some, None, codes}
use Rattle.world_state.specs.turn_stores.Details.{DetailsView}
use Rattle.call_arguments.specs.host_data.declared.data.Obj.{Obj}
use Rattle.call_arguments.specs.host_data.declared.data.ObjKind.TheVariants as kinds
use Rattle.world_state.specs.Known.{IsSeatOf}
use Rattle.world_state.specs.Worlds.{Effect, Maker, State, of_instance, of_kit}
use Rattle.world_state.specs.Worlds.{add_issuer, arrive, bind_label, empty_payment, empty_seat, end_staging, exit}
use Rattle.world_state.specs.Worlds.{halt, install, invite, keep_state, make_facet, moves, new_brand}
use Rattle.world_state.specs.Worlds.{new_purse, note_call, offer, publish, resolve, send, set_time, stage, start}
use Rattle.world_state.specs.Worlds.{stop, unstage, wake, when}
use Rattle.rules.specs.Licence.{IsObject}

-- who makes the brand that a call makes: a party by a kit, an instance for itself
abbrev pub maker_by : Option ℕ → Maker
maker_by None = of_kit
maker_by (Some i) = of_instance i

-- the caller is the instance
abbrev pub IsBy : Option ℕ → ℕ → Type 0
IsBy caller i = caller ≡ Some i

-- the caller is none in particular
abbrev pub IsByNone : Option ℕ → Type 0
IsByNone caller = caller ≡ None

-- the seat is one of the instance that calls
abbrev pub IsOwnSeat : State → Option ℕ → ℕ → Type 0
IsOwnSeat w None seat = ⊥
IsOwnSeat w (Some i) seat = IsSeatOf w.seats i seat

-- a seat that is left is one of the instance that calls; which ones others leave, target and method say
abbrev pub MayLeave : State → Option ℕ → ℕ → Type 0
MayLeave w None seat = Unit {0}
MayLeave w (Some i) seat = IsSeatOf w.seats i seat

-- an instance makes an invitation, to itself, where its zcf is asked for one
pub record IsInviting (caller : Option ℕ) (o : Obj) (m : List ℕ) (d : DetailsView) : Type 0 where
  pub by : IsBy caller d.instance
  pub target : IsObject kinds.Zcf d.instance o
  pub method : m ≡ codes "makeInvitation"

abbrev pub MayAct : State → Option ℕ → Obj → List ℕ → Effect → Type 0
MayAct w caller o m (new_brand b maker) = maker ≡ maker_by caller
MayAct w caller o m (new_purse b) = IsByNone caller
MayAct w caller o m (empty_payment b) = IsByNone caller
MayAct w caller o m (moves ms) = Unit {0}
MayAct w caller o m (stage seat rows) = IsOwnSeat w caller seat
MayAct w caller o m (unstage seat) = IsOwnSeat w caller seat
MayAct w caller o m end_staging = ⊥
MayAct w caller o m (offer of) = IsByNone caller
MayAct w caller o m (empty_seat i rule) = IsBy caller i
MayAct w caller o m (exit seat cause) = MayLeave w caller seat
MayAct w caller o m (invite d) = IsInviting caller o m d
MayAct w caller o m (resolve p v) = ⊥
MayAct w caller o m (send i target method arguments) = IsBy caller i
MayAct w caller o m (when i p function held) = IsBy caller i
MayAct w caller o m (wake time d) = IsBy caller d.instance
MayAct w caller o m (set_time time) = ⊥
MayAct w caller o m (arrive d) = ⊥
MayAct w caller o m (install text) = IsByNone caller
MayAct w caller o m (start s) = IsByNone caller
MayAct w caller o m (add_issuer i issuer) = IsBy caller i
MayAct w caller o m (publish i facet) = ⊥
MayAct w caller o m (keep_state i values) = ⊥
MayAct w caller o m (stop i) = IsBy caller i
MayAct w caller o m (halt i) = IsBy caller i
MayAct w caller o m (make_facet f) = ⊥
MayAct w caller o m (bind_label party label value) = ⊥
MayAct w caller o m (note_call c) = ⊥
