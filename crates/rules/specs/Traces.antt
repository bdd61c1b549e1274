-- What effects leave behind that others see: the seats that are left and opened, the movements that are
-- written, and the functions that are to be called. And which seats a call leaves and opens, by its target and its
-- method alone.
use Rattle.std.specs.Prelude.{ℕ, suc, ◌==◌, ◌&&◌, ◌||◌, if◌then◌else◌, is_none, List, [], ◌∷◌, ◌++◌, map, codes}
use Rattle.std.specs.Str.{bytes_eq}
use Rattle.call_arguments.specs.host_data.declared.data.Obj.{Obj}
use Rattle.call_arguments.specs.host_data.declared.data.ObjKind.{ObjKind}
use Rattle.call_arguments.specs.host_data.declared.data.ObjKind.TheVariants as kinds
use Rattle.rearrange.specs.rights_model.declared.Movement.{Movement}
use Rattle.world_state.specs.turn_rows.Causes as causes
use Rattle.world_state.specs.turn_rows.Causes.{Cause}
use Rattle.world_state.specs.Worlds.{Effect, Seat, State, burn_and_escrows, empty_seat, exit, moves, offer, send, start, wake, when}

-- ---- seats that are left

pub record Departure : Type 0 where
  pub seat : ℕ
  pub cause : Cause

abbrev pub departure : ℕ → Cause → Departure
departure seat cause = record { seat = seat; cause = cause }

abbrev pub departures_in : List Effect → List Departure
departures_in [] = []
departures_in (exit seat cause ∷ es) = departure seat cause ∷ departures_in es
departures_in (_ ∷ es) = departures_in es

-- the open seats of an instance, by number, of seats that are numbered from n
abbrev pub open_from : ℕ → ℕ → List Seat → List ℕ
open_from n i [] = []
open_from n i (s ∷ ss) =
    if (s.instance == i) && is_none s.last then n ∷ open_from (suc n) i ss else open_from (suc n) i ss

abbrev pub all_open : State → ℕ → List ℕ
all_open w i = open_from 0 i w.seats

abbrev pub one_left : ℕ → Cause → List Departure
one_left seat cause = departure seat cause ∷ []

abbrev pub all_halted : State → ℕ → List Departure
all_halted w i = map (λ seat. departure seat causes.halted) (all_open w i)

-- tryExit leaves the seat that is asked; exit and fail leave the seat; a shutdown leaves all open seats of its instance
abbrev pub departures_as : State → ObjKind → ℕ → List ℕ → List Departure
departures_as w kinds.Seat n m = if bytes_eq m (codes "tryExit") then one_left n causes.asked else []
departures_as w kinds.Zseat n m =
    if bytes_eq m (codes "exit") then one_left n causes.exit
    else if bytes_eq m (codes "fail") then one_left n causes.fail
    else []
departures_as w kinds.Zcf n m =
    if bytes_eq m (codes "shutdown") || bytes_eq m (codes "shutdownWithFailure") then all_halted w n else []
departures_as w _ n m = []

abbrev pub departures_by : State → Obj → List ℕ → List Departure
departures_by w o m = departures_as w o.kind o.number m

-- ---- seats that are opened

abbrev pub openings_in : List Effect → ℕ
openings_in [] = 0
openings_in (offer o ∷ es) = suc (openings_in es)
openings_in (empty_seat i rule ∷ es) = suc (openings_in es)
openings_in (_ ∷ es) = openings_in es

-- an offer opens one, and an instance opens one of its own
abbrev pub openings_as : ObjKind → List ℕ → ℕ
openings_as kinds.Zoe m = if bytes_eq m (codes "offer") then 1 else 0
openings_as kinds.Zcf m = if bytes_eq m (codes "makeEmptySeatKit") then 1 else 0
openings_as _ m = 0

abbrev pub openings_by : Obj → List ℕ → ℕ
openings_by o m = openings_as o.kind m

-- ---- movements, but for the payouts of seats that are left

abbrev pub movements_in : List Effect → List Movement
movements_in [] = []
movements_in (moves ms ∷ es) = ms ++ movements_in es
movements_in (offer o ∷ es) = burn_and_escrows o ++ movements_in es
movements_in (_ ∷ es) = movements_in es

-- ---- functions that are to be called because of the effects, notices of promises aside

abbrev pub calls_in : List Effect → ℕ
calls_in [] = 0
calls_in (offer o ∷ es) = suc (calls_in es)
calls_in (start s ∷ es) = suc (calls_in es)
calls_in (send i target method arguments ∷ es) = suc (calls_in es)
calls_in (when i p function held ∷ es) = suc (calls_in es)
calls_in (wake t d ∷ es) = suc (calls_in es)
calls_in (_ ∷ es) = calls_in es
