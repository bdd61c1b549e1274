-- Why a seat exits, as the rows of a turn show it: what call rows show counts before what the turn row shows.
use Rattle.std.specs.Prelude.{ℕ, ◌==◌, ◌&&◌, ◌||◌, Bool, true, false, List, [], ◌∷◌, ◌++◌, Option, Some, None, map, if◌then◌else◌, codes, decimal, unwrap_or}
use Rattle.std.specs.List.{flat_map}
use Rattle.std.specs.Str.{bytes_eq}
use Rattle.serde_json.specs.Data as json
use Rattle.turn_rows.specs.Causes as causes
use Rattle.turn_rows.specs.Causes.{Cause}
use Rattle.turn_rows.specs.Kinds as kinds
use Rattle.turn_rows.specs.Kinds.{How, Kind}
use Rattle.turn_rows.specs.Rows.{instance_name}
use Rattle.turn_rows.specs.Turns.{Answer, ok, threw, spent, Call, Event, called, exited, opened, Turn}

-- `seat4`, `zseat4`, `zcf0`
abbrev pub name : List ℕ → ℕ → List ℕ
name word n = word ++ decimal n

abbrev pub either : {A : Type 0} → Option A → Option A → Option A
either (Some x) other = Some x
either None other = other

abbrev pub cause_if : Bool → Cause → Option Cause
cause_if shown cause = if shown then Some cause else None

abbrev pub is_ok : Answer → Bool
is_ok (ok d) = true
is_ok _ = false

-- ---- what call rows show

abbrev pub is_call : How → Bool
is_call kinds.calls = true
is_call _ = false

-- a call of the method on the object, that was answered
abbrev pub calls : List ℕ → List ℕ → Call → Bool
calls on method c = is_call c.how && is_ok c.answer && bytes_eq c.on on && bytes_eq c.method method

-- a call on the seat
abbrev pub cause_of_own_call : ℕ → Call → Option Cause
cause_of_own_call seat c =
    either (cause_if (calls (name (codes "zseat") seat) (codes "exit") c) causes.exit)
    (cause_if (calls (name (codes "zseat") seat) (codes "fail") c) causes.fail)

-- a call on the seat, or one that halts its instance
abbrev pub cause_of_call : ℕ → ℕ → Call → Option Cause
cause_of_call instance seat c =
    either (cause_of_own_call seat c)
    (cause_if (calls (name (codes "zcf") instance) (codes "shutdown") c || calls (name (codes "zcf") instance) (codes "shutdownWithFailure") c) causes.halted)

-- the first that call rows show of a seat that has exited: to be halted it would have to be open
abbrev pub cause_behind_exit : ℕ → List Event → Option Cause
cause_behind_exit seat [] = None
cause_behind_exit seat (called c ∷ es) = either (cause_of_own_call seat c) (cause_behind_exit seat es)
cause_behind_exit seat (_ ∷ es) = cause_behind_exit seat es

-- the first that call rows show of a seat
abbrev pub cause_by_calls : ℕ → ℕ → List Event → Option Cause
cause_by_calls instance seat [] = None
cause_by_calls instance seat (called c ∷ es) = either (cause_of_call instance seat c) (cause_by_calls instance seat es)
cause_by_calls instance seat (exited x ∷ es) = if x.seat == seat then cause_behind_exit seat es else cause_by_calls instance seat es
cause_by_calls instance seat (_ ∷ es) = cause_by_calls instance seat es

-- the rows since the seat was opened, where it was opened among them
abbrev pub since_opening : ℕ → List Event → Option (List Event)
since_opening seat [] = None
since_opening seat (opened o ∷ es) = if o.seat == seat then Some es else since_opening seat es
since_opening seat (_ ∷ es) = since_opening seat es

-- a call counts for a seat from its opening on
abbrev pub while_open : ℕ → List Event → List Event
while_open seat es = unwrap_or (since_opening seat es) es

-- ---- the instance of a turn

-- the facets that Far calls answered, each with the instance of the turn in which it was answered, if that had one
abbrev pub Owners : Type 0
Owners = List (List ℕ × Option (List ℕ))

-- the first turn counts
abbrev pub owner_in : List ℕ → Owners → Option (List ℕ)
owner_in facet [] = None
owner_in facet (o ∷ os) = if bytes_eq facet o.0 then o.1 else owner_in facet os

-- that in `by`; of a facet's turn, that of the turn in which a Far call answered the facet
abbrev pub instance_of : Owners → Kind → Turn → Option (List ℕ)
instance_of os kinds.start t = Some t.by
instance_of os kinds.handler t = Some t.by
instance_of os kinds.wake t = Some t.by
instance_of os kinds.notify t = Some t.by
instance_of os kinds.facet t = owner_in t.on os
instance_of os _ t = None

abbrev pub object_answered : Answer → List (List ℕ)
object_answered (ok (json.object (json.member k (json.string s) json.no_members))) = if bytes_eq k (codes "@") then s ∷ [] else []
object_answered _ = []

abbrev pub is_far : How → Bool
is_far kinds.far = true
is_far _ = false

abbrev pub facets_at : Event → List (List ℕ)
facets_at (called c) = if is_far c.how then object_answered c.answer else []
facets_at _ = []

abbrev pub facets_made : Option (List ℕ) → List Event → Owners
facets_made instance es = map (λ facet. (facet, instance)) (flat_map facets_at es)

-- ---- what the turn row shows

abbrev pub is_of : Option (List ℕ) → ℕ → Bool
is_of (Some found) instance = bytes_eq found (instance_name instance)
is_of None instance = false

-- the turn is of the kind, on the object and of the method, and was answered
abbrev pub serves : List ℕ → List ℕ → Turn → Bool
serves on method t = is_ok t.answer && bytes_eq t.on on && bytes_eq t.method method

-- the seat was asked to exit; its deadline came; its handler threw; its instance's start threw, or spent its meter
abbrev pub cause_by_row : Kind → Answer → Owners → Turn → ℕ → ℕ → Option Cause
cause_by_row kinds.service (ok d) os t instance seat = cause_if (serves (name (codes "seat") seat) (codes "tryExit") t) causes.asked
cause_by_row kinds.deadline _ os t instance seat = cause_if (bytes_eq t.on (name (codes "seat") seat)) causes.deadline
cause_by_row kinds.handler (threw d) os t instance seat = cause_if (bytes_eq t.on (name (codes "zseat") seat)) causes.threw
cause_by_row kinds.start (threw d) os t instance seat = cause_if (is_of (instance_of os t.kind t) instance) causes.halted
cause_by_row _ (spent meter) os t instance seat = cause_if (is_of (instance_of os t.kind t) instance) causes.spent
cause_by_row _ _ os t instance seat = None

-- the first cause that these rows of the turn show for a seat of an instance
abbrev pub first_cause : Owners → Turn → List Event → ℕ → ℕ → Option Cause
first_cause os t es instance seat = either (cause_by_calls instance seat (while_open seat es)) (cause_by_row t.kind t.answer os t instance seat)
