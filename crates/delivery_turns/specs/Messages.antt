-- What stands at the paths of a message when its turn comes (eventual send; the form of paths is our own): the
-- target and the arguments of a call, what a gift gives, and the target of a call that was sent.
use Rattle.std.specs.Prelude.{ℕ, not, is_some, nat_le, nat_lt, List, [], Option, Some, None, Result}
use Rattle.std.specs.Prelude.{Ok, Err, if◌then◌else◌, codes}
use Rattle.world_laws.specs.actors.Labels.{bound_to}
use Rattle.world_laws.specs.actors.Paths.{Found, followed, stands_at}
use Rattle.world_laws.specs.actors.declared.paths.ResolveFault.{ResolveFault}
use Rattle.world_laws.specs.actors.declared.paths.ResolveFault.TheVariants.{Broken, Pending, UnknownName}
use Rattle.world_laws.specs.turn_records.Printable.{most_nested}
use Rattle.world_laws.specs.host_data.Tree as trees
use Rattle.world_laws.specs.host_data.Tree.{Fields, Items, Tree, items_nesting, listed, object, object_of}
use Rattle.world_laws.specs.host_data.declared.data.Obj.{Obj}
use Rattle.world_laws.specs.promise_store.States.{StateView, pending}
use Rattle.world_laws.specs.refusals.Codes as refusals
use Rattle.world_laws.specs.refusals.Codes.{bad_field, name_taken, unknown_name, wrong_object}
use Rattle.world_laws.specs.refusals.Outcomes.{◌>>=◌, ◌>>◌, need, wanted}
use Rattle.world_laws.specs.refusals.declared.codes.Refusal.{Refusal}
use Rattle.world_laws.specs.turn_records.Deliveries.{Send}
use Rattle.world_laws.specs.turn_records.Messages as parts
use Rattle.world_laws.specs.turn_records.Messages.{FieldParts, LineCall, LineGift, Part, Parts}
use Rattle.world_laws.specs.world_state.Promises.{state_of}
use Rattle.world_laws.specs.world_state.Worlds.{State, promises_made}

-- ---- paths

-- what a promise is; one that wasn't made is pending
abbrev pub promise_states : State → ℕ → StateView
promise_states w n = if nat_lt n (promises_made w) then state_of w.promises n else pending

-- why nothing stands at a path, as the refusal that shows it
abbrev pub path_refusal : List ℕ → ResolveFault → Refusal
path_refusal path UnknownName = unknown_name path
path_refusal path Pending = refusals.pending
path_refusal path (Broken n) = refusals.broken n

abbrev pub found_or_refused : List ℕ → Found → Result Tree Refusal
found_or_refused path (Ok t) = Ok t
found_or_refused path (Err fault) = Err (path_refusal path fault)

-- what stands at a path of a party's: each promise that is met, the last too, is followed
unfoldable pub value_at : State → List ℕ → List ℕ → Result Tree Refusal
value_at w party path = found_or_refused path (stands_at (promise_states w) w.labels party path)

-- an argument with what stands at its paths in their place; the first path at which nothing stands is refused
abbrev mutual
  pub resolved : State → List ℕ → Part → Result Tree Refusal
  resolved w party parts.null = Ok trees.null
  resolved w party (parts.boolean b) = Ok (trees.boolean b)
  resolved w party (parts.number z) = Ok (trees.number z)
  resolved w party (parts.text s) = Ok (trees.text s)
  resolved w party (parts.array ps) = do
    ts ← resolved_all w party ps
    Ok (trees.array ts)
  resolved w party (parts.fields fs) = do
    ts ← resolved_fields w party fs
    Ok (trees.fields ts)
  resolved w party (parts.path p) = value_at w party p

  pub resolved_all : State → List ℕ → Parts → Result Items Refusal
  resolved_all w party parts.no_parts = Ok trees.no_items
  resolved_all w party (parts.part p ps) = do
    t ← resolved w party p
    ts ← resolved_all w party ps
    Ok (trees.item t ts)

  pub resolved_fields : State → List ℕ → FieldParts → Result Fields Refusal
  resolved_fields w party parts.no_fields = Ok trees.no_fields
  resolved_fields w party (parts.field name p fs) = do
    t ← resolved w party p
    ts ← resolved_fields w party fs
    Ok (trees.field name t ts)

-- ---- messages

-- a label that is wanted isn't bound yet
abbrev pub label_is_free : State → List ℕ → Option (List ℕ) → Result (Unit {0}) Refusal
label_is_free w party None = Ok tt
label_is_free w party (Some label) =
    need (not (is_some (bound_to w.labels party label))) (name_taken label)

-- an object with the arguments of a call
pub record Addressed : Type 0 where
  pub target : Obj
  pub arguments : List Tree

-- the target and the arguments of a party's call, once all paths are resolved. What data the host holds nests at
-- most 32 deep
unfoldable pub addressed : State → LineCall → Result Addressed Refusal
addressed w c = do
  label_is_free w c.by c.label
  on ← value_at w c.by c.on
  args ← resolved_all w c.by c.arguments
  need (nat_le (items_nesting args) most_nested) (bad_field (codes "args"))
  target ← wanted (object_of on) (wrong_object 0)
  Ok (record { target = target; arguments = listed args })

-- what a party gives: the label is to be free for the receiver, and something to stand at the path
unfoldable pub gift_of : State → LineGift → Result Tree Refusal
gift_of w g = do
  label_is_free w g.to (Some g.label)
  value_at w g.by g.given

-- the target of a call that was sent: a promise is followed to what it was fulfilled with
unfoldable pub sent_to : State → Send → Result Addressed Refusal
sent_to w s = do
  on ← found_or_refused [] (followed (promise_states w) (object s.target))
  target ← wanted (object_of on) (wrong_object 0)
  Ok (record { target = target; arguments = s.arguments })
