-- How a turn ends, whatever was delivered: its promise is settled, seats are left, a label is bound, and all
-- staging ends (Zoe; eventual send; that staging ends with the turn is our own).
use Rattle.std.specs.Prelude.{ℕ, ◌==◌, false, Bool, List, [], ◌∷◌, ◌++◌, Option, Some, None, codes}
use Rattle.std.specs.Prelude.{if◌then◌else◌}
use Rattle.std.specs.Option.{option_map_or}
use Rattle.world_laws.specs.host_data.Tree.{Tree}
use Rattle.world_laws.specs.promise_store.States.{SettlementView, broken}
use Rattle.world_laws.specs.promise_store.declared.links.Following.{Following}
use Rattle.world_laws.specs.refusals.Codes.{promise_cycle, refusal_tree}
use Rattle.world_laws.specs.turn_records.Settlements.{part, settled_after}
use Rattle.world_laws.specs.turn_records.Deliveries as deliveries
use Rattle.world_laws.specs.turn_records.Deliveries.{Delivery, promise_of}
use Rattle.world_laws.specs.turn_records.Events.{Answer, given, threw}
use Rattle.world_laws.specs.turn_rows.Causes as causes
use Rattle.world_laws.specs.world_state.Promises.{target_of}
use Rattle.world_laws.specs.world_state.Worlds.{Effect, State, bind_label, end_staging, publish, resolve}
use Rattle.delivery_turns.specs.Tasks.{exit_if_open, halt_with}

-- ---- promises

-- the promise at the end of what a promise follows. Each that came to follow one followed none before
abbrev pub last_followed : List Following → ℕ → ℕ
last_followed [] n = n
last_followed (f ∷ fs) n =
    if last_followed fs n == f.promise then last_followed fs f.target else last_followed fs n

-- a promise, which follows none, would follow itself
abbrev pub leads_back : List Following → ℕ → SettlementView → Bool
leads_back fs p v = option_map_or (λ q. last_followed fs q == p) (target_of v) false

-- then it is broken
abbrev pub without_cycle : List Following → ℕ → SettlementView → SettlementView
without_cycle fs p v = if leads_back fs p v then broken (refusal_tree (promise_cycle p)) else v

abbrev pub settles : List Following → Option ℕ → SettlementView → List Effect
settles fs None v = []
settles fs (Some p) v = resolve p (without_cycle fs p v) ∷ []

-- ---- the parts of a turn's end

-- what a start gives as its public facet is kept
abbrev pub publishes : Delivery → Answer → List Effect
publishes (deliveries.start s) (given v) = publish s.instance (part (codes "publicFacet") v) ∷ []
publishes _ a = []

-- the seat of a handler that threw is left; an instance whose start threw halts
abbrev pub departs : Delivery → Answer → State → List Effect
departs (deliveries.offer o) (threw t) w = exit_if_open w o.seat causes.threw
departs (deliveries.start s) (threw t) w = halt_with causes.halted w s.instance
departs _ a w = []

-- where a call is answered, the label that its party wants is bound to the answer
abbrev pub binds_to : List ℕ → Option (List ℕ) → Tree → List Effect
binds_to party None t = []
binds_to party (Some label) t = bind_label party label t ∷ []

abbrev pub binds : Delivery → Answer → List Effect
binds (deliveries.call c) (given t) = binds_to c.by c.label t
binds _ a = []

-- in this order, from the world that the turn has come to
unfoldable pub ending : Delivery → Answer → State → List Effect
ending d a w =
    publishes d a
    ++ (settles w.promises.follows (promise_of d) (settled_after d a)
    ++ (departs d a w
    ++ (binds d a
    ++ end_staging ∷ [])))
