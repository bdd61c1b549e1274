-- What a function of a contract asks of the host beside methods: sends, `when` on a promise, and Far, which makes a
-- facet; and what each of its calls comes to (eventual send; Endo's Far).
use Rattle.std.specs.Prelude.{ℕ, ◌||◌, not, List, [], ◌∷◌, length, Ok}
use Rattle.call_arguments.specs.host_data.Tree.{Tree, some_local, stays}
use Rattle.call_arguments.specs.host_data.Values.{object_tree}
use Rattle.call_arguments.specs.host_data.View.{items_of}
use Rattle.call_arguments.specs.host_data.declared.data.Obj.{Obj}
use Rattle.call_arguments.specs.host_data.declared.data.ObjKind.TheVariants as kinds
use Rattle.call_arguments.specs.refusals.Codes.{local_only}
use Rattle.call_arguments.specs.refusals.Outcomes.{◌>>=◌, ◌>>◌, need}
use Rattle.rearrange.specs.ertp_mint.Stocks.{most_made}
use Rattle.world_state.specs.Worlds as worlds
use Rattle.world_state.specs.Worlds.{State, make_facet, promises_made}
use Rattle.world_state.specs.jessie_semantics.Play.{Call, call, far, send, when}
use Rattle.rules.specs.Methods.{serve_own}
use Rattle.rules.specs.Outcomes.{Outcome}
use Rattle.rules.specs.Words.{next_of}

-- E(target).method(args): what stays with its instance can't be sent, nor be sent to
unfoldable pub send_rule : State → ℕ → Obj → List ℕ → List Tree → Outcome
send_rule w i target method args = do
  need (not (stays target.kind || some_local (items_of args))) local_only
  promise ← next_of (promises_made w) most_made
  Ok (object_tree kinds.Promise promise, worlds.send i target method args ∷ [])

-- when(promise, function, held)
unfoldable pub when_rule : State → ℕ → Obj → List ℕ → Tree → Outcome
when_rule w i promise f held = do
  answer ← next_of (promises_made w) most_made
  Ok (object_tree kinds.Promise answer, worlds.when i promise.number f held ∷ [])

-- Far(name, methods, held)
unfoldable pub far_rule : State → ℕ → List (List ℕ × List ℕ) → Tree → Outcome
far_rule w i methods held = do
  facet ← next_of (length w.facets) most_made
  let made = make_facet (record { instance = i; methods = methods; held = held })
  Ok (object_tree kinds.Facet facet, made ∷ [])

-- what a call of an instance's function comes to
abbrev pub call_rule : State → ℕ → Call → Outcome
call_rule w i (call target method args) = serve_own w target method args
call_rule w i (send target method args) = send_rule w i target method args
call_rule w i (when promise f held) = when_rule w i promise f held
call_rule w i (far name methods held) = far_rule w i methods held
