-- Whether an instance may name all that a call of its functions names, as a test that computes.
use Rattle.std.specs.Prelude.{ℕ, ◌&&◌, Bool, true, List, [], ◌∷◌}
use Rattle.jessie_machine.specs.jessie_semantics.Keeping.{method_fields}
use Rattle.jessie_machine.specs.jessie_semantics.Play.{Call, call, far, send, when}
use Rattle.refusals.specs.host_data.Tree.{Tree, fields, function, object}
use Rattle.jessie_machine.specs.jessie_values.Requests.{is_promise}
use Rattle.world_effects.specs.world_reads.Tests.{all_pass}
use Rattle.world_effects.specs.world_state.Worlds.{State}

-- all that the call shows: its target or promise, the functions that it names, and its arguments
abbrev pub shown : Call → List Tree
shown (call o m args) = object o ∷ args
shown (send o m args) = object o ∷ args
shown (when o f held) = object o ∷ function f ∷ held ∷ []
shown (far x ms held) = fields (method_fields ms) ∷ held ∷ []

-- what is asked of `when` is a promise
abbrev pub asks_rightly : Call → Bool
asks_rightly (when o f held) = is_promise o.kind
asks_rightly _ = true

abbrev pub call_passes : State → ℕ → Call → Bool
call_passes w i c = asks_rightly c && all_pass w i (shown c)
