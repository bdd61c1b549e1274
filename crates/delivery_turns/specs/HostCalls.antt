-- What the host answers to the calls of an instance's functions: each call is told, and then has its effects.
use Rattle.std.specs.Prelude.{ℕ, List, [], ◌∷◌, Some, None, Ok, Err}
use Rattle.rules.specs.Outcomes.{Outcome}
use Rattle.rules.specs.jessie_semantics.Play.{Call, Reply, call, far, send, when}
use Rattle.rules.specs.jessie_semantics.Play as plays
use Rattle.world_laws.specs.host_data.Tree.{Fields, field, fields, function, no_fields}
use Rattle.world_laws.specs.refusals.Codes.{refusal_tree}
use Rattle.world_laws.specs.turn_records.Events as told
use Rattle.world_laws.specs.turn_rows.Kinds as hows
use Rattle.world_laws.specs.world_state.Worlds.{Effect, State, note_call}
use Rattle.rules.specs.PromisesAndFacets.{call_rule}

-- ---- how a call is told

-- the methods of a facet, as the contract wrote them
abbrev pub method_fields : List (List ℕ × List ℕ) → Fields
method_fields [] = no_fields
method_fields (m ∷ ms) = field m.0 (function m.1) (method_fields ms)

-- how, on what, which method and with which arguments, and what is answered
abbrev pub told_call : Call → told.Answer → told.Call
told_call (call target method args) answer = record {
  how = hows.calls;
  on = Some target;
  method = method;
  arguments = args;
  answer = answer;
}
told_call (send target method args) answer = record {
  how = hows.sends;
  on = Some target;
  method = method;
  arguments = args;
  answer = answer;
}
told_call (when promise f held) answer = record {
  how = hows.when;
  on = Some promise;
  method = f;
  arguments = held ∷ [];
  answer = answer;
}
told_call (far name methods held) answer = record {
  how = hows.far;
  on = None;
  method = name;
  arguments = fields (method_fields methods) ∷ held ∷ [];
  answer = answer;
}

-- ---- what a rule answers, and does

abbrev pub answer_of : Outcome → told.Answer
answer_of (Ok (answer, effects)) = told.given answer
answer_of (Err r) = told.refused r

abbrev pub effects_of : Outcome → List Effect
effects_of (Ok (answer, effects)) = effects
effects_of (Err r) = []

-- a refusal is the data that is thrown
abbrev pub reply_of : Outcome → Reply
reply_of (Ok (answer, effects)) = plays.given answer
reply_of (Err r) = plays.refused (refusal_tree r)

-- the call is told, refused or not, and then has its effects
abbrev pub told_effects : Call → Outcome → List Effect
told_effects c row = note_call (told_call c (answer_of row)) ∷ effects_of row

-- what the host answers to a call of the instance's, and what is done
abbrev pub call_reply : State → ℕ → Call → Reply
call_reply w i c = reply_of (call_rule w i c)

abbrev pub call_effects : State → ℕ → Call → List Effect
call_effects w i c = told_effects c (call_rule w i c)
