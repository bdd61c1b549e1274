-- What `when` and `Far` ask of their arguments, before the host is asked.
use Rattle.std.specs.Prelude.{ℕ, List, [], ◌∷◌, length, nat_le, Bool, true, false, ◌&&◌, Option, Some, None, option_map, option_and_then, Result, Ok, if◌then◌else◌}
use Rattle.host_data.specs.Tree.{Tree, object_of, text_of, function_of, pairs_of}
use Rattle.host_data.specs.declared.data.Obj.{Obj}
use Rattle.host_data.specs.declared.data.ObjKind.{ObjKind}
use Rattle.host_data.specs.declared.data.ObjKind.TheVariants.{Promise}
use Rattle.jessie_values.specs.declared.reasons.Reason.{Reason}
use Rattle.jessie_values.specs.BuiltIns.{first, second, third}
use Rattle.jessie_values.specs.Outcomes.{◌>>=◌, of_kind}

-- a promise, the function that is to hear of it, and data for the function
pub record WhenCall : Type 0 where
  pub promise : Obj
  pub function : List ℕ
  pub held : Tree

-- a name, the methods each with its function, and data for the functions
pub record FarCall : Type 0 where
  pub name : List ℕ
  pub methods : List (List ℕ × List ℕ)
  pub held : Tree

abbrev pub is_promise : ObjKind → Bool
is_promise Promise = true
is_promise _ = false

abbrev pub promise_of : Tree → Option Obj
promise_of v = option_and_then (λ o. if is_promise o.kind then Some o else None) (object_of v)

-- a text of 1 to 64 bytes
abbrev pub facet_name : Tree → Option (List ℕ)
facet_name v = option_and_then (λ t. if nat_le 1 (length t) && nat_le (length t) 64 then Some t else None) (text_of v)

-- a record of functions
abbrev pub functions_in : List (List ℕ × Tree) → Option (List (List ℕ × List ℕ))
functions_in [] = Some []
functions_in (m ∷ ms) = option_and_then (λ f. option_map (λ fs. (m.0, f) ∷ fs) (functions_in ms)) (function_of m.1)

abbrev pub methods_of : Tree → Option (List (List ℕ × List ℕ))
methods_of v = option_and_then functions_in (pairs_of v)

-- `when(promise, function, data)`
abbrev pub when_call : List Tree → Result WhenCall Reason
when_call vs = do
  promise ← of_kind (promise_of (first vs))
  f ← of_kind (function_of (second vs))
  Ok (record { promise = promise; function = f; held = third vs })

-- `Far(name, methods, data)`
abbrev pub named_far : Option (List ℕ) → Option (List (List ℕ × List ℕ)) → Tree → Result FarCall Reason
named_far name methods held = do
  x ← of_kind name
  ms ← of_kind methods
  Ok (record { name = x; methods = ms; held = held })

abbrev pub far_of : Tree → Tree → Tree → Result FarCall Reason
far_of name methods held = named_far (facet_name name) (methods_of methods) held

abbrev pub far_call : List Tree → Result FarCall Reason
far_call vs = far_of (first vs) (second vs) (third vs)
