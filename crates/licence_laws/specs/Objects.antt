-- That a function names only what it was handed: what its instance kept, what came with the turn's delivery, and what
-- the host answered to its calls so far.
use Rattle.std.specs.Prelude.{ℕ, List, [], ◌∷◌, ◌++◌, IfSome}
use Rattle.fair_laws.specs.actors.Tables.{instance_at}
use Rattle.fair_laws.specs.jessie_semantics.Keeping.{AllHave, Handed, OccursAny, Within}
use Rattle.fair_laws.specs.world_state.host_data.Tree.{Tree}
use Rattle.fair_laws.specs.world_state.refusals.Codes.{refusal_tree}
use Rattle.fair_laws.specs.world_state.turn_records.Events.{Answer, Call, Event, called, given}
use Rattle.fair_laws.specs.world_state.turn_records.Events.{refused}
use Rattle.fair_laws.specs.world_state.turn_records.Events.{spent, threw}
use Rattle.fair_laws.specs.world_state.turn_records.Turns.{Turn}
use Rattle.fair_laws.specs.world_state.Worlds.{State}
use Rattle.licence_laws.specs.Came.{brought}
use Rattle.licence_laws.specs.Kept.{kept_trees}

-- each object in the data stands in what was handed
abbrev pub NamesOnly : List Tree → Tree → Type 0
NamesOnly handed t = Within (Handed handed) t

-- so do the target of a call and each object in its arguments
pub record CallNamesOnly (handed : List Tree) (c : Call) : Type 0 where
  pub target : IfSome c.on (λ o. OccursAny o handed)
  pub arguments : AllHave (NamesOnly handed) c.arguments

-- what the answer of a call hands to the function; a refusal is thrown to it as data
abbrev pub answer_trees : Answer → List Tree
answer_trees (given t) = t ∷ []
answer_trees (refused r) = refusal_tree r ∷ []
answer_trees (threw t) = []
answer_trees (spent meter) = []

-- each call names what was handed before it, the answers of the calls before it among that
abbrev pub CallsNameOnly : List Tree → List Event → Type 0
CallsNameOnly handed [] = Unit {0}
CallsNameOnly handed (called c ∷ es) =
    CallNamesOnly handed c × CallsNameOnly (handed ++ answer_trees c.answer) es
CallsNameOnly handed (_ ∷ es) = CallsNameOnly handed es

-- the answers of all calls
abbrev pub answers_in : List Event → List Tree
answers_in [] = []
answers_in (called c ∷ es) = answer_trees c.answer ++ answers_in es
answers_in (_ ∷ es) = answers_in es

-- what the turn's result, or what was thrown, names
abbrev pub ResultNamesOnly : List Tree → Answer → Type 0
ResultNamesOnly handed (given t) = NamesOnly handed t
ResultNamesOnly handed (threw t) = NamesOnly handed t
ResultNamesOnly handed (refused r) = Unit {0}
ResultNamesOnly handed (spent meter) = Unit {0}

-- what is handed before the first call, and by the turn's end
abbrev pub handed_at_first : State → Turn → ℕ → List Tree
handed_at_first w t i = kept_trees w i ++ brought w t.delivery t.reading

abbrev pub handed_in_all : State → Turn → ℕ → List Tree
handed_in_all w t i = handed_at_first w t i ++ answers_in t.events

-- of the turn of an instance's function, from one world to the next
pub record NamesWhatWasHanded (w new : State) (t : Turn) (i : ℕ) : Type 0 where
  -- the calls that it made, each from what was handed before it
  pub calls : CallsNameOnly (handed_at_first w t i) t.events
  -- its result
  pub result_given : ResultNamesOnly (handed_in_all w t i) t.answer
  -- and the state values that it left
  pub state : AllHave (NamesOnly (handed_in_all w t i)) (instance_at new.tables.instances i).state
