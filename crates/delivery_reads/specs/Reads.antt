-- What is read for a message, of labels and promises alone.
use Rattle.std.specs.Prelude.{ℕ, ◌+◌, List, [], length, map, Result}
use Rattle.delivery_turns.specs.actors.Turns.{parties_of}
use Rattle.delivery_turns.specs.actors.declared.Parties.{Parties}
use Rattle.delivery_turns.specs.Messages.{found_or_refused, promise_states}
use Rattle.delivery_turns.specs.actors.Paths.{followed, fulfilled}
use Rattle.host_data.specs.Tree.{object, object_of}
use Rattle.host_data.specs.declared.data.Obj.{Obj}
use Rattle.delivery_turns.specs.world_laws.First.{first_world}
use Rattle.registers.specs.Tables.{book}
use Rattle.registers.specs.declared.promise_table.table.PromiseTable.{PromiseTable}
use Rattle.refusals.specs.Codes.{wrong_object}
use Rattle.refusals.specs.Outcomes.{◌>>=◌, wanted}
use Rattle.refusals.specs.declared.codes.Refusal.{Refusal}
use Rattle.delivery_turns.specs.turn_records.Views.{part_view}
use Rattle.delivery_turns.specs.turn_records.declared.messages.Part as code
use Rattle.delivery_turns.specs.turn_records.Messages as parts
use Rattle.delivery_turns.specs.turn_records.Messages.{Part}
use Rattle.delivery_turns.specs.world_state.Worlds.{State}

-- ---- worlds of labels and promises alone, which are all of a world that is read for a message

abbrev pub labels_in : Parties → State
labels_in parties = record first_world { labels = (parties_of parties).now }

abbrev pub promises_in : PromiseTable → State
promises_in promises = record first_world { promises = book promises }

abbrev pub read_in : Parties → PromiseTable → State
read_in parties promises = record first_world { labels = (parties_of parties).now; promises = book promises }

-- ---- what is read

-- what named parts of the code stand for
abbrev pub named_views : List (List ℕ × code.Part) → List (List ℕ × Part)
named_views fs = map (λ f. (f.0, part_view f.1)) fs

-- What a part counts itself, beside the parts and names within it. What stands at a path counts for the path.
abbrev pub own_size : Part → ℕ
own_size (parts.text s) = 1 + length s
own_size (parts.path p) = 0
own_size _ = 1

-- the object that a promise was fulfilled with
abbrev pub object_of_promise : State → ℕ → Result Obj Refusal
object_of_promise w n =
    found_or_refused [] (fulfilled n (promise_states w n)) >>= (λ on. wanted (object_of on) (wrong_object 0))

-- an object, or the one that the promise that it is was fulfilled with
abbrev pub object_met : State → Obj → Result Obj Refusal
object_met w o =
    found_or_refused [] (followed (promise_states w) (object o)) >>= (λ on. wanted (object_of on) (wrong_object 0))
