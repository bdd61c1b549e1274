-- The target of a call that was sent is the object that is met.
use Rattle.std.proofs.Common.{◌≡◌, [], Result, Ok, Err, refl}
use Rattle.delivery_turns.specs.actors.Paths.{followed}
use Rattle.host_data.specs.Tree.{Tree, object, object_of}
use Rattle.host_data.specs.declared.data.Obj.{Obj}
use Rattle.refusals.specs.Codes.{wrong_object}
use Rattle.refusals.specs.Outcomes.{bind, wanted}
use Rattle.refusals.specs.declared.codes.Refusal.{Refusal}
use Rattle.delivery_turns.specs.turn_records.Deliveries.{Send}
use Rattle.delivery_turns.specs.world_state.Worlds.{State}
use Rattle.delivery_turns.specs.Messages.{Addressed, found_or_refused, promise_states, sent_to}
use Rattle.delivery_reads.specs.Reads.{object_met}

abbrev pub sent_as : Send → Obj → Addressed
sent_as s target = record { target = target; arguments = s.arguments }

pub sent_by : (w : State) (s : Send) → sent_to w s ≡ bind (object_met w s.target) (λ target. Ok (sent_as s target))
unfolding sent_to bind
sent_by w s = by (found_or_refused [] (followed (promise_states w) (object s.target)))
  where
    by : (r : Result Tree Refusal) → bind r (λ on. bind (wanted (object_of on) (wrong_object 0)) (λ target. Ok (sent_as s target))) ≡ bind (bind r (λ on. wanted (object_of on) (wrong_object 0))) (λ target. Ok (sent_as s target))
    by (Ok t) = refl
    by (Err e) = refl
