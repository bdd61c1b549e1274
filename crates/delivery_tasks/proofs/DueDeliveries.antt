-- What is known of the delivery that waits in front of a good world.
use Rattle.std.specs.Prelude.{IfOk}
use Rattle.std.proofs.Common.{◌≡◌, ℕ, ◌<◌, Result, Ok, length, subst}
use Rattle.delivery_turns.specs.actors.Facets.{facet_at, no_facet}
use Rattle.host_data.specs.Tree.{object}
use Rattle.host_data.specs.declared.data.Obj.{Obj}
use Rattle.host_data.specs.declared.data.ObjKind.TheVariants.{Facet}
use Rattle.refusals.specs.declared.codes.Refusal.{Refusal}
use Rattle.delivery_turns.specs.turn_records.Deliveries.{Send, call, send}
use Rattle.delivery_turns.specs.turn_records.Messages.{LineCall}
use Rattle.delivery_turns.specs.world_state.Good.{IsFacet, IsGoodWorld}
use Rattle.delivery_turns.specs.world_state.Known.{IsHanded, made_as}
use Rattle.delivery_turns.specs.world_state.Worlds.{State, in_front}
use Rattle.delivery_turns.proofs.world_laws.Fronts.{due_behind, good_behind}
use Rattle.delivery_turns.proofs.world_laws.Lists.{all_read}
use Rattle.delivery_turns.specs.Messages.{Addressed, addressed, sent_to}
use Rattle.delivery_laws.proofs.Reading.{IsAddressed, IsCalled, addressed_there, sent_there}

ok_has : {A : Type 0} (P : A → Type 0) (r : Result A Refusal) (x : A) → IfOk r P → r ≡ Ok x → P x
ok_has P r x h e = subst (λ (s : Result _ Refusal). IfOk s P) e h

-- the targets of calls can be handed out
pub call_target : (w : State) (c : LineCall) (a : Addressed) → IsGoodWorld (in_front (call c) w) → addressed w c ≡ Ok a → IsHanded w (object a.target)
call_target w c a good e =
    (ok_has (IsCalled w (good_behind w (call c) good) c) (addressed w c) a (addressed_there w (good_behind w (call c) good) c (due_behind w (call c) good)) e).addressed_to.target

pub send_target : (w : State) (s : Send) (a : Addressed) → IsGoodWorld (in_front (send s) w) → sent_to w s ≡ Ok a → IsHanded w (object a.target)
send_target w s a good e =
    (ok_has (IsAddressed w (good_behind w (send s) good)) (sent_to w s) a (sent_there w (good_behind w (send s) good) s (due_behind w (send s) good)) e).target

-- a facet that can be handed out was made, and its instance too
pub facet_made : (w : State) (o : Obj) → IsHanded w (object o) → o.kind ≡ Facet → o.number < length w.facets
facet_made w o handed is = subst (λ k. made_as w k o.number) is handed.objects

pub facet_placed : (w : State) (n : ℕ) → IsGoodWorld w → n < length w.facets → (facet_at w.facets n).instance < length w.tables.instances
facet_placed w n good made = (all_read (IsFacet w) w.facets n no_facet good.facets made).made
