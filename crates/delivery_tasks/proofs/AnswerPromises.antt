-- A promise that is answered was made, and the promise of the delivery in front is pending.
use Rattle.std.specs.Prelude.{IfSome, cond}
use Rattle.std.proofs.Common.{◌≡◌, ℕ, ◌<◌, Some, None, length}
use Rattle.delivery_laws.specs.Works.{IsOut}
use Rattle.host_data.specs.Tree as trees
use Rattle.host_data.specs.Tree.{Tree}
use Rattle.host_data.specs.declared.data.ObjKind.{ObjKind}
use Rattle.host_data.specs.declared.data.ObjKind.TheVariants as kinds
use Rattle.delivery_turns.specs.promise_store.States.{is_promise_kind, ok}
use Rattle.delivery_turns.specs.turn_records.Settlements.{settled_after}
use Rattle.delivery_turns.specs.turn_records.Deliveries as deliveries
use Rattle.delivery_turns.specs.turn_records.Deliveries.{Delivery, promise_of}
use Rattle.delivery_turns.specs.turn_records.Events.{Answer, given, refused, spent, threw}
use Rattle.delivery_turns.proofs.world_laws.Fronts.{in_hand}
use Rattle.delivery_turns.specs.world_state.Good.{IsGoodWorld}
use Rattle.delivery_turns.specs.world_state.Known.{IsHanded, made_as}
use Rattle.delivery_turns.specs.world_state.Promises.{IsPending, target_of}
use Rattle.delivery_turns.specs.world_state.Worlds.{State, in_front}

kind_made : (w : State) (kind : ObjKind) (n : ℕ) → made_as w kind n → IfSome (cond (is_promise_kind kind) (Some n) None) (λ q. q < length w.promises.settled)
kind_made w kinds.Promise n made = made
kind_made w kinds.Ertp n made = tt
kind_made w kinds.Zoe n made = tt
kind_made w kinds.Timer n made = tt
kind_made w (kinds.Brand k) n made = tt
kind_made w kinds.Issuer n made = tt
kind_made w kinds.Mint n made = tt
kind_made w kinds.Purse n made = tt
kind_made w kinds.Deposit n made = tt
kind_made w kinds.Payment n made = tt
kind_made w kinds.Installation n made = tt
kind_made w kinds.Instance n made = tt
kind_made w kinds.Zcf n made = tt
kind_made w kinds.Seat n made = tt
kind_made w kinds.Zseat n made = tt
kind_made w kinds.Zmint n made = tt
kind_made w kinds.Facet n made = tt

handed_made : (w : State) (t : Tree) → IsHanded w t → IfSome (target_of (ok t)) (λ q. q < length w.promises.settled)
handed_made w (trees.object o) is = kind_made w o.kind o.number is.objects
handed_made w trees.null is = tt
handed_made w (trees.boolean b) is = tt
handed_made w (trees.number z) is = tt
handed_made w (trees.text s) is = tt
handed_made w (trees.array ts) is = tt
handed_made w (trees.fields fs) is = tt
handed_made w (trees.function f) is = tt

given_made : (w : State) (d : Delivery) (t : Tree) → IsHanded w t → IfSome (target_of (settled_after d (given t))) (λ q. q < length w.promises.settled)
given_made w (deliveries.start s) t is = tt
given_made w (deliveries.call c) t is = handed_made w t is
given_made w (deliveries.give g) t is = handed_made w t is
given_made w (deliveries.tick n) t is = handed_made w t is
given_made w (deliveries.bad r) t is = handed_made w t is
given_made w (deliveries.send s) t is = handed_made w t is
given_made w (deliveries.offer o) t is = handed_made w t is
given_made w (deliveries.wake d) t is = handed_made w t is
given_made w (deliveries.notify n) t is = handed_made w t is
given_made w (deliveries.deadline s) t is = handed_made w t is

-- the promise that the delivery's is to follow was made
pub target_there : (w : State) (d : Delivery) (a : Answer) → IsOut w a → IfSome (target_of (settled_after d a)) (λ q. q < length w.promises.settled)
target_there w d (given t) out = given_made w d t out
target_there w d (refused r) out = tt
target_there w d (threw t) out = tt
target_there w d (spent n) out = tt

pub front_pending : (w : State) (d : Delivery) (p : ℕ) → IsGoodWorld (in_front d w) → promise_of d ≡ Some p → IsPending w.promises p
front_pending w d p good is = (in_hand w d p good is).pending
