-- A call of what the instance may name is answered with what it may name, and what it might name it may name after it.
use Rattle.std.proofs.Common.{inl, inr, Some, subst, sym, ℕ}
use Rattle.delivery_laws.proofs.rule_laws.Forms.{object_formed}
use Rattle.delivery_laws.proofs.Asking.{reply_so}
use Rattle.delivery_laws.proofs.Knowing.{within_of}
use Rattle.delivery_laws.proofs.Runs.{all_grow, grows_itself}
use Rattle.delivery_laws.specs.delivery_turns.HostCalls.{call_effects, call_reply}
use Rattle.world_effects.specs.host_world.Worlds.{world_of}
use Rattle.world_effects.specs.host_world.declared.World.{World}
use Rattle.jessie_machine.specs.jessie_semantics.Keeping.{Reference, ReplyHas, Within, to_function, to_object}
use Rattle.jessie_machine.specs.jessie_semantics.Play.{Call, Reply}
use Rattle.world_effects.proofs.world_laws.Forms.{formed_grows, function_grows}
use Rattle.world_effects.specs.world_state.Known.{Grows, IsKnownTo}
use Rattle.world_effects.specs.world_state.Worlds.{State}
use Rattle.contract_powers.specs.CallReplies.{IsCallAnswered}
use Rattle.contract_powers.specs.Situations.{MayName}

-- whatever was answered, the world has grown
pub answered_grows : (old new : World) (i : ℕ) (c : Call) (reply : Reply) → IsCallAnswered old new i c reply → Grows (world_of old) (world_of new)
answered_grows old new i c reply (inl done) = subst (λ (w : State). Grows (world_of old) w) (sym done.carried.world) (all_grow (world_of old) (call_effects (world_of old) i c))
answered_grows old new i c reply (inr stray) = subst (λ (w : World). Grows (world_of old) (world_of w)) (sym stray.same) (grows_itself (world_of old))

name_grows : (v w : State) (i : ℕ) → Grows v w → (r : Reference) → MayName v i r → MayName w i r
name_grows v w i grows (to_object o) known = (formed_grows v w grows (Some i) _ (object_formed v (Some i) o known)).objects
name_grows v w i grows (to_function f) known = function_grows v w grows i f known

pub reply_known : (old new : World) (i : ℕ) (c : Call) (reply : Reply) → IsCallAnswered old new i c reply → ReplyHas (Within (MayName (world_of new) i)) reply
reply_known old new i c reply (inl done) =
    let known = subst (λ (w : State). ReplyHas (IsKnownTo w i) (call_reply (world_of old) i c)) (sym done.carried.world) done.work.known in
    subst (λ (r : Reply). ReplyHas (Within (MayName (world_of new) i)) r) (sym done.replied) (reply_so (within_of (world_of new) i) (call_reply (world_of old) i c) known)
reply_known old new i c reply (inr stray) = subst (λ (r : Reply). ReplyHas (Within (MayName (world_of new) i)) r) (sym stray.replied) tt

-- what the instance might name it may name after it
pub names_grow : (old new : World) (i : ℕ) (c : Call) (reply : Reply) → IsCallAnswered old new i c reply → (r : Reference) → MayName (world_of old) i r → MayName (world_of new) i r
names_grow old new i c reply is = name_grows (world_of old) (world_of new) i (answered_grows old new i c reply is)
