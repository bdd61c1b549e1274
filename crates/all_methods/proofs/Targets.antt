-- The target of a call that an instance may make was made, and its arguments are known to the instance.
use Rattle.std.proofs.Common.{◌≡◌, ℕ, ◌<◌, List, length, Some, ap, sym, subst, arith}
use Rattle.zseat_calls.specs.contract_reads.Calls.{IsSeatCall}
use Rattle.zseat_calls.specs.contract_reads.Known.{AreKnown}
use Rattle.host_data.specs.Tree.{Tree}
use Rattle.host_data.specs.declared.data.Obj.{Obj}
use Rattle.host_data.specs.declared.data.ObjKind.{ObjKind}
use Rattle.host_data.specs.declared.data.ObjKind.TheVariants as kinds
use Rattle.rules.specs.Zmint.{instance_of, minting}
use Rattle.rules.specs.Obligations.{CanCall}
use Rattle.rules.specs.world_state.Known.{IsMadeBy, IsSeatOf, known_as}
use Rattle.rules.specs.world_state.Worlds.{State, of_instance}

module _ (w : State) (i : ℕ) (o : Obj) (args : List Tree) (call : CanCall w (Some i) o args) where
  at_kind : (kind : ObjKind) → o.kind ≡ kind → known_as i w kind o.number
  at_kind kind is = subst (λ (k : ObjKind). known_as i w k o.number) is call.target

  pub args_known : AreKnown w args
  args_known = record { caller = i; each = call.arguments }

  pub zcf_made : o.kind ≡ kinds.Zcf → o.number < length w.tables.instances
  zcf_made is = omega (arith, at_kind kinds.Zcf is, call.hosted)

  pub zseat_call : o.kind ≡ kinds.Zseat → IsSeatCall w o.number args
  zseat_call is =
      let of : IsSeatOf w.seats i o.number = at_kind kinds.Zseat is in
      record { good = call.good; made = of.made; known = args_known }

  zmint_of : o.kind ≡ kinds.Zmint → IsMadeBy w.makers (of_instance i) o.number
  zmint_of is = at_kind kinds.Zmint is

  pub zmint_made : o.kind ≡ kinds.Zmint → o.number < length w.makers
  zmint_made is = (zmint_of is).made

  pub zmint_hosted : o.kind ≡ kinds.Zmint → minting w o.number < length w.tables.instances
  zmint_hosted is = subst (λ n. n < length w.tables.instances) (sym (ap instance_of (zmint_of is).is)) call.hosted
