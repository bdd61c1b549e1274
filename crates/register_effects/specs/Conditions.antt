-- What effects that touch no rights ask of the stores.
use Rattle.std.specs.Prelude.{◌≡◌, ℕ, ◌<◌, List, IfSome, length}
use Rattle.world_reads.specs.call_outcomes.declared.effects.InstancesEffect.{InstancesEffect}
use Rattle.world_reads.specs.call_outcomes.declared.effects.InstancesEffect.TheVariants as instances
use Rattle.world_reads.specs.call_outcomes.declared.effects.PromisesEffect.{PromisesEffect}
use Rattle.world_reads.specs.call_outcomes.declared.effects.PromisesEffect.TheVariants as promises
use Rattle.world_laws.specs.actors.Tables.{InstanceView, instance_at}
use Rattle.world_reads.specs.registers.RegisterStates.{RegisterState}
use Rattle.world_laws.specs.promise_store.States.{SettlementView, settlement_view}
use Rattle.world_laws.specs.world_state.Promises.{IsPending, PromiseBook, target_of}
use Rattle.register_effects.specs.StoreEffects.{promises_in}

-- a promise is pending, and the promise that a settlement names was made
pub record CanSettle (b : PromiseBook) (n : ℕ) (v : SettlementView) : Type 0 where
  pub pending : IsPending b n
  pub target : IfSome (target_of v) (λ target. target < length b.settled)

abbrev pub CanPromises : RegisterState → PromisesEffect → Type 0
CanPromises p (promises.Resolve n s) = CanSettle p.promises n (settlement_view s)
CanPromises p (promises.When a) = a.promise < promises_in p
CanPromises p _ = Unit {0}

-- an instance was made, and there are as many values as it has
pub record CanReplace (xs : List InstanceView) (i n : ℕ) : Type 0 where
  pub made : i < length xs
  pub as_many : n ≡ length (instance_at xs i).state

abbrev pub CanInstances : RegisterState → InstancesEffect → Type 0
CanInstances p (instances.Install m) = Unit {0}
CanInstances p (instances.Start s) = s.installation < length p.tables.installations
CanInstances p (instances.AddIssuer i keyword brand) = i < length p.tables.instances
CanInstances p (instances.Publish i facet) = i < length p.tables.instances
CanInstances p (instances.KeepState i values) = CanReplace p.tables.instances i (length values.items)
CanInstances p (instances.Stop i) = i < length p.tables.instances
CanInstances p (instances.Halt i) = i < length p.tables.instances
