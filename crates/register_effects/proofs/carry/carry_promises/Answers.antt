use Rattle.std.proofs.Common.{OnOk, subst, sym}
use Rattle.world_reads.specs.call_outcomes.Views.{promises_view}
use Rattle.world_reads.specs.call_outcomes.declared.effects.PromisesEffect.{PromisesEffect}
use Rattle.register_effects.specs.StoreEffects.{Becomes}
use Rattle.register_effects.proofs.carry.carry_promises.Goals as goal

pub returns-in-Resolve-clause-ok : goal.returns-in-Resolve-clause-ok
returns-in-Resolve-clause-ok c = subst (λ (e : PromisesEffect). OnOk c.resolve.result (Becomes c.args.stores.now c.resolve.new.stores (promises_view e))) (sym c.in-Resolve.is) c.resolve.ensures.ok

pub returns-in-Send-clause-ok : goal.returns-in-Send-clause-ok
returns-in-Send-clause-ok c = subst (λ (e : PromisesEffect). OnOk c.send.result (Becomes c.args.stores.now c.send.new.stores (promises_view e))) (sym c.in-Send.is) c.send.ensures.ok

pub returns-in-When-clause-ok : goal.returns-in-When-clause-ok
returns-in-When-clause-ok c = subst (λ (e : PromisesEffect). OnOk c.when.result (Becomes c.args.stores.now c.when.new.stores (promises_view e))) (sym c.in-When.is) c.when.ensures.ok

pub returns-in-Wake-clause-ok : goal.returns-in-Wake-clause-ok
returns-in-Wake-clause-ok c = subst (λ (e : PromisesEffect). OnOk c.wake.result (Becomes c.args.stores.now c.wake.new.stores (promises_view e))) (sym c.in-Wake.is) c.wake.ensures.ok

pub returns-in-SetTime-clause-ok : goal.returns-in-SetTime-clause-ok
returns-in-SetTime-clause-ok c = subst (λ (e : PromisesEffect). OnOk c.set_time.result (Becomes c.args.stores.now c.set_time.new.stores (promises_view e))) (sym c.in-SetTime.is) c.set_time.ensures.ok
