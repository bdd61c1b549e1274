use Rattle.std.proofs.Common.{OnOk, subst, sym}
use Rattle.world_reads.specs.call_outcomes.Views.{instances_view}
use Rattle.world_reads.specs.call_outcomes.declared.effects.InstancesEffect.{InstancesEffect}
use Rattle.register_effects.specs.StoreEffects.{Becomes}
use Rattle.register_effects.proofs.carry.carry_instances.Goals as goal

pub returns-in-Install-clause-ok : goal.returns-in-Install-clause-ok
returns-in-Install-clause-ok c = subst (λ (e : InstancesEffect). OnOk c.install.result (Becomes c.args.stores.now c.install.new.stores (instances_view e))) (sym c.in-Install.is) c.install.ensures.ok

pub returns-in-Start-clause-ok : goal.returns-in-Start-clause-ok
returns-in-Start-clause-ok c = subst (λ (e : InstancesEffect). OnOk c.start.result (Becomes c.args.stores.now c.start.new.stores (instances_view e))) (sym c.in-Start.is) c.start.ensures.ok

pub returns-in-AddIssuer-clause-ok : goal.returns-in-AddIssuer-clause-ok
returns-in-AddIssuer-clause-ok c = subst (λ (e : InstancesEffect). OnOk c.enter_issuer.result (Becomes c.args.stores.now c.enter_issuer.new.stores (instances_view e))) (sym c.in-AddIssuer.is) c.enter_issuer.ensures.ok

pub returns-in-Publish-clause-ok : goal.returns-in-Publish-clause-ok
returns-in-Publish-clause-ok c = subst (λ (e : InstancesEffect). OnOk c.publish.result (Becomes c.args.stores.now c.publish.new.stores (instances_view e))) (sym c.in-Publish.is) c.publish.ensures.ok

pub returns-in-KeepState-clause-ok : goal.returns-in-KeepState-clause-ok
returns-in-KeepState-clause-ok c = subst (λ (e : InstancesEffect). OnOk c.keep_state.result (Becomes c.args.stores.now c.keep_state.new.stores (instances_view e))) (sym c.in-KeepState.is) c.keep_state.ensures.ok

pub returns-in-Stop-clause-ok : goal.returns-in-Stop-clause-ok
returns-in-Stop-clause-ok c = subst (λ (e : InstancesEffect). OnOk c.stop.result (Becomes c.args.stores.now c.stop.new.stores (instances_view e))) (sym c.in-Stop.is) c.stop.ensures.ok

pub returns-in-Halt-clause-ok : goal.returns-in-Halt-clause-ok
returns-in-Halt-clause-ok c = subst (λ (e : InstancesEffect). OnOk c.halt.result (Becomes c.args.stores.now c.halt.new.stores (instances_view e))) (sym c.in-Halt.is) c.halt.ensures.ok
