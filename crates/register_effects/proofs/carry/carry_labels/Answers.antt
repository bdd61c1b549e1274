use Rattle.std.proofs.Common.{OnOk, subst, sym}
use Rattle.world_reads.specs.call_outcomes.Views.{labels_view}
use Rattle.world_reads.specs.call_outcomes.declared.effects.LabelsEffect.{LabelsEffect}
use Rattle.register_effects.specs.StoreEffects.{Becomes}
use Rattle.register_effects.proofs.carry.carry_labels.Goals as goal

pub returns-in-MakeFacet-clause-ok : goal.returns-in-MakeFacet-clause-ok
returns-in-MakeFacet-clause-ok c = subst (λ (e : LabelsEffect). OnOk c.make_facet.result (Becomes c.args.stores.now c.make_facet.new.stores (labels_view e))) (sym c.in-MakeFacet.is) c.make_facet.ensures.ok

pub returns-in-BindLabel-clause-ok : goal.returns-in-BindLabel-clause-ok
returns-in-BindLabel-clause-ok c = subst (λ (e : LabelsEffect). OnOk c.bind_label.result (Becomes c.args.stores.now c.bind_label.new.stores (labels_view e))) (sym c.in-BindLabel.is) c.bind_label.ensures.ok

pub returns-in-NoteCall-clause-ok : goal.returns-in-NoteCall-clause-ok
returns-in-NoteCall-clause-ok c = subst (λ (e : LabelsEffect). OnOk c.note_call.result (Becomes c.args.stores.now c.note_call.new.stores (labels_view e))) (sym c.in-NoteCall.is) c.note_call.ensures.ok
