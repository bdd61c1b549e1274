use Rattle.std.proofs.Common.{◌+◌, subst, arith}
use Rattle.std.proofs.lemmas.List.{take_all}
use Rattle.std.proofs.lemmas.List.Elements.{All-more}
use Rattle.turn_records.proofs.host_data.Views.{tree-Array, tree-Record}
use Rattle.turn_records.specs.host_data.View.{named, tree}
use Rattle.turn_writer.proofs.Nodes.{fields_typed, items_typed}
use Rattle.turn_writer.proofs.Told.{each_view}
use Rattle.turn_writer.specs.Typed.{HasDataTypes, HasFieldTypes}
use Rattle.turn_writer.proofs.turn_form.data.+nodes.Goals as goal

pub data_has_types-returns-in-Array : goal.data_has_types-returns-in-Array
data_has_types-returns-in-Array t c =
    rw (c.in-Array.is, tree-Array c.in-Array.items, ← c.as_slice.ensures.value) (λ n. (tt, items_typed _ c.items_have_types.ensures (n + 1)))

pub data_has_types-returns-in-Record : goal.data_has_types-returns-in-Record
data_has_types-returns-in-Record t c =
    rw (c.in-Record.is, tree-Record c.in-Record.fields, ← c.as_slice-in-Record.ensures.value) (λ n. (tt, fields_typed _ c.fields_have_types.ensures (n + 1)))

pub fields_have_types-loop-value-preserved : goal.fields_have_types-loop-value-preserved
fields_have_types-loop-value-preserved t c =
    All-more (λ f. HasFieldTypes (named f)) c.args.fields.now c.loop-value.value-index c.loop-value-item.result (omega arith) c.loop-value.invariant
    (subst (λ f. HasFieldTypes (named f)) c.loop-value-item.is c.data_has_types.ensures)

pub fields_have_types-returns : goal.fields_have_types-returns
fields_have_types-returns t c =
    each_view HasFieldTypes named c.args.fields.now (rw (take_all c.loop-value.value-index c.args.fields.now (omega arith)) at c.loop-value.invariant)

pub items_have_types-loop-item-preserved : goal.items_have_types-loop-item-preserved
items_have_types-loop-item-preserved t c =
    All-more (λ d. HasDataTypes (tree d)) c.args.items.now c.loop-item.item-index c.item-item.result (omega arith) c.loop-item.invariant
    (subst (λ d. HasDataTypes (tree d)) c.item-item.is c.data_has_types.ensures)

pub items_have_types-returns : goal.items_have_types-returns
items_have_types-returns t c =
    each_view HasDataTypes tree c.args.items.now (rw (take_all c.loop-item.item-index c.args.items.now (omega arith)) at c.loop-item.invariant)
