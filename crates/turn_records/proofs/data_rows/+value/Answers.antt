use Rattle.std.proofs.Common.{◌≡◌, sym, ap, ◌∙◌, map}
use Rattle.std.proofs.lemmas.List.{take_all}
use Rattle.serde_json.specs.View.{view, items_of, members_view}
use Rattle.serde_json.specs.Data.{array, no_members, object}
use Rattle.serde_json.proofs.Views.{view-Array, view-Object}
use Rattle.refusals.specs.host_data.View.{fields_of, named, named_trees, tree}
use Rattle.refusals.proofs.host_data.Views.{tree-Record}
use Rattle.turn_records.specs.PrintedData.{printed, printed_fields}
use Rattle.turn_records.proofs.Trees.{printed_fields-more, printed_items-trees}
use Rattle.turn_records.proofs.data_rows.+value.Goals as goal

pub fields_value-loop-name-preserved : goal.fields_value-loop-name-preserved
fields_value-loop-name-preserved t c =
    c.in_ok-put.ensures.ok
    ∙ rw (c.as_str.ensures, c.in_ok-data_value.ensures, c.loop-name.invariant) (sym (printed_fields-more named _ _ c.loop-name-item.result _ c.loop-name-test.true c.loop-name-item.is))

pub fields_value-returns : goal.fields_value-returns
fields_value-returns t c =
    let all : members_view c.loop-name.values.entries ≡ printed_fields (fields_of (named_trees c.args.fields.now)) no_members = rw (take_all _ _ c.loop-name-test.false) at c.loop-name.invariant in
    view-Object _ ∙ ap object all

pub items_value-returns : goal.items_value-returns
items_value-returns t c =
    let all : map view c.loop-item.values.items ≡ map (λ d. printed (tree d)) c.args.items.now = rw (take_all _ _ c.loop-item-test.false) at c.loop-item.invariant in
    view-Array _ ∙ ap array (ap items_of all ∙ printed_items-trees _)

pub data_value-returns-in-Record : goal.data_value-returns-in-Record
data_value-returns-in-Record t c = rw (c.in-Record.is, tree-Record c.in-Record.fields, ← c.as_slice-in-Record.ensures.value) c.fields_value.ensures
