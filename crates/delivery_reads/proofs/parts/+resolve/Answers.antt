use Rattle.std.proofs.Common.{refl, sym, ◌∙◌, arith}
use Rattle.host_data.proofs.Views.{tree-Array, tree-Record}
use Rattle.delivery_reads.proofs.PartLists.{fields-done, fields-more, fields-refused, items-done, items-more, items-refused, part-Array, part-Record, resolved-array, resolved-array_refused, resolved-record, resolved-record_refused, stops-gives}
use Rattle.delivery_reads.proofs.PartSizes.{fields_paid, items_paid, left_behind, was_there}
use Rattle.delivery_reads.proofs.parts.+resolve.Goals as goal

pub resolve_parts-returns-in_err-resolve_part-clause-gives : goal.resolve_parts-returns-in_err-resolve_part-clause-gives
resolve_parts-returns-in_err-resolve_part-clause-gives t c =
    stops-gives _ _ _ _ _ c.from_residual.ensures.1 c.in_err-resolve_part.ensures.gives
    (λ r. items-refused _ _ _ c.loop-part.made.items c.args.parts.now c.loop-part.part-index c.part-item.result r c.loop-part-test.true c.part-item.is c.loop-part.invariant.found)

pub resolve_parts-loop-part-preserved : goal.resolve_parts-loop-part-preserved
resolve_parts-loop-part-preserved t c = record {
  found = items-more _ _ _ c.loop-part.made.items c.args.parts.now c.loop-part.part-index c.part-item.result _ _ c.loop-part-test.true c.part-item.is c.in_ok-resolve_part.ensures.gives c.in_ok-push.ensures.items
      c.loop-part.invariant.found;
  paid = items_paid _ _ _ c.loop-part.made.items _ _ c.in_ok-push.ensures.items c.in_ok-resolve_part.ensures.paid c.loop-part.invariant.paid;
}

pub resolve_parts-returns-clause-gives : goal.resolve_parts-returns-clause-gives
resolve_parts-returns-clause-gives t c = items-done _ _ _ c.loop-part.made.items c.args.parts.now c.loop-part.part-index c.loop-part-test.false c.loop-part.invariant.found

pub resolve_fields-returns-in_err-data-clause-gives : goal.resolve_fields-returns-in_err-data-clause-gives
resolve_fields-returns-in_err-data-clause-gives t c =
    stops-gives _ _ _ _ _ c.from_residual-in_err-data.ensures.1 c.in_err-data.ensures.gives
    (λ r. fields-refused _ _ _ c.loop-name.made.items c.args.fields.now c.loop-name.name-index c.loop-name-item.result r c.loop-name-test.true c.loop-name-item.is c.loop-name.invariant.found)

pub resolve_fields-loop-name-preserved : goal.resolve_fields-loop-name-preserved
resolve_fields-loop-name-preserved t c = record {
  found = fields-more _ _ _ c.loop-name.made.items c.args.fields.now c.loop-name.name-index c.loop-name-item.result _ _ _ c.loop-name-test.true c.loop-name-item.is refl c.in_ok-data.ensures.gives
      c.in_ok-push_field.ensures c.loop-name.invariant.found;
  paid = fields_paid _ _ _ c.loop-name.made.items _ _ _ c.in_ok-push_field.ensures
      (omega (arith, left_behind c.loop-name.left _ c.in_ok-left.field-0 (sym c.pay_bytes.ensures ∙ was_there _ _ _ c.in_ok-left.ensures.value), c.in_ok-data.ensures.paid)) c.loop-name.invariant.paid;
}

pub resolve_fields-returns-clause-gives : goal.resolve_fields-returns-clause-gives
resolve_fields-returns-clause-gives t c = fields-done _ _ _ c.loop-name.made.items c.args.fields.now c.loop-name.name-index c.loop-name-test.false c.loop-name.invariant.found

pub resolve_part-returns-in_err-resolve_parts-in-Array-clause-gives : goal.resolve_part-returns-in_err-resolve_parts-in-Array-clause-gives
resolve_part-returns-in_err-resolve_parts-in-Array-clause-gives t c =
    rw (c.in-Array.is, part-Array c.in-Array.parts, ← c.as_slice.ensures.value)
    (stops-gives _ _ _ _ _ c.from_residual-in_err-resolve_parts-in-Array.ensures.1 c.in_err-resolve_parts-in-Array.ensures.gives (resolved-array_refused _ _ _))

pub resolve_part-returns-in_err-resolve_fields-in-Record-clause-gives : goal.resolve_part-returns-in_err-resolve_fields-in-Record-clause-gives
resolve_part-returns-in_err-resolve_fields-in-Record-clause-gives t c =
    rw (c.in-Record.is, part-Record c.in-Record.fields, ← c.as_slice-in-Record.ensures.value)
    (stops-gives _ _ _ _ _ c.from_residual-in_err-resolve_fields-in-Record.ensures.1 c.in_err-resolve_fields-in-Record.ensures.gives (resolved-record_refused _ _ _))

pub resolve_part-returns-in_ok-resolve_parts-in-Array-clause-gives : goal.resolve_part-returns-in_ok-resolve_parts-in-Array-clause-gives
resolve_part-returns-in_ok-resolve_parts-in-Array-clause-gives t c =
    rw (c.in-Array.is, part-Array c.in-Array.parts, ← c.as_slice.ensures.value, tree-Array c.in_ok-resolve_parts-in-Array.field-0)
    (resolved-array _ _ _ _ c.in_ok-resolve_parts-in-Array.ensures.gives)

pub resolve_part-returns-in_ok-resolve_fields-in-Record-clause-gives : goal.resolve_part-returns-in_ok-resolve_fields-in-Record-clause-gives
resolve_part-returns-in_ok-resolve_fields-in-Record-clause-gives t c =
    rw (c.in-Record.is, part-Record c.in-Record.fields, ← c.as_slice-in-Record.ensures.value, tree-Record c.in_ok-resolve_fields-in-Record.field-0)
    (resolved-record _ _ _ _ c.in_ok-resolve_fields-in-Record.ensures.gives)
