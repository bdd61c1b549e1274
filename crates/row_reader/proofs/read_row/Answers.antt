use Rattle.std.proofs.Common.{◌≡◌, ◌∷◌, ◌++◌, [], sym, ◌∙◌}
use Rattle.serde_json.specs.View.{view}
use Rattle.row_records.specs.Views.{row_view}
use Rattle.row_reader.proofs.Lineread.{bad_of, fault_is, no_feed_bad, no_json_bad, no_row_bad, not_written_bad, row_found}
use Rattle.row_reader.proofs.read_row.Goals as goal

pub returns-in_err-text-clause-bad : goal.returns-in_err-text-clause-bad
returns-in_err-text-clause-bad c = λ is told form same.
    no_feed_bad c.args.edition told c.args.line.now form same (bad_of c.in_err-text.field-0.0 c.in_err-text.ensures (fault_is c.from_residual.result c.in_err-text.field-0.0 c.from_residual.ensures.1 is))

pub returns-in_err-value-clause-bad : goal.returns-in_err-value-clause-bad
returns-in_err-value-clause-bad c = λ is told form same.
    no_json_bad c.args.edition told c.args.line.now form same c.in_ok-text.text.now c.in_ok-text.ensures.0
    (bad_of c.in_err-value.field-0.0 c.in_err-value.ensures (fault_is c.from_residual-in_err-value.result c.in_err-value.field-0.0 c.from_residual-in_err-value.ensures.1 is))

pub returns-in_err-row-clause-bad : goal.returns-in_err-row-clause-bad
returns-in_err-row-clause-bad c = λ is told form same.
    no_row_bad c.args.edition told c.args.line.now form same c.in_ok-text.text.now c.in_ok-text.ensures.0 (view c.in_ok-value.value) c.in_ok-value.ensures.0
    (bad_of c.in_err-row.field-0.0 c.in_err-row.ensures (fault_is c.from_residual-in_err-row.result c.in_err-row.field-0.0 c.from_residual-in_err-row.ensures.1 is))

pub returns-then-same-clause-row : goal.returns-then-same-clause-row
returns-then-same-clause-row c =
    row_found c.args.edition (row_view c.in_ok-row.row) c.args.line.now c.in_ok-text.text.now (view c.in_ok-value.value) c.in_ok-same.same c.in_ok-text.ensures.0 c.in_ok-value.ensures.1 c.in_ok-row.ensures.0
    c.in_ok-row.ensures.1 c.in_ok-same.ensures c.if-same.true

pub returns-clause-bad : goal.returns-clause-bad
returns-clause-bad c = λ is told form same.
    not_written_bad c.args.edition told c.args.line.now form same c.in_ok-text.text.now c.in_ok-text.ensures.0 (view c.in_ok-value.value) c.in_ok-same.same c.in_ok-value.ensures.0 c.in_ok-same.ensures c.if-same.false
